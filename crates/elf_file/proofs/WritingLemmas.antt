-- What writing a file piece by piece makes of it.
use Rattle.std.proofs.Common.{◌≡◌, ℕ, ◌+◌, Bool, true, false, List, [], ◌++◌, Option, None, Some, take, drop, option_map, refl, sym, ap, append-nil, append_assoc}
use Rattle.std.proofs.Math.Seq.{take-add}
use Rattle.asm_base.specs.Output.{Made, nothing, file, after_write}

-- a file by its parts
abbrev file_of : List ℕ → List ℕ → Bool → Made
file_of name bytes finished = file (record { name = name; bytes = bytes; finished = finished })

file-nil : (name bytes : List ℕ) (finished : Bool) → after_write [] (file_of name bytes finished) ≡ file_of name bytes finished
file-nil name bytes true = refl
file-nil name bytes false = ap (λ b. file_of name b false) (append-nil bytes)

file-append : (a b name bytes : List ℕ) (finished : Bool) →
    after_write (a ++ b) (file_of name bytes finished) ≡ after_write b (after_write a (file_of name bytes finished))
file-append a b name bytes true = refl
file-append a b name bytes false = ap (λ c. file_of name c false) (sym (append_assoc bytes a b))

-- where nothing is written, all stays
pub after_write-nil : (made : Made) → after_write [] made ≡ made
after_write-nil nothing = refl
after_write-nil (file f) = file-nil f.name f.bytes f.finished

-- two pieces, one after the other, are written as one
pub after_write-append : (a b : List ℕ) (made : Made) → after_write (a ++ b) made ≡ after_write b (after_write a made)
after_write-append a b nothing = refl
after_write-append a b (file f) = file-append a b f.name f.bytes f.finished

-- the same, told or not
pub written-append : (a b : List ℕ) (made : Option Made) →
    option_map (after_write (a ++ b)) made ≡ option_map (after_write b) (option_map (after_write a) made)
written-append a b None = refl
written-append a b (Some made) = ap Some (after_write-append a b made)

-- nothing is written, told or not
pub written_none : (made : Option Made) → option_map (after_write []) made ≡ made
written_none None = refl
written_none (Some made) = ap Some (after_write-nil made)

-- a front of what is left is written after what stands before it
pub written_on : (bytes piece : List ℕ) (at n : ℕ) (before now after : Option Made) →
    now ≡ option_map (after_write (take at bytes)) before →
    after ≡ option_map (after_write piece) now →
    piece ≡ take n (drop at bytes) →
    after ≡ option_map (after_write (take (at + n) bytes)) before
written_on bytes piece at n before now after so_far more same =
    rw (take-add at n bytes, written-append (take at bytes) (take n (drop at bytes)) before, ← so_far, ← same) more
