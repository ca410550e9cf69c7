-- A number's bytes from the last one back.
use Rattle.std.proofs.Common.{◌≡◌, ℕ, zero, suc, ◌+◌, ◌-◌, ◌*◌, ◌^◌, ◌<◌, ◌≤◌, length, List, [], ◌∷◌, drop, slice_index, None, Some, if◌then◌else◌, refl, ◌∙◌, ap, arith}
use Rattle.std.specs.Option.{option_and_then}
use Rattle.leb128.specs.Reading.{uleb, uleb_above}
use Rattle.leb128.proofs.ReadingLemmas.{is_below, is_from, uleb_one}

uleb_on : (byte : ℕ) (rest : List ℕ) → 128 ≤ byte → uleb (byte ∷ rest) ≡ option_and_then (uleb_above byte) (uleb rest)
uleb_on byte rest long = ap (λ b. if b then Some (byte, rest) else option_and_then (uleb_above byte) (uleb rest)) (is_from byte 128 long)

pub at_suc : (i : ℕ) (bytes : List ℕ) → i < length bytes → drop i bytes ≡ slice_index bytes i ∷ drop (suc i) bytes
at_suc i [] fits = absurd (let none : ⊥ = omega arith in none)
at_suc zero (byte ∷ bytes) fits = refl
at_suc (suc i) (byte ∷ bytes) fits = at_suc i bytes (omega arith)

unread : (i : ℕ) (bytes : List ℕ) → ((j : ℕ) → j < i → 128 ≤ slice_index bytes j) → i ≤ length bytes → uleb (drop i bytes) ≡ None → uleb bytes ≡ None
unread zero bytes long fits reads = reads
unread (suc i) [] long fits reads = refl
unread (suc i) (byte ∷ bytes) long fits reads =
    uleb_on byte bytes (long 0 (omega arith))
    ∙ ap (option_and_then (uleb_above byte)) (unread i bytes (λ j below. long (suc j) (omega arith)) (omega arith) reads)

pub ends : (i : ℕ) (bytes : List ℕ) → i < length bytes → slice_index bytes i < 128 → uleb (drop i bytes) ≡ Some (slice_index bytes i, drop (i + 1) bytes)
ends i bytes fits short =
    ap uleb (at_suc i bytes fits)
    ∙ uleb_one (slice_index bytes i) (drop (suc i) bytes) short
    ∙ ap (λ k. Some (slice_index bytes i, drop k bytes)) (let same : suc i ≡ i + 1 = omega arith in same)

back : (i value : ℕ) (bytes tail : List ℕ) → i < length bytes → 128 ≤ slice_index bytes i → uleb (drop (i + 1) bytes) ≡ Some (value, tail)
    → uleb (drop i bytes) ≡ uleb_above (slice_index bytes i) (value, tail)
back i value bytes tail fits long reads =
    ap uleb (at_suc i bytes fits)
    ∙ uleb_on (slice_index bytes i) (drop (suc i) bytes) long
    ∙ ap (λ k. option_and_then (uleb_above (slice_index bytes i)) (uleb (drop k bytes))) (let same : suc i ≡ i + 1 = omega arith in same)
    ∙ ap (option_and_then (uleb_above (slice_index bytes i))) reads

pub goes_on : (end done value : ℕ) (bytes tail : List ℕ) → done < end → end < length bytes → ((j : ℕ) → j < end → 128 ≤ slice_index bytes j)
    → value < 2 ^ 57 → uleb (drop (end - done) bytes) ≡ Some (value, tail)
    → uleb (drop (end - (done + 1)) bytes) ≡ Some (slice_index bytes (end - 1 - done) - 128 + 128 * value, tail)
goes_on end done value bytes tail less fits long small reads =
    ap (λ k. uleb (drop k bytes)) (let same : end - (done + 1) ≡ end - 1 - done = omega arith in same)
    ∙ back (end - 1 - done) value bytes tail (omega arith) (long (end - 1 - done) (omega arith))
    (ap (λ k. uleb (drop k bytes)) (let same : end - 1 - done + 1 ≡ end - done = omega arith in same) ∙ reads)
    ∙ ap (λ b. if b then Some (slice_index bytes (end - 1 - done) - 128 + 128 * value, tail) else None) (is_below value (2 ^ 57) small)

pub gives_up : (end done value : ℕ) (bytes tail : List ℕ) → done < end → end < length bytes → ((j : ℕ) → j < end → 128 ≤ slice_index bytes j)
    → 2 ^ 57 ≤ value → uleb (drop (end - done) bytes) ≡ Some (value, tail) → uleb bytes ≡ None
gives_up end done value bytes tail less fits long large reads =
    unread (end - 1 - done) bytes (λ j below. long j (omega arith)) (omega arith)
    (back (end - 1 - done) value bytes tail (omega arith) (long (end - 1 - done) (omega arith))
    (ap (λ k. uleb (drop k bytes)) (let same : end - 1 - done + 1 ≡ end - done = omega arith in same) ∙ reads)
    ∙ ap (λ b. if b then Some (slice_index bytes (end - 1 - done) - 128 + 128 * value, tail) else None) (is_from value (2 ^ 57) large))

none_left : (bytes : List ℕ) → uleb (drop (length bytes) bytes) ≡ None
none_left [] = refl
none_left (byte ∷ bytes) = none_left bytes

pub never_ends : (end : ℕ) (bytes : List ℕ) → end ≡ length bytes → ((j : ℕ) → j < end → 128 ≤ slice_index bytes j) → uleb bytes ≡ None
never_ends end bytes all long = unread end bytes long (omega arith) (ap (λ k. uleb (drop k bytes)) all ∙ none_left bytes)
