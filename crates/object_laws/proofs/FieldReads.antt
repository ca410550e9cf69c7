-- A number that fits its field is read back, and a piece is read where it stands.
use Rattle.std.proofs.Common.{◌≡◌, ℕ, ◌+◌, ◌^◌, ◌<◌, ◌≤◌, Bool, true, cond, List, ◌++◌, Some, None, length, take, drop, nat_le, ap, ◌∙◌, arith, length-append, mod-eq_of_lt}
use Rattle.std.proofs.lemmas.Bool.{le-leb, lt-leb}
use Rattle.std.proofs.lemmas.List.{drop_at, take_at}
use Rattle.byteorder.specs.Endian.{little_bytes, little_number}
use Rattle.byteorder.specs.Numbers.{little_number-reads_back}
use Rattle.elf_file.specs.Fields.{half, word, xword}
use Rattle.elf_file.specs.Places.{PieceAt}
use Rattle.elf_file.specs.Reader.{piece_at}

pub half_read : (n : ℕ) (rest : List ℕ) → n < 2 ^ 16 → little_number 2 (half n ++ rest) ≡ n
unfolding half
half_read n rest low = ap (λ m. little_number 2 (little_bytes 2 m ++ rest)) (mod-eq_of_lt low) ∙ little_number-reads_back 2 n rest low

pub word_read : (n : ℕ) (rest : List ℕ) → n < 2 ^ 32 → little_number 4 (word n ++ rest) ≡ n
unfolding word
word_read n rest low = ap (λ m. little_number 4 (little_bytes 4 m ++ rest)) (mod-eq_of_lt low) ∙ little_number-reads_back 4 n rest low

pub xword_read : (n : ℕ) (rest : List ℕ) → n < 2 ^ 64 → little_number 8 (xword n ++ rest) ≡ n
unfolding xword
xword_read n rest low = little_number-reads_back 8 n rest low

-- a piece ends within the bytes that it stands in
pub ends_within : (bytes : List ℕ) (at : ℕ) (piece : List ℕ) → PieceAt bytes at piece → at + length piece ≤ length bytes
ends_within bytes at piece there =
    let front = there.front in
    let rest = there.rest in
    let long : length front ≡ at = there.long in
    let whole : length bytes ≡ length front + (length piece + length rest) =
    ap length there.whole ∙ length-append front (piece ++ rest) ∙ ap (λ n. length front + n) (length-append piece rest) in
    omega arith

-- from the place on, the bytes begin with the piece
pub drop_there : (bytes : List ℕ) (at : ℕ) (piece : List ℕ) (there : PieceAt bytes at piece) → drop at bytes ≡ piece ++ there.rest
drop_there bytes at piece there = ap (drop at) there.whole ∙ drop_at there.front (piece ++ there.rest) at there.long

-- a piece of this size is read where it stands
pub piece_read : (bytes : List ℕ) (at size : ℕ) (piece : List ℕ) → PieceAt bytes at piece → length piece ≡ size → piece_at bytes at size ≡ Some piece
piece_read bytes at size piece there long =
    let within : at + length piece ≤ length bytes = ends_within bytes at piece there in
    let test : nat_le (at + size) (length bytes) ≡ true = le-leb (at + size) (length bytes) (omega arith) in
    ap (λ (b : Bool). cond b (Some (take size (drop at bytes))) None) test
    ∙ ap (λ (xs : List ℕ). Some (take size xs)) (drop_there bytes at piece there) ∙ ap Some (take_at piece there.rest size long)

-- nothing is read where not so many bytes are left
pub piece_past : (bytes : List ℕ) (at size : ℕ) → length bytes < at + size → piece_at bytes at size ≡ None
piece_past bytes at size past = ap (λ (b : Bool). cond b (Some (take size (drop at bytes))) None) (lt-leb (at + size) (length bytes) past)
