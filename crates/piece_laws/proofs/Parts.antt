-- Pieces of bytes that stand one behind the other, and bytes of fields.
use Rattle.std.proofs.Common.{◌≡◌, ℕ, ◌+◌, ◌^◌, ◌%◌, ◌/◌, List, [], ◌++◌, length, drop, refl, sym, ap, ◌∙◌, arith, append_assoc, length-append}
use Rattle.std.proofs.lemmas.List.{drop_at}
use Rattle.asm_frags.specs.declared.fields.FieldSize.{FieldSize}
use Rattle.asm_frags.specs.declared.fields.FieldSize.TheVariants.{One, Two, Four, Eight}
use Rattle.asm_frags.specs.Fields.{width, low_bytes}
use Rattle.elf_file.specs.Places.{PieceAt}

-- what stands behind a piece stands with it
pub stands_both : (bytes first second : List ℕ) (at : ℕ) → PieceAt bytes at first → PieceAt bytes (at + length first) second → PieceAt bytes at (first ++ second)
stands_both bytes first second at one two =
    let front : length (one.front ++ first) ≡ at + length first = length-append one.front first ∙ ap (λ n. n + length first) one.long in
    let split : bytes ≡ (one.front ++ first) ++ one.rest = one.whole ∙ sym (append_assoc one.front first one.rest) in
    let rest : one.rest ≡ second ++ two.rest =
    sym (drop_at (one.front ++ first) one.rest (at + length first) front) ∙ ap (drop (at + length first)) (sym split ∙ two.whole)
    ∙ drop_at two.front (second ++ two.rest) (at + length first) two.long in
    record {
      front = one.front;
      rest = two.rest;
      long = one.long;
      whole = one.whole ∙ ap (λ (xs : List ℕ). one.front ++ (first ++ xs)) rest
          ∙ ap (λ (xs : List ℕ). one.front ++ xs) (sym (append_assoc first second two.rest));
    }

-- behind a piece stands something
pub stands_behind : (bytes piece : List ℕ) (at : ℕ) → PieceAt bytes at piece → PieceAt bytes (at + length piece) []
stands_behind bytes piece at there = record {
  front = there.front ++ piece;
  rest = there.rest;
  long = length-append there.front piece ∙ ap (λ n. n + length piece) there.long;
  whole = there.whole ∙ sym (append_assoc there.front piece there.rest);
}

-- a piece stands where nothing does
pub stands_first : (bytes piece : List ℕ) (at : ℕ) → PieceAt bytes at piece → PieceAt bytes at []
stands_first bytes piece at there = record { front = there.front; rest = piece ++ there.rest; long = there.long; whole = there.whole }

-- as many bytes as the size says
pub bytes_long : (size : FieldSize) (value : ℕ) → length (low_bytes size value) ≡ width size
unfolding low_bytes
bytes_long One value = refl
bytes_long Two value = refl
bytes_long Four value = refl
bytes_long Eight value = refl

-- four bytes hold a number modulo 2^32
pub four_bytes : (value : ℕ) → low_bytes Four (value % 2 ^ 32) ≡ low_bytes Four value
unfolding low_bytes
four_bytes value =
    let a : value % 2 ^ 32 % 256 ≡ value % 256 = omega arith in
    let b : value % 2 ^ 32 / 256 % 256 ≡ value / 256 % 256 = omega arith in
    let c : value % 2 ^ 32 / 65536 % 256 ≡ value / 65536 % 256 = omega arith in
    let d : value % 2 ^ 32 / 16777216 % 256 ≡ value / 16777216 % 256 = omega arith in
    cc (a, b, c, d)
