-- Pieces of bytes that stand one behind the other, and bytes of fields.
use Rattle.std.proofs.Common.{◌≡◌, ℕ, ◌+◌, ◌^◌, ◌%◌, ◌/◌, List, [], ◌++◌, length, drop, refl, sym, ap, ◌∙◌, arith, append_assoc, length-append}
use Rattle.std.proofs.lemmas.List.{drop_at}
use Rattle.asm_frags.specs.declared.fields.FieldSize.TheVariants.{Four, Eight}
use Rattle.asm_frags.specs.Fields.{low_bytes}
use Rattle.elf_file.specs.Places.{PieceAt}
use Rattle.line_rows.specs.Writing.{word_then}

-- what stands behind a piece stands with it
pub stands_both : (bytes first second : List ℕ) (at : ℕ) → PieceAt bytes at first → PieceAt bytes (at + length first) second → PieceAt bytes at (first ++ second)
stands_both bytes first second at one two =
    let front : length (one.front ++ first) ≡ at + length first = length-append one.front first ∙ ap (λ n. n + length first) one.long in
    let split : bytes ≡ (one.front ++ first) ++ one.rest = one.whole ∙ sym (append_assoc one.front first one.rest) in
    let rest : one.rest ≡ second ++ two.rest =
    sym (drop_at (one.front ++ first) one.rest (at + length first) front) ∙ ap (drop (at + length first)) (sym split ∙ two.whole)
    ∙ drop_at two.front (second ++ two.rest) (at + length first) two.long in
    record {
      front = one.front;
      rest = two.rest;
      long = one.long;
      whole = one.whole ∙ ap (λ (xs : List ℕ). one.front ++ (first ++ xs)) rest
          ∙ ap (λ (xs : List ℕ). one.front ++ xs) (sym (append_assoc first second two.rest));
    }

-- behind a piece stands something
pub stands_behind : (bytes piece : List ℕ) (at : ℕ) → PieceAt bytes at piece → PieceAt bytes (at + length piece) []
stands_behind bytes piece at there = record {
  front = there.front ++ piece;
  rest = there.rest;
  long = length-append there.front piece ∙ ap (λ n. n + length piece) there.long;
  whole = there.whole ∙ sym (append_assoc there.front piece there.rest);
}

-- four bytes of a value before others are those of the number that they hold
pub four_word : (value number : ℕ) (rest : List ℕ) → value % 2 ^ 32 ≡ number → low_bytes Four value ++ rest ≡ word_then number rest
unfolding low_bytes
four_word value number rest is =
    let a : value % 256 ≡ number % 256 = omega (arith, is) in
    let b : value / 256 % 256 ≡ number / 256 % 256 = omega (arith, is) in
    let c : value / 65536 % 256 ≡ number / 65536 % 256 = omega (arith, is) in
    let d : value / 16777216 % 256 ≡ number / 16777216 = omega (arith, is) in
    cc (a, b, c, d)

-- eight bytes of 0 before others
pub zero_words : (value : ℕ) (rest : List ℕ) → value ≡ 0 → low_bytes Eight value ++ rest ≡ word_then (0 % 2 ^ 32) (word_then (0 / 2 ^ 32) rest)
unfolding low_bytes
zero_words value rest is = ap (λ (n : ℕ). low_bytes Eight n ++ rest) is ∙ refl
