-- What is written before a failure.
use Rattle.std.proofs.Common.{◌≡◌, ℕ, suc, ◌+◌, ◌≤◌, List, [], ◌∷◌, ◌++◌, length, take, Option, sym, ap, ◌∙◌, arith, length-append, option_map}
use Rattle.std.proofs.lemmas.List.{take-append-le}
use Rattle.asm_base.specs.Output.{Made, after_write}
use Rattle.elf_file.proofs.WritingLemmas.{written-append}

front_of : (front piece rest : List ℕ) (n : ℕ) → n ≤ length piece → front ++ take n piece ≡ take (length front + n) (front ++ (piece ++ rest))
front_of [] piece rest n low =
    let same : n ≡ 0 + n = omega arith in
    sym (take-append-le n piece rest low) ∙ ap (λ m. take m (piece ++ rest)) same
front_of (x ∷ front) piece rest n low =
    let same : suc (length front + n) ≡ suc (length front) + n = omega arith in
    ap (λ (xs : List ℕ). x ∷ xs) (front_of front piece rest n low) ∙ ap (λ m. take m (x ∷ (front ++ (piece ++ rest)))) same

-- a front of a piece is written behind what stands before it
pub front_written : (whole front piece rest : List ℕ) (n : ℕ) (before now after : Option Made) → whole ≡ front ++ (piece ++ rest) → n ≤ length piece
    → now ≡ option_map (after_write front) before → after ≡ option_map (after_write (take n piece)) now
    → (m : ℕ) × (m ≤ length whole) × (after ≡ option_map (after_write (take m whole)) before)
front_written whole front piece rest n before now after is low so_far more =
    let long : length whole ≡ length front + (length piece + length rest) =
    ap length is ∙ length-append front (piece ++ rest) ∙ ap (λ n. length front + n) (length-append piece rest) in
    let written : after ≡ option_map (after_write (front ++ take n piece)) before =
    more ∙ ap (option_map (after_write (take n piece))) so_far ∙ sym (written-append front (take n piece) before) in (
      length front + n,
      omega arith,
      written ∙ ap (λ (xs : List ℕ). option_map (after_write xs) before) (front_of front piece rest n low ∙ ap (take (length front + n)) (sym is)),
    )
