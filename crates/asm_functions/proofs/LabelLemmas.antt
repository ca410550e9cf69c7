-- Functions that begin at labels, one label after the other.
use Rattle.std.proofs.Common.{◌≡◌, ℕ, ◌+◌, ◌<◌, ◌≤◌, List, [], ◌∷◌, length, get_or, drop, map, refl, sym, ap, ◌∙◌, arith}
use Rattle.std.proofs.lemmas.List.{at_drop_more, length-drop, length-map}
use Rattle.asm_base.specs.declared.positions.Pos.{Pos}
use Rattle.asm_base.specs.declared.tokens.Token.{Token}
use Rattle.asm_base.specs.Tokens.{SpelledToken, spelled}
use Rattle.asm_values.specs.State.{Placed}
use Rattle.code_functions.specs.Recorded.{Recorded}
use Rattle.code_functions.specs.Seen.{SeenItem}
use Rattle.asm_functions.specs.Following.{function_label, begun_by, labels_begun}

one_more_left : (tokens : List Token) (at : ℕ) (d : Token) → at < length tokens
    → map spelled (drop at tokens) ≡ spelled (get_or tokens at d) ∷ map spelled (drop (at + 1) tokens)
one_more_left tokens at d inside = at_drop_more (map spelled) tokens at d inside

-- the two tokens, and what is left behind them
two_left : (tokens : List Token) (at : ℕ) (d : Token) → at + 2 ≤ length tokens
    → map spelled (drop at tokens) ≡ spelled (get_or tokens at d) ∷ spelled (get_or tokens (at + 1) d) ∷ map spelled (drop (at + 2) tokens)
two_left tokens at d inside =
    let later : (at + 1) + 1 ≡ at + 2 = omega arith in
    one_more_left tokens at d (omega arith)
    ∙ ap (λ rest. spelled (get_or tokens at d) ∷ rest) (one_more_left tokens (at + 1) d (omega arith) ∙ ap (λ n. spelled (get_or tokens (at + 1) d) ∷ map spelled (drop n tokens)) later)

-- a label more
pub label_begun : (pos : Pos) (tokens : List Token) (at : ℕ) (d : Token) (before : Placed) (functions : List (Recorded SeenItem)) → at + 2 ≤ length tokens
    → labels_begun pos (map spelled (drop (at + 2) tokens)) before
    (begun_by (function_label before.table.symbols (spelled (get_or tokens at d))) pos before functions)
    ≡ labels_begun pos (map spelled (drop at tokens)) before functions
unfolding labels_begun
label_begun pos tokens at d before functions inside = sym (ap (λ ts. labels_begun pos ts before functions) (two_left tokens at d inside))

none_begun : (pos : Pos) (tokens : List SpelledToken) (before : Placed) (functions : List (Recorded SeenItem)) → length tokens < 2
    → labels_begun pos tokens before functions ≡ functions
unfolding labels_begun
none_begun pos [] before functions few = refl
none_begun pos (one ∷ []) before functions few = refl
none_begun pos (one ∷ other ∷ rest) before functions few = absurd (omega (arith, few))

-- no label is left
pub labels_end : (pos : Pos) (tokens : List Token) (at : ℕ) (before : Placed) (functions : List (Recorded SeenItem)) → length tokens < at + 2
    → labels_begun pos (map spelled (drop at tokens)) before functions ≡ functions
labels_end pos tokens at before functions few =
    none_begun pos (map spelled (drop at tokens)) before functions (omega (arith, few, length-map (drop at tokens) spelled, length-drop at tokens))
