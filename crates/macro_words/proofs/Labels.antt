-- The labels of a statement, one after the other.
use Rattle.std.proofs.Common.{◌≡◌, ℕ, ◌+◌, ◌-◌, ◌≤◌, true, false, List, [], ◌∷◌, ◌++◌, length, take, drop, map, refl, sym, ap, ◌∙◌, append_assoc, take-add, arith}
use Rattle.std.proofs.lemmas.Bool.{false≢true}
use Rattle.std.proofs.lemmas.List.{append-nil, drop-drop, drop-map, take_rest, length-drop}
use Rattle.asm_base.specs.Tokens.{SpelledToken, spelled}
use Rattle.asm_base.specs.declared.tokens.Token.{Token}
use Rattle.asm_operands.specs.Operands.{begins_with_label}
use Rattle.macro_words.specs.Statements.{labels_of, behind_labels}

labels_step : (tokens : List SpelledToken) → begins_with_label tokens ≡ true → labels_of tokens ≡ take 2 tokens ++ labels_of (drop 2 tokens)
labels_step [] is = absurd (false≢true is)
labels_step (first ∷ []) is = absurd (false≢true is)
labels_step (first ∷ second ∷ rest) is = rw is refl

behind_step : (tokens : List SpelledToken) → begins_with_label tokens ≡ true → behind_labels tokens ≡ behind_labels (drop 2 tokens)
behind_step [] is = absurd (false≢true is)
behind_step (first ∷ []) is = absurd (false≢true is)
behind_step (first ∷ second ∷ rest) is = rw is refl

labels_end : (tokens : List SpelledToken) → begins_with_label tokens ≡ false → labels_of tokens ≡ []
labels_end [] is = refl
labels_end (first ∷ []) is = refl
labels_end (first ∷ second ∷ rest) is = rw is refl

behind_end : (tokens : List SpelledToken) → begins_with_label tokens ≡ false → behind_labels tokens ≡ tokens
behind_end [] is = refl
behind_end (first ∷ []) is = refl
behind_end (first ∷ second ∷ rest) is = rw is refl

-- one label more
pub labels_more : (tokens : List SpelledToken) (at : ℕ) (all : List SpelledToken) → begins_with_label (drop at tokens) ≡ true
    → take at tokens ++ labels_of (drop at tokens) ≡ all → take (at + 2) tokens ++ labels_of (drop (at + 2) tokens) ≡ all
labels_more tokens at all is before =
    ap (λ xs. xs ++ labels_of (drop (at + 2) tokens)) (take-add at 2 tokens)
    ∙ append_assoc (take at tokens) (take 2 (drop at tokens)) (labels_of (drop (at + 2) tokens))
    ∙ ap (λ xs. take at tokens ++ (take 2 (drop at tokens) ++ labels_of xs)) (sym (drop-drop 2 at tokens))
    ∙ ap (λ xs. take at tokens ++ xs) (sym (labels_step (drop at tokens) is))
    ∙ before

pub behind_more : (tokens : List SpelledToken) (at : ℕ) (all : List SpelledToken) → begins_with_label (drop at tokens) ≡ true
    → behind_labels (drop at tokens) ≡ all → behind_labels (drop (at + 2) tokens) ≡ all
behind_more tokens at all is before =
    ap behind_labels (sym (drop-drop 2 at tokens)) ∙ sym (behind_step (drop at tokens) is) ∙ before

-- no label more
pub labels_all : (tokens : List SpelledToken) (at : ℕ) (all : List SpelledToken) → begins_with_label (drop at tokens) ≡ false
    → take at tokens ++ labels_of (drop at tokens) ≡ all → take at tokens ≡ all
labels_all tokens at all is before =
    sym (append-nil (take at tokens)) ∙ ap (λ xs. take at tokens ++ xs) (sym (labels_end (drop at tokens) is)) ∙ before

pub behind_all : (tokens : List SpelledToken) (at : ℕ) (all : List SpelledToken) → begins_with_label (drop at tokens) ≡ false
    → behind_labels (drop at tokens) ≡ all → drop at tokens ≡ all
behind_all tokens at all is before = sym (behind_end (drop at tokens) is) ∙ before

-- what is left, as the program hands it on
pub left_seen : (tokens : List Token) (at : ℕ) → map spelled (take (length tokens - at) (drop at tokens)) ≡ drop at (map spelled tokens)
left_seen tokens at = ap (map spelled) (take_rest tokens at) ∙ sym (drop-map spelled at tokens)

pub two_within : (tokens : List Token) (at : ℕ) → at ≤ length tokens → 2 ≤ length (take (length tokens - at) (drop at tokens)) → at + 2 ≤ length tokens
two_within tokens at inside fits = omega (arith, ap length (take_rest tokens at), length-drop at tokens)
