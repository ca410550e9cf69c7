-- The turn of a list by its head.
use Rattle.std.proofs.Common.{◌≡◌, ◌≢◌, ℕ, ◌<◌, ◌≤◌, nat_le, Bool, true, false, cond, List, [], ◌∷◌, Option, None, Some, refl, ◌∙◌, arith}
use Rattle.std.proofs.lemmas.Bool.Decides.{nat_tests}
use Rattle.asm_base.specs.Tokens.{SpelledToken}
use Rattle.asm_base.specs.Inputs.{Contents}
use Rattle.asm_lines.specs.NextStatements.{TokenStatement}
use Rattle.asm_operands.specs.Operands.{is_label}
use Rattle.macro_blocks.specs.Levels.{Level}
use Rattle.macro_words.specs.declared.causes.MacroCause.TheVariants.{ExpansionTooLong}
use Rattle.macro_words.specs.Conditions.{Knowledge}
use Rattle.macro_words.specs.Statements.{pos_of, with_tokens, word_in, labels_of, behind_labels}
use Rattle.asm_macro.specs.declared.heads.Head.{Head}
use Rattle.asm_macro.specs.declared.heads.Head.TheVariants as the
use Rattle.asm_macro.specs.Expansion.{State, Turn, hands, fails, under, head, most_given, behind_own_labels, turn}
use Rattle.asm_macro.specs.Heads.{IsHead, turned_head}
use Rattle.asm_macro.specs.Running.{headed, counted}

below_most : (n : ℕ) → n < most_given → nat_le most_given n ≡ false
below_most n less = grind (arith, nat_tests)

from_most : (n : ℕ) → most_given ≤ n → nat_le most_given n ≡ true
from_most n more = grind (arith, nat_tests)

-- what stands behind labels has none
pub no_more_labels : (tokens : List SpelledToken) → labels_of (behind_labels tokens) ≡ []
no_more_labels [] = refl
no_more_labels (first ∷ []) = refl
no_more_labels (first ∷ second ∷ rest) = by_label (is_label first second) refl (no_more_labels rest)
  where
    by_label : (test : Bool) → is_label first second ≡ test → labels_of (behind_labels rest) ≡ [] → labels_of (cond test (behind_labels rest) (first ∷ second ∷ rest)) ≡ []
    by_label true is more = more
    by_label false is more = rw is refl

pub same_behind : (tokens : List SpelledToken) → behind_labels (behind_labels tokens) ≡ behind_labels tokens
same_behind [] = refl
same_behind (first ∷ []) = refl
same_behind (first ∷ second ∷ rest) = by_label (is_label first second) refl (same_behind rest)
  where
    by_label : (test : Bool) → is_label first second ≡ test → behind_labels (behind_labels rest) ≡ behind_labels rest
        → behind_labels (cond test (behind_labels rest) (first ∷ second ∷ rest)) ≡ cond test (behind_labels rest) (first ∷ second ∷ rest)
    by_label true is more = more
    by_label false is more = rw is refl

-- where the limit is not met, the head is counted and looked at
head_turn : (known : Knowledge) (contents : Option Contents) (s : TokenStatement) (level : Level) (state : State)
    → turn known contents (headed s level state) ≡ cond (nat_le most_given state.given) (fails ExpansionTooLong (pos_of s)) (head known contents s level (counted state))
unfolding turn
head_turn known contents s level state = refl

-- a statement without a word or a call is handed out
pub plain_turn : (known : Knowledge) (contents : Option Contents) (s : TokenStatement) (level : Level) (state : State) → state.given < most_given
    → IsHead None (behind_labels s.tokens) state.macros → turn known contents (headed s level state) ≡ hands s (under level (counted state))
unfolding head word_in
plain_turn known contents s level state few is =
    let low = below_most state.given few in
    let none = is.0 in
    let unknown = is.1 in
    head_turn known contents s level state ∙ rw (low, none, unknown) refl

pub long_turn : (known : Knowledge) (contents : Option Contents) (s : TokenStatement) (level : Level) (state : State) → most_given ≤ state.given
    → turn known contents (headed s level state) ≡ fails ExpansionTooLong (pos_of s)
long_turn known contents s level state many =
    let high = from_most state.given many in
    head_turn known contents s level state ∙ rw high refl

-- labels before a word or a call are handed out
pub labels_turn : (known : Knowledge) (contents : Option Contents) (one : Head) (s : TokenStatement) (level : Level) (state : State) → state.given < most_given
    → IsHead (Some one) (behind_labels s.tokens) state.macros → labels_of s.tokens ≢ []
    → turn known contents (headed s level state) ≡ hands (with_tokens (labels_of s.tokens) s) (headed (with_tokens (behind_labels s.tokens) s) level (counted state))
unfolding head word_in
labels_turn known contents one s level state few is some = by_head one is
  where
    own : (labels : List SpelledToken) (bare : Turn) → labels ≢ [] → behind_own_labels labels s level (counted state) bare ≡ hands (with_tokens labels s) (headed (with_tokens (behind_labels s.tokens) s) level (counted state))
    own [] bare apart = absurd (apart refl)
    own (first ∷ others) bare apart = refl

    by_head : (one : Head) → IsHead (Some one) (behind_labels s.tokens) state.macros → turn known contents (headed s level state) ≡ hands (with_tokens (labels_of s.tokens) s) (headed (with_tokens (behind_labels s.tokens) s) level (counted state))
    by_head (the.Word word operands) is =
        let low = below_most state.given few in
        let named = is.0 in
        head_turn known contents s level state ∙ rw (low, named) (own (labels_of s.tokens) _ some)
    by_head (the.Call name shared operands) is =
        let low = below_most state.given few in
        let none = is.0 in
        let called = is.1 in
        head_turn known contents s level state ∙ rw (low, none, called) (own (labels_of s.tokens) _ some)

-- a word or a call without labels becomes what it stands for
pub bare_turn : (known : Knowledge) (contents : Option Contents) (one : Head) (s : TokenStatement) (level : Level) (state : State)
    → IsHead (Some one) (behind_labels s.tokens) state.macros → labels_of s.tokens ≡ []
    → turn known contents (headed s level state) ≡ turned_head known contents one (pos_of s) level state
unfolding head word_in
bare_turn known contents (the.Word word operands) s level state is none =
    let named = is.0 in
    let behind = is.1 in
    head_turn known contents s level state ∙ rw (named, none, behind) refl
bare_turn known contents (the.Call name shared operands) s level state is none =
    let unnamed = is.0 in
    let called = is.1 in
    let behind = is.2 in
    head_turn known contents s level state ∙ rw (unnamed, called, none, behind) refl
