-- Turns of a list, one after the other.
use Rattle.std.proofs.Common.{◌≡◌, ℕ, zero, suc, ◌+◌, ◌<◌, ◌≤◌, nat_le, true, false, List, [], ◌∷◌, length, fold, All, Option, None, Some, Result, Ok, Err, refl, sym, ap, arith}
use Rattle.std.proofs.lemmas.Bool.{false≢true}
use Rattle.std.proofs.lemmas.Bool.Decides.{nat_tests}
use Rattle.asm_base.specs.Inputs.{Contents}
use Rattle.asm_lines.specs.NextStatements.{TokenStatement}
use Rattle.asm_lines.specs.Placing.{placed_next}
use Rattle.macro_blocks.specs.declared.blocks.Ending.TheVariants as ending
use Rattle.macro_words.specs.Statements.{named_by, behind_labels}
use Rattle.macro_words.specs.Conditions.{Knowledge}
use Rattle.asm_macro.specs.Expansion as list
use Rattle.asm_macro.specs.Expansion.{State, MacroAs, head, macro_named, most_given, started, turn}
use Rattle.asm_macro.specs.Placing.{Step, goes, ended, fails, refused, misses, untold, with_placed, and_then, step, steps}
use Rattle.asm_macro.specs.Laws.{is_final, outcome, IsPlain}

module _ {S F : Type 0} (placed : S → TokenStatement → Result S F) (known : S → Knowledge) (contents : Option Contents) where
  -- behind one turn, where two numbers of further turns are final
  one_by : (n m : ℕ) (x : Step S F)
      → ((state : State) (placer : S) → is_final (steps placed known contents n state placer) ≡ true → is_final (steps placed known contents m state placer) ≡ true
      → steps placed known contents n state placer ≡ steps placed known contents m state placer)
      → is_final (and_then (steps placed known contents n) x) ≡ true → is_final (and_then (steps placed known contents m) x) ≡ true
      → and_then (steps placed known contents n) x ≡ and_then (steps placed known contents m) x
  one_by n m (goes state placer) more p q = more state placer p q
  one_by n m (ended files placer) more p q = refl
  one_by n m (fails files cause pos placer) more p q = refl
  one_by n m (refused files fault) more p q = refl
  one_by n m (misses files) more p q = refl
  one_by n m untold more p q = refl

  pub one_result : (n m : ℕ) (state : State) (placer : S) → is_final (steps placed known contents n state placer) ≡ true → is_final (steps placed known contents m state placer) ≡ true
      → steps placed known contents n state placer ≡ steps placed known contents m state placer
  unfolding steps
  one_result zero m state placer p q = absurd (false≢true p)
  one_result (suc n) zero state placer p q = absurd (false≢true q)
  one_result (suc n) (suc m) state placer p q = one_by n m (step placed known contents state placer) (one_result n m) p q

-- the list of a source without macros, of which so many statements left the head
abbrev plain : List (List ℕ) → ℕ → List TokenStatement → State
plain files given statements =
    record { levels = record { statements = statements; ends = ending.File; open_at = []; call_number = None } ∷ []; macros = []; begun = 0; given = given; files = files }

none_named : (name : Option (List ℕ)) → macro_named [] name ≡ None
none_named None = refl
none_named (Some name) = refl

-- a statement without a word of expansion is handed out
pub plain_turn : (known : Knowledge) (contents : Option Contents) (files : List (List ℕ)) (given : ℕ) (s : TokenStatement) (rest : List TokenStatement) → IsPlain s → given < most_given
    → turn known contents (plain files given (s ∷ rest)) ≡ list.hands s (plain files (given + 1) rest)
unfolding turn head
plain_turn known contents files given s rest is few =
    let low : nat_le most_given given ≡ false = grind (arith, nat_tests) in
    let none = none_named (named_by (behind_labels s.tokens)) in
    rw (low, is, none) refl

module _ {S F : Type 0} (placed : S → TokenStatement → Result S F) (known : S → Knowledge) (contents : Option Contents) (files : List (List ℕ)) where
  refused_stays : (fault : F) (rest : List TokenStatement) → fold (placed_next placed) (Err fault) rest ≡ Err fault
  refused_stays fault [] = refl
  refused_stays fault (s ∷ rest) = refused_stays fault rest

  after_placed : (result : Result S F) (n given : ℕ) (rest : List TokenStatement)
      → ((placer : S) → steps placed known contents n (plain files given rest) placer ≡ outcome files (fold (placed_next placed) (Ok placer) rest))
      → and_then (steps placed known contents n) (with_placed (plain files given rest) result) ≡ outcome files (fold (placed_next placed) result rest)
  after_placed (Ok placer) n given rest more = more placer
  after_placed (Err fault) n given rest more = ap (outcome files) (sym (refused_stays fault rest))

  pub plain_steps : (statements : List TokenStatement) (given : ℕ) (placer : S) → All IsPlain statements → given + length statements ≤ most_given
      → steps placed known contents (length statements + 2) (plain files given statements) placer ≡ outcome files (fold (placed_next placed) (Ok placer) statements)
  unfolding steps turn
  plain_steps [] given placer all few = refl
  plain_steps (s ∷ rest) given placer all few =
      let count : length (s ∷ rest) + 2 ≡ suc (length rest + 2) = omega arith in
      let handed = plain_turn (known placer) contents files given s rest (all zero s (omega arith)) (omega (arith, few)) in
      rw (count, handed) (after_placed (placed placer s) (length rest + 2) (given + 1) rest (λ next. plain_steps rest (given + 1) next (λ k d within. all (suc k) d (omega (arith, within))) (omega (arith, few))))
