-- What is handed out, placed in order, makes what a list comes to.
use Rattle.std.proofs.Common.{◌≡◌, ℕ, zero, suc, List, fold, Option, Result, Ok, Err}
use Rattle.asm_base.specs.Inputs.{Contents}
use Rattle.asm_lines.specs.NextStatements.{TokenStatement}
use Rattle.asm_lines.specs.Placing.{placed_next, placed_in_order}
use Rattle.macro_words.specs.Conditions.{Knowledge}
use Rattle.asm_macro.specs.Expansion.{State, Turn, hands, goes, ended, fails, breaks, misses, untold, turn}
use Rattle.asm_macro.specs.Placing as pair
use Rattle.asm_macro.specs.Placing.{Step, with_placed, placed_by_turn, and_then, steps, behind_placed, handed_from, handed}

module _ {S F : Type 0} (placed : S → TokenStatement → Result S F) (known : S → Knowledge) (contents : Option Contents) where
  -- what is placed of what is handed out in so many turns is what a list comes to at its end
  abbrev IsHanded : ℕ → State → S → Type 0
  IsHanded n state placer = (names : List (List ℕ)) (whole : S) → steps placed known contents n state placer ≡ pair.ended names whole
      → fold (placed_next placed) (Ok placer) (handed placed known contents n state placer) ≡ Ok whole

  behind_one : (n : ℕ) (state : State) (result : Result S F) (names : List (List ℕ)) (whole : S) → ((placer : S) → IsHanded n state placer)
      → and_then (steps placed known contents n) (with_placed state result) ≡ pair.ended names whole
      → fold (placed_next placed) result (behind_placed (handed placed known contents n) state result) ≡ Ok whole
  behind_one n state (Ok placer) names whole more is = more placer names whole is
  behind_one n state (Err fault) names whole more is = absurd cc

  by_turn : (n : ℕ) (files : List (List ℕ)) (placer : S) (t : Turn) (names : List (List ℕ)) (whole : S) → ((state : State) (after : S) → IsHanded n state after)
      → and_then (steps placed known contents n) (placed_by_turn placed files placer t) ≡ pair.ended names whole
      → fold (placed_next placed) (Ok placer) (handed_from placed (handed placed known contents n) placer t) ≡ Ok whole
  by_turn n files placer (hands s state) names whole more is = behind_one n state (placed placer s) names whole (more state) is
  by_turn n files placer (goes state) names whole more is = more state placer names whole is
  by_turn n files placer ended names whole more is = cc
  by_turn n files placer (fails cause pos) names whole more is = absurd cc
  by_turn n files placer (breaks name fault) names whole more is = absurd cc
  by_turn n files placer (misses name) names whole more is = absurd cc
  by_turn n files placer untold names whole more is = absurd cc

  all_handed : (n : ℕ) (state : State) (placer : S) → IsHanded n state placer
  unfolding steps handed
  all_handed zero state placer names whole is = absurd cc
  all_handed (suc n) state placer names whole is = by_turn n state.files placer (turn (known placer) contents state) names whole (all_handed n) is

  pub handed_are_placed : (n : ℕ) (state : State) (placer : S) (names : List (List ℕ)) (whole : S) → steps placed known contents n state placer ≡ pair.ended names whole
      → placed_in_order placed placer (handed placed known contents n state placer) ≡ Ok whole
  unfolding placed_in_order
  handed_are_placed n state placer names whole is = all_handed n state placer names whole is
