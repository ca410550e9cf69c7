-- Turns of a list and its placer, some behind others.
use Rattle.std.proofs.Common.{◌≡◌, inl, inr, ℕ, zero, suc, ◌+◌, Option, Result, refl, sym, ap, subst, ◌∙◌, arith}
use Rattle.asm_base.specs.Inputs.{Contents}
use Rattle.asm_lines.specs.NextStatements.{TokenStatement}
use Rattle.macro_words.specs.Conditions.{Knowledge}
use Rattle.asm_macro.specs.Expansion.{State}
use Rattle.asm_macro.specs.Placing.{Step, goes, ended, fails, refused, misses, untold, and_then, step, steps}
use Rattle.asm_macro.specs.Expanding.{Comes}

module _ {S F : Type 0} (placed : S → TokenStatement → Result S F) (known : S → Knowledge) (contents : Option Contents) where
  -- no turn leaves the list as it is
  pub steps_none : (state : State) (placer : S) → steps placed known contents 0 state placer ≡ goes state placer
  unfolding steps
  steps_none state placer = refl

  steps_suc : (n : ℕ) (state : State) (placer : S) → steps placed known contents (suc n) state placer ≡ and_then (steps placed known contents n) (step placed known contents state placer)
  unfolding steps
  steps_suc n state placer = refl

  after_none : (x : Step S F) → and_then (steps placed known contents 0) x ≡ x
  unfolding steps
  after_none (goes state placer) = refl
  after_none (ended names placer) = refl
  after_none (fails names cause pos placer) = refl
  after_none (refused names fault) = refl
  after_none (misses names) = refl
  after_none untold = refl

  -- one turn
  pub steps_one : (state : State) (placer : S) → steps placed known contents 1 state placer ≡ step placed known contents state placer
  steps_one state placer = steps_suc 0 state placer ∙ after_none (step placed known contents state placer)

  behind_goes : (n m : ℕ) (now : State) (other : S) (x : Step S F)
      → ((state : State) (placer : S) → steps placed known contents n state placer ≡ goes now other → steps placed known contents (n + m) state placer ≡ steps placed known contents m now other)
      → and_then (steps placed known contents n) x ≡ goes now other → and_then (steps placed known contents (n + m)) x ≡ steps placed known contents m now other
  behind_goes n m now other (goes state placer) more is = more state placer is
  behind_goes n m now other (ended names placer) more is = absurd cc
  behind_goes n m now other (fails names cause pos placer) more is = absurd cc
  behind_goes n m now other (refused names fault) more is = absurd cc
  behind_goes n m now other (misses names) more is = absurd cc
  behind_goes n m now other untold more is = absurd cc

  -- some turns and then more
  pub steps_more : (n m : ℕ) (state : State) (placer : S) (now : State) (other : S) → steps placed known contents n state placer ≡ goes now other
      → steps placed known contents (n + m) state placer ≡ steps placed known contents m now other
  steps_more zero m state placer now other is =
      let same : goes state placer ≡ goes now other = sym (steps_none state placer) ∙ is in
      let count : zero + m ≡ m = omega arith in
      let left : state ≡ now = cc in
      let right : placer ≡ other = cc in
      ap (λ k. steps placed known contents k state placer) count ∙ ap (λ s. steps placed known contents m s placer) left ∙ ap (λ p. steps placed known contents m now p) right
  steps_more (suc n) m state placer now other is =
      let count : suc n + m ≡ suc (n + m) = omega arith in
      ap (λ k. steps placed known contents k state placer) count ∙ steps_suc (n + m) state placer
      ∙ behind_goes n m now other (step placed known contents state placer) (λ s p e. steps_more n m s p now other e) (sym (steps_suc n state placer) ∙ is)

  -- what holds of some further turns, and where nothing is told, holds behind these
  pub after_turns : (P : Step S F → Type 0) (n : ℕ) (state : State) (placer : S) (now : State) (other : S) → Comes (steps placed known contents n state placer) (goes now other)
      → P untold → (m : ℕ) × P (steps placed known contents m now other) → (k : ℕ) × P (steps placed known contents k state placer)
  after_turns P n state placer now other come free later =
      elim come [
        | inl e ↦ (n + later.0, subst P (sym (steps_more n later.0 state placer now other e)) later.1)
        | inr e ↦ (n, subst P (sym e) free)
      ]
