-- Items that are laid begin in order, and one of them holds a place.
use Rattle.std.proofs.Common.{◌≡◌, ◌+◌, ◌-◌, ◌<◌, ◌≤◌, ◌⊎◌, ℕ, zero, suc, List, length, ap, arith}
use Rattle.std.proofs.Math.Nat.{eq-or-lt_of_le}
use Rattle.scfi_pass.specs.Tables.{Analyzed}
use Rattle.scfi_laws.specs.Laid.{Kind, Holds, IsLaid}

module _ (a : Analyzed) (kinds : ℕ → Kind) (starts : ℕ → ℕ) (code : List ℕ) (laid : IsLaid a kinds starts code) where
  rise : (i k : ℕ) → i + k ≤ length a.items → starts i ≤ starts (i + k)
  rise i zero h = let e = ap starts {x = i + zero} {y = i} (omega arith) in omega arith
  rise i (suc k) h =
      let before = rise i k (omega arith) in
      let next = laid.placed (i + k) (omega arith) in
      let e = ap starts {x = i + k + 1} {y = i + suc k} (omega arith) in
      omega arith

  pub rises : (i j : ℕ) → i ≤ j → j ≤ length a.items → starts i ≤ starts j
  rises i j h l =
      let up = rise i (j - i) (omega arith) in
      let e = ap starts {x = i + (j - i)} {y = j} (omega arith) in
      omega arith

  not_after : (i j place : ℕ) → Holds starts (length a.items) i place → Holds starts (length a.items) j place → i < j → ⊥
  not_after i j place h g l = let up = rises (i + 1) j (omega arith) (let p = g.inside in omega arith) in let x = h.ends in let y = g.begins in omega arith

  pub one_holds : (i j place : ℕ) → Holds starts (length a.items) i place → Holds starts (length a.items) j place → j ≡ i
  one_holds i j place h g = by (eq-or-lt_of_le {n = i} {m = j}) (eq-or-lt_of_le {n = j} {m = i})
    where
      by : (i ≤ j → (i ≡ j) ⊎ (i < j)) → (j ≤ i → (j ≡ i) ⊎ (j < i)) → j ≡ i
      by p q = let x = not_after i j place h g in let y = not_after j i place g h in omega arith
