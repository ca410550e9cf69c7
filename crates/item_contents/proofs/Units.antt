-- A unit is the first bytes of eight.
use Rattle.std.proofs.Common.{◌≡◌, ℕ, zero, suc, ◌-◌, ◌≤◌, [], ◌∷◌, ◌++◌, take, replicate, refl, arith}

pub unit_is : (size a b c d : ℕ) → size ≤ 8 → take size (a ∷ b ∷ c ∷ d ∷ 0 ∷ 0 ∷ 0 ∷ 0 ∷ []) ≡ take size (a ∷ b ∷ c ∷ d ∷ []) ++ replicate (size - 4) 0
unit_is zero a b c d within = refl
unit_is (suc zero) a b c d within = refl
unit_is (suc (suc zero)) a b c d within = refl
unit_is (suc (suc (suc zero))) a b c d within = refl
unit_is (suc (suc (suc (suc zero)))) a b c d within = refl
unit_is (suc (suc (suc (suc (suc zero))))) a b c d within = refl
unit_is (suc (suc (suc (suc (suc (suc zero)))))) a b c d within = refl
unit_is (suc (suc (suc (suc (suc (suc (suc zero))))))) a b c d within = refl
unit_is (suc (suc (suc (suc (suc (suc (suc (suc zero)))))))) a b c d within = refl
unit_is (suc (suc (suc (suc (suc (suc (suc (suc (suc size))))))))) a b c d within = absurd (omega arith)
