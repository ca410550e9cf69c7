use Rattle.std.proofs.Common.{◌≡◌, ℕ, ◌<◌, inl, inr, false, sym, ap, subst, arith}
use Rattle.insn_effects.specs.Followed.{Followed, followed_by}
use Rattle.asm_base.specs.declared.faults.ScfiFault.TheVariants as scfi
use Rattle.stack_depths.specs.Distances.{distance_after}
use Rattle.stack_facts.specs.Places.{stored_by}
use Rattle.stack_facts.specs.Facts.{is_touched}
use Rattle.scfi_pass.specs.Faults.{Situation, IsAbove, Overwrites, at_exit, stack_after}
use Rattle.scfi_pass.specs.Looking.{IsClear}
use Rattle.scfi_pass.specs.Plain.{IsPlain}
use Rattle.scfi_pass.proofs.RankLemmas.{clear_return}

-- rsp stays where it is
unmoved : (s : Situation) → IsPlain s → stack_after s ≡ s.known 0
unmoved s plain = ap (λ (e : Followed). distance_after e s.known 0) plain.quiet

-- nothing is stored
untouched : (s : Situation) → IsPlain s → is_touched (stored_by (followed_by s.item.effect).stores s.known) at_exit ≡ false
untouched s plain = ap (λ (e : Followed). is_touched (stored_by e.stores s.known) at_exit) plain.quiet

-- rsp is above the return address before and after
pub risen : (s : Situation) → IsPlain s → IsAbove (s.known 0) → Overwrites s
risen s plain above = inr (plain.stays, subst IsAbove (sym (unmoved s plain)) above)

-- it is not, so that nothing overwrites this
pub not_risen : (s : Situation) → IsPlain s → (IsAbove (s.known 0) → ⊥) → IsClear s 3
not_risen s plain low = clear_return s by_way
  where
    by_way : Overwrites s → ⊥
    by_way (inl touched) = let none = untouched s plain in cc
    by_way (inr (stays, above)) = low (subst IsAbove (unmoved s plain) above)

-- no fault between that and the last is told
pub plain_clear : (s : Situation) (k : ℕ) → IsPlain s → 3 < k → k < 11 → IsClear s k
plain_clear s k plain low high scfi.FrameLost e told = absurd (omega arith)
plain_clear s k plain low high (scfi.RegisterLost r) e told = absurd (omega arith)
plain_clear s k plain low high scfi.ReturnAddressOverwritten e told = absurd (omega arith)
plain_clear s k plain low high (scfi.StackNotRestored distance) e told = let a = told.0 in let b = plain.inside in cc
plain_clear s k plain low high (scfi.RegisterNotRestored r) e told = let a = told.0 in let b = plain.inside in cc
plain_clear s k plain low high scfi.UntraceableJump e told = let b = plain.traced in cc
plain_clear s k plain low high scfi.CallIntoFunction e told = let b = plain.outside in cc
plain_clear s k plain low high scfi.NotInstructions e told = let b = plain.code in cc
plain_clear s k plain low high scfi.RunsPastEnd e told = let a = told.0 in let b = plain.further in cc
plain_clear s k plain low high scfi.UnsupportedStackUse e told = let b = plain.supported in cc
plain_clear s k plain low high scfi.OffsetTooLarge e told = absurd (omega arith)
