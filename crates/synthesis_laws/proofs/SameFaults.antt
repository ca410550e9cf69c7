-- Two first faults of a function are one.
use Rattle.std.proofs.Common.{◌≡◌, ℕ, ◌<◌, ◌≤◌, ◌⊎◌, inl, inr, true, Option, Some, slice_get, refl, sym, ap, subst, ◌∙◌, arith}
use Rattle.std.proofs.lemmas.Bool.{cases_lt}
use Rattle.asm_base.specs.declared.faults.ScfiFault.{ScfiFault}
use Rattle.asm_base.specs.declared.faults.ScfiFault.TheVariants as scfi
use Rattle.asm_base.specs.declared.faults.SavedRegister.{SavedRegister}
use Rattle.asm_base.specs.declared.faults.SavedRegister.TheVariants.{Rbx, Rbp, R12, R13, R14, R15}
use Rattle.code_functions.specs.declared.items.CodeItem.{CodeItem}
use Rattle.flow_graph.specs.declared.nodes.Node.{Node}
use Rattle.stack_facts.specs.Places.{is_saved}
use Rattle.scfi_pass.specs.Registers.{number_of}
use Rattle.scfi_pass.specs.Faults.{Situation, IsFirstOf, IsTold, rank_of, IsFirst}
use Rattle.scfi_pass.specs.Tables.{Analyzed, situation, IsSoundAt, IsFaultAt, IsFirstFault}

-- a register by its number
same_register : (r q : SavedRegister) → number_of r ≡ number_of q → r ≡ q
same_register Rbx Rbx e = refl
same_register Rbp Rbp e = refl
same_register R12 R12 e = refl
same_register R13 R13 e = refl
same_register R14 R14 e = refl
same_register R15 R15 e = refl
same_register _ _ e = cc

-- each is one of the six
pub saved : (r : SavedRegister) → is_saved (number_of r) ≡ true
saved Rbx = refl
saved Rbp = refl
saved R12 = refl
saved R13 = refl
saved R14 = refl
saved R15 = refl

-- the first register of which something holds is one
same_first : (P : ℕ → Type 0) (r q : SavedRegister) → IsFirstOf P (number_of r) → IsFirstOf P (number_of q) → r ≡ q
same_first P r q x y = same_register r q (by (cases_lt (number_of r) (number_of q)) (cases_lt (number_of q) (number_of r)))
  where
    by : (number_of r < number_of q) ⊎ (number_of q ≤ number_of r) → (number_of q < number_of r) ⊎ (number_of r ≤ number_of q) → number_of r ≡ number_of q
    by (inl low) _ = absurd (y.1 (number_of r) (saved r) low x.0)
    by (inr high) (inl low) = absurd (x.1 (number_of q) (saved q) low y.0)
    by (inr high) (inr low) = omega arith

-- two faults of one rank
same_told : (s : Situation) (one other : ScfiFault) → IsTold s one → IsTold s other → rank_of one ≡ rank_of other → one ≡ other
same_told s scfi.FrameLost scfi.FrameLost x y e = refl
same_told s (scfi.RegisterLost r) (scfi.RegisterLost q) x y e = ap scfi.RegisterLost (same_first _ r q x y)
same_told s scfi.ReturnAddressOverwritten scfi.ReturnAddressOverwritten x y e = refl
same_told s (scfi.StackNotRestored d) (scfi.StackNotRestored f) x y e = ap scfi.StackNotRestored (x.2 ∙ sym y.2)
same_told s (scfi.RegisterNotRestored r) (scfi.RegisterNotRestored q) x y e = ap scfi.RegisterNotRestored (same_first _ r q x.1 y.1)
same_told s scfi.UntraceableJump scfi.UntraceableJump x y e = refl
same_told s scfi.CallIntoFunction scfi.CallIntoFunction x y e = refl
same_told s scfi.NotInstructions scfi.NotInstructions x y e = refl
same_told s scfi.RunsPastEnd scfi.RunsPastEnd x y e = refl
same_told s scfi.UnsupportedStackUse scfi.UnsupportedStackUse x y e = refl
same_told s scfi.OffsetTooLarge scfi.OffsetTooLarge x y e = refl
same_told s _ _ x y e = cc

-- two first faults of an item
same_here : (s : Situation) (one other : ScfiFault) → IsFirst s one → IsFirst s other → one ≡ other
same_here s one other x y =
    let low = x.first other y.told in
    let high = y.first one x.told in
    same_told s one other x.told y.told (omega arith)

-- what is there is one
same_there : {A : Type 0} (o : Option A) (x y : A) → o ≡ Some x → o ≡ Some y → x ≡ y
same_there o x y h g = cc

module _ (a : Analyzed) where
  -- a sound item has no fault
  pub no_fault : (j : ℕ) (fault : ScfiFault) → IsSoundAt a j → IsFaultAt a j fault → ⊥
  no_fault j fault sound at = sound at.reached at.item at.node at.item_there at.node_there fault at.first.told

  -- the item of a first fault is one
  same_item : (j i : ℕ) (one other : ScfiFault) → IsFirstFault a j one → IsFirstFault a i other → j ≡ i
  same_item j i one other x y = by (cases_lt j i) (cases_lt i j)
    where
      by : (j < i) ⊎ (i ≤ j) → (i < j) ⊎ (j ≤ i) → j ≡ i
      by (inl low) _ = absurd (no_fault j one (y.sound j low) x.here)
      by (inr high) (inl low) = absurd (no_fault i other (x.sound i low) y.here)
      by (inr high) (inr low) = omega arith

  -- two first faults of an item
  same_at : (j : ℕ) (one other : ScfiFault) → IsFaultAt a j one → IsFaultAt a j other → one ≡ other
  same_at j one other x y =
      let items = same_there (slice_get a.items j) y.item x.item y.item_there x.item_there in
      let nodes = same_there (slice_get a.nodes j) y.node x.node y.node_there x.node_there in
      let Of : CodeItem → Type 0 = λ item. IsFirst (situation a j item y.node) other in
      let By : Node → Type 0 = λ node. IsFirst (situation a j x.item node) other in
      same_here (situation a j x.item x.node) one other x.first (subst By nodes (subst Of items y.first))

  -- two first faults of a function
  pub same_faults : (j i : ℕ) (one other : ScfiFault) → IsFirstFault a j one → IsFirstFault a i other → (j ≡ i) × (one ≡ other)
  same_faults j i one other x y =
      let same = same_item j i one other x y in
      let At : ℕ → Type 0 = λ k. IsFaultAt a k other in
      (same, same_at j one other x.here (subst At (sym same) y.here))
