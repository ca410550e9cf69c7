-- Faults of items that look alike.
use Rattle.std.proofs.Common.{◌≡◌, ◌≢◌, inl, inr, Bool, true, false, Some, refl, sym, ap, subst, ◌∙◌}
use Rattle.asm_base.specs.declared.faults.ScfiFault.{ScfiFault}
use Rattle.asm_base.specs.declared.faults.ScfiFault.TheVariants as scfi
use Rattle.insn_effects.specs.declared.effects.Role.{Role}
use Rattle.insn_effects.specs.declared.effects.Role.TheVariants as role
use Rattle.insn_effects.specs.Flows.{Flow, returns}
use Rattle.insn_effects.specs.Followed.{Followed, followed_by, flow_by}
use Rattle.code_functions.specs.declared.items.CodeItem.{CodeItem}
use Rattle.stack_depths.specs.Distances.{distance_after}
use Rattle.stack_facts.specs.Places.{stored_by, change_of, writes}
use Rattle.stack_facts.specs.Facts.{entry, is_touched, facts_after}
use Rattle.scfi_pass.specs.Faults.{Situation, stands_after, at_exit, is_return, IsAbove, Overwrites, IsChangedAfter, IsTold, IsSound, IsFirst}
use Rattle.synthesis_laws.specs.Sights.{sight_of}

-- control leaves by a return
returns_by : Flow → Bool
returns_by returns = true
returns_by _ = false

-- an item returns exactly if control leaves it so
return_seen : (own : Role) → is_return own ≡ returns_by (flow_by own)
unfolding returns_by
return_seen role.Other = refl
return_seen role.Move = refl
return_seen role.Push = refl
return_seen role.Pop = refl
return_seen role.PopMemory = refl
return_seen role.PopStack = refl
return_seen role.PushWord = refl
return_seen role.PopWord = refl
return_seen role.Store = refl
return_seen role.Load = refl
return_seen role.Leave = refl
return_seen role.Call = refl
return_seen role.CallThrough = refl
return_seen role.Jump = refl
return_seen role.Branch = refl
return_seen role.JumpThrough = refl
return_seen role.Return = refl
return_seen role.ReturnPopping = refl
return_seen role.Stop = refl
return_seen role.Padding = refl
return_seen role.Data = refl

module _ (s : Situation) (item : CodeItem) (alike : sight_of s.item ≡ sight_of item) where
  -- the situation of the other item
  abbrev there : Situation
  there = record s { item = item }

  -- what is followed is the same
  same_effect : followed_by s.item.effect ≡ followed_by item.effect
  same_effect = ap (λ seen. seen.effect) alike

  -- both return or neither
  same_return : is_return s.item.effect.role ≡ is_return item.effect.role
  same_return = return_seen s.item.effect.role ∙ ap (λ seen. returns_by seen.flow) alike ∙ sym (return_seen item.effect.role)

  -- what an item overwrites
  overwrites_there : Overwrites s → Overwrites there
  overwrites_there (inl touches) =
      let Touches : Followed → Type 0 = λ e. is_touched (stored_by e.stores s.known) at_exit ≡ true in
      inl (subst Touches same_effect touches)
  overwrites_there (inr above) =
      let Above : Followed → Type 0 = λ e. IsAbove (distance_after e s.known 0) in
      inr (sym same_return ∙ above.0, subst Above same_effect above.1)

  -- what is changed behind it
  changed_there : IsChangedAfter s → IsChangedAfter there
  unfolding stands_after
  changed_there (inl moved) =
      let Moved : Followed → Type 0 = λ e. distance_after e s.known 0 ≢ Some at_exit in
      inl (subst Moved same_effect moved)
  changed_there (inr lost) =
      let Lost : Followed → Type 0 = λ e. facts_after (writes e) (change_of e s.known) s.stands (entry lost.0) ≡ false in
      inr (lost.0, lost.1, subst Lost same_effect lost.2)

  -- each fault of one is told of the other
  told_there : (fault : ScfiFault) → IsTold s fault → IsTold there fault
  told_there scfi.FrameLost told = told
  told_there (scfi.RegisterLost r) told = told
  told_there scfi.ReturnAddressOverwritten told = overwrites_there told
  told_there (scfi.StackNotRestored distance) told = told
  told_there (scfi.RegisterNotRestored r) told = told
  told_there scfi.UntraceableJump told = told
  told_there scfi.CallIntoFunction told = told
  told_there scfi.NotInstructions told = sym (ap (λ seen. seen.no_insn) alike) ∙ told
  told_there scfi.RunsPastEnd told =
      (told.0, told.1, sym (ap (λ seen. seen.effect.calls) alike) ∙ told.2, changed_there told.3)
  told_there scfi.UnsupportedStackUse told = sym (ap (λ seen. seen.unsupported) alike) ∙ told
  told_there scfi.OffsetTooLarge told = told

-- where none is told of the other, none is told of one
pub sound_here : (s : Situation) (item : CodeItem) → sight_of s.item ≡ sight_of item → IsSound (record s { item = item }) → IsSound s
sound_here s item alike sound fault told = sound fault (told_there s item alike fault told)

-- the first fault of one is that of the other
pub first_there : (s : Situation) (item : CodeItem) (fault : ScfiFault) → sight_of s.item ≡ sight_of item → IsFirst s fault → IsFirst (record s { item = item }) fault
first_there s item fault alike first = record {
  told = told_there s item alike fault first.told;
  first = λ other told. first.first other (told_there (record s { item = item }) s.item (sym alike) other told);
}
