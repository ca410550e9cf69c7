use Rattle.std.proofs.Common.{◌≡◌, ℕ, true, Option, Some, None, slice_get, sym, ap, ◌∙◌}
use Rattle.std.proofs.lemmas.Option.{slice_get-get_or}
use Rattle.insn_effects.specs.Followed.{followed_by}
use Rattle.code_functions.specs.declared.items.CodeItem.{CodeItem}
use Rattle.stack_depths.specs.Distances.{Distances}
use Rattle.stack_facts.specs.declared.values.Slot.{Slot}
use Rattle.stack_facts.specs.Places.{is_saved, is_slot_place, saved_by}
use Rattle.stack_facts.specs.Facts.{is_at, saved_over}
use Rattle.stack_depths.specs.States.{distances_in}
use Rattle.stack_facts.proofs.ChangeLemmas.{saved_six, saved_place}
use Rattle.stack_facts.proofs.GatherLemmas.{all_found, few_found}
use Rattle.stack_facts.proofs.gathering.gather_all.Goals as goal

-- a slot that was found may stand
may_be_saved : (item : Option CodeItem) (known : Distances) (found : Option Slot) → saved_over item known ≡ found → (n r : ℕ) → is_at found n r ≡ true → (is_saved r ≡ true) × (is_slot_place n ≡ true)
may_be_saved None known found e n r h = let none : is_at None n r ≡ true = ap (λ o. is_at o n r) e ∙ h in cc
may_be_saved (Some item) known found e n r h =
    let stores = (followed_by item.effect).stores in
    let there : is_at (saved_by stores known) n r ≡ true = ap (λ o. is_at o n r) e ∙ h in
    (saved_six stores known n r there, saved_place stores known n r there)

pub put_found-requires-clause-saved : goal.put_found-requires-clause-saved
put_found-requires-clause-saved c =
    let known = distances_in c.args.depths.now in
    let is : saved_over (slice_get c.args.items.now c.loop-item.item) (known c.loop-item.item) ≡ c.saved_by-found.result = ap (λ o. saved_over o (known c.loop-item.item)) (slice_get-get_or c.args.items.now c.loop-item.item _ c.loop-item-test.true) ∙ sym c.saved_by-found.ensures in
    may_be_saved (slice_get c.args.items.now c.loop-item.item) (known c.loop-item.item) c.saved_by-found.result is

pub loop-item-preserved : goal.loop-item-preserved
loop-item-preserved c =
    let i = c.loop-item.invariant in
    let a = c.in_ok-put_found.ensures in
    let known = distances_in c.args.depths.now in
    let is : saved_over (slice_get c.args.items.now c.loop-item.item) (known c.loop-item.item) ≡ c.saved_by-found.result = ap (λ o. saved_over o (known c.loop-item.item)) (slice_get-get_or c.args.items.now c.loop-item.item _ c.loop-item-test.true) ∙ sym c.saved_by-found.ensures in
    record {
      may = a.may;
      all = all_found c.args.items.now known c.loop-item.item c.saved_by-found.result c.loop-item.slots.items c.put_found.new.slots.items is i.all a.there a.kept;
      few = few_found c.args.items.now known c.loop-item.item c.saved_by-found.result c.loop-item.slots.items c.put_found.new.slots.items is i.few a.few;
    }
