use Rattle.std.proofs.Common.{◌≡◌, ◌≤◌, length, true, false, sym, ap, ◌∙◌, arith}
use Rattle.std.proofs.lemmas.List.{get_or_read}
use Rattle.stack_facts.specs.Sets.{is_slot, no_slot, slot_at}
use Rattle.stack_facts.proofs.RankLemmas.{found_in, missing_in}
use Rattle.stack_facts.proofs.ranking.place_in.Goals as goal

pub returns-in-None : goal.returns-in-None
returns-in-None c =
    let x = c.in-None.ensures.lookup in
    let past : length c.args.slots.now ≤ c.count_before-at.result = let y = x.3 in omega arith in
    missing_in c.args.slots.now c.args.distance c.args.register c.count_before-at.result c.requires c.count_before-at.ensures (λ h. absurd (omega arith))

pub returns-then-is_slot : goal.returns-then-is_slot
returns-then-is_slot c =
    let x = c.in-Some.ensures.lookup in
    let at = c.count_before-at.result in
    let s = c.in-Some.slot.now in
    let here : s ≡ slot_at c.args.slots.now at = get_or_read c.args.slots.now at s x.3.0 x.1 no_slot in
    let is : is_slot c.args.distance c.args.register (slot_at c.args.slots.now at) ≡ true = ap (is_slot c.args.distance c.args.register) (sym here) ∙ sym c.is_slot.ensures ∙ c.if-is_slot.true in
    found_in c.args.slots.now c.args.distance c.args.register at c.count_before-at.ensures x.3.0 is

pub returns-else-is_slot : goal.returns-else-is_slot
returns-else-is_slot c =
    let x = c.in-Some.ensures.lookup in
    let at = c.count_before-at.result in
    let s = c.in-Some.slot.now in
    let here : s ≡ slot_at c.args.slots.now at = get_or_read c.args.slots.now at s x.3.0 x.1 no_slot in
    let is : is_slot c.args.distance c.args.register (slot_at c.args.slots.now at) ≡ false = ap (is_slot c.args.distance c.args.register) (sym here) ∙ sym c.is_slot.ensures ∙ c.if-is_slot.false in
    missing_in c.args.slots.now c.args.distance c.args.register at c.requires c.count_before-at.ensures (λ h. is)
