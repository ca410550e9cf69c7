use Rattle.std.proofs.Common.{◌≡◌, ◌<◌, ◌-◌, List, false, length, subst}
use Rattle.stack_facts.specs.declared.values.Slot.{Slot}
use Rattle.stack_facts.specs.Sets.{is_slot, slot_at}
use Rattle.stack_facts.proofs.RankLemmas.{put_ranked, put_added, last_added}
use Rattle.stack_facts.proofs.ranking.put_ranked.Goals as goal

pub returns-in_ok-push-clause-ranked : goal.returns-in_ok-push-clause-ranked
returns-in_ok-push-clause-ranked c =
    let s = c.args.slot in
    let P : List Slot → Type 0 = λ xs. 0 < length xs → is_slot s.distance s.register (slot_at xs (length xs - 1)) ≡ false in
    put_ranked c.args.slots.now.items c.push.new.self.items s c.requires.ranked c.requires.may c.requires.behind (subst P c.deref.ensures.value (c.is_last.ensures.other c.if-not-is_last.true)) c.in_ok-push.ensures.items

pub returns-in_ok-push-clause-added : goal.returns-in_ok-push-clause-added
returns-in_ok-push-clause-added c =
    let s = c.args.slot in
    let P : List Slot → Type 0 = λ xs. 0 < length xs → is_slot s.distance s.register (slot_at xs (length xs - 1)) ≡ false in
    put_added c.args.slots.now.items c.push.new.self.items s c.requires.ranked c.requires.may c.requires.behind (subst P c.deref.ensures.value (c.is_last.ensures.other c.if-not-is_last.true)) c.in_ok-push.ensures.items

pub returns-else-not-is_last-clause-added : goal.returns-else-not-is_last-clause-added
returns-else-not-is_last-clause-added c =
    let P : List Slot → Type 0 = λ xs. (0 < length xs) × (slot_at xs (length xs - 1) ≡ c.args.slot) in
    last_added c.args.slots.now.items c.args.slot c.requires.ranked (subst P c.deref.ensures.value (c.is_last.ensures.last c.if-not-is_last.false))
