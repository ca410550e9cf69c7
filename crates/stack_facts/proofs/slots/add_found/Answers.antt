use Rattle.std.proofs.Common.{ap, ◌∙◌}
use Rattle.stack_facts.specs.Facts.{is_at}
use Rattle.stack_facts.proofs.SlotLemmas.{own_slot}
use Rattle.stack_facts.proofs.slots.add_found.Goals as goal

pub add-requires-clause-saved : goal.add-requires-clause-saved
add-requires-clause-saved c =
    let s = c.in-Some.slot in
    c.requires.saved s.distance s.register (ap (λ o. is_at o s.distance s.register) c.in-Some.is ∙ own_slot s)
