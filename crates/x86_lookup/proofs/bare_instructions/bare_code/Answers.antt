-- What the index of the text leads to.
use Rattle.std.proofs.Common.{◌≡◌, Some, None, ap, ◌∙◌}
use Rattle.x86_lookup.specs.Names.{the_att_slots, mixed, slot_at}
use Rattle.x86_lookup.specs.BareCodes.{code_at}
use Rattle.x86_lookup.proofs.BareLookups.{code_found}
use Rattle.x86_lookup.proofs.bare_instructions.bare_code.Goals as goal

pub returns-in-Some : goal.returns-in-Some
returns-in-Some c =
    let slot : Some c.in-Some.index ≡ slot_at the_att_slots (mixed 0 c.args.text.now) = rw (c.att_slots.ensures, c.mixed.ensures) at c.in-Some.ensures in
    c.code_at.ensures ∙ ap (code_at c.args.text.now) slot ∙ code_found c.args.text.now

pub returns-in-None : goal.returns-in-None
returns-in-None c =
    let slot : None ≡ slot_at the_att_slots (mixed 0 c.args.text.now) = rw (c.att_slots.ensures, c.mixed.ensures) at c.in-None.ensures in
    ap (code_at c.args.text.now) slot ∙ code_found c.args.text.now
