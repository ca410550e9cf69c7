-- A group stands where its signature does.
use Rattle.std.proofs.Common.{◌∙◌}
use Rattle.asm_frags.proofs.NamedLemmas.{group_place}
use Rattle.asm_frags.proofs.section_list.Sections.group_index.Goals as goal

pub returns : goal.returns
returns g c =
    rw (← c.self.view_is) (c.get_index_of.ensures.index
    ∙ group_place c.self.inside.names.entries c.self.inside.members.entries c.self.inside.groups.entries c.self.inside.sections.items c.self.invariant c.args.signature.now)
