-- The groups are as many as those of the definition.
use Rattle.std.proofs.Common.{◌∙◌, arith}
use Rattle.asm_frags.proofs.NamedLemmas.{group_count, few_same}
use Rattle.asm_frags.proofs.section_list.Sections.group_count.Goals as goal

pub returns-clause-len : goal.returns-clause-len
returns-clause-len g c =
    rw (← c.self.view_is) (c.len.ensures.len ∙ group_count c.self.inside.names.entries c.self.inside.members.entries c.self.inside.groups.entries c.self.inside.sections.items c.self.invariant)

pub returns-clause-within : goal.returns-clause-within
returns-clause-within g c =
    let few = few_same c.self.inside.names.entries c.self.inside.members.entries c.self.inside.groups.entries c.self.inside.sections.items c.self.invariant in
    let count = c.len.ensures.len in
    rw (← c.self.view_is) (omega (arith, few, count))
