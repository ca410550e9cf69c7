-- A group is there where its signature is.
use Rattle.std.proofs.Common.{◌∙◌}
use Rattle.std.proofs.lemmas.Map.Made.{is_some-lookup}
use Rattle.asm_frags.proofs.NamedLemmas.{group_there}
use Rattle.asm_frags.proofs.section_list.Sections.has_group.Goals as goal

pub returns : goal.returns
returns g c =
    rw (← c.self.view_is) (c.contains_key.ensures ∙ is_some-lookup _ c.self.inside.groups.entries
    ∙ group_there c.self.inside.names.entries c.self.inside.members.entries c.self.inside.groups.entries c.self.inside.sections.items c.self.invariant c.args.signature.now)
