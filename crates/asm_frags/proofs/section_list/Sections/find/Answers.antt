-- The number of a name is that of its section.
use Rattle.std.proofs.Common.{◌<◌, IfSome, is_some, length, ◌∙◌, ap, subst, sym}
use Rattle.asm_frags.proofs.NamedLemmas.{number_same, found_within, found_present}
use Rattle.asm_frags.proofs.section_list.Sections.find.Goals as goal

pub returns-clause-number : goal.returns-clause-number
returns-clause-number g c =
    rw (← c.self.view_is) (c.copied.ensures ∙ c.get.ensures.value
    ∙ number_same c.self.inside.names.entries c.self.inside.members.entries c.self.inside.groups.entries c.self.inside.sections.items c.self.invariant c.args.name.now)

pub returns-clause-within : goal.returns-clause-within
returns-clause-within g c =
    let number = c.copied.ensures ∙ c.get.ensures.value
    ∙ number_same c.self.inside.names.entries c.self.inside.members.entries c.self.inside.groups.entries c.self.inside.sections.items c.self.invariant c.args.name.now in
    rw (← c.self.view_is) (subst (λ found. IfSome found (λ n. n < length c.self.inside.sections.items)) (sym number) (found_within c.args.name.now c.self.inside.sections.items))

pub returns-clause-presence : goal.returns-clause-presence
returns-clause-presence g c =
    let number = c.copied.ensures ∙ c.get.ensures.value
    ∙ number_same c.self.inside.names.entries c.self.inside.members.entries c.self.inside.groups.entries c.self.inside.sections.items c.self.invariant c.args.name.now in
    rw (← c.self.view_is) (ap is_some number ∙ found_present c.args.name.now c.self.inside.sections.items)
