-- The number of a name in a group is that of its section.
use Rattle.std.proofs.Common.{◌≡◌, ◌<◌, IfSome, is_some, length, ◌∙◌, ap, subst, sym}
use Rattle.asm_frags.specs.Groups.{member_number}
use Rattle.asm_frags.proofs.NamedLemmas.{member_same, member_within, member_present}
use Rattle.asm_frags.proofs.entering.Sections+Loose.find_member.Goals as goal

found : (c : goal.After-copied) → c.copied.result ≡ member_number c.args.key.now.signature c.args.key.now.name c.self.inside.sections.items
found c =
    c.copied.ensures ∙ c.get.ensures.value
    ∙ member_same c.self.inside.names.entries c.self.inside.members.entries c.self.inside.groups.entries c.self.inside.sections.items c.self.invariant c.args.key.now.signature c.args.key.now.name

pub returns-clause-number : goal.returns-clause-number
returns-clause-number c = rw (← c.self.view_is) (found c)

pub returns-clause-within : goal.returns-clause-within
returns-clause-within c =
    rw (← c.self.view_is) (subst (λ number. IfSome number (λ n. n < length c.self.inside.sections.items)) (sym (found c))
    (member_within c.args.key.now.signature c.args.key.now.name c.self.inside.sections.items))

pub returns-clause-presence : goal.returns-clause-presence
returns-clause-presence c =
    rw (← c.self.view_is) (ap is_some (found c) ∙ member_present c.args.key.now.signature c.args.key.now.name c.self.inside.sections.items)
