-- The first group of the signature tells.
use Rattle.std.proofs.Common.{◌∙◌, ap, sym}
use Rattle.std.specs.Option.{option_copied}
use Rattle.asm_frags.proofs.NamedLemmas.{group_known, otherwise_there, otherwise_absent}
use Rattle.asm_frags.proofs.entering.Sections+Loose.is_said_otherwise.Goals as goal

pub returns-in-Some : goal.returns-in-Some
returns-in-Some c =
    let known = sym (ap option_copied c.in-Some.is) ∙ c.get.ensures.value ∙ group_known c.self.inside.names.entries c.self.inside.members.entries c.self.inside.groups.entries c.self.inside.sections.items c.self.invariant c.as_bytes.result.now in
    rw (← c.self.view_is, ← c.as_bytes.ensures) (c.is_otherwise.ensures ∙ otherwise_there c.args.comdat c.in-Some.seen.now _ known)

pub returns-in-None : goal.returns-in-None
returns-in-None c =
    let known = sym (ap option_copied c.in-None.is) ∙ c.get.ensures.value ∙ group_known c.self.inside.names.entries c.self.inside.members.entries c.self.inside.groups.entries c.self.inside.sections.items c.self.invariant c.as_bytes.result.now in
    rw (← c.self.view_is, ← c.as_bytes.ensures) (otherwise_absent c.args.comdat _ known)
