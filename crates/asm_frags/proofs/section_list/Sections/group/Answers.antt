-- A group of an index is that of its entry.
use Rattle.std.proofs.Common.{◌<◌, ◌∙◌, ap, sym, length, slice_get, true≢false, arith}
use Rattle.asm_frags.specs.Groups.{groups_of}
use Rattle.asm_frags.proofs.NamedLemmas.{groups_same, group_count, entry_there}
use Rattle.asm_frags.proofs.section_list.Sections.group.Goals as goal

pub returns-in-Some : goal.returns-in-Some
returns-in-Some g c =
    rw (← c.self.view_is, c.as_slice.ensures.value) (sym (ap (λ gs. slice_get gs c.args.index) (groups_same c.self.inside.names.entries c.self.inside.members.entries c.self.inside.groups.entries c.self.inside.sections.items c.self.invariant))
    ∙ entry_there c.self.inside.groups.entries c.args.index (c.in-Some.signature.now, c.in-Some.comdat.now) (sym c.in-Some.ensures.entry))

pub returns-in-None : goal.returns-in-None
returns-in-None g c =
    let count = group_count c.self.inside.names.entries c.self.inside.members.entries c.self.inside.groups.entries c.self.inside.sections.items c.self.invariant in
    let within : c.args.index < length (groups_of c.self.inside.sections.items) = rw c.self.view_is c.requires in
    let inside : c.args.index < length c.self.inside.groups.entries = omega (arith, count, within) in
    absurd (true≢false (sym (c.in-None.ensures.found.1 inside)))
