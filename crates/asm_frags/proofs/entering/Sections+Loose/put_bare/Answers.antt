-- The name stands where the section does.
use Rattle.std.proofs.Common.{◌≡◌, ◌+◌, ◌<◌, length, false, None, ◌∙◌, ap, refl, arith, rules}
use Rattle.std.specs.List.{list_any}
use Rattle.indexmap.proofs.CallerLemmas.{insert_entry-new}
use Rattle.asm_frags.specs.Groups.{counted}
use Rattle.asm_frags.specs.SectionOf.{is_section_named, section_number}
use Rattle.asm_frags.specs.Sound.{heading_of, plain_groups}
use Rattle.asm_frags.proofs.NamedLemmas.{number_same, groups_same, name_absent, added}
use Rattle.asm_frags.proofs.entering.Sections+Loose.put_bare.Goals as goal

pub invariant_of-self-2 : goal.invariant_of-self-2
invariant_of-self-2 c =
    let sections = c.self.inside.sections.items in
    let key : c.in_ok-key.key.items ≡ c.args.name = search rules in
    let new : list_any (is_section_named c.args.name) sections ≡ false = rw c.self.view_is c.requires.new in
    let none = number_same c.self.inside.names.entries c.self.inside.members.entries c.self.inside.groups.entries c.self.inside.sections.items c.self.invariant c.in_ok-key.key.items ∙ ap (λ name. section_number name sections) key ∙ name_absent c.args.name sections new in
    let put = c.in_ok-insert.ensures.entries ∙ insert_entry-new _ c.self.inside.names c.in_ok-key.key _ none in
    let room : counted sections < 30005 = rw c.self.view_is c.requires.room in
    let same = ap length (groups_same c.self.inside.names.entries c.self.inside.members.entries c.self.inside.groups.entries c.self.inside.sections.items c.self.invariant) in
    let few : length sections + length (plain_groups c.self.inside.groups.entries) < 30005 = omega (arith, room, same) in
    added c.self.inside.names.entries c.insert.new.self.entries _ _ c.in_ok-key.key _ sections c.push.new.self.items c.new.result
    (record { name = c.args.name; flags = c.args.flags; group = None }) c.self.invariant (ap heading_of c.new.ensures) refl put key (search rules) few
    (record { flagged = c.requires.bare; short = c.requires.short }) (search rules)
