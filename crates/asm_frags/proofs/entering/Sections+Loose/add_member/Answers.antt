-- The name stands in the group where the section does.
use Rattle.std.proofs.Common.{◌≡◌, ℕ, ◌+◌, ◌&&◌, ◌<◌, List, [], ◌∷◌, ◌++◌, length, false, Some, find, ◌∙◌, ap, refl, arith, rules}
use Rattle.std.specs.List.{list_any}
use Rattle.std.specs.Map.{lookup}
use Rattle.std.specs.Str.{bytes_eq}
use Rattle.asm_frags.specs.declared.section_keys.MemberKey.{MemberKey}
use Rattle.indexmap.proofs.CallerLemmas.{insert_entry-new}
use Rattle.asm_frags.specs.declared.groups.Group.{Group}
use Rattle.asm_frags.specs.Groups.{counted, new_groups, groups_of, has_signature, with_group, was_otherwise, is_member_named, is_said_otherwise}
use Rattle.asm_frags.specs.Sound.{plain_groups}
use Rattle.asm_frags.proofs.NamedLemmas.{member_same, groups_same, plain_long, member_absent, group_put, added_member}
use Rattle.asm_frags.proofs.entering.Sections+Loose.add_member.Goals as goal

pub invariant_of-self-2 : goal.invariant_of-self-2
invariant_of-self-2 c =
    let sections = c.self.inside.sections.items in
    let key = c.args.key in
    let group : Group = record { signature = key.signature; comdat = c.args.comdat } in
    let groups = c.self.inside.groups.entries in
    let new : list_any (is_member_named key.signature key.name) sections ≡ false = rw c.self.view_is c.requires.new in
    let none = member_same c.self.inside.names.entries c.self.inside.members.entries groups sections c.self.invariant key.signature key.name ∙ member_absent key.signature key.name sections new in
    let kept = c.in_ok-reserve-2.ensures.entries in
    let absent = ap (lookup (λ (one : MemberKey). bytes_eq key.signature one.signature && bytes_eq key.name one.name)) kept ∙ none in
    let answered = c.insert-2.ensures.entries in
    let inserted = rw c.unwrap.ensures at answered in
    let put = inserted ∙ insert_entry-new _ c.reserve-2.new.self key c.len-number.result absent ∙ ap (λ (es : List (MemberKey × ℕ)). es ++ (key, c.len-number.result) ∷ []) kept in
    let seen = groups_same c.self.inside.names.entries c.self.inside.members.entries groups sections c.self.invariant in
    let otherwise : is_said_otherwise group sections ≡ false = rw c.self.view_is c.requires.same in
    let signature : c.in_ok-seen.seen.items ≡ key.signature = search rules in
    let first : was_otherwise c.args.comdat (find (has_signature c.in_ok-seen.seen.items) (plain_groups groups)) ≡ false = rw (signature, seen) otherwise in
    let others = ap plain_groups c.in_ok-insert.ensures.entries ∙ group_put _ (λ a b. refl) c.in_ok-seen.seen c.args.comdat groups first
    ∙ ap (λ s. with_group (plain_groups groups) (Some (record { signature = s; comdat = c.args.comdat }))) signature in
    let room : counted sections + new_groups (groups_of sections) (Some group) < 30003 = search rules in
    let long = ap length seen in
    let count = plain_long groups in
    let few : length sections + length groups + new_groups (plain_groups groups) (Some group) < 30005 = rw seen (omega (arith, room, long, count)) in
    added_member _ c.self.inside.members.entries c.insert-2.new.self.entries groups c.insert.new.self.entries key _ sections c.push.new.self.items c.new.result
    (record { name = key.name; flags = c.args.flags; group = Some group }) group c.self.invariant (search rules) refl put refl (search rules) others few
    (record { flagged = c.requires.flagged; short = c.requires.short }) (search rules)
