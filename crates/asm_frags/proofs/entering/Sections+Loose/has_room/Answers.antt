-- Sections and groups are counted.
use Rattle.std.proofs.Common.{◌≡◌, ◌+◌, nat_lt, ◌∙◌, ap, arith}
use Rattle.asm_frags.specs.Groups.{counted}
use Rattle.asm_frags.proofs.NamedLemmas.{group_count}
use Rattle.asm_frags.proofs.entering.Sections+Loose.has_room.Goals as goal

pub returns : goal.returns
returns c =
    let sections = c.len.ensures in
    let groups = c.len-2.ensures.len ∙ group_count c.self.inside.names.entries c.self.inside.members.entries c.self.inside.groups.entries c.self.inside.sections.items c.self.invariant in
    let same : c.len.result + c.len-2.result ≡ counted c.self.inside.sections.items = omega (arith, sections, groups) in
    rw (← c.self.view_is) (ap (λ n. nat_lt (n + c.args.groups) c.args.most) same)
