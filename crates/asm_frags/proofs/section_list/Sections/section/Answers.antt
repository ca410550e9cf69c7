-- The section of a number has a short name.
use Rattle.std.proofs.Common.{sym}
use Rattle.asm_frags.proofs.NamedLemmas.{short_at, flagged_at}
use Rattle.asm_frags.proofs.section_list.Sections.section.Goals as goal

pub returns-clause-within : goal.returns-clause-within
returns-clause-within g c =
    let within = c.requires in
    let short = short_at _ _ _ c.self.inside.sections.items c.args.number c.index.result.now c.self.invariant (rw c.self.view_is within) in
    rw (sym c.index.ensures) at short

pub returns-clause-flagged : goal.returns-clause-flagged
returns-clause-flagged g c =
    let within = c.requires in
    rw (c.index.ensures) (flagged_at _ _ _ c.self.inside.sections.items c.args.number c.index.result.now c.self.invariant (rw c.self.view_is within))
