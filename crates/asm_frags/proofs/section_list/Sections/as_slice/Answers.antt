-- The flags of all sections say whether they are in groups.
use Rattle.asm_frags.proofs.NamedLemmas.{all_flagged}
use Rattle.asm_frags.proofs.section_list.Sections.as_slice.Goals as goal

pub returns-clause-flagged : goal.returns-clause-flagged
returns-clause-flagged g c = rw (c.as_slice.ensures.value) (all_flagged _ _ _ c.self.inside.sections.items c.self.invariant)
