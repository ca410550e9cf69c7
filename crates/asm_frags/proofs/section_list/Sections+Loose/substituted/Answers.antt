-- The sections keep their headings.
use Rattle.asm_frags.proofs.SubstitutingLemmas.{named_substituted}
use Rattle.asm_frags.proofs.section_list.Sections+Loose.substituted.Goals as goal

pub invariant_of-result : goal.invariant_of-result
invariant_of-result g c =
    named_substituted (g.R.Substitution.substitute c.args.substitution.now) _ _ _ c.self.inside.sections.items c.in_ok-sections.sections.items c.self.invariant c.in_ok-sections.ensures.ok
