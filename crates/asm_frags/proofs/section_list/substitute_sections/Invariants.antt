-- The sections so far are made.
use Rattle.std.proofs.Common.{◌≡◌, map}
use Rattle.asm_frags.specs.Substituting.{laid_section}
use Rattle.asm_frags.proofs.section_list.substitute_sections.Given as goal

abbrev pub invariant-loop-section : goal.invariant-loop-section
invariant-loop-section g l = l.made.items ≡ map (laid_section (g.R.Substitution.substitute l.substitution)) l.yielded
