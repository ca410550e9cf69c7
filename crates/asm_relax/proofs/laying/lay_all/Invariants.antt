-- The sections so far are laid out.
use Rattle.std.proofs.Common.{◌≡◌, length}
use Rattle.asm_relax.proofs.LayingLemmas.{first_row, laid_front}
use Rattle.asm_relax.proofs.laying.lay_all.Given as goal

abbrev pub invariant-loop-number : goal.invariant-loop-number
invariant-loop-number l = record {
  sections : l.sections ≡ laid_front l.number l.rows.shifts l.fn.sections;
  first : l.first ≡ first_row l.number l.fn.sections;
  same : length l.sections ≡ length l.fn.sections;
}
