-- What was written before and the piece are a front of the bytes.
use Rattle.std.proofs.Common.{arith}
use Rattle.std.proofs.lemmas.Grind.{common_steps}
use Rattle.elf_file.proofs.WritingLemmas.{written_on}
use Rattle.elf_file.proofs.writing.write_bytes.Goals as goal

pub pieces-preserved : goal.pieces-preserved
pieces-preserved g c = record {
  within = grind (arith, common_steps);
  made = written_on c.args.bytes.now _ c.pieces.at c.in_ok-at.field-0 _ _ _ c.pieces.invariant.made c.in_ok-at.ensures.ok (grind (arith, common_steps));
  faults = grind (arith, common_steps);
}
