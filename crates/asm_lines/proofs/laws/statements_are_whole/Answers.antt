-- Every text is divided into its pieces.
use Rattle.asm_lines.proofs.Runs.{are_runs}
use Rattle.asm_lines.proofs.laws.statements_are_whole.Goals as goal

pub returns : goal.returns
returns c = are_runs c.one_division.ensures.some
