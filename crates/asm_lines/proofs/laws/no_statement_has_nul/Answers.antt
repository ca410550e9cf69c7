-- A source that has a byte 0 is refused.
use Rattle.asm_lines.proofs.RunLaws.{have_no_nul}
use Rattle.asm_lines.proofs.laws.no_statement_has_nul.Goals as goal

pub returns : goal.returns
returns c = have_no_nul
