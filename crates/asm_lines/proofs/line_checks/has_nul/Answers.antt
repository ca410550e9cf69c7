-- A byte 0 is found where there is one.
use Rattle.std.proofs.Common.{◌∙◌}
use Rattle.asm_lines.proofs.LineFaults.{nul_is_found}
use Rattle.asm_lines.proofs.line_checks.has_nul.Goals as goal

pub returns : goal.returns
returns c = c.contains.ensures.value ∙ nul_is_found c.args.source.now
