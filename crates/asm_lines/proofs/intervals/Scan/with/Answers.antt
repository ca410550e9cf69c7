-- The span ends by the end of the piece.
use Rattle.std.proofs.Common.{◌+◌, sym, subst}
use Rattle.asm_lines.specs.Scan.{EndsBy}
use Rattle.asm_lines.proofs.Scans.{ends_with_piece}
use Rattle.asm_lines.proofs.intervals.Scan.with.Goals as goal

pub returns-clause-within : goal.returns-clause-within
returns-clause-within c =
    subst (EndsBy (c.args.piece.start + c.args.piece.length)) (sym c.with_piece.ensures) (ends_with_piece c.args.self.span c.args.piece c.requires.within)
