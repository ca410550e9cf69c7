-- The parts of a `.loc` of numbers alone are its row.
use Rattle.std.proofs.Common.{map, sym, subst}
use Rattle.asm_base.specs.Tokens.{spelled}
use Rattle.asm_line_tables.specs.Constants.{IsConstantLoc}
use Rattle.asm_line_tables.proofs.ConstantLocLemmas.{constant_row}
use Rattle.asm_line_tables.proofs.constants.constant_loc.Goals as goal

pub returns : goal.returns
returns c =
    subst (IsConstantLoc (map spelled c.args.tokens.now)) (sym c.loc_line.ensures)
    (constant_row (map spelled c.args.tokens.now) _ _ _ _ _ _ _ _ _ c.no_numbers-numbers.ensures c.in_ok-behind_file.ensures.number c.in_ok-behind_line.ensures.number c.in_ok-options.ensures c.in_ok-marks.ensures)
