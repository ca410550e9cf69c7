-- A prefix operator and a number are one number.
use Rattle.std.proofs.Common.{subst, sym}
use Rattle.asm_operands.proofs.CutLemmas.{two_constant}
use Rattle.asm_operands.proofs.constants.turned_number.Goals as goal

pub returns : goal.returns
returns c =
    let value = c.turned.ensures in
    rw value (two_constant c.args.sign.now c.args.token.now c.in_ok-op.op c.in_ok-number.number c.in_ok-op.ensures c.in_ok-number.ensures)
