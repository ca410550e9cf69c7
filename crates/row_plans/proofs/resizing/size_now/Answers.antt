-- The rows behind the row are moved by its size.
use Rattle.std.proofs.Common.{◌≡◌, ◌+◌, get_or, arith}
use Rattle.row_plans.proofs.SizedLemmas.{no_row}
use Rattle.row_plans.proofs.ResizingLemmas.{size_between}
use Rattle.row_plans.proofs.resizing.size_now.Goals as goal

pub returns-then-next-all-clause-size : goal.returns-then-next-all-clause-size
returns-then-next-all-clause-size c = λ sizes moved. (
    let index = c.args.index in
    let shifts = c.args.shifts.now in
    let next : c.get.result ≡ get_or shifts (index + 1) 0 = c.get.ensures in
    let own : c.get-then-next-all.result ≡ get_or shifts index 0 = c.get-then-next-all.ensures in
    let some = c.if-next-all.true in
    let is = size_between c.args.all.rows.now sizes shifts index (get_or c.args.all.ends.now index 0) no_row (c.requires.ends.each index c.requires.inside) (omega arith) moved (omega arith) in
    rw (next, own) is)
