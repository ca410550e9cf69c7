use Rattle.std.proofs.Common.{refl}
use Rattle.x86_table.specs.Rows.{the_rows}
use Rattle.x86_table.proofs.laws.worked_order.Goals as goal

pub returns : goal.returns
unfolding the_rows
returns c = record { add = refl; mov = refl; movups = refl; movss = refl; movaps = refl; movdqa = refl }
