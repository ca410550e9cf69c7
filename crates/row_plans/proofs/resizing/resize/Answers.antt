-- The rows behind the row are moved by what its size grows.
use Rattle.std.proofs.Common.{get_or, ◌∙◌, refl, arith}
use Rattle.row_plans.proofs.ResizingLemmas.{set_unmoved, set_same, set_moved}
use Rattle.row_plans.proofs.resizing.resize.Goals as goal

pub returns-in_default-clause-moved : goal.returns-in_default-clause-moved
returns-in_default-clause-moved c = λ sizes moved. set_unmoved c.args.all.rows.now sizes c.args.shifts.now c.args.index c.args.size (get_or c.args.all.ends.now c.args.index 0) c.requires.inside
    (c.requires.ends.each c.args.index c.requires.inside) (c.size_now.ensures.none c.in_default.is) moved

pub returns-then-size-old-clause-moved : goal.returns-then-size-old-clause-moved
returns-then-size-old-clause-moved c = λ sizes moved. set_moved c.args.all.rows.now sizes c.args.shifts.now c.add.new.self c.args.index c.args.size (get_or c.args.all.ends.now c.args.index 0) c.in-Some.old _
    (omega arith) (c.in-Some.ensures.size sizes moved) refl (c.requires.ends.each c.args.index c.requires.inside) c.add.ensures moved

pub returns-else-size-old-clause-moved : goal.returns-else-size-old-clause-moved
returns-else-size-old-clause-moved c = λ sizes moved. set_same c.args.all.rows.now sizes c.args.shifts.now c.args.index c.args.size (get_or c.args.all.ends.now c.args.index 0) c.requires.inside
    (c.requires.ends.each c.args.index c.requires.inside) c.in-Some.ensures.some (c.if-size-old.false ∙ c.in-Some.ensures.size sizes moved) moved
