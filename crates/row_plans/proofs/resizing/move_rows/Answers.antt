-- The first so many of the list are its rows.
use Rattle.std.proofs.Common.{◌≡◌, ℕ, take, length, subst, arith}
use Rattle.std.proofs.lemmas.List.{length-take-le}
use Rattle.row_plans.specs.Resizing.{AreResized}
use Rattle.row_plans.proofs.SizedLemmas.{sized_take}
use Rattle.row_plans.proofs.resizing.move_rows.Goals as goal

pub resize_dependents-many-requires-clause-resized : goal.resize_dependents-many-requires-clause-resized
resize_dependents-many-requires-clause-resized c =
    let room = c.if-count-risen.false in
    let sized = c.requires.sized (omega arith) in
    let long : length (take c.args.count c.args.risen.now) ≡ c.args.count = length-take-le c.args.count c.args.risen.now (omega arith) in (
      sized.0,
      subst (λ (many : ℕ). AreResized c.args.all.rows.now c.args.levels.now sized.0 c.resize_risen.new.shifts many c.resize_risen.new.touched) long
          (c.resize_risen.ensures.resized sized.0 (sized_take c.args.all.rows.now c.args.levels.now sized.0 c.args.shifts.now c.args.count c.args.risen.now (omega arith) sized.1)),
    )

pub returns-clause-resized : goal.returns-clause-resized
returns-clause-resized c =
    let room = c.if-count-risen.false in
    let sized = c.requires.sized (omega arith) in
    let long : length (take c.args.count c.args.risen.now) ≡ c.args.count = length-take-le c.args.count c.args.risen.now (omega arith) in (
      sized.0,
      sized.1.moved,
      c.resize_dependents-many.ensures.resized sized.0 (subst (λ (many : ℕ). AreResized c.args.all.rows.now c.args.levels.now sized.0 c.resize_risen.new.shifts many c.resize_risen.new.touched) long
          (c.resize_risen.ensures.resized sized.0 (sized_take c.args.all.rows.now c.args.levels.now sized.0 c.args.shifts.now c.args.count c.args.risen.now (omega arith) sized.1))),
    )
