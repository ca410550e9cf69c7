-- The first so many of the list are its rows.
use Rattle.std.proofs.Common.{◌≡◌, ◌≤◌, ℕ, Option, IfSome, length, take, inl, inr, sym, subst, arith}
use Rattle.std.proofs.lemmas.List.{get_or-take, length-take-le}
use Rattle.asm_levels.specs.Watching.{leaf_of, HasEntryAbove}
use Rattle.row_plans.specs.Looking.{AreCalm}
use Rattle.row_plans.proofs.looking.look_where.Goals as goal

pub look_few-requires-clause-calm : goal.look_few-requires-clause-calm
look_few-requires-clause-calm g c = λ index within. (
    let rows = c.args.entries.now.rows.items in
    let nodes = c.args.entries.now.nodes.items in
    let follows = c.args.entries.now.follows.items in
    let many = c.in-Some.many in
    let end : many ≤ length c.args.touched.now = subst (λ (m : Option ℕ). IfSome m (λ (n : ℕ). n ≤ length c.args.touched.now)) c.in-Some.is c.requires.end in
    let long : length (take many c.args.touched.now) ≡ many = length-take-le many c.args.touched.now end in
    let calm : AreCalm c.args.view.rows.now c.args.view.shifts.now c.args.levels.now rows nodes follows c.args.wide.now many c.args.touched.now =
    subst (λ (m : Option ℕ). IfSome m (λ (n : ℕ). AreCalm c.args.view.rows.now c.args.view.shifts.now c.args.levels.now rows nodes follows c.args.wide.now n c.args.touched.now)) c.in-Some.is c.requires.calm in
    elim (calm index within) [
      | inl enough ↦ inl enough
      | inr rest ↦ elim rest [
        | inl touched ↦ inr (inl (
          touched.0,
          (let less = touched.1 in omega arith),
          subst (λ (row : ℕ). HasEntryAbove rows nodes follows index (leaf_of (length c.args.view.rows.now) row)) (sym (get_or-take many c.args.touched.now touched.0 0 touched.1)) touched.2,
        ))
        | inr among ↦ inr (inr among)
      ]
    ])
