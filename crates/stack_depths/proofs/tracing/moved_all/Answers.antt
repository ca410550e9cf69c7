use Rattle.std.proofs.Common.{false, ap, ◌∙◌}
use Rattle.insn_effects.specs.Followed.{moves_by}
use Rattle.stack_depths.specs.Distances.{has_bit, moved_by}
use Rattle.stack_depths.specs.States.{known}
use Rattle.stack_depths.proofs.DepthLemmas.{unwritten}
use Rattle.stack_depths.proofs.tracing.moved_all.Goals as goal

pub returns-then-written-eq0-clause-at : goal.returns-then-written-eq0-clause-at
returns-then-written-eq0-clause-at c = λ q h.
    let e = c.args.effect.now in
    c.moved_alone.ensures.at q h ∙ ap (λ m. moved_by m false (known c.args.before.now) q) c.followed_move-made.ensures
    ∙ unwritten (moves_by e.role e) e.written (known c.args.before.now) q c.if-written-eq0.true

pub returns-clause-at : goal.returns-clause-at
returns-clause-at c = λ q h.
    c.moved_each.ensures.at q h ∙ ap (λ m. moved_by m (has_bit c.args.effect.now.written q) (known c.args.before.now) q) c.followed_move-made.ensures
