use Rattle.std.proofs.Common.{◌≡◌, ℕ, ◌<◌, length, option_map}
use Rattle.stack_depths.specs.Accesses.{move_by}
use Rattle.stack_depths.specs.Distances.{has_bit, moved_by}
use Rattle.stack_depths.specs.States.{known}
use Rattle.stack_depths.proofs.tracing.moved_each.Given as goal

abbrev pub invariant-loop-q : goal.invariant-loop-q
invariant-loop-q l =
    record {
      long : length l.out ≡ 7;
      done : (q : ℕ) → q < l.q → known l.out q ≡ moved_by (option_map move_by l.made) (has_bit l.effect.written q) (known l.before) q;
    }
