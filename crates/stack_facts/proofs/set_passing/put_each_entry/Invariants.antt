use Rattle.std.proofs.Common.{◌≡◌, ◌+◌, ◌<◌, ◌≤◌, ℕ, false, get_or, length}
use Rattle.insn_effects.specs.Followed.{followed_by}
use Rattle.stack_facts.specs.Places.{writes}
use Rattle.stack_facts.specs.Facts.{entry, facts_after}
use Rattle.stack_facts.specs.Sets.{holds_in}
use Rattle.stack_facts.proofs.set_passing.put_each_entry.Given as goal

abbrev pub invariant-loop-k : goal.invariant-loop-k
invariant-loop-k l = record {
  long : length l.out ≡ length l.fn.out;
  done : (k : ℕ) → k < l.k → get_or l.out k false ≡ facts_after (writes (followed_by l.effect)) l.change (holds_in l.slots l.before) (entry (k + 1));
  others : (k : ℕ) → 6 ≤ k → get_or l.out k false ≡ get_or l.fn.out k false;
}
