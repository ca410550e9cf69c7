-- The rows before the index are looked at.
use Rattle.std.proofs.Common.{◌≡◌, ◌<◌, ◌≤◌, ◌+◌, ℕ, nat_lt, length, get_or, take}
use Rattle.std.specs.List.{All}
use Rattle.asm_levels.specs.Needs.{levels_needed, several}
use Rattle.asm_levels.proofs.LookLemmas.{IsLooked, ListedBefore}
use Rattle.asm_levels.proofs.rounds.look.Given as goal

abbrev pub invariant-loop-index : goal.invariant-loop-index
invariant-loop-index g l = record {
  looked : IsLooked l.fn.levels l.levels (levels_needed l.shifts l.rows) l.index (nat_lt 0 l.count);
  counted : l.count ≤ l.index;
  listed : ListedBefore l.fn.levels l.levels l.count l.risen l.index;
  inside : (at : ℕ) → at < l.count → at < length l.risen → get_or l.risen at 0 < l.index;
  room : length l.risen ≡ length l.fn.risen;
  at_most : l.steps ≤ l.fn.steps + several (take l.index l.rows);
  later : l.fn.steps ≤ l.steps;
  lowest : All (λ level. level ≡ 0) l.fn.levels → l.fn.steps + several (take l.index l.rows) ≤ l.steps;
}
