-- Rounds that end in one that raises no level are a run, and reach the layout.
use Rattle.std.proofs.Common.{◌≡◌, ℕ, ◌+◌, ◌-◌, List, sym, ◌∙◌, subst, arith}
use Rattle.level_ranks.specs.Ranks.{IsLayout}
use Rattle.level_ranks.specs.Rounds.{after, IsSettled, IsAfterRounds}
use Rattle.level_ranks.proofs.RaisedLemmas.{raised_at}
use Rattle.level_ranks.proofs.RoundLemmas.{after_length, lowest_at, stays_within, stays_settled}
use Rattle.level_ranks.proofs.RunNumbers.{IsRun}
use Rattle.level_ranks.proofs.RunLayout.{run_layout}

rounds_run : (need : List ℕ → List ℕ) (tops start levels : List ℕ) (count : ℕ) → IsAfterRounds need tops start levels count → IsSettled need (after need start count)
    → IsRun need tops (λ round. after need start round) count
rounds_run need tops start levels count rounds settled = record {
  items = λ round. after_length need start round ∙ rounds.items;
  lowest = λ item. lowest_at start rounds.lowest item;
  step = λ round item inside. (let long = after_length need start round in let same = rounds.items in raised_at (after need start round) (need (after need start round)) item (omega arith));
  within = λ round item inside. stays_within need tops start rounds.items rounds.lowest rounds.within round item inside;
  still = λ round behind. (let same : count + (round - count) ≡ round = omega arith in subst (λ (m : ℕ). after need start m ≡ after need start count) same (stays_settled need start count (round - count) settled));
  rises = λ round before. (let up = rounds.rises round before in let long = after_length need start round in let same = rounds.items in (up.0, omega arith, up.2));
}

pub rounds_layout : (need : List ℕ → List ℕ) (tops start levels : List ℕ) (count : ℕ) → IsAfterRounds need tops start levels count → IsSettled need levels → IsLayout need tops levels (count + 1)
rounds_layout need tops start levels count rounds settled =
    let there : IsSettled need (after need start count) = subst (λ (xs : List ℕ). IsSettled need xs) rounds.levels_are settled in
    subst (λ (xs : List ℕ). IsLayout need tops xs (count + 1)) (sym rounds.levels_are) (run_layout need tops (λ round. after need start round) count (rounds_run need tops start levels count rounds there))
