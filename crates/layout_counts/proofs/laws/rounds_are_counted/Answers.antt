-- Each law of rounds is used.
use Rattle.layout_counts.proofs.CountedRounds.{rounds_counted}
use Rattle.layout_counts.proofs.laws.rounds_are_counted.Goals as goal

pub returns : goal.returns
returns c =
    rounds_counted (record {
      one = c.one_ranking.ensures;
      none = c.one_round_more.ensures.none;
      more = c.one_round_more.ensures.more;
      few = c.rounds_are_few.ensures;
      reach = c.rounds_reach_the_layout.ensures;
    }) c.needs_stay_within_tops.ensures
