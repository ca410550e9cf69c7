-- Each kind of token by itself.
use Rattle.intel_sums.proofs.LoneSums.{stays}
use Rattle.intel_sums.proofs.laws.calm_tokens_stay.Goals as goal

pub returns : goal.returns
returns c = stays
