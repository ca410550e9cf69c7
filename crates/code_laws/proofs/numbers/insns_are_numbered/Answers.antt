use Rattle.code_laws.proofs.Numbering.{numbers_are_known}
use Rattle.code_laws.proofs.numbers.insns_are_numbered.Goals as goal

pub returns : goal.returns
returns c =
    numbers_are_known (record {
      following = c.following_is_placing.ensures.placed;
      split = c.statements_split.ensures.whole;
      begins = c.numbers_fit.ensures.begins;
      stays = c.numbers_fit.ensures.stays;
      values = c.values_fit.ensures;
    })
