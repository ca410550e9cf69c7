use Rattle.std.proofs.Common.{false, get_or, ap, ◌∙◌}
use Rattle.number_sets.proofs.BitLemmas.{set_other}
use Rattle.number_sets.proofs.words.Word.with.Goals as goal

pub returns-clause-others : goal.returns-clause-others
returns-clause-others c = λ j ne.
    set_other c.with_bit.result c.self.inside.bits c.args.k j ne c.with_bit.ensures.others ∙ ap (λ bits. get_or bits j false) c.self.view_is
