-- Most statements have no label.
use Rattle.std.proofs.Common.{map, sym, subst, ◌∙◌}
use Rattle.asm_base.specs.Tokens.{spelled}
use Rattle.asm_base.specs.Refusals.{Gives}
use Rattle.asm_values.specs.PlacedBy.{placed_by}
use Rattle.asm_place.proofs.LabelLemmas.{tokens_unlabelled}
use Rattle.asm_place.proofs.placing.place_tokens.Goals as goal

pub returns-clause-placed : goal.returns-clause-placed
returns-clause-placed c =
    let all = tokens_unlabelled c.args.pos (map spelled c.args.tokens.now) (placed_by c.args.assembler.now) (sym c.begins_labelled.ensures ∙ c.if-begins_labelled.false) in
    subst (λ answer. Gives (placed_by c.place_unlabelled.new.assembler) c.place_unlabelled.result answer) all c.place_unlabelled.ensures.placed
