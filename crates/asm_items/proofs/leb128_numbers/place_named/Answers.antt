-- One number that is a sum is what the statement places.
use Rattle.std.proofs.Common.{◌∙◌, ap, map, subst, Ok}
use Rattle.asm_base.specs.Refusals.{Gives}
use Rattle.asm_base.specs.Tokens.{spelled}
use Rattle.asm_operands.specs.FewSums.{few_trees}
use Rattle.asm_operands.specs.Sums.{sum_tree}
use Rattle.asm_values.specs.PlacedBy.{placed_by}
use Rattle.asm_items.proofs.ReadNumbers.{one_placed}
use Rattle.asm_items.proofs.leb128_numbers.place_named.Goals as goal

pub returns-in-Some-One-clause-placed : goal.returns-in-Some-One-clause-placed
returns-in-Some-One-clause-placed c =
    subst (Gives (placed_by c.place_sum.new.assembler) c.place_sum.result)
    (one_placed c.args.pos c.args.signed (map spelled c.args.tokens.now) (sum_tree c.in-Some-One.sum) (placed_by c.args.assembler.now)
    (c.in-Some-One.ensures ∙ ap (λ few. Ok (few_trees few)) c.in-Some-One.field-0-is))
    c.place_sum.ensures.placed
