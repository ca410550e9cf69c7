-- One register alone is all that the directive has.
use Rattle.std.proofs.Common.{map, subst}
use Rattle.asm_base.specs.Refusals.{Gives}
use Rattle.asm_base.specs.Tokens.{spelled}
use Rattle.asm_values.specs.PlacedBy.{placed_by}
use Rattle.asm_frames.proofs.OneLemmas.{one_placed}
use Rattle.asm_frames.proofs.frames.place_rules.Goals as goal

pub returns-in-None-clause-placed : goal.returns-in-None-clause-placed
returns-in-None-clause-placed c =
    subst (Gives (placed_by c.place_one.new.assembler) c.place_one.result)
    (one_placed c.args.word (map spelled c.args.tokens.now) (map spelled c.in-Some.first.now) (placed_by c.args.assembler.now) _ _
    c.new-operands.ensures c.in-Some.ensures.steps c.in-None.ensures.steps.0)
    c.place_one.ensures.placed
