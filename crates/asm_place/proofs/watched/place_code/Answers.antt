-- The statement is its instruction.
use Rattle.std.proofs.Common.{map, sym, subst}
use Rattle.asm_base.specs.Tokens.{spelled}
use Rattle.asm_base.specs.Refusals.{Gives}
use Rattle.asm_values.specs.PlacedBy.{placed_by}
use Rattle.asm_place.proofs.BodyLemmas.{insn_placed}
use Rattle.asm_place.proofs.watched.place_code.Goals as goal

pub returns-clause-placed : goal.returns-clause-placed
returns-clause-placed c =
    let all = insn_placed c.args.pos (map spelled c.args.tokens.now) (placed_by c.args.assembler.now) c.requires.bare c.requires.code in
    subst (λ answer. Gives (placed_by c.place_instruction.new.assembler) c.place_instruction.result answer) (sym all) c.place_instruction.ensures.placed
