-- One value, and what ends it.
use Rattle.std.proofs.Common.{rules}
use Rattle.asm_values.specs.PlacedBy.{placed_by}
use Rattle.asm_values.proofs.DataEnds.{one_ended}
use Rattle.asm_values.proofs.assemblers.Assembler.put_one.Goals as goal

pub returns-clause-placed : goal.returns-clause-placed
returns-clause-placed c =
    one_ended c.args.pos c.args.size c.args.naming c.args.spot c.uses_place-keeps.result _ c.end_data.result (placed_by c.end_data.new.self) (placed_by c.args.self.now) c.requires.spot
    c.args.form (placed_by c.put_form.new.self) c.in_ok-put_form.ensures.placed (search rules) (search rules) c.end_data.ensures.placed
