-- Two values, and what ends them.
use Rattle.std.proofs.Common.{rules}
use Rattle.asm_values.specs.PlacedBy.{placed_by}
use Rattle.asm_values.proofs.DataEnds.{two_ended}
use Rattle.asm_values.proofs.assemblers.Assembler.put_two.Goals as goal
use Rattle.asm_values.proofs.assemblers.Assembler.put_two.Goals.{then-uses_place, else-uses_place}

pub returns-clause-placed : goal.returns-clause-placed
returns-clause-placed c =
    two_ended c.args.pos c.args.size c.args.naming c.args.spot c.if-uses_place.keeps _ c.end_data.result (placed_by c.end_data.new.self) (placed_by c.args.self.now) c.requires.spot
    c.args.form c.args.other (placed_by c.put_form.new.self) (placed_by c.put_form-2.new.self) c.in_ok-put_form.ensures.placed c.in_ok-put_form-2.ensures.placed
    (elim c.if-uses_place.branch [ then-uses_place w ↦ search rules | else-uses_place w ↦ search rules ]) (search rules) c.end_data.ensures.placed
