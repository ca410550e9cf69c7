-- The registers so far are taken, and those to come will be.
use Rattle.std.proofs.Common.{◌≡◌}
use Rattle.asm_frames.specs.Placing.{take_rule}
use Rattle.asm_operands.specs.Results.{all_steps}
use Rattle.asm_values.specs.PlacedBy.{placed_by}
use Rattle.asm_frames.proofs.frames.take_rules.Given as goal

abbrev pub invariant-loop-register : goal.invariant-loop-register
invariant-loop-register l = record {
  notes : l.assembler.notes ≡ l.fn.assembler.notes;
  left : all_steps (take_rule l.word) l.register-iterator.rest.items (placed_by l.assembler)
      ≡ all_steps (take_rule l.word) l.initial.register-iterator.rest.items (placed_by l.fn.assembler);
}
