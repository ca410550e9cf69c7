-- The numbers so far are put, and those to come will be.
use Rattle.std.proofs.Common.{◌≡◌}
use Rattle.asm_items.specs.Leb128Numbers.{put_numbers}
use Rattle.asm_values.specs.PlacedBy.{placed_by}
use Rattle.asm_items.proofs.leb128_numbers.put_numbers.Given as goal

abbrev pub invariant-loop-form : goal.invariant-loop-form
invariant-loop-form l = record {
  notes : l.assembler.notes ≡ l.fn.assembler.notes;
  left : put_numbers l.pos l.signed l.form-iterator.rest.items (placed_by l.assembler)
      ≡ put_numbers l.pos l.signed l.initial.form-iterator.rest.items (placed_by l.fn.assembler);
}
