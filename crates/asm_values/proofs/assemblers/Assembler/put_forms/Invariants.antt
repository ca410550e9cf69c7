-- The forms so far are put, and those to come will be.
use Rattle.std.proofs.Common.{◌≡◌}
use Rattle.asm_values.specs.DataItems.{put_forms}
use Rattle.asm_values.specs.PlacedBy.{placed_by}
use Rattle.asm_values.proofs.assemblers.Assembler.put_forms.Given as goal

abbrev pub invariant-loop-form : goal.invariant-loop-form
invariant-loop-form l = record {
  notes : l.self.notes ≡ l.fn.self.notes;
  left : put_forms l.pos l.size l.form-iterator.rest.items (placed_by l.self) ≡ put_forms l.pos l.size l.initial.form-iterator.rest.items (placed_by l.fn.self);
}
