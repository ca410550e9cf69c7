-- Data (GNU as manual, ".byte", ".short", ".long", ".quad"): the bytes of known values, fields for the others, and the notes of values that do not fit.
use Rattle.std.specs.Prelude.{ℕ, not, Bool, false, List, [], ◌∷◌, Result, replicate}
use Rattle.asm_base.specs.declared.faults.Note.TheVariants.{ValueTruncated}
use Rattle.asm_base.specs.declared.notes.Noted.{Noted}
use Rattle.asm_base.specs.declared.positions.Pos.{Pos}
use Rattle.asm_expr.specs.declared.forms.Term.{Term}
use Rattle.asm_expr.specs.Forms.{Form}
use Rattle.asm_frags.specs.declared.fields.FieldSize.{FieldSize}
use Rattle.asm_frags.specs.Fields.{fits, data_role, low_bytes}
use Rattle.asm_operands.specs.declared.place_faults.PlaceCause.{PlaceCause}
use Rattle.asm_operands.specs.Results.{all_steps}
use Rattle.asm_values.specs.State.{Placed, put_bytes, put_field}

-- bytes for a form without symbols, and a field of data for another
abbrev pub put_by : List Term → Pos → FieldSize → Form → Placed → Result Placed PlaceCause
put_by [] pos size form placed = put_bytes pos (low_bytes size form.constant) placed
put_by (term ∷ terms) pos size form placed = put_field pos size data_role form placed

-- a form more in the current section
abbrev pub put_form : Pos → FieldSize → Form → Placed → Result Placed PlaceCause
put_form pos size form placed = put_by form.terms pos size form placed

-- one form after the other in the current section
unfoldable pub put_forms : Pos → FieldSize → List Form → Placed → Result Placed PlaceCause
put_forms pos size forms placed = all_steps (put_form pos size) forms placed

-- a value that is known and does not fit
abbrev pub cut_by : List Term → FieldSize → ℕ → Bool
cut_by [] size constant = not (fits size constant)
cut_by (term ∷ terms) size constant = false

-- the form is a number that the field does not hold
abbrev pub is_cut : FieldSize → Form → Bool
is_cut size form = cut_by form.terms size form.constant

-- the warning that a value is cut, at this place
abbrev pub cut_note : Pos → Noted
cut_note pos = record { note = ValueTruncated; pos = pos }

-- a note for each value that does not fit
abbrev pub cut_notes : Pos → ℕ → List Noted
cut_notes pos count = replicate count (cut_note pos)
