-- Data of one value or of two: what stands behind the values ends it.
use Rattle.std.proofs.Common.{◌≡◌, ℕ, Bool, [], ◌∷◌, Result, Ok, refl, sym, subst}
use Rattle.std.specs.List.{list_any, count_by}
use Rattle.asm_base.specs.Refusals.{Gives}
use Rattle.asm_base.specs.declared.positions.Pos.{Pos}
use Rattle.asm_base.specs.declared.refusals.Refusal.{Refusal}
use Rattle.asm_expr.specs.Forms.{Form}
use Rattle.asm_frags.specs.declared.fields.FieldSize.{FieldSize}
use Rattle.asm_operands.specs.Results.{all_steps}
use Rattle.asm_operands.specs.declared.place_faults.PlaceCause.{PlaceCause}
use Rattle.asm_symbols.specs.declared.entries.Spot.{Spot}
use Rattle.asm_uses.specs.Places.{uses_place}
use Rattle.asm_uses.specs.declared.tables.Naming.{Naming}
use Rattle.asm_values.specs.Data.{end_data, put_data}
use Rattle.asm_values.specs.DataItems.{put_form, put_forms, is_cut}
use Rattle.asm_values.specs.State.{Placed, here, known_here}

module _ {T : Type 0} (pos : Pos) (size : FieldSize) (naming : Naming) (spot : Spot) (keeps : Bool) (cut : ℕ) (result : Result T (Refusal PlaceCause)) (new placed : Placed) (is_spot : spot ≡ here placed) where
  -- one value,
  pub one_ended : (form : Form) (put : Placed)
      → put_form pos size form placed ≡ Ok put
      → keeps ≡ list_any (uses_place (known_here placed).place) (form ∷ []) → cut ≡ count_by (is_cut size) (form ∷ [])
      → Gives new result (end_data pos naming spot keeps cut put) → Gives new result (put_data pos size naming (form ∷ []) placed)
  unfolding put_data put_forms all_steps
  one_ended form put first kept counted given =
      let same : put_data pos size naming (form ∷ []) placed ≡ end_data pos naming spot keeps cut put = rw (first, is_spot, kept, counted) refl in
      subst (Gives new result) (sym same) given

  -- and two
  pub two_ended : (form other : Form) (between put : Placed)
      → put_form pos size form placed ≡ Ok between → put_form pos size other between ≡ Ok put
      → keeps ≡ list_any (uses_place (known_here placed).place) (form ∷ other ∷ []) → cut ≡ count_by (is_cut size) (form ∷ other ∷ [])
      → Gives new result (end_data pos naming spot keeps cut put) → Gives new result (put_data pos size naming (form ∷ other ∷ []) placed)
  unfolding put_data put_forms all_steps
  two_ended form other between put first second kept counted given =
      let same : put_data pos size naming (form ∷ other ∷ []) placed ≡ end_data pos naming spot keeps cut put = rw (first, second, is_spot, kept, counted) refl in
      subst (Gives new result) (sym same) given
