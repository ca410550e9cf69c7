-- The values of fields that hold distances.
use Rattle.std.proofs.Common.{◌≡◌, ℕ, ◌+◌, ◌-◌, ◌*◌, ◌^◌, ◌<◌, ◌≤◌, ◌==◌, ◌||◌, Bool, true, false, cond, List, length, None, Some, refl, sym, ap, subst, ◌∙◌, arith}
use Rattle.std.specs.Prelude.{option_map}
use Rattle.std.proofs.lemmas.Bool.Decides.{Decides-eqb}
use Rattle.asm_expr.specs.declared.forms.Term.{Term}
use Rattle.asm_expr.specs.Coefficients.{is_among}
use Rattle.asm_expr.specs.Forms.{Form, wrapped, constant_form, symbol_form}
use Rattle.asm_expr.specs.Knowledge.{Told, label}
use Rattle.asm_expr.specs.Settled.{settled, put_all, constant_left}
use Rattle.asm_symbols.specs.Assigning.{form_at}
use Rattle.asm_symbols.specs.SymbolMap.{SymbolMap}
use Rattle.asm_frags.specs.declared.fields.Field.{Field}
use Rattle.asm_frags.specs.Fields.{own_place}
use Rattle.asm_frags.specs.Substituting.{substituted_field}
use Rattle.assigned_forms.specs.Expanding.{names_assigned, expanded_within, expanded}
use Rattle.assigned_forms.specs.Linked.{linked_map, linked}
use Rattle.item_rows.specs.Links.{is_suffixed, leaves_weak, is_linked}
use Rattle.asm_relax.specs.FieldValues.{told_in_field, less, counted_bytes, counted, held_value}
use Rattle.asm_relax.specs.Settling.{LaidSections}
use Rattle.asm_base.specs.declared.places.SectionPlace.{SectionPlace}
use Rattle.table_pieces.specs.declared.marks.Distance.{Distance}
use Rattle.table_pieces.specs.declared.marks.Mark.TheVariants.{Here, At}
use Rattle.piece_laws.specs.HeldDistances.{mark_section, HasDistance, IsPlainDistance, laid_mark, Leads, DistancesAreHeld, FormsAreExpanded, IsBetweenPlaces, PlacesAreApart, HasAddress, AddressesAreLinked}
use Rattle.piece_laws.specs.Pointers.{one_symbol, OneSymbolsStay}
use Rattle.piece_laws.proofs.LinkedForms.{linked_formless}
use Rattle.piece_laws.proofs.NumberForms.{both_form, apart_form, same_form}
use Rattle.piece_laws.proofs.ToldMarks.{label_else, mark_formless, mark_strong, mark_known}

-- a form without assigned symbols is its own expansion
unnamed_expanded : (map : SymbolMap) (form : Form) → names_assigned map form ≡ false → expanded map form ≡ form
unfolding expanded expanded_within
unnamed_expanded map form none = rw none refl

-- a form that names no assigned symbol is that of its field
unnamed_linked : (map : SymbolMap) (form : Form) → names_assigned (linked_map map) form ≡ false → linked map form ≡ form
unfolding linked
unnamed_linked map form none = unnamed_expanded (linked_map map) form none

-- one symbol that is no assigned one stays in a form, alone or beside the own place of a field
one_unassigned : (map : SymbolMap) (symbol : ℕ) (own : Bool) (form : Form) → length map.symbols ≤ own_place → form_at map.symbols symbol ≡ None
    → names_assigned (linked_map map) (record form { terms = one_symbol symbol own }) ≡ false
one_unassigned map symbol false form few none = rw (linked_formless map symbol none) refl
one_unassigned map symbol true form few none =
    rw (linked_formless map symbol none, linked_formless map own_place (mark_formless map few Here own_place refl)) refl

pub one_stays : OneSymbolsStay
one_stays map laid number section offset size form symbol own few none is held =
    held.is_form
    ∙ unnamed_linked map form
    (ap (λ (terms : List Term). names_assigned (linked_map map) (record form { terms = terms })) is ∙ one_unassigned map symbol own form few none)

-- two labels of one stretch cancel
both_cancel : (told : ℕ → Told) (stretch at origin to from plus : ℕ) → told to ≡ label stretch at → told from ≡ label stretch origin
    → constant_left (settled told (both_form to from plus))
    ≡ Some (wrapped (wrapped (plus + wrapped (1 * at)) + wrapped ((2 ^ 64 - 1) * origin)))
unfolding settled put_all
both_cancel told stretch at origin to from plus is also =
    let same : (stretch == stretch) ≡ true = (Decides-eqb stretch stretch).1 refl in
    rw (is, also, same) refl

-- a number is what is left of it
constant_settled : (told : ℕ → Told) (plus : ℕ) → constant_left (settled told (constant_form plus)) ≡ Some plus
unfolding settled put_all
constant_settled told plus = refl

-- equal labels are at one place
one_place : (stretch at others origin : ℕ) → label stretch at ≡ label others origin → at ≡ origin
one_place stretch at others origin same = cc

module _ (map : SymbolMap) (field : Field) (distance : Distance) (has : HasDistance map field distance) where
  unassigned : (one : Bool) → (has.to == has.from) ≡ one → names_assigned (linked_map map) field.form ≡ false
  unassigned false apart =
      ap (names_assigned (linked_map map)) (has.form ∙ apart_form has.to has.from distance.plus apart has.plus)
      ∙ (rw (
        linked_formless map has.to (mark_formless map has.few distance.to has.to has.to_named),
        linked_formless map has.from (mark_formless map has.few distance.from has.from has.from_named),
      ) refl)
  unassigned true same = ap (names_assigned (linked_map map)) (has.form ∙ same_form has.to has.from distance.plus same has.plus)

  form_expanded : linked map field.form ≡ field.form
  form_expanded = unnamed_linked map field.form (unassigned (has.to == has.from) refl)

  unweak : (one : Bool) → (has.to == has.from) ≡ one → leaves_weak map field.form ≡ false
  unweak false apart =
      ap (leaves_weak map) (has.form ∙ apart_form has.to has.from distance.plus apart has.plus)
      ∙ (rw (mark_strong map has.few distance.to has.to has.to_named, mark_strong map has.few distance.from has.from has.from_named) refl)
  unweak true same = ap (leaves_weak map) (has.form ∙ same_form has.to has.from distance.plus same has.plus)

  module _ (laid : LaidSections) (plain : IsPlainDistance field distance) where
    free : is_linked map field ≡ false
    free = ap (λ suffix. is_suffixed suffix || leaves_weak map field.form) plain.bare ∙ unweak (has.to == has.from) refl

    abbrev told : ℕ → Told
    told = told_in_field map laid field

    to_known : told has.to ≡ label (mark_section field.section distance.to) (laid_mark laid field distance.to)
    to_known = mark_known map has.few laid field free distance.to has.to has.to_named

    from_known : told has.from ≡ label (mark_section field.section distance.from) (laid_mark laid field distance.from)
    from_known = mark_known map has.few laid field free distance.from has.from has.from_named

    from_beside : told has.from ≡ label (mark_section field.section distance.to) (laid_mark laid field distance.from)
    from_beside = from_known ∙ ap (λ section. label section (laid_mark laid field distance.from)) (sym plain.one)

    abbrev TheValue : Type 0
    TheValue = (value : ℕ) × (constant_left (settled told field.form) ≡ Some value) × Leads laid field distance value

    the_value : (one : Bool) → (has.to == has.from) ≡ one → TheValue
    the_value false apart =
        let at = laid_mark laid field distance.to in
        let origin = laid_mark laid field distance.from in (
          wrapped (wrapped (distance.plus + wrapped (1 * at)) + wrapped ((2 ^ 64 - 1) * origin)),
          ap (λ (form : Form). constant_left (settled told form)) (has.form ∙ apart_form has.to has.from distance.plus apart has.plus)
              ∙ both_cancel told (mark_section field.section distance.to) at origin has.to has.from distance.plus to_known from_beside,
          record { within = omega arith; leads = omega arith },
        )
    the_value true same =
        let at = laid_mark laid field distance.to in
        let origin = laid_mark laid field distance.from in
        let number : has.to ≡ has.from = (Decides-eqb has.to has.from).0 same in
        let place : at ≡ origin =
        one_place (mark_section field.section distance.to) at (mark_section field.section distance.from) origin
        (sym to_known ∙ ap told number ∙ from_known) in
        let low = has.plus in (
          distance.plus,
          ap (λ (form : Form). constant_left (settled told form)) (has.form ∙ same_form has.to has.from distance.plus same has.plus)
              ∙ constant_settled told distance.plus,
          record { within = low; leads = omega (arith, place) },
        )

    uncounted : (value : ℕ) → counted field.size field.role value ≡ value
    uncounted value = ap (λ b. cond b (less value (counted_bytes field.size field.role)) value) plain.plain

    substituted_same : substituted_field (linked map) field ≡ field
    substituted_same =
        ap (λ (form : Form). substituted_field (λ (other : Form). form) field) form_expanded

    field_held : (value : ℕ) → constant_left (settled told field.form) ≡ Some value → held_value map laid field ≡ Some value
    unfolding held_value
    field_held value is = ap (option_map (counted field.size field.role)) is ∙ ap Some (uncounted value)

    leads_there : (value : ℕ) × (held_value map laid (substituted_field (linked map) field) ≡ Some value) × Leads laid field distance value
    leads_there =
        let found = the_value (has.to == has.from) refl in
        (found.0, ap (held_value map laid) substituted_same ∙ field_held found.0 found.1, found.2)

-- distances are held
pub held : DistancesAreHeld
held map laid field distance has plain = leads_there map field distance has laid plain

-- forms of distances are those of fields
pub are_expanded : FormsAreExpanded
are_expanded map field distance has = form_expanded map field distance has

-- distances between places do not name the field's own place
pub places_apart : PlacesAreApart
places_apart map field to from plus has = by (has.to == has.from) refl
  where
    by : (one : Bool) → (has.to == has.from) ≡ one → IsBetweenPlaces field.form
    by false apart =
        let is : field.form ≡ both_form has.to has.from plus = has.form ∙ apart_form has.to has.from plus apart has.plus in
        record {
          own = ap (λ (form : Form). is_among own_place form.terms) is
              ∙ (rw (label_else map has.few to has.to has.to_named, label_else map has.few from has.from has.from_named) refl);
          small = subst (λ (form : Form). form.constant < 2 ^ 64) (sym is) has.plus;
        }
    by true same =
        let is : field.form ≡ constant_form plus = has.form ∙ same_form has.to has.from plus same has.plus in
        record {
          own = ap (λ (form : Form). is_among own_place form.terms) is;
          small = subst (λ (form : Form). form.constant < 2 ^ 64) (sym is) has.plus;
        }

-- a label alone does not cancel
one_left : (told : ℕ → Told) (stretch at symbol : ℕ) → told symbol ≡ label stretch at → constant_left (settled told (symbol_form symbol)) ≡ None
unfolding settled put_all
one_left told stretch at symbol is =
    let same : (stretch == stretch) ≡ true = (Decides-eqb stretch stretch).1 refl in
    rw (is, same) refl

module _ (map : SymbolMap) (field : Field) (at : SectionPlace) (has : HasAddress map field at) where
  address_expanded : linked map field.form ≡ field.form
  address_expanded =
      unnamed_linked map field.form
      (ap (names_assigned (linked_map map)) has.form
      ∙ (rw (linked_formless map has.label (mark_formless map has.few (At at) has.label has.named)) refl))

  module _ (laid : LaidSections) (bare : field.role.suffix ≡ None) where
    address_free : is_linked map field ≡ false
    address_free =
        ap (λ suffix. is_suffixed suffix || leaves_weak map field.form) bare
        ∙ (ap (leaves_weak map) has.form ∙ (rw (mark_strong map has.few (At at) has.label has.named) refl))

    address_valueless : held_value map laid field ≡ None
    unfolding held_value
    address_valueless =
        let known = mark_known map has.few laid field address_free (At at) has.label has.named in
        let nothing : constant_left (settled (told_in_field map laid field) field.form) ≡ None =
        ap (λ (form : Form). constant_left (settled (told_in_field map laid field) form)) has.form
        ∙ one_left (told_in_field map laid field) at.section (laid_mark laid field (At at)) has.label known in
        ap (option_map (counted field.size field.role)) nothing

-- an address is the linker's
pub are_linked : AddressesAreLinked
are_linked map laid field at has bare = (
  address_expanded map field at has,
  ap (held_value map laid) (ap (λ (form : Form). substituted_field (λ (other : Form). form) field) (address_expanded map field at has))
      ∙ address_valueless map field at has laid bare,
)
