-- The values of fields are numbers of 64 bits, where their forms have terms or small constants.
use Rattle.std.proofs.Common.{◌≡◌, ℕ, ◌+◌, ◌-◌, ◌*◌, ◌^◌, ◌<◌, Bool, true, false, cond, List, [], ◌∷◌, ◌++◌, Option, Some, None, map, length, refl, subst, arith}
use Rattle.std.specs.Prelude.{unwrap_or, option_map}
use Rattle.std.proofs.lemmas.Option.{same_Some}
use Rattle.asm_expr.specs.declared.forms.Term.{Term}
use Rattle.asm_expr.specs.Forms.{Form, wrapped, constant_form, symbol_form, plus_times}
use Rattle.asm_expr.specs.Knowledge.{Told}
use Rattle.asm_expr.specs.Linear.{constant_or, value_of}
use Rattle.asm_expr.specs.declared.faults.ExprCause.TheVariants.{ValueNotKnown}
use Rattle.asm_expr.specs.Settled.{spot_of, cancelled_number, put_one, put_all, settled, constant_by, constant_left}
use Rattle.asm_symbols.specs.SymbolMap.{SymbolMap}
use Rattle.asm_frags.specs.declared.fields.Field.{Field}
use Rattle.asm_frags.specs.Fields.{is_distance, own_place}
use Rattle.asm_frags.specs.Substituting.{substituted_field}
use Rattle.assigned_forms.specs.Expanding.{replacement, plus_terms, with_replaced, names_assigned, expanded_within, expanded}
use Rattle.assigned_forms.specs.Linked.{linked_map, linked}
use Rattle.asm_relax.specs.FieldValues.{less, counted_bytes, counted, told_in_field, held_value}
use Rattle.asm_relax.specs.Settling.{LaidSections}
use Rattle.x86_insn.specs.declared.amounts.FieldKind.{FieldKind}
use Rattle.x86_insn.specs.declared.amounts.FieldKind.TheVariants as kind
use Rattle.x86_insn.specs.Knowing.{if_known}
use Rattle.asm_place.specs.Coding.{held_form}
use Rattle.readback_laws.specs.Instructions.{final_value}

-- where the form has no terms its constant is a number of 64 bits
pub record IsSmall (form : Form) : Type 0 where
  pub small : form.terms ≡ [] → form.constant < 2 ^ 64

wrapped_small : (n : ℕ) → wrapped n < 2 ^ 64
wrapped_small n = omega arith

-- a form that is added to has a small constant
plus_small : (made : Form) (factor : ℕ) (other : Form) → IsSmall (plus_times made factor other)
unfolding plus_times
plus_small made factor other = record { small = λ none. wrapped_small (made.constant + wrapped (factor * other.constant)) }

-- a form whose value is not known has terms
open_by : (terms : List Term) (n : ℕ) → if_known (constant_or ValueNotKnown terms n) ≡ None → terms ≡ [] → n < 2 ^ 64
open_by [] n is none = absurd cc
open_by (term ∷ terms) n is none = absurd cc

pub open_small : (form : Form) → if_known (value_of form) ≡ None → IsSmall form
open_small form is = record { small = open_by form.terms form.constant is }

-- a distance is from the field's own place
pub held_small : (k : FieldKind) (form : Form) → (is_distance k ≡ false → IsSmall form) → IsSmall (held_form k form)
held_small kind.Plain form near = near refl
held_small kind.Signed form near = near refl
held_small kind.Address form near = plus_small form (2 ^ 64 - 1) (symbol_form own_place)
held_small kind.Branch form near = plus_small form (2 ^ 64 - 1) (symbol_form own_place)
held_small kind.Number form near = near refl

-- terms that are added keep it so
terms_small : (replaces : ℕ → Form) (made : Form) (terms : List Term) → IsSmall made → IsSmall (plus_terms replaces made terms)
unfolding plus_terms
terms_small replaces made [] small = small
terms_small replaces made (term ∷ terms) small =
    terms_small replaces (plus_times made term.coefficient (replaces term.symbol)) terms (plus_small made term.coefficient (replaces term.symbol))

-- so does the first one
first_small : (replaces : ℕ → Form) (n : ℕ) (terms : List Term) → (terms ≡ [] → n < 2 ^ 64) → IsSmall (plus_terms replaces (constant_form n) terms)
unfolding plus_terms
first_small replaces n [] small = record { small = λ none. small refl }
first_small replaces n (term ∷ terms) small =
    terms_small replaces (plus_times (constant_form n) term.coefficient (replaces term.symbol)) terms
    (plus_small (constant_form n) term.coefficient (replaces term.symbol))

expanded_by : (test : Bool) (replaces : ℕ → Form) (form : Form) → IsSmall form → IsSmall (cond test (with_replaced replaces form) form)
expanded_by true replaces form small = first_small replaces form.constant form.terms small.small
expanded_by false replaces form small = small

expanded_small : (map : SymbolMap) (form : Form) → IsSmall form → IsSmall (expanded map form)
unfolding expanded expanded_within
expanded_small map form small = expanded_by (names_assigned map form) (replacement (λ next. expanded_within (length map.symbols) map next) map) form small

linked_small : (map : SymbolMap) (form : Form) → IsSmall form → IsSmall (linked map form)
unfolding linked
linked_small map form small = expanded_small (linked_map map) form small

-- labels that cancel keep it so
some_terms : {C : Type 0} (terms : List Term) (term : Term) → terms ++ term ∷ [] ≡ [] → C
some_terms [] term is = absurd cc
some_terms (one ∷ terms) term is = absurd cc

one_small : (made : Form) (term : Term) (found : Option ℕ) → IsSmall (put_one made term found)
one_small made term None = record { small = λ none. some_terms made.terms term none }
one_small made term (Some number) = record { small = λ none. wrapped_small (made.constant + wrapped (term.coefficient * number)) }

all_small : (spots : _) (told : ℕ → Told) (made : Form) (terms : List Term) → IsSmall made → IsSmall (put_all spots told made terms)
unfolding put_all
all_small spots told made [] small = small
all_small spots told made (term ∷ terms) small =
    let found = cancelled_number spots (spot_of told term) in
    all_small spots told (put_one made term found) terms (one_small made term found)

put_small : (spots : _) (told : ℕ → Told) (n : ℕ) (terms : List Term) → (terms ≡ [] → n < 2 ^ 64) → IsSmall (put_all spots told (constant_form n) terms)
unfolding put_all
put_small spots told n [] small = record { small = λ none. small refl }
put_small spots told n (term ∷ terms) small =
    let found = cancelled_number spots (spot_of told term) in
    all_small spots told (put_one (constant_form n) term found) terms (one_small (constant_form n) term found)

settled_small : (told : ℕ → Told) (form : Form) → IsSmall form → IsSmall (settled told form)
unfolding settled
settled_small told form small = put_small (map (spot_of told) form.terms) told form.constant form.terms small.small

left_small : (terms : List Term) (n v : ℕ) → (terms ≡ [] → n < 2 ^ 64) → constant_by terms n ≡ Some v → v < 2 ^ 64
left_small [] n v small is = subst (λ x. x < 2 ^ 64) (same_Some n v is) (small refl)
left_small (term ∷ terms) n v small is = absurd cc

counted_by : (test : Bool) (one v : ℕ) → one < 2 ^ 64 → v < 2 ^ 64 → cond test one v < 2 ^ 64
counted_by true one v low small = low
counted_by false one v low small = small

value_by : (field : Field) (left : Option ℕ) → ((v : ℕ) → left ≡ Some v → v < 2 ^ 64) → unwrap_or (option_map (counted field.size field.role) left) 0 < 2 ^ 64
value_by field None small = omega arith
value_by field (Some v) small =
    counted_by (is_distance field.role.kind) (less v (counted_bytes field.size field.role)) v
    (wrapped_small (v + (2 ^ 64 - counted_bytes field.size field.role))) (small v refl)

-- the value of a field of a small form is a number of 64 bits
pub final_small : (symbols : SymbolMap) (laid : LaidSections) (field : Field) → IsSmall field.form → final_value symbols laid field < 2 ^ 64
unfolding held_value
final_small symbols laid field small =
    let substituted = substituted_field (linked symbols) field in
    let made = settled (told_in_field symbols laid substituted) substituted.form in
    let so = settled_small (told_in_field symbols laid substituted) substituted.form (linked_small symbols field.form small) in
    value_by substituted (constant_left made) (λ v is. left_small made.terms made.constant v so.small is)
