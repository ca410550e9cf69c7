-- A symbol alone, or one less another one, stays as it is where it has no value.
use Rattle.std.proofs.Common.{◌≡◌, ℕ, ◌+◌, ◌-◌, ◌*◌, ◌^◌, ◌==◌, Bool, true, false, List, [], ◌∷◌, Option, Some, None, refl, sym, ap, ◌∙◌, arith}
use Rattle.std.specs.Prelude.{option_map}
use Rattle.std.proofs.lemmas.Bool.Decides.{nat_tests}
use Rattle.asm_expr.specs.declared.forms.Term.{Term}
use Rattle.asm_expr.specs.Forms.{Form, wrapped, term_of, constant_form}
use Rattle.asm_expr.specs.Knowledge.{Told, absent, constant, label, form}
use Rattle.asm_expr.specs.Settled.{spot_by, cancelled_number, put_all, settled, constant_left}
use Rattle.asm_symbols.specs.SymbolMap.{SymbolMap}
use Rattle.asm_frags.specs.declared.fields.Field.{Field}
use Rattle.asm_relax.specs.FieldValues.{told_in_field, counted, held_value}
use Rattle.asm_relax.specs.Settling.{LaidSections}
use Rattle.elf_object.proofs.ItemBytes.{both_true}
use Rattle.elf_object.specs.Relocations.{is_plus, is_minus, stays, reference_of, final_reference}

is_number : (coefficient n : ℕ) → (coefficient == n) ≡ true → coefficient ≡ n
is_number coefficient n e = grind (arith, nat_tests)

-- a symbol that stands alone has no number
no_number : (told : Told) (coefficient : ℕ) → coefficient ≡ 1 → cancelled_number (spot_by told coefficient ∷ []) (spot_by told coefficient) ≡ None
no_number (label stretch at) coefficient one =
    let same : (stretch == stretch) ≡ true = grind (arith, nat_tests) in
    rw (one, same) refl
no_number _ coefficient one = refl

stands_alone : (told : ℕ → Told) (term : Term) (total : ℕ) → is_plus term ≡ true → (let made : Form = record { terms = term ∷ []; constant = total } in made ≡ settled told made)
unfolding settled put_all
stands_alone told term total is = rw (no_number (told term.symbol) term.coefficient (is_number term.coefficient 1 is))

-- a symbol and a number, another one taken away
abbrev pair_of : ℕ → ℕ → ℕ → Form
pair_of one other total = record { terms = term_of one 1 ∷ term_of other (2 ^ 64 - 1) ∷ []; constant = total }

-- two labels of one stretch cancel
labels_cancel : (told : ℕ → Told) (stretch at origin one other total : ℕ) → told one ≡ label stretch at → told other ≡ label stretch origin
    → settled told (pair_of one other total) ≡ constant_form (wrapped (wrapped (total + wrapped (1 * at)) + wrapped ((2 ^ 64 - 1) * origin)))
unfolding settled put_all
labels_cancel told stretch at origin one other total is also =
    let same : (stretch == stretch) ≡ true = grind (arith, nat_tests) in
    rw (is, also, same) refl

-- so labels of one stretch have a value
no_stretch : (told : ℕ → Told) (stretch others at origin one other total : ℕ) → told one ≡ label stretch at → told other ≡ label others origin
    → constant_left (settled told (pair_of one other total)) ≡ None → (others == stretch) ≡ false
no_stretch told stretch others at origin one other total is also none = by (others == stretch) refl
  where
    by : (b : Bool) → (others == stretch) ≡ b → (others == stretch) ≡ false
    by false test = test
    by true test =
        let same : others ≡ stretch = is_number others stretch test in
        let found = labels_cancel told stretch at origin one other total is (rw same at also) in
        absurd (some_left _ (sym (ap constant_left found) ∙ none))
      where
        some_left : (n : ℕ) → constant_left (constant_form n) ≡ None → ⊥
        some_left n e = cc

both_stay : (told : ℕ → Told) (one other total : ℕ) (a b : Told) → told one ≡ a → told other ≡ b → constant_left (settled told (pair_of one other total)) ≡ None
    → pair_of one other total ≡ settled told (pair_of one other total)
unfolding settled put_all
both_stay told one other total absent absent is also none = rw (is, also) refl
both_stay told one other total absent (constant number) is also none = rw (is, also) refl
both_stay told one other total absent (form made) is also none = rw (is, also) refl
both_stay told one other total (constant number) absent is also none = rw (is, also) refl
both_stay told one other total (constant number) (constant more) is also none = rw (is, also) refl
both_stay told one other total (constant number) (form made) is also none = rw (is, also) refl
both_stay told one other total (form made) absent is also none = rw (is, also) refl
both_stay told one other total (form made) (constant number) is also none = rw (is, also) refl
both_stay told one other total (form made) (form more) is also none = rw (is, also) refl
both_stay told one other total absent (label stretch at) is also none =
    let same : (stretch == stretch) ≡ true = grind (arith, nat_tests) in
    rw (is, also, same) refl
both_stay told one other total (constant number) (label stretch at) is also none =
    let same : (stretch == stretch) ≡ true = grind (arith, nat_tests) in
    rw (is, also, same) refl
both_stay told one other total (form made) (label stretch at) is also none =
    let same : (stretch == stretch) ≡ true = grind (arith, nat_tests) in
    rw (is, also, same) refl
both_stay told one other total (label stretch at) absent is also none =
    let same : (stretch == stretch) ≡ true = grind (arith, nat_tests) in
    rw (is, also, same) refl
both_stay told one other total (label stretch at) (constant number) is also none =
    let same : (stretch == stretch) ≡ true = grind (arith, nat_tests) in
    rw (is, also, same) refl
both_stay told one other total (label stretch at) (form made) is also none =
    let same : (stretch == stretch) ≡ true = grind (arith, nat_tests) in
    rw (is, also, same) refl
both_stay told one other total (label stretch at) (label others origin) is also none =
    let differ = no_stretch told stretch others at origin one other total is also none in
    let back : (stretch == others) ≡ false = grind (arith, nat_tests) in
    let same : (stretch == stretch) ≡ true = grind (arith, nat_tests) in
    let equal : (others == others) ≡ true = grind (arith, nat_tests) in
    rw (is, also, same, equal, differ, back) refl

pair_stays : (told : ℕ → Told) (one other total : ℕ) → constant_left (settled told (pair_of one other total)) ≡ None → pair_of one other total ≡ settled told (pair_of one other total)
pair_stays told one other total none = both_stay told one other total (told one) (told other) refl refl none

pair_of_terms : (told : ℕ → Told) (one other : Term) (total : ℕ) → one.coefficient ≡ 1 → other.coefficient ≡ 2 ^ 64 - 1
    → (let made : Form = record { terms = one ∷ other ∷ []; constant = total } in constant_left (settled told made) ≡ None → made ≡ settled told made)
pair_of_terms told one other total first second none =
    let same : (let made : Form = record { terms = one ∷ other ∷ []; constant = total } in pair_of one.symbol other.symbol total ≡ made) =
    ap (λ n. let made : Form = record { terms = term_of one.symbol n ∷ term_of other.symbol (2 ^ 64 - 1) ∷ []; constant = total } in made) (sym first)
    ∙ ap (λ n. let made : Form = record { terms = one ∷ term_of other.symbol n ∷ []; constant = total } in made) (sym second) in
    sym same ∙ pair_stays told one.symbol other.symbol total (ap (λ (f : Form). constant_left (settled told f)) same ∙ none) ∙ ap (settled told) same

stays_by : (told : ℕ → Told) (terms : List Term) (total : ℕ) → stays terms ≡ true
    → (let made : Form = record { terms = terms; constant = total } in constant_left (settled told made) ≡ None → made ≡ settled told made)
stays_by told [] total is none = absurd cc
stays_by told (term ∷ []) total is none = stands_alone told term total is
stays_by told (one ∷ other ∷ []) total is none =
    let both = both_true (is_plus one) (is_minus other) is in
    pair_of_terms told one other total (is_number one.coefficient 1 both.0) (is_number other.coefficient (2 ^ 64 - 1) both.1) none
stays_by told (one ∷ other ∷ third ∷ more) total is none = absurd cc

no_constant : (made : Form) (count : ℕ → ℕ) → option_map count (constant_left made) ≡ None → constant_left made ≡ None
no_constant made count none = by (constant_left made) none
  where
    by : (o : Option ℕ) → option_map count o ≡ None → o ≡ None
    by None none = refl
    by (Some n) none = absurd cc

-- such a form of a field without a value refers to what it says
pub kept : (map : SymbolMap) (sections : LaidSections) (number place : ℕ) (field : Field) → stays field.form.terms ≡ true → held_value map sections field ≡ None
    → reference_of map sections number place field field.form ≡ final_reference map sections number place field
unfolding held_value
kept map sections number place field is none =
    let told = told_in_field map sections field in
    ap (reference_of map sections number place field)
    (stays_by told field.form.terms field.form.constant is (no_constant (settled told field.form) (counted field.size field.role) none))
