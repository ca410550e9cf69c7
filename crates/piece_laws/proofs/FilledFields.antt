-- What is said of a data field that is left to the linker: its relocation's kind, and what that calculates.
use Rattle.std.proofs.Common.{◌≡◌, ℕ, ◌+◌, ◌==◌, Bool, true, false, List, [], ◌∷◌, Option, None, Some, cond, refl, sym, ap, ◌∙◌, arith}
use Rattle.std.specs.Prelude.{IfSome, is_none, option_map}
use Rattle.std.specs.Option.{option_and_then}
use Rattle.std.proofs.lemmas.Bool.Decides.{nat_tests}
use Rattle.std.proofs.lemmas.Option.{none-some, same_Some}
use Rattle.asm_expr.specs.declared.forms.Term.{Term}
use Rattle.asm_expr.specs.Forms.{Form, constant_form, term_of}
use Rattle.asm_expr.specs.Knowledge.{Told, absent, constant, label, form}
use Rattle.asm_expr.specs.Settled.{spot_of, cancelled_number, put_one, put_all, settled, constant_left}
use Rattle.asm_symbols.specs.SymbolMap.{SymbolMap}
use Rattle.asm_frags.specs.declared.fields.Field.{Field}
use Rattle.asm_frags.specs.declared.fields.FieldSize.{FieldSize}
use Rattle.asm_frags.specs.declared.roles.FieldRole.{FieldRole}
use Rattle.asm_frags.specs.Fields.{data_role, own_place}
use Rattle.asm_frags.specs.SectionOf.{SectionOf}
use Rattle.asm_relax.specs.FieldValues.{told_beside, told_in_field, less, held_value, counted}
use Rattle.asm_relax.specs.Settling.{LaidItem, LaidSections}
use Rattle.elf_object.specs.declared.references.Reference.{Reference}
use Rattle.elf_object.specs.declared.references.SymbolReference.{SymbolReference}
use Rattle.elf_object.specs.declared.relocations.Relocation.{Relocation}
use Rattle.elf_object.specs.Relocations.{sized_kind, kind_for, reference_found, own_address, reference, direct, is_plus, is_minus, pair, reference_of, final_reference, relocation, relocation_with, field_place, field_relocation}
use Rattle.piece_laws.specs.Pointers.{is_place_taken, one_symbol}
use Rattle.piece_laws.proofs.NumberForms.{both_form}

-- WHAT IS LEFT OF A FORM

-- no place is taken from a symbol that stands alone
alone_left : (told : ℕ → Told) (symbol total : ℕ)
    → is_place_taken (settled told (record { terms = term_of symbol 1 ∷ []; constant = total })).terms ≡ false
unfolding settled put_all
alone_left told symbol total = by (cancelled_number (spot_of told (term_of symbol 1) ∷ []) (spot_of told (term_of symbol 1)))
  where
    by : (number : Option ℕ) → is_place_taken (put_one (constant_form total) (term_of symbol 1) number).terms ≡ false
    by None = refl
    by (Some number) = refl

module _ (told : ℕ → Told) (one other total : ℕ) where
  -- labels of two sections are left, and those of one are not
  labels_left : (stretch others at origin : ℕ) (same : Bool) → (stretch == others) ≡ same → told one ≡ label stretch at → told other ≡ label others origin
      → constant_left (settled told (both_form one other total)) ≡ None → is_place_taken (settled told (both_form one other total)).terms ≡ true
  unfolding settled put_all
  labels_left stretch others at origin true test is also none =
      let back : (others == stretch) ≡ true = grind (arith, nat_tests) in
      let self : (stretch == stretch) ≡ true = grind (arith, nat_tests) in
      let equal : (others == others) ≡ true = grind (arith, nat_tests) in
      let gone : is_none (constant_left (settled told (both_form one other total))) ≡ false = rw (is, also, self, equal, test, back) refl in
      absurd (let both = sym gone ∙ ap is_none none in let never : ⊥ = cc in never)
  labels_left stretch others at origin false test is also none =
      let back : (others == stretch) ≡ false = grind (arith, nat_tests) in
      let self : (stretch == stretch) ≡ true = grind (arith, nat_tests) in
      let equal : (others == others) ≡ true = grind (arith, nat_tests) in
      rw (is, also, self, equal, test, back) refl

  -- where a form has no value, a place that is taken from a symbol is left, beside it
  pair_left : (first second : Told) → told one ≡ first → told other ≡ second → constant_left (settled told (both_form one other total)) ≡ None
      → is_place_taken (settled told (both_form one other total)).terms ≡ true
  unfolding settled put_all
  pair_left (label stretch at) (label others origin) is also none = labels_left stretch others at origin (stretch == others) refl is also none
  pair_left (label stretch at) absent is also none = let self : (stretch == stretch) ≡ true = grind (arith, nat_tests) in rw (is, also, self) refl
  pair_left (label stretch at) (constant number) is also none = let self : (stretch == stretch) ≡ true = grind (arith, nat_tests) in rw (is, also, self) refl
  pair_left (label stretch at) (form made) is also none = let self : (stretch == stretch) ≡ true = grind (arith, nat_tests) in rw (is, also, self) refl
  pair_left absent (label others origin) is also none = let self : (others == others) ≡ true = grind (arith, nat_tests) in rw (is, also, self) refl
  pair_left absent absent is also none = rw (is, also) refl
  pair_left absent (constant number) is also none = rw (is, also) refl
  pair_left absent (form made) is also none = rw (is, also) refl
  pair_left (constant first) (label others origin) is also none = let self : (others == others) ≡ true = grind (arith, nat_tests) in rw (is, also, self) refl
  pair_left (constant first) absent is also none = rw (is, also) refl
  pair_left (constant first) (constant number) is also none = rw (is, also) refl
  pair_left (constant first) (form made) is also none = rw (is, also) refl
  pair_left (form first) (label others origin) is also none = let self : (others == others) ≡ true = grind (arith, nat_tests) in rw (is, also, self) refl
  pair_left (form first) absent is also none = rw (is, also) refl
  pair_left (form first) (constant number) is also none = rw (is, also) refl
  pair_left (form first) (form made) is also none = rw (is, also) refl

-- of a form of one symbol the own place is left exactly where it is taken from that
one_left : (told : ℕ → Told) (symbol total : ℕ) (own : Bool) → constant_left (settled told (record { terms = one_symbol symbol own; constant = total })) ≡ None
    → is_place_taken (settled told (record { terms = one_symbol symbol own; constant = total })).terms ≡ own
one_left told symbol total false none = alone_left told symbol total
one_left told symbol total true none = pair_left told symbol own_place total (told symbol) (told own_place) refl refl none

-- a field without a value has a form of which symbols are left
left_none : (size : FieldSize) (role : FieldRole) (left : Option ℕ) → option_map (counted size role) left ≡ None → left ≡ None
left_none size role None none = refl
left_none size role (Some value) none = absurd (none-some _ (sym none))

module _ (map : SymbolMap) (laid : LaidSections) (field : Field) where
  pub own_left : (symbol : ℕ) (own : Bool) → held_value map laid field ≡ None → field.form.terms ≡ one_symbol symbol own
      → is_place_taken (settled (told_in_field map laid field) field.form).terms ≡ own
  unfolding held_value
  own_left symbol own none is =
      let left = left_none field.size field.role (constant_left (settled (told_in_field map laid field) field.form)) none in
      ap (λ (terms : List Term). is_place_taken (settled (told_in_field map laid field) (record field.form { terms = terms })).terms) is
      ∙ one_left (told_in_field map laid field) symbol field.form.constant own
      (sym (ap (λ (terms : List Term). constant_left (settled (told_in_field map laid field) (record field.form { terms = terms }))) is) ∙ left)

  -- ITS RELOCATION'S KIND

  -- the reference takes the place or not
  abbrev Takes : Bool → Option Reference → Type 0
  Takes own found = IfSome found (λ (reference : Reference). reference.relative ≡ own)

  found_takes : (own : Bool) (number : ℕ) (found : Option SymbolReference) → Takes own (option_map (reference own number) found)
  found_takes own number None = tt
  found_takes own number (Some at) = refl

  relative_takes : (number place symbol total : ℕ) (address : Option ℕ)
      → Takes true (option_and_then (λ (address : ℕ). option_map (reference true (less (total + place) address)) (reference_found map laid field symbol)) address)
  relative_takes number place symbol total None = tt
  relative_takes number place symbol total (Some address) = found_takes true (less (total + place) address) (reference_found map laid field symbol)

  pair_takes : (number place : ℕ) (one other : Term) (total : ℕ) (first second third fourth : Bool) → is_plus one ≡ first → is_minus other ≡ second → is_minus one ≡ third
      → is_plus other ≡ fourth → Takes true (pair map laid number place field one other total)
  pair_takes number place one other total true true third fourth a b c d =
      rw (a, b) (relative_takes number place one.symbol total (own_address number (told_beside map laid field other.symbol)))
  pair_takes number place one other total true false true true a b c d =
      rw (a, b, c, d) (relative_takes number place other.symbol total (own_address number (told_beside map laid field one.symbol)))
  pair_takes number place one other total true false true false a b c d = rw (a, b, c, d) tt
  pair_takes number place one other total true false false fourth a b c d = rw (a, b, c) tt
  pair_takes number place one other total false second true true a b c d =
      rw (a, c, d) (relative_takes number place other.symbol total (own_address number (told_beside map laid field one.symbol)))
  pair_takes number place one other total false second true false a b c d = rw (a, c, d) tt
  pair_takes number place one other total false second false fourth a b c d = rw (a, c) tt

  reference_takes : (number place : ℕ) (terms : List Term) (total : ℕ)
      → Takes (is_place_taken terms) (reference_of map laid number place field (record { terms = terms; constant = total }))
  reference_takes number place [] total = tt
  reference_takes number place (term ∷ []) total = by (is_plus term)
    where
      by : (plus : Bool) → Takes false (cond plus (direct map laid field term.symbol total) None)
      by true = found_takes false total (reference_found map laid field term.symbol)
      by false = tt
  reference_takes number place (one ∷ other ∷ []) total = pair_takes number place one other total (is_plus one) (is_minus other) (is_minus one) (is_plus other) refl refl refl refl
  reference_takes number place (one ∷ other ∷ third ∷ more) total = tt

  kind_by : (place : ℕ) (own : Bool) (found : Option Reference) (r : Relocation) → field.role ≡ data_role → Takes own found
      → option_and_then (relocation place field) found ≡ Some r → r.kind ≡ sized_kind own field.size
  kind_by place own None r plain_role takes says = absurd (none-some r says)
  kind_by place own (Some found) r plain_role takes says =
      let plain : option_map (relocation_with place field found) (Some (sized_kind found.relative field.size)) ≡ Some r =
      sym (ap (λ (role : FieldRole). option_map (relocation_with place field found) (kind_for found.relative role found.local field.size)) plain_role) ∙ says in
      sym (ap (λ (r : Relocation). r.kind) (same_Some _ r plain)) ∙ ap (λ (own : Bool). sized_kind own field.size) takes

  pub kind_is : (number : ℕ) (section : SectionOf LaidItem) (r : Relocation) → field.role ≡ data_role → field_relocation map laid number section field ≡ Some r
      → r.kind ≡ sized_kind (is_place_taken (settled (told_in_field map laid field) field.form).terms) field.size
  unfolding field_relocation
  kind_is number section r plain_role says =
      let left : Form = settled (told_in_field map laid field) field.form in
      kind_by (field_place section field) (is_place_taken left.terms) (final_reference map laid number (field_place section field) field) r plain_role
      (reference_takes number (field_place section field) left.terms left.constant) says
