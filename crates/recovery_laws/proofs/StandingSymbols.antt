-- The symbols with those of a frame table: no form leads back, forms name no place of a field, and all that have a place stand in the sections.
use Rattle.std.proofs.Common.{◌≡◌, ℕ, zero, suc, ◌<◌, ◌≤◌, ◌^◌, ◌+◌, ◌||◌, false, Option, None, Some, List, [], ◌∷◌, ◌++◌, All, length, refl, sym, ap, subst, ◌∙◌, arith, length-append}
use Rattle.std.specs.Prelude.{◌==◌, slice_get, option_and_then}
use Rattle.std.proofs.lemmas.Bool.Decides.{nat_tests}
use Rattle.std.proofs.lemmas.List.Elements.{All-head, All-tail, All-append, All-weaker}
use Rattle.std.proofs.lemmas.Option.{none-some}
use Rattle.asm_expr.specs.declared.forms.Term.{Term}
use Rattle.asm_expr.specs.Coefficients.{is_among}
use Rattle.asm_expr.specs.Forms.{Form}
use Rattle.asm_frags.specs.Fields.{own_place}
use Rattle.asm_frags.specs.Writing.{LooseSection}
use Rattle.asm_symbols.specs.declared.entries.Meaning.{Meaning}
use Rattle.asm_symbols.specs.declared.entries.Meaning.TheVariants as meaning
use Rattle.asm_symbols.specs.declared.entries.Symbol.{Symbol}
use Rattle.asm_symbols.specs.Assigning.{form_of, form_at, Leads, straight, further, NoFormLeadsBack}
use Rattle.asm_symbols.specs.SymbolMap.{SymbolMap}
use Rattle.asm_place.specs.Instructions.{with_more, Grows}
use Rattle.asm_place.specs.SymbolPlaces.{AreUpTo, HasItems, MeaningStands, SymbolStands, SymbolsStand}
use Rattle.table_pieces.specs.StandingPlaces.{LabelStands, GetsStanding}
use Rattle.target_laws.specs.Targets.{NamesNoField, AreExpandable}
use Rattle.target_laws.specs.Rooms.{StandIn}
use Rattle.recovery_laws.proofs.Lists.{all_there}

-- FORMS

-- terms up to a low number do not name the place of a field
pub names_no_field : (last : ℕ) (form : Form) → last < own_place → AreUpTo last form.terms → NamesNoField form
names_no_field last form low up = by form.terms up
  where
    by : (terms : List Term) → AreUpTo last terms → is_among own_place terms ≡ false
    by [] all = refl
    by (term ∷ terms) all =
        let one = all.0 in
        let apart : (term.symbol == own_place) ≡ false = grind (arith, nat_tests) in
        ap (λ b. b || is_among own_place terms) apart ∙ by terms all.1

-- WHERE NO FORM COMES

leads_kept : (old new : List Symbol) (form : Form) → ((i : ℕ) (f : Form) → form_at new i ≡ Some f → form_at old i ≡ Some f) → (index : ℕ) → Leads new form index → Leads old form index
leads_kept old new form kept index (straight last named) = straight last named
leads_kept old new form kept index (further middle last next leads is named) = further middle last next (leads_kept old new form kept middle leads) (kept middle next is) named

-- a label has no form
no_form : (sections : List LooseSection) (labels : List Symbol) (index : ℕ) (form : Form) → All (LabelStands sections) labels → form_at labels index ≡ Some form → ⊥
no_form sections [] index form each is = none-some form is
no_form sections (label ∷ labels) zero form each is = none-some form (sym (ap form_of (All-head (LabelStands sections) label labels each).1) ∙ is)
no_form sections (label ∷ labels) (suc index) form each is = no_form sections labels index form (All-tail (LabelStands sections) label labels each) is

form_before : (sections : List LooseSection) (symbols labels : List Symbol) (index : ℕ) (form : Form) → All (LabelStands sections) labels
    → form_at (symbols ++ labels) index ≡ Some form → form_at symbols index ≡ Some form
form_before sections [] labels index form each is = absurd (no_form sections labels index form each is)
form_before sections (symbol ∷ symbols) labels zero form each is = is
form_before sections (symbol ∷ symbols) labels (suc index) form each is = form_before sections symbols labels index form each is

-- PLACES

items_grow : (before after : List LooseSection) (number items : ℕ) → Grows before after → HasItems before number items → HasItems after number items
items_grow before after number items grows has =
    let later = grows.kept number has.section has.there in
    let enough = has.enough in
    record { section = with_more has.section later.bytes later.fields later.items; there = later.there; enough = omega (arith, enough, length-append has.section.items later.items) }

meaning_grows : (before after : List LooseSection) (last : ℕ) → Grows before after → (meant : Meaning) → MeaningStands before last meant → MeaningStands after last meant
meaning_grows before after last grows meaning.Undefined stands = tt
meaning_grows before after last grows (meaning.Label spot) stands = items_grow before after spot.place.section spot.place.place.item grows stands
meaning_grows before after last grows (meaning.Common size align) stands = tt
meaning_grows before after last grows (meaning.Space spot) stands = items_grow before after spot.place.section spot.place.place.item grows stands
meaning_grows before after last grows (meaning.Assigned form) stands = stands

label_means : (sections : List LooseSection) (last : ℕ) (symbol : Symbol) → LabelStands sections symbol → MeaningStands sections last symbol.meaning
label_means sections last symbol label =
    subst (MeaningStands sections last) (sym label.1) (record { section = label.2.held; there = label.2.there; enough = label.2.enough })

-- of an assigned symbol that stands the form names no symbol above this number
form_up : (sections : List LooseSection) (last : ℕ) (meant : Meaning) (form : Form) → MeaningStands sections last meant → form_of meant ≡ Some form → AreUpTo last form.terms
form_up sections last meaning.Undefined form stands is = absurd (none-some form is)
form_up sections last (meaning.Label spot) form stands is = absurd (none-some form is)
form_up sections last (meaning.Common size align) form stands is = absurd (none-some form is)
form_up sections last (meaning.Space spot) form stands is = absurd (none-some form is)
form_up sections last (meaning.Assigned other) form stands is =
    let same : other ≡ form = cc in
    subst (λ (f : Form). AreUpTo last f.terms) same stands

module _ (before after : List LooseSection) (map labelled : SymbolMap) (grows : Grows before after) (stand : SymbolsStand before map.symbols) (gets : GetsStanding after map labelled)
    (few : length labelled.symbols ≤ 2 ^ 24 + 2 ^ 31 + 2 ^ 30) (low : length map.symbols ≤ 2 ^ 24) where
  abbrev last : ℕ
  last = length map.symbols

  form_there : (index : ℕ) (form : Form) → form_at labelled.symbols index ≡ Some form → form_at map.symbols index ≡ Some form
  form_there index form is = form_before after map.symbols gets.labels index form gets.each (sym (ap (λ symbols. form_at symbols index) gets.all) ∙ is)

  forward : NoFormLeadsBack labelled.symbols
  forward index form is leads = stand.forward index form (form_there index form is) (leads_kept map.symbols labelled.symbols form form_there index leads)

  form_named : (index : ℕ) (form : Form) → form_at map.symbols index ≡ Some form → AreUpTo last form.terms
  form_named index form is = by (slice_get map.symbols index) refl
    where
      by : (found : Option Symbol) → slice_get map.symbols index ≡ found → AreUpTo last form.terms
      by None there = absurd (none-some form (sym (ap (option_and_then (λ (symbol : Symbol). form_of symbol.meaning)) there) ∙ is))
      by (Some symbol) there =
          form_up before last symbol.meaning form (all_there (SymbolStands before last) map.symbols index symbol there stand.each).0
          (sym (ap (option_and_then (λ (symbol : Symbol). form_of symbol.meaning)) there) ∙ is)

  expandable : AreExpandable labelled
  expandable = record {
    forward = forward;
    few = omega (arith, few);
    forms = λ index form is. names_no_field last form (omega (arith, low)) (form_named index form (form_there index form is));
  }

  -- all symbols stand so in the sections with the table
  pub stand_in : StandIn labelled after
  stand_in = record {
    expandable = expandable;
    last = last;
    stand = subst (All (λ (symbol : Symbol). MeaningStands after last symbol.meaning)) (sym gets.all)
        (All-append (λ (symbol : Symbol). MeaningStands after last symbol.meaning) map.symbols gets.labels
        (All-weaker (SymbolStands before last) (λ (symbol : Symbol). MeaningStands after last symbol.meaning)
        (λ symbol was. meaning_grows before after last grows symbol.meaning was.0) map.symbols stand.each)
        (All-weaker (LabelStands after) (λ (symbol : Symbol). MeaningStands after last symbol.meaning) (label_means after last) gets.labels gets.each));
  }
