-- The field of a jump names its own place minus once, however assigned symbols are expanded in its form.
use Rattle.std.proofs.Common.{◌≡◌, ℕ, zero, suc, ◌+◌, ◌-◌, ◌*◌, ◌^◌, ◌<◌, ◌≤◌, Bool, true, false, cond, List, [], ◌∷◌, length, map, Option, None, Some, refl, sym, ap, ◌∙◌, subst, arith}
use Rattle.std.specs.Prelude.{◌==◌, slice_get, option_map}
use Rattle.std.proofs.lemmas.Bool.Decides.{nat_tests}
use Rattle.std.proofs.lemmas.List.Elements.{All-nil, All-cons, All-head, All-tail}
use Rattle.std.proofs.lemmas.Option.{none-some}
use Rattle.std.proofs.lemmas.Nat.{mul-mod_second}
use Rattle.asm_expr.specs.declared.forms.Term.{Term}
use Rattle.asm_expr.specs.Forms.{Form, wrapped, constant_form, symbol_form, with_terms, signed_term, sum_of, scaled_term, plus_times}
use Rattle.asm_expr.specs.Coefficients.{counted_as, times, coefficient, AreAdded}
use Rattle.asm_frags.specs.Fields.{own_place}
use Rattle.asm_frags.specs.Writing.{LooseSection}
use Rattle.asm_symbols.specs.declared.entries.Meaning.{Meaning}
use Rattle.asm_symbols.specs.declared.entries.Meaning.TheVariants as meaning
use Rattle.asm_symbols.specs.declared.entries.Symbol.{Symbol}
use Rattle.asm_symbols.specs.Assigning.{form_of, form_at}
use Rattle.asm_symbols.specs.SymbolMap.{SymbolMap}
use Rattle.assigned_forms.specs.Expanding.{form_or_symbol, replacement, plus_terms, with_replaced, names_assigned, expanded_within, expanded}
use Rattle.assigned_forms.specs.Opened.{opened_if}
use Rattle.assigned_forms.specs.Linked.{is_weak_alias, linked_map, linked}
use Rattle.asm_relax.specs.ItemValues.{NamesOwnPlace}
use Rattle.asm_place.specs.Coding.{from_own_place}
use Rattle.asm_place.specs.SymbolPlaces.{AreUpTo, MeaningStands}
use Rattle.readback_laws.proofs.JumpFields.{StandUpTo}
use Rattle.readback_laws.proofs.Lists.{all_there}

-- A SUM WITH A FACTOR

-- terms that are added are taken as they are
plain_terms : (factor : ℕ) (terms : List Term) → map (signed_term false) (map (scaled_term factor) terms) ≡ map (scaled_term factor) terms
plain_terms factor [] = refl
plain_terms factor (term ∷ terms) = ap (λ (rest : List Term). scaled_term factor term ∷ rest) (plain_terms factor terms)

module _ (adds : (one other : Form) → AreAdded one other) (own : ℕ) where
  counted_times : (b : Bool) (factor count : ℕ) → wrapped (cond b (wrapped (factor * count)) 0) ≡ wrapped (factor * cond b count 0)
  counted_times true factor count = omega arith
  counted_times false factor count = omega arith

  -- so many times the terms count so often
  scaled_times : (factor : ℕ) (terms : List Term) → wrapped (times own (map (scaled_term factor) terms)) ≡ wrapped (factor * times own terms)
  scaled_times factor [] = omega arith
  scaled_times factor (term ∷ terms) =
      let one = counted_times (term.symbol == own) factor term.coefficient in
      let later = scaled_times factor terms in
      let this = counted_as own term.symbol term.coefficient in
      omega arith

  -- a coefficient in a form plus so many times another
  plus_counts : (made : Form) (factor : ℕ) (other : Form) → coefficient (plus_times made factor other) own ≡ wrapped (coefficient made own + factor * coefficient other own)
  unfolding plus_times
  plus_counts made factor other =
      let more : Form = record { terms = map (scaled_term factor) other.terms; constant = 0 } in
      let plain : coefficient (sum_of made more) own ≡ wrapped (times own (with_terms made.terms (map (scaled_term factor) other.terms))) =
      ap (λ (terms : List Term). wrapped (times own (with_terms made.terms terms))) (plain_terms factor other.terms) in
      let both : wrapped (times own (with_terms made.terms (map (scaled_term factor) other.terms)))
      ≡ wrapped (coefficient made own + wrapped (times own (map (scaled_term factor) other.terms))) =
      sym plain ∙ (adds made more).sum own in
      let scaled = scaled_times factor other.terms in
      let inner = mul-mod_second factor (times own other.terms) (2 ^ 64) in
      omega (arith, both, scaled, inner)

  -- THE EXPANSION

  -- terms up to a lower number do not count it
  uncounted : (last : ℕ) (terms : List Term) → last < own → AreUpTo last terms → times own terms ≡ 0
  uncounted last [] low all = refl
  uncounted last (term ∷ terms) low all =
      let one = all.0 in
      let apart : (term.symbol == own) ≡ false = grind (arith, nat_tests) in
      let later = uncounted last terms low all.1 in
      let none : cond (term.symbol == own) term.coefficient 0 ≡ 0 = ap (λ b. cond b term.coefficient 0) apart in
      omega (arith, none, later)

  module _ (sections : List LooseSection) (symbols : SymbolMap) (last : ℕ) (stand : StandUpTo last sections symbols.symbols) (few : last < own)
      (low : (index : ℕ) (form : Form) → form_at symbols.symbols index ≡ Some form → index < own) where
    meant_uncounted : (meant : Meaning) (form : Form) → MeaningStands sections last meant → form_of meant ≡ Some form → times own form.terms ≡ 0
    meant_uncounted meaning.Undefined form stands is = absurd (none-some form is)
    meant_uncounted (meaning.Label spot) form stands is = absurd (none-some form is)
    meant_uncounted (meaning.Common size align) form stands is = absurd (none-some form is)
    meant_uncounted (meaning.Space spot) form stands is = absurd (none-some form is)
    meant_uncounted (meaning.Assigned other) form stands is =
        let same : other ≡ form = cc in
        subst (λ (f : Form). times own f.terms ≡ 0) same (uncounted last other.terms few stands)

    -- the form of an assigned symbol does not count it, and it is not that symbol
    form_uncounted : (index : ℕ) (form : Form) → form_at symbols.symbols index ≡ Some form → (times own form.terms ≡ 0) × ((index == own) ≡ false)
    form_uncounted index form is = by (slice_get symbols.symbols index) refl is
      where
        by : (found : Option Symbol) → slice_get symbols.symbols index ≡ found → form_at symbols.symbols index ≡ Some form
            → (times own form.terms ≡ 0) × ((index == own) ≡ false)
        by None there at = absurd (none-some form (sym (ap (λ (f : Option Symbol). elim f [ None ↦ None | Some symbol ↦ form_of symbol.meaning ]) there) ∙ at))
        by (Some symbol) there at =
            let below = low index form at in
            let apart : (index == own) ≡ false = grind (arith, nat_tests) in (
              meant_uncounted symbol.meaning form
                  (all_there (λ (one : Symbol). MeaningStands sections last one.meaning) symbols.symbols index symbol there stand)
                  (sym (ap (λ (f : Option Symbol). elim f [ None ↦ None | Some symbol ↦ form_of symbol.meaning ]) there) ∙ at),
              apart,
            )

    module _ (becomes : Form → Form) (keeps : (form : Form) → coefficient (becomes form) own ≡ coefficient form own) where
      replaced_by : (symbol : ℕ) (found : Option Form) → form_at symbols.symbols symbol ≡ found
          → coefficient (form_or_symbol symbol (option_map becomes found)) own ≡ cond (symbol == own) 1 0
      replaced_by symbol None is = by (symbol == own)
        where
          by : (b : Bool) → wrapped (cond b 1 0 + 0) ≡ cond b 1 0
          by true = refl
          by false = refl
      replaced_by symbol (Some form) is =
          let none = form_uncounted symbol form is in
          keeps form ∙ ap wrapped none.0 ∙ sym (ap (λ b. cond b 1 0) none.1)

      -- what replaces a symbol counts as often as the symbol does
      replaced : (symbol : ℕ) → coefficient (replacement becomes symbols symbol) own ≡ cond (symbol == own) 1 0
      replaced symbol = replaced_by symbol (form_at symbols.symbols symbol) refl

      counts_once : (b : Bool) (n : ℕ) → n * cond b 1 0 ≡ cond b n 0
      counts_once true n = omega arith
      counts_once false n = omega arith

      terms_count : (made : Form) (terms : List Term) → coefficient (plus_terms (replacement becomes symbols) made terms) own ≡ wrapped (coefficient made own + times own terms)
      unfolding plus_terms
      terms_count made [] = omega arith
      terms_count made (term ∷ terms) =
          let next = plus_times made term.coefficient (replacement becomes symbols term.symbol) in
          let later = terms_count next terms in
          let plus = plus_counts made term.coefficient (replacement becomes symbols term.symbol) in
          let once = ap (λ n. term.coefficient * n) (replaced term.symbol) ∙ counts_once (term.symbol == own) term.coefficient in
          omega arith

      form_counts : (test : Bool) (form : Form) → coefficient (cond test (with_replaced (replacement becomes symbols) form) form) own ≡ coefficient form own
      form_counts true form = let all = terms_count (constant_form form.constant) form.terms in omega arith
      form_counts false form = refl

    within_counts : (more : ℕ) (form : Form) → coefficient (expanded_within more symbols form) own ≡ coefficient form own
    unfolding expanded_within
    within_counts zero form = refl
    within_counts (suc more) form = form_counts (λ next. expanded_within more symbols next) (within_counts more) (names_assigned symbols form) form

    -- expanding a form keeps how often it counts
    expanded_counts : (form : Form) → coefficient (expanded symbols form) own ≡ coefficient form own
    unfolding expanded
    expanded_counts form = within_counts (suc (length symbols.symbols)) form

-- SYMBOLS OF WHICH SOME ARE UNDEFINED

-- a form that is left was there before
form_left : (test : Symbol → Bool) (all : List Symbol) (index : ℕ) (form : Form) → form_at (map (λ symbol. opened_if (test symbol) symbol) all) index ≡ Some form
    → form_at all index ≡ Some form
form_left test [] index form is = is
form_left test (symbol ∷ all) zero form is = by (test symbol) is
  where
    by : (undefined : Bool) → form_of (opened_if undefined symbol).meaning ≡ Some form → form_of symbol.meaning ≡ Some form
    by true none = absurd (none-some form none)
    by false same = same
form_left test (symbol ∷ all) (suc index) form is = form_left test all index form is

-- they stand as before
stand_left : (last : ℕ) (sections : List LooseSection) (test : Symbol → Bool) (all : List Symbol) → StandUpTo last sections all
    → StandUpTo last sections (map (λ symbol. opened_if (test symbol) symbol) all)
stand_left last sections test [] stand = All-nil (λ (one : Symbol). MeaningStands sections last one.meaning)
stand_left last sections test (symbol ∷ all) stand =
    let Stands = λ (one : Symbol). MeaningStands sections last one.meaning in
    All-cons Stands (opened_if (test symbol) symbol) (map (λ other. opened_if (test other) other) all)
    (by (test symbol) (All-head Stands symbol all stand)) (stand_left last sections test all (All-tail Stands symbol all stand))
  where
    by : (undefined : Bool) → MeaningStands sections last symbol.meaning → MeaningStands sections last (opened_if undefined symbol).meaning
    by true own = tt
    by false own = own

linked_form : (symbols : SymbolMap) (index : ℕ) (form : Form) → form_at (linked_map symbols).symbols index ≡ Some form → form_at symbols.symbols index ≡ Some form
unfolding linked_map
linked_form symbols index form is = form_left (is_weak_alias symbols) symbols.symbols index form is

linked_stand : (last : ℕ) (sections : List LooseSection) (symbols : SymbolMap) → StandUpTo last sections symbols.symbols → StandUpTo last sections (linked_map symbols).symbols
unfolding linked_map
linked_stand last sections symbols stand = stand_left last sections (is_weak_alias symbols) symbols.symbols stand

-- the form of a field counts the place as often as before
linked_counts : (adds : (one other : Form) → AreAdded one other) (own : ℕ) (sections : List LooseSection) (symbols : SymbolMap) (last : ℕ) → StandUpTo last sections symbols.symbols
    → last < own → ((index : ℕ) (form : Form) → form_at symbols.symbols index ≡ Some form → index < own) → (form : Form) → coefficient (linked symbols form) own ≡ coefficient form own
unfolding linked
linked_counts adds own sections symbols last stand low below form =
    expanded_counts adds own sections (linked_map symbols) last (linked_stand last sections symbols stand) low
    (λ index found is. below index found (linked_form symbols index found is)) form

-- the field of a jump to a target that names symbols up to a low number names its own place minus once
pub names_own_place : ((one other : Form) → AreAdded one other) → (sections : List LooseSection) (symbols : SymbolMap) (last : ℕ) (target : Form) → StandUpTo last sections symbols.symbols → last ≤ 2 ^ 24
    → ((index : ℕ) (form : Form) → form_at symbols.symbols index ≡ Some form → index < last)
    → AreUpTo last target.terms → NamesOwnPlace true (linked symbols (from_own_place target))
names_own_place adds sections symbols last target stand few assigned named =
    let low : last < own_place = omega (arith, few) in
    let below : (index : ℕ) (form : Form) → form_at symbols.symbols index ≡ Some form → index < own_place =
    λ index form is. (let before = assigned index form is in omega (arith, before, low)) in
    let kept = linked_counts adds own_place sections symbols last stand low below (from_own_place target) in
    let plus = plus_counts adds own_place target (2 ^ 64 - 1) (symbol_form own_place) in
    let none = uncounted adds own_place last target.terms low named in
    let once : coefficient (symbol_form own_place) own_place ≡ 1 = refl in
    let minus : coefficient (from_own_place target) own_place ≡ 2 ^ 64 - 1 = omega arith in
    kept ∙ minus
