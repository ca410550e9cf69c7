-- The form of an expression names symbols that are there, or the place where it stands.
use Rattle.std.proofs.Common.{◌≡◌, ◌<◌, ◌≤◌, ◌⊎◌, inl, inr, ℕ, Bool, true, false, cond, ◌||◌, List, [], ◌∷◌, length, Option, None, Some, Ok, refl, sym, ap, subst, arith, eq-eqb}
use Rattle.std.specs.Prelude.{◌==◌, slice_get}
use Rattle.std.specs.List.{list_any}
use Rattle.std.specs.Option.{option_map_or, option_and_then}
use Rattle.asm_expr.specs.declared.forms.Term.{Term}
use Rattle.asm_expr.specs.Forms.{Form}
use Rattle.asm_expr.specs.Knowledge.{absent, constant, label, form}
use Rattle.asm_expr.specs.Trees.{Tree}
use Rattle.asm_operands.specs.Expressions.{form_in}
use Rattle.asm_symbols.specs.declared.entries.Meaning.{Meaning}
use Rattle.asm_symbols.specs.declared.entries.Meaning.TheVariants as meaning
use Rattle.asm_symbols.specs.declared.entries.Symbol.{Symbol}
use Rattle.asm_symbols.specs.SymbolMap.{SymbolMap}
use Rattle.asm_symbols.specs.Assigning.{form_of, form_at}
use Rattle.asm_symbols.specs.Attributes.{is_weak}
use Rattle.asm_symbols.specs.Counting.{meant_name}
use Rattle.asm_symbols.specs.Looking.{form_told, meaning_told, symbol_told, told}
use Rattle.asm_values.specs.State.{Placed, here, known_here}
use Rattle.flow_graph.specs.AddedLabels.{NamesOnly, AreBelow, FormsAreThere}
use Rattle.form_laws.proofs.Linear.{KnowsOnly, only_weaker, form_only}
use Rattle.form_laws.proofs.Maps.{Keeps}
use Rattle.form_laws.proofs.Naming.{EachName, each_weaker, IsMeant, number_low}

-- how many symbols there are
abbrev pub count : Placed → ℕ
count placed = length placed.table.symbols.symbols

-- the number is that of a symbol, or of the place
abbrev pub IsHere : Placed → ℕ → Type 0
IsHere placed symbol = (symbol < count placed) ⊎ (symbol ≡ (known_here placed).place)

-- WHAT IS KNOWN

-- what is known as a form is assigned that form
meaning_form : (meant : Meaning) (weak : Bool) (made : Form) → meaning_told meant weak ≡ form made → form_of meant ≡ Some made
meaning_form meaning.Undefined weak made is = absurd cc
meaning_form (meaning.Label spot) weak made is = absurd cc
meaning_form (meaning.Common size align) weak made is = absurd cc
meaning_form (meaning.Space spot) weak made is = absurd cc
meaning_form (meaning.Assigned other) weak made is = by other.terms weak refl is
  where
    by : (terms : List Term) (weak : Bool) → other.terms ≡ terms → form_told other.terms weak other ≡ form made → form_of (meaning.Assigned other) ≡ Some made
    by [] weak none is = absurd (let told_is : form_told other.terms weak other ≡ constant other.constant = ap (λ ts. form_told ts weak other) none in cc)
    by (term ∷ terms) true some is = absurd (let told_is : form_told other.terms true other ≡ absent = ap (λ ts. form_told ts true other) some in cc)
    by (term ∷ terms) false some is =
        let told_is : form_told other.terms false other ≡ form other = ap (λ ts. form_told ts false other) some in
        let same : other ≡ made = cc in
        ap Some same

-- and what is known as a number a form of that number
meaning_number : (meant : Meaning) (weak : Bool) (n : ℕ) → meaning_told meant weak ≡ constant n → (made : Form) × (form_of meant ≡ Some made) × (made.constant ≡ n)
meaning_number meaning.Undefined weak n is = absurd cc
meaning_number (meaning.Label spot) weak n is = absurd cc
meaning_number (meaning.Common size align) weak n is = absurd cc
meaning_number (meaning.Space spot) weak n is = absurd cc
meaning_number (meaning.Assigned other) weak n is = by other.terms weak refl is
  where
    by : (terms : List Term) (weak : Bool) → other.terms ≡ terms → form_told other.terms weak other ≡ constant n
        → (made : Form) × (form_of (meaning.Assigned other) ≡ Some made) × (made.constant ≡ n)
    by [] weak none is =
        let told_is : form_told other.terms weak other ≡ constant other.constant = ap (λ ts. form_told ts weak other) none in
        let same : other.constant ≡ n = cc in
        (other, refl, same)
    by (term ∷ terms) true some is = absurd (let told_is : form_told other.terms true other ≡ absent = ap (λ ts. form_told ts true other) some in cc)
    by (term ∷ terms) false some is = absurd (let told_is : form_told other.terms false other ≡ form other = ap (λ ts. form_told ts false other) some in cc)

pub told_form : (map' : SymbolMap) (index : ℕ) (made : Form) → told map' index ≡ form made → form_at map'.symbols index ≡ Some made
unfolding told
told_form map' index made is = by (slice_get map'.symbols index) is
  where
    by : (found : Option Symbol) → option_map_or symbol_told found absent ≡ form made → option_and_then (λ symbol. form_of symbol.meaning) found ≡ Some made
    by None has = absurd cc
    by (Some symbol) has = meaning_form symbol.meaning (is_weak symbol.binding) made has

pub told_number : (map' : SymbolMap) (index n : ℕ) → told map' index ≡ constant n → (made : Form) × (form_at map'.symbols index ≡ Some made) × (made.constant ≡ n)
unfolding told
told_number map' index n is = by (slice_get map'.symbols index) is
  where
    by : (found : Option Symbol) → option_map_or symbol_told found absent ≡ constant n
        → (made : Form) × (option_and_then (λ symbol. form_of symbol.meaning) found ≡ Some made) × (made.constant ≡ n)
    by None has = absurd cc
    by (Some symbol) has = meaning_number symbol.meaning (is_weak symbol.binding) n has

-- EXPRESSIONS

knows_here : (placed : Placed) → FormsAreThere placed.table.symbols → KnowsOnly (IsHere placed) (known_here placed)
knows_here placed there = record { forms = λ own made. by (own == (known_here placed).place) own made; place = inr refl }
  where
    by : (b : Bool) (own : ℕ) (made : Form) → cond b (label (here placed).stretch (here placed).at) (told placed.table.symbols own) ≡ form made → NamesOnly (IsHere placed) made.terms
    by true own made is = absurd cc
    by false own made is =
        only_weaker (λ symbol. symbol < count placed) (IsHere placed) (λ symbol low. inl low) made.terms (there own made (told_form placed.table.symbols own made is))

-- the form of an expression whose names are symbols names these, or the place
pub form_here : (placed : Placed) (tree : Tree) (made : Form) → FormsAreThere placed.table.symbols → EachName (IsMeant placed.table.symbols) tree
    → form_in (known_here placed) tree ≡ Ok made → NamesOnly (IsHere placed) made.terms
form_here placed tree made there named is =
    form_only (IsHere placed) (known_here placed) tree made (knows_here placed there)
    (each_weaker (IsMeant placed.table.symbols) (λ written. IsHere placed ((known_here placed).meant written))
    (λ written meant. inl (number_low placed.table.symbols (meant_name placed.table.symbols.counts written) meant)) tree named) is

first_true : (a b : Bool) → a ≡ true → (a || b) ≡ true
first_true true b is = refl
first_true false b is = absurd cc

pub second_true : (a b : Bool) → b ≡ true → (a || b) ≡ true
second_true true b is = refl
second_true false b is = is

-- it names symbols that are there in the end, if the place is one where the form keeps it
pub closes_below : (placed : Placed) (many : ℕ) (terms : List Term) → NamesOnly (IsHere placed) terms → count placed ≤ many
    → (list_any (λ term. term.symbol == (known_here placed).place) terms ≡ true → (known_here placed).place < many) → AreBelow many terms
closes_below placed many [] all more uses = tt
closes_below placed many (term ∷ terms) all more uses = (
  by all.0,
  closes_below placed many terms all.1 more
      (λ later. uses (second_true (term.symbol == (known_here placed).place) (list_any (λ term. term.symbol == (known_here placed).place) terms) later)),
)
  where
    by : IsHere placed term.symbol → term.symbol < many
    by (inl low) = omega (arith, low, more)
    by (inr is) =
        subst (λ (n : ℕ). n < many) (sym is)
        (uses (first_true (term.symbol == (known_here placed).place) (list_any (λ term. term.symbol == (known_here placed).place) terms)
        (eq-eqb term.symbol (known_here placed).place is)))

-- forms that stay name symbols that are there
pub there_kept : (before after : SymbolMap) → Keeps before after → FormsAreThere before → FormsAreThere after
there_kept before after kept there index made is =
    let more = kept.more in
    only_weaker (λ symbol. symbol < length before.symbols) (λ symbol. symbol < length after.symbols) (λ symbol low. omega (arith, low, more)) made.terms
    (there index made (kept.forms index made is))
