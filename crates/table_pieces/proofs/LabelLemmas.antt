-- A label that is put last.
use Rattle.std.proofs.Common.{◌≡◌, ℕ, ◌<◌, Bool, true, false, List, [], ◌∷◌, ◌++◌, length, Option, None, Some, Result, Ok, Err, if◌then◌else◌, refl, sym, ap, ◌∙◌, arith}
use Rattle.std.specs.Prelude.{◌≤◌}
use Rattle.std.specs.List.{slice_get}
use Rattle.asm_expr.specs.declared.naming.Name.{Name}
use Rattle.asm_symbols.specs.declared.entries.Symbol.{Symbol}
use Rattle.asm_symbols.specs.declared.entries.Definition.TheVariants as definition
use Rattle.asm_symbols.specs.declared.entries.Meaning.TheVariants as meaning
use Rattle.asm_base.specs.declared.causes.SymCause.{SymCause}
use Rattle.asm_base.specs.declared.causes.SymCause.TheVariants.{BadSymbolUse}
use Rattle.asm_symbols.specs.Defining.{defined, defined_by}
use Rattle.asm_symbols.specs.Interning.{undefined, has_room, with_name, added, named, number_of}
use Rattle.asm_symbols.specs.SymbolMap.{SymbolMap, names, index_of, changed, with_meaning}
use Rattle.asm_base.specs.declared.places.SectionPlace.{SectionPlace}
use Rattle.table_pieces.specs.Marks.{place_name, spot_of, label_symbol, with_label}

-- the place has no label
abbrev IsNew : SymbolMap → SectionPlace → Type 0
IsNew map at = index_of (place_name at) (names map.symbols) ≡ None

get_last : {X : Type 0} (xs : List X) (x : X) → slice_get (xs ++ x ∷ []) (length xs) ≡ Some x
get_last [] x = refl
get_last (y ∷ xs) x = get_last xs x

changed_last : (change : Symbol → Symbol) (symbols : List Symbol) (symbol : Symbol)
    → changed change (symbols ++ symbol ∷ []) (length symbols) ≡ symbols ++ change symbol ∷ []
unfolding changed
changed_last change [] symbol = refl
changed_last change (first ∷ symbols) symbol = ap (λ rest. first ∷ rest) (changed_last change symbols symbol)

-- the map with a symbol more, if there is room for it
abbrev if_room : SymbolMap → Name → Bool → Result (SymbolMap × ℕ) SymCause
if_room map name room = if room then Ok (with_name map name, length map.symbols) else Err BadSymbolUse

module _ (map made : SymbolMap) (number : ℕ) where
  -- a new name is the last symbol's, if there is room for it
  added_last : (name : Name) (room : Bool) → if_room map name room ≡ Ok (made, number)
      → (made ≡ with_name map name) × (number ≡ length map.symbols)
  added_last name true is =
      let same : (made, number) ≡ (with_name map name, length map.symbols) = cc in
      (ap (λ (pair : SymbolMap × ℕ). pair.0) same, ap (λ (pair : SymbolMap × ℕ). pair.1) same)
  added_last name false is = absurd cc

  named_added : (name : Name) → index_of name (names map.symbols) ≡ None → named map name ≡ added map name
  unfolding named
  named_added name new = rw new refl

  named_last : (name : Name) → index_of name (names map.symbols) ≡ None → named map name ≡ Ok (made, number)
      → (made ≡ with_name map name) × (number ≡ length map.symbols)
  named_last name new is = added_last name (has_room map name) (sym (named_added name new) ∙ is)

-- the map with the label last
abbrev labelled : SymbolMap → SectionPlace → SymbolMap
labelled map at = record map { symbols = map.symbols ++ label_symbol at (length map.symbols) ∷ [] }

defined_last : (map : SymbolMap) (at : SectionPlace)
    → defined (with_name map (place_name at)) (length map.symbols) (definition.Label (spot_of at (length map.symbols))) ≡ Ok (labelled map at)
unfolding defined
defined_last map at =
    ap (λ found. defined_by found (with_name map (place_name at)) (length map.symbols) (definition.Label (spot_of at (length map.symbols))))
    (get_last map.symbols (undefined (place_name at)))
    ∙ ap (λ symbols. Ok (record map { symbols = symbols }))
    (changed_last (with_meaning (meaning.Label (spot_of at (length map.symbols)))) map.symbols (undefined (place_name at)))

label_last : (map : SymbolMap) (at : SectionPlace) → IsNew map at → with_label map at ≡ labelled map at
unfolding with_label
label_last map at new = rw new refl

-- the name of a symbol that is there already
found_there : (map made : SymbolMap) (at : SectionPlace) (number index : ℕ) → index_of (place_name at) (names map.symbols) ≡ Some index
    → named map (place_name at) ≡ Ok (made, number) → (made ≡ map) × (number ≡ index)
unfolding named
found_there map made at number index found names_it =
    let due : named map (place_name at) ≡ Ok (map, index) = rw found refl in
    let same : (made, number) ≡ (map, index) = cc in
    (ap (λ (pair : SymbolMap × ℕ). pair.0) same, ap (λ (pair : SymbolMap × ℕ). pair.1) same)

-- whose label that is
label_there : (map : SymbolMap) (at : SectionPlace) (index : ℕ) → index_of (place_name at) (names map.symbols) ≡ Some index → with_label map at ≡ map
unfolding with_label
label_there map at index found = rw found refl

-- where a number was given before, the label was there
known_by : (map made : SymbolMap) (at : SectionPlace) (number : ℕ) (found : Option ℕ) → index_of (place_name at) (names map.symbols) ≡ found
    → named map (place_name at) ≡ Ok (made, number) → number < length map.symbols → made ≡ with_label map at
known_by map made at number None new names_it less =
    let last = (named_last map made number (place_name at) new names_it).1 in
    absurd (omega (arith, less, last))
known_by map made at number (Some index) found names_it less =
    (found_there map made at number index found names_it).0 ∙ sym (label_there map at index found)

pub label_known : (map made : SymbolMap) (at : SectionPlace) (number : ℕ) → named map (place_name at) ≡ Ok (made, number) → number < length map.symbols
    → made ≡ with_label map at
label_known map made at number names_it less = known_by map made at number (index_of (place_name at) (names map.symbols)) refl names_it less

-- and a number that was not is that of a new one
new_by : (map made : SymbolMap) (at : SectionPlace) (number : ℕ) (found : Option ℕ) → index_of (place_name at) (names map.symbols) ≡ found
    → named map (place_name at) ≡ Ok (made, number) → number < length made.symbols → length map.symbols ≤ number → IsNew map at
new_by map made at number None new names_it less last = new
new_by map made at number (Some index) found names_it less last =
    let same = ap (λ (m : SymbolMap). length m.symbols) (found_there map made at number index found names_it).0 in
    absurd (omega (arith, less, last, same))

pub label_made : (map made new : SymbolMap) (at : SectionPlace) (number : ℕ) → named map (place_name at) ≡ Ok (made, number) → number < length made.symbols
    → length map.symbols ≤ number → defined made number (definition.Label (spot_of at number)) ≡ Ok new → new ≡ with_label map at
label_made map made new at number names_it less last defines =
    let is_new = new_by map made at number (index_of (place_name at) (names map.symbols)) refl names_it less last in
    let parts : (made ≡ with_name map (place_name at)) × (number ≡ length map.symbols) = named_last map made number (place_name at) is_new names_it in
    let due : defined made number (definition.Label (spot_of at number)) ≡ Ok (labelled map at) =
    ap (λ m. defined m number (definition.Label (spot_of at number))) parts.0
    ∙ ap (λ n. defined (with_name map (place_name at)) n (definition.Label (spot_of at n))) parts.1 ∙ defined_last map at in
    let same : Ok new ≡ Ok (labelled map at) = sym defines ∙ due in
    let is : new ≡ labelled map at = cc in
    is ∙ sym (label_last map at is_new)

-- either way it is that of the label
number_by : (map made : SymbolMap) (at : SectionPlace) (number : ℕ) (found : Option ℕ) → index_of (place_name at) (names map.symbols) ≡ found
    → named map (place_name at) ≡ Ok (made, number) → number ≡ number_of map (place_name at)
unfolding number_of
number_by map made at number None new names_it = rw new ((named_last map made number (place_name at) new names_it).1)
number_by map made at number (Some index) found names_it = rw found ((found_there map made at number index found names_it).1)

pub label_number : (map made : SymbolMap) (at : SectionPlace) (number : ℕ) → named map (place_name at) ≡ Ok (made, number) → number ≡ number_of map (place_name at)
label_number map made at number names_it = number_by map made at number (index_of (place_name at) (names map.symbols)) refl names_it
