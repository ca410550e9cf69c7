-- Labels of places are put last, and each place that a form names is a label there.
use Rattle.std.proofs.Common.{◌≡◌, ℕ, zero, suc, ◌+◌, ◌==◌, ◌&&◌, Bool, true, false, List, [], ◌∷◌, ◌++◌, length, Option, None, Some, if◌then◌else◌, refl, sym, ap, subst, ◌∙◌, arith, get_or}
use Rattle.std.specs.Prelude.{All, IsSomeAnd}
use Rattle.std.specs.List.{slice_get}
use Rattle.std.specs.Option.{option_map, unwrap_or}
use Rattle.std.proofs.lemmas.Bool.{eqb-true}
use Rattle.std.proofs.lemmas.List.{append-nil, append_assoc}
use Rattle.std.proofs.lemmas.List.Elements.{All-nil, All-cons, All-append}
use Rattle.std.proofs.lemmas.Option.{slice_get_within, get_or_from_slice_get}
use Rattle.asm_base.specs.declared.positions.Pos.{Pos}
use Rattle.asm_expr.specs.declared.naming.Name.{Name}
use Rattle.asm_expr.specs.declared.naming.Name.TheVariants as naming
use Rattle.asm_expr.specs.Names.{same_name}
use Rattle.asm_symbols.specs.declared.entries.Symbol.{Symbol}
use Rattle.asm_symbols.specs.Interning.{number_of}
use Rattle.asm_symbols.specs.SymbolMap.{SymbolMap, names, index_of}
use Rattle.asm_base.specs.declared.places.SectionPlace.{SectionPlace}
use Rattle.table_pieces.specs.declared.marks.Distance.{Distance}
use Rattle.table_pieces.specs.declared.marks.Mark.{Mark}
use Rattle.table_pieces.specs.declared.marks.Mark.TheVariants.{Here, At}
use Rattle.table_pieces.specs.Marks.{place_name, spot_of, label_symbol, with_label_by, with_label, with_mark, with_marks}
use Rattle.table_pieces.specs.Pieces as piece
use Rattle.table_pieces.specs.Pieces.{Piece, from_here, Tables, piece_put, pieces_put}
use Rattle.table_pieces.specs.Labels.{IsLabelAt, PlacesAreLabels, NamesPlace, GetsLabels}

-- a label that is made for a place is one there
label_at : (at : SectionPlace) (number : ℕ) → IsLabelAt at (label_symbol at number)
label_at at number = record { spot = spot_of at number; means = refl; place = record { section = refl; item = refl; offset = refl }; unbound = refl }

-- MAPS THAT GET LABELS

abbrev IsNewLabel : Symbol → Type 0
IsNewLabel label = (at : SectionPlace) × (label.name ≡ place_name at) × IsLabelAt at label

-- a map that stays gets none
pub label_same : (map : SymbolMap) → GetsLabels map map
label_same map = record { labels = []; all = sym (append-nil map.symbols); each = All-nil IsNewLabel; files = refl; counts = refl; sizes = refl }

pub label_on : (before middle after : SymbolMap) → GetsLabels before middle → GetsLabels middle after → GetsLabels before after
label_on before middle after one other = record {
  labels = one.labels ++ other.labels;
  all = other.all ∙ ap (λ all. all ++ other.labels) one.all ∙ append_assoc before.symbols one.labels other.labels;
  each = All-append IsNewLabel one.labels other.labels one.each other.each;
  files = other.files ∙ one.files;
  counts = other.counts ∙ one.counts;
  sizes = other.sizes ∙ one.sizes;
}

label_by : (found : Option ℕ) (map : SymbolMap) (at : SectionPlace) → GetsLabels map (with_label_by found map at)
label_by (Some number) map at = label_same map
label_by None map at = record {
  labels = label_symbol at (length map.symbols) ∷ [];
  all = refl;
  each = All-cons IsNewLabel (label_symbol at (length map.symbols)) []
      (at, refl, label_at at (length map.symbols)) (All-nil IsNewLabel);
  files = refl;
  counts = refl;
  sizes = refl;
}

label_gets : (map : SymbolMap) (at : SectionPlace) → GetsLabels map (with_label map at)
unfolding with_label
label_gets map at = label_by (index_of (place_name at) (names map.symbols)) map at

mark_gets : (map : SymbolMap) (mark : Mark) → GetsLabels map (with_mark map mark)
mark_gets map Here = label_same map
mark_gets map (At at) = label_gets map at

marks_get : (map : SymbolMap) (distance : Distance) → GetsLabels map (with_marks map distance)
marks_get map distance =
    label_on map (with_mark map distance.to) (with_marks map distance) (mark_gets map distance.to) (mark_gets (with_mark map distance.to) distance.from)

piece_gets : (section : ℕ) (pos : Pos) (piece : Piece) (tables : Tables) → GetsLabels tables.symbols (piece_put section pos piece tables).symbols
piece_gets section pos (piece.plain bytes) tables = label_same tables.symbols
piece_gets section pos (piece.number distance) tables = marks_get tables.symbols distance
piece_gets section pos (piece.pointer place) tables = marks_get tables.symbols (from_here place)
piece_gets section pos (piece.address place) tables = label_gets tables.symbols place
piece_gets section pos (piece.field size form) tables = label_same tables.symbols
piece_gets section pos (piece.advance distance) tables = marks_get tables.symbols distance
piece_gets section pos (piece.leb128 distance) tables = marks_get tables.symbols distance
piece_gets section pos (piece.padding log) tables = label_same tables.symbols

pub pieces_get : (section : ℕ) (pos : Pos) (pieces : List Piece) (tables : Tables) → GetsLabels tables.symbols (pieces_put section pos pieces tables).symbols
pieces_get section pos [] tables = label_same tables.symbols
pieces_get section pos (piece ∷ pieces) tables =
    label_on tables.symbols (piece_put section pos piece tables).symbols (pieces_put section pos pieces (piece_put section pos piece tables)).symbols
    (piece_gets section pos piece tables) (pieces_get section pos pieces (piece_put section pos piece tables))

-- LABELS OF PLACES

both : (a b : Bool) → (a && b) ≡ true → (a ≡ true) × (b ≡ true)
both true true is = (refl, refl)
both true false is = absurd (let none : ⊥ = cc in none)
both false b is = absurd (let none : ⊥ = cc in none)

same_place_name : (at : SectionPlace) (name : Name) → same_name (place_name at) name ≡ true → name ≡ place_name at
same_place_name at (naming.Plain text) is = absurd (let none : ⊥ = cc in none)
same_place_name at (naming.Numeric number instance) is = absurd (let none : ⊥ = cc in none)
same_place_name at (naming.Place section item offset) is =
    let parts : (((at.section == section) && (at.place.item == item)) ≡ true) × ((at.place.offset == offset) ≡ true) =
    both ((at.section == section) && (at.place.item == item)) (at.place.offset == offset) is in
    let firsts : ((at.section == section) ≡ true) × ((at.place.item == item) ≡ true) = both (at.section == section) (at.place.item == item) parts.0 in
    let sections : at.section ≡ section = eqb-true at.section section firsts.0 in
    let items : at.place.item ≡ item = eqb-true at.place.item item firsts.1 in
    let offsets : at.place.offset ≡ offset = eqb-true at.place.offset offset parts.1 in
    ap (λ (s : ℕ). naming.Place s item offset) (sym sections) ∙ ap (λ (i : ℕ). naming.Place at.section i offset) (sym items)
    ∙ ap (λ (o : ℕ). naming.Place at.section at.place.item o) (sym offsets)

abbrev StandsAt : SectionPlace → List Symbol → ℕ → Type 0
StandsAt at symbols number = (symbol : Symbol) × (slice_get symbols number ≡ Some symbol) × (symbol.name ≡ place_name at)

further : (at : SectionPlace) (first : Symbol) (rest : List Symbol) (number : ℕ) (found : Option ℕ)
    → ((number : ℕ) → found ≡ Some number → StandsAt at rest number) → option_map (λ index. index + 1) found ≡ Some number → StandsAt at (first ∷ rest) number
further at first rest number None below is = absurd (let none : ⊥ = cc in none)
further at first rest number (Some index) below is =
    let next : index + 1 ≡ number = cc in
    let one : suc index ≡ index + 1 = omega arith in
    subst (StandsAt at (first ∷ rest)) (one ∙ next) (below index refl)

found_at : (at : SectionPlace) (first : Symbol) (rest : List Symbol) (number : ℕ) (same : Bool) → same_name (place_name at) first.name ≡ same
    → ((number : ℕ) → index_of (place_name at) (names rest) ≡ Some number → StandsAt at rest number)
    → (if same then Some 0 else option_map (λ index. index + 1) (index_of (place_name at) (names rest))) ≡ Some number → StandsAt at (first ∷ rest) number
found_at at first rest number true named below is =
    let none : 0 ≡ number = cc in subst (StandsAt at (first ∷ rest)) none (first, refl, same_place_name at first.name named)
found_at at first rest number false named below is = further at first rest number (index_of (place_name at) (names rest)) below is

stands_there : (at : SectionPlace) (symbols : List Symbol) (number : ℕ) → index_of (place_name at) (names symbols) ≡ Some number → StandsAt at symbols number
stands_there at [] number is = absurd (let none : ⊥ = cc in none)
stands_there at (first ∷ rest) number is = found_at at first rest number (same_name (place_name at) first.name) refl (stands_there at rest) is

-- what holds of all symbols holds of one that is there
of_one : (P : Symbol → Type 0) (symbols : List Symbol) (number : ℕ) (symbol : Symbol) → All P symbols → slice_get symbols number ≡ Some symbol → P symbol
of_one P symbols number symbol all is =
    subst P (get_or_from_slice_get symbols number symbol symbol is) (all number symbol (slice_get_within symbols number symbol is))

get_last : {X : Type 0} (xs : List X) (x : X) → slice_get (xs ++ x ∷ []) (length xs) ≡ Some x
get_last [] x = refl
get_last (y ∷ xs) x = get_last xs x

get_first : {X : Type 0} (xs ys : List X) (i : ℕ) (x : X) → slice_get xs i ≡ Some x → slice_get (xs ++ ys) i ≡ Some x
get_first [] ys i x is = absurd (let none : ⊥ = cc in none)
get_first (y ∷ xs) ys zero x is = is
get_first (y ∷ xs) ys (suc i) x is = get_first xs ys i x is

abbrev IsKnown : Symbol → Type 0
IsKnown symbol = (at : SectionPlace) → symbol.name ≡ place_name at → IsLabelAt at symbol

pub place_named : (map : SymbolMap) (at : SectionPlace) → PlacesAreLabels map → NamesPlace (with_label map at) (number_of map (place_name at)) at
unfolding with_label number_of
place_named map at known = by (index_of (place_name at) (names map.symbols)) refl
  where
    by : (found : Option ℕ) → index_of (place_name at) (names map.symbols) ≡ found → NamesPlace (with_label_by found map at) (unwrap_or found (length map.symbols)) at
    by None is = subst (λ (found : Option Symbol). IsSomeAnd found (IsLabelAt at)) (sym (get_last map.symbols (label_symbol at (length map.symbols))))
        (label_at at (length map.symbols))
    by (Some number) is = there (stands_there at map.symbols number is)
      where
        there : StandsAt at map.symbols number → NamesPlace map number at
        there (symbol, stands, named) =
            subst (λ (found : Option Symbol). IsSomeAnd found (IsLabelAt at)) (sym stands) (of_one IsKnown map.symbols number symbol known stands at named)

new_known : (label : Symbol) → IsNewLabel label → IsKnown label
new_known label (place, named, is_label) at other =
    let same : naming.Place place.section place.place.item place.place.offset ≡ naming.Place at.section at.place.item at.place.offset = sym named ∙ other in
    let section : place.section ≡ at.section = cc in
    let item : place.place.item ≡ at.place.item = cc in
    let offset : place.place.offset ≡ at.place.offset = cc in
    let is = is_label.place in
    record {
      spot = is_label.spot;
      means = is_label.means;
      place = record { section = is.section ∙ section; item = is.item ∙ item; offset = is.offset ∙ offset };
      unbound = is_label.unbound;
    }

pub places_known : (before after : SymbolMap) → PlacesAreLabels before → GetsLabels before after → PlacesAreLabels after
places_known before after known gets =
    subst (All IsKnown) (sym gets.all)
    (All-append IsKnown before.symbols gets.labels known (λ k d within. new_known (get_or gets.labels k d) (gets.each k d within)))

pub place_stays : (before after : SymbolMap) (number : ℕ) (at : SectionPlace) → GetsLabels before after → NamesPlace before number at → NamesPlace after number at
place_stays before after number at gets = by (slice_get before.symbols number) refl
  where
    by : (found : Option Symbol) → slice_get before.symbols number ≡ found → IsSomeAnd found (IsLabelAt at) → NamesPlace after number at
    by None is names_it = absurd names_it
    by (Some symbol) is names_it =
        subst (λ (found : Option Symbol). IsSomeAnd found (IsLabelAt at))
        (sym (ap (λ symbols. slice_get symbols number) gets.all ∙ get_first before.symbols gets.labels number symbol is)) names_it
