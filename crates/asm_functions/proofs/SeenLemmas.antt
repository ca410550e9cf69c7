-- What statements do to functions is the same whether their items are looked at before or after.
use Rattle.std.proofs.Common.{◌≡◌, ℕ, Bool, true, false, List, [], ◌∷◌, ◌++◌, map, set, Option, None, Some, refl, sym, ap, ◌∙◌}
use Rattle.std.specs.Prelude.{◌||◌, if◌then◌else◌, slice_get, option_map}
use Rattle.std.specs.Option.{option_map_or}
use Rattle.std.proofs.lemmas.List.{map-append, map-set}
use Rattle.std.proofs.lemmas.Option.{slice_get-map}
use Rattle.asm_base.specs.declared.places.Place.{Place}
use Rattle.asm_base.specs.declared.positions.Pos.{Pos}
use Rattle.code_functions.specs.declared.items.CodeItem.{CodeItem}
use Rattle.code_functions.specs.Recorded.{Recorded, is_open, is_open_in, is_open_beside, is_split, begun, with_item, added, closed_by, all_closed, closed_at, last_in, last_of, closed_of}
use Rattle.code_functions.specs.Seen.{seen, mapped, all_seen}

-- OF ANY LOOK

module _ {A B : Type 0} (look : A → B) where
  -- an item more
  item_by : (here : Bool) (item : A) (f : Recorded A)
      → mapped look (if here then record f { items = f.items ++ item ∷ [] } else f)
      ≡ (if here then record (mapped look f) { items = map look f.items ++ look item ∷ [] } else mapped look f)
  item_by true item f = ap (λ items. record (mapped look f) { items = items }) (map-append look f.items (item ∷ []))
  item_by false item f = refl

  added_mapped : (section : ℕ) (item : A) (functions : List (Recorded A))
      → map (mapped look) (added section item functions) ≡ added section (look item) (map (mapped look) functions)
  added_mapped section item [] = refl
  added_mapped section item (f ∷ functions) =
      ap (λ g. g ∷ map (mapped look) (added section item functions)) (item_by (is_open_in section f) item f)
      ∙ ap (λ others. with_item section (look item) (mapped look f) ∷ others) (added_mapped section item functions)

  -- an end
  end_by : (still : Bool) (stop : Place) (f : Recorded A)
      → mapped look (if still then record f { stop = Some stop } else f) ≡ (if still then record (mapped look f) { stop = Some stop } else mapped look f)
  end_by true stop f = refl
  end_by false stop f = refl

  closed_mapped : (ends : ℕ → Place) (f : Recorded A) → mapped look (closed_by ends f) ≡ closed_by ends (mapped look f)
  closed_mapped ends f = end_by (is_open f) (ends f.section) f

  all_closed_mapped : (ends : ℕ → Place) (functions : List (Recorded A))
      → map (mapped look) (all_closed ends functions) ≡ all_closed ends (map (mapped look) functions)
  all_closed_mapped ends [] = refl
  all_closed_mapped ends (f ∷ functions) =
      ap (λ g. g ∷ map (mapped look) (all_closed ends functions)) (closed_mapped ends f)
      ∙ ap (λ others. closed_by ends (mapped look f) ∷ others) (all_closed_mapped ends functions)

  symbols_mapped : (functions : List (Recorded A)) → map (λ f. f.symbol) (map (mapped look) functions) ≡ map (λ f. f.symbol) functions
  symbols_mapped [] = refl
  symbols_mapped (f ∷ functions) = ap (λ others. f.symbol ∷ others) (symbols_mapped functions)

  found_by : (ends : ℕ → Place) (number : ℕ) (functions : List (Recorded A)) (found : Option (Recorded A))
      → map (mapped look) (option_map_or (λ f. set functions number (closed_by ends f)) found functions)
      ≡ option_map_or (λ f. set (map (mapped look) functions) number (closed_by ends f)) (option_map (mapped look) found) (map (mapped look) functions)
  found_by ends number functions None = refl
  found_by ends number functions (Some f) =
      map-set (mapped look) functions number (closed_by ends f) ∙ ap (set (map (mapped look) functions) number) (closed_mapped ends f)

  closed_at_mapped : (ends : ℕ → Place) (number : ℕ) (functions : List (Recorded A))
      → map (mapped look) (closed_at ends number functions) ≡ closed_at ends number (map (mapped look) functions)
  closed_at_mapped ends number functions =
      found_by ends number functions (slice_get functions number)
      ∙ ap (λ found. option_map_or (λ f. set (map (mapped look) functions) number (closed_by ends f)) found (map (mapped look) functions))
      (sym (slice_get-map (mapped look) functions number))

  last_by : (ends : ℕ → Place) (functions : List (Recorded A)) (found : Option ℕ)
      → map (mapped look) (option_map_or (λ number. closed_at ends number functions) found functions)
      ≡ option_map_or (λ number. closed_at ends number (map (mapped look) functions)) found (map (mapped look) functions)
  last_by ends functions None = refl
  last_by ends functions (Some number) = closed_at_mapped ends number functions

  closed_of_mapped : (symbol : ℕ) (ends : ℕ → Place) (functions : List (Recorded A))
      → map (mapped look) (closed_of symbol ends functions) ≡ closed_of symbol ends (map (mapped look) functions)
  closed_of_mapped symbol ends functions =
      last_by ends functions (last_of symbol functions)
      ∙ ap (λ symbols. option_map_or (λ number. closed_at ends number (map (mapped look) functions)) (last_in symbol symbols) (map (mapped look) functions))
      (sym (symbols_mapped functions))

  split_mapped : (section : ℕ) (functions : List (Recorded A)) → is_split section (map (mapped look) functions) ≡ is_split section functions
  split_mapped section [] = refl
  split_mapped section (f ∷ functions) = ap (λ others. is_open_beside section f || others) (split_mapped section functions)

-- OF WHAT IS SEEN

pub begun_seen : (symbol : ℕ) (pos : Pos) (section : ℕ) (start : Place) (functions : List (Recorded CodeItem))
    → all_seen (begun symbol pos section start functions) ≡ begun symbol pos section start (all_seen functions)
begun_seen symbol pos section start functions =
    map-append (mapped seen) functions (record { symbol = symbol; pos = pos; section = section; start = start; stop = None; items = [] } ∷ [])

pub added_seen : (section : ℕ) (item : CodeItem) (functions : List (Recorded CodeItem))
    → all_seen (added section item functions) ≡ added section (seen item) (all_seen functions)
added_seen section item functions = added_mapped seen section item functions

pub closed_of_seen : (symbol : ℕ) (ends : ℕ → Place) (functions : List (Recorded CodeItem))
    → all_seen (closed_of symbol ends functions) ≡ closed_of symbol ends (all_seen functions)
closed_of_seen symbol ends functions = closed_of_mapped seen symbol ends functions

pub all_closed_seen : (ends : ℕ → Place) (functions : List (Recorded CodeItem))
    → all_seen (all_closed ends functions) ≡ all_closed ends (all_seen functions)
all_closed_seen ends functions = all_closed_mapped seen ends functions

pub split_seen : (section : ℕ) (functions : List (Recorded CodeItem)) → is_split section (all_seen functions) ≡ is_split section functions
split_seen section functions = split_mapped seen section functions
