-- The functions of a source, as its statements are placed: where they begin and end, and what is put into their sections meanwhile.
use Rattle.std.specs.Prelude.{◌==◌, ◌+◌, ◌&&◌, ◌∷◌, ◌++◌, ℕ, Bool, true, false, not, List, [], map, Option, None, Some, slice_get, slice_set, if◌then◌else◌}
use Rattle.std.specs.Option.{is_none, option_map_or}
use Rattle.std.specs.List.{list_any}
use Rattle.asm_base.specs.declared.places.Place.{Place}
use Rattle.asm_base.specs.declared.positions.Pos.{Pos}
use Rattle.code_functions.specs.declared.extents.Extent.{Extent}

-- a function: the symbol at whose label it begins, the statement of that label, its section, the places there where it begins and where it has ended, and
-- what was put into that section meanwhile, in order
pub record Recorded (A : Type 0) : Type 0 where
  pub symbol : ℕ
  pub pos : Pos
  pub section : ℕ
  pub start : Place
  pub stop : Option Place
  pub items : List A

-- the same without them
abbrev pub extent_of : {A : Type 0} → Recorded A → Extent
extent_of f = record { symbol = f.symbol; pos = f.pos; section = f.section; start = f.start; stop = f.stop }

-- it has not ended
abbrev pub is_open : {A : Type 0} → Recorded A → Bool
is_open f = is_none f.stop

-- nor has it, and it is in this section
abbrev pub is_open_in : {A : Type 0} → ℕ → Recorded A → Bool
is_open_in section f = is_open f && (f.section == section)

-- it has not ended, and is in another section
abbrev pub is_open_beside : {A : Type 0} → ℕ → Recorded A → Bool
is_open_beside section f = is_open f && not (f.section == section)

-- an instruction in this section splits a function
abbrev pub is_split : {A : Type 0} → ℕ → List (Recorded A) → Bool
is_split section functions = list_any (is_open_beside section) functions

-- a function begins at a label of the symbol
abbrev pub begun : {A : Type 0} → (symbol : ℕ) → Pos → (section : ℕ) → Place → List (Recorded A) → List (Recorded A)
begun symbol pos section start functions =
    functions ++ record { symbol = symbol; pos = pos; section = section; start = start; stop = None; items = [] } ∷ []

-- the item is one of the function, if that is open in the item's section
abbrev pub with_item : {A : Type 0} → (section : ℕ) → A → Recorded A → Recorded A
with_item section item f = if is_open_in section f then record f { items = f.items ++ item ∷ [] } else f

-- an item is put into this section
abbrev pub added : {A : Type 0} → (section : ℕ) → A → List (Recorded A) → List (Recorded A)
added section item functions = map (with_item section item) functions

-- the function ends at the place, if it is open
abbrev pub closed : {A : Type 0} → Place → Recorded A → Recorded A
closed stop f = if is_open f then record f { stop = Some stop } else f

-- the function ends where its section does, if it is open
abbrev pub closed_by : {A : Type 0} → (ends : ℕ → Place) → Recorded A → Recorded A
closed_by ends f = closed (ends f.section) f

-- all that are open end
abbrev pub all_closed : {A : Type 0} → (ends : ℕ → Place) → List (Recorded A) → List (Recorded A)
all_closed ends functions = map (closed_by ends) functions

-- the function of this number ends, if it is open
abbrev pub closed_at : {A : Type 0} → (ends : ℕ → Place) → (number : ℕ) → List (Recorded A) → List (Recorded A)
closed_at ends number functions = option_map_or (λ f. slice_set functions number (closed_by ends f)) (slice_get functions number) functions

-- the later of two numbers in a list: the first one's, or that which is found behind it, which is counted from there
abbrev pub later_of : (first : Bool) → Option ℕ → Option ℕ
later_of first (Some behind) = Some (behind + 1)
later_of true None = Some 0
later_of false None = None

-- where in a list a number stands last
abbrev pub last_in : ℕ → List ℕ → Option ℕ
last_in number [] = None
last_in number (one ∷ others) = later_of (one == number) (last_in number others)

-- the number of the last function of a symbol; a symbol is a label once, and so has one at most
abbrev pub last_of : {A : Type 0} → (symbol : ℕ) → List (Recorded A) → Option ℕ
last_of symbol functions = last_in symbol (map (λ f. f.symbol) functions)

-- the function of a symbol ends, if it is open
abbrev pub closed_of : {A : Type 0} → (symbol : ℕ) → (ends : ℕ → Place) → List (Recorded A) → List (Recorded A)
closed_of symbol ends functions = option_map_or (λ number. closed_at ends number functions) (last_of symbol functions) functions

-- the items of the function of this number
abbrev pub items_of : {A : Type 0} → (number : ℕ) → List (Recorded A) → List A
items_of number functions = option_map_or (λ f. f.items) (slice_get functions number) []
