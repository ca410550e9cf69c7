-- Bytes up to a place (GNU as manual, ".org").
use Rattle.std.specs.Prelude.{ℕ, ◌==◌, ◌&&◌, nat_le, Bool, false, List, [], ◌∷◌, length, unwrap_or, Option, None, Some, Result, Ok, Err, slice_get, if◌then◌else◌}
use Rattle.std.specs.Option.{option_map_or}
use Rattle.asm_base.specs.declared.positions.Pos.{Pos}
use Rattle.asm_base.specs.Refusals.{◌>>=◌}
use Rattle.asm_base.specs.Tokens.{SpelledToken}
use Rattle.asm_expr.specs.declared.forms.Term.{Term}
use Rattle.asm_expr.specs.Forms.{Form}
use Rattle.asm_expr.specs.Trees.{Tree}
use Rattle.asm_frags.specs.Writing.{LooseSection}
use Rattle.asm_operands.specs.declared.place_faults.PlaceCause.{PlaceCause}
use Rattle.asm_operands.specs.declared.place_faults.PlaceCause.TheVariants.{ValueNotKnown}
use Rattle.asm_operands.specs.declared.up_to_three.UpToThree.{UpToThree}
use Rattle.asm_operands.specs.Expressions.{constant_in, up_to_three_listed, up_to_three_trees, up_to_three_forms}
use Rattle.asm_operands.specs.Operands.{operands_of}
use Rattle.asm_operands.specs.Results.{if_some}
use Rattle.asm_symbols.specs.declared.entries.Meaning.{Meaning}
use Rattle.asm_symbols.specs.declared.entries.Meaning.TheVariants.{Undefined, Label, Common, Space, Assigned}
use Rattle.asm_symbols.specs.declared.entries.Spot.{Spot}
use Rattle.asm_uses.specs.declared.tables.Naming.{Naming}
use Rattle.asm_uses.specs.Tables.{naming_of}
use Rattle.asm_values.specs.Data.{with_named}
use Rattle.asm_values.specs.State.{Placed, with_names, here, known_here}
use Rattle.asm_words.specs.Paddings.{org_of}
use Rattle.asm_items.specs.declared.orgs.Origin.{Origin}

-- so many items and so many plain bytes of the section stand before a place of it
abbrev pub has_place : ℕ → ℕ → LooseSection → Bool
has_place item offset section = nat_le item (length section.items) && nat_le offset (length section.bytes)

-- the place is one of the section of this number
unfoldable pub is_place_in : List LooseSection → ℕ → Spot → Bool
is_place_in sections number spot =
    option_map_or (λ section. (spot.place.section == number) && has_place spot.place.place.item spot.place.place.offset section) (slice_get sections number) false

-- the place, if it is one of the section of this number
abbrev pub origin_at : List LooseSection → ℕ → Spot → Option Origin
origin_at sections number spot = if is_place_in sections number spot then Some (record { from = spot.place.place.item; offset = spot.place.place.offset }) else None

-- where a symbol of this meaning stands, if it stands in the section: a label, or space
abbrev pub origin_meant : List LooseSection → ℕ → Meaning → Option Origin
origin_meant sections number Undefined = None
origin_meant sections number (Label spot) = origin_at sections number spot
origin_meant sections number (Common size align) = None
origin_meant sections number (Space spot) = origin_at sections number spot
origin_meant sections number (Assigned form) = None

-- the place of the statement, or that of the symbol at this index, if it stands in the current section
unfoldable pub origin_of : Placed → ℕ → Option Origin
origin_of placed index =
    if index == (known_here placed).place then origin_at placed.sections placed.current (here placed)
    else option_map_or (λ symbol. origin_meant placed.sections placed.current symbol.meaning) (slice_get placed.table.symbols.symbols index) None

-- what a form with these terms counts from: the beginning of the section, or a place of it
unfoldable pub origin_by : Placed → List Term → Option Origin
origin_by placed [] = Some (record { from = 0; offset = 0 })
origin_by placed (term ∷ []) = if term.coefficient == 1 then origin_of placed term.symbol else None
origin_by placed (one ∷ other ∷ more) = None

-- what counts from no earlier place of the section is not known
abbrev pub known_origin : Option Origin → Result Origin PlaceCause
known_origin None = Err ValueNotKnown
known_origin (Some origin) = Ok origin

-- bytes up to the place of the first form, of the value of the second one, or zeros
abbrev pub org_by : Pos → Naming → UpToThree Form → Placed → Result Placed PlaceCause
org_by pos naming forms named =
    known_origin (origin_by named forms.first.terms) >>= λ origin. if_some constant_in forms.second >>= λ fill.
    org_of origin.from origin.offset forms.first.constant (unwrap_or fill 0) >>= λ item. with_named pos naming item named

-- the same by expressions whose names have symbols
abbrev pub org_named : Pos → UpToThree Tree → Naming → Placed → Result Placed PlaceCause
org_named pos trees naming named = up_to_three_forms (known_here named) trees >>= λ forms. org_by pos naming forms named

-- `.org`: its operands are read, their names become symbols, and the forms of all are made before a value is asked for
unfoldable pub place_org : Pos → List SpelledToken → Placed → Result Placed PlaceCause
place_org pos tokens placed =
    up_to_three_trees 2 (operands_of tokens) >>= λ trees.
    org_named pos trees (naming_of (up_to_three_listed trees) placed.table) (with_names pos (up_to_three_listed trees) placed)
