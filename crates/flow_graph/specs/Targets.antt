-- What direct jumps and calls lead to, by the forms of their fields at the end of the source.
use Rattle.std.specs.Prelude.{◌≡◌, ◌≤◌, ◌<◌, ◌==◌, ◌&&◌, ◌||◌, ℕ, ◌+◌, Bool, true, false, not, List, [], ◌∷◌, length, filter, Option, None, Some, slice_get, slice_index_or, if◌then◌else◌}
use Rattle.std.specs.Option.{option_map_or}
use Rattle.std.specs.List.{list_any}
use Rattle.asm_base.specs.declared.places.Place.{Place}
use Rattle.asm_expr.specs.declared.forms.Term.{Term}
use Rattle.asm_expr.specs.Forms.{Form}
use Rattle.x86_insn.specs.declared.amounts.Suffix.{Suffix}
use Rattle.x86_insn.specs.declared.amounts.Suffix.TheVariants as suffix
use Rattle.asm_symbols.specs.declared.entries.Meaning.{Meaning}
use Rattle.asm_symbols.specs.declared.entries.Meaning.TheVariants as meaning
use Rattle.asm_symbols.specs.Attributes.{is_weak}
use Rattle.asm_symbols.specs.SymbolMap.{SymbolMap}
use Rattle.asm_frags.specs.Fields.{own_place}
use Rattle.asm_frags.specs.declared.fields.Field.{Field}
use Rattle.assigned_forms.specs.Expanding.{expanded}
use Rattle.assigned_forms.specs.Linked.{linked}
use Rattle.code_functions.specs.InOrder.{is_up_to}
use Rattle.code_functions.specs.declared.items.CodeItem.{CodeItem}
use Rattle.flow_graph.specs.declared.targets.Target.{Target}
use Rattle.flow_graph.specs.declared.targets.Target.TheVariants.{Inside, Outside, Unknown}

-- a place is another one
abbrev pub same_place : Place → Place → Bool
same_place one other = (one.item == other.item) && (one.offset == other.offset)

-- the later of two numbers in a list: the first element's, or else the one that is found behind it, which is counted from there
abbrev pub later_of : (first : Bool) → Option ℕ → Option ℕ
later_of first (Some behind) = Some (behind + 1)
later_of true None = Some 0
later_of false None = None

-- the last item that begins at a place: of items at one place it alone has bytes
abbrev pub item_at : List CodeItem → Place → Option ℕ
item_at [] place = None
item_at (item ∷ items) place = later_of (same_place item.place place) (item_at items place)

-- of items in order, those before this number begin at the place or before it, and the others behind it
pub record IsCountUpTo (items : List CodeItem) (place : Place) (count : ℕ) : Type 0 where
  pub within : count ≤ length items
  pub before : (item : ℕ) (d : CodeItem) → item < count → is_up_to (slice_index_or items item d).place place ≡ true
  pub behind : (item : ℕ) (d : CodeItem) → count ≤ item → item < length items → is_up_to (slice_index_or items item d).place place ≡ false

-- the one symbol, if it counts once
abbrev pub lone_term : List Term → Option ℕ
lone_term [] = None
lone_term (term ∷ []) = if term.coefficient == 1 then Some term.symbol else None
lone_term (one ∷ other ∷ more) = None

-- the term is of a symbol, and not of the place of the field
abbrev pub is_of_symbol : Term → Bool
is_of_symbol term = not (term.symbol == own_place)

-- the symbol that the form of a field is, counted from the place of the field: it alone, once, and no number
abbrev pub lone_symbol : Form → Option ℕ
lone_symbol form = if form.constant == 0 then lone_term (filter is_of_symbol form.terms) else None

-- the symbol at this index is weak
abbrev pub is_weak_at : SymbolMap → ℕ → Bool
is_weak_at map index = option_map_or (λ symbol. is_weak symbol.binding) (slice_get map.symbols index) false

-- the form names a weak symbol
abbrev pub names_weak : SymbolMap → Form → Bool
names_weak map form = list_any (λ term. is_weak_at map term.symbol) form.terms

-- `@PLT` is said of the symbol
abbrev pub by_plt : Option Suffix → Bool
by_plt None = false
by_plt (Some suffix.Plt) = true
by_plt (Some suffix.GotPcRel) = false
by_plt (Some suffix.GotTpOff) = false
by_plt (Some suffix.TpOff) = false

-- another object may put its own definition in place of what the field names: a weak symbol, a weak alias among them, or one with `@PLT`
abbrev pub is_preemptible : SymbolMap → Field → Bool
is_preemptible map field = by_plt field.role.suffix || names_weak map (linked map field.form)

-- a label leads into the function where an item of it begins there
abbrev pub label_target : (preemptible : Bool) → Option ℕ → Target
label_target preemptible None = Outside
label_target preemptible (Some item) = Inside item preemptible

-- what a symbol of this meaning leads to; once assigned symbols are put in, none is left
abbrev pub meaning_target : (section : ℕ) → List CodeItem → (preemptible : Bool) → Meaning → Target
meaning_target section items preemptible meaning.Undefined = Outside
meaning_target section items preemptible (meaning.Label spot) =
    if spot.place.section == section then label_target preemptible (item_at items spot.place.place) else Outside
meaning_target section items preemptible (meaning.Common size align) = Outside
meaning_target section items preemptible (meaning.Space spot) = Outside
meaning_target section items preemptible (meaning.Assigned form) = Outside

-- what the symbol at this index leads to, if there is one
abbrev pub symbol_target : SymbolMap → (section : ℕ) → List CodeItem → (preemptible : Bool) → Option ℕ → Target
symbol_target map section items preemptible None = Unknown
symbol_target map section items preemptible (Some index) =
    option_map_or (λ symbol. meaning_target section items preemptible symbol.meaning) (slice_get map.symbols index) Unknown

-- what a field leads to: its form at the end, assigned symbols put in
unfoldable pub field_target : SymbolMap → (section : ℕ) → List CodeItem → Field → Target
field_target map section items field =
    symbol_target map section items (is_preemptible map field) (lone_symbol (expanded map field.form))
