-- Labels that come to a symbol map behind all its symbols, as those of a frame table do, and the
-- targets that they leave as they were.
use Rattle.std.specs.Prelude.{◌≡◌, ◌<◌, ◌⊎◌, ℕ, false, List, [], ◌∷◌, ◌++◌, All, length, Some, slice_get}
use Rattle.std.specs.Option.{option_and_then}
use Rattle.asm_expr.specs.declared.forms.Term.{Term}
use Rattle.asm_expr.specs.Forms.{Form}
use Rattle.asm_frags.specs.Fields.{own_place}
use Rattle.asm_frags.specs.declared.fields.Field.{Field}
use Rattle.asm_symbols.specs.declared.entries.Meaning.TheVariants.{Label}
use Rattle.asm_symbols.specs.declared.entries.Spot.{Spot}
use Rattle.asm_symbols.specs.declared.entries.Symbol.{Symbol}
use Rattle.asm_symbols.specs.Assigning.{form_at, NoFormLeadsBack}
use Rattle.asm_symbols.specs.Attributes.{is_weak}
use Rattle.asm_symbols.specs.SymbolMap.{SymbolMap}
use Rattle.code_functions.specs.declared.items.CodeItem.{CodeItem}
use Rattle.flow_graph.specs.Nodes.{node_of, nodes_of}
use Rattle.flow_graph.specs.Targets.{field_target}

-- the symbol is a label, and is not weak
pub record IsStrongLabel (symbol : Symbol) : Type 0 where
  pub spot : Spot
  pub means : symbol.meaning ≡ Label spot
  pub strong : is_weak symbol.binding ≡ false

-- the map became this one: such labels stand behind all symbols, which stay as they were
pub record AddsLabels (before after : SymbolMap) : Type 0 where
  pub labels : List Symbol
  pub all : after.symbols ≡ before.symbols ++ labels
  pub each : All IsStrongLabel labels

-- each term is of a symbol of which this holds
abbrev pub NamesOnly : (ℕ → Type 0) → List Term → Type 0
NamesOnly Holds [] = Unit {0}
NamesOnly Holds (term ∷ terms) = Holds term.symbol × NamesOnly Holds terms

-- each is of one of so many symbols
abbrev pub AreBelow : ℕ → List Term → Type 0
AreBelow count = NamesOnly (λ symbol. symbol < count)

-- or of the place of a field
abbrev pub AreBelowOrOwn : ℕ → List Term → Type 0
AreBelowOrOwn count = NamesOnly (λ symbol. (symbol < count) ⊎ (symbol ≡ own_place))

-- the forms of assigned symbols name symbols that are there
abbrev pub FormsAreThere : SymbolMap → Type 0
FormsAreThere map = (index : ℕ) (form : Form) → form_at map.symbols index ≡ Some form
    → AreBelow (length map.symbols) form.terms

-- no form of a symbol leads back to it, forms name symbols that are there, and the other map has
-- labels more
pub record IsLabelled (before after : SymbolMap) : Type 0 where
  pub adds : AddsLabels before after
  pub forward : NoFormLeadsBack before.symbols
  pub there : FormsAreThere before

-- a field whose form names symbols that are there, and its own place, leads to what it led to
abbrev pub TargetsStay : Type 0
TargetsStay = (before after : SymbolMap) (section : ℕ) (items : List CodeItem) (field : Field)
    → IsLabelled before after → AreBelowOrOwn (length before.symbols) field.form.terms
    → field_target after section items field ≡ field_target before section items field

-- the field of the item, if it has one, is such a one
abbrev pub FieldIsThere : SymbolMap → List Field → CodeItem → Type 0
FieldIsThere map fields item = (field : Field)
    → option_and_then (slice_get fields) item.field ≡ Some field
    → AreBelowOrOwn (length map.symbols) field.form.terms

-- so the node of such an item stays
abbrev pub NodesStay : Type 0
NodesStay = (before after : SymbolMap) (section : ℕ) (fields : List Field) (items : List CodeItem)
    (item : CodeItem) → IsLabelled before after → FieldIsThere before fields item
    → node_of after section fields items item ≡ node_of before section fields items item

-- and so do those of all items, if each is such a one
abbrev pub GraphsStay : Type 0
GraphsStay = (before after : SymbolMap) (section : ℕ) (fields : List Field) (items : List CodeItem)
    → IsLabelled before after → All (FieldIsThere before fields) items
    → nodes_of after section fields items ≡ nodes_of before section fields items
