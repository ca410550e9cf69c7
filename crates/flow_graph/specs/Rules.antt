-- What the definitions of targets and of nodes come to, in other words.
use Rattle.std.specs.Prelude.{◌≡◌, ◌≢◌, ◌<◌, ◌+◌, ◌↔◌, ◌⊎◌, ℕ, Bool, true, false, List, [], ◌∷◌, length, filter, Contains, None, Some, option_map, slice_get}
use Rattle.asm_base.specs.declared.places.Place.{Place}
use Rattle.asm_frags.specs.declared.fields.Field.{Field}
use Rattle.asm_expr.specs.Forms.{Form, term_of}
use Rattle.asm_symbols.specs.declared.entries.Spot.{Spot}
use Rattle.asm_symbols.specs.declared.entries.Symbol.{Symbol}
use Rattle.asm_symbols.specs.declared.entries.Meaning.TheVariants as meaning
use Rattle.asm_symbols.specs.SymbolMap.{SymbolMap}
use Rattle.assigned_forms.specs.Expanding.{expanded}
use Rattle.insn_effects.specs.Flows.{Flow, onward, jumps, calls, through, returns, stops}
use Rattle.insn_effects.specs.Followed.{flow_by}
use Rattle.code_functions.specs.declared.items.CodeItem.{CodeItem}
use Rattle.flow_graph.specs.declared.targets.Target.{Target}
use Rattle.flow_graph.specs.declared.targets.Target.TheVariants.{Inside, Outside, Unknown}
use Rattle.flow_graph.specs.Targets.{item_at, is_of_symbol, lone_symbol, is_preemptible, field_target}
use Rattle.flow_graph.specs.Nodes.{item_target, nodes_of}
use Rattle.flow_graph.specs.Walks.{successors, next_of, IsInside}

-- the item of this number begins at the place
abbrev pub BeginsAt : List CodeItem → Place → ℕ → Type 0
BeginsAt items place item = option_map (λ code. code.place) (slice_get items item) ≡ Some place

-- it does, and no later one does
pub record IsLastAt (items : List CodeItem) (place : Place) (item : ℕ) : Type 0 where
  pub begins : BeginsAt items place item
  pub last : (later : ℕ) → item < later → BeginsAt items place later → ⊥

-- the item that is found at a place is the last one that begins there; none is found exactly where none begins there
pub record LastIsFound (items : List CodeItem) (place : Place) : Type 0 where
  pub found : (item : ℕ) → (item_at items place ≡ Some item) ↔ IsLastAt items place item
  pub none : (item_at items place ≡ None) ↔ ((item : ℕ) → BeginsAt items place item → ⊥)

-- the one symbol of a form is what is left of it without the place of the field, once, where its number is 0
abbrev pub LoneIsLeft : Form → ℕ → Type 0
LoneIsLeft form symbol = (lone_symbol form ≡ Some symbol) ↔ ((form.constant ≡ 0) × (filter is_of_symbol form.terms ≡ term_of symbol 1 ∷ []))

module _ (symbols : SymbolMap) (section : ℕ) (items : List CodeItem) where
  -- the form of the field is this symbol at the end, assigned symbols put in
  abbrev pub ComesTo : Field → ℕ → Type 0
  ComesTo field symbol = lone_symbol (expanded symbols field.form) ≡ Some symbol

  -- the symbol is a label of the function's section, at this place
  pub record IsLabelAt (symbol : ℕ) (place : Place) : Type 0 where
    pub entry : Symbol
    pub spot : Spot
    pub there : slice_get symbols.symbols symbol ≡ Some entry
    pub label : entry.meaning ≡ meaning.Label spot
    pub in_section : spot.place.section ≡ section
    pub at_place : spot.place.place ≡ place

  -- the field comes to a label of the section at which this item is the last one that begins
  pub record LeadsInside (field : Field) (item : ℕ) : Type 0 where
    pub symbol : ℕ
    pub place : Place
    pub comes : ComesTo field symbol
    pub label : IsLabelAt symbol place
    pub last : IsLastAt items place item

  -- the field leads to this item exactly where it comes to such a label, and is untraced exactly where it comes to no symbol
  pub record TargetIsLabel (field : Field) : Type 0 where
    pub inside : (item : ℕ) (preemptible : Bool) → (field_target symbols section items field ≡ Inside item preemptible)
        ↔ (LeadsInside field item × (is_preemptible symbols field ≡ preemptible))
    pub unknown : (field_target symbols section items field ≡ Unknown)
        ↔ ((symbol : ℕ) → symbol < length symbols.symbols → ComesTo field symbol → ⊥)

module _ (symbols : SymbolMap) (section : ℕ) (fields : List Field) (items : List CodeItem) where
  -- the item of this number goes so, and has this target
  pub record Goes (item : ℕ) (flow : Flow) (target : Target) : Type 0 where
    pub code : CodeItem
    pub there : slice_get items item ≡ Some code
    pub flow_is : flow_by code.effect.role ≡ flow
    pub target_is : item_target symbols section fields items code ≡ target

  -- the items to which control may go from an item are these, and it may leave the function or not
  pub record GoesTo (item : ℕ) (others : List ℕ) (exits : Bool) : Type 0 where
    pub others_are : successors (nodes_of symbols section fields items) item ≡ others
    pub exits_is : option_map (λ node. node.exits) (slice_get (nodes_of symbols section fields items) item) ≡ Some exits

  -- the next item, where there is one
  abbrev pub next_item : ℕ → List ℕ
  next_item item = next_of true (length items) item

  -- where control goes from an item
  pub record ControlGoes (item : ℕ) (target : Target) : Type 0 where
    -- to the next item, also from a call, whatever it calls
    pub on : Goes item onward target → GoesTo item (next_item item) false
    pub called : Goes item calls target → GoesTo item (next_item item) false
    -- nowhere from `ret`, an exit, from what stops, and from a jump to what a register or memory holds
    pub returned : Goes item returns target → GoesTo item [] true
    pub stopped : Goes item stops target → GoesTo item [] false
    pub through_other : Goes item through target → GoesTo item [] false
    -- from `jmp` to a label inside to that alone, an exit where another object may put its definition in its place
    pub jumped : (label : ℕ) (preemptible : Bool) → target ≡ Inside label preemptible → Goes item (jumps false) target
        → GoesTo item (label ∷ []) preemptible
    -- from another direct jump to the next item besides
    pub branched : (label : ℕ) (preemptible : Bool) → target ≡ Inside label preemptible → label ≢ item + 1 → Goes item (jumps true) target
        → GoesTo item (label ∷ next_item item) preemptible
    pub branched_on : (preemptible : Bool) → target ≡ Inside (item + 1) preemptible → Goes item (jumps true) target
        → GoesTo item ((item + 1) ∷ []) preemptible
    -- a direct jump to another symbol is an exit, and other than `jmp` may go on
    pub jumped_out : target ≡ Outside → Goes item (jumps false) target → GoesTo item [] true
    pub branched_out : target ≡ Outside → Goes item (jumps true) target → GoesTo item (next_item item) true
    -- from a direct jump to what is no symbol alone control goes nowhere
    pub jumped_anywhere : (falls : Bool) → target ≡ Unknown → Goes item (jumps falls) target → GoesTo item [] false

  -- it is untraced or not, and calls a label inside other than that of the first item or not
  pub record IsTold (item : ℕ) (untraced calls_inside : Bool) : Type 0 where
    pub untraced_is : option_map (λ node. node.untraced) (slice_get (nodes_of symbols section fields items) item) ≡ Some untraced
    pub calls_is : option_map (λ node. node.calls_inside) (slice_get (nodes_of symbols section fields items) item) ≡ Some calls_inside

  -- what is told of an item: a jump through a register or memory is untraced, and a direct jump or call of what is no symbol alone
  pub record TellsOf (item : ℕ) (target : Target) : Type 0 where
    pub through_other : Goes item through target → IsTold item true false
    pub jumped_anywhere : (falls : Bool) → target ≡ Unknown → Goes item (jumps falls) target → IsTold item true false
    pub called_anything : target ≡ Unknown → Goes item calls target → IsTold item true false
    -- a call inside
    pub called_inside : (label : ℕ) (preemptible : Bool) → target ≡ Inside label preemptible → label ≢ 0 → Goes item calls target → IsTold item false true
    pub called_start : (preemptible : Bool) → target ≡ Inside 0 preemptible → Goes item calls target → IsTold item false false
    -- and nothing of all others
    pub called_out : target ≡ Outside → Goes item calls target → IsTold item false false
    pub jumped : (falls : Bool) (label : ℕ) (preemptible : Bool) → target ≡ Inside label preemptible → Goes item (jumps falls) target → IsTold item false false
    pub jumped_out : (falls : Bool) → target ≡ Outside → Goes item (jumps falls) target → IsTold item false false
    pub on : Goes item onward target → IsTold item false false
    pub returned : Goes item returns target → IsTold item false false
    pub stopped : Goes item stops target → IsTold item false false

  -- each successor is an item: the target of a direct jump, or the next one
  pub record AreItems : Type 0 where
    pub inside : IsInside (nodes_of symbols section fields items)
    pub reached : (item other : ℕ) → Contains (successors (nodes_of symbols section fields items) item) other
        → (other ≡ item + 1) ⊎ ((falls : Bool) × (preemptible : Bool) × Goes item (jumps falls) (Inside other preemptible))
