-- Where control goes in some functions, worked out by hand.
use Rattle.std.specs.Prelude.{◌≡◌, ◌-◌, ◌^◌, ℕ, Bool, true, false, List, [], ◌∷◌, map, Option, None, Some, slice_get}
use Rattle.asm_base.specs.declared.places.Place.{Place}
use Rattle.asm_base.specs.declared.positions.Pos.{Pos}
use Rattle.asm_expr.specs.Forms.{Form, term_of, symbol_form}
use Rattle.asm_expr.specs.declared.naming.Name.TheVariants.{Plain}
use Rattle.asm_frags.specs.Fields.{own_place}
use Rattle.asm_frags.specs.declared.fields.Field.{Field}
use Rattle.asm_frags.specs.declared.fields.FieldSize.TheVariants.{Four}
use Rattle.asm_symbols.specs.declared.entries.Binding.{Binding}
use Rattle.asm_symbols.specs.declared.entries.Binding.TheVariants.{Weak}
use Rattle.asm_symbols.specs.declared.entries.Meaning.{Meaning}
use Rattle.asm_symbols.specs.declared.entries.Meaning.TheVariants as meaning
use Rattle.asm_symbols.specs.declared.entries.Symbol.{Symbol}
use Rattle.asm_symbols.specs.SymbolMap.{SymbolMap, nothing_named}
use Rattle.x86_insn.specs.declared.amounts.FieldKind.TheVariants.{Branch}
use Rattle.x86_insn.specs.declared.amounts.Suffix.{Suffix}
use Rattle.x86_insn.specs.declared.amounts.Suffix.TheVariants as suffix
use Rattle.insn_effects.specs.declared.effects.Role.{Role}
use Rattle.insn_effects.specs.declared.effects.Role.TheVariants as role
use Rattle.insn_effects.specs.Followed.{writing}
use Rattle.code_functions.specs.declared.items.CodeItem.{CodeItem}
use Rattle.flow_graph.specs.declared.nodes.Node.{Node}
use Rattle.flow_graph.specs.Nodes.{ending, nodes_of}
use Rattle.flow_graph.specs.Walks.{successors, successor_lists}

-- a place: how many items and how many plain bytes stand before it
abbrev pub place_of : (item offset : ℕ) → Place
place_of item offset = record { item = item; offset = offset }

-- a line of a source
abbrev pub on_line : Pos
on_line = record { file = 0; line = 1 }

-- an item of this role at a place
abbrev pub code : Role → (item offset : ℕ) → CodeItem
code does item offset = record { effect = writing does 0; place = place_of item offset; field = None; pos = on_line }

-- an item whose target the field of this number holds
abbrev pub code_to : Role → (item offset field : ℕ) → CodeItem
code_to does item offset field = record (code does item offset) { field = Some field }

-- the field of a direct jump or call that holds a form
abbrev pub field_of : Option Suffix → Form → Field
field_of said held = record {
  pos = on_line;
  item = 1;
  section = 0;
  offset = 0;
  size = Four;
  role = record { kind = Branch; suffix = said; behind = 0 };
  in_item = true;
  form = held;
}

-- a symbol and a number, counted from the place of the field
abbrev pub counted_from : (symbol number : ℕ) → Form
counted_from symbol number = record { terms = term_of symbol 1 ∷ term_of own_place (2 ^ 64 - 1) ∷ []; constant = number }

-- the field that holds the symbol
abbrev pub to : (symbol : ℕ) → Field
to symbol = field_of None (counted_from symbol 0)

-- the field that says `@PLT` of the symbol
abbrev pub to_plt : (symbol : ℕ) → Field
to_plt symbol = field_of (Some suffix.Plt) (counted_from symbol 0)

-- a symbol of this binding and meaning
abbrev pub symbol_of : Option Binding → Meaning → Symbol
symbol_of bound what = record { name = Plain []; meaning = what; binding = bound; kind = None; visibility = None; size = None; sized = 0 }

-- a label of a section
abbrev pub label : (section item offset : ℕ) → Meaning
label section item offset = meaning.Label (record { place = record { section = section; place = place_of item offset }; stretch = 0; at = 0 })

-- the symbols of a source, and nothing else of it
abbrev pub map_of : List Symbol → SymbolMap
map_of symbols = record nothing_named { symbols = symbols }

-- the successors of each item of a function in section 1, and which of them are exits
pub record Shown : Type 0 where
  pub others : List (List ℕ)
  pub exits : List Bool

-- what is shown of a graph
abbrev pub shown : List Node → Shown
shown nodes = record { others = successor_lists nodes; exits = map (λ node. node.exits) nodes }

-- the same of the graph of a function in section 1
abbrev pub graph : List Symbol → List Field → List CodeItem → Shown
graph symbols fields items = shown (nodes_of (map_of symbols) 1 fields items)

-- whole functions
pub record WorkedFunctions : Type 0 where
  -- no items
  pub nothing : graph [] [] [] ≡ record { others = []; exits = [] }
  -- push %rbp; mov %rsp,%rbp; pop %rbp; ret
  pub straight : graph [] [] (code role.Push 0 0 ∷ code role.Move 1 1 ∷ code role.Pop 1 4 ∷ code role.Return 1 5 ∷ [])
      ≡ record { others = (1 ∷ []) ∷ (2 ∷ []) ∷ (3 ∷ []) ∷ [] ∷ []; exits = false ∷ false ∷ false ∷ true ∷ [] }
  -- test %eax,%eax; je 1f; push %rbx; 1: ret
  pub branch : graph (symbol_of None (label 1 3 3) ∷ []) (to 0 ∷ [])
      (code role.Other 0 0 ∷ code_to role.Branch 1 2 0 ∷ code role.Push 2 2 ∷ code role.Return 3 3 ∷ [])
      ≡ record { others = (1 ∷ []) ∷ (3 ∷ 2 ∷ []) ∷ (3 ∷ []) ∷ [] ∷ []; exits = false ∷ false ∷ false ∷ true ∷ [] }
  -- je 1f; 1: ret
  pub branch_on : graph (symbol_of None (label 1 1 0) ∷ []) (to 0 ∷ []) (code_to role.Branch 0 0 0 ∷ code role.Return 1 0 ∷ [])
      ≡ record { others = (1 ∷ []) ∷ [] ∷ []; exits = false ∷ true ∷ [] }
  -- push %rbx; 1: nop; jmp 1b; ret
  pub loop : graph (symbol_of None (label 1 1 1) ∷ []) (to 0 ∷ [])
      (code role.Push 0 0 ∷ code role.Other 1 1 ∷ code_to role.Jump 1 2 0 ∷ code role.Return 2 2 ∷ [])
      ≡ record { others = (1 ∷ []) ∷ (2 ∷ []) ∷ (1 ∷ []) ∷ [] ∷ []; exits = false ∷ false ∷ false ∷ true ∷ [] }
  -- jmp 1f; 1: .ascii ""; ret: of the items at the label the last one counts
  pub no_bytes : graph (symbol_of None (label 1 1 0) ∷ []) (to 0 ∷ [])
      (code_to role.Jump 0 0 0 ∷ code role.Data 1 0 ∷ code role.Return 1 0 ∷ [])
      ≡ record { others = (2 ∷ []) ∷ [] ∷ [] ∷ []; exits = false ∷ false ∷ true ∷ [] }
  -- .p2align 4; ret $8; .byte 0; ud2: padding does nothing, and data go nowhere
  pub ends : graph [] [] (code role.Padding 0 0 ∷ code role.ReturnPopping 1 0 ∷ code role.Data 2 3 ∷ code role.Stop 2 4 ∷ [])
      ≡ record { others = (1 ∷ []) ∷ [] ∷ [] ∷ [] ∷ []; exits = false ∷ true ∷ false ∷ false ∷ [] }

-- start: push %rbx; an item with this field; middle: pop %rbx; inside: ret; end:
-- where `inside` is weak too by another name, and other names are assigned
abbrev pub the_names : List Symbol
the_names = symbol_of None (label 1 0 0) ∷ symbol_of None (label 1 3 2) ∷ symbol_of (Some Weak) (label 1 3 2) ∷ symbol_of None (label 1 3 3)
    ∷ symbol_of None (label 2 3 2) ∷ symbol_of None meaning.Undefined ∷ symbol_of None (meaning.Assigned (symbol_form 1))
    ∷ symbol_of (Some Weak) (meaning.Assigned (symbol_form 1)) ∷ symbol_of None (meaning.Assigned (symbol_form 7))
    ∷ symbol_of None (meaning.Assigned (record { terms = term_of 1 1 ∷ []; constant = 4 })) ∷ symbol_of (Some Weak) (meaning.Assigned (symbol_form 5)) ∷ []

-- the label of the first item
abbrev pub start : ℕ
start = 0

-- the label of the last item
abbrev pub inside : ℕ
inside = 1

-- the weak name of that label
abbrev pub weak_inside : ℕ
weak_inside = 2

-- the label behind the last item
abbrev pub end : ℕ
end = 3

-- a label of another section
abbrev pub elsewhere : ℕ
elsewhere = 4

-- a symbol of another object
abbrev pub undefined : ℕ
undefined = 5

-- .set assigned,inside
abbrev pub assigned : ℕ
assigned = 6

-- .weak alias; .set alias,inside
abbrev pub alias : ℕ
alias = 7

-- .set of_alias,alias
abbrev pub of_alias : ℕ
of_alias = 8

-- .set behind,inside+4
abbrev pub behind : ℕ
behind = 9

-- .weak weak_outside; .set weak_outside,undefined
abbrev pub weak_outside : ℕ
weak_outside = 10

-- the node of the second item, and its successors
pub record Going : Type 0 where
  pub node : Option Node
  pub others : List ℕ

-- what is shown of the second item
abbrev pub second_of : List Node → Going
second_of nodes = record { node = slice_get nodes 1; others = successors nodes 1 }

-- where control goes from an item of this role and field, in the function above
abbrev pub going : Role → Field → Going
going does held = second_of (nodes_of (map_of the_names) 1 (held ∷ []) (code role.Push 0 0 ∷ code_to does 1 1 0 ∷ code role.Pop 2 1 ∷ code role.Return 3 2 ∷ []))

-- control goes by this node to these items
abbrev pub goes : Node → List ℕ → Going
goes node others = record { node = Some node; others = others }

-- `jmp`
pub record WorkedJumps : Type 0 where
  pub jmp_inside : going role.Jump (to inside) ≡ goes (record ending { target = Some 3 }) (3 ∷ [])
  pub jmp_start : going role.Jump (to start) ≡ goes (record ending { target = Some 0 }) (0 ∷ [])
  -- a label inside that is weak: a successor, and an exit
  pub jmp_weak : going role.Jump (to weak_inside) ≡ goes (record ending { target = Some 3; exits = true }) (3 ∷ [])
  -- jmp inside@PLT
  pub jmp_plt : going role.Jump (to_plt inside) ≡ goes (record ending { target = Some 3; exits = true }) (3 ∷ [])
  -- a name that is assigned, before the jump or behind it
  pub jmp_assigned : going role.Jump (to assigned) ≡ goes (record ending { target = Some 3 }) (3 ∷ [])
  -- a weak alias: its label is a successor, and the jump an exit; so too where another name is assigned the alias
  pub jmp_alias : going role.Jump (to alias) ≡ goes (record ending { target = Some 3; exits = true }) (3 ∷ [])
  pub jmp_of_alias : going role.Jump (to of_alias) ≡ goes (record ending { target = Some 3; exits = true }) (3 ∷ [])
  -- the end of the function, another section, another object: an exit
  pub jmp_end : going role.Jump (to end) ≡ goes (record ending { exits = true }) []
  pub jmp_elsewhere : going role.Jump (to elsewhere) ≡ goes (record ending { exits = true }) []
  pub jmp_undefined : going role.Jump (to undefined) ≡ goes (record ending { exits = true }) []
  pub jmp_undefined_plt : going role.Jump (to_plt undefined) ≡ goes (record ending { exits = true }) []
  pub jmp_weak_outside : going role.Jump (to weak_outside) ≡ goes (record ending { exits = true }) []
  -- jmp inside+4, jmp behind, jmp behind-4, jmp 16
  pub jmp_sum : going role.Jump (field_of None (counted_from inside 4)) ≡ goes (record ending { untraced = true }) []
  pub jmp_behind : going role.Jump (to behind) ≡ goes (record ending { untraced = true }) []
  pub jmp_back : going role.Jump (field_of None (counted_from behind (2 ^ 64 - 4))) ≡ goes (record ending { target = Some 3 }) (3 ∷ [])
  pub jmp_number : going role.Jump (field_of None (record { terms = term_of own_place (2 ^ 64 - 1) ∷ []; constant = 16 }))
      ≡ goes (record ending { untraced = true }) []
  -- jmp *%rax
  pub jmp_through : going role.JumpThrough (to inside) ≡ goes (record ending { untraced = true }) []

-- jumps that may go on
pub record WorkedBranches : Type 0 where
  pub je_inside : going role.Branch (to inside) ≡ goes (record ending { target = Some 3; falls = true }) (3 ∷ 2 ∷ [])
  pub je_weak : going role.Branch (to weak_inside) ≡ goes (record ending { target = Some 3; falls = true; exits = true }) (3 ∷ 2 ∷ [])
  pub je_undefined : going role.Branch (to undefined) ≡ goes (record ending { falls = true; exits = true }) (2 ∷ [])
  pub je_behind : going role.Branch (to behind) ≡ goes (record ending { untraced = true }) []

-- calls
pub record WorkedCalls : Type 0 where
  pub call_undefined : going role.Call (to undefined) ≡ goes (record ending { falls = true }) (2 ∷ [])
  -- the start of the function itself, and another label of it
  pub call_start : going role.Call (to start) ≡ goes (record ending { falls = true }) (2 ∷ [])
  pub call_inside : going role.Call (to inside) ≡ goes (record ending { falls = true; calls_inside = true }) (2 ∷ [])
  pub call_alias : going role.Call (to alias) ≡ goes (record ending { falls = true; calls_inside = true }) (2 ∷ [])
  pub call_behind : going role.Call (to behind) ≡ goes (record ending { falls = true; untraced = true }) (2 ∷ [])
  -- call *%rax
  pub call_through : going role.CallThrough (to inside) ≡ goes (record ending { falls = true }) (2 ∷ [])

-- the last item would go on: there is no successor
pub record WorkedEnds : Type 0 where
  pub push_last : second_of (nodes_of (map_of the_names) 1 [] (code role.Push 0 0 ∷ code role.Pop 1 1 ∷ []))
      ≡ goes (record ending { falls = true }) []
  pub je_last : second_of (nodes_of (map_of the_names) 1 (to start ∷ []) (code role.Push 0 0 ∷ code_to role.Branch 1 1 0 ∷ []))
      ≡ goes (record ending { target = Some 0; falls = true }) (0 ∷ [])
  -- a call that has no field
  pub call_bare : second_of (nodes_of (map_of the_names) 1 [] (code role.Push 0 0 ∷ code role.Call 1 1 ∷ []))
      ≡ goes (record ending { falls = true; untraced = true }) []

-- all of these
pub record WorkedGraphs : Type 0 where
  pub functions : WorkedFunctions
  pub jumps : WorkedJumps
  pub branches : WorkedBranches
  pub calls : WorkedCalls
  pub ends : WorkedEnds
