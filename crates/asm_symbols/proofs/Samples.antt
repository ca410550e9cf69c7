-- The definitions computed on small maps, for readers and as a guard against a definition that says nothing.
use Rattle.std.proofs.Common.{◌≡◌, ℕ, true, false, [], ◌∷◌, Some, None, Ok, Err, refl, codes}
use Rattle.asm_expr.specs.declared.naming.Name.{Name}
use Rattle.asm_expr.specs.declared.naming.Name.TheVariants as naming
use Rattle.asm_expr.specs.Forms.{Form}
use Rattle.asm_symbols.specs.declared.entries.Spot.{Spot}
use Rattle.asm_symbols.specs.declared.entries.Definition.TheVariants.{Label, Common}
use Rattle.asm_symbols.specs.declared.entries.Binding.TheVariants.{Local, Global, Weak}
use Rattle.asm_base.specs.declared.causes.SymCause.TheVariants.{SymbolAlreadyDefined, BadSymbolUse}
use Rattle.asm_symbols.specs.SymbolMap.{SymbolMap, nothing_named, changed, with_symbol}
use Rattle.asm_base.specs.Refusals.{◌>>=◌}
use Rattle.asm_symbols.specs.Interning.{with_name, named, interned, number_of}
use Rattle.asm_symbols.specs.Counting.{next_named, last_named}
use Rattle.asm_symbols.specs.Defining.{defined}
use Rattle.asm_symbols.specs.Assigning.{form_fault_at, with_form}
use Rattle.asm_symbols.specs.Searching.{seen_with}
use Rattle.asm_symbols.specs.LeadsBack.{searched, leads_back, assigned}
use Rattle.asm_symbols.specs.Attributes.{with_binding, bound}

abbrev word : Name
word = naming.Plain (codes "w")

abbrev first_instance : Name
first_instance = naming.Numeric 7 1

abbrev spot : Spot
spot = record { place = record { section = 1; place = record { item = 2; offset = 5 } }; stretch = 3; at = 4 }

-- the map with one symbol
abbrev one : Name → SymbolMap
one name = with_name nothing_named name

-- a name that comes again is the same symbol, and another comes last
again : named (one word) word ≡ Ok (one word, 0)
unfolding named
again = refl

another : named (one word) first_instance ≡ Ok (with_name (one word) first_instance, 1)
unfolding named
another = refl

-- where a name is interned that is a symbol's, the map stays and the number is the symbol's; another name gets the next number
interned_again : (interned (one word) word ≡ one word) × (number_of (one word) word ≡ 0)
unfolding interned number_of
interned_again = (refl, refl)

interned_another : (interned (one word) first_instance ≡ with_name (one word) first_instance) × (number_of (one word) first_instance ≡ 1)
unfolding interned number_of
interned_another = (refl, refl)

-- `.weak w` and `.globl w` make w weak
weak_stays : (bound (one word) 0 Weak >>= λ map. bound map 0 Global) ≡ Ok (with_symbol (with_binding Weak) (one word) 0)
unfolding bound changed
weak_stays = refl

-- `.local w` and `.globl w` are refused
local_stays : (bound (one word) 0 Local >>= λ map. bound map 0 Global) ≡ Err BadSymbolUse
unfolding bound changed
local_stays = refl

-- `w:` and `.comm w,4`, and the other way round
label_first : (defined (one word) 0 (Label spot) >>= λ map. defined map 0 (Common 4 1)) ≡ Err SymbolAlreadyDefined
unfolding defined changed
label_first = refl

common_first : (defined (one word) 0 (Common 4 1) >>= λ map. defined map 0 (Label spot)) ≡ Err BadSymbolUse
unfolding defined changed
common_first = refl

-- a common symbol is never local
common_local : (defined (one word) 0 (Common 4 1) >>= λ map. bound map 0 Local) ≡ Err BadSymbolUse
unfolding defined bound changed
common_local = refl

-- `.equiv` of a symbol that is undefined, and an assignment to `.`
equiv_first : form_fault_at (one word) 0 true ≡ None
unfolding form_fault_at
equiv_first = refl

here_refused : form_fault_at (one (naming.Plain (codes "."))) 0 false ≡ Some BadSymbolUse
unfolding form_fault_at
here_refused = refl

-- three symbols, and the forms of a symbol and of a number
abbrev letters : SymbolMap
letters = with_name (with_name (one (naming.Plain (codes "a"))) (naming.Plain (codes "b"))) (naming.Plain (codes "c"))

abbrev of_symbol : ℕ → Form
of_symbol symbol = record { terms = record { symbol = symbol; coefficient = 1 } ∷ []; constant = 0 }

abbrev of_number : Form
of_number = record { terms = []; constant = 3 }

-- `a=a`, `a=b` before `b=a`, and `a=b` before `b=c` and `c=a` lead back
itself_refused : assigned letters 0 (of_symbol 0) false ≡ Err BadSymbolUse
unfolding assigned leads_back searched seen_with form_fault_at changed
itself_refused = refl

two_refused : (assigned letters 0 (of_symbol 1) false >>= λ map. assigned map 1 (of_symbol 0) false) ≡ Err BadSymbolUse
unfolding assigned leads_back searched seen_with form_fault_at changed
two_refused = refl

three_refused : (assigned letters 0 (of_symbol 1) false >>= λ map. assigned map 1 (of_symbol 2) false
    >>= λ map. assigned map 2 (of_symbol 0) false) ≡ Err BadSymbolUse
unfolding assigned leads_back searched seen_with form_fault_at changed
three_refused = refl

-- `a=b` before `b=3` does not
number_taken : (assigned letters 0 (of_symbol 1) false >>= λ map. assigned map 1 of_number false)
    ≡ Ok (with_form (with_form letters 0 (of_symbol 1)) 1 of_number)
unfolding assigned leads_back searched seen_with form_fault_at changed
number_taken = refl

-- a number that no symbol has is no other symbol's, and leads to itself alone
no_symbol : (leads_back letters.symbols (of_symbol 9) 0 ≡ false) × (leads_back letters.symbols (of_symbol 9) 9 ≡ true)
unfolding leads_back searched seen_with
no_symbol = (refl, refl)

-- `7:` defines the first instance, `7b` is that, and `7f` the second
back_none : last_named (one first_instance) 7 ≡ None
unfolding last_named
back_none = refl

back_first : (defined (one first_instance) 0 (Label spot) >>= λ map. Ok (last_named map 7)) ≡ Ok (Some 0)
unfolding defined last_named changed
back_first = refl

next_second : (defined (one first_instance) 0 (Label spot) >>= λ map. next_named map 7 >>= λ made. Ok made.1) ≡ Ok 1
unfolding defined next_named named changed
next_second = refl
