-- How a symbol is assigned a form, and which forms lead back to it.
use Rattle.std.specs.Prelude.{◌≡◌, ℕ, Bool, true, false, ◌⊎◌, List, [], ◌∷◌, Option, None, Some, Result, Ok, Err, slice_get, option_and_then, IsErrOf, codes, if◌then◌else◌}
use Rattle.std.specs.Str.{bytes_eq}
use Rattle.asm_base.specs.declared.refusals.Refusal.{Refusal}
use Rattle.asm_base.specs.declared.refusals.Refusal.TheVariants.{Fault, NoMemory}
use Rattle.asm_expr.specs.declared.naming.Name.{Name}
use Rattle.asm_expr.specs.declared.naming.Name.TheVariants as naming
use Rattle.asm_expr.specs.declared.forms.Term.{Term}
use Rattle.asm_expr.specs.Forms.{Form}
use Rattle.asm_symbols.specs.declared.entries.Symbol.{Symbol}
use Rattle.asm_symbols.specs.declared.entries.Meaning.{Meaning}
use Rattle.asm_symbols.specs.declared.entries.Meaning.TheVariants as meaning
use Rattle.asm_base.specs.declared.causes.SymCause.{SymCause}
use Rattle.asm_base.specs.declared.causes.SymCause.TheVariants.{SymbolAlreadyDefined, BadSymbolUse}
use Rattle.asm_symbols.specs.SymbolMap.{SymbolMap, with_symbol, with_meaning}

-- whether the name is `.`, which is the place of a statement
abbrev pub is_dot : Name → Bool
is_dot (naming.Plain text) = bytes_eq text (codes ".")
is_dot _ = false

-- why a symbol that is this takes no form; with `once` it takes one only if it is undefined
abbrev pub form_fault_of : Meaning → Bool → Option SymCause
form_fault_of meaning.Undefined once = None
form_fault_of (meaning.Assigned form) false = None
form_fault_of (meaning.Assigned form) true = Some SymbolAlreadyDefined
form_fault_of (meaning.Common size align) false = Some BadSymbolUse
form_fault_of (meaning.Common size align) true = Some SymbolAlreadyDefined
form_fault_of (meaning.Label spot) once = Some SymbolAlreadyDefined
form_fault_of (meaning.Space spot) once = Some SymbolAlreadyDefined

-- why the symbol at this index takes no form
unfoldable pub form_fault_at : SymbolMap → ℕ → Bool → Option SymCause
form_fault_at map index once =
    option_and_then (λ symbol. if is_dot symbol.name then Some BadSymbolUse else form_fault_of symbol.meaning once) (slice_get map.symbols index)

-- the form of an assigned symbol
abbrev pub form_of : Meaning → Option Form
form_of (meaning.Assigned form) = Some form
form_of _ = None

-- the form of the symbol at this index, if it is an assigned one
abbrev pub form_at : List Symbol → ℕ → Option Form
form_at symbols index = option_and_then (λ symbol. form_of symbol.meaning) (slice_get symbols index)

-- one of the terms is of the symbol at this index
abbrev pub IsNamedIn : List Term → ℕ → Type 0
IsNamedIn [] index = ⊥
IsNamedIn (term ∷ terms) index = (term.symbol ≡ index) ⊎ IsNamedIn terms index

-- the form names the symbol at this index
abbrev pub NamesSymbol : Form → ℕ → Type 0
NamesSymbol form index = IsNamedIn form.terms index

-- the form leads to the symbol at this index: it names the symbol, or leads to an assigned one whose form does
pub data Leads (symbols : List Symbol) (form : Form) : ℕ → Type 0 where
  straight : (index : ℕ) → NamesSymbol form index → Leads symbols form index
  further : (middle index : ℕ) (next : Form) → Leads symbols form middle → form_at symbols middle ≡ Some next → NamesSymbol next index
      → Leads symbols form index

-- no symbol's form leads back to it
abbrev pub NoFormLeadsBack : List Symbol → Type 0
NoFormLeadsBack symbols = (index : ℕ) (form : Form) → form_at symbols index ≡ Some form → Leads symbols form index → ⊥

-- the answer says whether the form leads to the symbol at this index
abbrev pub TellsLeads : List Symbol → Form → ℕ → Bool → Type 0
TellsLeads symbols form index true = Leads symbols form index
TellsLeads symbols form index false = Leads symbols form index → ⊥

-- the map where the symbol stands for the form
abbrev pub with_form : SymbolMap → ℕ → Form → SymbolMap
with_form map index form = with_symbol (with_meaning (meaning.Assigned form)) map index

-- what an assignment answers: why the symbol takes no form, or else the form is taken exactly where it does not lead back to it
abbrev pub Assigns : {T : Type 0} → SymbolMap → SymbolMap → ℕ → Form → Option SymCause → Result T (Refusal SymCause) → Type 0
Assigns old new index form (Some fault) result = IsErrOf result (Fault fault)
Assigns old new index form None (Ok t) = (Leads old.symbols form index → ⊥) × (new ≡ with_form old index form)
Assigns old new index form None (Err (Fault BadSymbolUse)) = Leads old.symbols form index
Assigns old new index form None (Err NoMemory) = Unit {0}
Assigns old new index form None (Err (Fault SymbolAlreadyDefined)) = ⊥
