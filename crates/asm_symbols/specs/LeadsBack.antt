-- A program that decides whether a form leads back to a symbol, and what an assignment makes.
use Rattle.std.specs.Prelude.{ℕ, zero, suc, ◌+◌, Bool, true, false, List, [], length, Option, None, Some, Result, Ok, Err, slice_get}
use Rattle.asm_expr.specs.Forms.{Form}
use Rattle.asm_symbols.specs.declared.entries.Symbol.{Symbol}
use Rattle.asm_base.specs.declared.causes.SymCause.{SymCause}
use Rattle.asm_base.specs.declared.causes.SymCause.TheVariants.{BadSymbolUse}
use Rattle.asm_symbols.specs.SymbolMap.{SymbolMap}
use Rattle.asm_symbols.specs.Assigning.{form_fault_at, form_at, with_form}
use Rattle.asm_symbols.specs.Searching.{seen_with, seen_behind}

-- the search goes on with the symbols that are seen now; where they are none, the symbol that is looked for was named
abbrev pub searched_on : Option (List ℕ) → (List ℕ → Bool) → Bool
searched_on None later = true
searched_on (Some seen) later = later seen

-- the search looks behind the next symbol that was seen; where there is none, the symbol that is looked for is never named
abbrev pub searched_next : Option ℕ → List Symbol → ℕ → List ℕ → (List ℕ → Bool) → Bool
searched_next None symbols target seen later = false
searched_next (Some middle) symbols target seen later = searched_on (seen_behind (length symbols) target (form_at symbols middle) seen) later

-- whether the target is named behind the symbols seen, from this place on; as many are looked behind as the first number says
unfoldable pub searched : ℕ → List Symbol → ℕ → List ℕ → ℕ → Bool
searched zero symbols target seen at = false
searched (suc fuel) symbols target seen at = searched_next (slice_get seen at) symbols target seen (λ more. searched fuel symbols target more (at + 1))

-- whether the form leads to the symbol at this index; no more symbols are seen than there are
unfoldable pub leads_back : List Symbol → Form → ℕ → Bool
leads_back symbols form target = searched_on (seen_with (length symbols) target form.terms []) (λ seen. searched (length symbols) symbols target seen 0)

-- what the fault for which the symbol takes no form, and whether the form leads back, make of a map
abbrev pub assigned_by : Option SymCause → Bool → SymbolMap → Result SymbolMap SymCause
assigned_by (Some fault) back made = Err fault
assigned_by None true made = Err BadSymbolUse
assigned_by None false made = Ok made

-- the map where the symbol stands for the form; with `once` only if it is undefined
unfoldable pub assigned : SymbolMap → ℕ → Form → Bool → Result SymbolMap SymCause
assigned map index form once = assigned_by (form_fault_at map index once) (leads_back map.symbols form index) (with_form map index form)
