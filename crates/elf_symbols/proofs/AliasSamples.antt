-- Types and sizes of aliases at small symbol maps, by computing.
use Rattle.std.proofs.Common.{◌≡◌, ℕ, List, [], ◌∷◌, codes, Option, None, Some, refl}
use Rattle.asm_expr.specs.declared.naming.Name.TheVariants.{Plain}
use Rattle.asm_expr.specs.Forms.{Form, constant_form, symbol_form}
use Rattle.asm_symbols.specs.declared.entries.Kind.{Kind}
use Rattle.asm_symbols.specs.declared.entries.Kind.TheVariants.{Function, Object}
use Rattle.asm_symbols.specs.declared.entries.Meaning.{Meaning}
use Rattle.asm_symbols.specs.declared.entries.Meaning.TheVariants.{Label, Assigned}
use Rattle.asm_symbols.specs.declared.entries.Symbol.{Symbol}
use Rattle.asm_symbols.specs.SymbolMap.{SymbolMap}
use Rattle.elf_symbols.specs.Aliases.{said_along, symbol_kind, symbol_size}

-- `base` is the first symbol
base : ℕ
base = 0

-- `middle` is the second
middle : ℕ
middle = 1

symbol : List ℕ → Meaning → Option Kind → Option Form → Symbol
symbol name meaning kind size = record {
  name = Plain name;
  meaning = meaning;
  binding = None;
  kind = kind;
  size = size;
  sized = 0;
  visibility = None;
}

-- `base` is an object of 4 bytes
labelled : Symbol
labelled = symbol (codes "base") (Label (record { place = record { section = 1; place = record { item = 0; offset = 0 } }; stretch = 0; at = 0 })) (Some Object) (Some (constant_form 4))

-- `.set middle,base`, `.type middle,@function`
between : Symbol
between = symbol (codes "middle") (Assigned (symbol_form base)) (Some Function) None

symbols : SymbolMap
symbols = record { symbols = labelled ∷ between ∷ []; files = []; counts = []; sizes = 1 }

-- an assigned symbol of which nothing else is said
alias : Form → Symbol
alias form = symbol (codes "al") (Assigned form) None None

-- `.set al,base`
straight : (symbol_kind symbols (alias (symbol_form base)) ≡ Some Object)
    × (symbol_size symbols (alias (symbol_form base)) ≡ Some (constant_form 4))
unfolding base middle symbol labelled between symbols alias said_along symbol_kind symbol_size
straight = (refl, refl)

-- `.set al,middle`: the type of `middle`, and the size of `base`
chain : (symbol_kind symbols (alias (symbol_form middle)) ≡ Some Function)
    × (symbol_size symbols (alias (symbol_form middle)) ≡ Some (constant_form 4))
unfolding base middle symbol labelled between symbols alias said_along symbol_kind symbol_size
chain = (refl, refl)

-- `.set al,base+1` is no alias
moved : Form
moved = record (symbol_form base) { constant = 1 }

no_alias : (symbol_kind symbols (alias moved) ≡ None) × (symbol_size symbols (alias moved) ≡ None)
unfolding base middle symbol labelled between symbols alias moved said_along symbol_kind symbol_size
no_alias = (refl, refl)
