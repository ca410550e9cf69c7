-- What a symbol is known as, for the linear forms of expressions.
use Rattle.std.specs.Prelude.{ℕ, Bool, true, false, List, [], ◌∷◌, slice_get}
use Rattle.std.specs.Option.{option_map_or}
use Rattle.asm_expr.specs.declared.forms.Term.{Term}
use Rattle.asm_expr.specs.Forms.{Form}
use Rattle.asm_expr.specs.Knowledge.{Told, absent, constant, label, form}
use Rattle.asm_symbols.specs.declared.entries.Meaning.{Meaning}
use Rattle.asm_symbols.specs.declared.entries.Meaning.TheVariants as meaning
use Rattle.asm_symbols.specs.declared.entries.Symbol.{Symbol}
use Rattle.asm_symbols.specs.Attributes.{is_weak}
use Rattle.asm_symbols.specs.SymbolMap.{SymbolMap}

-- a form without symbols is a constant; of a weak symbol that stands for another form nothing is known, since another object may define it too
abbrev pub form_told : List Term → Bool → Form → Told
form_told [] weak made = constant made.constant
form_told (term ∷ terms) true made = absent
form_told (term ∷ terms) false made = form made

-- what a symbol of this meaning is known as, which is weak or not: space of this object has a place as a label has, and of common space nothing is
-- known
abbrev pub meaning_told : Meaning → Bool → Told
meaning_told meaning.Undefined weak = absent
meaning_told (meaning.Label spot) weak = label spot.stretch spot.at
meaning_told (meaning.Common size align) weak = absent
meaning_told (meaning.Space spot) weak = label spot.stretch spot.at
meaning_told (meaning.Assigned made) weak = form_told made.terms weak made

-- what a symbol is known as
abbrev pub symbol_told : Symbol → Told
symbol_told symbol = meaning_told symbol.meaning (is_weak symbol.binding)

-- what the symbol at this index is known as, and nothing where there is none
unfoldable pub told : SymbolMap → ℕ → Told
told map index = option_map_or symbol_told (slice_get map.symbols index) absent
