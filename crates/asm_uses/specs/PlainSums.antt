-- Sums of symbols whose forms are the same wherever a statement stands.
use Rattle.std.specs.Prelude.{◌≡◌, ℕ, ◌==◌, false, true, Option, None, Some}
use Rattle.asm_expr.specs.Forms.{Form, constant_form, symbol_form, joined}
use Rattle.asm_expr.specs.Knowledge.{Told, Knowledge}
use Rattle.asm_expr.specs.Settled.{settled}
use Rattle.asm_symbols.specs.Looking.{told}
use Rattle.asm_symbols.specs.SymbolMap.{SymbolMap}
use Rattle.asm_uses.specs.declared.plain_sums.Plain.{Plain}
use Rattle.asm_uses.specs.declared.plain_sums.Plain.TheVariants.{Number, Moved, Apart}
use Rattle.asm_uses.specs.declared.sums.Operand.{Operand}
use Rattle.asm_uses.specs.declared.sums.Operand.TheVariants as operands
use Rattle.asm_uses.specs.declared.sums.Added.{Added}
use Rattle.asm_uses.specs.declared.sums.Added.TheVariants as adds
use Rattle.asm_uses.specs.declared.sums.SymbolSum.{SymbolSum}
use Rattle.asm_uses.specs.Places.{uses_place}
use Rattle.asm_uses.specs.SumForms.{operand_form, added_form}

-- the form, by what is known of symbols
abbrev pub plain_form : (ℕ → Told) → Plain → Form
plain_form told (Number value) = constant_form value
plain_form told (Moved symbol number) = joined false (symbol_form symbol) (constant_form number)
plain_form told (Apart one other) = settled told (joined true (symbol_form one) (symbol_form other))

-- the symbol is not the place: what is known of it is what the map tells
pub record IsElsewhere (map : SymbolMap) (known : Knowledge) (symbol : ℕ) : Type 0 where
  pub told : known.told symbol ≡ told map symbol
  pub other : (symbol == known.place) ≡ false

-- the same of an operand that is a symbol
abbrev pub StandsElsewhere : SymbolMap → Knowledge → Operand → Type 0
StandsElsewhere map known (operands.Symbol index) = IsElsewhere map known index
StandsElsewhere map known (operands.Number value) = Unit {0}
StandsElsewhere map known operands.Here = Unit {0}

-- the same of what is added
abbrev pub AddsElsewhere : SymbolMap → Knowledge → Added → Type 0
AddsElsewhere map known adds.Nothing = Unit {0}
AddsElsewhere map known (adds.Plus operand) = StandsElsewhere map known operand
AddsElsewhere map known (adds.Minus operand) = StandsElsewhere map known operand

-- no symbol of the sum is the place
pub record NamesElsewhere (map : SymbolMap) (known : Knowledge) (sum : SymbolSum) : Type 0 where
  pub first : StandsElsewhere map known sum.first
  pub second : AddsElsewhere map known sum.second

-- wherever a statement stands, this is the form of the sum, and does not keep the place; and nothing cancels in it, nor with a number more
pub record IsPlain (map : SymbolMap) (first : Operand) (second : Added) (plain : Plain) : Type 0 where
  pub form : (known : Knowledge) → StandsElsewhere map known first → AddsElsewhere map known second
      → added_form known (operand_form known first) second ≡ plain_form (told map) plain
  pub free : (known : Knowledge) → StandsElsewhere map known first → AddsElsewhere map known second → uses_place known.place (plain_form (told map) plain) ≡ false
  pub still : (known : Knowledge) → StandsElsewhere map known first → AddsElsewhere map known second → (number : ℕ)
      → (let moved = joined false (plain_form (told map) plain) (constant_form number) in moved ≡ settled known.told moved)

-- a form that is found is that of the sum; where none is found nothing is said
abbrev pub FindsPlain : SymbolMap → Operand → Added → Option Plain → Type 0
FindsPlain map first second (Some plain) = IsPlain map first second plain
FindsPlain map first second None = Unit {0}
