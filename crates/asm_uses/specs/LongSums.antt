-- Sums of up to three symbols, numbers and places.
use Rattle.std.specs.Prelude.{◌≡◌, ℕ, Bool, true, false, Option, None, Some}
use Rattle.asm_expr.specs.Forms.{Form, constant_form, signed, joined}
use Rattle.asm_expr.specs.Knowledge.{Told, Knowledge}
use Rattle.asm_operands.specs.declared.sums.LongSum.{LongSum}
use Rattle.asm_symbols.specs.SymbolMap.{SymbolMap}
use Rattle.asm_uses.specs.declared.long_sums.LongSymbolSum.{LongSymbolSum}
use Rattle.asm_uses.specs.declared.long_sums.Moved.{Moved}
use Rattle.asm_uses.specs.declared.long_sums.Moved.TheVariants.{Not, By}
use Rattle.asm_uses.specs.declared.long_sums.LongPlain.{LongPlain}
use Rattle.asm_uses.specs.declared.sums.Operand.{Operand}
use Rattle.asm_uses.specs.declared.sums.Operand.TheVariants.{Number, Symbol, Here}
use Rattle.asm_uses.specs.declared.sums.Added.{Added}
use Rattle.asm_uses.specs.declared.sums.Added.TheVariants.{Nothing, Plus, Minus}
use Rattle.asm_uses.specs.PlainSums.{plain_form, IsPlain}
use Rattle.asm_uses.specs.SumForms.{added_form, sum_form}
use Rattle.asm_uses.specs.SymbolSums.{IsAdded, IsNamed}

-- the sum by symbols stands for the sum by names
pub record IsLongNamed (map : SymbolMap) (sum : LongSum) (named : LongSymbolSum) : Type 0 where
  pub front : IsNamed map sum.front named.front
  pub third : IsAdded map sum.third named.third

-- the form of a sum of up to three summands
unfoldable pub long_form : Knowledge → LongSymbolSum → Form
long_form known named = added_form known (sum_form known named.front) named.third

-- the form with a number more, if there is one
abbrev pub moved_form : Form → Moved → Form
moved_form made Not = made
moved_form made (By number) = joined false made (constant_form number)

-- the operand with this sign is this number
abbrev pub IsNumber : Bool → Operand → ℕ → Type 0
IsNumber minus (Number value) number = number ≡ signed minus value
IsNumber minus (Symbol index) number = ⊥
IsNumber minus Here number = ⊥

-- what is added is this number, if it is anything
abbrev pub IsMoved : Added → Moved → Type 0
IsMoved Nothing Not = Unit {0}
IsMoved Nothing (By number) = ⊥
IsMoved (Plus operand) Not = ⊥
IsMoved (Plus operand) (By number) = IsNumber false operand number
IsMoved (Minus operand) Not = ⊥
IsMoved (Minus operand) (By number) = IsNumber true operand number

-- a number that is found is what is added; where none is found nothing is said
abbrev pub FindsMoved : Added → Option Moved → Type 0
FindsMoved added (Some moved) = IsMoved added moved
FindsMoved added None = Unit {0}

-- the form, by what is known of symbols
abbrev pub long_plain_form : (ℕ → Told) → LongPlain → Form
long_plain_form told found = moved_form (plain_form told found.plain) found.moved

-- wherever a statement stands, the first two summands have this form, and the third is this number
pub record IsLongPlain (map : SymbolMap) (sum : LongSymbolSum) (found : LongPlain) : Type 0 where
  pub plain : IsPlain map sum.front.first sum.front.second found.plain
  pub moved : IsMoved sum.third found.moved

-- a form that is found is that of the sum; where none is found nothing is said
abbrev pub FindsLongPlain : SymbolMap → LongSymbolSum → Option LongPlain → Type 0
FindsLongPlain map sum (Some found) = IsLongPlain map sum found
FindsLongPlain map sum None = Unit {0}
