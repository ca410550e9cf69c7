-- The forms of sums of one or two numbers, symbols or places.
use Rattle.std.specs.Prelude.{ℕ, Bool, true, false, Option, None, Some}
use Rattle.asm_expr.specs.Forms.{Form, constant_form, joined}
use Rattle.asm_expr.specs.Knowledge.{Told, absent, constant, label, form, Knowledge}
use Rattle.asm_expr.specs.Linear.{form_of}
use Rattle.asm_expr.specs.Settled.{settled}
use Rattle.asm_uses.specs.declared.sums.Operand.{Operand}
use Rattle.asm_uses.specs.declared.sums.Operand.TheVariants.{Number, Symbol, Here}
use Rattle.asm_uses.specs.declared.sums.Added.{Added}
use Rattle.asm_uses.specs.declared.sums.Added.TheVariants.{Nothing, Plus, Minus}
use Rattle.asm_uses.specs.declared.sums.SymbolSum.{SymbolSum}

-- the symbol that an operand is, if it is not a number
abbrev pub operand_symbol : Knowledge → Operand → Option ℕ
operand_symbol known (Number value) = None
operand_symbol known (Symbol index) = Some index
operand_symbol known Here = Some known.place

-- the form of an operand
abbrev pub operand_form : Knowledge → Operand → Form
operand_form known (Number value) = constant_form value
operand_form known (Symbol index) = form_of known.told index
operand_form known Here = form_of known.told known.place

-- the form with one operand more, if there is one
abbrev pub added_form : Knowledge → Form → Added → Form
added_form known made Nothing = made
added_form known made (Plus operand) = settled known.told (joined false made (operand_form known operand))
added_form known made (Minus operand) = settled known.told (joined true made (operand_form known operand))

-- the form of a sum
unfoldable pub sum_form : Knowledge → SymbolSum → Form
sum_form known sum = added_form known (operand_form known sum.first) sum.second

-- a symbol that is known as nothing or a label stands for itself
abbrev pub stands_for_itself : Told → Bool
stands_for_itself absent = true
stands_for_itself (constant number) = false
stands_for_itself (label stretch at) = true
stands_for_itself (form made) = false
