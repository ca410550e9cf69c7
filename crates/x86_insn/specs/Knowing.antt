-- The values of an instruction that are known where it stands.
use Rattle.std.specs.Prelude.{ℕ, Option, Some, None, Result, Ok, Err}
use Rattle.asm_base.specs.Refusals.{◌>>=◌}
use Rattle.asm_expr.specs.declared.faults.ExprCause.{ExprCause}
use Rattle.asm_expr.specs.Trees.{Tree}
use Rattle.asm_expr.specs.Forms.{sum_of, constant_form}
use Rattle.asm_expr.specs.Knowledge.{Told, Knowledge}
use Rattle.asm_expr.specs.Settled.{settled}
use Rattle.asm_expr.specs.Linear.{form_of, linear, value_of}
use Rattle.x86_insn.specs.Amounts.{amount_tree}
use Rattle.x86_insn.specs.declared.insns.Insn.{Insn}
use Rattle.x86_insn.specs.declared.amounts.Values.{Values}

-- the value, or none in place of a fault
abbrev pub if_known : Result ℕ ExprCause → Option ℕ
if_known (Ok known) = Some known
if_known (Err fault) = None

-- the value of an expression, none where its form has symbols, or the first fault of its form
abbrev pub value_now : Knowledge → Tree → Result (Option ℕ) ExprCause
value_now knows tree = linear knows tree >>= (λ form. Ok (if_known (value_of form)))

-- the value of a symbol and a number more, none where symbols are left
unfoldable pub moved_value : (ℕ → Told) → ℕ → ℕ → Option ℕ
moved_value told symbol more = if_known (value_of (settled told (sum_of (form_of told symbol) (constant_form more))))

-- the values of an instruction, or the first fault, that of the immediate first
abbrev pub values_of : Knowledge → Insn → Result Values ExprCause
values_of knows insn = value_now knows (amount_tree insn.immediate.amount)
    >>= (λ own. value_now knows (amount_tree insn.displacement.amount)
    >>= (λ moved. Ok (record { immediate = own; displacement = moved })))
