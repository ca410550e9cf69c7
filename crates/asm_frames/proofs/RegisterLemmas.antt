-- Registers of frame tables by their numbers, and operands of numbers alone.
use Rattle.std.proofs.Common.{◌≡◌, ◌<◌, ◌↔◌, ℕ, Bool, true, false, cond, nat_lt, List, length, Option, None, Some, Ok, Err, refl, ap, ◌∙◌, arith, IsSome, IfSome, ◌==◌}
use Rattle.std.proofs.Props.{props}
use Rattle.std.proofs.lemmas.Bool.{false≢true, ltb-true}
use Rattle.std.proofs.lemmas.Bool.Decides.{nat_tests}
use mathlib.Core.HLevel.{is_prop→PathP}
use Rattle.asm_base.specs.Refusals.{◌>>=◌}
use Rattle.asm_base.specs.Tokens.{SpelledToken}
use Rattle.asm_expr.specs.Knowledge.{Knowledge}
use Rattle.asm_expr.specs.Linear.{value_of, known_now}
use Rattle.asm_operands.specs.declared.place_faults.PlaceCause.TheVariants.{BadOperand}
use Rattle.asm_operands.specs.Constants.{IsConstant}
use Rattle.asm_operands.specs.ExprFaults.{in_statement}
use Rattle.asm_operands.specs.Expressions.{alone, expression_of}
use Rattle.cfi_directives.specs.declared.registers.DwarfRegister.{DwarfRegister}
use Rattle.asm_frames.specs.Operands.{made_or_bad, unnamed_value, number_in}
use Rattle.asm_frames.specs.Registers.{register_if, register_numbered}

-- NUMBERS ALONE

-- the value of a number alone is that of the operand
pub number_found : (known : Knowledge) (operand : List SpelledToken) (value : ℕ) → IsConstant operand value → number_in known operand ≡ Ok value
unfolding number_in expression_of
number_found known operand value one =
    ap (λ read. made_or_bad (in_statement read >>= λ found. alone found.rest found.tree) >>= unnamed_value known) one.reads
    ∙ (ap (λ names. cond (length names == 0) (made_or_bad (known_now known one.tree)) (Err BadOperand)) one.names
    ∙ ap (λ form. made_or_bad (form >>= value_of)) (one.counts known))

-- REGISTERS BY THEIR NUMBERS

-- two registers of one number are the same
same_register : (one other : DwarfRegister) → one.number ≡ other.number → one ≡ other
same_register one other p =
    λ i. record { number = p i; within = is_prop→PathP (λ j. p j < 64) (λ j. hlevel props) one.within other.within i }

-- a register that is found where the number is below 64, and has the number, is that of the number
pub numbered_so : (number : ℕ) (found : Option DwarfRegister) → (IsSome found ↔ (number < 64)) → IfSome found (λ register. register.number ≡ number)
    → found ≡ register_numbered number
unfolding register_numbered
numbered_so number found within is = by (nat_lt number 64) refl found within is
  where
    by : (test : Bool) (below : nat_lt number 64 ≡ test) (found : Option DwarfRegister) → (IsSome found ↔ (number < 64)) → IfSome found (λ register. register.number ≡ number)
        → found ≡ register_if number test below
    by true below (Some register) within is = ap Some (same_register register (record { number = number; within = ltb-true number 64 below }) is)
    by true below None within is = absurd (false≢true (within.1 (ltb-true number 64 below)))
    by false below (Some register) within is = let less = within.0 refl in absurd (grind (arith, nat_tests))
    by false below None within is = refl
