-- What a symbol and a number more count, by what the symbol is known as.
use Rattle.std.proofs.Common.{◌≡◌, ◌<◌, ap, ℕ, ◌+◌, ◌%◌, ◌^◌, List, Option, Some, None, Result, Ok, refl, arith, eq-eqb, sym, ◌∙◌}
use Rattle.asm_expr.specs.declared.knowledge.Look.{Look}
use Rattle.asm_expr.specs.declared.knowledge.Look.TheVariants as look
use Rattle.asm_expr.specs.Knowledge.{told_by}
use Rattle.asm_expr.specs.declared.faults.ExprCause.{ExprCause}
use Rattle.asm_expr.specs.declared.trees.Written.TheVariants.{Plain}
use Rattle.asm_expr.specs.Forms.{with_terms}
use Rattle.asm_expr.specs.Knowledge.{Told, absent, constant, label, Knowledge}
use Rattle.asm_expr.specs.Settled.{settled, put_all}
use Rattle.asm_expr.specs.Linear.{linear, binary_form}
use Rattle.x86_insn.specs.Amounts.{amount_tree, named_tree}
use Rattle.x86_insn.specs.declared.amounts.Amount.{Amount}
use Rattle.x86_insn.specs.declared.amounts.Amount.TheVariants as amount
use Rattle.x86_insn.specs.Knowing.{value_now, moved_value}

-- the value of a named symbol and a number
pub named : (knows : Knowledge) (bytes : List ℕ) (more : ℕ) → value_now knows (named_tree bytes more) ≡ Ok (moved_value knows.told (knows.meant (Plain bytes)) more)
unfolding linear binary_form moved_value
named knows bytes more = refl

-- of a symbol that is known as nothing there is none
not_known : (told : ℕ → Told) (symbol more : ℕ) → absent ≡ told symbol → moved_value told symbol more ≡ None
unfolding moved_value settled put_all with_terms
not_known told symbol more known = rw (← known) (rw (← known) refl)

-- nor of a label
of_label : (told : ℕ → Told) (symbol more stretch at : ℕ) → label stretch at ≡ told symbol → moved_value told symbol more ≡ None
unfolding moved_value settled put_all with_terms
of_label told symbol more stretch at known = rw (← known) (rw (← known, eq-eqb stretch stretch refl) refl)

-- that of a constant is the sum
of_constant : (told : ℕ → Told) (symbol more value : ℕ) → constant value ≡ told symbol → more < 2 ^ 64 → moved_value told symbol more ≡ Some ((value + more) % 2 ^ 64)
unfolding moved_value settled put_all with_terms
of_constant told symbol more value known small = rw (← known) (ap Some (omega arith))

-- a value that is known, or not
abbrev due : Option ℕ → Result (Option ℕ) ExprCause
due held = Ok held

-- where a look tells that nothing is known, there is no value
pub by_absent : (told : ℕ → Told) (symbol more : ℕ) (looked : Look) → told_by looked ≡ told symbol → looked ≡ look.Absent
    → due (moved_value told symbol more) ≡ due None
by_absent told symbol more looked tells is = ap due (not_known told symbol more (sym (ap told_by is) ∙ tells))

-- nor where it tells a label
pub by_label : (told : ℕ → Told) (symbol more stretch at : ℕ) (looked : Look) → told_by looked ≡ told symbol → looked ≡ look.Label stretch at
    → due (moved_value told symbol more) ≡ due None
by_label told symbol more stretch at looked tells is = ap due (of_label told symbol more stretch at (sym (ap told_by is) ∙ tells))

-- where it tells a constant, the value is the sum
pub by_constant : (told : ℕ → Told) (symbol more value : ℕ) (looked : Look) → told_by looked ≡ told symbol → looked ≡ look.Constant value → more < 2 ^ 64
    → due (moved_value told symbol more) ≡ due (Some ((value + more) % 2 ^ 64))
by_constant told symbol more value looked tells is small = ap due (of_constant told symbol more value (sym (ap told_by is) ∙ tells) small)

-- a number is its own value
pub by_number : (knows : Knowledge) (held : Amount) (value : ℕ) → held ≡ amount.Number value → value_now knows (amount_tree held) ≡ Ok (Some value)
unfolding linear
by_number knows held value is = rw is refl
