-- No statement is left, or the lines have a fault.
use Rattle.std.proofs.Common.{◌≡◌, ℕ, IfOk, List, Option, Some, None, Result, Ok, Err, refl, sym, ap, subst, ◌∙◌, arith}
use Rattle.asm_lines.specs.declared.faults.LineCause.{LineCause}
use Rattle.asm_lines.specs.LineNumbers.{line_of}
use Rattle.asm_lines.specs.Statements.{StatementAt, statements_of}
use Rattle.asm_lines.specs.NextStatements.{HasNoLineFault, IsLineCheck}
use Rattle.asm_lines.specs.Placing.{IsFaultOfLines}
use Rattle.asm_lines.proofs.LineFaults.{found_never_ok, nul_never_ok, statements_all}
use Rattle.asm_lines.proofs.line_checks.counted_fault_of_lines.Goals as goal

-- where the lines have a fault, it is the one that is found
check_of_fault : (file : ℕ) (text : List ℕ) (found : Option LineCause) → ((statements : List StatementAt) → statements_of file text ≡ Ok statements → ⊥)
    → IsFaultOfLines found (statements_of file text) → IsLineCheck file text found
check_of_fault file text (Some cause) never is = is
check_of_fault file text None never is = absurd (never is.0 is.1)

-- so it is with what was asked for, unless memory was refused
checks_of_fault : {E : Type 0} (file : ℕ) (text : List ℕ) (result : Result (Option LineCause) E) → ((statements : List StatementAt) → statements_of file text ≡ Ok statements → ⊥)
    → IfOk result (λ found. IsFaultOfLines found (statements_of file text)) → IfOk result (λ found. IsLineCheck file text found)
checks_of_fault file text (Ok found) never is = check_of_fault file text found never is
checks_of_fault file text (Err e) never is = tt

pub returns-then-has_nul-clause-check : goal.returns-then-has_nul-clause-check
returns-then-has_nul-clause-check g c =
    let source = c.as_bytes-source.result.now in
    let whole : statements_of c.args.file c.args.text.now ≡ statements_of c.args.file source = ap (statements_of c.args.file) (sym c.as_bytes-source.ensures) in
    checks_of_fault c.args.file c.args.text.now c.line_fault.result (λ statements is. nul_never_ok c.args.file source statements (sym c.has_nul.ensures ∙ c.if-has_nul.true) (sym whole ∙ is)) c.line_fault.ensures.fault

pub loop-next-init : goal.loop-next-init
unfolding line_of
loop-next-init g c = record { faults = refl; line = refl; within = omega arith; looks = omega arith }

pub returns-in-End-clause-check : goal.returns-in-End-clause-check
returns-in-End-clause-check g c =
    let source = c.as_bytes-source.result.now in
    let none = sym c.loop-next.invariant.faults ∙ c.in-End.ensures.passes in
    let Stands : List ℕ → Type 0 = λ text. HasNoLineFault c.args.file text in
    subst Stands c.as_bytes-source.ensures (record { statements = statements_all c.args.file source (sym c.has_nul.ensures ∙ c.if-has_nul.false) none; faults = none })

pub returns-in-Faulty-clause-check : goal.returns-in-Faulty-clause-check
returns-in-Faulty-clause-check g c =
    let source = c.as_bytes-source.result.now in
    let step = c.in-Faulty.ensures.passes in
    let whole : statements_of c.args.file c.args.text.now ≡ statements_of c.args.file source = ap (statements_of c.args.file) (sym c.as_bytes-source.ensures) in
    checks_of_fault c.args.file c.args.text.now c.line_fault-in-Faulty.result (λ statements is. found_never_ok c.args.file source statements (step.0, sym c.loop-next.invariant.faults ∙ step.1) (sym whole ∙ is)) c.line_fault-in-Faulty.ensures.fault
