-- The fault of the lines is that of the statements that are made.
use Rattle.std.proofs.Common.{Err, sym, ap, subst, ◌∙◌}
use Rattle.asm_lines.specs.NextStatements.{IsLineCheck}
use Rattle.macro_words.specs.Statements.{made_by, made_statements}
use Rattle.macro_blocks.proofs.making.check_text.Goals as goal

pub returns-in-Ok-Some : goal.returns-in-Ok-Some
unfolding made_statements
returns-in-Ok-Some c pos =
    let fault = subst (IsLineCheck 0 c.args.text.now) c.in-Ok-Some.field-0-is c.in-Ok-Some.ensures in
    ap (made_by pos) fault ∙ ap (λ cause. Err cause) (sym c.line_cause.ensures)
