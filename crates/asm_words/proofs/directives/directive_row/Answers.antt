-- What the slot leads to.
use Rattle.std.proofs.Common.{◌≡◌, None, Some, arith, slice_get, ap, sym, ◌∙◌}
use Rattle.std.proofs.lemmas.Option.{gets}
use Rattle.std.proofs.lemmas.Grind.{common_steps}
use Rattle.asm_words.specs.Directives.{is_directive, the_directives}
use Rattle.asm_words.proofs.SlotLemmas.{there_if, not_there, nothing_there, directive_by_slot}
use Rattle.asm_words.proofs.directives.directive_row.Goals as goal

pub returns-then-is_directive : goal.returns-then-is_directive
returns-then-is_directive c =
    let at : slice_get c.directives.result.now c.directive_number.result ≡ Some c.in-Some.row.now = grind (arith, common_steps, gets, c.in-Some.ensures.lookup) in
    there_if (is_directive c.args.name.now) the_directives c.directive_number.result (directive_by_slot c.args.name.now _ c.directive_number.ensures)
    c.in-Some.row.now (ap (λ rows. slice_get rows c.directive_number.result) (sym c.directives.ensures) ∙ at) (sym c.is_directive.ensures ∙ c.if-is_directive.true)

pub returns-else-is_directive : goal.returns-else-is_directive
returns-else-is_directive c =
    let at : slice_get c.directives.result.now c.directive_number.result ≡ Some c.in-Some.row.now = grind (arith, common_steps, gets, c.in-Some.ensures.lookup) in
    not_there (is_directive c.args.name.now) the_directives c.directive_number.result (directive_by_slot c.args.name.now _ c.directive_number.ensures)
    c.in-Some.row.now (ap (λ rows. slice_get rows c.directive_number.result) (sym c.directives.ensures) ∙ at) (sym c.is_directive.ensures ∙ c.if-is_directive.false)

pub returns-in-None : goal.returns-in-None
returns-in-None c =
    let at : slice_get c.directives.result.now c.directive_number.result ≡ None = grind (arith, common_steps, gets, c.in-None.ensures.lookup) in
    nothing_there (is_directive c.args.name.now) the_directives c.directive_number.result (directive_by_slot c.args.name.now _ c.directive_number.ensures)
    (ap (λ rows. slice_get rows c.directive_number.result) (sym c.directives.ensures) ∙ at)
