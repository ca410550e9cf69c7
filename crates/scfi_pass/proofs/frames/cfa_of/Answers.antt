use Rattle.std.proofs.Common.{sym, ap, ◌∙◌}
use Rattle.stack_depths.specs.States.{distances_in}
use Rattle.scfi_pass.specs.Rows.{low_by, stack_cfa}
use Rattle.scfi_pass.proofs.RowLemmas.{first_cfa, next_cfa}
use Rattle.scfi_pass.proofs.frames.cfa_of.Goals as goal

pub returns-in-Some : goal.returns-in-Some
returns-in-Some c =
    let known = distances_in c.args.depths.now c.args.item in
    first_cfa (low_by 2 (known 2)) (stack_cfa known) c.in-Some.cfa (ap (low_by 2) (sym c.distance.ensures) ∙ sym c.low_by.ensures ∙ c.in-Some.is)

pub returns-in-None : goal.returns-in-None
returns-in-None c =
    let known = distances_in c.args.depths.now c.args.item in
    c.stack_cfa.ensures ∙ next_cfa (low_by 2 (known 2)) (stack_cfa known) (ap (low_by 2) (sym c.distance.ensures) ∙ sym c.low_by.ensures ∙ c.in-None.is)
