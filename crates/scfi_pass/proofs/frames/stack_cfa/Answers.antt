use Rattle.std.proofs.Common.{sym, ap, ◌∙◌}
use Rattle.stack_depths.specs.States.{distances_in}
use Rattle.scfi_pass.specs.Rows.{known_by, other_cfa}
use Rattle.scfi_pass.proofs.RowLemmas.{first_cfa, next_cfa}
use Rattle.scfi_pass.proofs.frames.stack_cfa.Goals as goal

pub returns-in-Some : goal.returns-in-Some
returns-in-Some c =
    let known = distances_in c.args.depths.now c.args.item in
    first_cfa (known_by 0 (known 0)) (other_cfa known) c.in-Some.cfa (ap (known_by 0) (sym c.distance.ensures) ∙ sym c.known_by.ensures ∙ c.in-Some.is)

pub returns-in-None : goal.returns-in-None
returns-in-None c =
    let known = distances_in c.args.depths.now c.args.item in
    c.other_cfa.ensures ∙ next_cfa (known_by 0 (known 0)) (other_cfa known) (ap (known_by 0) (sym c.distance.ensures) ∙ sym c.known_by.ensures ∙ c.in-None.is)
