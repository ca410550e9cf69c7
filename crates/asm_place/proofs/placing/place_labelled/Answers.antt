-- A label more is placed, or what stands behind the labels.
use Rattle.std.proofs.Common.{◌≡◌, ◌+◌, ◌-◌, ◌≤◌, true, false, map, length, drop, take, sym, ap, ◌∙◌, subst}
use Rattle.std.proofs.lemmas.Result.{err_from_is_err_and}
use Rattle.std.proofs.lemmas.List.{take_rest}
use Rattle.asm_base.specs.Tokens.{spelled}
use Rattle.asm_base.specs.Refusals.{Gives}
use Rattle.asm_values.specs.PlacedBy.{placed_by}
use Rattle.asm_operands.specs.Operands.{begins_with_label}
use Rattle.asm_place.specs.Placing.{place_unlabelled, place_labelled}
use Rattle.asm_place.proofs.LabelLemmas.{unlabelled, label_step, label_fails, room}
use Rattle.asm_place.proofs.placing.place_labelled.Goals as goal

pub labels-preserved : goal.labels-preserved
labels-preserved c =
    let here = take_rest c.args.tokens.now c.labels.at in
    let labelled : begins_with_label (map spelled (drop c.labels.at c.args.tokens.now)) ≡ true = sym (c.labels-test.ensures.value ∙ ap (λ ts. begins_with_label (map spelled ts)) here) in
    let inside : c.labels.at + 2 ≤ length c.args.tokens.now = room c.args.tokens.now c.labels.at labelled in
    record {
      inside = inside;
      notes = c.in_ok-place_label.ensures.kept ∙ c.labels.invariant.notes;
      left = label_step c.args.pos c.args.tokens.now c.labels.at _ _ _ _ inside labelled c.in_ok-place_label.ensures.placed c.labels.invariant.left;
    }

pub returns-in_err-place_label-clause-placed : goal.returns-in_err-place_label-clause-placed
returns-in_err-place_label-clause-placed c =
    let here = take_rest c.args.tokens.now c.labels.at in
    let labelled : begins_with_label (map spelled (drop c.labels.at c.args.tokens.now)) ≡ true = sym (c.labels-test.ensures.value ∙ ap (λ ts. begins_with_label (map spelled ts)) here) in
    let inside : c.labels.at + 2 ≤ length c.args.tokens.now = room c.args.tokens.now c.labels.at labelled in
    let p = err_from_is_err_and c.from_residual.result c.from_residual.ensures.1 in
    rw (p.1, p.2) (label_fails c.args.pos c.args.tokens.now c.labels.at _ _ _ _ inside labelled c.in_err-place_label.ensures.placed c.labels.invariant.left)

pub returns-clause-placed : goal.returns-clause-placed
returns-clause-placed c =
    let here = take_rest c.args.tokens.now c.labels.at in
    let plain : begins_with_label (map spelled (drop c.labels.at c.args.tokens.now)) ≡ false = sym (c.labels-test.ensures.value ∙ ap (λ ts. begins_with_label (map spelled ts)) here) in
    let all : place_unlabelled c.args.pos (map spelled (take (length c.args.tokens.now - c.labels.at) (drop c.labels.at c.args.tokens.now))) (placed_by c.labels.assembler) ≡ place_labelled c.args.pos (map spelled c.args.tokens.now) (placed_by c.args.assembler.now) =
    ap (λ ts. place_unlabelled c.args.pos (map spelled ts) (placed_by c.labels.assembler)) here ∙ sym (unlabelled c.args.pos (map spelled (drop c.labels.at c.args.tokens.now)) (placed_by c.labels.assembler) plain) ∙ c.labels.invariant.left in
    subst (λ answer. Gives (placed_by c.place_unlabelled.new.assembler) c.place_unlabelled.result answer) all c.place_unlabelled.ensures.placed
