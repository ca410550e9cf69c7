-- A label more stands in front, or none is left.
use Rattle.std.proofs.Common.{◌≡◌, true, false, map, drop, sym, ap, ◌∙◌}
use Rattle.std.proofs.lemmas.List.{take_rest}
use Rattle.asm_base.specs.Tokens.{spelled}
use Rattle.asm_operands.specs.Operands.{begins_with_label}
use Rattle.asm_place.specs.Instructions.{behind_labels}
use Rattle.asm_place.proofs.LabelLemmas.{room}
use Rattle.asm_place.proofs.SplitLaws.{behind_step, behind_none, front_is}
use Rattle.asm_place.proofs.bodies.labels_length.Goals as goal

pub labels-preserved : goal.labels-preserved
labels-preserved c =
    let here = take_rest c.args.tokens.now c.labels.at in
    let labelled : begins_with_label (map spelled (drop c.labels.at c.args.tokens.now)) ≡ true = sym (c.labels-test.ensures.value ∙ ap (λ ts. begins_with_label (map spelled ts)) here) in
    record {
      inside = room c.args.tokens.now c.labels.at labelled;
      left = behind_step c.args.tokens.now c.labels.at labelled ∙ c.labels.invariant.left;
    }

pub returns : goal.returns
returns c =
    let here = take_rest c.args.tokens.now c.labels.at in
    let plain : begins_with_label (map spelled (drop c.labels.at c.args.tokens.now)) ≡ false = sym (c.labels-test.ensures.value ∙ ap (λ ts. begins_with_label (map spelled ts)) here) in
    let back : map spelled (drop c.labels.at c.args.tokens.now) ≡ behind_labels (map spelled c.args.tokens.now) =
    sym (behind_none (map spelled (drop c.labels.at c.args.tokens.now)) plain) ∙ c.labels.invariant.left in
    record { within = c.labels.invariant.inside; front = front_is c.args.tokens.now c.labels.at back; back = back }
