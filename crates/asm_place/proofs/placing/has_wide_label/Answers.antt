-- The number of a label more is not too wide, or is; or no label is left.
use Rattle.std.proofs.Common.{◌≡◌, ◌+◌, ◌≤◌, true, false, map, length, drop, sym, ap, ◌∙◌}
use Rattle.std.proofs.lemmas.List.{take_rest}
use Rattle.asm_base.specs.Tokens.{spelled}
use Rattle.asm_operands.specs.Operands.{begins_with_label}
use Rattle.asm_place.proofs.LabelLemmas.{wide_on, wide_here, wide_none, room}
use Rattle.asm_place.proofs.placing.has_wide_label.Goals as goal

pub labels-preserved : goal.labels-preserved
labels-preserved c =
    let here = take_rest c.args.tokens.now c.labels.at in
    let labelled : begins_with_label (map spelled (drop c.labels.at c.args.tokens.now)) ≡ true = sym (c.labels-test.ensures.value ∙ ap (λ ts. begins_with_label (map spelled ts)) here) in
    let inside : c.labels.at + 2 ≤ length c.args.tokens.now = room c.args.tokens.now c.labels.at labelled in
    record {
      inside = inside;
      left = wide_on c.args.tokens.now c.labels.at _ _ inside labelled (sym c.is_too_wide.ensures ∙ c.if-is_too_wide.false) c.labels.invariant.left;
    }

pub returns-then-is_too_wide : goal.returns-then-is_too_wide
returns-then-is_too_wide c =
    let here = take_rest c.args.tokens.now c.labels.at in
    let labelled : begins_with_label (map spelled (drop c.labels.at c.args.tokens.now)) ≡ true = sym (c.labels-test.ensures.value ∙ ap (λ ts. begins_with_label (map spelled ts)) here) in
    let inside : c.labels.at + 2 ≤ length c.args.tokens.now = room c.args.tokens.now c.labels.at labelled in
    sym (wide_here c.args.tokens.now c.labels.at _ _ inside labelled (sym c.is_too_wide.ensures ∙ c.if-is_too_wide.true) c.labels.invariant.left)

pub returns : goal.returns
returns c =
    let here = take_rest c.args.tokens.now c.labels.at in
    let plain : begins_with_label (map spelled (drop c.labels.at c.args.tokens.now)) ≡ false = sym (c.labels-test.ensures.value ∙ ap (λ ts. begins_with_label (map spelled ts)) here) in
    sym (sym c.labels.invariant.left ∙ wide_none (map spelled (drop c.labels.at c.args.tokens.now)) plain)
