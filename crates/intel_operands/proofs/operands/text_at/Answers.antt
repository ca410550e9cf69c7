-- All tokens from a place on are what is left there.
use Rattle.std.proofs.Common.{◌≡◌, ◌-◌, List, length, map, drop, take, refl, sym, ap, ◌∙◌, arith, length-drop}
use Rattle.std.proofs.lemmas.List.{take_all, length-take-le, drop-map}
use Rattle.asm_base.specs.declared.tokens.Token.{Token}
use Rattle.asm_base.specs.Tokens.{SpelledToken, spelled}
use Rattle.intel_operands.specs.OperandTexts.{up_to_comma}
use Rattle.intel_operands.proofs.SpelledTests.{text_spelled}
use Rattle.intel_operands.proofs.operands.text_at.Goals as goal

pub returns-clause-value : goal.returns-clause-value
returns-clause-value c =
    let ts = c.args.tokens.now in
    let at = c.args.at in
    let n = c.up_to_comma.result in
    let left : take (length ts - at) (drop at ts) ≡ drop at ts = take_all (length ts - at) (drop at ts) (omega (arith, length-drop at ts)) in
    ap (λ (xs : List Token). map spelled (take n xs)) left
    ∙ text_spelled ts (take n (drop at ts)) at n (c.up_to_comma.ensures.value ∙ ap (λ (xs : List Token). up_to_comma (map spelled xs)) left) refl

pub returns-clause-size : goal.returns-clause-size
returns-clause-size c =
    let ts = c.args.tokens.now in
    let at = c.args.at in
    let n = c.up_to_comma.result in
    let left : take (length ts - at) (drop at ts) ≡ drop at ts = take_all (length ts - at) (drop at ts) (omega (arith, length-drop at ts)) in
    length-take-le n (take (length ts - at) (drop at ts)) c.up_to_comma.ensures.within
    ∙ c.up_to_comma.ensures.value ∙ ap (λ (xs : List Token). up_to_comma (map spelled xs)) left
    ∙ ap (λ (xs : List SpelledToken). up_to_comma xs) (sym (drop-map spelled at ts))
