-- What stands behind a place of the program's tokens is spelled by what they spell.
use Rattle.std.proofs.Common.{◌≡◌, ◌+◌, ◌-◌, List, length, map, drop, take, sym, ap, ◌∙◌, arith, length-drop}
use Rattle.std.proofs.lemmas.List.{take_all, drop-map}
use Rattle.asm_base.specs.declared.tokens.Token.{Token}
use Rattle.asm_base.specs.Tokens.{spelled}
use Rattle.intel_operands.specs.Symbols.{unsuffixed, adds_numbers}
use Rattle.intel_operands.proofs.symbols.adds_behind.Goals as goal

pub returns : goal.returns
returns c =
    let ts = c.args.text.now in
    let at = c.args.at + 1 in
    let left : take (length ts - at) (drop at ts) ≡ drop at ts = take_all (length ts - at) (drop at ts) (omega (arith, length-drop at ts)) in
    c.adds_numbers.ensures
    ∙ ap adds_numbers (c.unsuffixed.ensures ∙ ap (λ (xs : List Token). unsuffixed (map spelled xs)) left ∙ ap unsuffixed (sym (drop-map spelled at ts)))
