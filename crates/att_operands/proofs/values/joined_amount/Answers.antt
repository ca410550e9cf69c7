use Rattle.std.proofs.Common.{◌+◌, ℕ, List, map, length, ap, sym, ◌∙◌}
use Rattle.std.proofs.lemmas.List.{length-map}
use Rattle.asm_base.specs.declared.tokens.Token.{Token}
use Rattle.asm_base.specs.Tokens.{spelled}
use Rattle.att_operands.specs.Values.{without_suffix}
use Rattle.att_operands.proofs.SuffixLemmas.{left_length}
use Rattle.att_operands.proofs.values.joined_amount.Goals as goal

pub returns-clause-value : goal.returns-clause-value
returns-clause-value c =
    let all = map spelled c.args.tokens.now in
    let left = ap (λ (ts : List Token). map spelled ts) c.as_slice.ensures.value ∙ c.in_ok-list.ensures.value in
    let same = length-map c.args.tokens.now spelled in
    let list = length-map c.as_slice.result.now spelled in
    let rest = left_length all c.args.at c.args.name c.requires.order (rw same c.requires.within) in
    c.moved_amount.ensures.value (without_suffix all c.args.name) left (rest ∙ ap (λ (n : ℕ). c.args.at + n) (ap length (sym left) ∙ list))
