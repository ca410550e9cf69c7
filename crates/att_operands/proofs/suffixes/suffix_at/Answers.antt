use Rattle.std.proofs.Common.{map, sym, ◌∙◌, arith}
use Rattle.std.proofs.lemmas.List.{length-map}
use Rattle.asm_base.specs.Tokens.{spelled}
use Rattle.att_operands.proofs.SuffixPlaces.{first_suffix, first_name, few_found, absent_found}
use Rattle.att_operands.proofs.suffixes.suffix_at.Goals as goal

pub returns-in-Some-clause-value : goal.returns-in-Some-clause-value
returns-in-Some-clause-value c =
    c.in-Some.ensures.value ∙ first_suffix (map spelled c.args.tokens.now) c.args.at (sym c.mark_at-mark.ensures.value ∙ c.if-mark-eq64.true)

pub returns-in-Some-clause-name : goal.returns-in-Some-clause-name
returns-in-Some-clause-name c = sym (first_name (map spelled c.args.tokens.now) c.args.at (sym c.mark_at-mark.ensures.value ∙ c.if-mark-eq64.true))

pub returns-in-None-clause-value : goal.returns-in-None-clause-value
returns-in-None-clause-value c =
    c.in-None.ensures.value ∙ first_suffix (map spelled c.args.tokens.now) c.args.at (sym c.mark_at-mark.ensures.value ∙ c.if-mark-eq64.true)

pub returns-then-tokens-at-lt5-clause-value : goal.returns-then-tokens-at-lt5-clause-value
returns-then-tokens-at-lt5-clause-value c =
    let count = length-map c.args.tokens.now spelled in
    let few = c.if-tokens-at-lt5.true in
    let within = c.requires in
    sym (few_found (map spelled c.args.tokens.now) c.args.at c.mark_at-mark.result c.mark_at-mark.ensures.value c.if-mark-eq64.false (omega arith))

pub returns-then-mark_at-ne64-clause-value : goal.returns-then-mark_at-ne64-clause-value
returns-then-mark_at-ne64-clause-value c =
    sym (absent_found (map spelled c.args.tokens.now) c.args.at c.mark_at-mark.result c.late_mark.result c.mark_at.result c.mark_at-mark.ensures.value c.if-mark-eq64.false
    c.late_mark.ensures.added c.late_mark.ensures.negative c.mark_at.ensures.value c.if-mark_at-ne64.true)
