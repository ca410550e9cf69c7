-- Parameter by parameter.
use Rattle.std.proofs.Common.{length, map, drop, sym, ap, ◌∙◌, arith}
use Rattle.std.proofs.lemmas.List.{length-drop, length-map}
use Rattle.asm_base.specs.Tokens.{spelled}
use Rattle.macro_texts.specs.ParametersSeen.{parameter_seen}
use Rattle.macro_texts.specs.Parameters.{each_parameter, parameter_parts}
use Rattle.macro_texts.specs.PartLengths.{behind}
use Rattle.macro_texts.proofs.ParameterLemmas.{left_is, next_is}
use Rattle.macro_texts.proofs.parameters.each_parameter.Goals as goal

pub loop-at-preserved : goal.loop-at-preserved
loop-at-preserved c =
    let all = c.args.tokens.now in
    let at = c.loop-at.at in
    let n = c.in_ok-at.field-0 in
    let old = map parameter_seen c.loop-at.parameters.items in
    let new = map parameter_seen c.push_first.new.parameters.items in
    record {
      read =
          ap (λ xs. behind new (each_parameter (parameter_parts xs))) (sym (next_is all at n))
          ∙ c.in_ok-at.ensures.gives
          ∙ ap (λ xs. behind old (each_parameter (parameter_parts xs))) (left_is all at)
          ∙ c.loop-at.invariant.read;
      within = omega (arith, c.in_ok-at.ensures.within, ap length (left_is all at), length-map (drop at all) spelled, length-drop at all);
    }
