-- Argument by argument.
use Rattle.std.proofs.Common.{map, sym, ap, ◌∙◌}
use Rattle.macro_texts.specs.ParametersSeen.{parameter_seen}
use Rattle.macro_texts.specs.Arguments.{given_from, arguments_of}
use Rattle.macro_texts.specs.ArgumentsSeen.{given_seen}
use Rattle.macro_texts.specs.PartLengths.{behind}
use Rattle.macro_texts.proofs.ParameterLemmas.{left_is, next_is}
use Rattle.macro_texts.proofs.ArgumentLemmas.{rest_within}
use Rattle.macro_texts.proofs.arguments.given_in.Goals as goal

pub loop-at-preserved : goal.loop-at-preserved
loop-at-preserved c =
    let all = c.args.tokens.now in
    let at = c.loop-at.at in
    let passed = c.in_ok-passed.passed in
    let parameters = map parameter_seen c.args.parameters.now in
    let old = map given_seen c.loop-at.given.items in
    let new = map given_seen c.push_argument.new.given.items in
    record {
      read =
          ap (λ xs. behind new (given_from parameters passed.place (arguments_of xs))) (sym (next_is all at passed.length))
          ∙ c.in_ok-passed.ensures.read.gives
          ∙ ap (λ xs. behind old (given_from parameters c.loop-at.place (arguments_of xs))) (left_is all at)
          ∙ c.loop-at.invariant.read;
      within = rest_within all at passed.length c.loop-at.invariant.within c.in_ok-passed.ensures.read.within;
      places = c.in_ok-passed.ensures.place;
    }
