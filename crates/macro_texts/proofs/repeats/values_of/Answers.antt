-- Value by value.
use Rattle.std.proofs.Common.{◌++◌, sym, ap, ◌∙◌}
use Rattle.macro_texts.specs.Repeats.{values_of}
use Rattle.macro_texts.specs.RepeatsSeen.{texts}
use Rattle.macro_texts.proofs.ParameterLemmas.{left_is, next_is}
use Rattle.macro_texts.proofs.ArgumentLemmas.{rest_within}
use Rattle.macro_texts.proofs.repeats.values_of.Goals as goal

pub loop-at-preserved : goal.loop-at-preserved
loop-at-preserved c =
    let all = c.args.tokens.now in
    let at = c.loop-at.at in
    let n = c.in_ok-at.field-0 in
    record {
      read =
          ap (λ xs. texts c.push_first_value.new.values.items ++ values_of xs) (sym (next_is all at n))
          ∙ c.in_ok-at.ensures.gives
          ∙ ap (λ xs. texts c.loop-at.values.items ++ values_of xs) (left_is all at)
          ∙ c.loop-at.invariant.read;
      within = rest_within all at n c.loop-at.invariant.within c.in_ok-at.ensures.within;
    }
