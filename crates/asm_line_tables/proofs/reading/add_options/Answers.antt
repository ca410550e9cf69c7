-- The steps of the loop over the options.
use Rattle.std.proofs.Common.{◌≡◌, ◌∷◌, drop, sym, ◌∙◌, arith}
use Rattle.std.proofs.lemmas.List.{take_rest}
use Rattle.asm_base.specs.Tokens.{spelled}
use Rattle.asm_line_tables.specs.WordsIn.{loc_words_in}
use Rattle.asm_line_tables.proofs.OptionLemmas.{step_on}
use Rattle.asm_line_tables.proofs.reading.add_options.Goals as goal

pub loop-name-preserved : goal.loop-name-preserved
loop-name-preserved c =
    let s = c.args.tokens.now in
    let front : drop c.loop-name.at s ≡ c.in-Some.name.now ∷ c.in-Some.rest.now = sym (take_rest s c.loop-name.at) ∙ c.in-Some.ensures.cases.0 in
    record {
      within = omega arith;
      left = step_on spelled s c.in-Some.rest.now c.in_ok-behind.behind.now c.in-Some.name.now c.loop-name.at front (loc_words_in c.loop-name.words) _ c.in_ok-behind.ensures.value
          ∙ c.loop-name.invariant.left;
    }
