-- The steps of the loop over the options.
use Rattle.std.proofs.Common.{◌≡◌, ◌∷◌, drop, refl, sym, ◌∙◌, arith}
use Rattle.std.proofs.lemmas.List.{take_rest}
use Rattle.asm_base.specs.Tokens.{spelled}
use Rattle.asm_line_tables.proofs.ConstantLocLemmas.{no_option, option_left}
use Rattle.asm_line_tables.proofs.constants.add_options.Goals as goal

pub loop-name-init : goal.loop-name-init
loop-name-init c = record { within = omega arith; added = no_option _ _ _ _ refl c.no_marks-marks.ensures }

pub loop-name-preserved : goal.loop-name-preserved
loop-name-preserved c =
    let s = c.args.tokens.now in
    let front : drop c.loop-name.at s ≡ c.in-Some.name.now ∷ c.in-Some.rest.now = sym (take_rest s c.loop-name.at) ∙ c.in-Some.ensures.cases.0 in
    record {
      within = omega arith;
      added = option_left spelled s c.in-Some.rest.now c.in_ok-behind.behind.now c.in-Some.name.now c.loop-name.at front _ _ _ _ _
          c.loop-name.invariant.added c.in_ok-behind.ensures.number;
    }
