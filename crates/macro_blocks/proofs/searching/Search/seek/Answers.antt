-- The next statement is passed, or the search ends there, or nothing is left.
use Rattle.std.proofs.Common.{◌≡◌, ◌+◌, ◌*◌, ◌≤◌, map, take, subst, ap, sym, ◌∙◌, Option, Result, Bool, arith}
use Rattle.asm_base.specs.Tokens.{spelled}
use Rattle.asm_lines.specs.NextStatements.{StandsNext, bytes_passed}
use Rattle.macro_words.specs.declared.causes.MacroCause.{MacroCause}
use Rattle.macro_blocks.specs.Places.{pos_in, read_at}
use Rattle.macro_blocks.specs.Searches.{PassesOne}
use Rattle.macro_blocks.proofs.Lefts.{next_left, end_left, whole_next}
use Rattle.macro_blocks.proofs.Texts.{passed_on, passed_all, stopped_in}
use Rattle.macro_blocks.proofs.searching.Search.seek.Goals as goal

pub returns-in-Some-clause-seeks : goal.returns-in-Some-clause-seeks
returns-in-Some-clause-seeks g c =
    let verdict = g.V.Verdicts.verdict c.args.verdicts.now in
    let source = c.args.source.now in
    let at = c.loop-at.at in
    let next = c.in-Statement.next in
    let tokens = c.counted_next_statement.new.tokens.items in
    let read = take c.in-Statement.count tokens in
    let step = (subst (StandsNext source at tokens) c.in-Statement.is c.in_ok-here.ensures.stands).1 in
    let spells = map spelled (take c.in-Statement.count c.as_slice.result.now) in
    let Passes : Option (Result Bool MacroCause) → Type 0 = λ stop. PassesOne verdict c.loop-at.self c.pass.new.self spells stop in
    let ends = subst Passes c.in-Some.is c.in_ok-verdict-in-Statement.ensures.passes in
    let pos : c.pos_in-pos.result ≡ pos_in c.args.place c.in-Statement.here = c.pos_in-pos.ensures in
    let head = next_left c.args.place source at read c.in-Statement.here next c.in-Statement.there step in
    let these : map spelled read ≡ spells = ap (λ all. map spelled (take c.in-Statement.count all)) (sym c.as_slice.ensures.value) in
    stopped_in verdict c.args.place source c.args.from c.args.self.now at c.loop-at.self c.pass.new.self (read_at (pos_in c.args.place c.in-Statement.here) read) _ c.loop-at.invariant.passed head (ends _ these) c.loop-at.invariant.block pos step.within step.there (whole_next source at read c.in-Statement.here next c.in-Statement.there step c.loop-at.invariant.whole)

pub loop-at-preserved : goal.loop-at-preserved
loop-at-preserved g c =
    let verdict = g.V.Verdicts.verdict c.args.verdicts.now in
    let source = c.args.source.now in
    let at = c.loop-at.at in
    let next = c.in-Statement.next in
    let tokens = c.counted_next_statement.new.tokens.items in
    let read = take c.in-Statement.count tokens in
    let step = (subst (StandsNext source at tokens) c.in-Statement.is c.in_ok-here.ensures.stands).1 in
    let spells = map spelled (take c.in-Statement.count c.as_slice.result.now) in
    let Passes : Option (Result Bool MacroCause) → Type 0 = λ stop. PassesOne verdict c.loop-at.self c.pass.new.self spells stop in
    let passes = subst Passes c.in-None.is c.in_ok-verdict-in-Statement.ensures.passes in
    let head = next_left c.args.place source at read c.in-Statement.here next c.in-Statement.there step in
    let these : map spelled read ≡ spells = ap (λ all. map spelled (take c.in-Statement.count all)) (sym c.as_slice.ensures.value) in
    let looked = subst (λ found. c.counted_next_statement.new.steps ≤ c.loop-at.steps + 2 * bytes_passed source at found + 1) c.in-Statement.is c.in_ok-here.ensures.passed in
    record {
      passed = passed_on verdict c.args.place source c.args.from c.args.self.now at next c.loop-at.self c.pass.new.self (read_at (pos_in c.args.place c.in-Statement.here) read) c.loop-at.invariant.passed head (passes _ these);
      line = step.there;
      within = step.within;
      whole = whole_next source at read c.in-Statement.here next c.in-Statement.there step c.loop-at.invariant.whole;
      few = omega (arith, step.more);
      behind = omega (arith, step.more);
      looks = omega (arith, step.more, looked);
      block = c.in_ok-verdict-in-Statement.ensures.block ∙ c.loop-at.invariant.block;
    }

pub returns-in-End-clause-seeks : goal.returns-in-End-clause-seeks
returns-in-End-clause-seeks g c =
    let source = c.args.source.now in
    let at = c.loop-at.at in
    let step = subst (StandsNext source at c.counted_next_statement.new.tokens.items) c.in-End.is c.in_ok-here.ensures.stands in
    passed_all (g.V.Verdicts.verdict c.args.verdicts.now) c.args.place source c.args.from c.args.self.now at c.loop-at.self c.loop-at.invariant.passed (end_left c.args.place source at step)

pub returns-in-Some-clause-sought : goal.returns-in-Some-clause-sought
returns-in-Some-clause-sought g c =
    let source = c.args.source.now in
    let at = c.loop-at.at in
    let step = (subst (StandsNext source at c.counted_next_statement.new.tokens.items) c.in-Statement.is c.in_ok-here.ensures.stands).1 in
    let looked = subst (λ found. c.counted_next_statement.new.steps ≤ c.loop-at.steps + 2 * bytes_passed source at found + 1) c.in-Statement.is c.in_ok-here.ensures.passed in
    omega (arith, step.more, looked)

pub returns-in-End-clause-sought : goal.returns-in-End-clause-sought
returns-in-End-clause-sought g c =
    omega (arith, c.in_ok-here.ensures.looks)
