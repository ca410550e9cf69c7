-- The next statement is passed, or the end, or a fault.
use Rattle.std.proofs.Common.{◌<◌, ◌≤◌, sym, arith}
use Rattle.asm_lines.specs.StatementTokens.{own_length_at}
use Rattle.asm_lines.proofs.Skipping.{next_end, next_long, next_unclosed, same_faults}
use Rattle.asm_lines.proofs.cursors.pass_next.Goals as goal

pub returns-then-point-source-clause-passes : goal.returns-then-point-source-clause-passes
returns-then-point-source-clause-passes g c = (next_end c.args.source.now c.args.from c.in-Some.point c.in-Some.ensures.skips c.if-point-source.true).faults

pub returns-in_default-pass_statement-clause-passes : goal.returns-in_default-pass_statement-clause-passes
returns-in_default-pass_statement-clause-passes g c = next_unclosed c.args.source.now c.args.from c.in-Some.point c.in-Some.ensures.skips c.in_default-pass_statement.ensures.passes

pub returns-then-passed-gt-LONGEST_STATEMENT-clause-passes : goal.returns-then-passed-gt-LONGEST_STATEMENT-clause-passes
returns-then-passed-gt-LONGEST_STATEMENT-clause-passes g c =
    let own = sym c.in-Some-pass_statement.ensures.passes.own in
    let long : 65536 < own_length_at c.args.source.now c.in-Some.point.at = omega (arith, own) in
    next_long c.args.source.now c.args.from c.in-Some.point c.in-Some.ensures.skips c.if-point-source.false long

pub returns-clause-passes : goal.returns-clause-passes
returns-clause-passes g c =
    let known = c.in-Some-pass_statement.ensures.passes in
    let reached = c.in-Some.ensures.skips in
    let own = sym known.own in
    let fits : own_length_at c.args.source.now c.in-Some.point.at ≤ 65536 = omega (arith, own) in
    record {
      faults = same_faults c.args.source.now c.args.from c.in-Some.point c.in-Some-pass_statement.passed.next reached c.if-point-source.false known.later known.closed fits;
      line = known.line;
      within = known.within;
      more = omega (arith, known.more, reached.skipped.later);
    }
