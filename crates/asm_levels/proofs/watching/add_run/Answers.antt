-- The row has the entries of the row before it, or its own.
use Rattle.std.proofs.Common.{length, arith}
use Rattle.asm_levels.proofs.RunLemmas.{run_next, run_own}
use Rattle.asm_levels.proofs.watching.add_run.Goals as goal

pub returns-then-has_run-clause-own : goal.returns-then-has_run-clause-own
returns-then-has_run-clause-own c =
    let old = c.args.entries.now in
    let within = c.has_run.ensures c.if-has_run.true in
    let low = within.0 in
    let high = within.1 in
    let inside = c.requires.inside in
    let long = c.requires.many_follows in
    run_next (length c.args.all.rows.now) old.rows.items old.nodes.items old.follows.items c.args.first c.args.last c.args.row (omega arith)
    (λ block one other. c.requires.before block (omega arith) (omega arith))

pub returns-then-has_run-clause-run : goal.returns-then-has_run-clause-run
returns-then-has_run-clause-run c =
    let old = c.args.entries.now in
    let inside = c.requires.inside in
    let long = c.requires.many_follows in
    run_next (length c.args.all.rows.now) old.rows.items old.nodes.items old.follows.items c.args.before.0 c.args.before.1 c.args.row (omega arith) c.requires.before

pub returns-clause-own : goal.returns-clause-own
returns-clause-own c =
    let now = c.add_all.new.entries in
    run_own (length c.args.all.rows.now) now.rows.items now.nodes.items now.follows.items c.args.first c.args.last c.args.row c.in_ok-add_all.ensures.entry

pub returns-clause-run : goal.returns-clause-run
returns-clause-run c =
    let now = c.add_all.new.entries in
    run_own (length c.args.all.rows.now) now.rows.items now.nodes.items now.follows.items c.args.first c.args.last c.args.row c.in_ok-add_all.ensures.entry
