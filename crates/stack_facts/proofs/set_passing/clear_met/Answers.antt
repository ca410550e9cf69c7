use Rattle.std.proofs.Common.{◌-◌, length, arith}
use Rattle.std.proofs.lemmas.Result.{IfOk-weaker}
use Rattle.stack_facts.specs.Passing.{is_met}
use Rattle.stack_facts.specs.Sets.{slot_at}
use Rattle.stack_facts.specs.Ranks.{lies_between}
use Rattle.stack_facts.proofs.RangeLemmas.{drops_no_slot, drops_same, met_none, met_is}
use Rattle.stack_facts.proofs.set_passing.clear_met.Goals as goal

pub returns-then-span-clause-dropped : goal.returns-then-span-clause-dropped
returns-then-span-clause-dropped c =
    let slots = c.args.slots.now in
    let span = c.args.span in
    drops_no_slot c.args.out.now (is_met span slots) (length slots) (λ k h. met_none span.start span.size (slot_at slots k).distance c.if-span.true (omega arith) (c.requires.may k h).1)

pub returns-clause-dropped : goal.returns-clause-dropped
returns-clause-dropped c =
    let slots = c.args.slots.now in
    let span = c.args.span in
    IfOk-weaker c.clear_all_between.result _ _
    (λ _ d. drops_same c.args.out.now c.clear_all_between.new.out (lies_between (span.start - 7) c.end_of.result slots) (is_met span slots) (length slots) (λ k h. met_is slots span c.end_of.result k c.requires c.if-span.false (omega arith) (omega arith) c.end_of.ensures h) d)
    c.clear_all_between.ensures.dropped
