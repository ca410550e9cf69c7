use Rattle.stack_facts.proofs.PassLemmas.{puts_there, puts_none}
use Rattle.stack_facts.proofs.RankLemmas.{ranked_plain}
use Rattle.stack_facts.proofs.set_passing.put_slot.Goals as goal

pub returns-then-at-slots-clause-put : goal.returns-then-at-slots-clause-put
returns-then-at-slots-clause-put c =
    let e = c.in_ok-put_bit.ensures in
    puts_there c.args.slots.now c.args.slot c.args.bit c.args.out.now c.put_bit.new.out c.place_in-at.result (ranked_plain c.args.slots.now c.requires.ranked) c.place_in-at.ensures c.if-at-slots.true e.here e.others

pub returns-clause-put : goal.returns-clause-put
returns-clause-put c = puts_none c.args.slots.now c.args.slot c.args.bit c.args.out.now c.place_in-at.result (ranked_plain c.args.slots.now c.requires.ranked) c.place_in-at.ensures c.if-at-slots.false
