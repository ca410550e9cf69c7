use Rattle.std.proofs.Common.{◌∙◌, arith, below_more}
use Rattle.stack_facts.proofs.set_passing.put_each_entry.Goals as goal

pub put_bit-requires : goal.put_bit-requires
put_bit-requires c = let l = c.loop-k.invariant.long in let r = c.requires.room in let e = c.loop-k.auto.k-end in let t = c.loop-k-test.true in omega arith

pub loop-k-preserved : goal.loop-k-preserved
loop-k-preserved c =
    let i = c.loop-k.invariant in
    let e = c.in_ok-put_bit.ensures in
    let t = c.loop-k-test.true in
    record {
      long = e.long ∙ i.long;
      done = below_more _ _
          (λ k h. e.others k (omega arith) ∙ i.done k h)
          (e.here ∙ c.entry_stands-stands.ensures);
      others = λ k h. e.others k (omega arith) ∙ i.others k h;
    }
