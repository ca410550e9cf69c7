use Rattle.std.proofs.Common.{◌≡◌, ◌==◌, ◌||◌, true, false, get_or, ap, ◌∙◌, arith, below_more}
use Rattle.std.proofs.lemmas.Bool.Decides.{nat_tests}
use Rattle.stack_facts.proofs.set_passing.entries_alone.Goals as goal

pub loop-k-preserved : goal.loop-k-preserved
loop-k-preserved c =
    let i = c.loop-k.invariant in
    let e = c.in_ok-put.ensures in
    let t = c.loop-k-test.true in
    record {
      long = e.long ∙ i.long;
      low = below_more _ _
          (λ k h. let other : (k == c.loop-k.k) ≡ false = grind (arith, nat_tests) in e.each k ∙ ap (λ b. b || get_or c.loop-k.out k false) other ∙ i.low k h)
          (let own : (c.loop-k.k == c.loop-k.k) ≡ true = grind (arith, nat_tests) in e.each c.loop-k.k ∙ ap (λ b. b || get_or c.loop-k.out c.loop-k.k false) own);
      high = λ k h. let other : (k == c.loop-k.k) ≡ false = grind (arith, nat_tests) in e.each k ∙ ap (λ b. b || get_or c.loop-k.out k false) other ∙ i.high k h;
    }
