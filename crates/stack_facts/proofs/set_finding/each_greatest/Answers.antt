use Rattle.std.proofs.Common.{ℕ, Option, None, get_or-set_same, get_or-set_other, length-set, sym, subst, ◌∙◌, arith, below_more}
use Rattle.stack_facts.specs.Facts.{IsSlotOf}
use Rattle.stack_facts.specs.Sets.{holds_in}
use Rattle.stack_facts.proofs.set_finding.each_greatest.Goals as goal

pub loop-register-preserved : goal.loop-register-preserved
loop-register-preserved c =
    let i = c.loop-register.invariant in
    let found = c.loop-register.found in
    let register = c.loop-register.register in
    let t = c.loop-register-test.true in
    let l = i.long in
    let P : ℕ → Option ℕ → Type 0 = IsSlotOf (holds_in c.args.slots.now c.args.bits.now) in
    record {
      long = length-set found register c.greatest_in.result ∙ l;
      done = below_more _ _
          (λ r h. subst (P r) (sym (get_or-set_other found register r c.greatest_in.result None (omega arith))) (i.done r h))
          (subst (P register) (sym (get_or-set_same found register c.greatest_in.result None (omega arith))) c.greatest_in.ensures);
    }
