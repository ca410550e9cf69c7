use Rattle.std.proofs.Common.{◌≡◌, ◌+◌, ℕ, length, refl, subst, ◌∙◌, arith}
use Rattle.stack_facts.specs.Ranks.{lies_between, is_between, is_up_to}
use Rattle.stack_facts.specs.Passing.{IsDropped}
use Rattle.stack_facts.proofs.RangeLemmas.{drops_no_slot, drops_same, drops_both, up_to_begins, up_to_more, up_to_ends}
use Rattle.stack_facts.proofs.set_passing.clear_all_between.Goals as goal

pub loop-register-init : goal.loop-register-init
loop-register-init c =
    let slots = c.args.slots.now in
    let test = lies_between c.args.from c.args.to slots in
    record {
      long = refl;
      dropped = drops_no_slot c.args.out.now (is_up_to test slots 1) (length slots) (λ k h. up_to_begins test slots k c.requires h);
    }

pub loop-register-preserved : goal.loop-register-preserved
loop-register-preserved c =
    let i = c.loop-register.invariant in
    let e = c.in_ok-clear_between.ensures in
    let slots = c.args.slots.now in
    let test = lies_between c.args.from c.args.to slots in
    let r = c.loop-register.register in
    record {
      long = e.long ∙ i.long;
      dropped = drops_both c.args.out.now c.loop-register.out c.clear_between.new.out (is_up_to test slots r) (is_between r c.args.from c.args.to slots) (is_up_to test slots (r + 1)) (length slots)
          (λ k h. up_to_more c.args.from c.args.to slots r k) i.dropped e.dropped;
    }

pub returns-clause-dropped : goal.returns-clause-dropped
returns-clause-dropped c =
    let slots = c.args.slots.now in
    let test = lies_between c.args.from c.args.to slots in
    let end = c.loop-register.auto.register-end in
    let past = c.loop-register-test.false in
    let all : c.loop-register.register ≡ 7 = omega arith in
    let P : ℕ → Type 0 = λ r. IsDropped c.args.out.now c.loop-register.out (is_up_to test slots r) (length slots) in
    drops_same c.args.out.now c.loop-register.out (is_up_to test slots 7) test (length slots) (λ k h. up_to_ends test slots k c.requires h) (subst P all c.loop-register.invariant.dropped)
