use Rattle.std.proofs.Common.{◌≡◌, ℕ, length, subst, arith}
use Rattle.stack_facts.specs.Sets.{AreBest}
use Rattle.stack_facts.proofs.BestLemmas.{ends_all}
use Rattle.stack_facts.proofs.finding.each_highest.Goals as goal

pub returns : goal.returns
returns g c = λ r h.
    let slots = c.args.slots.now in
    let bits = g.B.Numbers.list c.args.bits.now in
    let all : c.loop-at.at ≡ length slots = let e = c.loop-at.auto.at-end in let t = c.loop-at-test.false in omega arith in
    let P : ℕ → Type 0 = λ n. AreBest slots bits n c.loop-at.found in
    ends_all slots bits c.loop-at.found (subst P all c.loop-at.invariant.best) r h
