use Rattle.std.proofs.Common.{◌+◌, Option, ℕ, false, get_or, subst}
use Rattle.number_sets.specs.Trees.{IsLast}
use Rattle.stack_facts.proofs.LastLemmas.{last_none, last_some}
use Rattle.stack_facts.proofs.set_finding.greatest_in.Goals as goal

pub returns-in-None : goal.returns-in-None
returns-in-None c =
    let bits = c.args.bits.now in
    let first = c.count_before-first.result in
    let past = c.count_before-past.result in
    let P : Option ℕ → Type 0 = IsLast (λ k. get_or bits k false) (6 + first) (6 + past) in
    last_none c.args.slots.now bits c.args.register first past c.requires c.count_before-first.ensures c.count_before-past.ensures (subst P c.in-None.is c.last.ensures)

pub returns-in-Some : goal.returns-in-Some
returns-in-Some c =
    let bits = c.args.bits.now in
    let first = c.count_before-first.result in
    let past = c.count_before-past.result in
    let P : Option ℕ → Type 0 = IsLast (λ k. get_or bits k false) (6 + first) (6 + past) in
    last_some c.args.slots.now bits c.args.register first past c.in-Some.k c.requires c.count_before-first.ensures c.count_before-past.ensures (subst P c.in-Some.is c.last.ensures)
