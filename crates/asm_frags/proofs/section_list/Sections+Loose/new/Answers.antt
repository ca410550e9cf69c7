-- At first there is no name and no section.
use Rattle.std.proofs.Common.{◌<◌, arith}
use Rattle.asm_frags.specs.Groups.{counted, groups_of}
use Rattle.asm_frags.proofs.NamedLemmas.{none_named}
use Rattle.asm_frags.proofs.section_list.Sections+Loose.new.Goals as goal

pub invariant_of-sections : goal.invariant_of-sections
invariant_of-sections c = none_named _ _ _ c.new-4.result.items c.new.ensures.empty c.new-2.ensures.empty c.new-3.ensures.empty c.new-4.ensures.items

pub begin-requires-clause-few : goal.begin-requires-clause-few
unfolding groups_of
begin-requires-clause-few c = rw c.new-4.ensures.items (omega arith)

pub begin-requires-2-clause-few : goal.begin-requires-2-clause-few
unfolding groups_of
begin-requires-2-clause-few c =
    let none : counted c.new-4.result.items < 1 = rw c.new-4.ensures.items (omega arith) in
    let one = c.in_ok-begin.ensures.count in
    omega (arith, none, one)

pub begin-requires-3-clause-few : goal.begin-requires-3-clause-few
unfolding groups_of
begin-requires-3-clause-few c =
    let none : counted c.new-4.result.items < 1 = rw c.new-4.ensures.items (omega arith) in
    let one = c.in_ok-begin.ensures.count in
    let two = c.in_ok-begin-2.ensures.count in
    omega (arith, none, one, two)
