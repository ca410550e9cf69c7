use Rattle.std.proofs.Common.{◌≡◌, slice_get, sym, ap, ◌∙◌, arith}
use Rattle.std.proofs.lemmas.Option.{slice_get-get_or}
use Rattle.stack_facts.specs.Facts.{saved_over}
use Rattle.stack_depths.specs.States.{distances_in}
use Rattle.stack_facts.proofs.GatherLemmas.{all_saved, few_saved}
use Rattle.stack_facts.proofs.gathering.gather_few.Goals as goal

pub loop-item-preserved : goal.loop-item-preserved
loop-item-preserved c =
    let i = c.loop-item.invariant in
    let a = c.in_ok-add_found.ensures in
    let known = distances_in c.args.depths.now in
    let is : saved_over (slice_get c.args.items.now c.loop-item.item) (known c.loop-item.item) ≡ c.saved_by-found.result = ap (λ o. saved_over o (known c.loop-item.item)) (slice_get-get_or c.args.items.now c.loop-item.item _ c.loop-item-test.true) ∙ sym c.saved_by-found.ensures in
    record {
      plain = a.plain;
      short = let t = c.if-len-ge58.false in let l = c.len.ensures in let k = c.add_found.new.slots.ok.0 in omega arith;
      all = all_saved c.args.items.now known c.loop-item.item c.saved_by-found.result c.loop-item.slots.items c.add_found.new.slots.items is i.all a;
      few = few_saved c.args.items.now known c.loop-item.item c.saved_by-found.result c.loop-item.slots.items c.add_found.new.slots.items is i.few a;
    }
