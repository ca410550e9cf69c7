use Rattle.std.proofs.Common.{refl, sym, subst, arith}
use Rattle.std.specs.List.Sorted.{IsNonDecreasingBy}
use Rattle.stack_facts.specs.Ranks.{rank_of, HasAll}
use Rattle.stack_facts.proofs.RankLemmas.{behind_rest, all_put, put_all}
use Rattle.stack_facts.proofs.ranking.ranked.Goals as goal

pub loop-slot-preserved : goal.loop-slot-preserved
loop-slot-preserved c =
    let i = c.loop-slot.invariant in
    let e = c.in_ok-put_ranked.ensures in
    let found = c.deref-slot-items.result.now in
    let at = c.loop-slot.slot-index in
    let sorted : IsNonDecreasingBy rank_of found = subst (IsNonDecreasingBy rank_of) (sym c.deref-slot-items.ensures.value) c.sort_slots.ensures.sorted in
    record {
      ranked = e.ranked;
      behind = behind_rest found c.put_ranked.new.slots.items _ at sorted c.loop-slot-test.true refl e.behind;
      all = all_put found c.loop-slot.slots.items c.put_ranked.new.slots.items _ at refl e.added i.all;
      few = let f = e.added.few in let g = i.few in omega arith;
    }

pub returns-clause-all : goal.returns-clause-all
returns-clause-all c = λ n r h.
    let found = c.deref-slot-items.result.now in
    let i = c.loop-slot.invariant in
    let past = c.loop-slot-test.false in
    let sorted : HasAll c.args.found.items found = subst (HasAll c.args.found.items) (sym c.deref-slot-items.ensures.value) c.sort_slots.ensures.all in
    put_all found c.loop-slot.slots.items (λ m l. i.all m (omega arith)) n r (sorted n r h)
