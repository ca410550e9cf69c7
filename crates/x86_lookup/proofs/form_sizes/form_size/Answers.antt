use Rattle.std.proofs.Common.{arith, ◌∙◌}
use Rattle.x86_lookup.proofs.FormSizes.{key_inside, none_before, all_before, taken_next, left_next}
use Rattle.x86_lookup.proofs.form_sizes.form_size.Goals.{then-is_taken, else-is_taken}
use Rattle.x86_lookup.proofs.form_sizes.form_size.Goals as goal

pub loop-i-init : goal.loop-i-init
loop-i-init c = record {
  table = c.rows-table.ensures;
  keys = c.keys-keys.ensures;
  sorts = c.sorts_of-sorts.ensures;
  sizes = none_before c.args.bits c.args.name.0 c.args.insn.now.first c.args.insn.now.second c.args.insn.now.third c.rows_of-range.result c.rows_of-range.ensures.just;
}

pub bounds-keys-i : goal.bounds-keys-i
bounds-keys-i c = key_inside c.rows_of-range.result c.loop-i.i c.keys-keys.result.now c.rows_of-range.ensures.within c.keys-keys.ensures c.loop-i-test.true

pub loop-i-preserved : goal.loop-i-preserved
loop-i-preserved c = record {
  table = c.rows-table.ensures;
  keys = c.keys-keys.ensures;
  sorts = c.sorts_of-sorts.ensures;
  sizes = elim c.if-is_taken.branch [
    | then-is_taken w ↦ taken_next c.args.bits c.args.name.0 c.args.insn.now c.sorts_of-sorts.result c.rows_of-range.result c.loop-i.i c.loop-i.found c.if-is_taken.found
        c.keys-keys.result.now c.rows-table.result.now _ _ c.is_taken.result c.sorts_of-sorts.ensures c.rows_of-range.ensures.within c.rows_of-range.ensures.just
        c.keys-keys.ensures c.rows-table.ensures (omega arith) c.loop-i-test.true c.is_taken.ensures w.if-is_taken.true (w.found-is ∙ w.with_size-found.ensures) c.loop-i.invariant.sizes
    | else-is_taken w ↦ left_next c.args.bits c.args.name.0 c.args.insn.now c.sorts_of-sorts.result c.rows_of-range.result c.loop-i.i c.loop-i.found c.if-is_taken.found
        c.keys-keys.result.now c.rows-table.result.now _ _ c.is_taken.result c.sorts_of-sorts.ensures c.rows_of-range.ensures.within c.rows_of-range.ensures.just
        c.keys-keys.ensures c.rows-table.ensures (omega arith) c.loop-i-test.true c.is_taken.ensures w.if-is_taken.false w.found-is c.loop-i.invariant.sizes
  ];
}

pub returns : goal.returns
returns c = all_before c.args.bits c.args.name.0 c.args.insn.now.first c.args.insn.now.second c.args.insn.now.third c.rows_of-range.result c.loop-i.i c.loop-i.found c.rows_of-range.ensures.just (omega arith) c.loop-i.invariant.sizes
