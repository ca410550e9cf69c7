use Rattle.std.proofs.Common.{◌≡◌}
use Rattle.x86_table.specs.Rows.{the_rows}
use Rattle.x86_lookup.specs.Forms.{is_form_of}
use Rattle.x86_lookup.specs.Keys.{the_keys, AreSlotSorts}
use Rattle.x86_lookup.proofs.FormSizes.{SizesBefore}
use Rattle.x86_lookup.proofs.form_sizes.form_size.Given as goal

abbrev pub invariant-loop-i : goal.invariant-loop-i
invariant-loop-i l = record {
  table : l.table ≡ the_rows;
  keys : l.keys ≡ the_keys;
  sorts : AreSlotSorts l.sorts l.fn.insn;
  sizes : SizesBefore l.i (is_form_of l.fn.bits l.fn.name.0 l.fn.insn.first l.fn.insn.second l.fn.insn.third) l.found;
}
