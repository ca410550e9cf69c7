use Rattle.std.proofs.Common.{◌≡◌}
use Rattle.x86_insn.specs.Views.{view_of}
use Rattle.x86_table.specs.Rows.{the_rows}
use Rattle.x86_parts.specs.Codes.{named}
use Rattle.x86_lookup.specs.Keys.{the_keys}
use Rattle.x86_parts.specs.Keys.{AreSorts, Sofar}
use Rattle.x86_encode.proofs.searching.shortest.Given as goal

abbrev pub invariant-loop-i : goal.invariant-loop-i
invariant-loop-i l = record {
  table : l.table ≡ the_rows;
  keys : l.keys ≡ the_keys;
  sorts : AreSorts l.sorts (view_of l.fn.insn l.fn.values);
  sofar : Sofar l.i (named l.fn.name (view_of l.fn.insn l.fn.values)) l.found;
}
