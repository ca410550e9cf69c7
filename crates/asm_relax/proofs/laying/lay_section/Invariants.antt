-- The items so far are laid out.
use Rattle.std.proofs.Common.{◌≡◌, ◌+◌, ◌^◌, ◌<◌, length, drop}
use Rattle.std.specs.Prelude.{slice_index}
use Rattle.asm_frags.specs.Addresses.{changed_at}
use Rattle.asm_relax.proofs.LayingLemmas.{section_part}
use Rattle.asm_relax.proofs.laying.lay_section.Given as goal

abbrev pub invariant-loop-item : goal.invariant-loop-item
invariant-loop-item l = record {
  sections : l.sections ≡ changed_at (section_part (drop l.first l.rows.shifts) l.item) l.fn.sections l.number;
  same : length l.sections ≡ length l.fn.sections;
  shift : l.shift ≡ slice_index l.rows.shifts (l.first + l.item);
  small : l.shift < 2 ^ 62;
}
