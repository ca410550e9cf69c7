-- The units so far stand in front.
use Rattle.std.proofs.Common.{◌≡◌, ◌<◌, ◌≤◌, ◌-◌, ◌*◌, length, take}
use Rattle.item_contents.specs.Contents.{repeated}
use Rattle.elf_file.proofs.file_pieces.double_units.Given as goal

abbrev pub invariant-units : goal.invariant-units
invariant-units l = record {
  some : 0 < l.done;
  few : l.done ≤ l.count;
  kept : length l.block ≡ length l.fn.block;
  units : take (l.done * length l.unit) l.block ≡ repeated l.done l.unit;
}

abbrev pub decreases-units : goal.decreases-units
decreases-units l = l.count - l.done
