-- The bytes so far, and those from here on, are all.
use Rattle.std.proofs.Common.{◌≡◌, ◌≤◌, ◌++◌, length, drop}
use Rattle.elf_object.specs.Contents.{item_bytes, interleaved}
use Rattle.elf_object.proofs.contents.interleaved.Given as goal

abbrev pub invariant-loop-item : goal.invariant-loop-item
invariant-loop-item l = record {
  within : l.upto ≤ length l.bytes.items;
  left : l.mixing ++ interleaved (item_bytes l.at.symbols.now l.at.sections.now l.section) l.bytes.items l.upto (drop l.item-index l.items)
      ≡ interleaved (item_bytes l.at.symbols.now l.at.sections.now l.section) l.bytes.items 0 l.section.items;
}
