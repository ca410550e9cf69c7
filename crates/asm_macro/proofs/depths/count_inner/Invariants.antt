-- Those that were passed are counted.
use Rattle.std.proofs.Common.{◌≡◌, ◌≤◌, take}
use Rattle.std.specs.List.{count_by}
use Rattle.macro_blocks.specs.Frames.{level_of}
use Rattle.asm_macro.specs.Expansion.{is_inner_part}
use Rattle.asm_macro.proofs.depths.count_inner.Given as goal

abbrev pub invariant-loop-part : goal.invariant-loop-part
invariant-loop-part l = record {
  counted : l.count ≡ count_by (λ frame. is_inner_part (level_of frame)) (take l.part-index l.parts);
  few : l.count ≤ l.part-index;
}
