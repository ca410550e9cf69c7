-- What stands behind the innermost call is what it was.
use Rattle.std.proofs.Common.{◌≡◌, ◌≤◌, vec_len}
use Rattle.asm_macro.specs.Expansion.{after_call}
use Rattle.asm_macro.specs.OpenParts.{AreFew, levels_of}
use Rattle.asm_macro.proofs.definitions.leave_call.Given as goal

abbrev pub invariant-parts : goal.invariant-parts
invariant-parts l = record {
  after : after_call (levels_of l.frames.items) ≡ after_call (levels_of l.fn.frames.items);
  few : vec_len l.frames ≤ vec_len l.fn.frames;
  shallow : AreFew (levels_of l.fn.frames.items) → AreFew (levels_of l.frames.items);
}

abbrev pub decreases-parts : goal.decreases-parts
decreases-parts l = vec_len l.frames
