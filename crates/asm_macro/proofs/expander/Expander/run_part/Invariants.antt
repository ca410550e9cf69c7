-- Some turns are behind, in which no statement left the head.
use Rattle.std.proofs.Common.{◌≡◌, ℕ, ◌≤◌, ◌+◌, ◌∷◌, vec_len}
use Rattle.macro_blocks.specs.Frames.{copies_left, level_of}
use Rattle.asm_macro.specs.Expansion.{under}
use Rattle.asm_macro.specs.OpenParts.{AreFew}
use Rattle.asm_macro.specs.Placing.{goes, steps}
use Rattle.asm_macro.specs.Expanding.{Comes}
use Rattle.asm_macro.specs.Readings.{HasRead, input_by}
use Rattle.asm_macro.specs.Turning.{state_of}
use Rattle.asm_macro.proofs.expander.Expander.run_part.Given as goal

abbrev pub invariant-copies : goal.invariant-copies
invariant-copies g l = record {
  done : (n : ℕ) × Comes (steps g.P.Placer.placed g.P.KnowingPlacer.told (g.I.Inputs.contents l.fn.ins) n (under (level_of l.fn.frame) (state_of l.fn.self)) l.fn.placer) (goes (under (level_of l.frame) (state_of l.self)) l.placer);
  read : HasRead l.fn.self.files l.self.files (input_by g.I.Inputs.contents g.I.Inputs.rest g.I.Inputs.faults g.I.Inputs.missing g.I.Inputs.taken g.I.Inputs.history l.fn.ins) (input_by g.I.Inputs.contents g.I.Inputs.rest g.I.Inputs.faults g.I.Inputs.missing g.I.Inputs.taken g.I.Inputs.history l.ins);
  given : l.self.given ≡ l.fn.self.given;
  turns : l.steps + l.fn.self.given ≤ l.fn.steps + l.self.given;
  parts : vec_len l.self.frames ≤ vec_len l.fn.self.frames;
  shallow : AreFew (level_of l.fn.frame ∷ (state_of l.fn.self).levels) → AreFew (level_of l.frame ∷ (state_of l.self).levels);
}

abbrev pub decreases-copies : goal.decreases-copies
decreases-copies g l = copies_left l.frame
