-- The statements that were taken off are placed.
use Rattle.std.proofs.Common.{◌≡◌, ℕ, ◌≤◌, ◌+◌, ◌-◌, ◌∷◌, vec_len}
use Rattle.macro_blocks.specs.Frames.{copies_left, level_of, text_in}
use Rattle.asm_macro.specs.Expansion.{under, most_given}
use Rattle.asm_macro.specs.OpenParts.{AreFew}
use Rattle.asm_macro.specs.Placing.{goes, steps}
use Rattle.asm_macro.specs.Turning.{state_of}
use Rattle.asm_macro.proofs.expander.Expander.run_text.Given as goal

abbrev pub invariant-statements : goal.invariant-statements
invariant-statements g l = record {
  done : (n : ℕ) × (steps g.P.Placer.placed g.P.KnowingPlacer.told (g.I.Inputs.contents l.fn.ins) n (under (level_of l.fn.frame) (state_of l.fn.self)) l.fn.placer ≡ goes (under (level_of l.frame) (state_of l.self)) l.placer);
  text : l.source ≡ text_in l.frame;
  copies : copies_left l.frame ≡ copies_left l.fn.frame;
  files : l.self.files ≡ l.fn.self.files;
  given : l.fn.self.given ≤ l.self.given;
  turns : l.steps + l.fn.self.given ≤ l.fn.steps + l.self.given;
  ins : l.ins ≡ l.fn.ins;
  parts : vec_len l.self.frames ≤ vec_len l.fn.self.frames;
  shallow : AreFew (level_of l.fn.frame ∷ (state_of l.fn.self).levels) → AreFew (level_of l.frame ∷ (state_of l.self).levels);
}

abbrev pub decreases-statements : goal.decreases-statements
decreases-statements g l = most_given - l.self.given
