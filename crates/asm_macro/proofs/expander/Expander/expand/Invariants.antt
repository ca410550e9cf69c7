-- Some turns are behind.
use Rattle.std.proofs.Common.{ℕ, ◌≤◌, ◌+◌, ◌-◌, ◌*◌, vec_len}
use Rattle.asm_macro.specs.Expansion.{most_given}
use Rattle.asm_macro.specs.Placing.{goes, steps}
use Rattle.asm_macro.specs.Expanding.{Comes}
use Rattle.asm_macro.specs.Readings.{HasRead, input_by}
use Rattle.asm_macro.specs.Turning.{state_of}
use Rattle.asm_macro.proofs.expander.Expander.expand.Given as goal

abbrev pub invariant-parts : goal.invariant-parts
invariant-parts g l = record {
  done : (n : ℕ) × Comes (steps g.P.Placer.placed g.P.KnowingPlacer.told (g.I.Inputs.contents l.fn.ins) n (state_of l.fn.self) l.fn.placer) (goes (state_of l.self) l.placer);
  turns : l.steps + vec_len l.self.frames + 2 * l.fn.self.given ≤ l.fn.steps + vec_len l.fn.self.frames + 2 * l.self.given;
  read : HasRead l.fn.self.files l.self.files (input_by g.I.Inputs.contents g.I.Inputs.rest g.I.Inputs.faults g.I.Inputs.missing g.I.Inputs.taken g.I.Inputs.history l.fn.ins) (input_by g.I.Inputs.contents g.I.Inputs.rest g.I.Inputs.faults g.I.Inputs.missing g.I.Inputs.taken g.I.Inputs.history l.ins);
}

abbrev pub decreases-parts : goal.decreases-parts
decreases-parts g l = 2 * (most_given - l.self.given) + vec_len l.self.frames
