-- The open parts of the program as the parts of the list that they stand for, and how many there may be.
use Rattle.std.specs.Prelude.{◌≤◌, List, ◌∷◌, map, reverse, count_by, Option, None, Some}
use Rattle.macro_blocks.specs.declared.frames.Frame.{Frame}
use Rattle.macro_blocks.specs.Frames.{level_of}
use Rattle.macro_blocks.specs.Levels.{Level}
use Rattle.asm_macro.specs.Expansion.{is_file_part, is_inner_part}

-- the parts that these open ones stand for, the innermost of which is the last
abbrev pub levels_of : List Frame → List Level
levels_of frames = reverse (map level_of frames)

-- at most 32 of these parts are files, and at most 64 calls and repeats
pub record AreFew (levels : List Level) : Type 0 where
  pub files : count_by is_file_part levels ≤ 32
  pub inner : count_by is_inner_part levels ≤ 64

-- few parts were open with the one that was taken away
abbrev pub WereFew : Option Frame → List Level → Type 0
WereFew None below = Unit {0}
WereFew (Some frame) below = AreFew (level_of frame ∷ below)
