-- The operands that a walk over them still has.
use Rattle.std.specs.Prelude.{List, [], map, Result}
use Rattle.std.specs.List.{slice_split}
use Rattle.std.specs.Option.{option_map_or}
use Rattle.asm_base.specs.Tokens.{SpelledToken, spelled}
use Rattle.asm_base.specs.declared.refusals.Refusal.{Refusal}
use Rattle.asm_operands.specs.declared.place_faults.PlaceCause.{PlaceCause}
use Rattle.asm_base.specs.Refusals.{GivesBy}
use Rattle.asm_operands.specs.Operands.{is_comma}
use Rattle.asm_operands.specs.declared.directive_operands.Operands.{Operands}

-- the operands that are not handed out
abbrev pub operands_left : Operands → List (List SpelledToken)
operands_left operands = option_map_or (λ tokens. slice_split is_comma (map spelled tokens.now)) operands.left []

-- the call answered what the reading makes of the operands, and left those behind
abbrev pub Takes : {A T : Type 0} → (T → A) → (List (List SpelledToken) → Result (A × List (List SpelledToken)) PlaceCause) → Operands → Operands → Result T (Refusal PlaceCause) → Type 0
Takes view reading old new result = GivesBy (λ value. (view value, operands_left new)) result (reading (operands_left old))
