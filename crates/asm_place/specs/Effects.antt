-- What instructions do to the stack, by the values that are known where they are placed, and the fills of alignments.
use Rattle.std.specs.Prelude.{◌≡◌, ℕ, Bool, true, false, List, Option, None, Some, Result, Ok, Err}
use Rattle.asm_base.specs.Tokens.{SpelledToken}
use Rattle.asm_base.specs.declared.positions.Pos.{Pos}
use Rattle.asm_expr.specs.Trees.{Tree}
use Rattle.asm_operands.specs.declared.place_faults.PlaceCause.{PlaceCause}
use Rattle.asm_operands.specs.Operands.{operands_of}
use Rattle.asm_values.specs.KnownOperands.{KnownOperands, known_operands}
use Rattle.asm_values.specs.State.{Placed, with_names, known_here}
use Rattle.x86_insn.specs.Amounts.{amount_tree}
use Rattle.x86_insn.specs.declared.amounts.Values.{Values}
use Rattle.x86_insn.specs.Views.{View}
use Rattle.x86_insn.specs.declared.insns.Insn.{Insn}
use Rattle.att_operands.specs.declared.faults.OperandCause.{OperandCause}
use Rattle.att_insns.specs.InsnTexts.{InsnText}
use Rattle.insn_effects.specs.declared.effects.Effect.{Effect}
use Rattle.insn_effects.specs.declared.effects.Role.TheVariants.{Data}
use Rattle.insn_effects.specs.Decoding.{action_of}
use Rattle.insn_effects.specs.Effects.{effect_of}
use Rattle.insn_effects.specs.Flows.{flow_of, is_unsupported}
use Rattle.insn_effects.specs.Followed.{Shows, writing}
use Rattle.asm_place.specs.declared.codes.InsnForms.{InsnForms}
use Rattle.amount_forms.specs.Amounts.{in_text_order}
use Rattle.asm_place.specs.Coding.{InsnShape, shape_in, shape_of, forms_of, view_in, lone_code, insn_by, values_in}

-- WHAT IS SEEN OF AN INSTRUCTION

-- no value is known
abbrev pub no_values : Values
no_values = record { immediate = None; displacement = None }

-- the instruction of these forms, if they could be made
abbrev pub view_formed : InsnShape → Result InsnForms PlaceCause → Option View
view_formed shape (Ok forms) = Some (shape.view (values_in forms))
view_formed shape (Err cause) = None

-- the instruction of these trees, where their names have symbols
abbrev pub view_here : InsnShape → (own moved : Tree) → Placed → Option View
view_here shape own moved named = view_formed shape (forms_of (known_here named) own moved)

-- the same, once their names have symbols
abbrev pub view_named : Pos → InsnShape → (own moved : Tree) → Placed → Option View
view_named pos shape own moved placed = view_here shape own moved (with_names pos (in_text_order placed.syntax own moved) placed)

-- the instruction by the trees of its amounts
abbrev pub view_amounts : Pos → Insn → Placed → Option View
view_amounts pos insn placed = view_named pos (shape_of insn) (amount_tree insn.immediate.amount) (amount_tree insn.displacement.amount) placed

-- the instruction that was read, with the values that are known where it is placed
abbrev pub view_read : Pos → Result InsnText OperandCause → Placed → Option View
view_read pos (Ok text) placed = view_named pos (shape_in text) text.immediate.tree text.displacement.tree placed
view_read pos (Err cause) placed = None

-- a mnemonic that stands alone has no values
abbrev pub view_lone : Result InsnText OperandCause → Option View
view_lone (Ok text) = Some (view_in text no_values)
view_lone (Err cause) = None

-- a mnemonic that stands alone and has a row, or any other instruction
abbrev pub view_coded : Pos → Option (List ℕ) → Result InsnText OperandCause → Placed → Option View
view_coded pos (Some bytes) read placed = view_lone read
view_coded pos None read placed = view_read pos read placed

-- the instruction that the tokens are in the syntax that is in force, with the values that are known where it is placed; none where it could not
-- be read, or its forms not be made
abbrev pub insn_view : Pos → List SpelledToken → Placed → Option View
insn_view pos tokens placed = view_coded pos (lone_code placed.syntax tokens) (insn_by placed.syntax tokens) placed

-- ITS EFFECT

-- the effect is that of the instruction; that of data, where there is none
abbrev pub ShowsInsn : Option View → Effect → Type 0
ShowsInsn (Some view) effect = Shows effect (effect_of (action_of view)) (flow_of view) (is_unsupported view)
ShowsInsn None effect = effect ≡ writing Data 0

-- the same, where it is asked for
abbrev pub ShowsAsked : (asked : Bool) → Option View → Effect → Type 0
ShowsAsked false view effect = Unit {0}
ShowsAsked true view effect = ShowsInsn view effect

-- ALIGNMENTS

-- the second of the operands that are known
abbrev pub fill_in : Result KnownOperands PlaceCause → Option ℕ
fill_in (Ok given) = given.values.second
fill_in (Err cause) = None

-- the fill of an alignment of these operands, as a whole value, if one is said
abbrev pub fill_said : Pos → List SpelledToken → Placed → Option ℕ
fill_said pos tokens placed = fill_in (known_operands pos placed 3 (operands_of tokens))
