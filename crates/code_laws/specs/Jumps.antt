-- Statements that put items from which control goes by a direct jump.
use Rattle.std.specs.Prelude.{◌≡◌, ℕ, Bool, false, Some, Ok}
use Rattle.asm_lines.specs.NextStatements.{TokenStatement}
use Rattle.x86_insn.specs.Views.{View}
use Rattle.insn_effects.specs.Decoding.{action_of}
use Rattle.insn_effects.specs.Effects.{effect_of}
use Rattle.insn_effects.specs.Flows.{jumps, flow_of, is_unsupported}
use Rattle.insn_effects.specs.Followed.{flow_by, Shows}
use Rattle.asm_operands.specs.Operands.{begins_with_label}
use Rattle.asm_values.specs.State.{Placed}
use Rattle.att_insns.specs.InsnTexts.{InsnText}
use Rattle.asm_place.specs.Bodies.{body_of}
use Rattle.asm_place.specs.CodePlaces.{insn_written}
use Rattle.asm_place.specs.Effects.{insn_view}
use Rattle.asm_place.specs.Sources.{pos_at, place}
use Rattle.code_functions.specs.declared.items.CodeItem.{CodeItem}
use Rattle.code_functions.specs.Seen.{seen, target_field}
use Rattle.asm_functions.specs.Following.{fields_in}
use Rattle.asm_functions.specs.Joined.{body_put}

-- the statement is an instruction with operands in the section of this number; the item shows what
-- is seen of it, and its field is the first one that the statement puts there
pub record IsJumpWritten (s : TokenStatement) (before placed : Placed) (number : ℕ)
    (item : CodeItem) : Type 0 where
  pub current : before.current ≡ number
  pub text : InsnText
  pub written : insn_written before.syntax s.tokens ≡ Some text
  pub insn : View
  pub view : insn_view (pos_at s.file s.line) s.tokens before ≡ Some insn
  pub shows : Shows item.effect (effect_of (action_of insn)) (flow_of insn) (is_unsupported insn)
  pub field : item.field ≡ target_field (flow_of insn) (fields_in before.sections before.current)
      (fields_in placed.sections before.current)

-- so is each statement without labels that puts an item from which control goes by a direct jump
abbrev pub JumpsAreWritten : Type 0
JumpsAreWritten = (s : TokenStatement) (before placed : Placed) (number : ℕ) (item : CodeItem)
    (falls : Bool) → begins_with_label s.tokens ≡ false → place s before ≡ Ok placed
    → body_put (body_of s.tokens) (pos_at s.file s.line) s.tokens before placed
    ≡ Some (record { section = number; item = seen item })
    → flow_by item.effect.role ≡ jumps falls → IsJumpWritten s before placed number item
