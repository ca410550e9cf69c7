-- Statements that are direct jumps, and where their items go.
use Rattle.std.specs.Prelude.{◌≡◌, ℕ, ◌+◌, ◌≤◌, ◌%◌, ◌^◌, true, List, All, Option, Some, Ok, length, take, slice_get, slice_set}
use Rattle.std.specs.Option.{option_map_or}
use Rattle.asm_base.specs.Tokens.{SpelledToken}
use Rattle.asm_base.specs.declared.positions.Pos.{Pos}
use Rattle.asm_expr.specs.Forms.{Form}
use Rattle.asm_frags.specs.declared.fields.Field.{Field}
use Rattle.asm_frags.specs.declared.fields.FieldSize.TheVariants.{Four}
use Rattle.asm_frags.specs.Writing.{LooseSection, new_item, item_behind, with_growing}
use Rattle.item_bytes.specs.declared.jumps.Condition.{Condition}
use Rattle.item_contents.specs.declared.contents.Content.TheVariants.{Growing}
use Rattle.item_contents.specs.declared.kinds.Growth.TheVariants.{Jump}
use Rattle.x86_insn.specs.declared.amounts.FieldKind.TheVariants.{Branch}
use Rattle.x86_insn.specs.Views.{View, absent, target}
use Rattle.asm_values.specs.State.{Placed}
use Rattle.att_insns.specs.InsnTexts.{InsnText}
use Rattle.asm_place.specs.declared.codes.InsnForms.{InsnForms}
use Rattle.asm_place.specs.Coding.{forms_of, from_own_place}
use Rattle.asm_place.specs.CodePlaces.{labelled, known_in}
use Rattle.asm_place.specs.Instructions.{next_offset}

-- the forms of the values of a jump, behind the labels in front of it
pub record IsJump (pos : Pos) (tokens : List SpelledToken) (text : InsnText) (before : Placed) : Type 0 where
  pub labels : Placed
  pub labels_are : labelled pos tokens before ≡ Ok labels
  pub forms : InsnForms
  pub forms_are : forms_of (known_in pos text labels) text.immediate.tree text.displacement.tree ≡ Ok forms

-- what the field of a jump holds: its target, less the place of the field
abbrev pub jump_form : InsnForms → Form
jump_form forms = from_own_place forms.displacement

-- an item that grows with the distance to the target of the jump is put last in the current section; all else in the sections is as it was
pub record IsJumpPut (pos : Pos) (tokens : List SpelledToken) (text : InsnText) (condition : Option Condition) (before placed : Placed) : Type 0 where
  pub jump : IsJump pos tokens text before
  pub section : LooseSection
  pub there : slice_get before.sections before.current ≡ Some section
  pub put : placed.sections ≡ slice_set before.sections before.current
      (with_growing pos before.current (Jump condition) text.displacement.suffix (jump_form jump.forms) section)

-- how many items stand in the section that statements put into
abbrev pub items_so_far : Placed → ℕ
items_so_far placed = option_map_or (λ section. length section.items) (slice_get placed.sections placed.current) 0

-- the field of this form that a jump has which is put where these statements end: its place is the end of the item
abbrev pub jump_field : Pos → InsnText → Form → Placed → Field
jump_field pos text form placed = record {
  pos = pos;
  item = items_so_far placed + 1;
  offset = next_offset placed;
  section = placed.current;
  size = Four;
  role = record { kind = Branch; suffix = text.displacement.suffix; behind = 0 };
  in_item = true;
  form = form;
}

-- behind so many items and so many plain bytes of the section of this number the item of a jump stands, with this field
pub record JumpStandsAt (sections : List LooseSection) (number item offset : ℕ) (pos : Pos) (condition : Option Condition) (field : Field) : Type 0 where
  pub section : LooseSection
  pub found : slice_get sections number ≡ Some section
  pub index : ℕ
  pub field_there : slice_get section.fields index ≡ Some field
  pub item_there : slice_get section.items item
      ≡ Some (item_behind offset (new_item pos (Growing (record { kind = Jump condition; field = index }))))
  pub within : offset ≤ length section.bytes
  pub before : All (λ earlier. earlier.offset ≤ offset) (take item section.items)

-- the statement stands in these sections, where what was placed before it ends, as the item of a jump
pub record JumpStands (sections : List LooseSection) (pos : Pos) (tokens : List SpelledToken) (text : InsnText) (condition : Option Condition) (placed : Placed) : Type 0 where
  pub jump : IsJump pos tokens text placed
  pub stands : JumpStandsAt sections placed.current (items_so_far placed) (next_offset placed) pos condition (jump_field pos text (jump_form jump.forms) placed)

-- the jump that is written, over a distance from the end of its so many bytes; its target is counted from the first of them
abbrev pub jump_written : InsnText → ℕ → ℕ → View
jump_written text bytes distance = record {
  name = text.name;
  size = text.size;
  «prefix» = text.«prefix»;
  first = target (Some ((distance + bytes) % 2 ^ 64));
  second = absent;
  third = absent;
}
