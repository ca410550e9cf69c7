-- Where the statement after a statement is in its section, in the layout of all statements.
use Rattle.std.specs.Prelude.{◌≡◌, ◌≢◌, ◌≤◌, ℕ, ◌+◌, ◌^◌, List, Option, None, Some, Ok, length, slice_get}
use Rattle.asm_base.specs.Tokens.{SpelledToken}
use Rattle.asm_base.specs.declared.positions.Pos.{Pos}
use Rattle.asm_lines.specs.NextStatements.{TokenStatement}
use Rattle.asm_symbols.specs.SymbolMap.{SymbolMap}
use Rattle.asm_frags.specs.SectionOf.{SectionOf}
use Rattle.asm_frags.specs.Writing.{LooseSection}
use Rattle.item_bytes.specs.declared.jumps.Condition.{Condition}
use Rattle.asm_relax.specs.RangeChecks.{whole_size}
use Rattle.asm_relax.specs.Settling.{LaidItem, LooseSections, LaidSections, layout_of}
use Rattle.asm_uses.specs.Places.{spot_at}
use Rattle.asm_values.specs.State.{Placed}
use Rattle.att_insns.specs.InsnTexts.{InsnText}
use Rattle.x86_lookup.specs.BareInstructions.{Coded}
use Rattle.asm_place.specs.Placing.{place_tokens}
use Rattle.asm_place.specs.Sources.{place_all}
use Rattle.asm_place.specs.Instructions.{behind_labels, instruction_written, Grows, IsContinued}
use Rattle.asm_place.specs.CodePlaces.{insn_written, jump_in, IsInsnPut}
use Rattle.asm_place.specs.JumpPlaces.{IsJumpPut, items_so_far}
use Rattle.place_laws.specs.Ends.{items_in, place_in, size_at, sizes_from}

-- the layout is one of later sections, which have grown from these
pub record IsLaidLater (sections : List LooseSection) (laid : LaidSections) : Type 0 where
  pub symbols : SymbolMap
  pub later : LooseSections
  pub grows : Grows sections later
  pub is : layout_of symbols later ≡ Ok laid

-- a step moves the place of what is put next into the section of this number by so many bytes
abbrev pub MovesPlace : LaidSections → ℕ → (before after : List LooseSection) → ℕ → Type 0
MovesPlace laid number before after size =
    place_in laid number after ≡ place_in laid number before + size

-- it moves that, and no such place of another section
pub record MovesOnly (laid : LaidSections) (number : ℕ) (before after : List LooseSection)
    (size : ℕ) : Type 0 where
  pub moves : MovesPlace laid number before after size
  pub others : (other : ℕ) → other ≢ number → place_in laid other after ≡ place_in laid other before

-- how many bytes of the layout were put into a section: its plain bytes, and its items more with
-- their sizes there
abbrev pub added : {section : LooseSection} {later : Option LooseSection} → LaidSections → ℕ
    → IsContinued section later → ℕ
added {section} laid number more =
    length more.bytes
    + sizes_from (length section.items) (length more.items) (items_in laid number)

-- the instruction is put, and moves the place in the current section alone, by its bytes
pub record InsnMoves (laid : LaidSections) (pos : Pos) (tokens : List SpelledToken)
    (text : InsnText) (before placed : Placed) : Type 0 where
  pub put : IsInsnPut pos tokens text before placed
  pub moves : MovesOnly laid before.current before.sections placed.sections
      (length put.coded.made.bytes)

-- the direct jump is put, and moves the place in the current section alone, by the size of its item
pub record JumpMoves (laid : LaidSections) (pos : Pos) (tokens : List SpelledToken)
    (text : InsnText) (condition : Option Condition) (before placed : Placed) : Type 0 where
  pub put : IsJumpPut pos tokens text condition before placed
  pub moves : MovesOnly laid before.current before.sections placed.sections
      (size_at (items_in laid before.current) (items_so_far before))

-- the section is continued, and the place of what is put next into it is moved by what was put
-- into it
pub record AddedMoves (laid : LaidSections) (number : ℕ) (section : LooseSection)
    (before after : List LooseSection) : Type 0 where
  pub more : IsContinued section (slice_get after number)
  pub moves : MovesPlace laid number before after (added laid number more)

-- wherever sections grow, so it is with each of them
abbrev pub GrowthMovesPlaces : Type 0
GrowthMovesPlaces = (laid : LaidSections) (number : ℕ) (section : LooseSection)
    → (before after : List LooseSection) → Grows before after
    → slice_get before number ≡ Some section → AddedMoves laid number section before after

-- the place is at most the size of this section of a layout, which is at most 2^30
pub record IsInside (kept : SectionOf LaidItem) (place : ℕ) : Type 0 where
  pub inside : place ≤ whole_size kept
  pub small : whole_size kept ≤ 2 ^ 30

-- so it is with the place of what is put next, in a layout of later sections
abbrev pub PlacesAreInside : Type 0
PlacesAreInside = (sections : List LooseSection) (laid : LaidSections) (number : ℕ)
    → (section : LooseSection) (kept : SectionOf LaidItem) → IsLaidLater sections laid
    → slice_get sections number ≡ Some section → slice_get laid number ≡ Some kept
    → IsInside kept (place_in laid number sections)

-- each statement moves the place of what is put next by what it puts
pub record StatementsStand : Type 0 where
  -- an instruction without operands by its bytes,
  pub bare : (laid : LaidSections) (pos : Pos) (tokens : List SpelledToken)
      → (before placed : Placed) (coded : Coded)
      → instruction_written before.syntax (behind_labels tokens) ≡ Some coded
      → place_tokens pos tokens before ≡ Ok placed → IsLaidLater placed.sections laid
      → MovesOnly laid before.current before.sections placed.sections (length coded.bytes)
  -- so any other but a direct jump,
  pub code : (laid : LaidSections) (pos : Pos) (tokens : List SpelledToken)
      → (before placed : Placed) (text : InsnText)
      → insn_written before.syntax (behind_labels tokens) ≡ Some text → jump_in text ≡ None
      → place_tokens pos tokens before ≡ Ok placed → IsLaidLater placed.sections laid
      → InsnMoves laid pos tokens text before placed
  -- a direct jump by the size of its item,
  pub jump : (laid : LaidSections) (pos : Pos) (tokens : List SpelledToken)
      → (before placed : Placed) (text : InsnText) (condition : Option Condition)
      → insn_written before.syntax (behind_labels tokens) ≡ Some text
      → jump_in text ≡ Some condition → place_tokens pos tokens before ≡ Ok placed
      → JumpMoves laid pos tokens text condition before placed
  -- and statements of any kind and number, in each section that was there, by all that they put
  pub any : (laid : LaidSections) (statements : List TokenStatement) (before placed : Placed)
      → (number : ℕ) (section : LooseSection) → place_all statements before ≡ Ok placed
      → slice_get before.sections number ≡ Some section
      → AddedMoves laid number section before.sections placed.sections

-- where the spot of a section has the same place, what is put next has the same place
abbrev pub SpotsGivePlaces : Type 0
SpotsGivePlaces = (laid : LaidSections) (number : ℕ) (before after : List LooseSection)
    → (spot_at before number).place ≡ (spot_at after number).place
    → place_in laid number after ≡ place_in laid number before
