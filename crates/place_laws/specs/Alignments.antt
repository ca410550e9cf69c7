-- What an alignment puts, and that the runs before plain bytes move nothing.
use Rattle.std.specs.Prelude.{◌≡◌, ℕ, List, Option, Some, Ok, length, slice_get, slice_set}
use Rattle.asm_base.specs.Tokens.{SpelledToken}
use Rattle.asm_base.specs.declared.positions.Pos.{Pos}
use Rattle.asm_frags.specs.Writing.{LooseSection, new_item, with_item, with_run}
use Rattle.item_contents.specs.declared.contents.Content.{Content}
use Rattle.item_contents.specs.declared.contents.Content.TheVariants.{Align}
use Rattle.item_contents.specs.ItemParts.{AlignOf}
use Rattle.asm_relax.specs.Placing.{shift_of}
use Rattle.asm_relax.specs.Settling.{LaidItem, LaidSections}
use Rattle.asm_values.specs.State.{Placed}
use Rattle.asm_words.specs.declared.directives.AlignedBy.{AlignedBy}
use Rattle.asm_words.specs.Paddings.{padding_of}
use Rattle.asm_items.specs.Alignments.{is_code, place_align}
use Rattle.asm_place.specs.Instructions.{run_end}
use Rattle.asm_place.specs.JumpPlaces.{items_so_far}
use Rattle.place_laws.specs.Ends.{items_in, size_at, AreFirst}
use Rattle.place_laws.specs.Statements.{MovesOnly}

-- an item of this content is put last into the current section; all else in the sections is as it
-- was
pub record IsItemPut (pos : Pos) (content : Content) (before after : Placed) : Type 0 where
  pub section : LooseSection
  pub there : slice_get before.sections before.current ≡ Some section
  pub put : after.sections
      ≡ slice_set before.sections before.current (with_item (new_item pos content) section)

-- so an alignment is put, with the padding of this fill, or of none
pub record IsAlignPut (pos : Pos) (before after : Placed) : Type 0 where
  pub held : AlignOf
  pub fill : Option ℕ
  pub padding : held.padding ≡ padding_of (is_code before.sections before.current) fill
  pub put : IsItemPut pos (Align held) before after

-- it moves the place in the current section alone, by the size of its item
pub record AlignMoves (laid : LaidSections) (pos : Pos) (before placed : Placed) : Type 0 where
  pub put : IsAlignPut pos before placed
  pub moves : MovesOnly laid before.current before.sections placed.sections
      (size_at (items_in laid before.current) (items_so_far before))

-- each alignment is put so
abbrev pub AlignmentsStand : Type 0
AlignmentsStand = (laid : LaidSections) (pos : Pos) (by : AlignedBy) (tokens : List SpelledToken)
    → (before placed : Placed) → place_align pos by tokens before ≡ Ok placed
    → AlignMoves laid pos before placed

-- a run that is put before plain bytes moves nothing: they begin where the section ends
abbrev pub RunsMoveNothing : Type 0
RunsMoveNothing = (pos : Pos) (section : LooseSection) (items : List LaidItem)
    → AreFirst (with_run pos section) items
    → shift_of (run_end section) 0 items ≡ shift_of (length section.items) 0 items
