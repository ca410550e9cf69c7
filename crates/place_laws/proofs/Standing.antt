-- What statements move.
use Rattle.std.proofs.Common.{◌≡◌, ℕ, ◌+◌, List, Option, Some, None, Ok, length, set, refl, sym, ap, ◌∙◌, arith, length-append}
use Rattle.std.specs.Prelude.{slice_get}
use Rattle.std.specs.Option.{option_map_or}
use Rattle.asm_base.specs.Tokens.{SpelledToken}
use Rattle.asm_base.specs.declared.positions.Pos.{Pos}
use Rattle.asm_lines.specs.NextStatements.{TokenStatement}
use Rattle.asm_frags.specs.Writing.{LooseSection, with_bytes, with_growing}
use Rattle.item_bytes.specs.declared.jumps.Condition.{Condition}
use Rattle.item_contents.specs.declared.kinds.Growth.TheVariants.{Jump}
use Rattle.asm_relax.specs.Placing.{shift_of}
use Rattle.asm_relax.specs.Settling.{LaidSections}
use Rattle.asm_base.specs.declared.places.SectionPlace.{SectionPlace}
use Rattle.asm_uses.specs.Places.{spot_at, spot_in, no_spot}
use Rattle.asm_values.specs.State.{Placed}
use Rattle.att_insns.specs.InsnTexts.{InsnText}
use Rattle.x86_lookup.specs.BareInstructions.{Coded}
use Rattle.asm_place.specs.Placing.{place_tokens}
use Rattle.asm_place.specs.Sources.{place_all}
use Rattle.asm_place.specs.Instructions.{behind_labels, instruction_written, with_more, Grows, IsPut}
use Rattle.asm_place.specs.CodePlaces.{FieldInCode, insn_written, jump_in, blanked, code_fields, with_code, IsCodePut, IsInsnPut}
use Rattle.asm_place.specs.JumpPlaces.{IsJumpPut, jump_form, items_so_far}
use Rattle.place_laws.specs.Ends.{end_in, items_in, size_at, AreFirst, LayoutsKeepItems}
use Rattle.place_laws.specs.Statements.{IsLaidLater, MovesOnly, added, InsnMoves, JumpMoves, GrowthMovesPlaces, StatementsStand, SpotsGivePlaces}
use Rattle.place_laws.proofs.CodeBytes.{blank_long}
use Rattle.place_laws.proofs.Elements.{get_set, get_set_other, get_first}
use Rattle.place_laws.proofs.Moving.{run_moves, ends_move, ends_add}

-- what is known of layouts and of placing
pub record Facts : Type 0 where
  pub keep : LayoutsKeepItems
  pub grow : (statements : List TokenStatement) (before placed : Placed) → place_all statements before ≡ Ok placed → Grows before.sections placed.sections
  pub bare : (pos : Pos) (tokens : List SpelledToken) (before placed : Placed) (coded : Coded) → instruction_written before.syntax (behind_labels tokens) ≡ Some coded
      → place_tokens pos tokens before ≡ Ok placed → IsPut before.sections placed.sections before.current pos coded.bytes
  pub code : (pos : Pos) (tokens : List SpelledToken) (before placed : Placed) (text : InsnText) → insn_written before.syntax (behind_labels tokens) ≡ Some text
      → jump_in text ≡ None → place_tokens pos tokens before ≡ Ok placed → IsInsnPut pos tokens text before placed
  pub jump : (pos : Pos) (tokens : List SpelledToken) (before placed : Placed) (text : InsnText) (condition : Option Condition)
      → insn_written before.syntax (behind_labels tokens) ≡ Some text → jump_in text ≡ Some condition → place_tokens pos tokens before ≡ Ok placed
      → IsJumpPut pos tokens text condition before placed

-- the items of a section are the first ones of its section in a layout of later sections
pub first_later : LayoutsKeepItems → (laid : LaidSections) (sections : List LooseSection) (number : ℕ) (section : LooseSection) → IsLaidLater sections laid
    → slice_get sections number ≡ Some section → AreFirst section (items_in laid number)
first_later keep laid sections number section is there =
    let more = is.grows.kept number section there in
    let all = keep is.symbols is.later laid number (with_more section more.bytes more.fields more.items) is.is more.there in
    record { each = λ index item found. all.each index item (get_first section.items more.items index item found) }

-- how many items the current section has
pub so_far_is : (before : Placed) (section : LooseSection) → slice_get before.sections before.current ≡ Some section → items_so_far before ≡ length section.items
so_far_is before section there = ap (λ f. option_map_or (λ (s : LooseSection). length s.items) f 0) there

-- a section is put in place of the one of its number
module _ (laid : LaidSections) (before after : List LooseSection) (number : ℕ) (section new : LooseSection) (there : slice_get before number ≡ Some section)
    (put : after ≡ set before number new) where
  pub now : slice_get after number ≡ Some new
  now = ap (λ (all : List LooseSection). slice_get all number) put ∙ get_set before number section new there

  abbrev place : Option LooseSection → ℕ
  place found = option_map_or (end_in (items_in laid number)) found 0

  pub only : (size : ℕ) → end_in (items_in laid number) new ≡ end_in (items_in laid number) section + size → MovesOnly laid number before after size
  only size moves = record {
    moves = ap place now ∙ moves ∙ ap (λ f. place f + size) (sym there);
    others = λ other apart.
        ap (λ f. option_map_or (end_in (items_in laid other)) f 0)
        (ap (λ (all : List LooseSection). slice_get all other) put ∙ get_set_other before number other new apart);
  }

-- each by what it puts
module _ (facts : Facts) (laid : LaidSections) where
  bare_stands : (pos : Pos) (tokens : List SpelledToken) (before placed : Placed) (coded : Coded) → instruction_written before.syntax (behind_labels tokens) ≡ Some coded
      → place_tokens pos tokens before ≡ Ok placed → IsLaidLater placed.sections laid → MovesOnly laid before.current before.sections placed.sections (length coded.bytes)
  bare_stands pos tokens before placed coded written is later =
      let put = facts.bare pos tokens before placed coded written is in
      let new = with_bytes pos coded.bytes put.section in
      let first = first_later facts.keep laid placed.sections before.current new later
      (now laid before.sections placed.sections before.current put.section new put.there put.put) in
      only laid before.sections placed.sections before.current put.section new put.there put.put (length coded.bytes)
      (ends_move.bytes pos coded.bytes put.section (items_in laid before.current) first)

  code_moves : (before after : List LooseSection) (number : ℕ) (pos : Pos) (bytes : List ℕ) (fields : List FieldInCode) → IsLaidLater after laid
      → IsCodePut before after number pos bytes fields → MovesOnly laid number before after (length bytes)
  code_moves before after number pos bytes fields later put =
      let new = with_code pos number bytes fields put.section in
      let first = first_later facts.keep laid after number new later (now laid before after number put.section new put.there put.put) in
      let run = run_moves pos put.section (items_in laid number) first.each in
      let long = length-append put.section.bytes (blanked bytes fields) in
      let blank = blank_long bytes fields put.apart in
      only laid before after number put.section new put.there put.put (length bytes) (omega (arith, run, long, blank))

  code_stands : (pos : Pos) (tokens : List SpelledToken) (before placed : Placed) (text : InsnText) → insn_written before.syntax (behind_labels tokens) ≡ Some text
      → jump_in text ≡ None → place_tokens pos tokens before ≡ Ok placed → IsLaidLater placed.sections laid → InsnMoves laid pos tokens text before placed
  code_stands pos tokens before placed text written no_jump is later =
      let put = facts.code pos tokens before placed text written no_jump is in
      record {
        put = put;
        moves = code_moves before.sections placed.sections before.current pos put.coded.made.bytes (code_fields text put.coded.forms put.coded.made) later put.put;
      }

  jump_stands : (pos : Pos) (tokens : List SpelledToken) (before placed : Placed) (text : InsnText) (condition : Option Condition)
      → insn_written before.syntax (behind_labels tokens) ≡ Some text → jump_in text ≡ Some condition → place_tokens pos tokens before ≡ Ok placed
      → JumpMoves laid pos tokens text condition before placed
  jump_stands pos tokens before placed text condition written jumps is =
      let put = facts.jump pos tokens before placed text condition written jumps is in
      let items = items_in laid before.current in
      let new = with_growing pos before.current (Jump condition) text.displacement.suffix (jump_form put.jump.forms) put.section in
      let moves = ends_move.growing pos before.current (Jump condition) text.displacement.suffix (jump_form put.jump.forms) put.section items in
      record {
        put = put;
        moves = only laid before.sections placed.sections before.current put.section new put.there put.put (size_at items (items_so_far before))
            (moves ∙ ap (λ n. end_in items put.section + size_at items n) (sym (so_far_is before put.section put.there)));
      }

pub growth_moves_places : GrowthMovesPlaces
growth_moves_places laid number section before after grows there =
    let more = grows.kept number section there in
    let items = items_in laid number in
    let new = with_more section more.bytes more.fields more.items in
    let moves = ends_add section new more.bytes more.items items refl refl in
    record {
      more = more;
      moves = ap (λ f. option_map_or (end_in items) f 0) more.there ∙ moves ∙ ap (λ f. option_map_or (end_in items) f 0 + added laid number more) (sym there);
    }

pub statements_stand : Facts → StatementsStand
statements_stand facts = record {
  bare = λ laid. bare_stands facts laid;
  code = λ laid. code_stands facts laid;
  jump = λ laid. jump_stands facts laid;
  any = λ laid statements before placed number section is there.
      growth_moves_places laid number section before.sections placed.sections (facts.grow statements before placed is) there;
}

-- the place of what is put next, by that of the spot
abbrev place_by : LaidSections → ℕ → SectionPlace → ℕ
place_by laid number place = place.place.offset + shift_of place.place.item 0 (items_in laid number)

spot_gives : (laid : LaidSections) (number : ℕ) (found : Option LooseSection)
    → option_map_or (end_in (items_in laid number)) found 0 ≡ place_by laid number (option_map_or (spot_in number) found (no_spot number)).place
spot_gives laid number None = refl
spot_gives laid number (Some section) = refl

pub spots_give_places : SpotsGivePlaces
unfolding spot_at
spots_give_places laid number before after same =
    spot_gives laid number (slice_get after number) ∙ ap (place_by laid number) (sym same) ∙ sym (spot_gives laid number (slice_get before number))
