-- What is known of the instructions of statements.
use Rattle.std.proofs.Common.{◌≡◌, Bool, List, ◌∷◌, ◌++◌, None, Some, Ok}
use Rattle.asm_lines.specs.NextStatements.{TokenStatement}
use Rattle.x86_lookup.specs.BareInstructions.{Coded}
use Rattle.att_insns.specs.InsnTexts.{InsnText}
use Rattle.asm_values.specs.State.{Placed, nothing_placed}
use Rattle.asm_place.specs.Sources.{pos_at, place_all}
use Rattle.section_laws.specs.Within.{AreWithin}
use Rattle.asm_place.specs.Instructions.{instruction_of, next_item, next_offset, StandsAt}
use Rattle.asm_place.specs.CodePlaces.{insn_in, jump_in, InsnStands}

-- where they stand in all that is placed, and that what is placed stays
pub record PlaceFacts : Type 0 where
  pub begins : (no_warn : Bool) → AreWithin (nothing_placed no_warn).sections
  pub within : (statements : List TokenStatement) (before placed : Placed) → place_all statements before ≡ Ok placed → AreWithin before.sections → AreWithin placed.sections
  pub bare_stands : (front : List TokenStatement) (s : TokenStatement) (later : List TokenStatement) (before placed whole : Placed) (coded : Coded)
      → AreWithin before.sections → place_all front before ≡ Ok placed → place_all (front ++ s ∷ later) before ≡ Ok whole
      → instruction_of placed.syntax s ≡ Some coded → StandsAt whole.sections placed.current (next_item placed) (next_offset placed) coded.bytes
  pub code_stands : (front : List TokenStatement) (s : TokenStatement) (later : List TokenStatement) (before placed whole : Placed) (text : InsnText)
      → AreWithin before.sections → place_all front before ≡ Ok placed → place_all (front ++ s ∷ later) before ≡ Ok whole
      → insn_in placed.syntax s ≡ Some text → jump_in text ≡ None → InsnStands whole.sections (pos_at s.file s.line) s.tokens text placed
