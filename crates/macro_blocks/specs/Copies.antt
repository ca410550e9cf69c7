-- The copies that are still to come.
use Rattle.std.specs.Prelude.{◌≡◌, ℕ, ◌+◌, ◌-◌, true, List, ◌++◌, drop, length}
use Rattle.asm_lines.specs.NextStatements.{TokenStatement}
use Rattle.macro_texts.specs.RepeatsSeen.{texts}
use Rattle.macro_blocks.specs.declared.copies.EachCopy.{EachCopy}
use Rattle.macro_blocks.specs.declared.places.Place.{Place}
use Rattle.macro_blocks.specs.Blocks.{repeated}
use Rattle.macro_blocks.specs.Places.{left_in, each_left, is_whole}

-- the statements of the copies for the values from this one on
abbrev pub each_from : Place → EachCopy → ℕ → List TokenStatement
each_from place each next = each_left place each.line.name.items each.number each.body.items (drop next (texts each.line.values.items))

-- the statements of the copies that have texts of their own
abbrev pub each_of : Place → EachCopy → List TokenStatement
each_of place each = each_from place each each.next

-- how many of those are to come
abbrev pub count_left : EachCopy → ℕ
count_left each = length each.line.values.items - each.next

-- the statements of all copies that are to come
abbrev pub later_of : Place → List ℕ → ℕ → EachCopy → List TokenStatement
later_of place text alike each = repeated alike (left_in place text 0) ++ each_of place each

-- the text of the next copy
pub record IsNextText (each : EachCopy) (text : List ℕ) : Type 0 where
  pub whole : is_whole text 0 ≡ true
  pub statements : (place : Place) → each_of place each ≡ left_in place text 0 ++ each_from place each (each.next + 1)
