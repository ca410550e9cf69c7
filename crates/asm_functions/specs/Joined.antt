-- The items of a function are all that its section gets while it is open: each is what one statement put there, and the next one begins where it ends.
use Rattle.std.specs.Prelude.{◌≡◌, ◌||◌, ◌++◌, ℕ, Bool, false, not, List, [], ◌∷◌, drop, unwrap_or, codes, Option, None, Some, Ok, if◌then◌else◌}
use Rattle.asm_base.specs.Tokens.{SpelledToken}
use Rattle.asm_base.specs.declared.places.Place.{Place}
use Rattle.asm_base.specs.declared.positions.Pos.{Pos}
use Rattle.asm_lines.specs.NextStatements.{TokenStatement}
use Rattle.asm_frags.specs.SectionOf.{section_number}
use Rattle.asm_frags.specs.Writing.{LooseSection}
use Rattle.asm_words.specs.declared.directives.Directive.{Directive}
use Rattle.asm_words.specs.declared.directives.Directive.TheVariants as directive
use Rattle.asm_values.specs.State.{Placed}
use Rattle.asm_items.specs.Alignments.{is_code}
use Rattle.asm_declarations.specs.Commons.{bss}
use Rattle.asm_place.specs.declared.bodies.Body.{Body}
use Rattle.asm_place.specs.declared.bodies.Body.TheVariants as body
use Rattle.asm_place.specs.Bodies.{body_of, front}
use Rattle.asm_place.specs.Effects.{insn_view, fill_said}
use Rattle.asm_place.specs.Instructions.{behind_labels}
use Rattle.asm_place.specs.Sources.{place}
use Rattle.code_functions.specs.Recorded.{Recorded}
use Rattle.code_functions.specs.Seen.{SeenItem, data_item}
use Rattle.asm_functions.specs.Following.{end_of, fields_in, same_place, has_operands, align_item, item_seen}
use Rattle.asm_functions.specs.FollowedSource.{FollowedSource, place_of, place_followed, follow_all}

-- THE ITEM OF A STATEMENT

-- an item, and the section that it is put into
pub record PutItem : Type 0 where
  pub section : ℕ
  pub item : SeenItem

-- data in a section, if the statement has operands or the section ends elsewhere after it
abbrev pub data_put : (operands : Bool) → Pos → ℕ → (there after : Placed) → Option PutItem
data_put operands pos number there after =
    if operands || not (same_place (end_of there.sections number) (end_of after.sections number))
    then Some (record { section = number; item = data_item pos (end_of there.sections number) }) else None

-- the same in a section that may not have been there
abbrev pub moved_put : Pos → Option ℕ → (there after : Placed) → Option PutItem
moved_put pos None there after = None
moved_put pos (Some number) there after = data_put false pos number there after

-- an alignment with this fill
abbrev pub align_put : Option ℕ → Pos → (there : Placed) → Option PutItem
align_put fill pos there = Some (record {
  section = there.current;
  item = align_item (is_code there.sections there.current) fill pos (end_of there.sections there.current);
})

-- an instruction
abbrev pub insn_put : Pos → List SpelledToken → (there after : Placed) → Option PutItem
insn_put pos tokens there after = Some (record {
  section = there.current;
  item = item_seen (insn_view pos tokens there) pos (end_of there.sections there.current)
      (fields_in there.sections there.current) (fields_in after.sections there.current);
})

-- what a directive of these operands puts
abbrev pub directive_put : Directive → Pos → List SpelledToken → (there after : Placed) → Option PutItem
directive_put (directive.Data size) pos tokens there after = data_put (has_operands tokens) pos there.current there after
directive_put (directive.Strings terminated) pos tokens there after = data_put (has_operands tokens) pos there.current there after
directive_put (directive.Leb128 signed) pos tokens there after = data_put (has_operands tokens) pos there.current there after
directive_put directive.Zero pos tokens there after = data_put (has_operands tokens) pos there.current there after
directive_put directive.Skip pos tokens there after = data_put (has_operands tokens) pos there.current there after
directive_put directive.Fill pos tokens there after = data_put (has_operands tokens) pos there.current there after
directive_put directive.Org pos tokens there after = data_put (has_operands tokens) pos there.current there after
directive_put (directive.Align by) pos tokens there after = align_put (fill_said pos tokens there) pos there
directive_put directive.Comm pos tokens there after = data_put false pos bss there after
directive_put directive.Lcomm pos tokens there after = data_put false pos bss there after
directive_put directive.Ident pos tokens there after = moved_put pos (section_number (codes ".comment") there.sections) there after
directive_put _ pos tokens there after = None

-- what a statement without labels puts, by what it is, placed between these two
abbrev pub body_put : Body → Pos → List SpelledToken → (there after : Placed) → Option PutItem
body_put (body.Directed (Some found)) pos tokens there after = directive_put found pos (drop 1 tokens) there after
body_put body.Instruction pos tokens there after = insn_put pos tokens there after
body_put _ pos tokens there after = None

-- what is due is an item of the section of this number, at its end
pub record PutsInto (there : Placed) (number : ℕ) (due : Option PutItem) : Type 0 where
  pub item : SeenItem
  pub is : due ≡ Some (record { section = number; item = item })
  pub at : item.place ≡ end_of there.sections number

-- ITEMS ONE AFTER THE OTHER

-- the item is what one of the statements put into the section: it begins at the one place, where the section ended before that statement, and ends at the
-- other, where the section ends after it
pub record IsPutBy (statements : List TokenStatement) (first : FollowedSource) (section : ℕ) (item : SeenItem) (from to : Place) : Type 0 where
  pub earlier : List TokenStatement
  pub statement : TokenStatement
  pub later : List TokenStatement
  pub all : statements ≡ earlier ++ statement ∷ later
  pub before : FollowedSource
  pub before_is : follow_all earlier first ≡ Ok before
  pub after : FollowedSource
  pub after_is : place_followed statement before ≡ Ok after
  pub labels : Placed
  pub labels_are : place (front statement) before.placed ≡ Ok labels
  pub put : let tokens = behind_labels statement.tokens in
      body_put (body_of tokens) (place_of statement) tokens labels after.placed ≡ Some (record { section = section; item = item })
  pub at : item.place ≡ from
  pub start : from ≡ end_of before.placed.sections section
  pub stop : to ≡ end_of after.placed.sections section

-- there is a place that one thing ends at and another begins at
pub record Meet (One Other : Place → Type 0) : Type 0 where
  pub between : Place
  pub one : One between
  pub other : Other between

-- the items are put by statements one after the other, from the one place to the other
abbrev pub AreJoined : List TokenStatement → FollowedSource → (section : ℕ) → List SeenItem → (from to : Place) → Type 0
AreJoined statements first section [] from to = from ≡ to
AreJoined statements first section (item ∷ items) from to =
    Meet (IsPutBy statements first section item from) (λ between. AreJoined statements first section items between to)

-- where the function ends: where it has ended, or where its section ends so far
abbrev pub stop_in : List LooseSection → Recorded SeenItem → Place
stop_in sections f = unwrap_or f.stop (end_of sections f.section)

-- the items of the function are joined from its beginning to its end
abbrev pub IsJoined : List TokenStatement → FollowedSource → List LooseSection → Recorded SeenItem → Type 0
IsJoined statements first sections f = AreJoined statements first f.section f.items f.start (stop_in sections f)
