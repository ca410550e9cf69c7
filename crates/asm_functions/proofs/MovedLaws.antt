-- A statement that moves the end of a section puts an item there.
use Rattle.std.proofs.Common.{◌≡◌, ◌≢◌, ℕ, Bool, true, false, cond, List, drop, Option, None, Some, Ok, refl, sym, ap, subst, ◌∙◌}
use Rattle.std.specs.Prelude.{◌==◌, ◌||◌, not, codes, slice_get}
use Rattle.asm_base.specs.declared.places.Place.{Place}
use Rattle.asm_base.specs.declared.positions.Pos.{Pos}
use Rattle.asm_base.specs.Tokens.{SpelledToken}
use Rattle.asm_lines.specs.NextStatements.{TokenStatement}
use Rattle.asm_frags.specs.SectionOf.{section_number}
use Rattle.asm_frags.specs.Writing.{LooseSection}
use Rattle.asm_operands.specs.Operands.{begins_with_label}
use Rattle.asm_words.specs.declared.directives.Directive.{Directive}
use Rattle.asm_words.specs.declared.directives.Directive.TheVariants as directive
use Rattle.asm_values.specs.State.{Placed}
use Rattle.asm_declarations.specs.Commons.{bss}
use Rattle.asm_place.specs.declared.bodies.Body.{Body}
use Rattle.asm_place.specs.declared.bodies.Body.TheVariants as body
use Rattle.asm_place.specs.Bodies.{body_of}
use Rattle.asm_place.specs.Effects.{insn_view, fill_said}
use Rattle.asm_place.specs.PutSections.{section_of_directive, section_put}
use Rattle.asm_place.specs.Sources.{place}
use Rattle.x86_insn.specs.Views.{View}
use Rattle.code_functions.specs.Seen.{data_item}
use Rattle.asm_functions.specs.Following.{end_of, fields_in, same_place, has_operands, plain_item, item_seen}
use Rattle.asm_functions.specs.FollowedSource.{place_of}
use Rattle.asm_functions.specs.Joined.{PutItem, data_put, moved_put, align_put, insn_put, directive_put, body_put, PutsInto}
use Rattle.asm_functions.proofs.JoinedLemmas.{same_number, other_number, same_end}
use Rattle.asm_functions.proofs.JoinedLaws.{end_by}

some_is : (one other : ℕ) → Some one ≡ Some other → one ≡ other
some_is one other same = cc

-- what is not apart from a number is it
target_by : (same : Bool) (one number : ℕ) → (one == number) ≡ same → (Some one ≢ Some number → ⊥) → Some one ≡ Some number
target_by true one number is never = ap Some (same_number one number is)
target_by false one number is never = absurd (never (λ same. other_number one number is (sym (some_is one number same))))

target_is : (target : Option ℕ) (number : ℕ) → (target ≢ Some number → ⊥) → target ≡ Some number
target_is None number never = absurd (never (λ same. absurd (cc)))
target_is (Some one) number never = target_by (one == number) one number refl never

module _ (pos : Pos) (there after : Placed) where
  -- the section of this number ends elsewhere than before
  abbrev HasMoved : ℕ → Type 0
  HasMoved number = end_of after.sections number ≢ end_of there.sections number

  data_by : (test : Bool) (number : ℕ) → (test ≡ false → end_of after.sections number ≡ end_of there.sections number) → HasMoved number
      → PutsInto there number (cond test (Some (record { section = number; item = data_item pos (end_of there.sections number) })) None)
  data_by true number same moved = record { item = data_item pos (end_of there.sections number); is = refl; at = refl }
  data_by false number same moved = absurd (moved (same refl))

  data_moves : (operands : Bool) (number : ℕ) → HasMoved number → PutsInto there number (data_put operands pos number there after)
  data_moves operands number moved =
      data_by (operands || not (same_place (end_of there.sections number) (end_of after.sections number))) number
      (λ none. same_end operands (end_of there.sections number) (end_of after.sections number) none) moved

  -- whatever is put into the section of one number is put into that of the other, where they are one
  at_number : (due : Option PutItem) (one number : ℕ) → Some one ≡ Some number → (HasMoved one → PutsInto there one due) → HasMoved number → PutsInto there number due
  at_number due one number same puts moved =
      let at = some_is one number same in
      subst (λ (n : ℕ). PutsInto there n due) at (puts (λ end. moved (subst (λ (n : ℕ). end_of after.sections n ≡ end_of there.sections n) at end)))

  data_at : (operands : Bool) (one number : ℕ) → Some one ≡ Some number → HasMoved number → PutsInto there number (data_put operands pos one there after)
  data_at operands one number same moved = at_number (data_put operands pos one there after) one number same (data_moves operands one) moved

  moved_at : (found : Option ℕ) (number : ℕ) → found ≡ Some number → HasMoved number → PutsInto there number (moved_put pos found there after)
  moved_at None number same moved = absurd (cc)
  moved_at (Some one) number same moved = data_at false one number same moved

  plain_place : (padding : Bool) (at : Place) → (plain_item padding pos at).place ≡ at
  plain_place true at = refl
  plain_place false at = refl

  align_at : (fill : Option ℕ) (number : ℕ) → Some there.current ≡ Some number → HasMoved number → PutsInto there number (align_put fill pos there)
  align_at fill number same moved =
      at_number (align_put fill pos there) there.current number same
      (λ moved. record { item = _; is = refl; at = plain_place _ (end_of there.sections there.current) }) moved

  item_place : (view : Option View) (at : Place) (fields more : ℕ) → (item_seen view pos at fields more).place ≡ at
  item_place None at fields more = refl
  item_place (Some view) at fields more = refl

  insn_at : (tokens : List SpelledToken) (number : ℕ) → Some there.current ≡ Some number → HasMoved number → PutsInto there number (insn_put pos tokens there after)
  insn_at tokens number same moved =
      at_number (insn_put pos tokens there after) there.current number same
      (λ moved. record {
        item = _;
        is = refl;
        at = item_place (insn_view pos tokens there) (end_of there.sections there.current) (fields_in there.sections there.current) (fields_in after.sections there.current);
      }) moved

  directive_at : (found : Directive) (tokens : List SpelledToken) (number : ℕ) → section_of_directive found there ≡ Some number → HasMoved number
      → PutsInto there number (directive_put found pos tokens there after)
  directive_at (directive.Data size) tokens number same moved = data_at (has_operands tokens) there.current number same moved
  directive_at (directive.Strings terminated) tokens number same moved = data_at (has_operands tokens) there.current number same moved
  directive_at (directive.Leb128 signed) tokens number same moved = data_at (has_operands tokens) there.current number same moved
  directive_at directive.Zero tokens number same moved = data_at (has_operands tokens) there.current number same moved
  directive_at directive.Skip tokens number same moved = data_at (has_operands tokens) there.current number same moved
  directive_at directive.Fill tokens number same moved = data_at (has_operands tokens) there.current number same moved
  directive_at directive.Org tokens number same moved = data_at (has_operands tokens) there.current number same moved
  directive_at (directive.Align by) tokens number same moved = align_at (fill_said pos tokens there) number same moved
  directive_at (directive.Enter initial) tokens number same moved = absurd (cc)
  directive_at directive.Section tokens number same moved = absurd (cc)
  directive_at directive.PushSection tokens number same moved = absurd (cc)
  directive_at directive.PopSection tokens number same moved = absurd (cc)
  directive_at directive.Previous tokens number same moved = absurd (cc)
  directive_at (directive.Say attribute) tokens number same moved = absurd (cc)
  directive_at directive.Type tokens number same moved = absurd (cc)
  directive_at directive.Size tokens number same moved = absurd (cc)
  directive_at (directive.Assign once) tokens number same moved = absurd (cc)
  directive_at directive.Comm tokens number same moved = data_at false bss number same moved
  directive_at directive.Lcomm tokens number same moved = data_at false bss number same moved
  directive_at directive.Ident tokens number same moved = moved_at (section_number (codes ".comment") there.sections) number same moved
  directive_at directive.File tokens number same moved = absurd (cc)
  directive_at directive.Loc tokens number same moved = absurd (cc)
  directive_at (directive.Error said) tokens number same moved = absurd (cc)
  directive_at directive.Warning tokens number same moved = absurd (cc)
  directive_at (directive.Syntax syntax) tokens number same moved = absurd (cc)
  directive_at directive.Code64 tokens number same moved = absurd (cc)
  directive_at (directive.Frame frame) tokens number same moved = absurd (cc)

  body_at : (kind : Body) (tokens : List SpelledToken) (number : ℕ) → section_put kind there ≡ Some number → HasMoved number → PutsInto there number (body_put kind pos tokens there after)
  body_at body.Nothing tokens number same moved = absurd (cc)
  body_at body.Assignment tokens number same moved = absurd (cc)
  body_at (body.Directed None) tokens number same moved = absurd (cc)
  body_at (body.Directed (Some found)) tokens number same moved = directive_at found (drop 1 tokens) number same moved
  body_at body.Instruction tokens number same moved = insn_at tokens number same moved
  body_at body.Unknown tokens number same moved = absurd (cc)

module _ (one_section : (s : TokenStatement) (before after : Placed) (number : ℕ) (held : LooseSection) → begins_with_label s.tokens ≡ false → place s before ≡ Ok after
    → slice_get before.sections number ≡ Some held → section_put (body_of s.tokens) before ≢ Some number → slice_get after.sections number ≡ Some held) where
  -- a statement without labels that moves the end of a section puts an item there
  pub moves_put : (s : TokenStatement) (before after : Placed) (number : ℕ) (held : LooseSection) → begins_with_label s.tokens ≡ false → place s before ≡ Ok after
      → slice_get before.sections number ≡ Some held → end_of after.sections number ≢ end_of before.sections number
      → PutsInto before number (body_put (body_of s.tokens) (place_of s) s.tokens before after)
  moves_put s before after number held bare placed there moved =
      body_at (place_of s) before after (body_of s.tokens) s.tokens number
      (target_is (section_put (body_of s.tokens) before) number
      (λ other. moved (end_by before.sections after.sections number (one_section s before after number held bare placed there other ∙ sym there)))) moved
