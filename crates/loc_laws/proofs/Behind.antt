-- Behind an instruction its section ends behind the place where it begins.
use Rattle.std.proofs.Common.{◌≡◌, ℕ, ◌+◌, ◌<◌, ◌≤◌, ◌||◌, ◌⊎◌, inl, inr, true, false, cond, List, [], ◌∷◌, length, Option, None, Some, is_some, refl, ap, subst, arith}
use Rattle.std.specs.Prelude.{◌&&◌, not, slice_get}
use Rattle.std.proofs.lemmas.Bool.{false≢true}
use Rattle.std.proofs.lemmas.Option.{none-some, slice_get_within}
use Rattle.asm_base.specs.Tokens.{SpelledToken}
use Rattle.asm_base.specs.declared.places.Place.{Place}
use Rattle.asm_lines.specs.NextStatements.{TokenStatement}
use Rattle.asm_frags.specs.Fields.{width}
use Rattle.asm_frags.specs.SectionOf.{SectionOf}
use Rattle.asm_frags.specs.Writing.{LooseItem, LooseSection}
use Rattle.asm_relax.specs.Settling.{LaidItem, LaidSections}
use Rattle.asm_operands.specs.Operands.{is_name, begins_with_dot}
use Rattle.asm_values.specs.State.{Placed}
use Rattle.asm_words.specs.declared.directives.Syntax.{Syntax}
use Rattle.asm_words.specs.declared.directives.Syntax.TheVariants.{Att, Intel}
use Rattle.att_insns.specs.InsnTexts.{InsnText}
use Rattle.asm_place.specs.CodePlaces.{FieldInCode, AreApart, insn_in, is_instruction}
use Rattle.asm_place.specs.Instructions.{behind_labels, instruction_written, instruction_of, Grows, next_offset}
use Rattle.asm_place.specs.JumpPlaces.{items_so_far}
use Rattle.line_directives.specs.Order.{IsUpTo}
use Rattle.line_table.specs.Sequences.{place_in, end_in}
use Rattle.piece_laws.specs.LaidTables.{place_address, PlacesRise}
use Rattle.x86_lookup.specs.BareInstructions.{Coded, BareCodesRead, bare_instruction}
use Rattle.x86_table.specs.Reads.{InstructionLength}
use Rattle.loc_laws.proofs.Ends.{end_there, end_is, ends_grow}

-- WHICH INSTRUCTION

some_there : {X : Type 0} (found : Option X) → is_some found ≡ true → (x : X) × (found ≡ Some x)
some_there None is = absurd (false≢true is)
some_there (Some x) is = (x, refl)

-- one without operands, or one with some
kind_of : (bare : Option Coded) (coded : Option InsnText) → (is_some bare || is_some coded) ≡ true
    → ((one : Coded) × (bare ≡ Some one)) ⊎ ((text : InsnText) × (coded ≡ Some text))
kind_of (Some one) coded is = inl (one, refl)
kind_of None coded is = inr (some_there coded is)

pub kind : (placed : Placed) (s : TokenStatement) → is_instruction placed.syntax (behind_labels s.tokens) ≡ true
    → ((one : Coded) × (instruction_of placed.syntax s ≡ Some one)) ⊎ ((text : InsnText) × (insn_in placed.syntax s ≡ Some text))
kind placed s is = kind_of (instruction_of placed.syntax s) (insn_in placed.syntax s) is

found_by : (test : _) (found : Option Coded) (coded : Coded) → cond test found None ≡ Some coded → found ≡ Some coded
found_by true found coded is = is
found_by false found coded is = absurd (none-some coded is)

-- its bytes are those of a name
bare_named : (syntax : Syntax) (tokens : List SpelledToken) (coded : Coded) → instruction_written syntax tokens ≡ Some coded
    → (name : List ℕ) × (bare_instruction name ≡ Some coded)
unfolding instruction_written
bare_named Intel tokens coded is = absurd (none-some coded is)
bare_named Att [] coded is = absurd (none-some coded is)
bare_named Att (name ∷ []) coded is = (name.bytes, found_by (is_name name && not (begins_with_dot name.bytes)) (bare_instruction name.bytes) coded is)
bare_named Att (name ∷ operand ∷ rest) coded is = absurd (none-some coded is)

pub bare_long : BareCodesRead → InstructionLength → (placed : Placed) (s : TokenStatement) (coded : Coded) → instruction_of placed.syntax s ≡ Some coded → 0 < length coded.bytes
bare_long reads long placed s coded is =
    let named = bare_named placed.syntax (behind_labels s.tokens) coded is in
    (long coded.bytes coded.insn (reads named.0 coded named.1)).0

pub code_long : (from end : ℕ) (fields : List FieldInCode) → AreApart from end fields → from ≤ end
code_long from end [] apart = apart
code_long from end (field ∷ fields) apart =
    let first = apart.0 in
    let rest = code_long (field.at + width field.size) end fields apart.1 in
    omega (arith, first, rest)

-- WHERE THE SECTION ENDS BEHIND IT

-- up to the end of its section behind the statement there is a place behind the one where the statement begins
pub record EndsBehind (laid : LaidSections) (placed next : Placed) : Type 0 where
  pub place : Place
  pub up : IsUpTo place (end_in placed.current next.sections)
  pub further : place_address laid (place_in placed.current (end_in placed.current placed.sections)) < place_address laid (place_in placed.current place)

module _ (places : PlacesRise) (laid : LaidSections) (placed next : Placed) (grows : Grows placed.sections next.sections) where
  abbrev begin : Place
  begin = record { item = items_so_far placed; offset = next_offset placed }

  abbrev address : Place → ℕ
  address place = place_address laid (place_in placed.current place)

  begins : address (end_in placed.current placed.sections) ≡ address begin
  begins = ap address (end_is placed)

  grown : IsUpTo begin (end_in placed.current next.sections)
  grown = subst (λ (place : Place). IsUpTo place (end_in placed.current next.sections)) (end_is placed) (ends_grow placed.sections next.sections grows placed.current)

  -- behind plain bytes
  pub plain_behind : (kept : SectionOf LaidItem) → slice_get laid placed.current ≡ Some kept → (count : ℕ) (held : LooseSection) → slice_get next.sections placed.current ≡ Some held
      → 0 < count → next_offset placed + count ≤ length held.bytes → EndsBehind laid placed next
  plain_behind kept there count held found some within =
      let last : Place = record { item = items_so_far placed; offset = next_offset placed + count } in
      let apart = places.beside laid placed.current kept begin last there refl in
      let start = begins in
      let items = grown.0 in
      let bytes = ap (λ (place : Place). place.offset) (end_there placed.current next.sections held found) in
      record {
        place = last;
        up = (items, omega (arith, within, bytes));
        further = omega (arith, apart, start, some);
      }

  -- behind an item with a size
  pub item_behind : (size : ℕ) (held : LooseSection) (item : LooseItem) → slice_get next.sections placed.current ≡ Some held → slice_get held.items (items_so_far placed) ≡ Some item
      → 0 < size → address begin + size ≡ address (record { item = items_so_far placed + 1; offset = next_offset placed }) → EndsBehind laid placed next
  item_behind size held item found there some moves =
      let start = begins in
      let within = slice_get_within held.items (items_so_far placed) item there in
      let items = ap (λ (place : Place). place.item) (end_there placed.current next.sections held found) in
      let bytes = grown.1 in
      record {
        place = record { item = items_so_far placed + 1; offset = next_offset placed };
        up = (omega (arith, within, items), bytes);
        further = omega (arith, start, some, moves);
      }
