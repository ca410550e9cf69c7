-- A mnemonic that has bytes of its own is read where it stands alone: so each instruction that is placed is seen.
use Rattle.std.proofs.Common.{is_some, ◌≡◌, ℕ, ◌==◌, ◌&&◌, ◌||◌, List, [], ◌∷◌, cond, Bool, true, false, not, Option, Some, None, option_map, slice_get, Result, Ok, Err, refl, zero, suc, sym, ap, ◌∙◌, subst, arith}
use Rattle.std.proofs.lemmas.Bool.{and_parts, both_ways}
use Rattle.std.proofs.lemmas.Bool.Decides.{nat_tests}
use Rattle.std.specs.List.{find, list_all}
use Rattle.std.specs.Result.{is_err}
use Rattle.asm_base.specs.declared.positions.Pos.{Pos}
use Rattle.asm_base.specs.Refusals.{◌>>=◌}
use Rattle.asm_base.specs.Tokens.{SpelledToken}
use Rattle.asm_lines.specs.NextStatements.{TokenStatement}
use Rattle.asm_operands.specs.declared.place_faults.PlaceCause.{PlaceCause}
use Rattle.asm_operands.specs.Operands.{begins_with_label}
use Rattle.asm_words.specs.declared.directives.Syntax.{Syntax}
use Rattle.asm_words.specs.declared.directives.Syntax.TheVariants.{Att, Intel}
use Rattle.asm_values.specs.State.{Placed, with_names, known_here}
use Rattle.amount_forms.specs.Amounts.{in_text_order}
use Rattle.x86_insn.specs.declared.insns.Prefix.TheVariants.{Absent}
use Rattle.x86_insn.specs.declared.insns.Slot.TheVariants as slot
use Rattle.x86_table.specs.declared.forms.Row.{Row}
use Rattle.x86_table.specs.declared.mnemonics.integers.TheConstants.{MOV}
use Rattle.x86_table.specs.Rows.{the_rows}
use Rattle.x86_lookup.specs.declared.names.Named.{Named}
use Rattle.x86_lookup.specs.declared.names.Rule.{Rule}
use Rattle.x86_lookup.specs.declared.names.Rule.TheVariants as rule
use Rattle.x86_lookup.specs.BareInstructions.{takes_no_operand, is_row_of, bare_row, bare_coded, bare_of, bare_instruction, bare_code, BareRowsAreAlone}
use Rattle.x86_lookup.specs.Forms.{takes_all, is_form}
use Rattle.x86_lookup.specs.Mnemonics.{whole_mnemonic, or_lettered, att_mnemonic}
use Rattle.x86_lookup.specs.Names.{the_att_names, has_text}
use Rattle.att_operands.specs.declared.faults.OperandCause.{OperandCause}
use Rattle.att_operands.specs.declared.faults.OperandCause.TheVariants.{UnknownOperandSize}
use Rattle.att_insns.specs.Heads.{head, head_by, head_of}
use Rattle.att_insns.specs.InsnTexts.{InsnText, blank}
use Rattle.att_insns.specs.Reading.{with_all, finished, insn_of}
use Rattle.att_insns.specs.Reading as att
use Rattle.att_insns.specs.Sizes.{agrees, size_by, size_left, of_size, sized}
use Rattle.asm_place.specs.declared.bodies.Body.TheVariants.{Instruction}
use Rattle.asm_place.specs.declared.codes.InsnForms.{InsnForms}
use Rattle.asm_place.specs.Bodies.{body_of}
use Rattle.asm_place.specs.Coding.{InsnShape, shape_in, forms_of, place_insn, place_read, lone_code, insn_by, place_coded, place_instruction}
use Rattle.asm_place.specs.Effects.{view_formed, view_read, view_lone, view_coded, insn_view}
use Rattle.asm_place.specs.Sources.{pos_at, place}
use Rattle.asm_place.proofs.BodyLemmas.{insn_placed, placed_as}
use Rattle.asm_place.proofs.InstructionLaws.{located_ok}

-- LISTS

some_is : {A : Type 0} {m n : A} → Some m ≡ Some n → m ≡ n
some_is h = cc

module _ {X : Type 0} (p : X → Bool) where
  -- what is found stands somewhere and passes
  record IsFound (xs : List X) (x : X) : Type 0 where
    index : ℕ
    there : slice_get xs index ≡ Some x
    passes : p x ≡ true

  found_by : (test : Bool) (first : X) (rest : List X) (x : X) → p first ≡ test → (if_not : find p rest ≡ Some x → IsFound rest x)
      → cond test (Some first) (find p rest) ≡ Some x → IsFound (first ∷ rest) x
  found_by true first rest x is if_not found =
      record { index = 0; there = found; passes = subst (λ y. p y ≡ true) (some_is found) is }
  found_by false first rest x is if_not found =
      let more = if_not found in record { index = suc more.index; there = more.there; passes = more.passes }

  found : (xs : List X) (x : X) → find p xs ≡ Some x → IsFound xs x
  found [] x is = absurd (cc)
  found (first ∷ rest) x is = found_by (p first) first rest x refl (found rest x) is

  -- all pass where each does
  all_pass : (xs : List X) → ((i : ℕ) (x : X) → slice_get xs i ≡ Some x → p x ≡ true) → list_all p xs ≡ true
  all_pass [] each = refl
  all_pass (x ∷ xs) each = ap (λ b. b && list_all p xs) (each 0 x refl) ∙ all_pass xs (λ i y there. each (suc i) y there)

  -- each passes where all do
  one_passes : (xs : List X) (i : ℕ) (x : X) → list_all p xs ≡ true → slice_get xs i ≡ Some x → p x ≡ true
  one_passes [] i x all there = absurd (cc)
  one_passes (y ∷ xs) zero x all there = subst (λ z. p z ≡ true) (some_is there) (and_parts (p y) (list_all p xs) all).0
  one_passes (y ∷ xs) (suc i) x all there = one_passes xs i x (and_parts (p y) (list_all p xs) all).1 there

false_of_not : (a : Bool) → not a ≡ true → a ≡ false
false_of_not true is = absurd (cc)
false_of_not false is = refl

-- RULES

-- by these rules an instruction without operands is another one
abbrev changes : Rule → Bool
changes (rule.Predicate value) = true
changes rule.BySource = true
changes other = false

-- no row of their mnemonics takes no operand
unchanged : list_all (λ named. not (changes named.rule) || list_all (λ r. not (takes_no_operand r && is_row_of named r)) the_rows) the_att_names ≡ true
unfolding the_att_names the_rows
unchanged = refl

no_row : (named : Named) (k : ℕ) (r : Row) (j : ℕ) → slice_get the_att_names k ≡ Some named → slice_get the_rows j ≡ Some r
    → (takes_no_operand r && is_row_of named r) ≡ true → changes named.rule ≡ false
no_row named k r j is there passes = by (changes named.rule) refl
  where
    tests : (changes named.rule ≡ true) → (not (takes_no_operand r && is_row_of named r)) ≡ true
    tests so =
        let each = one_passes (λ named. not (changes named.rule) || list_all (λ r. not (takes_no_operand r && is_row_of named r)) the_rows) the_att_names k named unchanged is in
        one_passes (λ r. not (takes_no_operand r && is_row_of named r)) the_rows j r (subst (λ b. (not b || list_all (λ r. not (takes_no_operand r && is_row_of named r)) the_rows) ≡ true) so each) there

    by : (test : Bool) → changes named.rule ≡ test → changes named.rule ≡ false
    by false so = so
    by true so = absurd (both_ways (takes_no_operand r && is_row_of named r) (false_of_not (takes_no_operand r && is_row_of named r) (tests so)) passes)

-- READING

-- what is read
record IsRead (answer : Result InsnText OperandCause) : Type 0 where
  text : InsnText
  is : answer ≡ Ok text

read_ok : (text : InsnText) → IsRead (Ok text)
read_ok text = record { text = text; is = refl }

-- a mnemonic with a row without operands
module _ (alone : BareRowsAreAlone) (named : Named) (k : ℕ) (is : slice_get the_att_names k ≡ Some named) (r : Row) (j : ℕ) (there : slice_get the_rows j ≡ Some r)
    (passes : (takes_no_operand r && is_row_of named r) ≡ true) where
  -- each row of its name without operands is this one
  one_row : (named.size == 0) ≡ true → (i : ℕ) (s : Row) → slice_get the_rows i ≡ Some s → is_form named.name.0 slot.Absent slot.Absent slot.Absent s ≡ true → s ≡ r
  unfolding takes_all
  one_row free i s stands form =
      let parts = and_parts (s.name.0 == named.name.0) (takes_no_operand s) form in
      let row : is_row_of named s ≡ true = ap (λ b. b && ((named.size == 0) || (s.size == named.size))) parts.0 ∙ ap (λ b. b || (s.size == named.size)) free in
      let same : j ≡ i = alone k j i named r s is there stands passes (ap (λ b. b && is_row_of named s) parts.1 ∙ row) in
      some_is (sym stands ∙ (ap (slice_get the_rows) (sym same) ∙ there))

  by_size : (named.size == 0) ≡ true → (found : Option Row) → ((s : Row) → found ≡ Some s → s ≡ r) → IsRead (of_size (blank named.name named.size Absent) (size_by named.name.0 slot.Absent slot.Absent slot.Absent found))
  by_size free None only = read_ok _
  by_size free (Some s) only =
      let all : list_all (agrees named.name.0 slot.Absent slot.Absent slot.Absent s.size) the_rows ≡ true =
      all_pass (agrees named.name.0 slot.Absent slot.Absent slot.Absent s.size) the_rows (λ i t stands. agree s (only s refl) i t stands) in
      subst (λ b. IsRead (of_size (blank named.name named.size Absent) (cond b (Ok s.size) (Err UnknownOperandSize)))) (sym all) (read_ok _)
    where
      agree_by : (form : Bool) (s t : Row) → s ≡ r → is_form named.name.0 slot.Absent slot.Absent slot.Absent t ≡ form → (form ≡ true → t ≡ r) → (not form || (t.size == s.size)) ≡ true
      agree_by false s t is_s is_form one = refl
      agree_by true s t is_s is_form one = same_size t.size s.size (ap (λ (x : Row). x.size) (one refl) ∙ sym (ap (λ (x : Row). x.size) is_s)) where
        same_size : (one other : ℕ) → one ≡ other → (one == other) ≡ true
        same_size one other same = grind (arith, nat_tests)

      agree : (s : Row) → s ≡ r → (i : ℕ) (t : Row) → slice_get the_rows i ≡ Some t → agrees named.name.0 slot.Absent slot.Absent slot.Absent s.size t ≡ true
      agree s is_s i t stands =
          agree_by (is_form named.name.0 slot.Absent slot.Absent slot.Absent t) s t is_s refl (λ form. one_row free i t stands form)

  found_only : (named.size == 0) ≡ true → (s : Row) → find (is_form named.name.0 slot.Absent slot.Absent slot.Absent) the_rows ≡ Some s → s ≡ r
  found_only free s is_found =
      let at = found (is_form named.name.0 slot.Absent slot.Absent slot.Absent) the_rows s is_found in
      one_row free at.index s at.there at.passes

  sized_by : (test : Bool) → (named.size == 0) ≡ test
      → IsRead (cond test (of_size (blank named.name named.size Absent) (size_left named.name.0 slot.Absent slot.Absent slot.Absent)) (Ok (blank named.name named.size Absent)))
  unfolding size_left
  sized_by true free = by_size free (find (is_form named.name.0 slot.Absent slot.Absent slot.Absent) the_rows) (found_only free)
  sized_by false free = read_ok _

  -- the instruction with its size
  sized_read : IsRead (sized (blank named.name named.size Absent))
  sized_read = sized_by (named.size == 0) refl

  -- `movq` alone is `mov` of 64 bits where no letter says a size; no row takes it, and it is read all the same
  moved_by : (test : Bool) → (named.size == 0) ≡ test
      → IsRead (sized (cond (not test) (blank named.name named.size Absent) (record (blank named.name named.size Absent) { name = record { 0 = MOV }; size = 64 })))
  moved_by true free = read_ok _
  moved_by false free = sized_read

  -- by any rule that leaves it as it is
  ruled_read : (by : Rule) → changes by ≡ false → IsRead (finished by (blank named.name named.size Absent))
  ruled_read rule.Plain kept = sized_read
  ruled_read (rule.Predicate value) kept = absurd (cc)
  ruled_read rule.ByOne kept = sized_read
  ruled_read rule.ByCl kept = sized_read
  ruled_read rule.OneForTwo kept = sized_read
  ruled_read rule.MemoryFirst kept = sized_read
  ruled_read rule.AccumulatorFirst kept = sized_read
  ruled_read rule.WithXmm0 kept = sized_read
  ruled_read rule.Branch kept = sized_read
  ruled_read rule.QuadIsMovq kept = sized_read
  ruled_read rule.LongMemory kept = sized_read
  ruled_read rule.OrMove kept = moved_by (named.size == 0) refl
  ruled_read rule.BySource kept = absurd (cc)
  ruled_read (rule.OrString name) kept = sized_read

  head_read : (name : SpelledToken) → IsRead (att.insn_by (name ∷ []) (Some (head named Absent 1)))
  unfolding with_all
  head_read name = ruled_read named.rule (no_row named k r j is there passes)

row_read : BareRowsAreAlone → (name : SpelledToken) (named : Named) (k : ℕ) → slice_get the_att_names k ≡ Some named → (row : Option Row) → bare_row named ≡ row
    → (bytes : List ℕ) → option_map (λ coded. coded.bytes) (option_map bare_coded row) ≡ Some bytes → IsRead (att.insn_by (name ∷ []) (Some (head named Absent 1)))
row_read alone name named k is None row bytes some = absurd (cc)
row_read alone name named k is (Some r) row bytes some =
    let at = found (λ r. takes_no_operand r && is_row_of named r) the_rows r row in
    head_read alone named k is r at.index at.there at.passes name

named_read : BareRowsAreAlone → (name : SpelledToken) (named : Option Named) → find (has_text name.bytes) the_att_names ≡ named
    → (bytes : List ℕ) → option_map (λ coded. coded.bytes) (bare_of named) ≡ Some bytes → IsRead (att.insn_by (name ∷ []) (head_by (name ∷ []) (or_lettered name.bytes named)))
named_read alone name None found_none bytes some = absurd (cc)
named_read alone name (Some named) found_one bytes some =
    let at = found (has_text name.bytes) the_att_names named found_one in
    row_read alone name named at.index at.there (bare_row named) refl bytes some

-- a mnemonic that has bytes of its own is read where it stands alone in AT&T syntax
lone_read : BareRowsAreAlone → (name : SpelledToken) (bytes : List ℕ) → bare_code name.bytes ≡ Some bytes → is_err (insn_of (name ∷ [])) ≡ false
unfolding bare_instruction insn_of head_of att_mnemonic whole_mnemonic
lone_read alone name bytes some =
    let read = named_read alone name (find (has_text name.bytes) the_att_names) refl bytes some in
    ap (λ (answer : Result InsnText OperandCause). is_err answer) read.is

-- in Intel syntax none has
pub lone_is_read : BareRowsAreAlone → (syntax : Syntax) (tokens : List SpelledToken) (bytes : List ℕ) → lone_code syntax tokens ≡ Some bytes → is_err (insn_by syntax tokens) ≡ false
lone_is_read alone Intel tokens bytes some = absurd (cc)
lone_is_read alone Att [] bytes some = absurd (cc)
lone_is_read alone Att (name ∷ []) bytes some = lone_read alone name bytes some
lone_is_read alone Att (name ∷ operand ∷ rest) bytes some = absurd (cc)

-- WHAT IS SEEN

view_of_read : (read : Result InsnText OperandCause) → is_err read ≡ false → is_some (view_lone read) ≡ true
view_of_read (Ok text) is = refl
view_of_read (Err cause) is = absurd (cc)

view_of_forms : (shape : InsnShape) (forms : Result InsnForms PlaceCause) (put : InsnForms → Result Placed PlaceCause) (placed : Placed) → (forms >>= put) ≡ Ok placed
    → is_some (view_formed shape forms) ≡ true
view_of_forms shape (Ok forms) put placed is = refl
view_of_forms shape (Err cause) put placed is = absurd (cc)

view_of_text : (pos : Pos) (read : Result InsnText OperandCause) (before placed : Placed) → place_read pos read before ≡ Ok placed → is_some (view_read pos read before) ≡ true
unfolding place_insn
view_of_text pos (Ok text) before placed is =
    view_of_forms (shape_in text)
    (forms_of (known_here (with_names pos (in_text_order before.syntax text.immediate.tree text.displacement.tree) before)) text.immediate.tree text.displacement.tree) _ placed is
view_of_text pos (Err cause) before placed is = absurd (cc)

view_of_code : (pos : Pos) (code : Option (List ℕ)) (tokens : List SpelledToken) (before placed : Placed)
    → ((bytes : List ℕ) → code ≡ Some bytes → is_err (insn_by before.syntax tokens) ≡ false)
    → place_coded pos code tokens before ≡ Ok placed → is_some (view_coded pos code (insn_by before.syntax tokens) before) ≡ true
view_of_code pos None tokens before placed read is = view_of_text pos (insn_by before.syntax tokens) before placed is
view_of_code pos (Some bytes) tokens before placed read is = view_of_read (insn_by before.syntax tokens) (read bytes refl)

view_of_insn : BareRowsAreAlone → (pos : Pos) (tokens : List SpelledToken) (before placed : Placed) → place_instruction pos tokens before ≡ Ok placed
    → is_some (insn_view pos tokens before) ≡ true
unfolding place_instruction
view_of_insn alone pos tokens before placed is =
    view_of_code pos (lone_code before.syntax tokens) tokens before placed (lone_is_read alone before.syntax tokens) is

-- each instruction that is placed is seen
pub insn_is_seen : BareRowsAreAlone → (s : TokenStatement) (before placed : Placed) → begins_with_label s.tokens ≡ false → body_of s.tokens ≡ Instruction
    → place s before ≡ Ok placed → is_some (insn_view (pos_at s.file s.line) s.tokens before) ≡ true
insn_is_seen alone s before placed bare kind is =
    let pos = pos_at s.file s.line in
    view_of_insn alone pos s.tokens before placed
    (located_ok s before.notes (place_instruction pos s.tokens before) placed (sym (placed_as s before _ (insn_placed pos s.tokens before bare kind)) ∙ is))
