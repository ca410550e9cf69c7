-- What is seen of a mnemonic that stands alone is the instruction that its bytes read as.
use Rattle.std.proofs.Common.{◌≡◌, ℕ, zero, suc, ◌==◌, ◌&&◌, ◌||◌, List, [], ◌∷◌, cond, Bool, true, false, not, Option, Some, None, option_map, slice_get, Result, Ok, Err, refl, sym, ap, ◌∙◌, subst, arith}
use Rattle.std.proofs.lemmas.Bool.{and_parts, both_ways}
use Rattle.std.proofs.lemmas.Bool.Decides.{nat_tests}
use Rattle.std.specs.List.{find, list_all}
use Rattle.std.proofs.lemmas.Option.{none-some, same_Some}
use Rattle.asm_base.specs.declared.positions.Pos.{Pos}
use Rattle.asm_base.specs.Tokens.{SpelledToken}
use Rattle.asm_operands.specs.Operands.{is_name, begins_with_dot}
use Rattle.asm_words.specs.declared.directives.Syntax.{Syntax}
use Rattle.asm_words.specs.declared.directives.Syntax.TheVariants.{Att, Intel}
use Rattle.asm_values.specs.State.{Placed}
use Rattle.x86_insn.specs.declared.insns.Prefix.TheVariants.{Absent}
use Rattle.x86_insn.specs.declared.insns.Slot.TheVariants as slot
use Rattle.x86_table.specs.declared.forms.Row.{Row}
use Rattle.x86_table.specs.Rows.{the_rows}
use Rattle.x86_lookup.specs.declared.names.Named.{Named}
use Rattle.x86_lookup.specs.declared.names.Rule.{Rule}
use Rattle.x86_lookup.specs.declared.names.Rule.TheVariants as rule
use Rattle.x86_lookup.specs.BareInstructions.{Coded, takes_no_operand, is_row_of, bare_row, bare_view, bare_coded, bare_of, bare_instruction, BareRowsAreAlone}
use Rattle.x86_lookup.specs.Forms.{takes_all, is_form}
use Rattle.x86_lookup.specs.Mnemonics.{whole_mnemonic, or_lettered, att_mnemonic}
use Rattle.x86_lookup.specs.Names.{the_att_names, has_text}
use Rattle.att_operands.specs.declared.faults.OperandCause.{OperandCause}
use Rattle.att_operands.specs.declared.faults.OperandCause.TheVariants.{UnknownOperandSize}
use Rattle.att_insns.specs.Heads.{head, head_by, head_of}
use Rattle.att_insns.specs.InsnTexts.{InsnText, blank}
use Rattle.att_insns.specs.Reading.{with_all, finished, insn_of}
use Rattle.att_insns.specs.Reading as att
use Rattle.att_insns.specs.Sizes.{agrees, size_by, size_left, of_size, sized}
use Rattle.asm_place.specs.Coding.{lone_code, insn_by}
use Rattle.asm_place.specs.Effects.{view_lone, view_coded}
use Rattle.asm_place.specs.Instructions.{instruction_written}
use Rattle.code_laws.specs.Instructions.{BareInstructionsAreSeen}

-- LISTS

module _ {X : Type 0} (p : X → Bool) where
  -- what is found stands somewhere and passes
  record IsFound (xs : List X) (x : X) : Type 0 where
    index : ℕ
    there : slice_get xs index ≡ Some x
    passes : p x ≡ true

  found_by : (test : Bool) (first : X) (rest : List X) (x : X) → p first ≡ test → (if_not : find p rest ≡ Some x → IsFound rest x)
      → cond test (Some first) (find p rest) ≡ Some x → IsFound (first ∷ rest) x
  found_by true first rest x is if_not found =
      record { index = 0; there = found; passes = subst (λ y. p y ≡ true) (same_Some first x found) is }
  found_by false first rest x is if_not found =
      let more = if_not found in record { index = suc more.index; there = more.there; passes = more.passes }

  found : (xs : List X) (x : X) → find p xs ≡ Some x → IsFound xs x
  found [] x is = absurd (none-some x is)
  found (first ∷ rest) x is = found_by (p first) first rest x refl (found rest x) is

  none_by : (test : Bool) (first : X) (rest : List X) → p first ≡ test → cond test (Some first) (find p rest) ≡ None → (p first ≡ false) × (find p rest ≡ None)
  none_by true first rest is none = absurd (none-some first (sym none))
  none_by false first rest is none = (is, none)

  -- where none is found, none passes
  none_passes : (xs : List X) (i : ℕ) (x : X) → find p xs ≡ None → slice_get xs i ≡ Some x → p x ≡ false
  none_passes [] i x none is = absurd (none-some x is)
  none_passes (first ∷ rest) zero x none is = subst (λ y. p y ≡ false) (same_Some first x is) (none_by (p first) first rest refl none).0
  none_passes (first ∷ rest) (suc i) x none is = none_passes rest i x (none_by (p first) first rest refl none).1 is

  -- all pass where each does
  all_pass : (xs : List X) → ((i : ℕ) (x : X) → slice_get xs i ≡ Some x → p x ≡ true) → list_all p xs ≡ true
  all_pass [] each = refl
  all_pass (x ∷ xs) each = ap (λ b. b && list_all p xs) (each 0 x refl) ∙ all_pass xs (λ i y there. each (suc i) y there)

  -- each passes where all do
  one_passes : (xs : List X) (i : ℕ) (x : X) → list_all p xs ≡ true → slice_get xs i ≡ Some x → p x ≡ true
  one_passes [] i x all is = absurd (none-some x is)
  one_passes (y ∷ xs) zero x all is = subst (λ z. p z ≡ true) (same_Some y x is) (and_parts (p y) (list_all p xs) all).0
  one_passes (y ∷ xs) (suc i) x all is = one_passes xs i x (and_parts (p y) (list_all p xs) all).1 is

false_of_not : (a : Bool) → not a ≡ true → a ≡ false
false_of_not true is = absurd (cc)
false_of_not false is = refl

-- RULES

-- by these rules an instruction without operands may be another one
abbrev changes : Rule → Bool
changes (rule.Predicate value) = true
changes rule.BySource = true
changes rule.OrMove = true
changes other = false

-- no row of their mnemonics takes no operand
unchanged : list_all (λ named. not (changes named.rule) || list_all (λ r. not (takes_no_operand r && is_row_of named r)) the_rows) the_att_names ≡ true
unfolding the_att_names the_rows
unchanged = refl

no_row : (named : Named) (k : ℕ) (r : Row) (j : ℕ) → slice_get the_att_names k ≡ Some named → slice_get the_rows j ≡ Some r
    → (takes_no_operand r && is_row_of named r) ≡ true → changes named.rule ≡ false
no_row named k r j is there passes = by (changes named.rule) refl
  where
    tests : (changes named.rule ≡ true) → (not (takes_no_operand r && is_row_of named r)) ≡ true
    tests so =
        let each = one_passes (λ named. not (changes named.rule) || list_all (λ r. not (takes_no_operand r && is_row_of named r)) the_rows) the_att_names k named unchanged is in
        one_passes (λ r. not (takes_no_operand r && is_row_of named r)) the_rows j r (subst (λ b. (not b || list_all (λ r. not (takes_no_operand r && is_row_of named r)) the_rows) ≡ true) so each) there

    by : (test : Bool) → changes named.rule ≡ test → changes named.rule ≡ false
    by false so = so
    by true so = absurd (both_ways (takes_no_operand r && is_row_of named r) (false_of_not (takes_no_operand r && is_row_of named r) (tests so)) passes)

-- READING

-- what is read is the instruction without operands of a row
record IsReadAs (r : Row) (answer : Result InsnText OperandCause) : Type 0 where
  is : answer ≡ Ok (blank r.name r.size Absent)

either_test : (free : Bool) (size other : ℕ) → free ≡ false → (free || (other == size)) ≡ true → other ≡ size
either_test true size other fixed is = absurd (cc)
either_test false size other fixed is = equal other size is
  where
    equal : (a b : ℕ) → (a == b) ≡ true → a ≡ b
    equal a b is = grind (arith, nat_tests)

same_number : (a b : ℕ) → (a == b) ≡ true → a ≡ b
same_number a b is = grind (arith, nat_tests)

-- a mnemonic with a row without operands
module _ (alone : BareRowsAreAlone) (named : Named) (k : ℕ) (is : slice_get the_att_names k ≡ Some named) (r : Row) (j : ℕ) (there : slice_get the_rows j ≡ Some r)
    (passes : (takes_no_operand r && is_row_of named r) ≡ true) where
  parts : (takes_no_operand r ≡ true) × (is_row_of named r ≡ true)
  parts = and_parts (takes_no_operand r) (is_row_of named r) passes

  row_parts : ((r.name.0 == named.name.0) ≡ true) × (((named.size == 0) || (r.size == named.size)) ≡ true)
  row_parts = and_parts (r.name.0 == named.name.0) ((named.size == 0) || (r.size == named.size)) parts.1

  same_name : named.name ≡ r.name
  same_name = ap (λ n. record { 0 = n }) (sym (same_number r.name.0 named.name.0 row_parts.0))

  -- each row of its name without operands is this one
  one_row : (named.size == 0) ≡ true → (i : ℕ) (s : Row) → slice_get the_rows i ≡ Some s → is_form named.name.0 slot.Absent slot.Absent slot.Absent s ≡ true → s ≡ r
  unfolding takes_all
  one_row free i s stands form =
      let both = and_parts (s.name.0 == named.name.0) (takes_no_operand s) form in
      let row : is_row_of named s ≡ true = ap (λ b. b && ((named.size == 0) || (s.size == named.size))) both.0 ∙ ap (λ b. b || (s.size == named.size)) free in
      let same : j ≡ i = alone k j i named r s is there stands passes (ap (λ b. b && is_row_of named s) both.1 ∙ row) in
      same_Some s r (sym stands ∙ (ap (slice_get the_rows) (sym same) ∙ there))

  -- and this one is one of its name
  form : is_form named.name.0 slot.Absent slot.Absent slot.Absent r ≡ true
  unfolding takes_all
  form = ap (λ b. b && takes_no_operand r) row_parts.0 ∙ parts.0

  by_size : (named.size == 0) ≡ true → (found : Option Row) → find (is_form named.name.0 slot.Absent slot.Absent slot.Absent) the_rows ≡ found
      → ((s : Row) → found ≡ Some s → s ≡ r) → IsReadAs r (of_size (blank named.name named.size Absent) (size_by named.name.0 slot.Absent slot.Absent slot.Absent found))
  by_size free None none only = absurd (both_ways (is_form named.name.0 slot.Absent slot.Absent slot.Absent r)
      (none_passes (is_form named.name.0 slot.Absent slot.Absent slot.Absent) the_rows j r none there) form)
  by_size free (Some s) at only =
      let all : list_all (agrees named.name.0 slot.Absent slot.Absent slot.Absent s.size) the_rows ≡ true =
      all_pass (agrees named.name.0 slot.Absent slot.Absent slot.Absent s.size) the_rows (λ i t stands. agree s (only s refl) i t stands) in
      subst (λ b. IsReadAs r (of_size (blank named.name named.size Absent) (cond b (Ok s.size) (Err UnknownOperandSize)))) (sym all)
      (record { is = ap (λ n. Ok (blank n s.size Absent)) same_name ∙ ap (λ (x : Row). Ok (blank r.name x.size Absent)) (only s refl) })
    where
      agree_by : (form : Bool) (s t : Row) → s ≡ r → is_form named.name.0 slot.Absent slot.Absent slot.Absent t ≡ form → (form ≡ true → t ≡ r) → (not form || (t.size == s.size)) ≡ true
      agree_by false s t is_s is_form one = refl
      agree_by true s t is_s is_form one = same_size t.size s.size (ap (λ (x : Row). x.size) (one refl) ∙ sym (ap (λ (x : Row). x.size) is_s)) where
        same_size : (one other : ℕ) → one ≡ other → (one == other) ≡ true
        same_size one other same = grind (arith, nat_tests)

      agree : (s : Row) → s ≡ r → (i : ℕ) (t : Row) → slice_get the_rows i ≡ Some t → agrees named.name.0 slot.Absent slot.Absent slot.Absent s.size t ≡ true
      agree s is_s i t stands =
          agree_by (is_form named.name.0 slot.Absent slot.Absent slot.Absent t) s t is_s refl (λ form. one_row free i t stands form)

  found_only : (named.size == 0) ≡ true → (s : Row) → find (is_form named.name.0 slot.Absent slot.Absent slot.Absent) the_rows ≡ Some s → s ≡ r
  found_only free s is_found =
      let at = found (is_form named.name.0 slot.Absent slot.Absent slot.Absent) the_rows s is_found in
      one_row free at.index s at.there at.passes

  sized_by : (test : Bool) → (named.size == 0) ≡ test
      → IsReadAs r (cond test (of_size (blank named.name named.size Absent) (size_left named.name.0 slot.Absent slot.Absent slot.Absent)) (Ok (blank named.name named.size Absent)))
  unfolding size_left
  sized_by true free = by_size free (find (is_form named.name.0 slot.Absent slot.Absent slot.Absent) the_rows) refl (found_only free)
  sized_by false free =
      let size : r.size ≡ named.size = either_test (named.size == 0) named.size r.size free row_parts.1 in
      record { is = ap (λ n. Ok (blank n named.size Absent)) same_name ∙ ap (λ n. Ok (blank r.name n Absent)) (sym size) }

  -- the instruction with its size
  sized_read : IsReadAs r (sized (blank named.name named.size Absent))
  sized_read = sized_by (named.size == 0) refl

  -- by any rule that leaves it as it is
  ruled_read : (by : Rule) → changes by ≡ false → IsReadAs r (finished by (blank named.name named.size Absent))
  ruled_read rule.Plain kept = sized_read
  ruled_read (rule.Predicate value) kept = absurd (cc)
  ruled_read rule.ByOne kept = sized_read
  ruled_read rule.ByCl kept = sized_read
  ruled_read rule.OneForTwo kept = sized_read
  ruled_read rule.MemoryFirst kept = sized_read
  ruled_read rule.AccumulatorFirst kept = sized_read
  ruled_read rule.WithXmm0 kept = sized_read
  ruled_read rule.Branch kept = sized_read
  ruled_read rule.QuadIsMovq kept = sized_read
  ruled_read rule.LongMemory kept = sized_read
  ruled_read rule.OrMove kept = absurd (cc)
  ruled_read rule.BySource kept = absurd (cc)
  ruled_read (rule.OrString name) kept = sized_read

  head_read : (name : SpelledToken) → IsReadAs r (att.insn_by (name ∷ []) (Some (head named Absent 1)))
  unfolding with_all
  head_read name = ruled_read named.rule (no_row named k r j is there passes)

-- what is seen then
seen_as : (r : Row) (answer : Result InsnText OperandCause) → IsReadAs r answer → view_lone answer ≡ Some (bare_view r)
seen_as r answer read = ap view_lone read.is

row_seen : BareRowsAreAlone → (name : SpelledToken) (named : Named) (k : ℕ) → slice_get the_att_names k ≡ Some named → (row : Option Row) → bare_row named ≡ row
    → (coded : Coded) → option_map bare_coded row ≡ Some coded → view_lone (att.insn_by (name ∷ []) (Some (head named Absent 1))) ≡ Some coded.insn
row_seen alone name named k is None row coded some = absurd (none-some coded some)
row_seen alone name named k is (Some r) row coded some =
    let at = found (λ r. takes_no_operand r && is_row_of named r) the_rows r row in
    seen_as r (att.insn_by (name ∷ []) (Some (head named Absent 1))) (head_read alone named k is r at.index at.there at.passes name)
    ∙ ap (λ (c : Coded). Some c.insn) (same_Some (bare_coded r) coded some)

named_seen : BareRowsAreAlone → (name : SpelledToken) (named : Option Named) → find (has_text name.bytes) the_att_names ≡ named
    → (coded : Coded) → bare_of named ≡ Some coded → view_lone (att.insn_by (name ∷ []) (head_by (name ∷ []) (or_lettered name.bytes named))) ≡ Some coded.insn
named_seen alone name None found_none coded some = absurd (none-some coded some)
named_seen alone name (Some named) found_one coded some =
    let at = found (has_text name.bytes) the_att_names named found_one in
    row_seen alone name named at.index at.there (bare_row named) refl coded some

lone_seen : BareRowsAreAlone → (name : SpelledToken) (coded : Coded) → bare_instruction name.bytes ≡ Some coded → view_lone (insn_of (name ∷ [])) ≡ Some coded.insn
unfolding bare_instruction insn_of head_of att_mnemonic whole_mnemonic
lone_seen alone name coded some = named_seen alone name (find (has_text name.bytes) the_att_names) refl coded some

tested : BareRowsAreAlone → (test : Bool) (pos : Pos) (name : SpelledToken) (before : Placed) (coded : Coded) → cond test (bare_instruction name.bytes) None ≡ Some coded
    → view_coded pos (option_map (λ (c : Coded). c.bytes) (bare_instruction name.bytes)) (insn_of (name ∷ [])) before ≡ Some coded.insn
tested alone true pos name before coded is =
    ap (λ found. view_coded pos (option_map (λ (c : Coded). c.bytes) found) (insn_of (name ∷ [])) before) is ∙ lone_seen alone name coded is
tested alone false pos name before coded is = absurd (none-some coded is)

seen_in : BareRowsAreAlone → (syntax : Syntax) (pos : Pos) (tokens : List SpelledToken) (before : Placed) (coded : Coded) → instruction_written syntax tokens ≡ Some coded
    → view_coded pos (lone_code syntax tokens) (insn_by syntax tokens) before ≡ Some coded.insn
unfolding instruction_written
seen_in alone Intel pos tokens before coded is = absurd (none-some coded is)
seen_in alone Att pos [] before coded is = absurd (none-some coded is)
seen_in alone Att pos (name ∷ []) before coded is = tested alone (is_name name && not (begins_with_dot name.bytes)) pos name before coded is
seen_in alone Att pos (name ∷ operand ∷ rest) before coded is = absurd (none-some coded is)

pub bare_instructions_are_seen : BareRowsAreAlone → BareInstructionsAreSeen
bare_instructions_are_seen alone pos tokens before coded is = seen_in alone before.syntax pos tokens before coded is
