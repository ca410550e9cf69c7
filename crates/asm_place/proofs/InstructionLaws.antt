-- Where the bytes of instructions stand.
use Rattle.std.proofs.Common.{◌≡◌, ℕ, ◌+◌, ◌-◌, ◌≤◌, inl, inr, Bool, true, false, cond, List, [], ◌∷◌, ◌++◌, All, length, take, drop, Option, None, Some, Result, Ok, Err, refl, sym, ap, ◌∙◌, subst, slice_get, arith, append_assoc, length-append}
use Rattle.std.specs.Prelude.{◌==◌, ◌&&◌, not, option_map, slice_range}
use Rattle.std.specs.List.{list_all}
use Rattle.std.specs.Option.{option_map_or}
use Rattle.std.proofs.Math.Seq.{take-append_seam, drop-append_seam}
use Rattle.std.proofs.lemmas.List.Elements.{All-append, All-weaker}
use Rattle.std.proofs.lemmas.Bool.{false≢true}
use Rattle.std.proofs.lemmas.Option.{none-some}
use Rattle.asm_operands.specs.declared.place_faults.PlaceCause.{PlaceCause}
use Rattle.asm_operands.specs.declared.place_faults.PlaceCause.TheVariants.{NumberTooWide, UnknownMnemonic}
use Rattle.asm_base.specs.declared.notes.Noted.{Noted}
use Rattle.asm_base.specs.declared.positions.Pos.{Pos}
use Rattle.asm_base.specs.Tokens.{SpelledToken}
use Rattle.asm_lines.specs.NextStatements.{TokenStatement}
use Rattle.item_contents.specs.declared.contents.Content.TheVariants.{Run}
use Rattle.asm_frags.specs.declared.fields.Field.{Field}
use Rattle.asm_base.specs.declared.causes.FragCause.TheVariants as frag
use Rattle.item_contents.specs.Zeros.{is_zero}
use Rattle.asm_frags.specs.PlainBytes.{field_end, IsBeside}
use Rattle.asm_frags.specs.Writing.{LooseItem, LooseSection, new_item, ends_in_run, takes_zeros_alone, with_item, with_run, with_bytes, bytes_put}
use Rattle.asm_frags.specs.Sections.{with_section_or_fault, put_into_there}
use Rattle.x86_lookup.specs.BareInstructions.{Coded, bare_instruction, BareCodesStand}
use Rattle.asm_base.specs.Refusals.{◌>>=◌}
use Rattle.asm_operands.specs.LayerFaults.{of_sections}
use Rattle.asm_operands.specs.Operands.{is_name, is_dot, names_symbol, begins_with_dot, is_label}
use Rattle.asm_uses.specs.Tables.{Table}
use Rattle.asm_values.specs.State.{Placed, with_table, unless_dot, put_bytes_into}
use Rattle.asm_words.specs.declared.directives.Syntax.{Syntax}
use Rattle.asm_words.specs.declared.directives.Syntax.TheVariants.{Att, Intel}
use Rattle.asm_place.specs.Coding.{lone_code, place_coded, place_instruction}
use Rattle.asm_place.specs.Placing.{place_body, place_label, place_labelled, has_wide_label, place_tokens}
use Rattle.asm_place.specs.Sources.{pos_at, located, place, place_all}
use Rattle.asm_place.specs.Bodies.{AreLabels}
use Rattle.section_laws.specs.Within.{IsWithin, AreWithin, PutsStayWithin}
use Rattle.asm_place.specs.Instructions.{behind_labels, instruction_written, instruction_of, run_end, next_item, next_offset, with_more, IsContinued, Grows, IsPut, StandsAt}
use Rattle.asm_place.proofs.GrowthLemmas.{get_set, All-there, run_keeps, run_within}
use Rattle.asm_place.proofs.Walks.{TablesKeep}
use Rattle.asm_place.proofs.PlacingLaws.{all_grow, all_within}
use Rattle.asm_place.proofs.StatementSplits.{err-ok, same_Ok, both_ok, all_split}

-- bytes that some section takes
left_false : (a b : Bool) → (a && not b) ≡ false → b ≡ false → a ≡ false
left_false true true is not_b = absurd (false≢true (sym not_b))
left_false true false is not_b = absurd (false≢true (sym is))
left_false false b is not_b = refl

module _ (pos : Pos) (number : ℕ) (bytes : List ℕ) (some : list_all is_zero bytes ≡ false) where
  put_test : (sections : List LooseSection) (section : LooseSection) (test : Bool) (new : List LooseSection) → slice_get sections number ≡ Some section
      → (takes_zeros_alone section && not (list_all is_zero bytes)) ≡ test
      → of_sections (with_section_or_fault sections number (cond test (Err frag.BadSection) (Ok (with_bytes pos bytes section)))) ≡ Ok new → IsPut sections new number pos bytes
  put_test sections section true new there test is = err-ok _ new is
  put_test sections section false new there test is = record {
    section = section;
    there = there;
    takes_bytes = left_false _ _ test some;
    put = sym (same_Ok _ new is);
  }

  put_found : (sections : List LooseSection) (found : Option LooseSection) (new : List LooseSection) → slice_get sections number ≡ found
      → of_sections (put_into_there (bytes_put pos bytes) sections number found) ≡ Ok new → IsPut sections new number pos bytes
  put_found sections None new there is = err-ok _ new is
  put_found sections (Some section) new there is = put_test sections section (takes_zeros_alone section && not (list_all is_zero bytes)) new there refl is

  put_last : (before placed : Placed) → put_bytes_into pos number bytes before ≡ Ok placed → IsPut before.sections placed.sections number pos bytes
  unfolding put_bytes_into
  put_last before placed is =
      both_ok _ _ placed is (λ sections pushed made.
      subst (λ s. IsPut before.sections s number pos bytes) (ap (λ (p : Placed). p.sections) (same_Ok _ placed made))
      (put_found before.sections (slice_get before.sections number) sections refl pushed))

-- the instruction that is named
name_test : (named dotted : Bool) (found : Option Coded) (coded : Coded) → cond (named && not dotted) found None ≡ Some coded → (named ≡ true) × (dotted ≡ false) × (found ≡ Some coded)
name_test true true found coded is = absurd (none-some coded is)
name_test true false found coded is = (refl, refl, is)
name_test false dotted found coded is = absurd (none-some coded is)

body_test : (symbol named dotted : Bool) (assignment directive instruction : Result Placed PlaceCause) → named ≡ true → dotted ≡ false
    → cond (symbol && false) assignment (cond (not named) (Err UnknownMnemonic) (cond dotted directive instruction)) ≡ instruction
body_test symbol false dotted assignment directive instruction named not_dotted = absurd (false≢true named)
body_test symbol true true assignment directive instruction named not_dotted = absurd (false≢true (sym not_dotted))
body_test true true false assignment directive instruction named not_dotted = refl
body_test false true false assignment directive instruction named not_dotted = refl

-- the bytes of an instruction
abbrev Puts : Pos → Coded → Placed → Placed → Type 0
Puts pos coded before placed = IsPut before.sections placed.sections before.current pos coded.bytes

name_puts : BareCodesStand → (pos : Pos) (syntax : Syntax) (first : SpelledToken) (before placed : Placed) (coded : Coded) → before.syntax ≡ syntax
    → instruction_written syntax (first ∷ []) ≡ Some coded → place_body pos first [] before ≡ Ok placed → Puts pos coded before placed
unfolding instruction_written place_body place_instruction
name_puts stand pos Intel first before placed coded same written is = absurd (none-some coded written)
name_puts stand pos Att first before placed coded same written is =
    let parts = name_test (is_name first) (begins_with_dot first.bytes) (bare_instruction first.bytes) coded written in
    put_last pos before.current coded.bytes (stand first.bytes coded parts.2) before placed
    (ap (λ found. place_coded pos (option_map (λ coded. coded.bytes) found) (first ∷ []) before) (sym parts.2)
    ∙ (ap (λ syntax. place_coded pos (lone_code syntax (first ∷ [])) (first ∷ []) before) (sym same)
    ∙ (sym (body_test (names_symbol first) (is_name first) (begins_with_dot first.bytes) _ _ _ parts.0 parts.1) ∙ is)))

-- a statement that is placed names no symbol by `.`,
dot_ok : (dot : Bool) (made placed : Placed) → unless_dot dot made ≡ Ok placed → made ≡ placed
dot_ok true made placed is = err-ok _ placed is
dot_ok false made placed is = same_Ok made placed is

-- and the numbers of its labels are not too wide
pub wide_ok : (wide : Bool) (answer : Result Placed PlaceCause) (placed : Placed) → cond wide (Err NumberTooWide) answer ≡ Ok placed → answer ≡ Ok placed
wide_ok true answer placed is = err-ok _ placed is
wide_ok false answer placed is = is

-- what is placed with other symbols is the same but for these
pub same_labels : (before placed : Placed) (table : Table) → with_table before table ≡ placed → AreLabels before placed
same_labels before placed table is = record {
  sections = ap (λ (p : Placed). p.sections) (sym is);
  current = ap (λ (p : Placed). p.current) (sym is);
  previous = ap (λ (p : Placed). p.previous) (sym is);
  stack = ap (λ (p : Placed). p.stack) (sym is);
  syntax = ap (λ (p : Placed). p.syntax) (sym is);
  procedures = ap (λ (p : Placed). p.procedures) (sym is);
  lines = ap (λ (p : Placed). p.lines) (sym is);
  no_warn = ap (λ (p : Placed). p.no_warn) (sym is);
  notes = ap (λ (p : Placed). p.notes) (sym is);
}

-- a label changes symbols alone
pub label_keeps : (pos : Pos) (token : SpelledToken) (before placed : Placed) → place_label pos token before ≡ Ok placed → AreLabels before placed
unfolding place_label
label_keeps pos token before placed is =
    both_ok _ _ placed is (λ table made is_placed.
    same_labels before placed table (dot_ok (is_dot token) (with_table before table) placed is_placed))

not_alone : (syntax : Syntax) (first second : SpelledToken) (rest : List SpelledToken) (coded : Coded) → instruction_written syntax (first ∷ second ∷ rest) ≡ Some coded → ⊥
unfolding instruction_written
not_alone Att first second rest coded written = none-some coded written
not_alone Intel first second rest coded written = none-some coded written

label_test : (pos : Pos) (syntax : Syntax) (test : Bool) (first second : SpelledToken) (rest : List SpelledToken) (before placed : Placed) (coded : Coded)
    → before.syntax ≡ syntax
    → ((labels : Placed) → labels.syntax ≡ syntax → instruction_written syntax (behind_labels rest) ≡ Some coded → place_labelled pos rest labels ≡ Ok placed
    → Puts pos coded labels placed)
    → instruction_written syntax (cond test (behind_labels rest) (first ∷ second ∷ rest)) ≡ Some coded
    → cond test (place_label pos first before >>= (λ labels. place_labelled pos rest labels)) (place_body pos first (second ∷ rest) before) ≡ Ok placed
    → Puts pos coded before placed
label_test pos syntax true first second rest before placed coded same again written is =
    both_ok _ _ placed is (λ labels labelled later.
    let keeps = label_keeps pos first before labels labelled in
    subst (λ sections. IsPut sections placed.sections before.current pos coded.bytes) keeps.sections
    (subst (λ number. IsPut labels.sections placed.sections number pos coded.bytes) keeps.current (again labels (keeps.syntax ∙ same) written later)))
label_test pos syntax false first second rest before placed coded same again written is = absurd (not_alone syntax first second rest coded written)

no_tokens : (syntax : Syntax) (coded : Coded) → instruction_written syntax [] ≡ Some coded → ⊥
unfolding instruction_written
no_tokens Att coded written = none-some coded written
no_tokens Intel coded written = none-some coded written

labelled_put : BareCodesStand → (pos : Pos) (syntax : Syntax) (tokens : List SpelledToken) (before placed : Placed) (coded : Coded) → before.syntax ≡ syntax
    → instruction_written syntax (behind_labels tokens) ≡ Some coded → place_labelled pos tokens before ≡ Ok placed → Puts pos coded before placed
unfolding behind_labels place_labelled
labelled_put stand pos syntax [] before placed coded same written is = absurd (no_tokens syntax coded written)
labelled_put stand pos syntax (first ∷ []) before placed coded same written is = name_puts stand pos syntax first before placed coded same written is
labelled_put stand pos syntax (first ∷ second ∷ rest) before placed coded same written is =
    label_test pos syntax (is_label first second) first second rest before placed coded same (λ labels. labelled_put stand pos syntax rest labels placed coded) written is

-- where the tokens are an instruction, its bytes are put last in the current section, and nothing else
pub instruction_put : BareCodesStand → (pos : Pos) (tokens : List SpelledToken) (before placed : Placed) (coded : Coded)
    → instruction_written before.syntax (behind_labels tokens) ≡ Some coded
    → place_tokens pos tokens before ≡ Ok placed → IsPut before.sections placed.sections before.current pos coded.bytes
unfolding place_tokens
instruction_put stand pos tokens before placed coded written is =
    labelled_put stand pos before.syntax tokens before placed coded refl written (wide_ok (has_wide_label tokens) (place_labelled pos tokens before) placed is)

-- what a statement adds, where the others before and behind it are placed too
pub located_ok : (s : TokenStatement) (notes : List Noted) (answer : Result Placed PlaceCause) (next : Placed) → located s notes answer ≡ Ok next → answer ≡ Ok next
located_ok s notes (Ok more) next is = ap Ok (same_Ok more next is)
located_ok s notes (Err fault) next is = err-ok _ next is

statement_put : BareCodesStand → (s : TokenStatement) (before next : Placed) (coded : Coded) → instruction_of before.syntax s ≡ Some coded → place s before ≡ Ok next → Puts (pos_at s.file s.line) coded before next
unfolding place
statement_put stand s before next coded written is =
    instruction_put stand (pos_at s.file s.line) s.tokens before next coded written
    (located_ok s before.notes (place_tokens (pos_at s.file s.line) s.tokens before) next is)

pub first_placed : {C : Type 0} (s : TokenStatement) (later : List TokenStatement) (placed whole : Placed) → place_all (s ∷ later) placed ≡ Ok whole
    → ((next : Placed) → place s placed ≡ Ok next → place_all later next ≡ Ok whole → C) → C
unfolding place_all
first_placed s later placed whole is go = both_ok (place s placed) (place_all later) whole is go

-- how many items stand before bytes that are put last
pub run_items : (test : Bool) (pos : Pos) (section : LooseSection)
    → length (cond test section (with_item (new_item pos Run) section)).items ≡ cond test (length section.items) (length section.items + 1)
run_items true pos section = refl
run_items false pos section = length-append section.items _

-- bytes behind others, in front of more
between : (front bytes more : List ℕ) → slice_range ((front ++ bytes) ++ more) (length front) (length front + length bytes) ≡ bytes
between front bytes more =
    let count : (length front + length bytes) - length front ≡ length bytes = omega arith in
    ap (λ n. take n (drop (length front) ((front ++ bytes) ++ more))) count
    ∙ (ap (λ all. take (length bytes) (drop (length front) all)) (append_assoc front bytes more)
    ∙ (ap (take (length bytes)) (drop-append_seam front (bytes ++ more)) ∙ take-append_seam bytes more))

-- bytes that are put last in a section stand there later
module _ (pos : Pos) (section : LooseSection) (bytes : List ℕ) (within : IsWithin section) (whole : List LooseSection) (number : ℕ)
    (later : IsContinued (with_bytes pos bytes section) (slice_get whole number)) (takes : (section.kind == 8) ≡ false) where
  abbrev begun : LooseSection
  begun = with_run pos section

  -- the section with the bytes, and with what came later
  abbrev last : LooseSection
  last = with_more (with_bytes pos bytes section) later.bytes later.fields later.items

  ends : length (section.bytes ++ bytes) ≡ length section.bytes + length bytes
  ends = length-append section.bytes bytes

  items_so_far : length begun.items ≡ run_end section
  items_so_far = run_items (ends_in_run section.items) pos section

  fields_beside : All (IsBeside (length section.bytes) (length section.bytes + length bytes)) last.fields
  fields_beside =
      All-append (IsBeside (length section.bytes) (length section.bytes + length bytes)) begun.fields later.fields
      (subst (All (IsBeside (length section.bytes) (length section.bytes + length bytes))) (sym (run_keeps (λ s. s.fields) pos section refl))
      (All-weaker (λ (field : Field). field_end field ≤ length section.bytes) (IsBeside (length section.bytes) (length section.bytes + length bytes))
      (λ field ends. inl ends) section.fields within.fields))
      (All-weaker (λ (field : Field). length (section.bytes ++ bytes) ≤ field.offset) (IsBeside (length section.bytes) (length section.bytes + length bytes))
      (λ field behind. inr (omega (arith, ends, behind))) later.fields later.fields_behind)

  items_before : All (λ item. item.offset ≤ length section.bytes) (take (run_end section) last.items)
  items_before =
      subst (λ n. All (λ (item : LooseItem). item.offset ≤ length section.bytes) (take n last.items)) items_so_far
      (subst (All (λ (item : LooseItem). item.offset ≤ length section.bytes)) (sym (take-append_seam begun.items later.items))
      (run_within pos section within.items))

  items_behind : All (λ item. length section.bytes + length bytes ≤ item.offset) (drop (run_end section) last.items)
  items_behind =
      subst (λ n. All (λ (item : LooseItem). length section.bytes + length bytes ≤ item.offset) (drop n last.items)) items_so_far
      (subst (All (λ (item : LooseItem). length section.bytes + length bytes ≤ item.offset)) (sym (drop-append_seam begun.items later.items))
      (subst (λ n. All (λ (item : LooseItem). n ≤ item.offset) later.items) ends later.items_behind))

  stands : StandsAt whole number (run_end section) (length section.bytes) bytes
  stands = record {
    section = last;
    found = later.there;
    takes_bytes = run_keeps (λ s. s.kind == 8) pos section refl ∙ takes;
    within = omega (arith, length-append (section.bytes ++ bytes) later.bytes, length-append section.bytes bytes);
    enough = omega (arith, items_so_far, length-append begun.items later.items);
    there = between section.bytes bytes later.bytes;
    free = fields_beside;
    before = items_before;
    behind = items_behind;
  }

-- what is put stands there later
put_stands : (before next whole : List LooseSection) (number : ℕ) (pos : Pos) (bytes : List ℕ) → IsPut before next number pos bytes → AreWithin before → Grows next whole
    → StandsAt whole number (option_map_or run_end (slice_get before number) 0) (option_map_or (λ section. length section.bytes) (slice_get before number) 0) bytes
put_stands before next whole number pos bytes put within grows =
    let new = with_bytes pos bytes put.section in
    let there : slice_get next number ≡ Some new = ap (λ sections. slice_get sections number) put.put ∙ get_set before number put.section new put.there in
    subst (λ found. StandsAt whole number (option_map_or run_end found 0) (option_map_or (λ (section : LooseSection). length section.bytes) found 0) bytes) (sym put.there)
    (stands pos put.section bytes (All-there IsWithin before number put.section put.there within) whole number (grows.kept number new there) put.takes_bytes)

-- the bytes of an instruction stand in the whole
pub instruction_there : TablesKeep → PutsStayWithin → BareCodesStand → (front : List TokenStatement) (s : TokenStatement) (later : List TokenStatement) (before placed whole : Placed) (coded : Coded)
    → AreWithin before.sections → place_all front before ≡ Ok placed → place_all (front ++ s ∷ later) before ≡ Ok whole → instruction_of placed.syntax s ≡ Some coded
    → StandsAt whole.sections placed.current (next_item placed) (next_offset placed) coded.bytes
instruction_there tables law stand front s later before placed whole coded within is_front is_whole written =
    first_placed s later placed whole (sym (all_split front (s ∷ later) before ∙ ap (λ r. r >>= place_all (s ∷ later)) is_front) ∙ is_whole)
    (λ next is_next is_later.
    put_stands placed.sections next.sections whole.sections placed.current (pos_at s.file s.line) coded.bytes
    (statement_put stand s placed next coded written is_next) (all_within tables law front before placed is_front within) (all_grow tables later next whole is_later))
