-- Where the items of direct jumps stand, and what their bytes read as.
use Rattle.std.proofs.Common.{◌≡◌, ℕ, ◌+◌, ◌-◌, ◌≤◌, ◌||◌, ◌&&◌, Bool, true, false, cond, nat_lt, List, [], ◌∷◌, ◌++◌, All, length, take, Option, None, Some, Ok, Err, refl, sym, ap, ◌∙◌, subst, set, slice_get, arith, append_assoc, length-append}
use Rattle.std.specs.Prelude.{◌==◌, option_map}
use Rattle.std.specs.Option.{option_map_or}
use Rattle.std.proofs.Math.Seq.{take-append_seam}
use Rattle.std.proofs.lemmas.Bool.{and_parts, eqb-true}
use Rattle.std.proofs.lemmas.Bool.Decides.{nat_tests}
use Rattle.std.proofs.lemmas.Option.{none-some, same_Some}
use Rattle.asm_base.specs.Refusals.{◌>>=◌}
use Rattle.asm_base.specs.Tokens.{SpelledToken}
use Rattle.asm_base.specs.declared.positions.Pos.{Pos}
use Rattle.asm_lines.specs.NextStatements.{TokenStatement}
use Rattle.asm_expr.specs.Forms.{Form}
use Rattle.asm_frags.specs.declared.fields.Field.{Field}
use Rattle.asm_frags.specs.declared.fields.FieldSize.TheVariants.{Four}
use Rattle.asm_base.specs.declared.causes.FragCause.TheVariants as frag
use Rattle.asm_frags.specs.Sections.{with_section_or_fault, put_into_there}
use Rattle.asm_frags.specs.Writing.{LooseItem, LooseSection, new_item, item_behind, with_growing, growing_put, takes_zeros_alone}
use Rattle.item_bytes.specs.declared.jumps.Condition.{Condition}
use Rattle.item_bytes.specs.Jumps.{number_of, condition_of, jump_bytes, jump_distance}
use Rattle.item_contents.specs.declared.contents.Content.TheVariants.{Growing}
use Rattle.item_contents.specs.declared.kinds.Growth.{Growth}
use Rattle.item_contents.specs.declared.kinds.Growth.TheVariants.{Jump}
use Rattle.jump_laws.specs.JumpReadings.{jump_name, jump_over, JumpCodesRead}
use Rattle.asm_operands.specs.LayerFaults.{of_sections}
use Rattle.asm_uses.specs.Places.{end_naming}
use Rattle.asm_uses.specs.Tables.{naming_of}
use Rattle.asm_values.specs.State.{Placed, with_names, here, known_here, put_growing_into}
use Rattle.att_insns.specs.InsnTexts.{InsnText}
use Rattle.x86_insn.specs.declared.amounts.FieldKind.TheVariants.{Branch}
use Rattle.x86_insn.specs.declared.amounts.Suffix.{Suffix}
use Rattle.x86_insn.specs.declared.insns.Prefix.{Prefix}
use Rattle.x86_insn.specs.declared.insns.Prefix.TheVariants as prefix
use Rattle.x86_table.specs.declared.mnemonics.integers.TheConstants.{JMP, JO, JG}
use Rattle.x86_table.specs.Reads.{Reads}
use Rattle.asm_place.specs.declared.codes.InsnForms.{InsnForms}
use Rattle.amount_forms.specs.Amounts.{in_text_order}
use Rattle.asm_place.specs.Coding.{shape_in, forms_of, keeps_place, put_by_jump, put_insn, is_target, is_absent, is_bare, jump_named, place_insn, place_text}
use Rattle.asm_place.specs.Placing.{has_wide_label, place_labelled, place_tokens}
use Rattle.asm_place.specs.Sources.{pos_at, place, place_all}
use Rattle.section_laws.specs.Within.{IsWithin, AreWithin, PutsStayWithin}
use Rattle.asm_place.specs.Instructions.{behind_labels, with_more, IsContinued, Grows}
use Rattle.asm_place.specs.CodePlaces.{insn_written, insn_in, known_in, jump_in}
use Rattle.asm_place.specs.JumpPlaces.{jump_form, IsJumpPut, items_so_far, jump_field, JumpStandsAt, JumpStands, jump_written}
use Rattle.asm_place.proofs.GrowthLemmas.{get_set, All-there}
use Rattle.asm_place.proofs.Walks.{TablesKeep}
use Rattle.asm_place.proofs.PlacingLaws.{all_grow, all_within}
use Rattle.asm_place.proofs.StatementSplits.{err-ok, same_Ok, both_ok, all_split}
use Rattle.asm_place.proofs.InstructionLaws.{wide_ok, located_ok, first_placed}
use Rattle.asm_place.proofs.CodeLaws.{labels_split, labels_keep, behind_is, table_keeps}

-- WHAT IS PUT

-- an item that grows is put last
module _ (pos : Pos) (number : ℕ) (kind : Growth) (suffix : Option Suffix) (form : Form) where
  -- it is put last in the section of this number
  pub record IsGrown (before after : List LooseSection) : Type 0 where
    pub section : LooseSection
    pub there : slice_get before number ≡ Some section
    pub put : after ≡ set before number (with_growing pos number kind suffix form section)

  grown_test : (sections new : List LooseSection) (section : LooseSection) (test : Bool)
      → of_sections (with_section_or_fault sections number (cond test (Err frag.BadSection) (Ok (with_growing pos number kind suffix form section)))) ≡ Ok new
      → new ≡ set sections number (with_growing pos number kind suffix form section)
  grown_test sections new section true is = err-ok _ new is
  grown_test sections new section false is = sym (same_Ok _ new is)

  grown_found : (sections : List LooseSection) (found : Option LooseSection) (new : List LooseSection) → slice_get sections number ≡ found
      → of_sections (put_into_there (growing_put pos number kind suffix form) sections number found) ≡ Ok new → IsGrown sections new
  grown_found sections None new there is = err-ok _ new is
  grown_found sections (Some section) new there is =
      record { section = section; there = there; put = grown_test sections new section (takes_zeros_alone section) is }

  grown_last : (before placed : Placed) → put_growing_into pos number kind suffix form before ≡ Ok placed → IsGrown before.sections placed.sections
  unfolding put_growing_into
  grown_last before placed is =
      both_ok _ _ placed is (λ sections pushed made.
      subst (IsGrown before.sections) (ap (λ (p : Placed). p.sections) (same_Ok _ placed made))
      (grown_found before.sections (slice_get before.sections number) sections refl pushed))

-- a jump whose names have symbols
pub record IsJumpText (pos : Pos) (text : InsnText) (condition : Option Condition) (before placed : Placed) : Type 0 where
  pub forms : InsnForms
  pub forms_are : forms_of (known_in pos text before) text.immediate.tree text.displacement.tree ≡ Ok forms
  pub grown : IsGrown pos before.current (Jump condition) text.displacement.suffix (jump_form forms) before.sections placed.sections

jump_text : (pos : Pos) (text : InsnText) (condition : Option Condition) (before placed : Placed) → jump_in text ≡ Some condition
    → place_text pos text before ≡ Ok placed → IsJumpText pos text condition before placed
unfolding place_insn put_insn
jump_text pos text condition before placed jump is =
    let trees = in_text_order before.syntax text.immediate.tree text.displacement.tree in
    let named = with_names pos trees before in
    both_ok _ _ placed is (λ forms forms_are named_is.
    both_ok _ _ placed named_is (λ put put_is end_is.
    let kind = Jump condition in
    let suffix = text.displacement.suffix in
    let form = jump_form forms in
    let grown = grown_last pos before.current kind suffix form named put (sym (ap (λ jump. put_by_jump jump pos (shape_in text) forms named) jump) ∙ put_is) in
    let same = table_keeps put placed (end_naming pos (naming_of trees before.table) (here named)
    (keeps_place (known_here named).place forms) put.table) end_is in
    record { forms = forms; forms_are = forms_are; grown = subst (IsGrown pos before.current kind suffix form before.sections) (sym same) grown }))

-- where the tokens are a direct jump, an item that grows is put last in the current section
pub jump_put : (pos : Pos) (tokens : List SpelledToken) (before placed : Placed) (text : InsnText) (condition : Option Condition)
    → insn_written before.syntax (behind_labels tokens) ≡ Some text → jump_in text ≡ Some condition
    → place_tokens pos tokens before ≡ Ok placed → IsJumpPut pos tokens text condition before placed
unfolding place_tokens
jump_put pos tokens before placed text condition written jump is =
    both_ok _ _ placed (sym (labels_split pos tokens before) ∙ wide_ok (has_wide_label tokens) (place_labelled pos tokens before) placed is)
    (λ labels labels_are body_is.
    let keeps = labels_keep pos tokens before labels labels_are in
    let made = jump_text pos text condition labels placed jump (sym (behind_is pos tokens text before labels labels_are written) ∙ body_is) in
    let kind = Jump condition in
    let suffix = text.displacement.suffix in
    let form = jump_form made.forms in
    let grown = subst (λ number. IsGrown pos number kind suffix form before.sections placed.sections) keeps.current
    (subst (λ sections. IsGrown pos labels.current kind suffix form sections placed.sections) keeps.sections made.grown) in
    record {
      jump = record { labels = labels; labels_are = labels_are; forms = made.forms; forms_are = made.forms_are };
      section = grown.section;
      there = grown.there;
      put = grown.put;
    })

-- WHERE IT STANDS

statement_jumps : (s : TokenStatement) (before next : Placed) (text : InsnText) (condition : Option Condition) → insn_in before.syntax s ≡ Some text
    → jump_in text ≡ Some condition → place s before ≡ Ok next → IsJumpPut (pos_at s.file s.line) s.tokens text condition before next
unfolding place
statement_jumps s before next text condition written jump is =
    jump_put (pos_at s.file s.line) s.tokens before next text condition written jump
    (located_ok s before.notes (place_tokens (pos_at s.file s.line) s.tokens before) next is)

-- what was put last stands there in front of more
last_there : {X : Type 0} (xs : List X) (x : X) (more : List X) → slice_get ((xs ++ x ∷ []) ++ more) (length xs) ≡ Some x
last_there [] x more = refl
last_there (y ∷ xs) x more = last_there xs x more

-- the field of a jump that is put into the section of this number, which has so many items and plain bytes
abbrev held_field : Pos → ℕ → Option Suffix → Form → ℕ → ℕ → Field
held_field pos number suffix form items bytes = record {
  pos = pos;
  item = items + 1;
  offset = bytes;
  section = number;
  size = Four;
  role = record { kind = Branch; suffix = suffix; behind = 0 };
  in_item = true;
  form = form;
}

-- a jump that is put last in a section stands there later
item_stands : (whole : List LooseSection) (number : ℕ) (pos : Pos) (condition : Option Condition) (suffix : Option Suffix) (form : Form) (section : LooseSection)
    → IsWithin section → IsContinued (with_growing pos number (Jump condition) suffix form section) (slice_get whole number)
    → JumpStandsAt whole number (length section.items) (length section.bytes) pos condition
    (held_field pos number suffix form (length section.items) (length section.bytes))
item_stands whole number pos condition suffix form section within later =
    let put = with_growing pos number (Jump condition) suffix form section in
    let field = held_field pos number suffix form (length section.items) (length section.bytes) in
    let item = item_behind (length section.bytes) (new_item pos (Growing (record { kind = Jump condition; field = length section.fields }))) in
    record {
      section = with_more put later.bytes later.fields later.items;
      found = later.there;
      index = length section.fields;
      field_there = last_there section.fields field later.fields;
      item_there = last_there section.items item later.items;
      within = omega (arith, length-append section.bytes later.bytes);
      before = subst (All (λ (i : LooseItem). i.offset ≤ length section.bytes))
          (sym (ap (take (length section.items)) (append_assoc section.items (item ∷ []) later.items)
          ∙ take-append_seam section.items (item ∷ later.items))) within.items;
    }

put_stands : (before next whole : Placed) (pos : Pos) (tokens : List SpelledToken) (text : InsnText) (condition : Option Condition)
    → (put : IsJumpPut pos tokens text condition before next) → AreWithin before.sections → Grows next.sections whole.sections
    → JumpStandsAt whole.sections before.current (items_so_far before) (option_map_or (λ section. length section.bytes) (slice_get before.sections before.current) 0) pos
    condition (jump_field pos text (jump_form put.jump.forms) before)
put_stands before next whole pos tokens text condition put within grows =
    let number = before.current in
    let suffix = text.displacement.suffix in
    let form = jump_form put.jump.forms in
    let new = with_growing pos number (Jump condition) suffix form put.section in
    let there : slice_get next.sections number ≡ Some new =
    ap (λ sections. slice_get sections number) put.put ∙ get_set before.sections number put.section new put.there in
    let items : Option LooseSection → ℕ = λ found. option_map_or (λ (section : LooseSection). length section.items) found 0 in
    let bytes : Option LooseSection → ℕ = λ found. option_map_or (λ (section : LooseSection). length section.bytes) found 0 in
    subst (λ found. JumpStandsAt whole.sections number (items found) (bytes found) pos condition (held_field pos number suffix form (items found) (bytes found)))
    (sym put.there)
    (item_stands whole.sections number pos condition suffix form put.section (All-there IsWithin before.sections number put.section put.there within)
    (grows.kept number new there))

-- a jump stands in the whole
pub jump_there : TablesKeep → PutsStayWithin → (front : List TokenStatement) (s : TokenStatement) (later : List TokenStatement) (before placed whole : Placed) (text : InsnText) (condition : Option Condition)
    → AreWithin before.sections → place_all front before ≡ Ok placed → place_all (front ++ s ∷ later) before ≡ Ok whole → insn_in placed.syntax s ≡ Some text
    → jump_in text ≡ Some condition → JumpStands whole.sections (pos_at s.file s.line) s.tokens text condition placed
jump_there tables law front s later before placed whole text condition within is_front is_whole written jump =
    first_placed s later placed whole (sym (all_split front (s ∷ later) before ∙ ap (λ r. r >>= place_all (s ∷ later)) is_front) ∙ is_whole)
    (λ next is_next is_later.
    let put = statement_jumps s placed next text condition written jump is_next in
    record {
      jump = put.jump;
      stands = put_stands placed next whole (pos_at s.file s.line) s.tokens text condition put (all_within tables law front before placed is_front within)
          (all_grow tables later next whole is_later);
    })

-- WHAT IT READS AS

-- the condition of a mnemonic, which tells it
if_some : {X : Type 0} (test : Bool) (found : Option X) (x : X) → cond test found None ≡ Some x → (test ≡ true) × (found ≡ Some x)
if_some true found x is = (refl, is)
if_some false found x is = absurd (none-some x is)

named_by : (name : ℕ) (found : Option Condition) (condition : Option Condition) → condition_of (name - JO) ≡ found → JO ≤ name
    → ((number : ℕ) (one : Condition) → condition_of number ≡ Some one → number ≡ number_of one)
    → option_map Some found ≡ Some condition → name ≡ jump_name condition
named_by name None condition are past numbered is = absurd (none-some condition is)
named_by name (Some one) condition are past numbered is =
    let number = numbered (name - JO) one are in
    let own : name ≡ JO + number_of one = omega (arith, number, past) in
    own ∙ ap jump_name (same_Some (Some one) condition is)

jump_by_test : (is_jmp other : Bool) (name : ℕ) (condition : Option Condition) → (name == JMP) ≡ is_jmp → (nat_lt name JO || nat_lt JG name) ≡ other
    → ((number : ℕ) (one : Condition) → condition_of number ≡ Some one → number ≡ number_of one)
    → cond is_jmp (Some None) (cond other None (option_map Some (condition_of (name - JO)))) ≡ Some condition → name ≡ jump_name condition
jump_by_test true other name condition jmp tests numbered is =
    eqb-true name JMP jmp ∙ ap jump_name (same_Some None condition is)
jump_by_test false true name condition jmp tests numbered is = absurd (none-some condition is)
jump_by_test false false name condition jmp tests numbered is =
    let past : JO ≤ name = grind (arith, nat_tests) in
    named_by name (condition_of (name - JO)) condition refl past numbered is

bare_is : (p : Prefix) → is_bare p ≡ true → p ≡ prefix.Absent
bare_is prefix.Absent is = refl
bare_is prefix.Lock is = absurd cc
bare_is prefix.Rep is = absurd cc
bare_is prefix.Repe is = absurd cc
bare_is prefix.Repne is = absurd cc
bare_is prefix.Notrack is = absurd cc

-- a direct jump has no prefix and 64 bits, and the mnemonic of its condition
written_is : (text : InsnText) (condition : Option Condition) (bytes distance : ℕ)
    → ((number : ℕ) (one : Condition) → condition_of number ≡ Some one → number ≡ number_of one) → jump_in text ≡ Some condition
    → jump_over (jump_name condition) bytes distance ≡ jump_written text bytes distance
written_is text condition bytes distance numbered is =
    let shown = is_target text.first && (is_absent text.second && is_absent text.third) in
    let parts = if_some (is_bare text.«prefix» && ((text.size == 64) && shown)) (jump_named text.name.0) condition is in
    let bare = and_parts (is_bare text.«prefix») ((text.size == 64) && shown) parts.0 in
    let size = eqb-true text.size 64 (and_parts (text.size == 64) shown bare.1).0 in
    let name = jump_by_test (text.name.0 == JMP) (nat_lt text.name.0 JO || nat_lt JG text.name.0) text.name.0 condition refl refl numbered parts.1 in
    ap (λ n. jump_over n bytes distance) (sym name)
    ∙ (ap (λ n. record (jump_over text.name.0 bytes distance) { size = n }) (sym size)
    ∙ ap (λ p. record (jump_over text.name.0 bytes distance) { size = text.size; «prefix» = p }) (sym (bare_is text.«prefix» bare.0)))

-- the bytes of a direct jump read as the jump that is written, over the distance that they hold
pub written_reads : JumpCodesRead → ((number : ℕ) (one : Condition) → condition_of number ≡ Some one → number ≡ number_of one)
    → (text : InsnText) (condition : Option Condition) (near : Bool) (distance : ℕ) → jump_in text ≡ Some condition
    → Reads (jump_bytes condition near distance)
    (jump_written text (length (jump_bytes condition near distance)) (jump_distance near (jump_bytes condition near distance)))
written_reads read numbered text condition near distance jump =
    let bytes = jump_bytes condition near distance in
    subst (Reads bytes) (written_is text condition (length bytes) (jump_distance near bytes) numbered jump) (read condition near distance)
