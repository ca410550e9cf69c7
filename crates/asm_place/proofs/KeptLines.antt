-- An instruction leaves the line table as it is.
use Rattle.std.proofs.Common.{◌≡◌, ℕ, ◌+◌, ◌&&◌, ◌||◌, Bool, true, false, cond, inl, inr, ◌⊎◌, List, [], ◌∷◌, drop, Option, None, Some, Result, Ok, Err, is_some, refl, sym, ap, ◌∙◌}
use Rattle.std.specs.Prelude.{not, slice_range}
use Rattle.std.proofs.lemmas.Bool.{false≢true}
use Rattle.asm_base.specs.Refusals.{◌>>=◌}
use Rattle.asm_base.specs.Tokens.{SpelledToken}
use Rattle.asm_base.specs.declared.causes.FragCause.{FragCause}
use Rattle.asm_base.specs.declared.positions.Pos.{Pos}
use Rattle.asm_lines.specs.NextStatements.{TokenStatement}
use Rattle.asm_frags.specs.Fields.{width}
use Rattle.asm_frags.specs.Writing.{LooseSection, bytes_put, field_put}
use Rattle.asm_operands.specs.declared.place_faults.PlaceCause.{PlaceCause}
use Rattle.asm_operands.specs.Operands.{is_name, names_symbol, is_assignment, begins_with_dot}
use Rattle.asm_uses.specs.Tables.{Table, naming_of}
use Rattle.asm_uses.specs.Places.{end_naming}
use Rattle.asm_values.specs.State.{Placed, with_table, with_names, here, known_here, put_section, put_bytes_into, put_field_into, put_growing_into}
use Rattle.asm_words.specs.declared.directives.Syntax.{Syntax}
use Rattle.asm_words.specs.declared.directives.Syntax.TheVariants.{Att, Intel}
use Rattle.amount_forms.specs.Amounts.{in_text_order}
use Rattle.att_insns.specs.InsnTexts.{InsnText}
use Rattle.item_bytes.specs.declared.jumps.Condition.{Condition}
use Rattle.x86_lookup.specs.BareInstructions.{bare_instruction}
use Rattle.asm_place.specs.declared.codes.CodeField.{CodeField}
use Rattle.asm_place.specs.declared.codes.InsnForms.{InsnForms}
use Rattle.asm_place.specs.CodePlaces.{labelled, insn_written, is_instruction, text_read}
use Rattle.asm_place.specs.Coding.{InsnShape, shape_in, fields_of, put_rest, put_code, put_coded, keeps_place, put_by_jump, put_insn, place_insn, place_text, lone_code, insn_by, place_coded, place_instruction}
use Rattle.asm_place.specs.Instructions.{behind_labels, instruction_written}
use Rattle.asm_place.specs.Placing.{place_body, place_labelled, place_unlabelled, has_wide_label, place_tokens}
use Rattle.asm_place.specs.Sources.{pos_at, place}
use Rattle.asm_place.proofs.StatementSplits.{err-ok, same_Ok, both_ok}
use Rattle.asm_place.proofs.InstructionLaws.{wide_ok, located_ok}
use Rattle.asm_place.proofs.CodeLaws.{labels_split, labels_keep}

-- WHAT IS PUT

section_keeps : (put : LooseSection → Result LooseSection FragCause) (number : ℕ) (placed after : Placed) → put_section put number placed ≡ Ok after → after.lines ≡ placed.lines
section_keeps put number placed after is = both_ok _ _ after is (λ sections pushed made. ap (λ (p : Placed). p.lines) (sym (same_Ok _ after made)))

bytes_keep : (pos : Pos) (number : ℕ) (bytes : List ℕ) (placed after : Placed) → put_bytes_into pos number bytes placed ≡ Ok after → after.lines ≡ placed.lines
unfolding put_bytes_into
bytes_keep pos number bytes placed after is = section_keeps (bytes_put pos bytes) number placed after is

rest_keeps : (pos : Pos) (bytes : List ℕ) (placed after : Placed) → put_rest pos bytes placed ≡ Ok after → after.lines ≡ placed.lines
rest_keeps pos [] placed after is = ap (λ (p : Placed). p.lines) (sym (same_Ok placed after is))
rest_keeps pos (byte ∷ bytes) placed after is = bytes_keep pos placed.current (byte ∷ bytes) placed after is

code_keeps : (pos : Pos) (bytes : List ℕ) (from : ℕ) (fields : List CodeField) (placed after : Placed) → put_code pos bytes from fields placed ≡ Ok after → after.lines ≡ placed.lines
unfolding put_code put_field_into
code_keeps pos bytes from [] placed after is = rest_keeps pos (drop from bytes) placed after is
code_keeps pos bytes from (field ∷ fields) placed after is =
    both_ok _ _ after is (λ held held_is rest_is.
    both_ok _ _ held held_is (λ front front_is field_is.
    code_keeps pos bytes (field.at + width field.size) fields held after rest_is
    ∙ section_keeps (field_put pos front.current field.size field.role field.form) front.current front held field_is
    ∙ rest_keeps pos (slice_range bytes from field.at) placed front front_is))

jump_keeps : (jump : Option (Option Condition)) (pos : Pos) (shape : InsnShape) (forms : InsnForms) (placed after : Placed) → put_by_jump jump pos shape forms placed ≡ Ok after
    → after.lines ≡ placed.lines
unfolding put_coded put_growing_into
jump_keeps None pos shape forms placed after is =
    both_ok _ _ after is (λ made made_is put_is. code_keeps pos made.bytes 0 (fields_of shape forms made) placed after put_is)
jump_keeps (Some condition) pos shape forms placed after is = section_keeps _ placed.current placed after is

table_kept : (put after : Placed) (answer : Result Table PlaceCause) → (answer >>= λ table. Ok (with_table put table)) ≡ Ok after → after.lines ≡ put.lines
table_kept put after (Ok table) is = ap (λ (p : Placed). p.lines) (sym (same_Ok (with_table put table) after is))
table_kept put after (Err fault) is = err-ok fault after is

text_keeps : (pos : Pos) (text : InsnText) (placed after : Placed) → place_text pos text placed ≡ Ok after → after.lines ≡ placed.lines
unfolding place_insn put_insn
text_keeps pos text placed after is =
    let trees = in_text_order placed.syntax text.immediate.tree text.displacement.tree in
    let named = with_names pos trees placed in
    both_ok _ _ after is (λ forms forms_are named_is.
    both_ok _ _ after named_is (λ put put_is end_is.
    table_kept put after (end_naming pos (naming_of trees placed.table) (here named) (keeps_place (known_here named).place forms) put.table) end_is
    ∙ jump_keeps (shape_in text).jump pos (shape_in text) forms named put put_is))

coded_keeps : (pos : Pos) (lone : Option (List ℕ)) (tokens : List SpelledToken) (placed after : Placed) → place_coded pos lone tokens placed ≡ Ok after → after.lines ≡ placed.lines
coded_keeps pos None tokens placed after is = both_ok _ _ after is (λ text read text_is. text_keeps pos text placed after text_is)
coded_keeps pos (Some bytes) tokens placed after is = bytes_keep pos placed.current bytes placed after is

instruction_keeps : (pos : Pos) (tokens : List SpelledToken) (placed after : Placed) → place_instruction pos tokens placed ≡ Ok after → after.lines ≡ placed.lines
unfolding place_instruction
instruction_keeps pos tokens placed after is = coded_keeps pos (lone_code placed.syntax tokens) tokens placed after is

-- WHAT IS WRITTEN

either_true : (one other : Bool) → (one || other) ≡ true → (one ≡ true) ⊎ (other ≡ true)
either_true true other is = inl refl
either_true false other is = inr is

-- the tests of what begins as an instruction
abbrev Begins : Bool → Bool → Bool → Type 0
Begins assigns named dotted = (assigns ≡ false) × (named ≡ true) × (dotted ≡ false)

begins_some : {X : Type 0} (assigns named dotted : Bool) (found : Option X) → is_some (cond assigns None (cond (named && not dotted) found None)) ≡ true → Begins assigns named dotted
begins_some true named dotted found is = absurd (false≢true is)
begins_some false true true found is = absurd (false≢true is)
begins_some false true false found is = (refl, refl, refl)
begins_some false false dotted found is = absurd (false≢true is)

begins_bare : {X : Type 0} (symbol named dotted : Bool) (found : Option X) → is_some (cond (named && not dotted) found None) ≡ true → Begins (symbol && false) named dotted
begins_bare symbol true true found is = absurd (false≢true is)
begins_bare symbol false dotted found is = absurd (false≢true is)
begins_bare true true false found is = (refl, refl, refl)
begins_bare false true false found is = (refl, refl, refl)

insn_begins : (syntax : Syntax) (first : SpelledToken) (rest : List SpelledToken) → is_some (insn_written syntax (first ∷ rest)) ≡ true
    → Begins (names_symbol first && is_assignment rest) (is_name first) (begins_with_dot first.bytes)
unfolding insn_written
insn_begins syntax first rest is =
    begins_some (names_symbol first && is_assignment rest) (is_name first) (begins_with_dot first.bytes)
    (text_read (lone_code syntax (first ∷ rest)) (insn_by syntax (first ∷ rest))) is

bare_begins : (syntax : Syntax) (first : SpelledToken) (rest : List SpelledToken) → is_some (instruction_written syntax (first ∷ rest)) ≡ true
    → Begins (names_symbol first && is_assignment rest) (is_name first) (begins_with_dot first.bytes)
unfolding instruction_written
bare_begins Intel first rest is = absurd (false≢true is)
bare_begins Att first [] is = begins_bare (names_symbol first) (is_name first) (begins_with_dot first.bytes) (bare_instruction first.bytes) is
bare_begins Att first (second ∷ rest) is = absurd (false≢true is)

begins : (syntax : Syntax) (first : SpelledToken) (rest : List SpelledToken) → is_instruction syntax (first ∷ rest) ≡ true
    → Begins (names_symbol first && is_assignment rest) (is_name first) (begins_with_dot first.bytes)
begins syntax first rest is = elim (either_true (is_some (instruction_written syntax (first ∷ rest))) (is_some (insn_written syntax (first ∷ rest))) is) [
  | inl bare ↦ bare_begins syntax first rest bare
  | inr coded ↦ insn_begins syntax first rest coded
]

body_test : (assigns named dotted : Bool) (assignment unnamed directive instruction : Result Placed PlaceCause) → Begins assigns named dotted
    → cond assigns assignment (cond (not named) unnamed (cond dotted directive instruction)) ≡ instruction
body_test true named dotted assignment unnamed directive instruction is = absurd (false≢true (sym is.0))
body_test false false dotted assignment unnamed directive instruction is = absurd (false≢true is.1)
body_test false true true assignment unnamed directive instruction is = absurd (false≢true (sym is.2))
body_test false true false assignment unnamed directive instruction is = refl

no_instruction : {C : Type 0} (syntax : Syntax) → is_instruction syntax [] ≡ true → C
unfolding instruction_written insn_written
no_instruction Att is = absurd (false≢true is)
no_instruction Intel is = absurd (false≢true is)

unlabelled_keeps : (pos : Pos) (tokens : List SpelledToken) (placed after : Placed) → is_instruction placed.syntax tokens ≡ true → place_unlabelled pos tokens placed ≡ Ok after
    → after.lines ≡ placed.lines
unfolding place_unlabelled place_body
unlabelled_keeps pos [] placed after told is = no_instruction placed.syntax told
unlabelled_keeps pos (first ∷ rest) placed after told is =
    instruction_keeps pos (first ∷ rest) placed after
    (sym (body_test (names_symbol first && is_assignment rest) (is_name first) (begins_with_dot first.bytes) _ _ _ _ (begins placed.syntax first rest told)) ∙ is)

tokens_keep : (pos : Pos) (tokens : List SpelledToken) (before after : Placed) → is_instruction before.syntax (behind_labels tokens) ≡ true → place_tokens pos tokens before ≡ Ok after
    → after.lines ≡ before.lines
unfolding place_tokens
tokens_keep pos tokens before after told is =
    both_ok (labelled pos tokens before) (place_unlabelled pos (behind_labels tokens)) after
    (sym (labels_split pos tokens before) ∙ wide_ok (has_wide_label tokens) (place_labelled pos tokens before) after is)
    (λ labels labels_are body_is.
    let keeps = labels_keep pos tokens before labels labels_are in
    unlabelled_keeps pos (behind_labels tokens) labels after (ap (λ syntax. is_instruction syntax (behind_labels tokens)) keeps.syntax ∙ told) body_is ∙ keeps.lines)

-- the line table is as it was before the statement
pub lines_kept : (s : TokenStatement) (before after : Placed) → is_instruction before.syntax (behind_labels s.tokens) ≡ true → place s before ≡ Ok after
    → after.lines ≡ before.lines
unfolding place
lines_kept s before after told is =
    tokens_keep (pos_at s.file s.line) s.tokens before after told
    (located_ok s before.notes (place_tokens (pos_at s.file s.line) s.tokens before) after is)
