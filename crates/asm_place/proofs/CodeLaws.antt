-- Where the bytes and fields of instructions with operands stand.
use Rattle.std.proofs.Common.{◌≡◌, ℕ, ◌+◌, ◌≤◌, Bool, true, false, cond, List, [], ◌∷◌, ◌++◌, All, map, length, take, drop, Option, None, Some, Result, Ok, Err, refl, sym, ap, ◌∙◌, subst, slice_get, arith, append_assoc, length-append, length-drop}
use Rattle.std.specs.Prelude.{◌&&◌, ◌||◌, not, is_some, option_map, slice_range}
use Rattle.std.specs.Option.{option_map_or}
use Rattle.std.proofs.Math.Seq.{take-append_seam, drop-append_seam}
use Rattle.std.proofs.lemmas.Bool.{false≢true}
use Rattle.std.proofs.lemmas.Option.{none-some, same_Some}
use Rattle.x86_lookup.specs.BareInstructions.{Coded, bare_instruction}
use Rattle.asm_base.specs.Refusals.{◌>>=◌}
use Rattle.asm_base.specs.Tokens.{SpelledToken}
use Rattle.asm_base.specs.declared.positions.Pos.{Pos}
use Rattle.asm_lines.specs.NextStatements.{TokenStatement}
use Rattle.asm_frags.specs.declared.fields.Field.{Field}
use Rattle.asm_frags.specs.Fields.{width}
use Rattle.asm_frags.specs.Writing.{LooseItem, LooseSection, ends_in_run, with_run}
use Rattle.asm_operands.specs.declared.place_faults.PlaceCause.{PlaceCause}
use Rattle.asm_operands.specs.Operands.{is_name, names_symbol, is_assignment, is_label, begins_with_dot}
use Rattle.asm_uses.specs.Places.{end_naming}
use Rattle.asm_uses.specs.Tables.{Table, naming_of}
use Rattle.asm_values.specs.State.{Placed, with_table, with_names, here, known_here}
use Rattle.att_operands.specs.declared.faults.OperandCause.{OperandCause}
use Rattle.att_insns.specs.InsnTexts.{InsnText}
use Rattle.asm_words.specs.declared.directives.Syntax.{Syntax}
use Rattle.asm_words.specs.declared.directives.Syntax.TheVariants.{Att, Intel}
use Rattle.x86_parts.specs.declared.encoded.EncodeFault.{EncodeFault}
use Rattle.x86_encode.specs.Encoding.{encoding_of}
use Rattle.x86_encode.specs.FieldPlaces.{EncodingsApart}
use Rattle.x86_parts.specs.Filling.{Coding}
use Rattle.asm_place.specs.declared.codes.InsnForms.{InsnForms}
use Rattle.asm_place.specs.declared.codes.CodeField.{CodeField}
use Rattle.amount_forms.specs.Amounts.{in_text_order}
use Rattle.asm_place.specs.Coding.{InsnShape, shape_in, forms_of, values_in, of_code, fields_of, put_code, keeps_place, put_by_jump, put_coded, put_insn, place_insn, place_text, place_read, lone_code, insn_by, place_coded, place_instruction}
use Rattle.asm_place.specs.Placing.{place_body, place_label, place_unlabelled, place_labelled, has_wide_label, place_tokens}
use Rattle.asm_place.specs.Sources.{pos_at, place, place_all}
use Rattle.asm_place.specs.Bodies.{AreLabels}
use Rattle.section_laws.specs.Within.{IsWithin, AreWithin, PutsStayWithin}
use Rattle.asm_place.specs.Instructions.{behind_labels, instruction_written, run_end, with_more, IsContinued, Grows}
use Rattle.asm_place.specs.CodePlaces.{text_read, insn_written, is_instruction, BeginsAsInstruction, insn_in, labelled, known_in, code_fields, with_held, zeros_in, blanked, AreApart, field_in, with_code, IsCodePut, IsInsnPut, CodeStandsAt, InsnStands, jump_in}
use Rattle.asm_place.proofs.GrowthLemmas.{get_set, All-there, zeros_long, run_within}
use Rattle.asm_place.proofs.Walks.{TablesKeep}
use Rattle.asm_place.proofs.PlacingLaws.{all_grow, all_within}
use Rattle.asm_place.proofs.StatementSplits.{err-ok, same_Ok, both_ok, all_split}
use Rattle.asm_place.proofs.InstructionLaws.{wide_ok, same_labels, label_keeps, located_ok, first_placed, run_items}
use Rattle.asm_place.proofs.CodeParts.{apart_inside, slice_long, code_none, set_same, apart_before, code_put}
use Rattle.asm_place.proofs.CodingFields.{coding_apart}

-- THE LABELS

two_steps : {A E : Type 0} (first : Result A E) (f g more : A → Result A E) → ((x : A) → f x ≡ (g x >>= more)) → (first >>= f) ≡ ((first >>= g) >>= more)
two_steps (Ok x) f g more same = same x
two_steps (Err fault) f g more same = refl

-- a statement is its labels, and then what stands behind them
label_splits : (test : Bool) (pos : Pos) (first second : SpelledToken) (rest : List SpelledToken) (placed : Placed)
    → ((labels : Placed) → place_labelled pos rest labels ≡ (labelled pos rest labels >>= place_unlabelled pos (behind_labels rest)))
    → cond test (place_label pos first placed >>= (λ labels. place_labelled pos rest labels)) (place_body pos first (second ∷ rest) placed)
    ≡ (cond test (place_label pos first placed >>= (λ labels. labelled pos rest labels)) (Ok placed) >>= place_unlabelled pos
    (cond test (behind_labels rest) (first ∷ second ∷ rest)))
unfolding place_unlabelled
label_splits true pos first second rest placed again =
    two_steps (place_label pos first placed) (λ labels. place_labelled pos rest labels) (λ labels. labelled pos rest labels)
    (place_unlabelled pos (behind_labels rest)) again
label_splits false pos first second rest placed again = refl

pub labels_split : (pos : Pos) (tokens : List SpelledToken) (placed : Placed)
    → place_labelled pos tokens placed ≡ (labelled pos tokens placed >>= place_unlabelled pos (behind_labels tokens))
unfolding place_labelled labelled behind_labels place_unlabelled
labels_split pos [] placed = refl
labels_split pos (first ∷ []) placed = refl
labels_split pos (first ∷ second ∷ rest) placed = label_splits (is_label first second) pos first second rest placed (labels_split pos rest)

-- labels change symbols alone
labels_keep_by : (test : Bool) (pos : Pos) (first : SpelledToken) (rest : List SpelledToken) (before labels : Placed)
    → ((one : Placed) → labelled pos rest one ≡ Ok labels → AreLabels one labels)
    → cond test (place_label pos first before >>= (λ one. labelled pos rest one)) (Ok before) ≡ Ok labels
    → AreLabels before labels
labels_keep_by true pos first rest before labels again is =
    both_ok _ _ labels is (λ one one_is later.
    let keeps = label_keeps pos first before one one_is in
    let more = again one later in
    record {
      sections = more.sections ∙ keeps.sections;
      current = more.current ∙ keeps.current;
      previous = more.previous ∙ keeps.previous;
      stack = more.stack ∙ keeps.stack;
      syntax = more.syntax ∙ keeps.syntax;
      procedures = more.procedures ∙ keeps.procedures;
      lines = more.lines ∙ keeps.lines;
      no_warn = more.no_warn ∙ keeps.no_warn;
      notes = more.notes ∙ keeps.notes;
    })
labels_keep_by false pos first rest before labels again is = same_labels before labels before.table (same_Ok before labels is)

pub labels_keep : (pos : Pos) (tokens : List SpelledToken) (before labels : Placed) → labelled pos tokens before ≡ Ok labels → AreLabels before labels
unfolding labelled
labels_keep pos [] before labels is = same_labels before labels before.table (same_Ok before labels is)
labels_keep pos (first ∷ []) before labels is = same_labels before labels before.table (same_Ok before labels is)
labels_keep pos (first ∷ second ∷ rest) before labels is =
    labels_keep_by (is_label first second) pos first rest before labels (λ one. labels_keep pos rest one labels) is

-- THE INSTRUCTION

body_test : (assigns named dotted : Bool) (written : Option InsnText) (text : InsnText) (assignment unnamed directive instruction : Result Placed PlaceCause)
    → cond assigns None (cond (named && not dotted) written None) ≡ Some text
    → (written ≡ Some text) × (cond assigns assignment (cond (not named) unnamed (cond dotted directive instruction)) ≡ instruction)
body_test true named dotted written text assignment unnamed directive instruction is = absurd (none-some text is)
body_test false true true written text assignment unnamed directive instruction is = absurd (none-some text is)
body_test false true false written text assignment unnamed directive instruction is = (is, refl)
body_test false false dotted written text assignment unnamed directive instruction is = absurd (none-some text is)

read_is : (pos : Pos) (lone : Option (List ℕ)) (read : Result InsnText OperandCause) (text : InsnText) (placed : Placed) (tokens : List SpelledToken)
    → insn_by placed.syntax tokens ≡ read
    → text_read lone read ≡ Some text → place_coded pos lone tokens placed ≡ place_text pos text placed
read_is pos (Some bytes) read text placed tokens of is = absurd (none-some text is)
read_is pos None (Ok found) text placed tokens of is =
    ap (λ r. place_read pos r placed) of ∙ ap (λ t. place_text pos t placed) (same_Some found text is)
read_is pos None (Err fault) text placed tokens of is = absurd (none-some text is)

no_tokens : {C : Type 0} (syntax : Syntax) (text : InsnText) → insn_written syntax [] ≡ Some text → C
unfolding insn_written
no_tokens syntax text is = absurd (none-some text is)

body_is : (pos : Pos) (first : SpelledToken) (rest : List SpelledToken) (text : InsnText) (placed : Placed)
    → insn_written placed.syntax (first ∷ rest) ≡ Some text → place_body pos first rest placed ≡ place_text pos text placed
unfolding insn_written place_body place_instruction
body_is pos first rest text placed is =
    let tokens = first ∷ rest in
    let lone = lone_code placed.syntax tokens in
    let read = insn_by placed.syntax tokens in
    let parts = body_test (names_symbol first && is_assignment rest) (is_name first) (begins_with_dot first.bytes) (text_read lone read) text _ _ _ _ is in
    parts.1 ∙ read_is pos lone read text placed tokens refl parts.0

pub unlabelled_is : (pos : Pos) (tokens : List SpelledToken) (text : InsnText) (placed : Placed) → insn_written placed.syntax tokens ≡ Some text
    → place_unlabelled pos tokens placed ≡ place_text pos text placed
unfolding place_unlabelled
unlabelled_is pos [] text placed is = no_tokens placed.syntax text is
unlabelled_is pos (first ∷ rest) text placed is = body_is pos first rest text placed is

-- what stands behind the labels is the same instruction before them: they keep the syntax
pub behind_is : (pos : Pos) (tokens : List SpelledToken) (text : InsnText) (before labels : Placed) → labelled pos tokens before ≡ Ok labels
    → insn_written before.syntax (behind_labels tokens) ≡ Some text
    → place_unlabelled pos (behind_labels tokens) labels ≡ place_text pos text labels
behind_is pos tokens text before labels labels_are written =
    let keeps = labels_keep pos tokens before labels labels_are in
    unlabelled_is pos (behind_labels tokens) text labels (ap (λ syntax. insn_written syntax (behind_labels tokens)) keeps.syntax ∙ written)

-- EACH INSTRUCTION

-- what is placed is read
read_told : (found : Option Coded) (read : Result InsnText OperandCause) (pos : Pos) (tokens : List SpelledToken) (placed next : Placed)
    → insn_by placed.syntax tokens ≡ read
    → place_coded pos (option_map (λ coded. coded.bytes) found) tokens placed ≡ Ok next
    → (is_some found || is_some (text_read (option_map (λ coded. coded.bytes) found) read)) ≡ true
read_told (Some coded) read pos tokens placed next are is = refl
read_told None (Ok text) pos tokens placed next are is = refl
read_told None (Err fault) pos tokens placed next are is = err-ok _ next (sym (ap (λ r. place_read pos r placed) are) ∙ is)

told_test : (assigns named dotted : Bool)
    (assignment unnamed directive instruction : Result Placed PlaceCause) → assigns ≡ false → named ≡ true → dotted ≡ false
    → cond assigns assignment (cond (not named) unnamed (cond dotted directive instruction)) ≡ instruction
told_test true named dotted assignment unnamed directive instruction a n d = absurd (false≢true (sym a))
told_test false false dotted assignment unnamed directive instruction a n d = absurd (false≢true n)
told_test false true true assignment unnamed directive instruction a n d = absurd (false≢true (sym d))
told_test false true false assignment unnamed directive instruction a n d = refl

name_told : {X : Type 0} (named dotted : Bool) (found : Option X) → named ≡ true → dotted ≡ false → cond (named && not dotted) found None ≡ found
name_told false dotted found n d = absurd (false≢true n)
name_told true true found n d = absurd (false≢true (sym d))
name_told true false found n d = refl

bare_told : (first : SpelledToken) → is_name first ≡ true → begins_with_dot first.bytes ≡ false → instruction_written
    Att (first ∷ []) ≡ bare_instruction first.bytes
unfolding instruction_written
bare_told first n d = name_told (is_name first) (begins_with_dot first.bytes) (bare_instruction first.bytes) n d

assigns_not : (assigns : Bool) (found : Option InsnText) → assigns ≡ false → cond assigns None found ≡ found
assigns_not true found a = absurd (false≢true (sym a))
assigns_not false found a = refl

text_told : (syntax : Syntax) (first : SpelledToken) (rest : List SpelledToken) → BeginsAsInstruction first rest
    → insn_written syntax (first ∷ rest) ≡ text_read (lone_code syntax (first ∷ rest)) (insn_by syntax (first ∷ rest))
unfolding insn_written
text_told syntax first rest begins =
    assigns_not (names_symbol first && is_assignment rest) _ begins.no_assignment ∙ name_told (is_name first)
    (begins_with_dot first.bytes) _ begins.name begins.no_directive

some_right : (one other : Bool) → other ≡ true → (one || other) ≡ true
some_right true other is = refl
some_right false other is = is

-- an instruction that is read, since it does not stand alone in AT&T syntax
any_told : (pos : Pos) (syntax : Syntax) (first : SpelledToken) (rest : List SpelledToken) (placed next : Placed) → placed.syntax ≡ syntax
    → BeginsAsInstruction first rest → lone_code syntax (first ∷ rest) ≡ None → place_coded pos None (first ∷ rest) placed ≡ Ok next
    → is_instruction syntax (first ∷ rest) ≡ true
any_told pos syntax first rest placed next same begins alone is =
    let tokens = first ∷ rest in
    some_right (is_some (instruction_written syntax tokens)) (is_some (insn_written syntax tokens))
    (ap is_some (text_told syntax first rest begins ∙ ap (λ lone. text_read lone (insn_by syntax tokens)) alone)
    ∙ read_told None (insn_by syntax tokens) pos tokens placed next (ap (λ s. insn_by s tokens) same) is)

instruction_told : (pos : Pos) (syntax : Syntax) (first : SpelledToken) (rest : List SpelledToken) (placed next : Placed) → placed.syntax ≡ syntax
    → BeginsAsInstruction first rest → place_coded pos (lone_code syntax (first ∷ rest)) (first ∷ rest) placed ≡ Ok next
    → is_instruction syntax (first ∷ rest) ≡ true
instruction_told pos Intel first rest placed next same begins is = any_told pos Intel first rest placed next same begins refl is
instruction_told pos Att first (second ∷ rest) placed next same begins is = any_told pos Att first (second ∷ rest) placed next same begins refl is
instruction_told pos Att first [] placed next same begins is =
    ap (λ o. is_some o || is_some (insn_written Att (first ∷ []))) (bare_told first begins.name begins.no_directive)
    ∙ (ap (λ o. is_some (bare_instruction first.bytes) || is_some o) (text_told Att first [] begins)
    ∙ read_told (bare_instruction first.bytes) (insn_by Att (first ∷ [])) pos (first ∷ []) placed next (ap (λ s. insn_by s (first ∷ [])) same) is)

body_told : (pos : Pos) (first : SpelledToken) (rest : List SpelledToken) (placed next : Placed) → BeginsAsInstruction first rest
    → place_unlabelled pos (first ∷ rest) placed ≡ Ok next → is_instruction placed.syntax (first ∷ rest) ≡ true
unfolding place_unlabelled place_body place_instruction
body_told pos first rest placed next begins is =
    instruction_told pos placed.syntax first rest placed next refl begins
    (sym (told_test (names_symbol first && is_assignment rest) (is_name first)
    (begins_with_dot first.bytes) _ _ _ _ begins.no_assignment begins.name begins.no_directive) ∙ is)

-- a statement that is placed as an instruction is one without operands, or one with some
pub tokens_told : (pos : Pos) (tokens : List SpelledToken) (first : SpelledToken) (rest : List SpelledToken)
    (before placed : Placed) → behind_labels tokens ≡ first ∷ rest
    → BeginsAsInstruction first rest → place_tokens pos tokens before ≡ Ok placed → is_instruction before.syntax (behind_labels tokens) ≡ true
unfolding place_tokens
tokens_told pos tokens first rest before placed are begins is =
    both_ok (labelled pos tokens before) (place_unlabelled pos (behind_labels tokens)) placed
    (sym (labels_split pos tokens before) ∙ wide_ok (has_wide_label tokens) (place_labelled pos tokens before) placed is) (λ labels labels_are body_is.
    let keeps = labels_keep pos tokens before labels labels_are in
    ap (λ syntax. is_instruction syntax (behind_labels tokens)) (sym keeps.syntax)
    ∙ (ap (is_instruction labels.syntax) are
    ∙ body_told pos first rest labels placed begins (sym (ap (λ ts. place_unlabelled pos ts labels) are) ∙ body_is)))

-- THE BYTES

-- bytes that an instruction has are those of its encoding
code_is : (answer : Result Coding EncodeFault) (made : Coding) → of_code answer ≡ Ok made → answer ≡ Ok made
code_is (Ok found) made is = ap Ok (same_Ok found made is)
code_is (Err fault) made is = err-ok _ made is

-- what is put of an instruction
pub record IsPutCode (pos : Pos) (shape : InsnShape) (forms : InsnForms) (before placed : Placed) : Type 0 where
  pub made : Coding
  pub coding : encoding_of shape.view (values_in forms) ≡ Ok made
  pub put : IsCodePut before.sections placed.sections before.current pos made.bytes (fields_of shape forms made)

section_put : (pos : Pos) (bytes : List ℕ) (fields : List CodeField) (before placed : Placed) (found : Option LooseSection) → AreApart 1 (length bytes) fields
    → slice_get before.sections before.current ≡ found
    → put_code pos bytes 0 fields before ≡ Ok placed → IsCodePut before.sections placed.sections before.current pos bytes fields
section_put pos bytes fields before placed (Some section) apart there is =
    let code = code_put before.sections before.current section there pos bytes fields apart before placed (record {
      sections = sym (set_same before.sections before.current section there);
      current = refl;
    }) is in
    record { apart = apart; section = section; there = there; put = code.sections }
section_put pos bytes fields before placed None apart there is = code_none pos bytes fields before placed apart there is

insn_put : EncodingsApart → (pos : Pos) (shape : InsnShape) (forms : InsnForms) (before placed : Placed) → shape.jump ≡ None
    → put_insn pos shape forms before ≡ Ok placed → IsPutCode pos shape forms before placed
unfolding put_insn put_coded
insn_put places pos shape forms before placed no_jump is =
    both_ok _ _ placed (sym (ap (λ jump. put_by_jump jump pos shape forms before) no_jump) ∙ is) (λ made made_is put_is.
    let coding = code_is (encoding_of shape.view (values_in forms)) made made_is in
    record {
      made = made;
      coding = coding;
      put = section_put pos made.bytes (fields_of shape forms made) before placed (slice_get before.sections before.current)
          (coding_apart places shape forms made coding) refl put_is;
    })

-- an instruction whose names have symbols
pub record IsTextPut (pos : Pos) (text : InsnText) (before placed : Placed) : Type 0 where
  pub forms : InsnForms
  pub forms_are : forms_of (known_in pos text before) text.immediate.tree text.displacement.tree ≡ Ok forms
  pub code : IsPutCode pos (shape_in text) forms before placed

pub table_keeps : (put placed : Placed) (answer : Result Table PlaceCause) → (answer >>= λ table. Ok (with_table put table)) ≡ Ok placed
    → placed.sections ≡ put.sections
table_keeps put placed (Ok table) is = ap (λ (p : Placed). p.sections) (sym (same_Ok (with_table put table) placed is))
table_keeps put placed (Err fault) is = err-ok fault placed is

text_put : EncodingsApart → (pos : Pos) (text : InsnText) (before placed : Placed) → jump_in text ≡ None → place_text pos text before ≡ Ok placed
    → IsTextPut pos text before placed
unfolding place_insn
text_put places pos text before placed no_jump is =
    let trees = in_text_order before.syntax text.immediate.tree text.displacement.tree in
    let named = with_names pos trees before in
    both_ok _ _ placed is (λ forms forms_are named_is.
    both_ok _ _ placed named_is (λ put put_is end_is.
    let code = insn_put places pos (shape_in text) forms named put no_jump put_is in
    let same = table_keeps put placed (end_naming pos (naming_of trees before.table) (here named)
    (keeps_place (known_here named).place forms) put.table) end_is in
    record {
      forms = forms;
      forms_are = forms_are;
      code = record {
        made = code.made;
        coding = code.coding;
        put = subst (λ sections. IsCodePut before.sections sections before.current pos code.made.bytes (fields_of (shape_in text) forms code.made))
            (sym same) code.put;
      };
    }))

-- where the tokens are an instruction with operands, the bytes and the fields of its encoding are put last in the current section
pub tokens_put : EncodingsApart → (pos : Pos) (tokens : List SpelledToken) (before placed : Placed) (text : InsnText)
    → insn_written before.syntax (behind_labels tokens) ≡ Some text → jump_in text ≡ None
    → place_tokens pos tokens before ≡ Ok placed → IsInsnPut pos tokens text before placed
unfolding place_tokens
tokens_put places pos tokens before placed text written no_jump is =
    both_ok _ _ placed (sym (labels_split pos tokens before) ∙ wide_ok (has_wide_label tokens) (place_labelled pos tokens before) placed is)
    (λ labels labels_are body_is.
    let keeps = labels_keep pos tokens before labels labels_are in
    let put = text_put places pos text labels placed no_jump (sym (behind_is pos tokens text before labels labels_are written) ∙ body_is) in
    let fields = code_fields text put.forms put.code.made in
    record {
      coded = record { labels = labels; labels_are = labels_are; forms = put.forms; forms_are = put.forms_are; made = put.code.made; coding = put.code.coding };
      put = subst (λ number. IsCodePut before.sections placed.sections number pos put.code.made.bytes fields) keeps.current
          (subst (λ sections. IsCodePut sections placed.sections labels.current pos put.code.made.bytes fields) keeps.sections put.code.put);
    })

statement_put : EncodingsApart → (s : TokenStatement) (before next : Placed) (text : InsnText) → insn_in before.syntax s ≡ Some text → jump_in text ≡ None → place s before ≡ Ok next
    → IsInsnPut (pos_at s.file s.line) s.tokens text before next
unfolding place
statement_put places s before next text written no_jump is =
    tokens_put places (pos_at s.file s.line) s.tokens before next text written no_jump
    (located_ok s before.notes (place_tokens (pos_at s.file s.line) s.tokens before) next is)

-- WHERE IT STANDS

-- how many bytes stand from a place on, whatever the fields hold
held_long : (bytes : List ℕ) (from : ℕ) (fields : List CodeField) → AreApart from (length bytes) fields
    → from + length (with_held zeros_in bytes from fields) ≡ length bytes
held_long bytes from [] apart = let long = length-drop from bytes in omega (arith, long, apart)
held_long bytes from (field ∷ fields) apart =
    let inside = apart_inside (field.at + width field.size) (length bytes) fields apart.1 in
    let first = slice_long bytes from field.at apart.0 (omega (arith, inside)) in
    let later = held_long bytes (field.at + width field.size) fields apart.1 in
    let zeros = zeros_long field.size in
    let rest = with_held zeros_in bytes (field.at + width field.size) fields in
    let one = length-append (slice_range bytes from field.at) (zeros_in field ++ rest) in
    let two = length-append (zeros_in field) rest in
    omega (arith, first, later, zeros, one, two, apart.0, inside)

-- the bytes and fields that are put last in a section stand there later
module _ (pos : Pos) (section : LooseSection) (bytes : List ℕ) (fields : List CodeField) (number : ℕ) (apart : AreApart 1 (length bytes) fields)
    (within : IsWithin section)
    (whole : List LooseSection) (later : IsContinued (with_code pos number bytes fields section) (slice_get whole number)) where
  abbrev begun : LooseSection
  begun = with_run pos section

  abbrev put : LooseSection
  put = with_code pos number bytes fields section

  -- the section with the bytes, and with what came later
  abbrev last : LooseSection
  last = with_more put later.bytes later.fields later.items

  code_long : length (blanked bytes fields) ≡ length bytes
  code_long = let counted = held_long bytes 0 fields (apart_before 1 0 (length bytes) fields (omega arith) apart) in omega (arith, counted)

  ends : length (section.bytes ++ blanked bytes fields) ≡ length section.bytes + length bytes
  ends = length-append section.bytes (blanked bytes fields) ∙ ap (λ n. length section.bytes + n) code_long

  items_so_far : length begun.items ≡ run_end section
  items_so_far = run_items (ends_in_run section.items) pos section

  items_before : All (λ item. item.offset ≤ length section.bytes) (take (run_end section) last.items)
  items_before =
      subst (λ n. All (λ (item : LooseItem). item.offset ≤ length section.bytes) (take n last.items)) items_so_far
      (subst (All (λ (item : LooseItem). item.offset ≤ length section.bytes)) (sym (take-append_seam begun.items later.items))
      (run_within pos section within.items))

  items_behind : All (λ item. length section.bytes + length bytes ≤ item.offset) (drop (run_end section) last.items)
  items_behind =
      subst (λ n. All (λ (item : LooseItem). length section.bytes + length bytes ≤ item.offset) (drop n last.items)) items_so_far
      (subst (All (λ (item : LooseItem). length section.bytes + length bytes ≤ item.offset)) (sym (drop-append_seam begun.items later.items))
      (subst (λ n. All (λ (item : LooseItem). n ≤ item.offset) later.items) ends later.items_behind))

  code_stands : CodeStandsAt whole number (run_end section) (length section.bytes) pos bytes fields
  code_stands = record {
    apart = apart;
    section = last;
    found = later.there;
    within = omega (arith, ends, length-append (section.bytes ++ blanked bytes fields) later.bytes);
    enough = omega (arith, items_so_far, length-append begun.items later.items);
    bytes_there = record { front = section.bytes; rest = later.bytes; long = refl; there = append_assoc section.bytes (blanked bytes fields) later.bytes };
    fields_there = record {
      earlier = section.fields;
      others = later.fields;
      there = ap (λ n. (section.fields ++ map (field_in pos number n (length section.bytes)) fields) ++ later.fields) items_so_far
          ∙ append_assoc section.fields (map (field_in pos number (run_end section) (length section.bytes)) fields) later.fields;
      before = within.fields;
      behind = subst (λ n. All (λ (field : Field). n ≤ field.offset) later.fields) ends later.fields_behind;
    };
    items_before = items_before;
    items_behind = items_behind;
  }

put_stands : (before next whole : List LooseSection) (number : ℕ) (pos : Pos) (bytes : List ℕ) (fields : List CodeField)
    → IsCodePut before next number pos bytes fields → AreWithin before → Grows next whole
    → CodeStandsAt whole number (option_map_or run_end (slice_get before number) 0)
    (option_map_or (λ section. length section.bytes) (slice_get before number) 0) pos bytes fields
put_stands before next whole number pos bytes fields put within grows =
    let new = with_code pos number bytes fields put.section in
    let there : slice_get next number ≡ Some new = ap (λ sections. slice_get sections number) put.put ∙ get_set before number put.section new put.there in
    subst (λ found. CodeStandsAt whole number (option_map_or run_end found 0)
    (option_map_or (λ (section : LooseSection). length section.bytes) found 0) pos bytes fields) (sym put.there)
    (code_stands pos put.section bytes fields number put.apart (All-there IsWithin before number put.section put.there within) whole
    (grows.kept number new there))

-- an instruction with operands stands in the whole
pub insn_there : TablesKeep → PutsStayWithin → EncodingsApart
    → (front : List TokenStatement) (s : TokenStatement) (later : List TokenStatement) (before placed whole : Placed) (text : InsnText)
    → AreWithin before.sections → place_all front before ≡ Ok placed → place_all (front ++ s ∷ later) before ≡ Ok whole → insn_in placed.syntax s ≡ Some text
    → jump_in text ≡ None → InsnStands whole.sections (pos_at s.file s.line) s.tokens text placed
insn_there tables law places front s later before placed whole text within is_front is_whole written no_jump =
    first_placed s later placed whole (sym (all_split front (s ∷ later) before ∙ ap (λ r. r >>= place_all (s ∷ later)) is_front) ∙ is_whole)
    (λ next is_next is_later.
    let insn = statement_put places s placed next text written no_jump is_next in
    record {
      coded = insn.coded;
      stands =
          put_stands placed.sections next.sections whole.sections placed.current (pos_at s.file s.line) insn.coded.made.bytes
          (code_fields text insn.coded.forms insn.coded.made)
          insn.put (all_within tables law front before placed is_front within) (all_grow tables later next whole is_later);
    })
