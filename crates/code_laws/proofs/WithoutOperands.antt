-- What is read where an instruction without operands is loaded.
use Rattle.std.proofs.Common.{◌≡◌, ℕ, ◌+◌, ◌≤◌, Bool, true, false, cond, List, [], ◌∷◌, ◌++◌, Option, Some, None, Ok, option_map, length, drop, set, refl, sym, ap, subst, ◌∙◌, arith}
use Rattle.std.specs.Prelude.{◌==◌, ◌&&◌, ◌||◌, not}
use Rattle.std.specs.List.{find, list_all}
use Rattle.std.proofs.lemmas.List.{append-nil}
use Rattle.std.proofs.lemmas.Option.{none-some, same_Some}
use Rattle.asm_base.specs.Tokens.{SpelledToken}
use Rattle.asm_base.specs.declared.positions.Pos.{Pos}
use Rattle.asm_frags.specs.declared.fields.Field.{Field}
use Rattle.asm_frags.specs.Writing.{LooseSection, ends_in_run, new_item, with_item, with_run, with_bytes}
use Rattle.item_contents.specs.declared.contents.Content.TheVariants.{Run}
use Rattle.asm_operands.specs.Operands.{is_name, begins_with_dot}
use Rattle.asm_words.specs.declared.directives.Syntax.{Syntax}
use Rattle.asm_words.specs.declared.directives.Syntax.TheVariants.{Att, Intel}
use Rattle.asm_values.specs.State.{Placed}
use Rattle.x86_insn.specs.Views.{View}
use Rattle.x86_table.specs.declared.forms.Row.{Row}
use Rattle.x86_table.specs.declared.mnemonics.integers.TheConstants.{CALL, HLT, JMP, MOV, MOVABS, RET, UD2}
use Rattle.x86_lookup.specs.declared.names.Named.{Named}
use Rattle.x86_lookup.specs.Names.{the_att_names, has_text}
use Rattle.x86_lookup.specs.BareInstructions.{Coded, bare_row, bare_view, bare_coded, bare_of, bare_instruction, BareCodesRead, BareCodesStand}
use Rattle.x86_parts.specs.Codes.{meant}
use Rattle.insn_effects.specs.Decoding.{is_branch}
use Rattle.insn_effects.specs.Flows.{onward, through, returns, stops, flow_of}
use Rattle.x86_steps.specs.Fillings.{FillsView}
use Rattle.step_readings.specs.Obeying.{ReadBytesObey}
use Rattle.scfi_laws.specs.LaidLaws.{NodesSuitItems}
use Rattle.item_readings.specs.Items.{ReadsItemOnly, InstructionsAreCovered}
use Rattle.asm_place.specs.Instructions.{behind_labels, instruction_written, IsPut}
use Rattle.asm_place.specs.Placing.{place_tokens}
use Rattle.asm_place.specs.CodePlaces.{with_code, IsCodePut}
use Rattle.place_laws.specs.Ends.{place_in}
use Rattle.code_laws.specs.Codes.{LoadedCodesStand, IsNoJump}
use Rattle.code_laws.specs.Bare.{BareInstructionsAreLaid}
use Rattle.code_laws.proofs.Lists.{piece_stands}
use Rattle.code_laws.proofs.Encoded.{laid_plain}

-- what is known of instructions without operands, and of what is read
pub record Facts : Type 0 where
  pub stand : LoadedCodesStand
  pub put : (pos : Pos) (tokens : List SpelledToken) (before placed : Placed) (coded : Coded) → instruction_written before.syntax (behind_labels tokens) ≡ Some coded
      → place_tokens pos tokens before ≡ Ok placed → IsPut before.sections placed.sections before.current pos coded.bytes
  pub reads : BareCodesRead
  pub some : BareCodesStand
  pub obey : ReadBytesObey
  pub cover : InstructionsAreCovered
  pub suit : NodesSuitItems

-- THE INSTRUCTION

-- its mnemonic has a row without operands
record IsOfRow (coded : Coded) : Type 0 where
  text : List ℕ
  written : bare_instruction text ≡ Some coded
  row : Row
  coded_is : coded ≡ bare_coded row

named_row : (named : Option Named) (text : List ℕ) (coded : Coded) → bare_instruction text ≡ Some coded → bare_of named ≡ Some coded → IsOfRow coded
named_row None text coded written is = absurd (none-some coded is)
named_row (Some named) text coded written is = by (bare_row named) is
  where
    by : (row : Option Row) → option_map bare_coded row ≡ Some coded → IsOfRow coded
    by None is = absurd (none-some coded is)
    by (Some row) is = record { text = text; written = written; row = row; coded_is = sym (same_Some (bare_coded row) coded is) }

of_text : (text : List ℕ) (coded : Coded) → bare_instruction text ≡ Some coded → IsOfRow coded
unfolding bare_instruction
of_text text coded is = named_row (find (has_text text) the_att_names) text coded is is

tested : (test : Bool) (name : SpelledToken) (coded : Coded) → cond test (bare_instruction name.bytes) None ≡ Some coded → IsOfRow coded
tested true name coded is = of_text name.bytes coded is
tested false name coded is = absurd (none-some coded is)

of_row : (syntax : Syntax) (tokens : List SpelledToken) (coded : Coded) → instruction_written syntax tokens ≡ Some coded → IsOfRow coded
unfolding instruction_written
of_row Intel tokens coded is = absurd (none-some coded is)
of_row Att [] coded is = absurd (none-some coded is)
of_row Att (name ∷ []) coded is = tested (is_name name && not (begins_with_dot name.bytes)) name coded is
of_row Att (name ∷ operand ∷ rest) coded is = absurd (none-some coded is)

-- it is no `mov` of a wide number
same_name : (moves wide : Bool) (one other : ℕ) → cond (moves && (wide && (false && false))) one other ≡ other
same_name true true one other = refl
same_name true false one other = refl
same_name false wide one other = refl

fills_own : (row : Row) → FillsView (meant (bare_view row)) (bare_view row)
fills_own row =
    let name = same_name (row.name.0 == MOV) (row.size == 64) MOVABS row.name.0 in
    record { name = sym name; size = refl; words = refl; first = refl; second = refl; third = refl }

-- nor a direct jump
goes_by : (jump branch call back stop : Bool)
    → IsNoJump (cond jump through (cond branch through (cond call onward (cond back returns (cond stop stops onward)))))
goes_by true branch call back stop = tt
goes_by false true call back stop = tt
goes_by false false true back stop = tt
goes_by false false false true stop = tt
goes_by false false false false true = tt
goes_by false false false false false = tt

bare_goes : (row : Row) → IsNoJump (flow_of (bare_view row))
bare_goes row =
    goes_by (row.name.0 == JMP) (is_branch row.name.0) (row.name.0 == CALL) (row.name.0 == RET) ((row.name.0 == UD2) || (row.name.0 == HLT))

-- ITS BYTES

some_long : (bytes : List ℕ) → list_all (λ byte. byte == 0) bytes ≡ false → 1 ≤ length bytes
some_long [] is = absurd (cc)
some_long (byte ∷ bytes) is = omega arith

run_fields : (test : Bool) (pos : Pos) (section : LooseSection) → (cond test section (with_item (new_item pos Run) section)).fields ≡ section.fields
run_fields true pos section = refl
run_fields false pos section = refl

-- plain bytes are those of an instruction without fields
as_code : (pos : Pos) (number : ℕ) (bytes : List ℕ) (section : LooseSection) → with_bytes pos bytes section ≡ with_code pos number bytes [] section
as_code pos number bytes section =
    ap (λ (fields : List Field). record (with_run pos section) { bytes = section.bytes ++ bytes; fields = fields })
    (run_fields (ends_in_run section.items) pos section ∙ sym (append-nil section.fields))

put_as_code : (before after : List LooseSection) (number : ℕ) (pos : Pos) (bytes : List ℕ) → 1 ≤ length bytes → IsPut before after number pos bytes
    → IsCodePut before after number pos bytes []
put_as_code before after number pos bytes some put = record {
  apart = some;
  section = put.section;
  there = put.there;
  put = put.put ∙ ap (set before number) (as_code pos number bytes put.section);
}

pub bare_instructions_are_laid : Facts → BareInstructionsAreLaid
bare_instructions_are_laid facts symbols laid pos tokens coded before placed code item node starts written is within l of_item =
    let row = of_row before.syntax (behind_labels tokens) coded written in
    let some = some_long coded.bytes (facts.some row.text coded row.written) in
    let put = put_as_code before.sections placed.sections before.current pos coded.bytes some (facts.put pos tokens before placed coded written is) in
    let loaded = facts.stand symbols laid before.current before.sections placed.sections pos coded.bytes [] code within put l in
    let place = place_in laid before.current before.sections in
    let stands = piece_stands code coded.bytes place loaded.stands.within (λ k few. loaded.stands.same k few tt) in
    let insn_is : coded.insn ≡ bare_view row.row = ap (λ (c : Coded). c.insn) row.coded_is in
    let fills = subst (λ (v : View). FillsView (meant v) v) (sym insn_is) (fills_own row.row) in
    let obeyed = facts.obey coded.insn coded.insn coded.bytes code (drop (place + length coded.bytes) code) place fills (facts.reads row.text coded row.written) stands in
    let none = subst (λ (v : View). IsNoJump (flow_of v)) (sym insn_is) (bare_goes row.row) in
    let reads : ReadsItemOnly coded.insn item node starts code place coded.bytes _ = record {
      read = obeyed.read;
      flow = λ r h. (obeyed.obeys r h).flow ∙ sym of_item.shows.flow;
      inside = λ inside r h. (facts.cover coded.insn item node starts place coded.bytes _ r of_item (obeyed.obeys r h)).inside inside;
      directed = λ r h. (facts.cover coded.insn item node starts place coded.bytes _ r of_item (obeyed.obeys r h)).directed;
    } in
    laid_plain facts.suit coded.insn item node starts code coded.bytes _ laid before placed (length coded.bytes) loaded.moves some refl of_item none reads
