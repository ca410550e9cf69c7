-- Statements that put items from which control goes by a direct jump.
use Rattle.std.proofs.Common.{◌≡◌, ℕ, ◌==◌, ◌&&◌, ◌||◌, is_some, List, [], ◌∷◌, cond, Bool, true, false, not, drop, Option, Some, None, Ok, refl, sym, ap, ◌∙◌, subst}
use Rattle.std.specs.Prelude.{codes, option_map}
use Rattle.std.specs.List.{find}
use Rattle.std.proofs.lemmas.Option.{none-some, same_Some}
use Rattle.asm_base.specs.Tokens.{SpelledToken}
use Rattle.asm_base.specs.declared.positions.Pos.{Pos}
use Rattle.asm_lines.specs.NextStatements.{TokenStatement}
use Rattle.asm_frags.specs.SectionOf.{section_number}
use Rattle.asm_operands.specs.Operands.{begins_with_label, is_name, begins_with_dot}
use Rattle.asm_words.specs.declared.directives.Directive.{Directive}
use Rattle.asm_words.specs.declared.directives.Directive.TheVariants as directive
use Rattle.asm_words.specs.declared.directives.Syntax.{Syntax}
use Rattle.asm_words.specs.declared.directives.Syntax.TheVariants.{Att, Intel}
use Rattle.asm_items.specs.Alignments.{is_code}
use Rattle.asm_values.specs.State.{Placed}
use Rattle.asm_declarations.specs.Commons.{bss}
use Rattle.x86_insn.specs.Views.{Seen, absent, View}
use Rattle.x86_table.specs.declared.forms.Row.{Row}
use Rattle.x86_table.specs.declared.mnemonics.integers.TheConstants.{CALL, HLT, JMP, RET, UD2}
use Rattle.x86_lookup.specs.declared.names.Named.{Named}
use Rattle.x86_lookup.specs.BareInstructions.{Coded, bare_row, bare_coded, bare_of, bare_instruction}
use Rattle.x86_lookup.specs.Names.{the_att_names, has_text}
use Rattle.insn_effects.specs.Decoding.{is_branch}
use Rattle.insn_effects.specs.Flows.{onward, jumps, returns, stops, jump_flow, call_flow, flow_of}
use Rattle.insn_effects.specs.Followed.{flow_by}
use Rattle.att_insns.specs.InsnTexts.{InsnText}
use Rattle.asm_place.specs.declared.bodies.Body.{Body}
use Rattle.asm_place.specs.declared.bodies.Body.TheVariants as body
use Rattle.asm_place.specs.Bodies.{body_of}
use Rattle.asm_place.specs.CodePlaces.{BeginsAsInstruction, insn_written, is_instruction}
use Rattle.asm_place.specs.Effects.{insn_view, fill_said}
use Rattle.asm_place.specs.Instructions.{behind_labels, instruction_written}
use Rattle.asm_place.specs.Placing.{place_tokens}
use Rattle.asm_place.specs.Sources.{pos_at, place}
use Rattle.code_functions.specs.declared.items.CodeItem.{CodeItem}
use Rattle.code_functions.specs.Seen.{seen, data_item}
use Rattle.asm_functions.specs.Following.{end_of, fields_in, same_place, fills_with_code, plain_item, item_seen}
use Rattle.asm_functions.specs.Joined.{PutItem, moved_put, directive_put, body_put}
use Rattle.code_laws.specs.Instructions.{BareInstructionsAreSeen}
use Rattle.code_laws.specs.Jumps.{IsJumpWritten, JumpsAreWritten}
use Rattle.code_laws.proofs.Views.{none_behind}
use Rattle.code_laws.proofs.Placing.{tokens_placed}
use Rattle.code_laws.proofs.Dispatching.{begins_so, some_of}

-- what is known of instructions
pub record Facts : Type 0 where
  pub told : (pos : Pos) (tokens : List SpelledToken) (first : SpelledToken) (rest : List SpelledToken) (before placed : Placed) → behind_labels tokens ≡ first ∷ rest
      → BeginsAsInstruction first rest → place_tokens pos tokens before ≡ Ok placed → is_instruction before.syntax (behind_labels tokens) ≡ true
  pub bare : BareInstructionsAreSeen

-- WITHOUT OPERANDS

row_first : (row : Option Row) (coded : Coded) → option_map bare_coded row ≡ Some coded → coded.insn.first ≡ absent
row_first None coded is = absurd (none-some coded is)
row_first (Some r) coded is = ap (λ (c : Coded). c.insn.first) (sym (same_Some (bare_coded r) coded is))

named_first : (found : Option Named) (coded : Coded) → bare_of found ≡ Some coded → coded.insn.first ≡ absent
named_first None coded is = absurd (none-some coded is)
named_first (Some named) coded is = row_first (bare_row named) coded is

tested_first : (test : Bool) (name : List ℕ) (coded : Coded) → cond test (bare_instruction name) None ≡ Some coded → coded.insn.first ≡ absent
unfolding bare_instruction
tested_first true name coded is = named_first (find (has_text name) the_att_names) coded is
tested_first false name coded is = absurd (none-some coded is)

-- an instruction whose mnemonic alone has bytes has no operand
bare_first : (syntax : Syntax) (tokens : List SpelledToken) (coded : Coded) → instruction_written syntax tokens ≡ Some coded → coded.insn.first ≡ absent
unfolding instruction_written
bare_first Intel tokens coded is = absurd (none-some coded is)
bare_first Att [] coded is = absurd (none-some coded is)
bare_first Att (name ∷ []) coded is = tested_first (is_name name && not (begins_with_dot name.bytes)) name.bytes coded is
bare_first Att (name ∷ operand ∷ rest) coded is = absurd (none-some coded is)

-- so control does not go from it by a direct jump
no_jump : (jmp branch call ret stop : Bool) (falls : Bool)
    → cond jmp (jump_flow absent false) (cond branch (jump_flow absent true) (cond call (call_flow absent) (cond ret returns (cond stop stops onward)))) ≡ jumps falls → ⊥
no_jump true branch call ret stop falls is = cc
no_jump false true call ret stop falls is = cc
no_jump false false true ret stop falls is = cc
no_jump false false false true stop falls is = cc
no_jump false false false false true falls is = cc
no_jump false false false false false falls is = cc

absent_stays : (insn : View) (falls : Bool) → insn.first ≡ absent → flow_of insn ≡ jumps falls → ⊥
absent_stays insn falls first goes =
    let name = insn.name.0 in
    no_jump (name == JMP) (is_branch name) (name == CALL) (name == RET) ((name == UD2) || (name == HLT)) falls
    (subst (λ (o : Seen). flow_of (record insn { first = o }) ≡ jumps falls) first goes)

second_of : {X : Type 0} (found : Option X) (other : Bool) → found ≡ None → (is_some found || other) ≡ true → other ≡ true
second_of None other none is = is
second_of (Some x) other none is = absurd (none-some x (sym none))

-- ITEMS

module _ (facts : Facts) (s : TokenStatement) (before placed : Placed) (number : ℕ) (item : CodeItem) (falls : Bool) (no_label : begins_with_label s.tokens ≡ false)
    (is : place s before ≡ Ok placed) (jump : flow_by item.effect.role ≡ jumps falls) where
  abbrev pos : Pos
  pos = pos_at s.file s.line

  abbrev put : PutItem
  put = record { section = number; item = seen item }

  -- from what is put control goes by a direct jump
  goes_so : (due : PutItem) → due ≡ put → due.item.flow ≡ jumps falls
  goes_so due same = ap (λ (p : PutItem). p.item.flow) same ∙ jump

  -- it does not from data,
  data_by : (test : Bool) (n : ℕ) → cond test (Some (record { section = n; item = data_item pos (end_of before.sections n) })) None ≡ Some put → ⊥
  data_by true n due = let goes : stops ≡ jumps falls = goes_so _ (same_Some _ put due) in cc
  data_by false n due = none-some put due

  moved_by : (n : Option ℕ) → moved_put pos n before placed ≡ Some put → ⊥
  moved_by None due = none-some put due
  moved_by (Some n) due = data_by (false || not (same_place (end_of before.sections n) (end_of placed.sections n))) n due

  -- nor from padding
  align_by : (test : Bool) (n : ℕ) → Some (record { section = n; item = plain_item test pos (end_of before.sections n) }) ≡ Some put → ⊥
  align_by true n due = let goes : onward ≡ jumps falls = goes_so _ (same_Some _ put due) in cc
  align_by false n due = let goes : stops ≡ jumps falls = goes_so _ (same_Some _ put due) in cc

  directed : (found : Directive) → directive_put found pos (drop 1 s.tokens) before placed ≡ Some put → ⊥
  directed (directive.Data size) due = data_by _ before.current due
  directed (directive.Strings ended) due = data_by _ before.current due
  directed (directive.Leb128 signed) due = data_by _ before.current due
  directed directive.Zero due = data_by _ before.current due
  directed directive.Skip due = data_by _ before.current due
  directed directive.Fill due = data_by _ before.current due
  directed (directive.Align by) due =
      align_by (is_code before.sections before.current && fills_with_code (fill_said pos (drop 1 s.tokens) before)) before.current due
  directed directive.Org due = data_by _ before.current due
  directed (directive.Enter initial) due = none-some put due
  directed directive.Section due = none-some put due
  directed directive.PushSection due = none-some put due
  directed directive.PopSection due = none-some put due
  directed directive.Previous due = none-some put due
  directed (directive.Say attribute) due = none-some put due
  directed directive.Type due = none-some put due
  directed directive.Size due = none-some put due
  directed (directive.Assign once) due = none-some put due
  directed directive.Comm due = data_by _ bss due
  directed directive.Lcomm due = data_by _ bss due
  directed directive.Ident due = moved_by (section_number (codes ".comment") before.sections) due
  directed directive.File due = none-some put due
  directed directive.Loc due = none-some put due
  directed (directive.Error said) due = none-some put due
  directed directive.Warning due = none-some put due
  directed (directive.Syntax syntax) due = none-some put due
  directed directive.Code64 due = none-some put due
  directed (directive.Frame frame) due = none-some put due

  -- AN INSTRUCTION

  abbrev seen_as : Option View → PutItem
  seen_as found = record {
    section = before.current;
    item = item_seen found pos (end_of before.sections before.current) (fields_in before.sections before.current) (fields_in placed.sections before.current);
  }

  module _ (insn : View) (view : insn_view pos s.tokens before ≡ Some insn) (kind : body_of s.tokens ≡ body.Instruction) (due : seen_as (Some insn) ≡ put) where
    goes : flow_of insn ≡ jumps falls
    goes = goes_so (seen_as (Some insn)) due

    -- it has operands
    written : is_instruction before.syntax s.tokens ≡ true
    written =
        let words = begins_so s.tokens kind in
        let behind = none_behind s.tokens no_label in
        ap (is_instruction before.syntax) (sym behind)
        ∙ facts.told pos s.tokens words.first words.rest before placed (behind ∙ words.are) words.begins (tokens_placed s before placed is)

    text_by : (bare : Option Coded) → instruction_written before.syntax s.tokens ≡ bare → (text : InsnText) × (insn_written before.syntax s.tokens ≡ Some text)
    text_by (Some coded) bare =
        let same : insn ≡ coded.insn = same_Some insn coded.insn (sym view ∙ facts.bare pos s.tokens before coded bare) in
        absurd (absent_stays insn falls (ap (λ (v : View). v.first) same ∙ bare_first before.syntax s.tokens coded bare) goes)
    text_by None bare =
        some_of (insn_written before.syntax s.tokens)
        (second_of (instruction_written before.syntax s.tokens) (is_some (insn_written before.syntax s.tokens)) bare written)

    as_jump : IsJumpWritten s before placed number item
    as_jump =
        let text = text_by (instruction_written before.syntax s.tokens) refl in
        let back = sym due in
        record {
          current = ap (λ (p : PutItem). p.section) due;
          text = text.0;
          written = text.1;
          insn = insn;
          view = view;
          shows = record {
            effect = ap (λ (p : PutItem). p.item.effect) back;
            flow = ap (λ (p : PutItem). p.item.flow) back;
            supported = ap (λ (p : PutItem). p.item.unsupported) back;
            no_padding = ap (λ (p : PutItem). p.item.padding) back;
            no_data = ap (λ (p : PutItem). p.item.no_insn) back;
          };
          field = ap (λ (p : PutItem). p.item.field) back;
        }

  insn_by : body_of s.tokens ≡ body.Instruction → (found : Option View) → insn_view pos s.tokens before ≡ found → Some (seen_as found) ≡ Some put
      → IsJumpWritten s before placed number item
  insn_by kind None view due = absurd (let goes : stops ≡ jumps falls = goes_so (seen_as None) (same_Some (seen_as None) put due) in cc)
  insn_by kind (Some insn) view due = as_jump insn view kind (same_Some (seen_as (Some insn)) put due)

  by_body : (found : Body) → body_of s.tokens ≡ found → body_put found pos s.tokens before placed ≡ Some put → IsJumpWritten s before placed number item
  by_body body.Nothing kind due = absurd (none-some put due)
  by_body body.Assignment kind due = absurd (none-some put due)
  by_body (body.Directed None) kind due = absurd (none-some put due)
  by_body (body.Directed (Some found)) kind due = absurd (directed found due)
  by_body body.Instruction kind due = insn_by kind (insn_view pos s.tokens before) refl due
  by_body body.Unknown kind due = absurd (none-some put due)

pub jumps_are_written : Facts → JumpsAreWritten
jumps_are_written facts s before placed number item falls no_label is due jump = by_body facts s before placed number item falls no_label is jump (body_of s.tokens) refl due
