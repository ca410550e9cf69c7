-- What is seen of an instruction with operands where it is placed.
use Rattle.std.proofs.Common.{◌≡◌, ℕ, Bool, true, false, cond, List, [], ◌∷◌, Option, Some, None, Result, Ok, Err, refl, sym, ap, ◌∙◌}
use Rattle.std.specs.Prelude.{◌&&◌, not}
use Rattle.std.proofs.lemmas.Option.{none-some, same_Some}
use Rattle.asm_base.specs.Refusals.{◌>>=◌}
use Rattle.asm_base.specs.Tokens.{SpelledToken}
use Rattle.asm_base.specs.declared.positions.Pos.{Pos}
use Rattle.asm_operands.specs.Operands.{begins_with_label, names_symbol, is_assignment, is_name, begins_with_dot}
use Rattle.asm_words.specs.declared.directives.Syntax.{Syntax}
use Rattle.asm_values.specs.State.{Placed}
use Rattle.att_operands.specs.declared.faults.OperandCause.{OperandCause}
use Rattle.att_insns.specs.InsnTexts.{InsnText}
use Rattle.x86_insn.specs.declared.amounts.Values.{Values}
use Rattle.x86_insn.specs.declared.insns.Base.{Base}
use Rattle.x86_insn.specs.declared.insns.Base.TheVariants as base
use Rattle.x86_insn.specs.declared.insns.Slot.{Slot}
use Rattle.x86_insn.specs.declared.insns.Slot.TheVariants as slot
use Rattle.x86_insn.specs.Views.{displaced}
use Rattle.asm_place.specs.Coding.{shape_in, forms_of, view_in, seen_in, values_in, lone_code, insn_by}
use Rattle.asm_place.specs.Placing.{place_label}
use Rattle.asm_place.specs.Effects.{view_formed, view_coded, insn_view}
use Rattle.asm_place.specs.Instructions.{behind_labels}
use Rattle.asm_place.specs.CodePlaces.{ValueForms, text_read, insn_written, labelled, known_in}
use Rattle.step_readings.specs.Filled.{IsPlain, IsPlainView}
use Rattle.code_laws.specs.Codes.{IsNumbered, AreNumbered}
use Rattle.code_laws.specs.Instructions.{EncodingsAreSeen}

-- WITHOUT LABELS

-- tokens in front of which no label stands are all after the labels
pub none_behind : (tokens : List SpelledToken) → begins_with_label tokens ≡ false → behind_labels tokens ≡ tokens
unfolding behind_labels
none_behind [] is = refl
none_behind (token ∷ []) is = refl
none_behind (first ∷ second ∷ rest) is = ap (λ b. cond b (behind_labels rest) (first ∷ second ∷ rest)) is

-- and nothing is placed of labels
pub none_labelled : (pos : Pos) (tokens : List SpelledToken) (placed : Placed) → begins_with_label tokens ≡ false → labelled pos tokens placed ≡ Ok placed
unfolding labelled
none_labelled pos [] placed is = refl
none_labelled pos (token ∷ []) placed is = refl
none_labelled pos (first ∷ second ∷ rest) placed is = ap (λ b. cond b (place_label pos first placed >>= (λ labels. labelled pos rest labels)) (Ok placed)) is

pub same_Ok : {A E : Type 0} (x y : A) → ◌≡◌ {A = Result A E} (Ok x) (Ok y) → x ≡ y
same_Ok x y is = ap (λ r. elim r [ Ok made ↦ made | Err fault ↦ x ]) is

-- WHAT IS WRITTEN

-- the tokens are read as this instruction, and no bytes are asked for its mnemonic alone
pub record IsReadAs (syntax : Syntax) (tokens : List SpelledToken) (text : InsnText) : Type 0 where
  pub lone : lone_code syntax tokens ≡ None
  pub read : insn_by syntax tokens ≡ Ok text

read_by : (code : Option (List ℕ)) (read : Result InsnText OperandCause) (text : InsnText) → text_read code read ≡ Some text → (code ≡ None) × (read ≡ Ok text)
read_by (Some bytes) read text is = absurd (none-some text is)
read_by None (Ok got) text is = (refl, ap Ok (same_Some got text is))
read_by None (Err fault) text is = absurd (none-some text is)

tested_by : (assigns names : Bool) (code : Option (List ℕ)) (read : Result InsnText OperandCause) (text : InsnText)
    → cond assigns None (cond names (text_read code read) None) ≡ Some text → (code ≡ None) × (read ≡ Ok text)
tested_by true names code read text is = absurd (none-some text is)
tested_by false true code read text is = read_by code read text is
tested_by false false code read text is = absurd (none-some text is)

pub written_is_read : (syntax : Syntax) (tokens : List SpelledToken) (text : InsnText) → insn_written syntax tokens ≡ Some text → IsReadAs syntax tokens text
unfolding insn_written
written_is_read syntax [] text is = absurd (none-some text is)
written_is_read syntax (first ∷ rest) text is =
    let got =
    tested_by (names_symbol first && is_assignment rest) (is_name first && not (begins_with_dot first.bytes)) (lone_code syntax (first ∷ rest)) (insn_by syntax (first ∷ rest)) text is in
    record { lone = got.0; read = got.1 }

-- WHAT IS SEEN

-- where the instruction has these forms, it is seen with their values
pub seen_is : (pos : Pos) (tokens : List SpelledToken) (text : InsnText) (before : Placed) (forms : ValueForms) → IsReadAs before.syntax tokens text
    → forms_of (known_in pos text before) text.immediate.tree text.displacement.tree ≡ Ok forms → insn_view pos tokens before ≡ Some (view_in text (values_in forms))
seen_is pos tokens text before forms is made =
    ap (λ lone. view_coded pos lone (insn_by before.syntax tokens) before) is.lone
    ∙ (ap (λ read. view_coded pos None read before) is.read ∙ ap (view_formed (shape_in text)) made)

-- so it is with the forms that are made behind no labels
pub encodings_are_seen : EncodingsAreSeen
encodings_are_seen pos tokens text before made none written =
    let labels : made.labels ≡ before = same_Ok made.labels before (sym made.labels_are ∙ none_labelled pos tokens before none) in
    seen_is pos tokens text before made.forms (written_is_read before.syntax tokens text written)
    (ap (λ (there : Placed). forms_of (known_in pos text there) text.immediate.tree text.displacement.tree) (sym labels) ∙ made.forms_are)

-- IT IS PLAIN

again : (b : Base) (d : Option ℕ) → displaced b (displaced b d) ≡ displaced b d
again base.Absent d = refl
again base.Rip d = refl
again (base.Of n) d = refl

plain_slot : (text : InsnText) (values : Values) (s : Slot) → IsNumbered (seen_in text values s) → IsPlain (seen_in text values s)
plain_slot text values slot.Absent is = tt
plain_slot text values (slot.Register reg) is = tt
plain_slot text values slot.Immediate is = is
plain_slot text values slot.Memory is = again text.address.base values.displacement
plain_slot text values slot.Target is = refl

pub plain_view : (text : InsnText) (values : Values) → AreNumbered (view_in text values) → IsPlainView (view_in text values)
plain_view text values is = record {
  first = plain_slot text values text.first is.first;
  second = plain_slot text values text.second is.second;
  third = plain_slot text values text.third is.third;
}
