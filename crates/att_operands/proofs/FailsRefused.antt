-- An operand whose expression fails is refused for that, and a bad operand is refused as one.
use Rattle.std.proofs.Common.{◌≡◌, ℕ, ◌+◌, ◌==◌, ◌||◌, Bool, true, false, cond, not, List, ◌∷◌, Option, Some, None, Result, Ok, Err, drop, slice_get, refl, sym, ap, subst, ◌∙◌, inl, inr, arith}
use Rattle.asm_base.specs.Tokens.{SpelledToken}
use Rattle.asm_expr.specs.declared.faults.ExprCause.{ExprCause}
use Rattle.asm_expr.specs.declared.faults.ExprCause.TheVariants as cause
use Rattle.expr_texts.specs.Reading.{reading}
use Rattle.expr_texts.specs.Failing.{FailsAt}
use Rattle.x86_insn.specs.declared.amounts.Suffix.{Suffix}
use Rattle.x86_insn.specs.declared.insns.Segment.{Segment}
use Rattle.att_operands.specs.declared.faults.OperandCause.{OperandCause}
use Rattle.att_operands.specs.declared.faults.OperandCause.TheVariants.{BadOperand}
use Rattle.att_operands.specs.Marks.{mark_by, mark_at, begins_by}
use Rattle.att_operands.specs.Addresses.{register_by, address_at}
use Rattle.att_operands.specs.Values.{stated, suffixed_name, suffix_at, without_suffix, as_value, value_with, value_at, begun_at}
use Rattle.att_operands.specs.OperandTexts.{ReadPart, no_displacement, addressed, displaced_by, memory_at, named_place, place_at, immediate_by, target_by, target_at, other_by, operand_by, ended, operand_at}
use Rattle.att_operands.specs.Failing.{expression_by, ValueFails, BegunFails, PlaceFails, unnamed, segmented, ExpressionFails, immediate_of, place, target_of, indirect, SpellsNothing, HasFault, expression, bad_operand, HasFaultExactly}
use Rattle.att_operands.proofs.FrontReadings.{TextsAreRead, ReadsAreTexts, placed_fails}
use Rattle.att_operands.proofs.SpelledOperands.{token_is, mark_is, left_behind}
use Rattle.att_operands.proofs.SpelledWhole.{operand_reads}
use Rattle.att_operands.proofs.ReadOperands.{read_is_spelled}
use Rattle.att_operands.proofs.SuffixPlaces.{same_suffix, same_expression}
use Rattle.att_operands.proofs.RefusedFails.{here_is, same_opens, err_is, Refused, FaultsAreKnown, operand_refused}

first_none : (a b c d : Bool) → not (a || b || c || d) ≡ true → a ≡ false
first_none true b c d is = cc
first_none false b c d is = refl

second_none : (a b c d : Bool) → not (a || b || c || d) ≡ true → b ≡ false
second_none true b c d is = cc
second_none false true c d is = cc
second_none false false c d is = refl

fourth_none : (a b c d : Bool) → not (a || b || c || d) ≡ true → d ≡ false
fourth_none true b c d is = cc
fourth_none false true c d is = cc
fourth_none false false true d is = cc
fourth_none false false false true is = cc
fourth_none false false false false is = refl

-- what begins a value is no mark of another operand
record Unlike (found : Option SpelledToken) : Type 0 where
  sign : (mark_by found == 37) ≡ false
  dollar : (mark_by found == 36) ≡ false
  star : (mark_by found == 42) ≡ false

unlike : (found : Option SpelledToken) → begins_by found ≡ true → Unlike found
unfolding begins_by
unlike None begins = cc
unlike (Some token) begins = record {
  sign = first_none (mark_by (Some token) == 37) (mark_by (Some token) == 36) (mark_by (Some token) == 44) (mark_by (Some token) == 42) begins;
  dollar = second_none (mark_by (Some token) == 37) (mark_by (Some token) == 36) (mark_by (Some token) == 44) (mark_by (Some token) == 42) begins;
  star = fourth_none (mark_by (Some token) == 37) (mark_by (Some token) == 36) (mark_by (Some token) == 44) (mark_by (Some token) == 42) begins;
}

unlike_at : (tokens : List SpelledToken) (at : ℕ) (own : ExprCause) → BegunFails (drop at tokens) own → Unlike (slice_get tokens at)
unlike_at tokens at own fails = subst Unlike (sym (here_is tokens at)) (unlike (slice_get (drop at tokens) 0) fails.begins)

stated_apart : (own : ExprCause) → stated own ≡ BadOperand → ⊥
stated_apart cause.BadExpression is = cc
stated_apart cause.NumberTooWide is = cc
stated_apart cause.ExpressionTooDeep is = cc
stated_apart cause.DivisionByZero is = cc
stated_apart cause.ValueNotKnown is = cc
stated_apart cause.NotASumOfSymbols is = cc

not_both : (found : ReadPart) (fault : OperandCause) → (let given : Result ReadPart OperandCause = Ok found in given ≡ Err fault) → ⊥
not_both found fault is = cc

module _ (has_fault : FaultsAreKnown) where
  -- a value fails where its expression does
  with_fails : (tokens : List SpelledToken) (at : ℕ) (own : ExprCause) (suffix : Option Suffix) → FailsAt (expression_by (drop at tokens) suffix) own
      → value_with tokens at suffix ≡ Err (stated own)
  with_fails tokens at own None fails = ap (as_value None 0) (placed_fails tokens at own ((has_fault (drop at tokens) own).refused fails))
  with_fails tokens at own (Some suffix) fails =
      ap (as_value (Some suffix) 2) (placed_fails (without_suffix tokens (suffixed_name tokens at)) at own (ap (reading 1 0) (same_expression tokens at) ∙ (has_fault (expression_by (drop at tokens) (Some suffix)) own).refused fails))

  pub value_fails : (tokens : List SpelledToken) (at : ℕ) (own : ExprCause) → ValueFails (drop at tokens) own → value_at tokens at ≡ Err (stated own)
  unfolding value_at
  value_fails tokens at own fails =
      with_fails tokens at own (suffix_at tokens at) (subst (λ (s : Option Suffix). FailsAt (expression_by (drop at tokens) s) own) (same_suffix tokens at) fails)

  begun_fails : (tokens : List SpelledToken) (at : ℕ) (own : ExprCause) → BegunFails (drop at tokens) own → begun_at tokens at ≡ Err (stated own)
  unfolding begun_at
  begun_fails tokens at own fails =
      ap (λ (b : Bool). cond b (value_at tokens at) (Err BadOperand)) (ap begins_by (here_is tokens at) ∙ fails.begins) ∙ value_fails tokens at own fails.fails

  memory_fails : (tokens : List SpelledToken) (at : ℕ) (own : ExprCause) (segment : Option Segment) → BegunFails (drop at tokens) own → memory_at tokens segment at ≡ Err (stated own)
  unfolding memory_at
  memory_fails tokens at own segment fails =
      ap (λ (b : Bool). cond b (addressed segment no_displacement (address_at tokens (at + 1))) (displaced_by tokens segment (begun_at tokens at))) (same_opens tokens at ∙ fails.unopened)
      ∙ ap (displaced_by tokens segment) (begun_fails tokens at own fails)

  place_fails : (tokens : List SpelledToken) (at : ℕ) (text : List SpelledToken) (own : ExprCause) → PlaceFails text own → drop at tokens ≡ text → place_at tokens at ≡ Err (stated own)
  unfolding place_at
  place_fails tokens at _ _ (unnamed text own fails) stands =
      let here : BegunFails (drop at tokens) own = subst (λ (ts : List SpelledToken). BegunFails ts own) (sym stands) fails in
      ap (λ (b : Bool). cond b (named_place tokens (register_by (slice_get tokens (at + 1))) (at + 2)) (memory_at tokens None at)) (unlike_at tokens at own here).sign
      ∙ memory_fails tokens at own None here
  place_fails tokens at _ _ (segmented segment sign word colon rest own sign_is names colon_is fails) stands =
      let text = sign ∷ word ∷ colon ∷ rest in
      let g0 = token_is 0 tokens text at at sign stands (omega arith) refl in
      let g1 = token_is 1 tokens text at (at + 1) word stands refl refl in
      let g2 = token_is 2 tokens text at (at + 2) colon stands refl refl in
      let m = mark_is tokens at 37 sign g0 sign_is in
      let c = mark_is tokens (at + 2) 58 colon g2 colon_is in
      let left : drop ((at + 2) + 1) tokens ≡ rest = left_behind 3 tokens text at ((at + 2) + 1) stands (omega arith) in
      rw (m, g1, names, c) (memory_fails tokens ((at + 2) + 1) own (Some segment) (subst (λ (ts : List SpelledToken). BegunFails ts own) (sym left) fails))

  place_unsigned : (tokens : List SpelledToken) (at : ℕ) (text : List SpelledToken) (own : ExprCause) → PlaceFails text own → drop at tokens ≡ text → (mark_at tokens at == 36) ≡ false
  place_unsigned tokens at _ _ (unnamed text own fails) stands =
      (unlike_at tokens at own (subst (λ (ts : List SpelledToken). BegunFails ts own) (sym stands) fails)).dollar
  place_unsigned tokens at _ _ (segmented segment sign word colon rest own sign_is names colon_is fails) stands =
      rw (mark_is tokens at 37 sign (token_is 0 tokens (sign ∷ word ∷ colon ∷ rest) at at sign stands (omega arith) refl) sign_is) refl

  expression_fails : (tokens : List SpelledToken) (at : ℕ) (branch : Bool) (text : List SpelledToken) (own : ExprCause) → ExpressionFails branch text own → drop at tokens ≡ text
      → operand_by branch tokens at ≡ Err (stated own)
  expression_fails tokens at _ _ _ (immediate_of branch sign rest own sign_is fails) stands =
      let m = mark_is tokens at 36 sign (token_is 0 tokens (sign ∷ rest) at at sign stands (omega arith) refl) sign_is in
      let left : drop (at + 1) tokens ≡ rest = left_behind 1 tokens (sign ∷ rest) at (at + 1) stands refl in
      rw m (ap immediate_by (value_fails tokens (at + 1) own (subst (λ (ts : List SpelledToken). ValueFails ts own) (sym left) fails)))
  expression_fails tokens at _ _ _ (place text own fails) stands =
      ap (λ (b : Bool). cond b (immediate_by (value_at tokens (at + 1))) (other_by false tokens at)) (place_unsigned tokens at text own fails stands)
      ∙ place_fails tokens at text own fails stands
  expression_fails tokens at _ _ _ (target_of text own fails) stands =
      let here : BegunFails (drop at tokens) own = subst (λ (ts : List SpelledToken). BegunFails ts own) (sym stands) fails in
      let other = unlike_at tokens at own here in
      ap (λ (b : Bool). cond b (immediate_by (value_at tokens (at + 1))) (other_by true tokens at)) other.dollar
      ∙ ap (λ (b : Bool). cond b (place_at tokens (at + 1)) (target_at tokens at)) other.star
      ∙ ap (λ (b : Bool). cond b (Err BadOperand) (target_by (begun_at tokens at))) (same_opens tokens at ∙ here.unopened)
      ∙ ap target_by (begun_fails tokens at own here)
  expression_fails tokens at _ _ _ (indirect star rest own star_is fails) stands =
      let m = mark_is tokens at 42 star (token_is 0 tokens (star ∷ rest) at at star stands (omega arith) refl) star_is in
      let left : drop (at + 1) tokens ≡ rest = left_behind 1 tokens (star ∷ rest) at (at + 1) stands refl in
      rw m (place_fails tokens (at + 1) rest own fails left)

  operand_fails : (tokens : List SpelledToken) (at : ℕ) (branch : Bool) (text : List SpelledToken) (own : ExprCause) → ExpressionFails branch text own → drop at tokens ≡ text
      → operand_at branch tokens at ≡ Err (stated own)
  unfolding operand_at
  operand_fails tokens at branch text own fails stands = ap (ended tokens) (expression_fails tokens at branch text own fails stands)

  module _ (text_is_read : TextsAreRead) (read_is_text : ReadsAreTexts) where
    nothing : (tokens : List SpelledToken) (at : ℕ) (branch : Bool) → operand_at branch tokens at ≡ Err BadOperand → SpellsNothing branch (drop at tokens)
    nothing tokens at branch is = record {
      fails = λ own fails. stated_apart own (err_is (sym (operand_fails tokens at branch (drop at tokens) own fails refl) ∙ is));
      spells = λ operand text behind spells stands ended_here. not_both _ BadOperand (sym (operand_reads text_is_read branch operand tokens at text behind spells stands ended_here) ∙ is);
    }

    fault_by : (tokens : List SpelledToken) (at : ℕ) (branch : Bool) (fault : OperandCause) → operand_at branch tokens at ≡ Err fault → Refused (ExpressionFails branch (drop at tokens)) fault
        → HasFault branch (drop at tokens) fault
    fault_by tokens at branch fault is (inl same) =
        subst (λ (c : OperandCause). HasFault branch (drop at tokens) c) (sym same) (bad_operand branch (drop at tokens) (nothing tokens at branch (rw (sym same) is)))
    fault_by tokens at branch fault is (inr failed) =
        subst (λ (c : OperandCause). HasFault branch (drop at tokens) c) (sym failed.is) (expression branch (drop at tokens) failed.own failed.fails)

    refused_by : (tokens : List SpelledToken) (at : ℕ) (branch : Bool) (fault : OperandCause) → SpellsNothing branch (drop at tokens) → operand_at branch tokens at ≡ Err fault
        → Refused (ExpressionFails branch (drop at tokens)) fault → operand_at branch tokens at ≡ Err BadOperand
    refused_by tokens at branch fault none is (inl same) = rw (sym same) is
    refused_by tokens at branch fault none is (inr failed) = absurd (none.fails failed.own failed.fails)

    nothing_refused : (tokens : List SpelledToken) (at : ℕ) (branch : Bool) (read : Result ReadPart OperandCause) → SpellsNothing branch (drop at tokens) → operand_at branch tokens at ≡ read
        → operand_at branch tokens at ≡ Err BadOperand
    nothing_refused tokens at branch (Ok found) none is =
        absurd (let spelled = read_is_spelled read_is_text branch tokens at found is in none.spells found.operand spelled.text spelled.behind spelled.spells spelled.stands spelled.ended)
    nothing_refused tokens at branch (Err fault) none is = refused_by tokens at branch fault none is (operand_refused has_fault tokens at branch fault is)

    has_refused : (tokens : List SpelledToken) (at : ℕ) (branch : Bool) (text : List SpelledToken) (fault : OperandCause) → HasFault branch text fault → drop at tokens ≡ text
        → operand_at branch tokens at ≡ Err fault
    has_refused tokens at _ _ _ (expression branch text own fails) stands = operand_fails tokens at branch text own fails stands
    has_refused tokens at _ _ _ (bad_operand branch text none) stands =
        nothing_refused tokens at branch (operand_at branch tokens at) (subst (λ (ts : List SpelledToken). SpellsNothing branch ts) (sym stands) none) refl

    -- an operand has a fault exactly where it is refused for it
    pub has_fault_exactly : (branch : Bool) (tokens : List SpelledToken) (at : ℕ) (fault : OperandCause) → HasFaultExactly branch tokens at fault
    has_fault_exactly branch tokens at fault = record {
      fails = λ is. fault_by tokens at branch fault is (operand_refused has_fault tokens at branch fault is);
      refused = λ has. has_refused tokens at branch (drop at tokens) fault has refl;
    }
