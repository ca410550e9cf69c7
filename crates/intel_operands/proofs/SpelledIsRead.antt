-- An operand that is spelled is read.
use Rattle.std.proofs.Common.{◌≡◌, ℕ, ◌+◌, nat_lt, Bool, true, false, cond, List, [], ◌∷◌, ◌++◌, Ok, Err, length, take, drop, refl, sym, ap, ◌∙◌}
use Rattle.std.proofs.lemmas.Bool.{eq-eqb}
use Rattle.asm_base.specs.Tokens.{SpelledToken}
use Rattle.att_operands.specs.declared.faults.OperandCause.TheVariants.{BadOperand}
use Rattle.att_operands.specs.Values.{ValueText}
use Rattle.att_operands.specs.Spells.{WritesValue}
use Rattle.att_operands.specs.WholeValues.{ValuesAreRead}
use Rattle.intel_sums.specs.SumLaws.{SumsAreRead}
use Rattle.intel_operands.specs.Symbols.{has_symbol, names_place}
use Rattle.intel_operands.specs.OperandTexts.{SizedText, Outline, ending, value_of, as_immediate, as_memory, as_bare, with_value, outlined, outline_of, operand_of, up_to_comma, ended, operand_at}
use Rattle.intel_operands.specs.Spells.{HoldsValue, of_register, of_offset, of_target, of_symbol, of_number, of_address, of_displacement, SpellsOperand, ends, IsReadWhole}
use Rattle.intel_operands.proofs.TextLemmas.{ok_is, all_before, taken}
use Rattle.intel_operands.proofs.OutlineTexts.{outline_reads}

-- a value that is a whole text is read
pub value_reads : ValuesAreRead → (value : ValueText) (text : List SpelledToken) → WritesValue value text → value_of text ≡ Ok value
unfolding value_of
value_reads law value text writes =
    let whole = eq-eqb (length text) (length text) refl in
    ap (ending text) (law value text writes) ∙ ap (λ (b : Bool). cond b (Ok value) (Err BadOperand)) whole

-- and so is the operand that it gives
pub value_held : ValuesAreRead → (branch : Bool) (outline : Outline) (operand : SizedText) → HoldsValue branch outline operand → with_value branch outline ≡ Ok operand
value_held law _ _ _ (of_register branch reg) = refl
value_held law _ _ _ (of_offset branch value text writes) = ap as_immediate (value_reads law value text writes)
value_held law _ _ _ (of_target value text writes) = ap (as_bare true (names_place text) (has_symbol text)) (value_reads law value text writes)
value_held law _ _ _ (of_symbol value text places writes) =
    ap (λ (place : Bool). as_bare false place (has_symbol text) (value_of text)) places ∙ ap (as_bare false true (has_symbol text)) (value_reads law value text writes)
value_held law _ _ _ (of_number value text places none writes) =
    ap (λ (place : Bool). as_bare false place (has_symbol text) (value_of text)) places ∙ ap (λ (symbol : Bool). as_bare false false symbol (value_of text)) none
    ∙ ap (as_bare false false false) (value_reads law value text writes)
value_held law _ _ _ (of_address branch bits address) = refl
value_held law _ _ _ (of_displacement branch bits address value text writes) = ap (as_memory bits address) (value_reads law value text writes)

-- a text with a token is read by what stands round its value
pub read_by_outline : (branch : Bool) (text : List SpelledToken) → nat_lt 0 (length text) ≡ true → operand_of branch text ≡ outlined branch (outline_of text)
unfolding operand_of
read_by_outline branch [] some = cc
read_by_outline branch (token ∷ rest) some = refl

pub text_reads : SumsAreRead → ValuesAreRead → (branch : Bool) (operand : SizedText) (text : List SpelledToken) → SpellsOperand branch operand text → operand_of branch text ≡ Ok operand
text_reads sums law branch operand text spells =
    read_by_outline branch text spells.some
    ∙ ap (outlined branch) (outline_reads sums spells.outline text spells.round)
    ∙ value_held law branch spells.outline operand spells.holds

-- an operand that is spelled among other tokens is read
pub operand_reads : SumsAreRead → ValuesAreRead → (branch : Bool) (operand : SizedText) (tokens : List SpelledToken) (at : ℕ) (text behind : List SpelledToken) → SpellsOperand branch operand text
    → drop at tokens ≡ text ++ behind → ends behind ≡ true → IsReadWhole branch operand tokens at text
unfolding operand_at
operand_reads sums law branch operand tokens at text behind spells stands ended_here =
    let count : up_to_comma (drop at tokens) ≡ length text = ap up_to_comma stands ∙ all_before text behind spells.apart ended_here in
    let front : take (up_to_comma (drop at tokens)) (drop at tokens) ≡ text =
    ap (λ (n : ℕ). take n (drop at tokens)) count ∙ ap (take (length text)) stands ∙ taken text behind in
    ap (λ (n : ℕ). ended (at + n) (operand_of branch (take (up_to_comma (drop at tokens)) (drop at tokens)))) count
    ∙ ap (λ (ts : List SpelledToken). ended (at + length text) (operand_of branch ts)) front
    ∙ ap (ended (at + length text)) (text_reads sums law branch operand text spells)

-- a text spells one operand
pub one_operand : SumsAreRead → ValuesAreRead → (branch : Bool) (one other : SizedText) (text : List SpelledToken) → SpellsOperand branch one text → SpellsOperand branch other text → one ≡ other
one_operand sums law branch one other text spells also = ok_is (sym (text_reads sums law branch one text spells) ∙ text_reads sums law branch other text also)
