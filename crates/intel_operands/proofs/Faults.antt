-- An operand is refused exactly for the fault that it has.
use Rattle.std.proofs.Common.{◌≡◌, ◌⊎◌, ℕ, ◌+◌, ◌==◌, nat_lt, Bool, true, false, cond, List, [], ◌∷◌, Option, Some, None, Result, Ok, Err, length, drop, refl, sym, ap, subst, ◌∙◌, arith, inl, inr}
use Rattle.std.proofs.lemmas.Bool.{lt-ltb}
use Rattle.asm_base.specs.Tokens.{SpelledToken}
use Rattle.asm_expr.specs.declared.faults.ExprCause.{ExprCause}
use Rattle.asm_expr.specs.declared.faults.ExprCause.TheVariants as cause
use Rattle.x86_insn.specs.declared.insns.Address.{Address}
use Rattle.att_operands.specs.declared.faults.OperandCause.{OperandCause}
use Rattle.att_operands.specs.declared.faults.OperandCause.TheVariants.{BadOperand}
use Rattle.att_operands.specs.Values.{ValueText, ReadText, value_at, stated}
use Rattle.att_operands.specs.Failing.{ValueFails}
use Rattle.att_operands.specs.WholeValues.{ValuesAreRead, ValuesAreWritten, RefusedValuesFail, FailingValuesAreRefused}
use Rattle.intel_sums.specs.SumLaws.{SumsAreRead, SumsAreWritten}
use Rattle.intel_operands.specs.Symbols.{has_symbol, names_place}
use Rattle.intel_operands.specs.OperandTexts.{SizedText, Outline, lone, held, bare, stands, moved, ending, value_of, as_immediate, as_memory, bare_operand, as_bare, with_value, outlined, outline_of, operand_of, up_to_comma, ended, operand_at}
use Rattle.intel_operands.specs.Spells.{HasNoComma}
use Rattle.intel_operands.specs.Failing.{HoldsFault, of_offset, of_value, of_displacement, ExpressionFails, SpellsNothing, HasFault, expression, bad_operand, front_of, HasFaultExactly}
use Rattle.intel_operands.proofs.TextLemmas.{err_is, front_of_tokens}
use Rattle.intel_operands.proofs.OutlineTexts.{outline_reads, outline_written}
use Rattle.intel_operands.proofs.SpelledIsRead.{read_by_outline, text_reads}
use Rattle.intel_operands.proofs.ReadIsSpelled.{text_spelled}

-- AN EXPRESSION THAT FAILS

value_fails : FailingValuesAreRefused → (text : List SpelledToken) (own : ExprCause) → ValueFails text own → value_of text ≡ Err (stated own)
unfolding value_of
value_fails law text own fails = ap (ending text) (law text own fails)

held_fails : FailingValuesAreRefused → (branch : Bool) (outline : Outline) (own : ExprCause) → HoldsFault outline own → with_value branch outline ≡ Err (stated own)
held_fails law branch _ _ (of_offset text own fails) = ap as_immediate (value_fails law text own fails)
held_fails law branch _ _ (of_value text own fails) = ap (as_bare branch (names_place text) (has_symbol text)) (value_fails law text own fails)
held_fails law branch _ _ (of_displacement bits address text own fails) = ap (as_memory bits address) (value_fails law text own fails)

expression_fails : SumsAreRead → FailingValuesAreRefused → (branch : Bool) (text : List SpelledToken) (own : ExprCause) → ExpressionFails text own → operand_of branch text ≡ Err (stated own)
expression_fails sums law branch text own fails =
    read_by_outline branch text fails.some
    ∙ ap (outlined branch) (outline_reads sums fails.outline text fails.round)
    ∙ held_fails law branch fails.outline own fails.fails

-- A REFUSED OPERAND

-- the fault is a bad operand, or that of an expression which fails
abbrev Refused : (ExprCause → Type 0) → OperandCause → Type 0
Refused Fails fault = (fault ≡ BadOperand) ⊎ ((own : ExprCause) × Fails own × (fault ≡ stated own))

bad : {A : Type 0} (Fails : ExprCause → Type 0) (fault : OperandCause) → (let given : Result A OperandCause = Err BadOperand in given ≡ Err fault) → Refused Fails fault
bad Fails fault is = inl (sym (err_is is))

ending_refused : (text : List SpelledToken) (fault : OperandCause) (found : ReadText) (b : Bool) → cond b (Ok found.text) (Err BadOperand) ≡ Err fault → Refused (ValueFails text) fault
ending_refused text fault found true is = cc
ending_refused text fault found false is = bad (ValueFails text) fault is

value_by : RefusedValuesFail → (text : List SpelledToken) (fault : OperandCause) (read : Result ReadText OperandCause) → value_at text 0 ≡ read → ending text read ≡ Err fault → Refused (ValueFails text) fault
value_by law text fault (Ok found) reads is = ending_refused text fault found (found.next == length text) is
value_by law text fault (Err own) reads is =
    let same : own ≡ fault = err_is is in
    let failed = law text fault (rw same at reads) in
    inr (failed.cause, failed.fails, failed.is)

value_refused : RefusedValuesFail → (text : List SpelledToken) (fault : OperandCause) → value_of text ≡ Err fault → Refused (ValueFails text) fault
unfolding value_of
value_refused law text fault is = value_by law text fault (value_at text 0) refl is

lifted : (One Other : ExprCause → Type 0) (fault : OperandCause) → ((own : ExprCause) → One own → Other own) → Refused One fault → Refused Other fault
lifted One Other fault moves (inl is) = inl is
lifted One Other fault moves (inr failed) = inr (failed.0, moves failed.0 failed.1, failed.2)

immediate_by : RefusedValuesFail → (text : List SpelledToken) (fault : OperandCause) (read : Result ValueText OperandCause) → value_of text ≡ read → as_immediate read ≡ Err fault → Refused (HoldsFault (held text)) fault
immediate_by law text fault (Ok value) reads is = cc
immediate_by law text fault (Err own) reads is =
    let same : own ≡ fault = err_is is in
    lifted (ValueFails text) (HoldsFault (held text)) fault (λ c fails. of_offset text c fails) (value_refused law text fault (rw same at reads))

bare_refused : (branch : Bool) (text : List SpelledToken) (fault : OperandCause) (value : ValueText) (place symbol : Bool) → bare_operand branch place symbol value ≡ Err fault
    → Refused (HoldsFault (bare text)) fault
bare_refused true text fault value place symbol is = cc
bare_refused false text fault value true symbol is = cc
bare_refused false text fault value false true is = bad (HoldsFault (bare text)) fault is
bare_refused false text fault value false false is = cc

bare_by : RefusedValuesFail → (branch : Bool) (text : List SpelledToken) (fault : OperandCause) (read : Result ValueText OperandCause) → value_of text ≡ read
    → as_bare branch (names_place text) (has_symbol text) read ≡ Err fault
    → Refused (HoldsFault (bare text)) fault
bare_by law branch text fault (Ok value) reads is = bare_refused branch text fault value (names_place text) (has_symbol text) is
bare_by law branch text fault (Err own) reads is =
    let same : own ≡ fault = err_is is in
    lifted (ValueFails text) (HoldsFault (bare text)) fault (λ c fails. of_value text c fails) (value_refused law text fault (rw same at reads))

memory_by : RefusedValuesFail → (bits : ℕ) (address : Address) (text : List SpelledToken) (fault : OperandCause) (read : Result ValueText OperandCause) → value_of text ≡ read → as_memory bits address read ≡ Err fault
    → Refused (HoldsFault (moved bits address text)) fault
memory_by law bits address text fault (Ok value) reads is = cc
memory_by law bits address text fault (Err own) reads is =
    let same : own ≡ fault = err_is is in
    lifted (ValueFails text) (HoldsFault (moved bits address text)) fault (λ c fails. of_displacement bits address text c fails) (value_refused law text fault (rw same at reads))

held_refused : RefusedValuesFail → (branch : Bool) (outline : Outline) (fault : OperandCause) → with_value branch outline ≡ Err fault → Refused (HoldsFault outline) fault
held_refused law branch (lone reg) fault is = cc
held_refused law branch (held text) fault is = immediate_by law text fault (value_of text) refl is
held_refused law branch (bare text) fault is = bare_by law branch text fault (value_of text) refl is
held_refused law branch (stands bits address) fault is = cc
held_refused law branch (moved bits address text) fault is = memory_by law bits address text fault (value_of text) refl is

outlined_refused : SumsAreWritten → RefusedValuesFail → (branch : Bool) (text : List SpelledToken) (fault : OperandCause) (found : Option Outline) → nat_lt 0 (length text) ≡ true → outline_of text ≡ found
    → outlined branch found ≡ Err fault → Refused (ExpressionFails text) fault
outlined_refused sums_written law branch text fault None some round is = bad (ExpressionFails text) fault is
outlined_refused sums_written law branch text fault (Some outline) some round is =
    lifted (HoldsFault outline) (ExpressionFails text) fault
    (λ own fails. record { outline = outline; some = some; round = outline_written sums_written outline text round; fails = fails })
    (held_refused law branch outline fault is)

text_refused : SumsAreWritten → RefusedValuesFail → (branch : Bool) (text : List SpelledToken) (fault : OperandCause) → operand_of branch text ≡ Err fault → Refused (ExpressionFails text) fault
unfolding operand_of
text_refused sums_written law branch [] fault is = bad (ExpressionFails []) fault is
text_refused sums_written law branch (token ∷ rest) fault is =
    outlined_refused sums_written law branch (token ∷ rest) fault (outline_of (token ∷ rest)) (lt-ltb 0 (length (token ∷ rest)) (omega arith)) refl is

-- THE FAULT OF A TEXT

stated_apart : (own : ExprCause) → stated own ≡ BadOperand → ⊥
stated_apart cause.BadExpression is = cc
stated_apart cause.NumberTooWide is = cc
stated_apart cause.ExpressionTooDeep is = cc
stated_apart cause.DivisionByZero is = cc
stated_apart cause.ValueNotKnown is = cc
stated_apart cause.NotASumOfSymbols is = cc

not_both : (operand : SizedText) (fault : OperandCause) → (let given : Result SizedText OperandCause = Ok operand in given ≡ Err fault) → ⊥
not_both operand fault is = cc

nothing : SumsAreRead → ValuesAreRead → FailingValuesAreRefused → (branch : Bool) (text : List SpelledToken) → operand_of branch text ≡ Err BadOperand → SpellsNothing branch text
nothing sums read law branch text is = record {
  fails = λ own fails. stated_apart own (err_is (sym (expression_fails sums law branch text own fails) ∙ is));
  spells = λ operand spells. not_both operand BadOperand (sym (text_reads sums read branch operand text spells) ∙ is);
}

fault_by : SumsAreRead → ValuesAreRead → FailingValuesAreRefused → (branch : Bool) (text : List SpelledToken) (fault : OperandCause) → operand_of branch text ≡ Err fault → Refused (ExpressionFails text) fault
    → HasFault branch text fault
fault_by sums read law branch text fault is (inl same) =
    subst (HasFault branch text) (sym same) (bad_operand branch text (nothing sums read law branch text (is ∙ ap Err same)))
fault_by sums read law branch text fault is (inr failed) = subst (HasFault branch text) (sym failed.2) (expression branch text failed.0 failed.1)

refused_by : (branch : Bool) (text : List SpelledToken) (fault : OperandCause) → SpellsNothing branch text → operand_of branch text ≡ Err fault → Refused (ExpressionFails text) fault
    → operand_of branch text ≡ Err BadOperand
refused_by branch text fault none is (inl same) = is ∙ ap Err same
refused_by branch text fault none is (inr failed) = absurd (none.fails failed.0 failed.1)

nothing_refused : SumsAreWritten → ValuesAreWritten → RefusedValuesFail → (branch : Bool) (text : List SpelledToken) (read : Result SizedText OperandCause) → HasNoComma text → SpellsNothing branch text → operand_of branch text ≡ read
    → operand_of branch text ≡ Err BadOperand
nothing_refused sums_written written law branch text (Ok operand) apart none is = absurd (none.spells operand (text_spelled sums_written written branch text operand apart is))
nothing_refused sums_written written law branch text (Err fault) apart none is = refused_by branch text fault none is (text_refused sums_written law branch text fault is)

has_refused : SumsAreRead → SumsAreWritten → ValuesAreWritten → RefusedValuesFail → FailingValuesAreRefused → (branch : Bool) (text : List SpelledToken) (fault : OperandCause) → HasNoComma text → HasFault branch text fault
    → operand_of branch text ≡ Err fault
has_refused sums sums_written written refused law _ _ _ apart (expression branch text own fails) = expression_fails sums law branch text own fails
has_refused sums sums_written written refused law _ _ _ apart (bad_operand branch text none) = nothing_refused sums_written written refused branch text (operand_of branch text) apart none refl

-- AMONG OTHER TOKENS

ended_refused : (next : ℕ) (fault : OperandCause) (read : Result SizedText OperandCause) → ended next read ≡ Err fault → read ≡ Err fault
ended_refused next fault (Ok operand) is = cc
ended_refused next fault (Err own) is = ap Err (err_is is)

-- an operand has a fault exactly where it is refused for it
pub has_fault_exactly : SumsAreRead → SumsAreWritten → ValuesAreRead → ValuesAreWritten → RefusedValuesFail → FailingValuesAreRefused → (branch : Bool) (tokens : List SpelledToken) (at : ℕ) (fault : OperandCause)
    → HasFaultExactly branch tokens at fault
unfolding operand_at
has_fault_exactly sums sums_written read written refused law branch tokens at fault =
    let text = front_of (drop at tokens) in
    let next = at + up_to_comma (drop at tokens) in
    record {
      fails = λ is.
          let own = ended_refused next fault (operand_of branch text) is in
          fault_by sums read law branch text fault own (text_refused sums_written refused branch text fault own);
      refused = λ has. ap (ended next) (has_refused sums sums_written written refused law branch text fault (front_of_tokens (drop at tokens)).apart has);
    }
