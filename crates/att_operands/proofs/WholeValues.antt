-- Values that are whole texts are read as they are written.
use Rattle.std.proofs.Common.{◌≡◌, ℕ, ◌+◌, List, [], ◌++◌, Result, Ok, true, ◌≤◌, length, drop, refl, sym, ap, subst, ◌∙◌, arith}
use Rattle.std.proofs.lemmas.List.{append-nil}
use Rattle.std.proofs.Math.ListN.{drop_of_length-le}
use Rattle.asm_base.specs.Tokens.{SpelledToken}
use Rattle.att_operands.specs.declared.faults.OperandCause.{OperandCause}
use Rattle.att_operands.specs.Marks.{ends_by}
use Rattle.att_operands.specs.Values.{ValueText, ReadText}
use Rattle.att_operands.specs.Spells.{WritesValue, ends}
use Rattle.att_operands.specs.WholeValues.{ValuesAreRead, ValuesAreWritten, RefusedValuesFail, FailingValuesAreRefused}
use Rattle.att_operands.proofs.FrontReadings.{TextsAreRead, ReadsAreTexts}
use Rattle.att_operands.proofs.SpelledValues.{value_reads, ended_quiet}
use Rattle.att_operands.proofs.ReadValues.{value_written}
use Rattle.att_operands.proofs.RefusedFails.{FaultsAreKnown, value_refused}
use Rattle.att_operands.proofs.FailsRefused.{value_fails}

nothing_ends : ends [] ≡ true
unfolding ends_by
nothing_ends = refl

ends_there : ValueText → ℕ → Result ReadText OperandCause
ends_there value next = Ok (record { text = value; next = next })

pub values_are_read : TextsAreRead → ValuesAreRead
unfolding ends_there
values_are_read text_is_read value text writes = value_reads text_is_read text 0 value text [] writes (sym (append-nil text)) (ended_quiet [] nothing_ends) ∙ ap (ends_there value) (omega arith)

pub values_are_written : ReadsAreTexts → ValuesAreWritten
values_are_written read_is_text text found is whole =
    let read = value_written read_is_text text 0 found is in
    let next = read.next in
    let past : length text ≤ 0 + length read.text = omega arith in
    let left : drop (0 + length read.text) text ≡ [] = drop_of_length-le text past in
    let same : text ≡ read.text = read.stands ∙ ap (λ (ts : List SpelledToken). read.text ++ ts) left ∙ append-nil read.text in
    subst (WritesValue found.text) (sym same) read.writes

pub refused_values_fail : FaultsAreKnown → RefusedValuesFail
refused_values_fail has_fault text fault is = let failed = value_refused has_fault text 0 fault is in record { cause = failed.own; fails = failed.fails; is = failed.is }

pub failing_values_are_refused : FaultsAreKnown → FailingValuesAreRefused
failing_values_are_refused has_fault text cause fails = value_fails has_fault text 0 cause fails
