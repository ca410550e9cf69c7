-- The faults of the lines, of expansion, and of a statement.
use Rattle.std.proofs.Common.{◌≡◌, Err, sym, subst}
use Rattle.asm_macro.specs.declared.faults.ExpandFault.TheVariants.{Lines, Expansion, Placing}
use Rattle.asm_front.specs.Assembly.{shown_files}
use Rattle.asm_front.specs.Answering.{AnswersSource}
use Rattle.asm_front.proofs.AnswerFacts.{placing_small}
use Rattle.asm_front.proofs.SynthesizedEnds.{lines_answer, stopped_answer, placing_answer}
use Rattle.asm_front.proofs.answering.answer.Goals as goal

pub returns-in-Ok-clause-answer : goal.returns-in-Ok-clause-answer
returns-in-Ok-clause-answer c =
    subst (λ e. AnswersSource c.args.asked.now c.args.started.now c.args.placer e c.ended.result) (sym c.in-Ok.is) c.ended.ensures

pub returns-in-Err-Lines-clause-answer : goal.returns-in-Err-Lines-clause-answer
returns-in-Err-Lines-clause-answer c =
    let is : c.args.expanded ≡ Err (Lines c.in-Err-Lines.cause) = cc in
    lines_answer c.args.asked.now c.args.started.now c.args.placer c.args.expanded c.new.result c.in-Err-Lines.cause c.line_fault.result c.as_str-name.result.now
    c.faulty-in-Err-Lines.result is c.line_fault.ensures c.as_str-name.ensures.value c.new.ensures c.faulty-in-Err-Lines.ensures

pub returns-in-Err-Expansion-clause-answer : goal.returns-in-Err-Expansion-clause-answer
returns-in-Err-Expansion-clause-answer c =
    let is : c.args.expanded ≡ Err (Expansion c.in-Err-Expansion.cause c.in-Err-Expansion.pos) = cc in
    stopped_answer c.args.asked.now c.args.started.now c.args.placer c.args.expanded c.in-Err-Expansion.cause c.in-Err-Expansion.pos c.as_str-name.result.now
    c.stopped.result is c.as_str-name.ensures.value c.stopped.ensures

pub returns-in-Err-Placing-clause-answer : goal.returns-in-Err-Placing-clause-answer
returns-in-Err-Placing-clause-answer c =
    let is : c.args.expanded ≡ Err (Placing c.in-Err-Placing.refusal) = cc in
    placing_answer c.args.asked.now c.args.started.now c.args.placer c.args.expanded c.in-Err-Placing.refusal c.into_fault.result c.as_str-name.result.now
    c.faulty-in-Err-Placing.result is c.into_fault.ensures.value c.as_str-name.ensures.value c.faulty-in-Err-Placing.ensures

pub returns-in-Err-Placing-clause-small : goal.returns-in-Err-Placing-clause-small
returns-in-Err-Placing-clause-small c =
    let is : c.args.expanded ≡ Err (Placing c.in-Err-Placing.refusal) = cc in
    placing_small c.args.expanded c.in-Err-Placing.refusal c.into_fault.result (shown_files c.as_str-name.result.now c.args.started.now) c.faulty-in-Err-Placing.result is
    c.into_fault.ensures.apart c.faulty-in-Err-Placing.ensures
