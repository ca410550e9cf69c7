-- The answer for what came of the statements of the text.
use Rattle.std.proofs.Common.{◌≡◌, [], ◌∷◌, ap, ◌∙◌, string_bytes}
use Rattle.asm_front.specs.Outcome.{flags_asked}
use Rattle.source_ends.specs.Synthesis.{Synthesis}
use Rattle.asm_front.proofs.AnswerLemmas.{text_missed}
use Rattle.asm_front.proofs.AnswerFacts.{source_taken, source_large, source_cause, source_found}
use Rattle.asm_front.proofs.AnswersMade.{empty_is, text_answers}
use Rattle.asm_front.proofs.StartedFiles.{text_starts}
use Rattle.asm_front.proofs.assembling.assemble_text.Goals as goal

pub returns-clause-outcome : goal.returns-clause-outcome
returns-clause-outcome g c =
    let named : c.in-Ok.started ≡ string_bytes c.args.asked.now.file ∷ [] = c.in-Ok.ensures ∙ ap (λ name. name ∷ []) c.as_str-name.ensures.value in
    text_answers c.args.asked.now (g.I.Inputs.contents c.args.ins.now) c.args.text c.in-Ok.started
    c.expand_source-expanded.new.files c.in-Ok-new.placer c.expand_source-expanded.new.placer c.expand_source-expanded.result c.answer.result named c.in-Ok-new.ensures
    c.expand_source-expanded.ensures.outcome c.answer.ensures.answer

pub returns-clause-missing : goal.returns-clause-missing
returns-clause-missing g c =
    let named : c.in-Ok.started ≡ string_bytes c.args.asked.now.file ∷ [] = c.in-Ok.ensures ∙ ap (λ name. name ∷ []) c.as_str-name.ensures.value in
    λ (made : Synthesis).
    text_missed (flags_asked c.args.asked.now made) (string_bytes c.args.asked.now.file) (g.I.Inputs.contents c.args.ins.now) c.args.text c.in-Ok.started
    c.in-Ok-new.placer (g.I.Inputs.missing c.args.ins.now) (g.I.Inputs.missing c.expand_source-expanded.new.ins) named (c.in-Ok-new.ensures ∙ empty_is c.args.asked.now made)
    c.expand_source-expanded.ensures.missing

pub returns-clause-cause : goal.returns-clause-cause
returns-clause-cause g c =
    source_cause c.args.asked.now c.expand_source-expanded.new.files c.expand_source-expanded.new.placer c.expand_source-expanded.result
    c.answer.result (g.I.Inputs.faults c.args.ins.now) (g.I.Inputs.faults c.expand_source-expanded.new.ins) c.answer.ensures.answer c.expand_source-expanded.ensures.cause

pub returns-clause-found : goal.returns-clause-found
returns-clause-found g c =
    source_found c.args.asked.now c.expand_source-expanded.new.files c.expand_source-expanded.new.placer c.expand_source-expanded.result
    c.answer.result (g.I.Inputs.missing c.args.ins.now) (g.I.Inputs.missing c.expand_source-expanded.new.ins) c.answer.ensures.answer c.expand_source-expanded.ensures.found

pub returns-clause-taken : goal.returns-clause-taken
returns-clause-taken g c =
    source_large c.the_end_is_no_reading.ensures c.args.asked.now c.expand_source-expanded.new.files c.expand_source-expanded.new.placer c.expand_source-expanded.result
    c.answer.result (g.I.Inputs.taken c.args.ins.now) (g.I.Inputs.taken c.expand_source-expanded.new.ins) c.answer.ensures.answer c.answer.ensures.small c.expand_source-expanded.ensures.too_large

pub returns-clause-at_most : goal.returns-clause-at_most
returns-clause-at_most g c =
    source_taken c.args.asked.now c.expand_source-expanded.new.files c.expand_source-expanded.new.placer c.expand_source-expanded.result
    c.answer.result (g.I.Inputs.taken c.args.ins.now) (g.I.Inputs.taken c.expand_source-expanded.new.ins) c.answer.ensures.answer c.expand_source-expanded.ensures.taken c.expand_source-expanded.ensures.started

pub returns-clause-starts : goal.returns-clause-starts
returns-clause-starts g c =
    let named : c.in-Ok.started ≡ string_bytes c.args.asked.now.file ∷ [] = c.in-Ok.ensures ∙ ap (λ name. name ∷ []) c.as_str-name.ensures.value in
    λ (made : Synthesis).
    text_starts (flags_asked c.args.asked.now made) (string_bytes c.args.asked.now.file) c.args.text (g.I.Inputs.contents c.args.ins.now) c.in-Ok.started
    c.expand_source-expanded.new.files c.in-Ok-new.placer (g.I.Inputs.history c.args.ins.now) (g.I.Inputs.history c.expand_source-expanded.new.ins) (g.I.Inputs.taken c.args.ins.now)
    (g.I.Inputs.taken c.expand_source-expanded.new.ins) named (c.in-Ok-new.ensures ∙ empty_is c.args.asked.now made) c.expand_source-expanded.ensures.starts
