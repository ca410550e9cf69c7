-- What was read is assembled, or is too large.
use Rattle.std.proofs.Common.{◌≡◌, subst, [], Ok, Err, string_bytes, refl}
use Rattle.asm_base.specs.History.{happened, whole_file}
use Rattle.asm_base.specs.Inputs.{CountsMissing}
use Rattle.asm_base.specs.WholeFile.{ReadsName}
use Rattle.asm_base.specs.declared.reading.TextFault.TheVariants.{TooLarge}
use Rattle.asm_front.specs.Answering.{AnswersText, CountsText, IsAnswered, StartsIncluded}
use Rattle.asm_front.specs.Assembly.{faulty, main_file, shown_files, too_large}
use Rattle.asm_front.specs.Outcome.{flags_asked}
use Rattle.asm_front.specs.Sources.{file}
use Rattle.asm_front.proofs.StartedFiles.{all_start}
use Rattle.source_ends.specs.Synthesis.{Synthesis}
use Rattle.asm_front.proofs.AnswersMade.{main_answers, large_answers}
use Rattle.asm_front.proofs.WholeSources.{file_is_read, file_is_large, text_missed_there}
use Rattle.asm_front.proofs.assembling.assemble_file.Goals as goal

pub returns-in-Ok-clause-outcome : goal.returns-in-Ok-clause-outcome
returns-in-Ok-clause-outcome g c =
    let name = string_bytes c.args.asked.now.file in
    let contents = g.I.Inputs.contents c.args.ins.now in
    let rest = g.I.Inputs.rest c.read_text.new.ins in
    main_answers c.written_reads_back.ensures c.written_is_readable.ensures c.told_files_are_known.ensures c.args.asked.now contents (file name) c.in-Ok.text rest c.assemble_text.result refl
    (file_is_read contents name c.in-Ok.text rest (subst (λ shown. ReadsName contents shown (Ok c.in-Ok.text) rest) c.as_str-name.ensures.value c.in-Ok.ensures.text))
    (subst (λ known. AnswersText c.args.asked.now known c.in-Ok.text c.assemble_text.result) c.in-Ok.ensures.contents c.assemble_text.ensures.outcome)

pub returns-in-Ok-clause-missing : goal.returns-in-Ok-clause-missing
returns-in-Ok-clause-missing g c = λ (made : Synthesis).
    text_missed_there c.told_files_are_known.ensures (flags_asked c.args.asked.now made) (g.I.Inputs.contents c.args.ins.now) (string_bytes c.args.asked.now.file) c.in-Ok.text (g.I.Inputs.rest c.read_text.new.ins)
    (g.I.Inputs.missing c.args.ins.now) (g.I.Inputs.missing c.read_text.new.ins) (g.I.Inputs.missing c.assemble_text.new.ins)
    (subst (λ name. ReadsName (g.I.Inputs.contents c.args.ins.now) name (Ok c.in-Ok.text) (g.I.Inputs.rest c.read_text.new.ins)) c.as_str-name.ensures.value c.in-Ok.ensures.text)
    (subst (λ name. CountsMissing (g.I.Inputs.contents c.args.ins.now) name (g.I.Inputs.missing c.args.ins.now) (g.I.Inputs.missing c.read_text.new.ins)) c.as_str-name.ensures.value c.in-Ok.ensures.missing)
    (subst (λ contents. CountsText (flags_asked c.args.asked.now made) contents (string_bytes c.args.asked.now.file) c.in-Ok.text (g.I.Inputs.missing c.read_text.new.ins) (g.I.Inputs.missing c.assemble_text.new.ins))
    c.in-Ok.ensures.contents (c.assemble_text.ensures.missing made))

pub returns-in-Err-TooLarge-clause-outcome : goal.returns-in-Err-TooLarge-clause-outcome
returns-in-Err-TooLarge-clause-outcome g c =
    let name = string_bytes c.args.asked.now.file in
    let contents = g.I.Inputs.contents c.args.ins.now in
    let rest = g.I.Inputs.rest c.read_text.new.ins in
    large_answers c.args.asked.now contents (file name) rest c.refuse_large.result
    (file_is_large contents name rest
    (subst (λ shown. ReadsName contents shown (Err TooLarge) rest) c.as_str-name.ensures.value
    (subst (λ fault. ReadsName contents c.as_str-name.result.now (Err fault) rest) c.in-Err-TooLarge.field-0-is c.in-Err-TooLarge.ensures.text)))
    (subst (λ shown. IsAnswered (faulty (too_large main_file) (shown_files shown [])) c.refuse_large.result) c.as_str-name.ensures.value c.refuse_large.ensures)

pub returns-in-Ok-clause-starts : goal.returns-in-Ok-clause-starts
returns-in-Ok-clause-starts g c = λ (made : Synthesis).
    all_start (flags_asked c.args.asked.now made) (string_bytes c.args.asked.now.file) c.in-Ok.text c.told_files_are_known.ensures (g.I.Inputs.contents c.args.ins.now) (g.I.Inputs.rest c.read_text.new.ins)
    (g.I.Inputs.history c.args.ins.now) (g.I.Inputs.history c.read_text.new.ins) (g.I.Inputs.history c.assemble_text.new.ins)
    (g.I.Inputs.taken c.args.ins.now) (g.I.Inputs.taken c.read_text.new.ins) (g.I.Inputs.taken c.assemble_text.new.ins)
    (subst (λ name. ReadsName (g.I.Inputs.contents c.args.ins.now) name (Ok c.in-Ok.text) (g.I.Inputs.rest c.read_text.new.ins)) c.as_str-name.ensures.value c.in-Ok.ensures.text)
    (subst (λ name. g.I.Inputs.history c.read_text.new.ins ≡ happened (g.I.Inputs.history c.args.ins.now) (whole_file name)) c.as_str-name.ensures.value c.in-Ok.ensures.history)
    c.in-Ok.ensures.taken
    (subst (λ contents. StartsIncluded (flags_asked c.args.asked.now made) contents (string_bytes c.args.asked.now.file) c.in-Ok.text (g.I.Inputs.history c.read_text.new.ins)
    (g.I.Inputs.history c.assemble_text.new.ins) (g.I.Inputs.taken c.read_text.new.ins) (g.I.Inputs.taken c.assemble_text.new.ins)) c.in-Ok.ensures.contents (c.assemble_text.ensures.starts made))
