-- A text that is given is assembled, or is too large.
use Rattle.std.proofs.Common.{◌<◌, ◌≤◌, [], None, Some, length, ap, ◌∙◌, subst, arith}
use Rattle.asm_base.specs.WholeFile.{most_bytes}
use Rattle.asm_front.specs.Answering.{CountsText, IsAnswered, StartsIncluded}
use Rattle.asm_front.specs.Assembly.{faulty, main_file, shown_files, too_large}
use Rattle.asm_front.specs.Outcome.{flags_asked}
use Rattle.asm_front.specs.Sources.{given}
use Rattle.source_ends.specs.Synthesis.{Synthesis}
use Rattle.asm_front.proofs.AnswersMade.{main_answers, large_answers}
use Rattle.asm_front.proofs.StartedFiles.{given_start}
use Rattle.asm_front.proofs.WholeSources.{given_is_read, given_is_large, given_missed}
use Rattle.asm_front.proofs.assembling.assemble_given.Goals as goal

-- TOO LARGE

pub returns-then-size-gt-MOST_BYTES-clause-outcome : goal.returns-then-size-gt-MOST_BYTES-clause-outcome
returns-then-size-gt-MOST_BYTES-clause-outcome g c =
    let text = c.args.text in
    let contents = g.I.Inputs.contents c.args.ins.now in
    let much : most_bytes < length text = omega (arith, c.if-size-gt-MOST_BYTES.true, ap length c.as_bytes-size.ensures) in
    large_answers c.args.asked.now contents (given text) None c.refuse_large.result (given_is_large contents text much)
    (subst (λ shown. IsAnswered (faulty (too_large main_file) (shown_files shown [])) c.refuse_large.result) (c.as_str-name.ensures.value ∙ c.requires) c.refuse_large.ensures)

-- ASSEMBLED

pub returns-else-size-gt-MOST_BYTES-clause-outcome : goal.returns-else-size-gt-MOST_BYTES-clause-outcome
returns-else-size-gt-MOST_BYTES-clause-outcome g c =
    let text = c.args.text in
    let contents = g.I.Inputs.contents c.args.ins.now in
    let few : length text ≤ most_bytes = omega (arith, c.if-size-gt-MOST_BYTES.false, ap length c.as_bytes-size.ensures) in
    main_answers c.written_reads_back.ensures c.written_is_readable.ensures c.told_files_are_known.ensures c.args.asked.now contents (given text) text (Some []) c.assemble_text.result c.requires
    (given_is_read contents text few) c.assemble_text.ensures.outcome

pub returns-else-size-gt-MOST_BYTES-clause-missing : goal.returns-else-size-gt-MOST_BYTES-clause-missing
returns-else-size-gt-MOST_BYTES-clause-missing g c = λ (made : Synthesis).
    let few : length c.args.text ≤ most_bytes = omega (arith, c.if-size-gt-MOST_BYTES.false, ap length c.as_bytes-size.ensures) in
    given_missed c.told_files_are_known.ensures (flags_asked c.args.asked.now made) (g.I.Inputs.contents c.args.ins.now) c.args.text (g.I.Inputs.missing c.args.ins.now) (g.I.Inputs.missing c.assemble_text.new.ins)
    few
    (subst (λ shown. CountsText (flags_asked c.args.asked.now made) (g.I.Inputs.contents c.args.ins.now) shown c.args.text (g.I.Inputs.missing c.args.ins.now) (g.I.Inputs.missing c.assemble_text.new.ins))
    c.requires (c.assemble_text.ensures.missing made))

pub returns-else-size-gt-MOST_BYTES-clause-starts : goal.returns-else-size-gt-MOST_BYTES-clause-starts
returns-else-size-gt-MOST_BYTES-clause-starts g c = λ (made : Synthesis).
    let few : length c.args.text ≤ most_bytes = omega (arith, c.if-size-gt-MOST_BYTES.false, ap length c.as_bytes-size.ensures) in
    given_start (flags_asked c.args.asked.now made) c.args.text c.told_files_are_known.ensures (g.I.Inputs.contents c.args.ins.now)
    (g.I.Inputs.history c.args.ins.now) (g.I.Inputs.history c.assemble_text.new.ins) (g.I.Inputs.taken c.args.ins.now) (g.I.Inputs.taken c.assemble_text.new.ins) few
    (subst (λ shown. StartsIncluded (flags_asked c.args.asked.now made) (g.I.Inputs.contents c.args.ins.now) shown c.args.text (g.I.Inputs.history c.args.ins.now) (g.I.Inputs.history c.assemble_text.new.ins)
    (g.I.Inputs.taken c.args.ins.now) (g.I.Inputs.taken c.assemble_text.new.ins)) c.requires (c.assemble_text.ensures.starts made))
