-- The words are the command that was read, or none.
use Rattle.std.proofs.Common.{◌≡◌, map, None, Some, string_bytes, refl}
use Rattle.run_words.specs.Invoked.{invoked}
use Rattle.run_words.specs.Words.{command_of, usage_text}
use Rattle.asm_run.proofs.Commands.{command_answers, command_is_readable, command_reads, command_starts, command_stops, usage_completes, usage_said}
use Rattle.asm_run.proofs.running.run.Goals as goal

pub returns-in-Ok-Some-clause-answer : goal.returns-in-Ok-Some-clause-answer
unfolding command_of
returns-in-Ok-Some-clause-answer g c =
    let same : Some (invoked c.in-Ok-Some.invocation) ≡ command_of (map string_bytes c.args.words.now.items) = cc (c.in-Ok-Some.ensures, c.in-Ok-Some.field-0-is, c.as_slice.ensures.value) in
    command_answers _ (invoked c.in-Ok-Some.invocation) same (g.I.Inputs.contents c.args.ins.now) c.run_source.result _ c.run_source.ensures.answer

pub returns-in-Ok-Some-clause-readable : goal.returns-in-Ok-Some-clause-readable
unfolding command_of
returns-in-Ok-Some-clause-readable g c = λ done.
    let same : Some (invoked c.in-Ok-Some.invocation) ≡ command_of (map string_bytes c.args.words.now.items) = cc (c.in-Ok-Some.ensures, c.in-Ok-Some.field-0-is, c.as_slice.ensures.value) in
    command_is_readable _ (invoked c.in-Ok-Some.invocation) same (g.I.Inputs.contents c.args.ins.now) c.run_source.result (c.run_source.ensures.readable done)

pub returns-in-Ok-Some-clause-reads : goal.returns-in-Ok-Some-clause-reads
unfolding command_of
returns-in-Ok-Some-clause-reads g c = λ done.
    let same : Some (invoked c.in-Ok-Some.invocation) ≡ command_of (map string_bytes c.args.words.now.items) = cc (c.in-Ok-Some.ensures, c.in-Ok-Some.field-0-is, c.as_slice.ensures.value) in
    command_reads _ (invoked c.in-Ok-Some.invocation) same (g.I.Inputs.contents c.args.ins.now) c.run_source.result _ _ _ _ (c.run_source.ensures.reads done)

pub returns-in-Ok-Some-clause-starts : goal.returns-in-Ok-Some-clause-starts
unfolding command_of
returns-in-Ok-Some-clause-starts g c =
    let same : Some (invoked c.in-Ok-Some.invocation) ≡ command_of (map string_bytes c.args.words.now.items) = cc (c.in-Ok-Some.ensures, c.in-Ok-Some.field-0-is, c.as_slice.ensures.value) in
    command_starts _ (invoked c.in-Ok-Some.invocation) same (g.I.Inputs.contents c.args.ins.now) c.run_source.result _ _ _ _ c.run_source.ensures.starts

pub returns-in-Ok-Some-clause-whole : goal.returns-in-Ok-Some-clause-whole
unfolding command_of
returns-in-Ok-Some-clause-whole g c = λ done.
    let same : Some (invoked c.in-Ok-Some.invocation) ≡ command_of (map string_bytes c.args.words.now.items) = cc (c.in-Ok-Some.ensures, c.in-Ok-Some.field-0-is, c.as_slice.ensures.value) in
    command_stops _ (invoked c.in-Ok-Some.invocation) same (g.I.Inputs.contents c.args.ins.now) c.run_source.result _ _ (c.run_source.ensures.whole done)

pub returns-in-Ok-clause-answer : goal.returns-in-Ok-clause-answer
unfolding command_of usage_text
returns-in-Ok-clause-answer g c =
    let none : command_of (map string_bytes c.args.words.now.items) ≡ None = cc (c.in-Ok-None.ensures, c.in-Ok-None.field-0-is, c.as_slice.ensures.value) in
    usage_said _ (g.I.Inputs.contents c.args.ins.now) _ none (c.in-Ok.ensures.ok, refl)

pub returns-in-Ok-clause-complete : goal.returns-in-Ok-clause-complete
unfolding command_of
returns-in-Ok-clause-complete g c = λ input output console.
    let none : command_of (map string_bytes c.args.words.now.items) ≡ None = cc (c.in-Ok-None.ensures, c.in-Ok-None.field-0-is, c.as_slice.ensures.value) in
    usage_completes _ (g.I.Inputs.contents c.args.ins.now) none
