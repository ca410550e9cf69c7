-- What the answer of the assembly says of files and of the object, and what is left where the output or the console fails.
use Rattle.std.proofs.Common.{Some, ◌∙◌, refl}
use Rattle.run_words.specs.Invoked.{invoked}
use Rattle.source_runs.proofs.StandingOutcomes.{all_missed, all_started, all_stopped, files_read, found, memory_lost, object_begun, object_made, read_lost, source_cut, source_refused}
use Rattle.source_runs.proofs.running.run_source.Goals as goal

pub returns-in-Ok-deliver-clause-answer : goal.returns-in-Ok-deliver-clause-answer
returns-in-Ok-deliver-clause-answer g c =
    object_made c.in-Ok.options (invoked c.args.invocation) (g.I.Inputs.contents c.args.ins.now) c.in-Ok.ensures.source c.in-Ok.ensures.no_warn c.in-Ok.ensures.fatal_warnings c.in-Ok.ensures.scfi
    c.in-Ok-assemble.made _ _ _ c.in-Ok-assemble.ensures.outcome (c.as_slice-messages.ensures ∙ c.in-Ok-report_of.ensures.messages) (c.summary_bytes-summary.ensures ∙ c.in-Ok-report_of.ensures.summary)
    c.in-Ok-deliver.ensures.ok

pub returns-in-Ok-report_of-clause-answer : goal.returns-in-Ok-report_of-clause-answer
returns-in-Ok-report_of-clause-answer g c =
    object_begun c.in-Ok.options (invoked c.args.invocation) (g.I.Inputs.contents c.args.ins.now) c.in-Ok.ensures.source c.in-Ok.ensures.no_warn c.in-Ok.ensures.fatal_warnings c.in-Ok.ensures.scfi
    c.in-Ok-assemble.made _ _ _ c.in-Ok-assemble.ensures.outcome (c.as_slice-messages.ensures ∙ c.in-Ok-report_of.ensures.messages) (c.summary_bytes-summary.ensures ∙ c.in-Ok-report_of.ensures.summary)
    c.in-Err-deliver.ensures.err

pub returns-in-Ok-refusal-clause-answer : goal.returns-in-Ok-refusal-clause-answer
returns-in-Ok-refusal-clause-answer g c =
    source_cut c.in-Ok.options (invoked c.args.invocation) (g.I.Inputs.contents c.args.ins.now) c.in-Ok.ensures.source c.in-Ok.ensures.no_warn c.in-Ok.ensures.fatal_warnings c.in-Ok.ensures.scfi
    c.in-Err-Source.fault c.in-Err-Source.pos c.in-Err-Source.notes c.in-Err-Source.files c.in-Ok-refusal.text _
    (rw c.in-Err-Source.field-0-is at c.in-Err-Source.ensures.outcome)
    (rw c.as_slice.ensures at c.in-Ok-refusal.ensures)
    (rw c.as_slice-in-Ok-refusal.ensures at c.say_all.ensures.prefix, refl)

pub returns-in-Ok-deliver-clause-readable : goal.returns-in-Ok-deliver-clause-readable
returns-in-Ok-deliver-clause-readable g c = λ done.
    found c.in-Ok.options (invoked c.args.invocation) (g.I.Inputs.contents c.args.ins.now) c.in-Ok.ensures.source c.in-Ok.ensures.no_warn c.in-Ok.ensures.fatal_warnings c.in-Ok.ensures.scfi
    c.in-Ok-assemble.made c.in-Ok-assemble.ensures.outcome

pub returns-in-Ok-deliver-clause-reads : goal.returns-in-Ok-deliver-clause-reads
returns-in-Ok-deliver-clause-reads g c = λ done.
    files_read c.in-Ok.options (invoked c.args.invocation) (g.I.Inputs.contents c.args.ins.now) c.in-Ok.ensures.source c.in-Ok.ensures.no_warn c.in-Ok.ensures.fatal_warnings c.in-Ok.ensures.scfi
    c.in-Ok-assemble.made (g.I.Inputs.history c.args.ins.now) (g.I.Inputs.history c.assemble.new.ins) (g.I.Inputs.taken c.args.ins.now) (g.I.Inputs.taken c.assemble.new.ins)
    c.in-Ok-assemble.ensures.outcome c.in-Ok-assemble.ensures.names c.in-Ok-assemble.ensures.history c.in-Ok-assemble.ensures.at_most

pub returns-in-Ok-deliver-clause-whole : goal.returns-in-Ok-deliver-clause-whole
returns-in-Ok-deliver-clause-whole g c = λ done.
    all_stopped c.in-Ok.options (invoked c.args.invocation) (g.I.Inputs.contents c.args.ins.now) c.in-Ok.ensures.source c.in-Ok.ensures.no_warn c.in-Ok.ensures.fatal_warnings c.in-Ok.ensures.scfi
    c.in-Ok-assemble.made (g.I.Inputs.rest c.args.ins.now) (g.I.Inputs.rest c.assemble.new.ins) c.in-Ok-assemble.ensures.whole

pub returns-in-Err-Read-clause-missing : goal.returns-in-Err-Read-clause-missing
returns-in-Err-Read-clause-missing g c =
    all_missed c.in-Ok.options (invoked c.args.invocation) (g.I.Inputs.contents c.args.ins.now) c.in-Ok.ensures.source c.in-Ok.ensures.no_warn c.in-Ok.ensures.fatal_warnings c.in-Ok.ensures.scfi
    (g.I.Inputs.missing c.args.ins.now) (g.I.Inputs.missing c.assemble.new.ins) c.assemble.ensures.missing

pub returns-in-Ok-deliver-clause-starts : goal.returns-in-Ok-deliver-clause-starts
returns-in-Ok-deliver-clause-starts g c =
    all_started c.in-Ok.options (invoked c.args.invocation) (g.I.Inputs.contents c.args.ins.now) c.in-Ok.ensures.source c.in-Ok.ensures.no_warn c.in-Ok.ensures.fatal_warnings c.in-Ok.ensures.scfi
    (g.I.Inputs.history c.args.ins.now) (g.I.Inputs.history c.assemble.new.ins) (g.I.Inputs.taken c.args.ins.now) (g.I.Inputs.taken c.assemble.new.ins) c.assemble.ensures.starts

pub returns-in-Ok-report_of-clause-starts : goal.returns-in-Ok-report_of-clause-starts
returns-in-Ok-report_of-clause-starts g c =
    all_started c.in-Ok.options (invoked c.args.invocation) (g.I.Inputs.contents c.args.ins.now) c.in-Ok.ensures.source c.in-Ok.ensures.no_warn c.in-Ok.ensures.fatal_warnings c.in-Ok.ensures.scfi
    (g.I.Inputs.history c.args.ins.now) (g.I.Inputs.history c.assemble.new.ins) (g.I.Inputs.taken c.args.ins.now) (g.I.Inputs.taken c.assemble.new.ins) c.assemble.ensures.starts

pub returns-in-Ok-assemble-clause-starts : goal.returns-in-Ok-assemble-clause-starts
returns-in-Ok-assemble-clause-starts g c =
    all_started c.in-Ok.options (invoked c.args.invocation) (g.I.Inputs.contents c.args.ins.now) c.in-Ok.ensures.source c.in-Ok.ensures.no_warn c.in-Ok.ensures.fatal_warnings c.in-Ok.ensures.scfi
    (g.I.Inputs.history c.args.ins.now) (g.I.Inputs.history c.assemble.new.ins) (g.I.Inputs.taken c.args.ins.now) (g.I.Inputs.taken c.assemble.new.ins) c.assemble.ensures.starts

pub returns-in-Ok-say_all-clause-starts : goal.returns-in-Ok-say_all-clause-starts
returns-in-Ok-say_all-clause-starts g c =
    all_started c.in-Ok.options (invoked c.args.invocation) (g.I.Inputs.contents c.args.ins.now) c.in-Ok.ensures.source c.in-Ok.ensures.no_warn c.in-Ok.ensures.fatal_warnings c.in-Ok.ensures.scfi
    (g.I.Inputs.history c.args.ins.now) (g.I.Inputs.history c.assemble.new.ins) (g.I.Inputs.taken c.args.ins.now) (g.I.Inputs.taken c.assemble.new.ins) c.assemble.ensures.starts

pub returns-in-Ok-refusal-clause-starts : goal.returns-in-Ok-refusal-clause-starts
returns-in-Ok-refusal-clause-starts g c =
    all_started c.in-Ok.options (invoked c.args.invocation) (g.I.Inputs.contents c.args.ins.now) c.in-Ok.ensures.source c.in-Ok.ensures.no_warn c.in-Ok.ensures.fatal_warnings c.in-Ok.ensures.scfi
    (g.I.Inputs.history c.args.ins.now) (g.I.Inputs.history c.assemble.new.ins) (g.I.Inputs.taken c.args.ins.now) (g.I.Inputs.taken c.assemble.new.ins) c.assemble.ensures.starts

pub returns-in-Err-Source-clause-starts : goal.returns-in-Err-Source-clause-starts
returns-in-Err-Source-clause-starts g c =
    all_started c.in-Ok.options (invoked c.args.invocation) (g.I.Inputs.contents c.args.ins.now) c.in-Ok.ensures.source c.in-Ok.ensures.no_warn c.in-Ok.ensures.fatal_warnings c.in-Ok.ensures.scfi
    (g.I.Inputs.history c.args.ins.now) (g.I.Inputs.history c.assemble.new.ins) (g.I.Inputs.taken c.args.ins.now) (g.I.Inputs.taken c.assemble.new.ins) c.assemble.ensures.starts

pub returns-in-Err-Read-clause-starts : goal.returns-in-Err-Read-clause-starts
returns-in-Err-Read-clause-starts g c =
    all_started c.in-Ok.options (invoked c.args.invocation) (g.I.Inputs.contents c.args.ins.now) c.in-Ok.ensures.source c.in-Ok.ensures.no_warn c.in-Ok.ensures.fatal_warnings c.in-Ok.ensures.scfi
    (g.I.Inputs.history c.args.ins.now) (g.I.Inputs.history c.assemble.new.ins) (g.I.Inputs.taken c.args.ins.now) (g.I.Inputs.taken c.assemble.new.ins) c.assemble.ensures.starts

pub returns-clause-starts : goal.returns-clause-starts
returns-clause-starts g c =
    all_started c.in-Ok.options (invoked c.args.invocation) (g.I.Inputs.contents c.args.ins.now) c.in-Ok.ensures.source c.in-Ok.ensures.no_warn c.in-Ok.ensures.fatal_warnings c.in-Ok.ensures.scfi
    (g.I.Inputs.history c.args.ins.now) (g.I.Inputs.history c.assemble.new.ins) (g.I.Inputs.taken c.args.ins.now) (g.I.Inputs.taken c.assemble.new.ins) c.assemble.ensures.starts

pub returns-in-Ok-say_all-clause-answer : goal.returns-in-Ok-say_all-clause-answer
returns-in-Ok-say_all-clause-answer g c =
    source_refused c.in-Ok.options (invoked c.args.invocation) (g.I.Inputs.contents c.args.ins.now) c.in-Ok.ensures.source c.in-Ok.ensures.no_warn c.in-Ok.ensures.fatal_warnings c.in-Ok.ensures.scfi
    c.in-Err-Source.fault c.in-Err-Source.pos c.in-Err-Source.notes c.in-Err-Source.files c.in-Ok-refusal.text _
    (rw c.in-Err-Source.field-0-is at c.in-Err-Source.ensures.outcome)
    (rw c.as_slice.ensures at c.in-Ok-refusal.ensures)
    (rw c.as_slice-in-Ok-refusal.ensures at c.in-Ok-say_all.ensures.ok, refl)

pub returns-in-Ok-assemble-clause-answer : goal.returns-in-Ok-assemble-clause-answer
returns-in-Ok-assemble-clause-answer g c = memory_lost (Some (invoked c.args.invocation)) (g.I.Inputs.contents c.args.ins.now) _ (refl, refl)

pub returns-in-Err-Source-clause-answer : goal.returns-in-Err-Source-clause-answer
returns-in-Err-Source-clause-answer g c = memory_lost (Some (invoked c.args.invocation)) (g.I.Inputs.contents c.args.ins.now) _ (refl, refl)

pub returns-clause-answer : goal.returns-clause-answer
returns-clause-answer g c = memory_lost (Some (invoked c.args.invocation)) (g.I.Inputs.contents c.args.ins.now) _ (refl, refl)

pub returns-in-Err-Read-clause-answer : goal.returns-in-Err-Read-clause-answer
returns-in-Err-Read-clause-answer g c = read_lost (invoked c.args.invocation) (g.I.Inputs.contents c.args.ins.now) _ (refl, refl)

pub returns-in-Ok-deliver-clause-missing : goal.returns-in-Ok-deliver-clause-missing
returns-in-Ok-deliver-clause-missing g c =
    all_missed c.in-Ok.options (invoked c.args.invocation) (g.I.Inputs.contents c.args.ins.now) c.in-Ok.ensures.source c.in-Ok.ensures.no_warn c.in-Ok.ensures.fatal_warnings c.in-Ok.ensures.scfi
    (g.I.Inputs.missing c.args.ins.now) (g.I.Inputs.missing c.assemble.new.ins) c.assemble.ensures.missing

pub returns-in-Ok-report_of-clause-missing : goal.returns-in-Ok-report_of-clause-missing
returns-in-Ok-report_of-clause-missing g c =
    all_missed c.in-Ok.options (invoked c.args.invocation) (g.I.Inputs.contents c.args.ins.now) c.in-Ok.ensures.source c.in-Ok.ensures.no_warn c.in-Ok.ensures.fatal_warnings c.in-Ok.ensures.scfi
    (g.I.Inputs.missing c.args.ins.now) (g.I.Inputs.missing c.assemble.new.ins) c.assemble.ensures.missing

pub returns-in-Ok-assemble-clause-missing : goal.returns-in-Ok-assemble-clause-missing
returns-in-Ok-assemble-clause-missing g c =
    all_missed c.in-Ok.options (invoked c.args.invocation) (g.I.Inputs.contents c.args.ins.now) c.in-Ok.ensures.source c.in-Ok.ensures.no_warn c.in-Ok.ensures.fatal_warnings c.in-Ok.ensures.scfi
    (g.I.Inputs.missing c.args.ins.now) (g.I.Inputs.missing c.assemble.new.ins) c.assemble.ensures.missing

pub returns-in-Ok-say_all-clause-missing : goal.returns-in-Ok-say_all-clause-missing
returns-in-Ok-say_all-clause-missing g c =
    all_missed c.in-Ok.options (invoked c.args.invocation) (g.I.Inputs.contents c.args.ins.now) c.in-Ok.ensures.source c.in-Ok.ensures.no_warn c.in-Ok.ensures.fatal_warnings c.in-Ok.ensures.scfi
    (g.I.Inputs.missing c.args.ins.now) (g.I.Inputs.missing c.assemble.new.ins) c.assemble.ensures.missing

pub returns-in-Ok-refusal-clause-missing : goal.returns-in-Ok-refusal-clause-missing
returns-in-Ok-refusal-clause-missing g c =
    all_missed c.in-Ok.options (invoked c.args.invocation) (g.I.Inputs.contents c.args.ins.now) c.in-Ok.ensures.source c.in-Ok.ensures.no_warn c.in-Ok.ensures.fatal_warnings c.in-Ok.ensures.scfi
    (g.I.Inputs.missing c.args.ins.now) (g.I.Inputs.missing c.assemble.new.ins) c.assemble.ensures.missing

pub returns-in-Err-Source-clause-missing : goal.returns-in-Err-Source-clause-missing
returns-in-Err-Source-clause-missing g c =
    all_missed c.in-Ok.options (invoked c.args.invocation) (g.I.Inputs.contents c.args.ins.now) c.in-Ok.ensures.source c.in-Ok.ensures.no_warn c.in-Ok.ensures.fatal_warnings c.in-Ok.ensures.scfi
    (g.I.Inputs.missing c.args.ins.now) (g.I.Inputs.missing c.assemble.new.ins) c.assemble.ensures.missing

pub returns-clause-missing : goal.returns-clause-missing
returns-clause-missing g c =
    all_missed c.in-Ok.options (invoked c.args.invocation) (g.I.Inputs.contents c.args.ins.now) c.in-Ok.ensures.source c.in-Ok.ensures.no_warn c.in-Ok.ensures.fatal_warnings c.in-Ok.ensures.scfi
    (g.I.Inputs.missing c.args.ins.now) (g.I.Inputs.missing c.assemble.new.ins) c.assemble.ensures.missing
