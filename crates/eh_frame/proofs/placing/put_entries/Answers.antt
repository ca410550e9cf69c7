-- One entry is put after the other.
use Rattle.std.proofs.Common.{◌+◌, ◌∙◌, ap, rules}
use Rattle.std.proofs.lemmas.List.{take_rest}
use Rattle.eh_frame.specs.Placing.{padded_log}
use Rattle.eh_frame.proofs.ProgressLemmas.{entries_more}
use Rattle.eh_frame.proofs.placing.put_entries.Goals as goal

pub loop-i-preserved : goal.loop-i-preserved
loop-i-preserved c = record {
  takes = c.in_ok-put_frame.ensures.takes;
  put = entries_more c.args.section c.loop-i.i _ c.args.frames.now c.index-frames-i.result _ _ _ (search rules) (search rules)
      (c.padded_log-log.ensures.log ∙ ap padded_log (take_rest c.args.frames.now (c.loop-i.i + 1)))
      c.in_ok-put_frame.ensures.ok c.loop-i.invariant.put;
}
