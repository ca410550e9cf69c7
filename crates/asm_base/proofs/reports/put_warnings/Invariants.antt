-- The lines so far, and those of the notes to come, are those of all.
use Rattle.std.proofs.Common.{◌≡◌, ◌++◌, flat_map, drop}
use Rattle.asm_base.specs.Messages.{noted_line}
use Rattle.asm_base.proofs.reports.put_warnings.Given as goal

abbrev pub invariant-loop-noted : goal.invariant-loop-noted
invariant-loop-noted l = l.text.items ++ flat_map (noted_line l.files) (drop l.noted-index l.notes) ≡ l.initial.text.items ++ flat_map (noted_line l.files) l.notes
