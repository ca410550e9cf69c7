-- The names so far and those that are left are all.
use Rattle.std.proofs.Common.{◌≡◌, ◌++◌, drop}
use Rattle.asm_front.specs.Assembly.{shown_files}
use Rattle.asm_front.proofs.answering.shown_files.Given as goal

abbrev pub invariant-loop-number : goal.invariant-loop-number
invariant-loop-number l = l.files ++ drop l.number l.started ≡ shown_files l.name l.started
