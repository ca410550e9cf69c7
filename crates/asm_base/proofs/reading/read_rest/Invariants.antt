-- The bytes so far and what is left are what was left at first; each read but the last gives at least one byte.
use Rattle.std.proofs.Common.{◌≡◌, ◌+◌, ◌-◌, ◌<◌, ◌≤◌, min, vec_len}
use Rattle.std.specs.Io.KnownBytes.{Consumes}
use Rattle.asm_base.specs.Counts.{last_count}
use Rattle.asm_base.specs.WholeFile.{most_bytes}
use Rattle.asm_base.proofs.reading.read_rest.Given as goal

abbrev pub invariant-pieces : goal.invariant-pieces
invariant-pieces g l = record {
  told : Consumes (g.I.Inputs.rest l.fn.ins) (g.I.Inputs.rest l.ins) l.bytes.items;
  few : vec_len l.bytes ≤ most_bytes + 1;
  room : 0 < vec_len l.buffer;
  faults : g.I.Inputs.faults l.ins ≡ g.I.Inputs.faults l.fn.ins;
  contents : g.I.Inputs.contents l.ins ≡ g.I.Inputs.contents l.fn.ins;
  missing : g.I.Inputs.missing l.ins ≡ g.I.Inputs.missing l.fn.ins;
  history : g.I.Inputs.history l.ins ≡ g.I.Inputs.history l.fn.ins;
  at_least : min (g.I.Inputs.taken l.fn.ins + vec_len l.bytes) last_count ≤ g.I.Inputs.taken l.ins;
  later : g.I.Inputs.taken l.fn.ins ≤ g.I.Inputs.taken l.ins;
  at_most : g.I.Inputs.taken l.ins ≤ g.I.Inputs.taken l.fn.ins + vec_len l.bytes;
}

abbrev pub decreases-pieces : goal.decreases-pieces
decreases-pieces g l = (most_bytes + 1) - vec_len l.bytes
