use Rattle.code_laws.proofs.JumpWriting.{jumps_are_written}
use Rattle.code_laws.proofs.jumps.jumps_are_written.Goals as goal

pub returns : goal.returns
returns c = jumps_are_written (record { told = c.encoding_stands.ensures.told; bare = c.bare_instructions_are_seen.ensures })
