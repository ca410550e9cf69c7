-- The law holds.
use Rattle.object_laws.proofs.Entries.{tell}
use Rattle.object_laws.proofs.relocation_meanings.entries_tell_types.Goals as goal

pub returns : goal.returns
returns c = tell
