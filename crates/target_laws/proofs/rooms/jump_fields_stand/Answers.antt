use Rattle.target_laws.proofs.JumpRooms.{jump_fields_stand}
use Rattle.target_laws.proofs.rooms.jump_fields_stand.Goals as goal

pub returns : goal.returns
returns c = jump_fields_stand
