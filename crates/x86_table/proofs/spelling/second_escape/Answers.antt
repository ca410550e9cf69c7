use Rattle.std.proofs.Common.{refl}
use Rattle.x86_table.proofs.spelling.second_escape.Goals as goal

pub returns-in-Three3A : goal.returns-in-Three3A
returns-in-Three3A c = rw c.in-Three3A.is refl
