-- Copy by copy.
use Rattle.macro_blocks.proofs.Cuts.{copies_open}
use Rattle.macro_blocks.proofs.laws.open_blocks_stay_open.Goals as goal

pub returns : goal.returns
returns c b stop front back copies closes unclosed = copies_open b stop closes front back copies unclosed
