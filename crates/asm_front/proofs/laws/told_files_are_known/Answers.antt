use Rattle.asm_front.proofs.ToldFiles.{never_untold}
use Rattle.asm_front.proofs.laws.told_files_are_known.Goals as goal

pub returns : goal.returns
returns c = never_untold
