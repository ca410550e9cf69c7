-- The bytes of each kind have its size.
use Rattle.item_contents.proofs.ContentLemmas.{all_sized}
use Rattle.item_contents.proofs.laws.bytes_are_sized.Goals as goal

pub returns : goal.returns
returns c = all_sized c.no_operations_have_their_size.ensures.all c.jump_reads_back.ensures.size c.leb128_reads_back.ensures.count c.advance_reads_back.ensures.size
