-- Each field is a lemma on the definitions.
use Rattle.leb128.proofs.ReadingLemmas.{padded_read, uleb_read}
use Rattle.leb128.proofs.SignedLemmas.{sleb_read}
use Rattle.leb128.proofs.laws.numbers_read_back.Goals as goal

pub returns : goal.returns
returns c = record {
  unsigned = uleb_read;
  padded = padded_read;
  signed = sleb_read;
}
