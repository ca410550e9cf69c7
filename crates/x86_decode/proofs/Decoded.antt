-- What is decoded is the instruction that the bytes begin with, and none exactly where they begin with none.
use Rattle.x86_decode.specs.Decoding.{AllIsDecoded}
use Rattle.x86_decode.proofs.FieldFacts.{TableLaws}
use Rattle.x86_decode.proofs.Completeness.{found_begins}
use Rattle.x86_decode.proofs.Soundness.{decoded_begins}

pub all_is_decoded : TableLaws → AllIsDecoded
all_is_decoded laws bytes = record { reads = decoded_begins bytes; found = found_begins laws bytes }
