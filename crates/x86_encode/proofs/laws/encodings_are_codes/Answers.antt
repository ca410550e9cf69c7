use Rattle.x86_encode.proofs.Bare.{bare_encoding}
use Rattle.x86_encode.proofs.Encodings.{encodes, fills, notes, placed, has_cause}
use Rattle.x86_encode.proofs.laws.encodings_are_codes.Goals as goal

pub returns-clause-code : goal.returns-clause-code
returns-clause-code c = encodes

pub returns-clause-fields : goal.returns-clause-fields
returns-clause-fields c = fills

pub returns-clause-notes : goal.returns-clause-notes
returns-clause-notes c = notes

pub returns-clause-positions : goal.returns-clause-positions
returns-clause-positions c = placed

pub returns-clause-cause : goal.returns-clause-cause
returns-clause-cause c = has_cause

pub returns-clause-bare : goal.returns-clause-bare
returns-clause-bare c = bare_encoding
