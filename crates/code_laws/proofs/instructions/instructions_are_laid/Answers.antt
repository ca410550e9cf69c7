use Rattle.code_laws.proofs.Instructing.{instructions_are_laid}
use Rattle.code_laws.proofs.instructions.instructions_are_laid.Goals as goal

pub returns : goal.returns
returns c =
    instructions_are_laid (record {
      told = c.encoding_stands.ensures.told;
      jump = c.jumps_are_put.ensures;
      code = c.encodings_are_laid.ensures;
      bare = c.bare_instructions_are_laid.ensures;
      seen = c.bare_instructions_are_seen.ensures;
    })
