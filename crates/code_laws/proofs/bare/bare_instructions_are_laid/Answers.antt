use Rattle.code_laws.proofs.WithoutOperands.{bare_instructions_are_laid}
use Rattle.code_laws.proofs.bare.bare_instructions_are_laid.Goals as goal

pub returns : goal.returns
returns c =
    bare_instructions_are_laid (record {
      stand = c.loaded_codes_stand.ensures;
      put = c.instruction_stands.ensures;
      reads = c.bare_codes_read.ensures.read;
      some = c.bare_codes_read.ensures.stand;
      obey = c.read_bytes_obey.ensures;
      cover = c.instructions_are_covered.ensures;
      suit = c.nodes_suit_items.ensures;
    })
