use Rattle.code_laws.proofs.Dispatching.{statements_are_laid}
use Rattle.code_laws.proofs.statements.statements_are_laid.Goals as goal

pub returns : goal.returns
returns c =
    statements_are_laid (record {
      insns = c.instructions_are_laid.ensures;
      aligns = c.alignments_are_laid.ensures;
      inerts = c.data_are_laid.ensures;
      suit = c.nodes_suit_items.ensures;
      grow = c.placing_grows.ensures;
      seen = c.instructions_are_seen.ensures.placed;
    })
