use Rattle.code_laws.proofs.Joining.{functions_are_laid}
use Rattle.code_laws.proofs.functions.functions_are_laid.Goals as goal

pub returns : goal.returns
returns c =
    functions_are_laid (record {
      laid = c.statements_are_laid.ensures;
      placed = c.items_are_placed.ensures;
      ends = c.ends_are_places.ensures;
    })
