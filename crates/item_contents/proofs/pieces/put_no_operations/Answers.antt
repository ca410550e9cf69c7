-- The longest ones are a unit, and the last one is the rest.
use Rattle.std.proofs.Common.{◌≡◌, ◌++◌, ap, ◌∙◌}
use Rattle.std.specs.Prelude.{List, ℕ}
use Rattle.item_bytes.specs.NoOperations.{no_operation, no_operations}
use Rattle.item_contents.specs.Contents.{repeated}
use Rattle.item_contents.proofs.Repeats.{repeated_concat}
use Rattle.item_contents.proofs.pieces.put_no_operations.Goals as goal

pub returns : goal.returns
returns g c =
    let parts = c.no_operation_parts-parts.result in
    let all : repeated parts.longest c.no_operation.result.now ++ parts.last.now ≡ no_operations c.args.size =
    ap (λ (unit : List ℕ). repeated parts.longest unit ++ parts.last.now) c.no_operation.ensures
    ∙ (ap (λ (units : List ℕ). units ++ parts.last.now) (repeated_concat parts.longest (no_operation 9)) ∙ c.no_operation_parts-parts.ensures.whole) in
    rw all at c.pieces.ensures
