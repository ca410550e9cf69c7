-- Nothing stands behind the units.
use Rattle.std.proofs.Common.{◌≡◌, ℕ, [], ◌++◌}
use Rattle.std.proofs.lemmas.List.{append-nil}
use Rattle.item_contents.specs.Contents.{repeated}
use Rattle.item_contents.proofs.pieces.put_units.Goals as goal

pub returns : goal.returns
returns g c =
    let alone : repeated c.args.count c.args.unit.now ++ [] ≡ repeated c.args.count c.args.unit.now = append-nil (repeated c.args.count c.args.unit.now) in
    rw alone at c.pieces.ensures
