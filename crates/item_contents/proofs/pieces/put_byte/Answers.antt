-- A byte is a unit of its own.
use Rattle.std.proofs.Common.{◌≡◌, [], ◌∷◌, replicate}
use Rattle.item_contents.specs.Contents.{repeated}
use Rattle.item_contents.proofs.Repeats.{repeated-one}
use Rattle.item_contents.proofs.pieces.put_byte.Goals as goal

pub returns : goal.returns
returns g c =
    let same : repeated c.args.count (c.args.byte ∷ []) ≡ replicate c.args.count c.args.byte = repeated-one c.args.count c.args.byte in
    rw same at c.put_units.ensures
