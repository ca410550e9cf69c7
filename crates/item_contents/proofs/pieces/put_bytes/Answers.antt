-- The visitor's law by cases, and what takes is the same at the end.
use Rattle.std.proofs.Common.{rules}
use Rattle.item_contents.specs.declared.pieces.BytesOf.{BytesOf}
use Rattle.item_contents.proofs.BytesGiven.{bytes_given}
use Rattle.item_contents.proofs.pieces.put_bytes.Goals as goal

pub returns : goal.returns
returns g c =
    let given = bytes_given g.T.TakesBytes.takes (λ (v : BytesOf g.row.T.Denot). v.taker.now) (λ (v : BytesOf g.row.T.Denot). v.taker.ghost_name)
    (λ (v : BytesOf g.row.T.Denot). v.size) (λ (v : BytesOf g.row.T.Denot). v.value) c.args.content.now _ c.visit-answer.result c.visit-answer.new.visitor c.visit-answer.ensures in
    search rules
