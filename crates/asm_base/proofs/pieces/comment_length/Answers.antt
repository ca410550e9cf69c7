-- One byte further, no `*/` stands before.
use Rattle.std.proofs.Common.{◌≡◌, ◌+◌, ◌&&◌, eqb, false, get_or, drop, sym, ◌∙◌, arith}
use Rattle.std.proofs.lemmas.List.{take_rest}
use Rattle.asm_base.specs.ByteClasses.{begins_with}
use Rattle.asm_base.proofs.Comments.{comment_length-further}
use Rattle.asm_base.proofs.pieces.comment_length.Goals as goal

pub loop-i-preserved : goal.loop-i-preserved
loop-i-preserved c =
    let bytes = c.args.bytes.now in
    let i = c.loop-i.i in
    let behind : (eqb (get_or bytes i 0) 42 && begins_with 47 (drop (i + 1) bytes)) ≡ false = rw take_rest at (sym c.is_close.ensures ∙ c.if-is_close.false) in
    let further = comment_length-further bytes i c.loop-i-test.true behind in
    omega (arith, further, c.loop-i.invariant)
