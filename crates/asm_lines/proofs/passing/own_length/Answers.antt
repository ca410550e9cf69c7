-- The statement is passed up to its end.
use Rattle.std.proofs.Common.{sym, ◌∙◌, arith}
use Rattle.asm_lines.proofs.Offsets.{same_offset}
use Rattle.asm_lines.proofs.passing.own_length.Goals as goal

pub returns-in-Some-clause-looks : goal.returns-in-Some-clause-looks
returns-in-Some-clause-looks g c = λ next ends.
    let passes = c.in-Some.ensures.passes in
    let same = same_offset c.args.source.now next c.in-Some.passed.next ends.within passes.within (ends.later ∙ sym passes.later) in
    omega (arith, same, c.in-Some.ensures.passed)
