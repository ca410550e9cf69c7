-- The sum of the terms so far.
use Rattle.std.proofs.Common.{◌≡◌, take}
use Rattle.asm_expr.specs.Forms.{wrapped}
use Rattle.item_rows.specs.Links.{section_sum}
use Rattle.item_rows.proofs.links.section_sum.Given as goal

abbrev pub invariant-loop-term : goal.invariant-loop-term
invariant-loop-term l = l.sum ≡ wrapped (section_sum l.symbols l.section (take l.term-index l.terms))
