-- A symbol that is not there goes to the end, unless it counts 0.
use Rattle.std.proofs.Common.{◌≤◌, length, sym, ◌∙◌, arith}
use Rattle.asm_expr.proofs.Terms.{behind_none, behind_some}
use Rattle.asm_expr.proofs.summing.with_term.Goals as goal

pub returns-then-more-eq0 : goal.returns-then-more-eq0
returns-then-more-eq0 c =
    let list = c.as_slice.ensures in
    let at = rw list at c.place_of-at.ensures.value in
    let all : length c.args.terms.items ≤ c.place_of-at.result = omega arith in
    behind_none c.args.terms.items c.args.more c.place_of-at.result at all c.if-more-eq0.true

pub returns : goal.returns
returns c =
    let list = c.as_slice.ensures in
    let at = rw list at c.place_of-at.ensures.value in
    let all : length c.args.terms.items ≤ c.place_of-at.result = omega arith in
    c.in_ok-push.ensures.ok ∙ sym (behind_some c.args.terms.items c.args.more c.place_of-at.result at all c.if-more-eq0.false)
