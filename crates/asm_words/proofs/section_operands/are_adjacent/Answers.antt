-- Two more tokens stand side by side, or do not; or all do.
use Rattle.std.proofs.Common.{sym, ◌∙◌, arith}
use Rattle.asm_words.proofs.NameParts.{adjacent_on, adjacent_not, adjacent_all}
use Rattle.asm_words.proofs.section_operands.are_adjacent.Goals as goal

pub loop-at-preserved : goal.loop-at-preserved
loop-at-preserved c =
    adjacent_on c.args.tokens.now c.loop-at.at _ _ (omega arith) (omega arith) (sym c.follows.ensures ∙ c.if-not-follows.false) c.loop-at.invariant

pub returns-then-not-follows : goal.returns-then-not-follows
returns-then-not-follows c =
    sym (adjacent_not c.args.tokens.now c.loop-at.at _ _ (omega arith) (omega arith) (sym c.follows.ensures ∙ c.if-not-follows.true) c.loop-at.invariant)

pub returns : goal.returns
returns c = sym (adjacent_all c.args.tokens.now c.loop-at.at _ (omega arith) c.loop-at.invariant)
