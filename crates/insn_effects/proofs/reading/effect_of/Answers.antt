use Rattle.std.proofs.Common.{refl, sym, ◌∙◌}
use Rattle.x86_insn.specs.Views.{view_of}
use Rattle.insn_effects.proofs.Names.{by_branch, by_call, by_ret, by_stop, by_quad, by_other}
use Rattle.insn_effects.proofs.reading.effect_of.Goals as goal

pub returns-then-is_branch : goal.returns-then-is_branch
returns-then-is_branch c =
    by_branch (view_of c.args.insn.now c.args.values.now) c.jump-then-is_branch.result c.if-name-eq-JMP.false (sym c.is_branch.ensures ∙ c.if-is_branch.true) c.jump-then-is_branch.ensures

pub returns-then-name-eq-CALL : goal.returns-then-name-eq-CALL
returns-then-name-eq-CALL c =
    by_call (view_of c.args.insn.now c.args.values.now) c.call.result (sym c.is_branch.ensures ∙ c.if-is_branch.false) c.if-name-eq-CALL.true
    (c.call.ensures c.args.insn.now c.args.values.now)

pub returns-then-name-eq-RET : goal.returns-then-name-eq-RET
returns-then-name-eq-RET c =
    by_ret (view_of c.args.insn.now c.args.values.now) c.returning.result (sym c.is_branch.ensures ∙ c.if-is_branch.false) c.if-name-eq-RET.true
    (c.returning.ensures c.args.insn.now c.args.values.now)

pub returns-then-is_stop : goal.returns-then-is_stop
returns-then-is_stop c =
    by_stop (view_of c.args.insn.now c.args.values.now) c.plain.result c.if-name-eq-JMP.false (sym c.is_branch.ensures ∙ c.if-is_branch.false) c.if-name-eq-CALL.false c.if-name-eq-RET.false
    (sym c.is_stop.ensures ∙ c.if-is_stop.true) (rw c.plain.ensures (record { effect = refl; flow = refl; supported = refl; no_padding = refl; no_data = refl }))

pub returns-then-insn-eq64 : goal.returns-then-insn-eq64
returns-then-insn-eq64 c =
    by_quad (view_of c.args.insn.now c.args.values.now) c.quad.result c.if-name-eq-JMP.false (sym c.is_branch.ensures ∙ c.if-is_branch.false) c.if-name-eq-CALL.false c.if-name-eq-RET.false
    (sym c.is_stop.ensures ∙ c.if-is_stop.false) c.if-insn-eq64.true c.quad.ensures

pub returns-else-insn-eq64 : goal.returns-else-insn-eq64
returns-else-insn-eq64 c =
    by_other (view_of c.args.insn.now c.args.values.now) c.sized.result c.if-name-eq-JMP.false (sym c.is_branch.ensures ∙ c.if-is_branch.false) c.if-name-eq-CALL.false c.if-name-eq-RET.false
    (sym c.is_stop.ensures ∙ c.if-is_stop.false) c.if-insn-eq64.false c.sized.ensures
