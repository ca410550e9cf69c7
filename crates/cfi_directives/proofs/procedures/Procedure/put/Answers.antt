-- The offsets tell whether the instruction can be run, and follow it.
use Rattle.std.proofs.Common.{List, Ok, refl, sym, ◌∙◌, ap, subst, is_ok}
use Rattle.std.proofs.lemmas.Result.{err_from_is_err_and}
use Rattle.cfi_directives.specs.declared.frames.PlacedOp.{PlacedOp}
use Rattle.cfi_directives.specs.Taking.{with_op}
use Rattle.cfi_directives.specs.Tracking.{Tracks}
use Rattle.cfi_directives.proofs.PutLemmas.{with_ops, put_refused, put_due, put_tracks}
use Rattle.cfi_directives.proofs.procedures.Procedure.put.Goals as goal

pub returns-then-not-can_run : goal.returns-then-not-can_run
returns-then-not-can_run c = (
  ap (with_op c.args.placed) (sym c.self.view_is)
      ∙ put_refused c.args.placed c.self.inside.frame c.self.inside.offsets c.self.invariant c.requires (sym c.can_run.ensures ∙ c.if-not-can_run.true),
  refl,
)

pub returns-in_err-add : goal.returns-in_err-add
returns-in_err-add c =
    let frame = c.self.inside.frame in
    let due = put_due c.args.placed frame c.self.inside.offsets c.self.invariant c.requires (sym c.can_run.ensures ∙ c.if-not-can_run.false) in
    let p = err_from_is_err_and c.from_residual.result c.from_residual.ensures.1 in
    rw (p.1, p.2) (ap (λ f. is_ok (with_op c.args.placed f)) (sym c.self.view_is) ∙ ap is_ok due, ap (with_ops frame) c.in_err-add.ensures.err ∙ c.self.view_is)

pub invariant_of-self-2 : goal.invariant_of-self-2
invariant_of-self-2 c =
    let frame = c.self.inside.frame in
    subst (λ (ops : List PlacedOp). Tracks (with_ops frame ops) c.run.new.self) (sym c.in_ok-add.ensures.ok)
    (put_tracks c.args.placed frame c.self.inside.offsets c.run.new.self c.self.invariant c.requires c.run.ensures)

pub returns : goal.returns
returns c =
    let frame = c.self.inside.frame in
    ap (with_op c.args.placed) (sym c.self.view_is)
    ∙ put_due c.args.placed frame c.self.inside.offsets c.self.invariant c.requires (sym c.can_run.ensures ∙ c.if-not-can_run.false)
    ∙ ap (λ ops. Ok (with_ops frame ops)) (sym c.in_ok-add.ensures.ok)
