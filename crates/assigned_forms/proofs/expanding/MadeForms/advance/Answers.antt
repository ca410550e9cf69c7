-- A term is added, or names a symbol that is awaited.
use Rattle.std.proofs.Common.{sym, ◌∙◌}
use Rattle.assigned_forms.specs.Opened.{opened}
use Rattle.assigned_forms.proofs.ExpansionLemmas.{expands_step, is_awaited}
use Rattle.assigned_forms.proofs.expanding.MadeForms.advance.Goals as goal

pub returns-then-awaits-clause-awaited : goal.returns-then-awaits-clause-awaited
returns-then-awaits-clause-awaited c =
    is_awaited (opened c.args.view.symbols.now c.args.view.marks.now) c.args.self.now c.args.visit.symbol c.loop-seen.seen c.index-other.result c.index-terms-seen.result
    (rw c.terms_at-terms.ensures at c.loop-seen-test.true) (rw c.terms_at-terms.ensures at c.index-terms-seen.is) c.index-other.ensures
    (sym c.awaits.ensures ∙ c.if-awaits.true)

pub loop-seen-preserved : goal.loop-seen-preserved
loop-seen-preserved c =
    expands_step (opened c.args.view.symbols.now c.args.view.marks.now) c.args.self.now c.requires.partly c.args.visit.symbol c.loop-seen.seen c.index-other.result c.index-terms-seen.result c.loop-seen.made
    c.in_ok-made.made (rw c.terms_at-terms.ensures at c.loop-seen-test.true) (rw c.terms_at-terms.ensures at c.index-terms-seen.is) c.index-other.ensures
    (sym c.awaits.ensures ∙ c.if-awaits.false) c.in_ok-made.ensures c.loop-seen.invariant
