-- The form that is there is the symbol's own.
use Rattle.std.proofs.Common.{sym, ap, ◌∙◌, length, ◌<◌}
use Rattle.std.specs.Option.{option_map}
use Rattle.assigned_forms.specs.Opened.{opened}
use Rattle.assigned_forms.proofs.ExpansionLemmas.{own_there, partly_put, kept_put, there_put}
use Rattle.assigned_forms.proofs.expanding.MadeForms.fill.Goals as goal

pub returns-clause-partly : goal.returns-clause-partly
returns-clause-partly c =
    let is = sym c.form_at.ensures ∙ ap (option_map (λ f. f.now)) c.in-Some.is in
    let inside : c.args.at < length c.args.self.now = rw c.requires.partly.long c.requires.there in
    rw c.put_own.ensures
    (partly_put (opened c.args.view.symbols.now c.args.view.marks.now) c.args.self.now c.args.at c.in-Some.form.now inside c.requires.partly
    (own_there (opened c.args.view.symbols.now c.args.view.marks.now) c.args.at c.in-Some.form.now is (sym c.names_assigned.ensures ∙ c.if-names_assigned.false)))

pub returns-clause-done : goal.returns-clause-done
returns-clause-done c =
    let inside : c.args.at < length c.args.self.now = rw c.requires.partly.long c.requires.there in
    rw c.put_own.ensures (there_put (opened c.args.view.symbols.now c.args.view.marks.now) c.args.self.now c.args.at c.in-Some.form.now inside)

pub returns-clause-kept : goal.returns-clause-kept
returns-clause-kept c =
    let inside : c.args.at < length c.args.self.now = rw c.requires.partly.long c.requires.there in
    rw c.put_own.ensures (kept_put (opened c.args.view.symbols.now c.args.view.marks.now) c.args.self.now c.args.at c.in-Some.form.now inside)
