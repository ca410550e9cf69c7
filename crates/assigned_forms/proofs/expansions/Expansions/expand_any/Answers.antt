-- A form that names no assigned symbol is its own expansion.
use Rattle.std.proofs.Common.{sym, ◌∙◌}
use Rattle.assigned_forms.proofs.ExpandingLemmas.{expanded_none}
use Rattle.assigned_forms.proofs.ExpansionLemmas.{names_there}
use Rattle.assigned_forms.proofs.expansions.Expansions.expand_any.Goals as goal

pub returns-then-names_expanded : goal.returns-then-names_expanded
returns-then-names_expanded c symbols forward exact =
    c.replace.ensures symbols forward exact
    (sym (names_there symbols c.args.self.now exact c.args.form.now) ∙ sym c.names_expanded.ensures ∙ c.if-names_expanded.true)

pub returns : goal.returns
returns c symbols forward exact =
    sym (expanded_none symbols c.args.form.now
    (sym (names_there symbols c.args.self.now exact c.args.form.now) ∙ sym c.names_expanded.ensures ∙ c.if-names_expanded.false))
