-- A form that names no assigned symbol stays as it is.
use Rattle.std.proofs.Common.{ℕ, Bool, ◌||◌, Option, ap, ◌∙◌}
use Rattle.flow_graph.specs.Targets.{by_plt, names_weak, symbol_target}
use Rattle.flow_graph.proofs.TargetLemmas.{plain_target}
use Rattle.flow_graph.proofs.pointing.plain_target.Goals as goal

pub returns : goal.returns
returns c =
    let map = c.args.symbols.now in
    let section = c.args.function.now.section in
    let items = c.args.function.now.items.now in
    let field = c.args.field.now in
    c.symbol_target.ensures
    ∙ ap (λ (b : Bool). symbol_target map section items b c.lone_symbol.result) c.is_preemptible-preemptible.ensures
    ∙ ap (λ (o : Option ℕ). symbol_target map section items (by_plt field.role.suffix || names_weak map field.form) o) c.lone_symbol.ensures
    ∙ plain_target map c.expansions_are_exact.ensures.none section items field c.requires
