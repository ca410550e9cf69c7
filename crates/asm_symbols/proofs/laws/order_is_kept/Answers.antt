-- A symbol that changes keeps its name.
use Rattle.std.proofs.Common.{◌+◌, refl}
use Rattle.asm_symbols.specs.declared.entries.Meaning.TheVariants.{Assigned}
use Rattle.asm_symbols.specs.SymbolMap.{with_meaning}
use Rattle.asm_symbols.specs.Attributes.{with_kind, with_size, with_visibility}
use Rattle.asm_symbols.proofs.OrderLemmas.{order_changed, order_defined, order_bound}
use Rattle.asm_symbols.proofs.laws.order_is_kept.Goals as goal

pub returns-clause-define : goal.returns-clause-define
returns-clause-define c = order_defined

pub returns-clause-bind : goal.returns-clause-bind
returns-clause-bind c = order_bound

pub returns-clause-assign : goal.returns-clause-assign
returns-clause-assign c map at form = order_changed (with_meaning (Assigned form)) (λ _. refl) map.symbols at

pub returns-clause-kind : goal.returns-clause-kind
returns-clause-kind c map at kind = order_changed (with_kind kind) (λ _. refl) map.symbols at

pub returns-clause-size : goal.returns-clause-size
returns-clause-size c map at size = order_changed (with_size size (map.sizes + 1)) (λ _. refl) map.symbols at

pub returns-clause-visibility : goal.returns-clause-visibility
returns-clause-visibility c map at visibility = order_changed (with_visibility visibility) (λ _. refl) map.symbols at
