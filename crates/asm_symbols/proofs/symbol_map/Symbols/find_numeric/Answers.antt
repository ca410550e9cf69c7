-- A symbol that is found is there.
use Rattle.std.proofs.Common.{List, Some, sym, ap, ◌∙◌}
use Rattle.asm_expr.specs.declared.naming.Name.TheVariants.{Numeric}
use Rattle.asm_symbols.specs.declared.entries.Symbol.{Symbol}
use Rattle.asm_symbols.specs.SymbolMap.{names, index_of}
use Rattle.asm_symbols.proofs.IndexLemmas.{index_of-within}
use Rattle.asm_symbols.proofs.symbol_map.Symbols.find_numeric.Goals as goal

pub returns-in-Some-clause-within : goal.returns-in-Some-clause-within
returns-in-Some-clause-within c =
    let same = ap (λ (symbols : List Symbol). index_of (Numeric c.args.number c.args.instance) (names symbols)) (sym c.deref.ensures.value) in
    let place = same ∙ sym c.in-Some.ensures ∙ ap Some (sym c.new.ensures) in
    rw (← c.self.view_is) (index_of-within (Numeric c.args.number c.args.instance) c.self.inside.symbols.items c.new.result place)
