-- The sum so far and the terms that follow give the expanded form.
use Rattle.std.proofs.Common.{◌≡◌, true, drop}
use Rattle.asm_symbols.specs.Assigning.{NoFormLeadsBack}
use Rattle.asm_symbols.specs.SymbolMap.{SymbolMap}
use Rattle.assigned_forms.specs.Expanding.{replacement, plus_terms, names_assigned, expanded, AreExpansions}
use Rattle.assigned_forms.proofs.expansions.Expansions.sum_of.Given as goal

abbrev pub invariant-loop-term : goal.invariant-loop-term
invariant-loop-term l = (symbols : SymbolMap) → NoFormLeadsBack symbols.symbols → AreExpansions symbols l.self → names_assigned symbols l.form ≡ true
    → plus_terms (replacement (expanded symbols) symbols) l.made (drop l.term-index l.terms) ≡ expanded symbols l.form
