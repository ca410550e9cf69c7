-- A name that becomes a symbol's is found then, and changes no count of a numeric label.
use Rattle.std.proofs.Common.{◌≡◌, Some, ap, subst, sym, ◌∙◌}
use Rattle.asm_expr.specs.declared.trees.Written.TheVariants.{Back}
use Rattle.asm_symbols.specs.Counting.{meant_name}
use Rattle.asm_symbols.specs.SymbolMap.{names, index_of}
use Rattle.asm_uses.specs.Tables.{Table}
use Rattle.asm_uses.proofs.InternLemmas.{interned_counts, meant_found}
use Rattle.asm_uses.proofs.tables.SymbolUses.intern_back.Goals as goal
use Rattle.asm_uses.proofs.tables.SymbolUses.intern_back.Goals.{then-len-before+in_ok-push, else-len-before}

pub returns-clause-counts : goal.returns-clause-counts
returns-clause-counts c =
    let same : c.intern_back.new.self.counts ≡ c.args.self.now.symbols.counts = rw (← c.self.view_is) (interned_counts _ _ _ c.in_ok-id.ensures.ok) in
    elim c.if-len-before.branch [
      | then-len-before+in_ok-push w ↦ ap (λ (table : Table). table.symbols.counts) w.self-is ∙ same
      | else-len-before w ↦ ap (λ (table : Table). table.symbols.counts) w.self-is ∙ same
    ]

pub returns-clause-found : goal.returns-clause-found
returns-clause-found c =
    let found = meant_found _ _ (Back c.args.number) _ c.in_ok-id.ensures.ok c.in_ok-id.ensures.id c.names_are_apart.ensures.found in
    elim c.if-len-before.branch [
      | then-len-before+in_ok-push w ↦ subst (λ (table : Table). index_of (meant_name table.symbols.counts (Back c.args.number)) (names table.symbols.symbols) ≡ Some c.in_ok-id.id) (sym w.self-is) found
      | else-len-before w ↦ subst (λ (table : Table). index_of (meant_name table.symbols.counts (Back c.args.number)) (names table.symbols.symbols) ≡ Some c.in_ok-id.id) (sym w.self-is) found
    ]
