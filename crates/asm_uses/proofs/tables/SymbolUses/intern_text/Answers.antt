-- A name that becomes a symbol's is found then, changes no count of a numeric label, and no symbol goes.
use Rattle.std.proofs.Common.{◌≡◌, ◌≤◌, length, Some, sym, ap, subst, ◌∙◌}
use Rattle.asm_expr.specs.declared.naming.Name.TheVariants.{Plain}
use Rattle.asm_symbols.specs.SymbolMap.{names, index_of}
use Rattle.asm_uses.specs.Tables.{Table}
use Rattle.asm_uses.proofs.InternLemmas.{interned_counts, interned_found, interned_grows}
use Rattle.asm_uses.proofs.tables.SymbolUses.intern_text.Goals as goal
use Rattle.asm_uses.proofs.tables.SymbolUses.intern_text.Goals.{then-len-before+in_ok-push, else-len-before}

pub returns-clause-counts : goal.returns-clause-counts
returns-clause-counts c =
    let same : c.intern_text.new.self.counts ≡ c.args.self.now.symbols.counts = rw (← c.self.view_is) (interned_counts _ _ _ c.in_ok-id.ensures.ok) in
    elim c.if-len-before.branch [
      | then-len-before+in_ok-push w ↦ ap (λ (table : Table). table.symbols.counts) w.self-is ∙ same
      | else-len-before w ↦ ap (λ (table : Table). table.symbols.counts) w.self-is ∙ same
    ]

pub returns-clause-grows : goal.returns-clause-grows
returns-clause-grows c =
    let before = length c.args.self.now.symbols.symbols in
    let more : before ≤ length c.intern_text.new.self.symbols = rw (← c.self.view_is) (interned_grows _ _ _ c.in_ok-id.ensures.ok) in
    elim c.if-len-before.branch [
      | then-len-before+in_ok-push w ↦ subst (λ (table : Table). before ≤ length table.symbols.symbols) (sym w.self-is) more
      | else-len-before w ↦ subst (λ (table : Table). before ≤ length table.symbols.symbols) (sym w.self-is) more
    ]

pub returns-clause-found : goal.returns-clause-found
returns-clause-found c =
    let found = interned_found _ (Plain c.args.text.now) _ _ c.in_ok-id.ensures.ok c.in_ok-id.ensures.id c.names_are_apart.ensures.found in
    elim c.if-len-before.branch [
      | then-len-before+in_ok-push w ↦ subst (λ (table : Table). index_of (Plain c.args.text.now) (names table.symbols.symbols) ≡ Some c.in_ok-id.id) (sym w.self-is) found
      | else-len-before w ↦ subst (λ (table : Table). index_of (Plain c.args.text.now) (names table.symbols.symbols) ≡ Some c.in_ok-id.id) (sym w.self-is) found
    ]
