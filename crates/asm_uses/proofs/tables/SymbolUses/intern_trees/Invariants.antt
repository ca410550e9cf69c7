-- The names of the expressions so far are symbols', and those to come will be.
use Rattle.std.proofs.Common.{◌≡◌, ◌≤◌, ◌&&◌, drop, map, length}
use Rattle.asm_expr.specs.Trees.{tree_of}
use Rattle.asm_uses.specs.Tables.{with_trees, are_meant}
use Rattle.asm_uses.proofs.tables.SymbolUses.intern_trees.Given as goal

abbrev pub invariant-loop-expr : goal.invariant-loop-expr
invariant-loop-expr l = record {
  named : with_trees l.pos (map tree_of (drop l.expr-index l.exprs)) l.self ≡ with_trees l.pos (map tree_of l.exprs) l.fn.self;
  meant : (l.meant && are_meant l.fn.self.symbols.counts (map tree_of (drop l.expr-index l.exprs))) ≡ are_meant l.fn.self.symbols.counts (map tree_of l.exprs);
  counts : l.self.symbols.counts ≡ l.fn.self.symbols.counts;
  grows : length l.fn.self.symbols.symbols ≤ length l.self.symbols.symbols;
}
