-- Sums of up to three summands: their names become symbols.
use Rattle.std.proofs.Common.{◌≡◌, ℕ, ◌&&◌, Bool, List, sym, ap, subst, ◌∙◌}
use Rattle.asm_base.specs.declared.positions.Pos.{Pos}
use Rattle.asm_expr.specs.Trees.{Tree}
use Rattle.asm_operands.specs.declared.sums.LongSum.{LongSum}
use Rattle.asm_operands.specs.Sums.{sum_tree, long_tree}
use Rattle.asm_uses.specs.declared.long_sums.LongSymbolSum.{LongSymbolSum}
use Rattle.asm_uses.specs.LongSums.{IsLongNamed}
use Rattle.asm_uses.specs.SymbolSums.{IsAdded, IsNamed, with_addend, is_addend_meant}
use Rattle.asm_uses.specs.Tables.{Table, with_tree, is_meant}
use Rattle.asm_uses.proofs.SumNames.{KeepsNames, tree_keeps, addend_keeps, added_kept, named_kept, names_added, meant_added}

-- whether each name of a sum means a label that came before
pub long_meant : (counts : List (ℕ × ℕ)) (sum : LongSum) (one two : Bool) → one ≡ is_meant counts (sum_tree sum.front) → two ≡ is_addend_meant counts sum.third
    → (one && two) ≡ is_meant counts (long_tree sum)
long_meant counts sum one two one_is two_is = rw (one_is, two_is) (meant_added counts (sum_tree sum.front) sum.third)

-- the names of a sum become symbols
pub long_names : (pos : Pos) (sum : LongSum) (table first second : Table) → first ≡ with_tree pos (sum_tree sum.front) table
    → second ≡ with_addend pos sum.third first → second ≡ with_tree pos (long_tree sum) table
long_names pos sum table first second one two = two ∙ (ap (with_addend pos sum.third) one ∙ names_added pos (sum_tree sum.front) sum.third table)

-- what each summand stands for is what it stands for when all names are symbols
pub long_named : (pos : Pos) (sum : LongSum) (first second : Table) (named : LongSymbolSum) → second ≡ with_addend pos sum.third first
    → IsNamed first.symbols sum.front named.front → IsAdded second.symbols sum.third named.third → IsLongNamed second.symbols sum named
long_named pos sum first second named two one_is two_is =
    let on : KeepsNames first.symbols second.symbols = subst (λ (table : Table). KeepsNames first.symbols table.symbols) (sym two) (addend_keeps pos sum.third first) in
    record {
      front = named_kept first.symbols second.symbols on sum.front named.front one_is;
      third = two_is;
    }

-- a sum that is named stays so while the names of another become symbols
pub long_stays : (pos : Pos) (tree : Tree) (old new : Table) (sum : LongSum) (named : LongSymbolSum) → new ≡ with_tree pos tree old
    → IsLongNamed old.symbols sum named → IsLongNamed new.symbols sum named
long_stays pos tree old new sum named is first =
    let on : KeepsNames old.symbols new.symbols = subst (λ (table : Table). KeepsNames old.symbols table.symbols) (sym is) (tree_keeps pos tree old) in
    record {
      front = named_kept old.symbols new.symbols on sum.front named.front first.front;
      third = added_kept old.symbols new.symbols on sum.third named.third first.third;
    }
