-- A node between the two numbers has an entry, or its half is between their halves.
use Rattle.std.proofs.Common.{ℕ, inl, inr, sym, subst}
use Rattle.asm_levels.specs.Watching.{IsEntry}
use Rattle.asm_levels.proofs.TreeLemmas.{ends_or_half}
use Rattle.asm_levels.proofs.watching.Entries.add_ends.Goals as goal

pub returns-clause-entry : goal.returns-clause-entry
returns-clause-entry c = λ node low less. (
    let one = c.in_ok-add_where_odd.ensures in
    let other = c.in_ok-add_where_odd-2.ensures in
    let now = c.add_where_odd-2.new.self in
    elim (ends_or_half c.args.first c.args.end node low less) [
      | inl first ↦ inl (subst (λ (n : ℕ). IsEntry now.rows.items now.nodes.items c.args.row n) (sym first.1) (other.more.kept c.args.row c.args.first (one.entry first.0)))
      | inr rest ↦ elim rest [
        | inl last ↦ inl (subst (λ (n : ℕ). IsEntry now.rows.items now.nodes.items c.args.row n) (sym last.1) (other.entry last.0))
        | inr half ↦ inr half
      ]
    ])
