use Rattle.std.proofs.Common.{◌+◌, arith, ap, sym, subst, ◌∙◌}
use Rattle.x86_insn.specs.Views.{view_of}
use Rattle.x86_lookup.specs.declared.row_keys.Key.{Key}
use Rattle.x86_parts.specs.Codes.{named}
use Rattle.x86_parts.specs.Keys.{Steps, Sofar}
use Rattle.x86_encode.proofs.Search.{sofar_at, sofar_next, sofar_kept, sofar_ends, row_inside, key_inside, key_is, admits_named}
use Rattle.x86_encode.proofs.searching.shortest.Goals.{then-admits, else-admits}
use Rattle.x86_encode.proofs.searching.shortest.Goals as goal

pub loop-i-init : goal.loop-i-init
loop-i-init c = record {
  table = c.rows-table.ensures;
  keys = c.keys-keys.ensures;
  sorts = c.sorts_of-sorts.ensures.are;
  sofar = subst (λ x. Sofar c.rows_of_size-range.result.start (named c.args.name (view_of c.args.insn.now c.args.values.now)) x) (sym c.requires.blank)
      (sofar_at (named c.args.name (view_of c.args.insn.now c.args.values.now)) c.rows_of_size-range.result c.rows_of_size-range.ensures.just);
}

pub bounds-keys-i : goal.bounds-keys-i
bounds-keys-i c = key_inside c.rows_of_size-range.result c.loop-i.i c.keys-keys.result.now c.rows_of_size-range.ensures.within c.keys-keys.ensures c.loop-i-test.true

pub bounds-keys-i-then-admits : goal.bounds-keys-i-then-admits
bounds-keys-i-then-admits c = key_inside c.rows_of_size-range.result c.loop-i.i c.keys-keys.result.now c.rows_of_size-range.ensures.within c.keys-keys.ensures c.loop-i-test.true

pub bounds-table-i : goal.bounds-table-i
bounds-table-i c = row_inside c.rows_of_size-range.result c.loop-i.i c.rows-table.result.now c.rows_of_size-range.ensures.within c.rows-table.ensures c.loop-i-test.true

pub find_by-requires-clause-keyed : goal.find_by-requires-clause-keyed
find_by-requires-clause-keyed c = ap (λ (k : Key). k.least_length) (key_is c.keys-keys.result.now c.rows-table.result.now c.loop-i.i _ _ c.keys-keys.ensures c.rows-table.ensures
    (key_inside c.rows_of_size-range.result c.loop-i.i c.keys-keys.result.now c.rows_of_size-range.ensures.within c.keys-keys.ensures c.loop-i-test.true)
    (row_inside c.rows_of_size-range.result c.loop-i.i c.rows-table.result.now c.rows_of_size-range.ensures.within c.rows-table.ensures c.loop-i-test.true))

pub loop-i-preserved : goal.loop-i-preserved
loop-i-preserved c = record {
  table = c.rows-table.ensures;
  keys = c.keys-keys.ensures;
  sorts = c.sorts_of-sorts.ensures.are;
  sofar = elim c.if-admits.branch [
    | then-admits w ↦ sofar_next c.loop-i.i (named c.args.name (view_of c.args.insn.now c.args.values.now)) c.loop-i.found c.if-admits.found c.rows-table.result.now _ c.rows-table.ensures
        (row_inside c.rows_of_size-range.result c.loop-i.i c.rows-table.result.now c.rows_of_size-range.ensures.within c.rows-table.ensures c.loop-i-test.true)
        (subst (λ x. Steps (named c.args.name (view_of c.args.insn.now c.args.values.now)) _ c.loop-i.i c.loop-i.found x) (sym w.found-is) w.find_by.ensures) c.loop-i.invariant.sofar
    | else-admits w ↦ subst (λ x. Sofar (c.loop-i.i + 1) (named c.args.name (view_of c.args.insn.now c.args.values.now)) x) (sym w.found-is)
        (sofar_kept c.loop-i.i (named c.args.name (view_of c.args.insn.now c.args.values.now)) c.loop-i.found c.rows-table.result.now c.keys-keys.result.now _ c.rows-table.ensures c.keys-keys.ensures
        (row_inside c.rows_of_size-range.result c.loop-i.i c.rows-table.result.now c.rows_of_size-range.ensures.within c.rows-table.ensures c.loop-i-test.true)
        (key_inside c.rows_of_size-range.result c.loop-i.i c.keys-keys.result.now c.rows_of_size-range.ensures.within c.keys-keys.ensures c.loop-i-test.true)
        (admits_named c.args.name _ (view_of c.args.insn.now c.args.values.now) ∙ sym c.admits.ensures ∙ w.if-admits.false) c.loop-i.invariant.sofar)
  ];
}

pub returns : goal.returns
returns c = sofar_ends (named c.args.name (view_of c.args.insn.now c.args.values.now)) c.rows_of_size-range.result c.loop-i.i c.loop-i.found c.rows_of_size-range.ensures.within c.rows_of_size-range.ensures.just (omega arith) c.loop-i.auto.i-end c.loop-i.invariant.sofar
