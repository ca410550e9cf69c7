-- The rounds of the rows give the layout, and rows look at no address.
use Rattle.std.proofs.Common.{◌≡◌, List, Some, None, length, refl, ◌∙◌, sym, ap}
use Rattle.asm_levels.specs.declared.rows.Row.{Row}
use Rattle.item_rows.specs.ItemRows.{rows_of}
use Rattle.asm_relax.specs.RangeChecks.{first_fault}
use Rattle.asm_relax.specs.Settling.{LaidSections, settled_sections}
use Rattle.asm_relax.proofs.LowPlaceLemmas.{settled_moves}
use Rattle.asm_relax.proofs.LayingLemmas.{rows_kept, rows_are_all}
use Rattle.asm_relax.proofs.SettlingLemmas.{sections_settled, sections_laid_out}
use Rattle.asm_relax.proofs.planning.Plan.settle.Goals as goal

pub invariant_of-self : goal.invariant_of-self
invariant_of-self g c = record {
  rows =
      c.settle-rounds.ensures.kept
      ∙ (c.self.invariant.rows ∙ (sym (rows_kept c.self.inside.symbols.now c.settle-rounds.new.self.shifts c.self.inside.sections) ∙ ap (λ (all : LaidSections). rows_of c.self.inside.symbols.now all) (sym c.lay_all.ensures)));
  few = rw c.settle-rounds.ensures.kept c.self.invariant.few;
  fresh = tt;
}

pub invariant_of-self-in-None : goal.invariant_of-self-in-None
invariant_of-self-in-None g c = record {
  rows =
      c.settle-rounds.ensures.kept
      ∙ (c.self.invariant.rows ∙ (sym (rows_kept c.self.inside.symbols.now c.settle-rounds.new.self.shifts c.self.inside.sections) ∙ ap (λ (all : LaidSections). rows_of c.self.inside.symbols.now all) (sym c.lay_all.ensures)));
  few = rw c.settle-rounds.ensures.kept c.self.invariant.few;
  fresh = tt;
}

pub lay_all-requires-clause-rows : goal.lay_all-requires-clause-rows
lay_all-requires-clause-rows g c =
    let symbols = c.self.inside.symbols.now in
    ap (λ (all : List Row). length all) (c.settle-rounds.ensures.kept ∙ c.self.invariant.rows) ∙ rows_are_all symbols c.self.inside.sections

pub first_fault-requires : goal.first_fault-requires
first_fault-requires g c = record {
  moves =
      settled_moves c.self.inside.symbols.now c.self.inside.sections c.lay_all.new.sections c.self.inside.rows.rows c.settle-rounds.new.self.levels c.settle-rounds.new.self.shifts c.settle-rounds.result
      c.self.invariant.rows c.settle-rounds.ensures.layout c.settle-rounds.ensures.shifts c.lay_all.ensures;
}

pub returns-in-Some-clause-sections : goal.returns-in-Some-clause-sections
returns-in-Some-clause-sections g c =
    rw (← c.self.view_is)
    (sections_settled c.layouts_are_reached.ensures c.needs_stay_within_tops.ensures c.self.inside.symbols.now c.self.inside.sections c.lay_all.new.sections c.self.inside.rows.rows c.settle-rounds.new.self.levels
    c.settle-rounds.new.self.shifts c.settle-rounds.result c.self.invariant.rows c.settle-rounds.ensures.layout c.settle-rounds.ensures.shifts c.lay_all.ensures)

pub returns-in-None-clause-sections : goal.returns-in-None-clause-sections
returns-in-None-clause-sections g c =
    rw (← c.self.view_is)
    (sections_settled c.layouts_are_reached.ensures c.needs_stay_within_tops.ensures c.self.inside.symbols.now c.self.inside.sections c.lay_all.new.sections c.self.inside.rows.rows c.settle-rounds.new.self.levels
    c.settle-rounds.new.self.shifts c.settle-rounds.result c.self.invariant.rows c.settle-rounds.ensures.layout c.settle-rounds.ensures.shifts c.lay_all.ensures)

pub returns-in-None-clause-layout : goal.returns-in-None-clause-layout
returns-in-None-clause-layout g c =
    rw (← c.self.view_is)
    (sections_laid_out c.layouts_are_reached.ensures c.needs_stay_within_tops.ensures c.self.inside.symbols.now c.self.inside.sections c.lay_all.new.sections c.self.inside.rows.rows c.settle-rounds.new.self.levels
    c.settle-rounds.new.self.shifts c.settle-rounds.result c.self.invariant.rows c.settle-rounds.ensures.layout c.settle-rounds.ensures.shifts c.lay_all.ensures c.settle-rounds.ensures.holds)

pub returns-in-Some-clause-value : goal.returns-in-Some-clause-value
returns-in-Some-clause-value g c =
    let same : c.lay_all.new.sections ≡ settled_sections c.self.inside.symbols.now c.self.inside.sections =
    sections_settled c.layouts_are_reached.ensures c.needs_stay_within_tops.ensures c.self.inside.symbols.now c.self.inside.sections c.lay_all.new.sections c.self.inside.rows.rows c.settle-rounds.new.self.levels
    c.settle-rounds.new.self.shifts c.settle-rounds.result c.self.invariant.rows c.settle-rounds.ensures.layout c.settle-rounds.ensures.shifts c.lay_all.ensures in
    let fault : first_fault c.self.inside.symbols.now c.lay_all.new.sections ≡ Some c.in-Some.fault = sym c.first_fault.ensures ∙ c.in-Some.is in
    rw (← c.self.view_is, ← same, fault) refl

pub returns-in-None-clause-value : goal.returns-in-None-clause-value
returns-in-None-clause-value g c =
    let same : c.lay_all.new.sections ≡ settled_sections c.self.inside.symbols.now c.self.inside.sections =
    sections_settled c.layouts_are_reached.ensures c.needs_stay_within_tops.ensures c.self.inside.symbols.now c.self.inside.sections c.lay_all.new.sections c.self.inside.rows.rows c.settle-rounds.new.self.levels
    c.settle-rounds.new.self.shifts c.settle-rounds.result c.self.invariant.rows c.settle-rounds.ensures.layout c.settle-rounds.ensures.shifts c.lay_all.ensures in
    let none : first_fault c.self.inside.symbols.now c.lay_all.new.sections ≡ None = sym c.first_fault.ensures ∙ c.in-None.is in
    rw (← c.self.view_is, ← same, none) refl
