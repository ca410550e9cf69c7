-- The next section stands where its rows do.
use Rattle.std.proofs.Common.{◌≡◌, ℕ, suc, ◌+◌, ◌<◌, Some, length, drop, ap, ◌∙◌, arith}
use Rattle.std.specs.Prelude.{slice_get}
use Rattle.asm_frags.specs.Addresses.{changed_at}
use Rattle.item_rows.specs.ItemRows.{row_count}
use Rattle.asm_relax.specs.Layout.{laid_out_section}
use Rattle.asm_relax.specs.Settling.{LaidSections}
use Rattle.asm_relax.proofs.LayingLemmas.{there_is, first_row, laid_front, front_next, front_get, front_all, row_next, row_inside}
use Rattle.asm_relax.proofs.laying.lay_all.Goals as goal

pub lay_section-first-requires-clause-rows : goal.lay_section-first-requires-clause-rows
lay_section-first-requires-clause-rows c =
    let old = c.args.sections.now in
    let shifts = c.args.rows.now.shifts in
    let number = c.loop-number.number in
    let inside : number < length old = let all = c.len-count.ensures.len in let test = c.loop-number-test.true in omega arith in
    let found = there_is old number inside in
    let there : slice_get c.loop-number.sections number ≡ Some found.0 =
    ap (λ (all : LaidSections). slice_get all number) c.loop-number.invariant.sections ∙ front_get number shifts old ∙ found.1 in
    let first = c.loop-number.invariant.first in
    let rows = c.requires.rows in
    let long = row_inside number old found.0 found.1 in
    rw there (omega (arith, first, rows, long))

pub loop-number-preserved : goal.loop-number-preserved
loop-number-preserved c =
    let old = c.args.sections.now in
    let shifts = c.args.rows.now.shifts in
    let number = c.loop-number.number in
    let inside : number < length old = let all = c.len-count.ensures.len in let test = c.loop-number-test.true in omega arith in
    let found = there_is old number inside in
    let there : slice_get c.loop-number.sections number ≡ Some found.0 =
    ap (λ (all : LaidSections). slice_get all number) c.loop-number.invariant.sections ∙ front_get number shifts old ∙ found.1 in
    let one : suc number ≡ number + 1 = omega arith in
    let next : c.lay_section-first.result ≡ c.loop-number.first + row_count found.0 = rw there at c.lay_section-first.ensures.next in
    let first = c.loop-number.invariant.first in
    record {
      sections =
          c.lay_section-first.ensures.sections
          ∙ ap (λ (all : LaidSections). changed_at (laid_out_section (drop c.loop-number.first shifts)) all number) c.loop-number.invariant.sections
          ∙ ap (λ (n : ℕ). changed_at (laid_out_section (drop n shifts)) (laid_front number shifts old) number) first
          ∙ front_next number shifts old inside ∙ ap (λ (n : ℕ). laid_front n shifts old) one;
      first = next ∙ ap (λ (n : ℕ). n + row_count found.0) first ∙ row_next number old found.0 found.1 ∙ ap (λ (n : ℕ). first_row n old) one;
      same = c.lay_section-first.ensures.kept ∙ c.loop-number.invariant.same;
    }

pub returns : goal.returns
returns c =
    c.loop-number.invariant.sections
    ∙ front_all c.loop-number.number c.args.rows.now.shifts c.args.sections.now (let all = c.len-count.ensures.len in let past = c.loop-number-test.false in omega arith)
