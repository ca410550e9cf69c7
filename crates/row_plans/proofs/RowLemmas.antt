-- What a row keeps by the list that it stands in.
use Rattle.std.proofs.Common.{◌≡◌, ℕ, ◌+◌, ◌^◌, ◌<◌, ◌≤◌, List, length, get_or, sym, ap, subst, arith}
use Rattle.std.proofs.lemmas.List.Sums.{get_or-le-sum_by}
use Rattle.asm_levels.specs.declared.rows.RowSize.{RowSize}
use Rattle.asm_levels.specs.declared.rows.RowSize.TheVariants.{Fixed, Align, Org, Jump, Leb128, Advance, End}
use Rattle.asm_levels.specs.declared.rows.Row.{Row}
use Rattle.asm_levels.specs.Sizes.{start_of, most_bytes, most_in}
use Rattle.asm_levels.specs.Standing.{OrgStands, RowStands, AllStand}

pub row_stands : (rows : List Row) (index : ℕ) (row : Row) → index < length rows → row ≡ get_or rows index row → AllStand rows → RowStands (length rows) index row
row_stands rows index row inside here stand = subst (λ (r : Row). RowStands (length rows) index r) (sym here) (stand index row inside)

-- an `.org` counts from one of more rows too
pub org_wider : (few many : ℕ) (size : RowSize) → few ≤ many → OrgStands few size → OrgStands many size
org_wider few many (Fixed bytes) more stands = stands
org_wider few many (Align log most) more stands = stands
org_wider few many (Org from ahead behind) more stands = omega arith
org_wider few many (Jump conditional distance) more stands = stands
org_wider few many (Leb128 signed distance) more stands = stands
org_wider few many (Advance distance) more stands = stands
org_wider few many End more stands = stands

-- and from a shift that is bounded with those up to the row
pub start_upto : (shifts : List ℕ) (index : ℕ) (size : RowSize) → OrgStands (index + 1) size → ((at : ℕ) → at ≤ index → get_or shifts at 0 < 2 ^ 62) → start_of shifts size < 2 ^ 62
start_upto shifts index (Fixed bytes) stands small = omega arith
start_upto shifts index (Align log most) stands small = omega arith
start_upto shifts index (Org from ahead behind) stands small = small from (omega arith)
start_upto shifts index (Jump conditional distance) stands small = omega arith
start_upto shifts index (Leb128 signed distance) stands small = omega arith
start_upto shifts index (Advance distance) stands small = omega arith
start_upto shifts index End stands small = omega arith

pub most_at : (rows : List Row) (index : ℕ) (row : Row) → index < length rows → row ≡ get_or rows index row → most_bytes row.size ≤ most_in rows
most_at rows index row inside here =
    let le : most_bytes (get_or rows index row).size ≤ most_in rows = get_or-le-sum_by (λ r. most_bytes r.size) rows index row inside in
    let same : most_bytes (get_or rows index row).size ≡ most_bytes row.size = ap (λ (r : Row). most_bytes r.size) (sym here) in
    omega arith
