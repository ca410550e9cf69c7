-- A row gets another size, and the rows behind it are moved.
use Rattle.std.proofs.Common.{◌≡◌, ℕ, ◌+◌, ◌-◌, ◌%◌, ◌^◌, ◌<◌, ◌≤◌, zero, suc, true, false, List, length, get_or, set, refl, sym, ap, ◌∙◌, subst, arith, inl, inr}
use Rattle.std.specs.List.{All}
use Rattle.std.proofs.lemmas.Bool.{cases_eq, cases_lt}
use Rattle.std.proofs.lemmas.List.{get_or-set_same, get_or-set_other, length-set, ext_get_or}
use Rattle.range_table.specs.Moving.{IsMoved}
use Rattle.asm_levels.specs.declared.rows.RowSize.{RowSize}
use Rattle.asm_levels.specs.declared.rows.RowSize.TheVariants.{Fixed, Align, Org, Jump, Leb128, Advance, End}
use Rattle.asm_levels.specs.declared.rows.Row.{Row}
use Rattle.asm_levels.specs.Sizes.{size_at}
use Rattle.asm_levels.specs.Shifts.{moved_past, shift_behind, shifts_of, AreInRow}
use Rattle.asm_levels.specs.Standing.{OrgStands}
use Rattle.asm_levels.specs.RowLists.{is_end, depends_on_address, IsMovedBefore}
use Rattle.row_plans.specs.Resizing.{AreMoved, HasSize}

pub past_inner : (size : RowSize) (shift bytes : ℕ) → is_end size ≡ false → moved_past size shift bytes ≡ shift + bytes
past_inner (Fixed held) shift bytes is = refl
past_inner (Align log most) shift bytes is = refl
past_inner (Org from ahead behind) shift bytes is = refl
past_inner (Jump conditional distance) shift bytes is = refl
past_inner (Leb128 signed distance) shift bytes is = refl
past_inner (Advance distance) shift bytes is = refl
past_inner End shift bytes is = cc

past_end : (size : RowSize) (shift bytes : ℕ) → is_end size ≡ true → moved_past size shift bytes ≡ 0
past_end (Fixed held) shift bytes is = cc
past_end (Align log most) shift bytes is = cc
past_end (Org from ahead behind) shift bytes is = cc
past_end (Jump conditional distance) shift bytes is = cc
past_end (Leb128 signed distance) shift bytes is = cc
past_end (Advance distance) shift bytes is = cc
past_end End shift bytes is = refl

grown : (shift bytes more next : ℕ) → next ≡ (shift + bytes) % 2 ^ 64 → (next + more) % 2 ^ 64 ≡ (shift + (bytes + more) % 2 ^ 64) % 2 ^ 64
grown shift bytes more next is = omega arith

moved_both : (shift bytes more next : ℕ) → next ≡ (shift + bytes) % 2 ^ 64 → (next + more) % 2 ^ 64 ≡ ((shift + more) % 2 ^ 64 + bytes) % 2 ^ 64
moved_both shift bytes more next is = omega arith

module _ (rows : List Row) (sizes shifts after : List ℕ) (row to more : ℕ) (moved : AreMoved rows sizes shifts) (before : IsMovedBefore rows row to)
    (is : IsMoved (row + 1) to more shifts after) where
  abbrev pub resized : List ℕ
  resized = set sizes row ((get_or sizes row 0 + more) % 2 ^ 64)

  inside_row : row < length sizes
  inside_row = let many = moved.as_many_sizes in let first = before.after in let last = before.within in omega arith

  own_size : get_or resized row 0 ≡ (get_or sizes row 0 + more) % 2 ^ 64
  own_size = get_or-set_same sizes row ((get_or sizes row 0 + more) % 2 ^ 64) 0 inside_row

  other_size : (index : ℕ) → (index ≡ row → ⊥) → get_or resized index 0 ≡ get_or sizes index 0
  other_size index other = get_or-set_other sizes row index ((get_or sizes row 0 + more) % 2 ^ 64) 0 other

  abbrev Next : ℕ → Row → Type 0
  Next index default = get_or after (index + 1) 0 ≡ moved_past (get_or rows index default).size (get_or after index 0) (get_or resized index 0) % 2 ^ 64

  -- neither the row nor the one behind it is moved
  next_still : (index : ℕ) (default : Row) → index + 1 < length rows → (index ≡ row → ⊥) → get_or after index 0 ≡ get_or shifts index 0
      → get_or after (index + 1) 0 ≡ get_or shifts (index + 1) 0 → Next index default
  next_still index default within other here there =
      let size = other_size index other in
      there ∙ (moved.next index default within ∙ ap (λ shift. moved_past (get_or rows index default).size shift (get_or sizes index 0) % 2 ^ 64) (sym here)
      ∙ ap (λ bytes. moved_past (get_or rows index default).size (get_or after index 0) bytes % 2 ^ 64) (sym size))

  next_own : (default : Row) → row + 1 < length rows → Next row default
  next_own default within = elim (cases_lt (row + 1) to) [
    | inl lt ↦ (
        let inner = before.inner row default (omega arith) lt in
        let here : get_or after row 0 ≡ get_or shifts row 0 = is.outside row (inl (omega arith)) in
        let there : get_or after (row + 1) 0 ≡ (get_or shifts (row + 1) 0 + more) % 2 ^ 64 = is.inside (row + 1) (omega arith) lt in
        let was : get_or shifts (row + 1) 0 ≡ (get_or shifts row 0 + get_or sizes row 0) % 2 ^ 64 =
        moved.next row default within ∙ ap (λ m. m % 2 ^ 64) (past_inner (get_or rows row default).size (get_or shifts row 0) (get_or sizes row 0) inner) in
        let now : moved_past (get_or rows row default).size (get_or after row 0) (get_or resized row 0) ≡ get_or after row 0 + get_or resized row 0 =
        past_inner (get_or rows row default).size (get_or after row 0) (get_or resized row 0) inner in
        let grows = grown (get_or shifts row 0) (get_or sizes row 0) more (get_or shifts (row + 1) 0) was in
        rw (now, here, own_size, there) grows)
    | inr ge ↦ (
        let first = before.after in
        let same : to ≡ row + 1 = omega arith in
        let at : to - 1 ≡ row = omega arith in
        let end : is_end (get_or rows row default).size ≡ true = subst (λ (index : ℕ). is_end (get_or rows index default).size ≡ true) at (before.last default (omega arith)) in
        let there : get_or after (row + 1) 0 ≡ get_or shifts (row + 1) 0 = is.outside (row + 1) (inr (omega arith)) in
        let was = moved.next row default within ∙ ap (λ m. m % 2 ^ 64) (past_end (get_or rows row default).size (get_or shifts row 0) (get_or sizes row 0) end) in
        let now = past_end (get_or rows row default).size (get_or after row 0) (get_or resized row 0) end in
        there ∙ was ∙ sym (ap (λ m. m % 2 ^ 64) now))
  ]

  next_behind : (index : ℕ) (default : Row) → index + 1 < length rows → row < index → index < to → Next index default
  next_behind index default within above below = elim (cases_lt (index + 1) to) [
    | inl lt ↦ (
        let inner = before.inner index default (omega arith) lt in
        let size = other_size index (λ same. absurd (omega arith)) in
        let here : get_or after index 0 ≡ (get_or shifts index 0 + more) % 2 ^ 64 = is.inside index (omega arith) below in
        let there : get_or after (index + 1) 0 ≡ (get_or shifts (index + 1) 0 + more) % 2 ^ 64 = is.inside (index + 1) (omega arith) lt in
        let was : get_or shifts (index + 1) 0 ≡ (get_or shifts index 0 + get_or sizes index 0) % 2 ^ 64 =
        moved.next index default within ∙ ap (λ m. m % 2 ^ 64) (past_inner (get_or rows index default).size (get_or shifts index 0) (get_or sizes index 0) inner) in
        let now : moved_past (get_or rows index default).size (get_or after index 0) (get_or resized index 0) ≡ get_or after index 0 + get_or resized index 0 =
        past_inner (get_or rows index default).size (get_or after index 0) (get_or resized index 0) inner in
        let both = moved_both (get_or shifts index 0) (get_or sizes index 0) more (get_or shifts (index + 1) 0) was in
        rw (now, here, size, there) both)
    | inr ge ↦ (
        let same : to ≡ index + 1 = omega arith in
        let at : to - 1 ≡ index = omega arith in
        let end : is_end (get_or rows index default).size ≡ true = subst (λ (i : ℕ). is_end (get_or rows i default).size ≡ true) at (before.last default (omega arith)) in
        let there : get_or after (index + 1) 0 ≡ get_or shifts (index + 1) 0 = is.outside (index + 1) (inr (omega arith)) in
        let was = moved.next index default within ∙ ap (λ m. m % 2 ^ 64) (past_end (get_or rows index default).size (get_or shifts index 0) (get_or sizes index 0) end) in
        let now = past_end (get_or rows index default).size (get_or after index 0) (get_or resized index 0) end in
        there ∙ was ∙ sym (ap (λ m. m % 2 ^ 64) now))
  ]

  -- the row has so many bytes more, and what stands behind it is moved by them
  pub moved_resized : AreMoved rows resized after
  moved_resized = record {
    as_many_shifts = is.len ∙ moved.as_many_shifts;
    as_many_sizes = length-set sizes row ((get_or sizes row 0 + more) % 2 ^ 64) ∙ moved.as_many_sizes;
    first = is.outside 0 (inl (omega arith)) ∙ moved.first;
    next = λ index default within. elim (cases_lt index row) [
      | inl less ↦ next_still index default within (λ same. absurd (omega arith)) (is.outside index (inl (omega arith))) (is.outside (index + 1) (inl (omega arith)))
      | inr more ↦ elim (cases_eq index row) [
        | inl same ↦ subst (λ (i : ℕ). Next i default) (sym same) (next_own default (omega arith))
        | inr other ↦ elim (cases_lt index to) [
          | inl below ↦ next_behind index default within (omega arith) below
          | inr past ↦ next_still index default within other (is.outside index (inr past)) (is.outside (index + 1) (inr (omega arith)))
        ]
      ]
    ];
  }

-- another size of a row moves what stands behind it as far, where none of its section does or the sizes are one modulo 2 ^ 64
pub moved_set : (rows : List Row) (sizes shifts : List ℕ) (row size : ℕ) → row < length rows → AreMoved rows sizes shifts
    → ((default : Row) → row + 1 < length rows → moved_past (get_or rows row default).size (get_or shifts row 0) (get_or sizes row 0) % 2 ^ 64 ≡ moved_past (get_or rows row default).size (get_or shifts row 0) size % 2 ^ 64)
    → AreMoved rows (set sizes row size) shifts
moved_set rows sizes shifts row size inside moved same =
    let many = moved.as_many_sizes in
    let own : get_or (set sizes row size) row 0 ≡ size = get_or-set_same sizes row size 0 (omega arith) in
    record {
      as_many_shifts = moved.as_many_shifts;
      as_many_sizes = length-set sizes row size ∙ many;
      first = moved.first;
      next = λ index default within. elim (cases_eq index row) [
        | inl here ↦ subst (λ (i : ℕ). get_or shifts (i + 1) 0 ≡ moved_past (get_or rows i default).size (get_or shifts i 0) (get_or (set sizes row size) i 0) % 2 ^ 64) (sym here)
            (moved.next row default (omega arith) ∙ (same default (omega arith) ∙ ap (λ bytes. moved_past (get_or rows row default).size (get_or shifts row 0) bytes % 2 ^ 64) (sym own)))
        | inr other ↦ moved.next index default within ∙ ap (λ bytes. moved_past (get_or rows index default).size (get_or shifts index 0) bytes % 2 ^ 64) (sym (get_or-set_other sizes row index size 0 other))
      ];
    }

pub set_unmoved : (rows : List Row) (sizes shifts : List ℕ) (row size to : ℕ) → row < length rows → IsMovedBefore rows row to → to ≡ row + 1 → AreMoved rows sizes shifts → AreMoved rows (set sizes row size) shifts
set_unmoved rows sizes shifts row size to inside before last moved = moved_set rows sizes shifts row size inside moved (λ default within. (
    let at : to - 1 ≡ row = omega arith in
    let end : is_end (get_or rows row default).size ≡ true = subst (λ (index : ℕ). is_end (get_or rows index default).size ≡ true) at (before.last default (omega arith)) in
    ap (λ m. m % 2 ^ 64) (past_end (get_or rows row default).size (get_or shifts row 0) (get_or sizes row 0) end ∙ sym (past_end (get_or rows row default).size (get_or shifts row 0) size end))))

same_sum : (shift one other : ℕ) → other ≡ one % 2 ^ 64 → (shift + one) % 2 ^ 64 ≡ (shift + other) % 2 ^ 64
same_sum shift one other is = omega arith

pub set_same : (rows : List Row) (sizes shifts : List ℕ) (row size to : ℕ) → row < length rows → IsMovedBefore rows row to → row + 1 < to → size ≡ get_or sizes row 0 % 2 ^ 64
    → AreMoved rows sizes shifts → AreMoved rows (set sizes row size) shifts
set_same rows sizes shifts row size to inside before some is moved = moved_set rows sizes shifts row size inside moved (λ default within. (
    let inner = before.inner row default (omega arith) some in
    let one = past_inner (get_or rows row default).size (get_or shifts row 0) (get_or sizes row 0) inner in
    let other = past_inner (get_or rows row default).size (get_or shifts row 0) size inner in
    ap (λ m. m % 2 ^ 64) one ∙ (same_sum (get_or shifts row 0) (get_or sizes row 0) size is ∙ ap (λ m. m % 2 ^ 64) (sym other))))

more_is : (held old size more : ℕ) → size < 2 ^ 64 → old ≡ held % 2 ^ 64 → more ≡ (size + (2 ^ 64 - old)) % 2 ^ 64 → (held + more) % 2 ^ 64 ≡ size
more_is held old size more low is by_more = omega arith

pub set_moved : (rows : List Row) (sizes shifts after : List ℕ) (row size to old more : ℕ) → size < 2 ^ 64 → old ≡ get_or sizes row 0 % 2 ^ 64 → more ≡ (size + (2 ^ 64 - old)) % 2 ^ 64 → IsMovedBefore rows row to
    → IsMoved (row + 1) to more shifts after → AreMoved rows sizes shifts → AreMoved rows (set sizes row size) after
set_moved rows sizes shifts after row size to old more low is by_more before add moved =
    subst (λ (bytes : ℕ). AreMoved rows (set sizes row bytes) after) (more_is (get_or sizes row 0) old size more low is by_more) (moved_resized rows sizes shifts after row to more moved before add)

-- the size of a row by the shifts
pub size_between : (rows : List Row) (sizes shifts : List ℕ) (row to : ℕ) (default : Row) → IsMovedBefore rows row to → row + 1 < to → AreMoved rows sizes shifts → get_or shifts row 0 < 2 ^ 64
    → (get_or shifts (row + 1) 0 + (2 ^ 64 - get_or shifts row 0)) % 2 ^ 64 ≡ get_or sizes row 0 % 2 ^ 64
size_between rows sizes shifts row to default before some moved low =
    let last = before.within in
    let inner = before.inner row default (omega arith) some in
    let next : get_or shifts (row + 1) 0 ≡ (get_or shifts row 0 + get_or sizes row 0) % 2 ^ 64 =
    moved.next row default (omega arith) ∙ ap (λ m. m % 2 ^ 64) (past_inner (get_or rows row default).size (get_or shifts row 0) (get_or sizes row 0) inner) in
    omega arith

behind_is : (row : Row) (level shift there bytes : ℕ) (all : List ℕ) → shift ≡ there → bytes ≡ size_at all row.size level (row.offset + there)
    → moved_past row.size shift bytes ≡ shift_behind all row level there
unfolding shift_behind
behind_is row level shift there bytes all is size = rw (is, size) refl

-- as far as rows have the sizes of their levels and addresses, they stand where these levels move them
pub exact_upto : (rows : List Row) (levels sizes shifts : List ℕ) (count : ℕ) (default : Row) → AreMoved rows sizes shifts
    → AreInRow rows levels (shifts_of rows levels) → All (λ shift. shift < 2 ^ 62) (shifts_of rows levels)
    → ((index : ℕ) → index < count → HasSize rows levels sizes (shifts_of rows levels) index)
    → (index : ℕ) → index ≤ count → index < length rows → get_or shifts index 0 ≡ get_or (shifts_of rows levels) index 0
exact_upto rows levels sizes shifts count default moved order small sized zero low within = moved.first ∙ sym order.first
exact_upto rows levels sizes shifts count default moved order small sized (suc index) low within =
    let before : get_or shifts index 0 ≡ get_or (shifts_of rows levels) index 0 =
    exact_upto rows levels sizes shifts count default moved order small sized index (omega arith) (omega arith) in
    let one : suc index ≡ index + 1 = omega arith in
    let size = sized index (omega arith) default in
    let was : get_or shifts (index + 1) 0 ≡ moved_past (get_or rows index default).size (get_or shifts index 0) (get_or sizes index 0) % 2 ^ 64 = moved.next index default (omega arith) in
    let same : moved_past (get_or rows index default).size (get_or shifts index 0) (get_or sizes index 0)
    ≡ shift_behind (shifts_of rows levels) (get_or rows index default) (get_or levels index 0) (get_or (shifts_of rows levels) index 0) =
    behind_is (get_or rows index default) (get_or levels index 0) (get_or shifts index 0) (get_or (shifts_of rows levels) index 0) (get_or sizes index 0) (shifts_of rows levels) before size in
    let next : get_or (shifts_of rows levels) (index + 1) 0
    ≡ shift_behind (shifts_of rows levels) (get_or rows index default) (get_or levels index 0) (get_or (shifts_of rows levels) index 0) = order.next index default (omega arith) in
    let many = order.count in
    let least : get_or (shifts_of rows levels) (index + 1) 0 < 2 ^ 62 = small (index + 1) 0 (omega arith) in
    let all : get_or shifts (index + 1) 0 ≡ get_or (shifts_of rows levels) (index + 1) 0 % 2 ^ 64 = was ∙ ap (λ m. m % 2 ^ 64) (same ∙ sym next) in
    ap (λ i. get_or shifts i 0) one ∙ (omega arith) ∙ ap (λ i. get_or (shifts_of rows levels) i 0) (sym one)

-- where all rows have them, the shifts are those of the levels
pub exact_all : (rows : List Row) (levels sizes shifts : List ℕ) (default : Row) → AreMoved rows sizes shifts
    → AreInRow rows levels (shifts_of rows levels) → All (λ shift. shift < 2 ^ 62) (shifts_of rows levels)
    → ((index : ℕ) → index < length rows → HasSize rows levels sizes (shifts_of rows levels) index)
    → shifts ≡ shifts_of rows levels
exact_all rows levels sizes shifts default moved order small sized =
    let many = moved.as_many_shifts in
    let same = order.count in
    ext_get_or 0 shifts (shifts_of rows levels) (many ∙ sym same)
    (λ index within. exact_upto rows levels sizes shifts (length rows) default moved order small sized index (omega arith) (omega arith))

-- the size of a row that does not depend on its address is that of its level, wherever it stands
pub size_of_level : (one other : List ℕ) (size : RowSize) (level here there : ℕ) → depends_on_address size ≡ false → size_at one size level here ≡ size_at other size level there
unfolding size_at
size_of_level one other (Fixed bytes) level here there is = refl
size_of_level one other (Align log most) level here there is = cc
size_of_level one other (Org from ahead behind) level here there is = cc
size_of_level one other (Jump conditional distance) level here there is = refl
size_of_level one other (Leb128 signed distance) level here there is = refl
size_of_level one other (Advance distance) level here there is = refl
size_of_level one other End level here there is = refl

-- the size of a row asks for no shift behind it
pub size_upto : (one other : List ℕ) (index : ℕ) (size : RowSize) (level address : ℕ) → OrgStands (index + 1) size
    → ((at : ℕ) → at ≤ index → get_or one at 0 ≡ get_or other at 0) → size_at one size level address ≡ size_at other size level address
unfolding size_at
size_upto one other index (Fixed bytes) level address stands same = refl
size_upto one other index (Align log most) level address stands same = refl
size_upto one other index (Org from ahead behind) level address stands same = ap (λ shift. (shift + ahead) - (address + behind)) (same from (omega arith))
size_upto one other index (Jump conditional distance) level address stands same = refl
size_upto one other index (Leb128 signed distance) level address stands same = refl
size_upto one other index (Advance distance) level address stands same = refl
size_upto one other index End level address stands same = refl
