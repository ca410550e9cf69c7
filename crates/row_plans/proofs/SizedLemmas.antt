-- Rows that have the sizes of their levels and addresses, and those that still have others.
use Rattle.std.proofs.Common.{◌≡◌, ◌⊎◌, ℕ, ◌+◌, ◌^◌, ◌<◌, ◌≤◌, zero, suc, Bool, true, false, List, [], ◌∷◌, length, get_or, set, take, refl, sym, ap, ◌∙◌, subst, arith, inl, inr}
use Rattle.std.specs.List.{All}
use Rattle.std.proofs.lemmas.Bool.{cases_eq, cases_lt}
use Rattle.std.proofs.lemmas.List.Sums.{sum_by-take-le}
use Rattle.std.proofs.lemmas.List.{get_or-set_same, get_or-set_other, get_or-take, get_or_default, length-take-le}
use Rattle.asm_levels.specs.declared.rows.RowSize.{RowSize}
use Rattle.asm_levels.specs.declared.rows.RowSize.TheVariants.{Fixed, Align, Org, Jump, Leb128, Advance, End}
use Rattle.asm_levels.specs.declared.rows.Row.{Row}
use Rattle.asm_levels.specs.Sizes.{most_bytes, most_in, size_at}
use Rattle.asm_levels.specs.Shifts.{moved_past, shift_behind, shifts_of, AreInRow}
use Rattle.asm_levels.specs.Standing.{OrgStands, AllStand}
use Rattle.asm_levels.specs.RowLists.{depends_on_address, AreDependents, IsAmong, AreListed}
use Rattle.row_plans.specs.Resizing.{AreMoved, HasSize, IsPlainSized, AreSizedBut, size_of_level}
use Rattle.row_plans.proofs.RowOrder.{shifts_in_row}
use Rattle.row_plans.proofs.ShiftLemmas.{AllWithin, shift_behind-le, bound_more}
use Rattle.row_plans.proofs.ResizingLemmas.{exact_upto, exact_all, size_upto}

by_bool : {P : Type 0} (b : Bool) → (b ≡ true → P) → (b ≡ false → P) → P
by_bool true one other = one refl
by_bool false one other = other refl

-- from this place on, the row stands in the list
abbrev pub IsLater : ℕ → ℕ → List ℕ → Type 0
IsLater from index list = (at : ℕ) × (from ≤ at) × (at < length list) × (get_or list at 0 ≡ index)

-- each row has the size of its level, or stands in the list from this place on
abbrev pub AllButLater : List Row → List ℕ → List ℕ → ℕ → List ℕ → Type 0
AllButLater rows levels sizes from list = (index : ℕ) → index < length rows → IsPlainSized rows levels sizes index ⊎ IsLater from index list

pub later_all : (rows : List Row) (levels sizes list : List ℕ) → ((index : ℕ) → index < length rows → IsPlainSized rows levels sizes index ⊎ IsAmong index (length list) list)
    → AllButLater rows levels sizes 0 list
later_all rows levels sizes list all = λ index within. elim (all index within) [
  | inl plain ↦ inl plain
  | inr among ↦ inr (among.0, omega arith, among.1, among.2)
]

pub later_none : (rows : List Row) (levels sizes list : List ℕ) (from : ℕ) → length list ≤ from → AllButLater rows levels sizes from list
    → (index : ℕ) → index < length rows → IsPlainSized rows levels sizes index
later_none rows levels sizes list from past all = λ index within. elim (all index within) [
  | inl plain ↦ plain
  | inr later ↦ absurd (let low = later.1 in let high = later.2 in omega arith)
]

pub later_more : (rows : List Row) (levels sizes list : List ℕ) (at size : ℕ) → length sizes ≡ length rows → get_or list at 0 < length rows
    → ((default : Row) → size ≡ size_of_level (get_or rows (get_or list at 0) default).size (get_or levels (get_or list at 0) 0))
    → AllButLater rows levels sizes at list → AllButLater rows levels (set sizes (get_or list at 0) size) (at + 1) list
later_more rows levels sizes list at size many inside is all = λ index within. elim (cases_eq index (get_or list at 0)) [
  | inl same ↦ inl (λ default plain. (
      let own : get_or (set sizes (get_or list at 0) size) (get_or list at 0) 0 ≡ size = get_or-set_same sizes (get_or list at 0) size 0 (omega arith) in
      rw same (own ∙ is default)))
  | inr other ↦ elim (all index within) [
    | inl plain ↦ inl (λ default level. get_or-set_other sizes (get_or list at 0) index size 0 other ∙ plain default level)
    | inr later ↦ elim (cases_eq later.0 at) [
      | inl here ↦ absurd (other (sym later.3 ∙ ap (λ i. get_or list i 0) here))
      | inr past ↦ inr (later.0, (let low = later.1 in omega arith), later.2, later.3)
    ]
  ]
]

-- the size of a row that does not depend on its address, wherever it stands
pub plain_size : (shifts : List ℕ) (size : RowSize) (level address : ℕ) → depends_on_address size ≡ false → size_at shifts size level address ≡ size_of_level size level
unfolding size_at
plain_size shifts (Fixed bytes) level address is = refl
plain_size shifts (Align log most) level address is = cc
plain_size shifts (Org from ahead behind) level address is = cc
plain_size shifts (Jump conditional distance) level address is = refl
plain_size shifts (Leb128 signed distance) level address is = refl
plain_size shifts (Advance distance) level address is = refl
plain_size shifts End level address is = refl

-- the dependents before this place in their list have their sizes
abbrev pub FirstSized : List Row → List ℕ → List ℕ → List ℕ → ℕ → Type 0
FirstSized rows levels sizes list count = (at : ℕ) → at < count → at < length list → HasSize rows levels sizes (shifts_of rows levels) (get_or list at 0)

module _ (rows : List Row) (levels sizes list : List ℕ) (dependents : AreDependents rows list)
    (plain : (index : ℕ) → index < length rows → IsPlainSized rows levels sizes index) where
  sized_plain : (index : ℕ) (default : Row) → index < length rows → depends_on_address (get_or rows index default).size ≡ false
      → get_or sizes index 0 ≡ size_at (shifts_of rows levels) (get_or rows index default).size (get_or levels index 0) ((get_or rows index default).offset + get_or (shifts_of rows levels) index 0)
  sized_plain index default within is = plain index within default is ∙ sym (plain_size (shifts_of rows levels) (get_or rows index default).size (get_or levels index 0) _ is)

  -- each row before a dependent has its size
  pub sized_before : (count : ℕ) → count < length list → FirstSized rows levels sizes list count → (index : ℕ) → index < get_or list count 0
      → HasSize rows levels sizes (shifts_of rows levels) index
  sized_before count inside first index before = λ default. (
      let within : index < length rows = (let last = dependents.within count inside in omega arith) in
      by_bool (depends_on_address (get_or rows index default).size)
      (λ is. (
      let among = dependents.all index default within is in
      elim (cases_lt among.0 count) [
        | inl less ↦ subst (λ (i : ℕ). HasSize rows levels sizes (shifts_of rows levels) i) among.2 (first among.0 less among.1) default
        | inr more ↦ elim (cases_eq among.0 count) [
          | inl same ↦ absurd (let there = among.2 in let at : get_or list count 0 ≡ index = ap (λ i. get_or list i 0) (sym same) ∙ there in omega arith)
          | inr other ↦ absurd (let there = among.2 in let rises = dependents.order count among.0 (omega arith) among.1 in omega arith)
        ]
      ]))
      (λ is. sized_plain index default within is))

  -- and where all dependents have theirs, each row has
  pub sized_all : FirstSized rows levels sizes list (length list) → (index : ℕ) → index < length rows → HasSize rows levels sizes (shifts_of rows levels) index
  sized_all first index within = λ default. by_bool (depends_on_address (get_or rows index default).size)
      (λ is. (
      let among = dependents.all index default within is in
      subst (λ (i : ℕ). HasSize rows levels sizes (shifts_of rows levels) i) among.2 (first among.0 among.1 among.1) default))
      (λ is. sized_plain index default within is)

behind_same : (some other : List ℕ) (row : Row) (level shift : ℕ) → size_at some row.size level (row.offset + shift) ≡ size_at other row.size level (row.offset + shift)
    → shift_behind some row level shift ≡ shift_behind other row level shift
unfolding shift_behind
behind_same some other row level shift same = ap (λ bytes. moved_past row.size shift bytes) same

-- how far the rows are moved is bounded by the bytes before them
small_upto : (rows : List Row) (levels : List ℕ) (default : Row) → AllStand rows → All (λ level. level ≤ 9) levels → length levels ≡ length rows → AreInRow rows levels (shifts_of rows levels)
    → (index at : ℕ) → index < length rows → at ≤ index → get_or (shifts_of rows levels) at 0 ≤ most_in (take index rows)
small_upto rows levels default stand nine many order zero at within low =
    let none : at ≡ 0 = omega arith in let first = order.first in
    let here : get_or (shifts_of rows levels) at 0 ≡ 0 = ap (λ i. get_or (shifts_of rows levels) i 0) none ∙ first in omega arith
small_upto rows levels default stand nine many order (suc index) at within low =
    let one : suc index ≡ index + 1 = omega arith in
    let before : (i : ℕ) → i ≤ index → get_or (shifts_of rows levels) i 0 ≤ most_in (take index rows) =
    λ i le. small_upto rows levels default stand nine many order index i (omega arith) le in
    let here : get_or rows index default ≡ get_or rows index (get_or rows index default) = get_or_default rows index default (get_or rows index default) (omega arith) in
    let more : most_in (take (index + 1) rows) ≡ most_in (take index rows) + most_bytes (get_or rows index default).size = bound_more rows index (get_or rows index default) (omega arith) here in
    let wide : most_in (take (suc index) rows) ≡ most_in (take (index + 1) rows) = ap (λ i. most_in (take i rows)) one in
    elim (cases_eq at (suc index)) [
      | inl last ↦ (
          let count = order.count in
          let long : length (take (index + 1) (shifts_of rows levels)) ≡ index + 1 = length-take-le (index + 1) (shifts_of rows levels) (omega arith) in
          let all : AllWithin (most_in (take index rows)) (take (index + 1) (shifts_of rows levels)) = λ i d inside. (
          let first : get_or (take (index + 1) (shifts_of rows levels)) i d ≡ get_or (take (index + 1) (shifts_of rows levels)) i 0 = get_or_default (take (index + 1) (shifts_of rows levels)) i d 0 inside in
          let is : get_or (take (index + 1) (shifts_of rows levels)) i 0 ≡ get_or (shifts_of rows levels) i 0 = get_or-take (index + 1) (shifts_of rows levels) i 0 (omega arith) in
          let le = before i (omega arith) in omega arith) in
          let bound = shift_behind-le (take (index + 1) (shifts_of rows levels)) (most_in (take index rows)) (get_or rows index default) (get_or levels index 0) (get_or (shifts_of rows levels) index 0)
          (before index (omega arith)) (nine index 0 (omega arith)) all in
          let same : shift_behind (take (index + 1) (shifts_of rows levels)) (get_or rows index default) (get_or levels index 0) (get_or (shifts_of rows levels) index 0)
          ≡ shift_behind (shifts_of rows levels) (get_or rows index default) (get_or levels index 0) (get_or (shifts_of rows levels) index 0) =
          behind_upto (take (index + 1) (shifts_of rows levels)) (shifts_of rows levels) index (get_or rows index default) (get_or levels index 0) (get_or (shifts_of rows levels) index 0)
          (stand index default (omega arith)).org (λ i le. get_or-take (index + 1) (shifts_of rows levels) i 0 (omega arith)) in
          let next = order.next index default (omega arith) in
          let there : get_or (shifts_of rows levels) at 0 ≡ get_or (shifts_of rows levels) (index + 1) 0 = ap (λ i. get_or (shifts_of rows levels) i 0) (last ∙ one) in
          omega arith)
      | inr other ↦ (let le = before at (omega arith) in omega arith)
    ]
  where
    behind_upto : (some other : List ℕ) (index : ℕ) (row : Row) (level shift : ℕ) → OrgStands (index + 1) row.size
        → ((at : ℕ) → at ≤ index → get_or some at 0 ≡ get_or other at 0) → shift_behind some row level shift ≡ shift_behind other row level shift
    behind_upto some other index row level shift stands same = behind_same some other row level shift (size_upto some other index row.size level (row.offset + shift) stands same)

pub shifts_small : (rows : List Row) (levels : List ℕ) → AllStand rows → All (λ level. level ≤ 9) levels → length levels ≡ length rows → most_in rows < 2 ^ 62
    → All (λ shift. shift < 2 ^ 62) (shifts_of rows levels)
shifts_small [] levels stand nine many few = λ at d within. (let order = shifts_in_row [] levels stand in let count = order.count in absurd (omega arith))
shifts_small (row ∷ rows) levels stand nine many few = λ at d within. (
    let order = shifts_in_row (row ∷ rows) levels stand in
    let count = order.count in
    let first : get_or (shifts_of (row ∷ rows) levels) at d ≡ get_or (shifts_of (row ∷ rows) levels) at 0 = get_or_default (shifts_of (row ∷ rows) levels) at d 0 within in
    let le = small_upto (row ∷ rows) levels row stand nine many order at at (omega arith) (omega arith) in
    let most : most_in (take at (row ∷ rows)) ≤ most_in (row ∷ rows) = sum_by-take-le (λ r. most_bytes r.size) (row ∷ rows) at in
    omega arith)

-- rows that stand in row with their sizes are moved by them
pub moved_exact : (rows : List Row) (levels sizes shifts : List ℕ) → AreInRow rows levels shifts → All (λ shift. shift < 2 ^ 62) shifts → length sizes ≡ length rows
    → ((index : ℕ) → index < length rows → HasSize rows levels sizes shifts index) → AreMoved rows sizes shifts
unfolding shift_behind
moved_exact rows levels sizes shifts order small many sized = record {
  as_many_shifts = order.count;
  as_many_sizes = many;
  first = order.first;
  next = λ index default within. (
      let next = order.next index default within in
      let size = sized index (omega arith) default in
      let count = order.count in
      let least : get_or shifts (index + 1) 0 < 2 ^ 62 = small (index + 1) 0 (omega arith) in
      let same : get_or shifts (index + 1) 0 ≡ moved_past (get_or rows index default).size (get_or shifts index 0) (get_or sizes index 0) =
      next ∙ ap (λ bytes. moved_past (get_or rows index default).size (get_or shifts index 0) bytes) (sym size) in
      omega arith);
}

-- a row of no bytes
abbrev pub no_row : Row
no_row = record { offset = 0; size = End }

module _ (rows : List Row) (levels sizes shifts list : List ℕ) (stand : AllStand rows) (nine : All (λ level. level ≤ 9) levels) (many : length levels ≡ length rows)
    (few : most_in rows < 2 ^ 62) (dependents : AreDependents rows list) (moved : AreMoved rows sizes shifts)
    (plain : (index : ℕ) → index < length rows → IsPlainSized rows levels sizes index) (count : ℕ) (first : FirstSized rows levels sizes list count) where
  -- up to the next dependent, rows stand where their levels move them
  exact_here : count < length list → (at : ℕ) → at ≤ get_or list count 0 → get_or shifts at 0 ≡ get_or (shifts_of rows levels) at 0
  exact_here inside at low =
      let here : get_or list count 0 < length rows = dependents.within count inside in
      exact_upto rows levels sizes shifts (get_or list count 0) no_row moved (shifts_in_row rows levels stand) (shifts_small rows levels stand nine many few)
      (λ index before. sized_before rows levels sizes list dependents plain count inside first index before) at low (omega arith)

  pub small_here : count < length list → (at : ℕ) → at ≤ get_or list count 0 → get_or shifts at 0 < 2 ^ 62
  small_here inside at low =
      let here : get_or list count 0 < length rows = dependents.within count inside in
      let order = shifts_in_row rows levels stand in
      let long = order.count in
      let least : get_or (shifts_of rows levels) at 0 < 2 ^ 62 = shifts_small rows levels stand nine many few at 0 (omega arith) in
      let same = exact_here inside at low in
      omega arith

  pub first_more : count < length list → (size : ℕ)
      → ((default : Row) → size ≡ size_at shifts (get_or rows (get_or list count 0) default).size (get_or levels (get_or list count 0) 0) ((get_or rows (get_or list count 0) default).offset + get_or shifts (get_or list count 0) 0))
      → FirstSized rows levels (set sizes (get_or list count 0) size) list (count + 1)
  first_more inside size is at less within = λ default. elim (cases_eq at count) [
    | inl same ↦ (
        let here : get_or list count 0 < length rows = dependents.within count inside in
        let long = moved.as_many_sizes in
        let own : get_or (set sizes (get_or list count 0) size) (get_or list count 0) 0 ≡ size = get_or-set_same sizes (get_or list count 0) size 0 (omega arith) in
        let there = exact_here inside (get_or list count 0) (omega arith) in
        let upto = size_upto shifts (shifts_of rows levels) (get_or list count 0) (get_or rows (get_or list count 0) default).size (get_or levels (get_or list count 0) 0)
        ((get_or rows (get_or list count 0) default).offset + get_or shifts (get_or list count 0) 0) (stand (get_or list count 0) default here).org (λ i low. exact_here inside i low) in
        let moved_so = ap (λ shift. size_at (shifts_of rows levels) (get_or rows (get_or list count 0) default).size (get_or levels (get_or list count 0) 0)
        ((get_or rows (get_or list count 0) default).offset + shift)) there in
        subst (λ (i : ℕ). get_or (set sizes (get_or list count 0) size) (get_or list i 0) 0
        ≡ size_at (shifts_of rows levels) (get_or rows (get_or list i 0) default).size (get_or levels (get_or list i 0) 0) ((get_or rows (get_or list i 0) default).offset + get_or (shifts_of rows levels) (get_or list i 0) 0))
        (sym same) (own ∙ (is default ∙ (upto ∙ moved_so))))
    | inr other ↦ (
        let before = dependents.order at count (omega arith) inside in
        get_or-set_other sizes (get_or list count 0) (get_or list at 0) size 0 (λ same. absurd (omega arith)) ∙ first at (omega arith) within default)
  ]

  pub plain_more : count < length list → (size index : ℕ) → index < length rows → IsPlainSized rows levels (set sizes (get_or list count 0) size) index
  plain_more inside size index within = λ default is. elim (cases_eq index (get_or list count 0)) [
    | inl same ↦ absurd (let only = dependents.only count default inside in
        let not : depends_on_address (get_or rows (get_or list count 0) default).size ≡ false = ap (λ i. depends_on_address (get_or rows i default).size) (sym same) ∙ is in
        apart (depends_on_address (get_or rows (get_or list count 0) default).size) only not)
    | inr other ↦ get_or-set_other sizes (get_or list count 0) index size 0 other ∙ plain index within default is
  ]
    where
      apart : (b : Bool) → b ≡ true → b ≡ false → ⊥
      apart b one other = cc

  -- behind the last dependent all rows do
  pub exact_end : length list ≤ count → shifts ≡ shifts_of rows levels
  exact_end past = exact_all rows levels sizes shifts no_row moved (shifts_in_row rows levels stand) (shifts_small rows levels stand nine many few)
      (sized_all rows levels sizes list dependents plain (λ at less within. first at (omega arith) within))

-- where the levels of listed rows alone have changed, each other row still has the size of its level
pub plain_or_listed : (rows : List Row) (before levels sizes shifts : List ℕ) (count : ℕ) (list : List ℕ) → length before ≡ length rows
    → ((index : ℕ) → index < length rows → HasSize rows before sizes shifts index) → AreListed before levels count list
    → count ≤ length list → (index : ℕ) → index < length rows → IsPlainSized rows levels sizes index ⊎ IsAmong index count list
plain_or_listed rows before levels sizes shifts count list many sized listed room index within = elim (listed room index (omega arith)) [
  | inl still ↦ inl (λ default is. (
      let size = sized index within default in
      let plain = plain_size shifts (get_or rows index default).size (get_or before index 0) ((get_or rows index default).offset + get_or shifts index 0) is in
      size ∙ (plain ∙ ap (λ level. size_of_level (get_or rows index default).size level) (sym still))))
  | inr among ↦ inr among
]

-- the sizes of rows, the first of which has this index, at their levels and addresses
abbrev sizes_from : (shifts levels : List ℕ) (rows : List Row) (index : ℕ) → List ℕ
sizes_from shifts levels [] index = []
sizes_from shifts levels (row ∷ rows) index = size_at shifts row.size (get_or levels index 0) (row.offset + get_or shifts index 0) ∷ sizes_from shifts levels rows (suc index)

length-sizes : (shifts levels : List ℕ) (rows : List Row) (index : ℕ) → length (sizes_from shifts levels rows index) ≡ length rows
length-sizes shifts levels [] index = refl
length-sizes shifts levels (row ∷ rows) index = let rest = length-sizes shifts levels rows (suc index) in omega arith

sizes_at : (shifts levels : List ℕ) (rows : List Row) (index at : ℕ) (default : Row) → at < length rows → get_or (sizes_from shifts levels rows index) at 0
    ≡ size_at shifts (get_or rows at default).size (get_or levels (index + at) 0) ((get_or rows at default).offset + get_or shifts (index + at) 0)
sizes_at shifts levels [] index at default inside = absurd (omega arith)
sizes_at shifts levels (row ∷ rows) index zero default inside = ap (λ i. size_at shifts row.size (get_or levels i 0) (row.offset + get_or shifts i 0)) (let none : index ≡ index + 0 = omega arith in none)
sizes_at shifts levels (row ∷ rows) index (suc at) default inside =
    sizes_at shifts levels rows (suc index) at default (omega arith)
    ∙ ap (λ i. size_at shifts (get_or rows at default).size (get_or levels i 0) ((get_or rows at default).offset + get_or shifts i 0)) (let one : suc index + at ≡ index + suc at = omega arith in one)

-- rows that stand where their levels moved them have sizes, of which those of the rows that have risen are not yet those of their levels
pub sized_but : (rows : List Row) (before levels shifts : List ℕ) (count : ℕ) (list : List ℕ) → AllStand rows → length before ≡ length rows → shifts ≡ shifts_of rows before
    → All (λ shift. shift < 2 ^ 62) shifts → AreListed before levels count list → count ≤ length list → (sizes : List ℕ) × AreSizedBut rows levels sizes shifts count list
sized_but rows before levels shifts count list stand many placed small listed room =
    let sized : (index : ℕ) → index < length rows → HasSize rows before (sizes_from shifts before rows 0) shifts index = λ index within default. (
    let first : 0 + index ≡ index = omega arith in
    sizes_at shifts before rows 0 index default within
    ∙ ap (λ i. size_at shifts (get_or rows index default).size (get_or before i 0) ((get_or rows index default).offset + get_or shifts i 0)) first) in (
      sizes_from shifts before rows 0,
      record {
        moved = moved_exact rows before (sizes_from shifts before rows 0) shifts (subst (λ (all : List ℕ). AreInRow rows before all) (sym placed) (shifts_in_row rows before stand)) small
            (length-sizes shifts before rows 0) sized;
        plain = plain_or_listed rows before levels (sizes_from shifts before rows 0) shifts count list many sized listed room;
      },
    )

-- the first so many of a list are a list of so many
pub sized_take : (rows : List Row) (levels sizes shifts : List ℕ) (count : ℕ) (list : List ℕ) → count ≤ length list → AreSizedBut rows levels sizes shifts count list
    → AreSizedBut rows levels sizes shifts (length (take count list)) (take count list)
sized_take rows levels sizes shifts count list room sized =
    let long : length (take count list) ≡ count = length-take-le count list room in
    record {
      moved = sized.moved;
      plain = λ index within. elim (sized.plain index within) [
        | inl plain ↦ inl plain
        | inr among ↦ inr (among.0, (let less = among.1 in omega arith), get_or-take count list among.0 0 among.1 ∙ among.2)
      ];
    }
