-- Rows stand one behind the other exactly by their shifts.
use Rattle.std.proofs.Common.{◌≡◌, ℕ, ◌+◌, ◌-◌, ◌<◌, zero, suc, List, [], ◌∷◌, ◌++◌, length, get_or, take, drop, set, refl, ap, sym, ◌∙◌, arith}
use Rattle.std.proofs.lemmas.List.{set-get_or, length_push, get_or_append_left, get_or_push, length-take-le, ext_get_or, get_or-take, get_or-drop, nil_from_length, get_or_default}
use Rattle.asm_levels.specs.declared.rows.RowSize.{RowSize}
use Rattle.asm_levels.specs.declared.rows.RowSize.TheVariants.{Fixed, Align, Org, Jump, Leb128, Advance, End}
use Rattle.asm_levels.specs.declared.rows.Row.{Row}
use Rattle.asm_levels.specs.Sizes.{size_at}
use Rattle.asm_levels.specs.Shifts.{moved_past, shift_behind, shifts_from, shifts_of, AreInRow}
use Rattle.asm_levels.specs.Standing.{OrgStands, AllStand}
use Rattle.row_plans.proofs.ShiftLemmas.{shifts_cons, shifts_nil, shifts_start, shifts_step, shifts_end}

-- a row's size asks for no shift behind the row
size-take : (shifts : List ℕ) (count : ℕ) (size : RowSize) (level address : ℕ) → OrgStands count size → size_at (take count shifts) size level address ≡ size_at shifts size level address
unfolding size_at
size-take shifts count (Fixed bytes) level address stands = refl
size-take shifts count (Align log most) level address stands = refl
size-take shifts count (Org from ahead behind) level address stands = ap (λ m. (m + ahead) - (address + behind)) (get_or-take count shifts from 0 stands)
size-take shifts count (Jump conditional distance) level address stands = refl
size-take shifts count (Leb128 signed distance) level address stands = refl
size-take shifts count (Advance distance) level address stands = refl
size-take shifts count End level address stands = refl

pub behind-take : (shifts : List ℕ) (count : ℕ) (row : Row) (level shift : ℕ) → OrgStands count row.size → shift_behind (take count shifts) row level shift ≡ shift_behind shifts row level shift
unfolding shift_behind
behind-take shifts count row level shift stands = ap (λ bytes. moved_past row.size shift bytes) (size-take shifts count row.size level (row.offset + shift) stands)

-- by the shifts that are there, one row more is done
one_more : (rows : List Row) (levels shifts : List ℕ) (default : Row) (index next : ℕ) → index < length rows → length shifts ≡ length rows
    → next ≡ shift_behind (take (index + 1) shifts) (get_or rows index default) (get_or levels index 0) (get_or shifts index 0)
    → shifts_from (take (index + 1) shifts) next (drop (index + 1) rows) (drop (index + 1) levels)
    ≡ shifts_from (take index shifts) (get_or shifts index 0) (drop index rows) (drop index levels)
one_more rows levels shifts default index next inside long is =
    let same : set shifts index (get_or shifts index 0) ≡ shifts = set-get_or shifts index 0 in
    let here : get_or rows index default ≡ get_or rows index (get_or rows index default) = get_or_default rows index default (get_or rows index default) inside in
    let is' : next ≡ shift_behind (take (index + 1) (set shifts index (get_or shifts index 0))) (get_or rows index default) (get_or levels index 0) (get_or shifts index 0) =
    is ∙ ap (λ (xs : List ℕ). shift_behind (take (index + 1) xs) (get_or rows index default) (get_or levels index 0) (get_or shifts index 0)) (sym same) in
    let step = shifts_step shifts index (get_or shifts index 0) next rows levels (get_or rows index default) inside (omega arith) here is' in
    ap (λ (xs : List ℕ). shifts_from (take (index + 1) xs) next (drop (index + 1) rows) (drop (index + 1) levels)) (sym same) ∙ step

-- so many rows from the end
from_end : (rows : List Row) (levels shifts : List ℕ) (default : Row) → AllStand rows → AreInRow rows levels shifts → (left index : ℕ) → index + suc left ≡ length rows
    → shifts_from (take index shifts) (get_or shifts index 0) (drop index rows) (drop index levels) ≡ shifts
from_end rows levels shifts default stand order zero index last =
    let next : ℕ = shift_behind (take (index + 1) shifts) (get_or rows index default) (get_or levels index 0) (get_or shifts index 0) in
    let long = order.count in
    sym (one_more rows levels shifts default index next (omega arith) long refl) ∙ shifts_end shifts (index + 1) next rows levels (omega arith) long
from_end rows levels shifts default stand order (suc left) index last =
    let long = order.count in
    let here = behind-take shifts (index + 1) (get_or rows index default) (get_or levels index 0) (get_or shifts index 0) (stand index default (omega arith)).org in
    let next : get_or shifts (index + 1) 0 ≡ shift_behind (take (index + 1) shifts) (get_or rows index default) (get_or levels index 0) (get_or shifts index 0) = order.next index default (omega arith) ∙ sym here in
    sym (one_more rows levels shifts default index (get_or shifts (index + 1) 0) (omega arith) long next) ∙ from_end rows levels shifts default stand order left (index + 1) (omega arith)

-- what stands in row is the shifts
pub only_shifts : (rows : List Row) (levels shifts : List ℕ) → AllStand rows → AreInRow rows levels shifts → shifts ≡ shifts_of rows levels
only_shifts [] levels shifts stand order =
    let none : shifts ≡ [] = nil_from_length shifts order.count in
    none ∙ (sym (shifts_nil [] 0 levels) ∙ shifts_start [] levels)
only_shifts (row ∷ rows) levels shifts stand order =
    let all = from_end (row ∷ rows) levels shifts row stand order (length rows) 0 (omega arith) in
    let first = order.first in
    sym all ∙ (ap (λ m. shifts_from [] m (row ∷ rows) levels) first ∙ shifts_start (row ∷ rows) levels)

length-from : (done : List ℕ) (shift : ℕ) (rows : List Row) (levels : List ℕ) → length (shifts_from done shift rows levels) ≡ length done + length rows
length-from done shift [] levels = ap (λ (xs : List ℕ). length xs) (shifts_nil done shift levels) ∙ omega arith
length-from done shift (row ∷ rows) levels =
    let step = ap (λ (xs : List ℕ). length xs) (shifts_cons done shift row rows levels) in
    let rest = length-from (done ++ shift ∷ []) (shift_behind (done ++ shift ∷ []) row (get_or levels 0 0) shift) rows (drop 1 levels) in
    let more = length_push done shift in omega arith

-- what is done stays
front_from : (done : List ℕ) (shift : ℕ) (rows : List Row) (levels : List ℕ) (index : ℕ) → index < length done → get_or (shifts_from done shift rows levels) index 0 ≡ get_or done index 0
front_from done shift [] levels index inside = ap (λ (xs : List ℕ). get_or xs index 0) (shifts_nil done shift levels)
front_from done shift (row ∷ rows) levels index inside =
    let more = length_push done shift in
    ap (λ (xs : List ℕ). get_or xs index 0) (shifts_cons done shift row rows levels)
    ∙ (front_from (done ++ shift ∷ []) (shift_behind (done ++ shift ∷ []) row (get_or levels 0 0) shift) rows (drop 1 levels) index (omega arith)
    ∙ get_or_append_left done (shift ∷ []) 0 index inside)

-- the first of the rows that are left is moved so far
head_from : (done : List ℕ) (shift : ℕ) (row : Row) (rows : List Row) (levels : List ℕ) → get_or (shifts_from done shift (row ∷ rows) levels) (length done) 0 ≡ shift
head_from done shift row rows levels =
    let more = length_push done shift in
    ap (λ (xs : List ℕ). get_or xs (length done) 0) (shifts_cons done shift row rows levels)
    ∙ (front_from (done ++ shift ∷ []) (shift_behind (done ++ shift ∷ []) row (get_or levels 0 0) shift) rows (drop 1 levels) (length done) (omega arith)
    ∙ get_or_push done shift 0 (length done) refl)

take_from : (done : List ℕ) (shift : ℕ) (rows : List Row) (levels : List ℕ) → take (length done) (shifts_from done shift rows levels) ≡ done
take_from done shift rows levels =
    let long = length-from done shift rows levels in
    let same = length-take-le (length done) (shifts_from done shift rows levels) (omega arith) in
    ext_get_or 0 (take (length done) (shifts_from done shift rows levels)) done same (λ index h. (
    let inside : index < length done = omega arith in
    get_or-take (length done) (shifts_from done shift rows levels) index 0 inside ∙ front_from done shift rows levels index inside
    ))

-- each next row stands behind the one before
steps_from : (done : List ℕ) (shift : ℕ) (rows : List Row) (levels : List ℕ) (default : Row) (count index : ℕ) → count ≡ length done → index + 1 < length rows
    → get_or (shifts_from done shift rows levels) (count + index + 1) 0
    ≡ shift_behind (take (count + index + 1) (shifts_from done shift rows levels)) (get_or rows index default) (get_or levels index 0) (get_or (shifts_from done shift rows levels) (count + index) 0)
steps_from done shift [] levels default count index long inside = absurd (omega arith)
steps_from done shift (row ∷ []) levels default count index long inside = absurd (omega arith)
steps_from done shift (row ∷ other ∷ rows) levels default count zero long inside =
    let more : List ℕ = done ++ shift ∷ [] in
    let next : ℕ = shift_behind more row (get_or levels 0 0) shift in
    let whole : shifts_from done shift (row ∷ other ∷ rows) levels ≡ shifts_from more next (other ∷ rows) (drop 1 levels) = shifts_cons done shift row (other ∷ rows) levels in
    let pushed : length more ≡ length done + 1 = length_push done shift in
    let one : count + 0 + 1 ≡ length more = omega arith in
    let none : count + 0 ≡ length done = omega arith in
    let head : get_or (shifts_from more next (other ∷ rows) (drop 1 levels)) (length more) 0 ≡ next = head_from more next other rows (drop 1 levels) in
    let front : take (length more) (shifts_from more next (other ∷ rows) (drop 1 levels)) ≡ more = take_from more next (other ∷ rows) (drop 1 levels) in
    let here : get_or (shifts_from done shift (row ∷ other ∷ rows) levels) (length done) 0 ≡ shift = head_from done shift row (other ∷ rows) levels in
    rw (one, none, here, whole, head, front) refl
steps_from done shift (row ∷ other ∷ rows) levels default count (suc index) long inside =
    let more : List ℕ = done ++ shift ∷ [] in
    let next : ℕ = shift_behind more row (get_or levels 0 0) shift in
    let whole : shifts_from done shift (row ∷ other ∷ rows) levels ≡ shifts_from more next (other ∷ rows) (drop 1 levels) = shifts_cons done shift row (other ∷ rows) levels in
    let pushed : length more ≡ length done + 1 = length_push done shift in
    let rest = steps_from more next (other ∷ rows) (drop 1 levels) default (count + 1) index (omega arith) (omega arith) in
    let one : count + 1 + index + 1 ≡ count + suc index + 1 = omega arith in
    let none : count + 1 + index ≡ count + suc index = omega arith in
    let first : 1 + index ≡ suc index = omega arith in
    let level : get_or (drop 1 levels) index 0 ≡ get_or levels (suc index) 0 = get_or-drop 1 levels index 0 ∙ ap (λ m. get_or levels m 0) first in
    let rest' = rw (one, none, level, ← whole) at rest in rest'

-- the shifts stand in row
pub shifts_in_row : (rows : List Row) (levels : List ℕ) → AllStand rows → AreInRow rows levels (shifts_of rows levels)
shifts_in_row rows levels stand =
    let start = shifts_start rows levels in
    record {
      count = ap (λ (xs : List ℕ). length xs) (sym start) ∙ (let long = length-from [] 0 rows levels in omega arith);
      first = ap (λ (xs : List ℕ). get_or xs 0 0) (sym start) ∙ first_from rows levels;
      next = λ index default inside. (
          let step = steps_from [] 0 rows levels default 0 index refl inside in
          let one : 0 + index + 1 ≡ index + 1 = omega arith in
          let none : 0 + index ≡ index = omega arith in
          let step' = rw (one, none, start) at step in
          step' ∙ behind-take (shifts_of rows levels) (index + 1) (get_or rows index default) (get_or levels index 0) (get_or (shifts_of rows levels) index 0) (stand index default (omega arith)).org
          );
    }
  where
    first_from : (rows : List Row) (levels : List ℕ) → get_or (shifts_from [] 0 rows levels) 0 0 ≡ 0
    first_from [] levels = ap (λ (xs : List ℕ). get_or xs 0 0) (shifts_nil [] 0 levels)
    first_from (row ∷ rows) levels = head_from [] 0 row rows levels
