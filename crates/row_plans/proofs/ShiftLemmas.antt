-- Shifts, one row after the other, and their bound.
use Rattle.std.proofs.Common.{◌≡◌, ℕ, ◌+◌, ◌-◌, ◌%◌, ◌^◌, ◌<◌, ◌≤◌, zero, suc, Bool, true, false, List, [], ◌∷◌, ◌++◌, inl, inr, length, get_or, take, drop, set, refl, ap, sym, ◌∙◌, subst, arith}
use Rattle.std.specs.List.{All}
use Rattle.std.proofs.lemmas.Bool.{cases_lt, le-leb, lt-leb}
use Rattle.std.proofs.lemmas.Nat.{pow_pos}
use Rattle.std.proofs.lemmas.List.{drop_more, drop_all, get_or-drop, drop-drop, take_more_set, take_all, get_or-take, get_or_past}
use Rattle.std.proofs.lemmas.List.Sums.{sum_by_more, sum_by-take-le}
use Rattle.std.proofs.lemmas.List.Elements.{All-push, All-weaker}
use Rattle.asm_levels.specs.declared.rows.RowSize.{RowSize}
use Rattle.asm_levels.specs.declared.rows.RowSize.TheVariants.{Fixed, Align, Org, Jump, Leb128, Advance, End}
use Rattle.asm_levels.specs.declared.rows.Row.{Row}
use Rattle.asm_levels.specs.Sizes.{unless_above, size_at, most_bytes, most_in}
use Rattle.item_bytes.specs.Levels.{near_size, jump_size, advance_size}
use Rattle.asm_levels.specs.Shifts.{moved_past, shift_behind, shifts_from, shifts_of}

-- no shift is above the bound
abbrev pub AllWithin : ℕ → List ℕ → Type 0
AllWithin bound shifts = All (λ shift. shift ≤ bound) shifts

within_at : (bound : ℕ) (shifts : List ℕ) (index : ℕ) → AllWithin bound shifts → get_or shifts index 0 ≤ bound
within_at bound shifts index within = elim (cases_lt index (length shifts)) [
  | inl lt ↦ within index 0 lt
  | inr ge ↦ (let past : get_or shifts index 0 ≡ 0 = get_or_past shifts index 0 ge in omega arith)
]

unless-le : (most bytes : ℕ) → unless_above most bytes ≤ bytes
unless-le most bytes = elim (cases_lt most bytes) [
  | inl lt ↦ rw (lt-leb bytes most lt) (omega arith)
  | inr ge ↦ rw (le-leb bytes most ge) (omega arith)
]

near-le : (conditional : Bool) → near_size conditional ≤ 6
near-le true = omega arith
near-le false = omega arith

jump-le : (conditional : Bool) (level : ℕ) → jump_size conditional level ≤ 6
jump-le conditional zero = omega arith
jump-le conditional (suc level) = near-le conditional

advance-le : (level : ℕ) → advance_size level ≤ 5
advance-le zero = omega arith
advance-le (suc zero) = omega arith
advance-le (suc (suc zero)) = omega arith
advance-le (suc (suc (suc zero))) = omega arith
advance-le (suc (suc (suc (suc zero)))) = omega arith
advance-le (suc (suc (suc (suc (suc level))))) = omega arith

-- where the rows up to this one are moved within a bound, the one behind it is moved by at most its most bytes more
moved-le : (done : List ℕ) (bound : ℕ) (size : RowSize) (level address shift : ℕ) → shift ≤ bound → shift ≤ address → level ≤ 9 → AllWithin bound done
    → moved_past size shift (size_at done size level address) ≤ bound + most_bytes size
unfolding size_at most_bytes
moved-le done bound (Fixed bytes) level address shift low below nine within = omega arith
moved-le done bound (Align log most) level address shift low below nine within =
    let some = pow_pos log in let least = unless-le most ((2 ^ log - address % 2 ^ log) % 2 ^ log) in omega arith
moved-le done bound (Org from ahead behind) level address shift low below nine within = let start = within_at bound done from within in omega arith
moved-le done bound (Jump conditional distance) level address shift low below nine within = let most = jump-le conditional level in omega arith
moved-le done bound (Leb128 signed distance) level address shift low below nine within = omega arith
moved-le done bound (Advance distance) level address shift low below nine within = let most = advance-le level in omega arith
moved-le done bound End level address shift low below nine within = omega arith

pub shift_behind-le : (done : List ℕ) (bound : ℕ) (row : Row) (level shift : ℕ) → shift ≤ bound → level ≤ 9 → AllWithin bound done
    → shift_behind done row level shift ≤ bound + most_bytes row.size
unfolding shift_behind
shift_behind-le done bound row level shift low nine within = moved-le done bound row.size level (row.offset + shift) shift low (omega arith) nine within

pub shifts_cons : (done : List ℕ) (shift : ℕ) (row : Row) (rows : List Row) (levels : List ℕ)
    → shifts_from done shift (row ∷ rows) levels ≡ shifts_from (done ++ shift ∷ []) (shift_behind (done ++ shift ∷ []) row (get_or levels 0 0) shift) rows (drop 1 levels)
unfolding shifts_from
shifts_cons done shift row rows levels = refl

pub shifts_nil : (done : List ℕ) (shift : ℕ) (levels : List ℕ) → shifts_from done shift [] levels ≡ done
unfolding shifts_from
shifts_nil done shift levels = refl

pub shifts_start : (rows : List Row) (levels : List ℕ) → shifts_from [] 0 rows levels ≡ shifts_of rows levels
unfolding shifts_of
shifts_start rows levels = refl

-- one row more is done
pub shifts_step : (shifts : List ℕ) (index shift next : ℕ) (rows : List Row) (levels : List ℕ) (row : Row) → index < length rows → index < length shifts → row ≡ get_or rows index row
    → next ≡ shift_behind (take (index + 1) (set shifts index shift)) row (get_or levels index 0) shift
    → shifts_from (take (index + 1) (set shifts index shift)) next (drop (index + 1) rows) (drop (index + 1) levels)
    ≡ shifts_from (take index shifts) shift (drop index rows) (drop index levels)
shifts_step shifts index shift next rows levels row inside room here is =
    let done : take (index + 1) (set shifts index shift) ≡ take index shifts ++ shift ∷ [] = take_more_set shifts index shift room in
    let rest : drop index rows ≡ get_or rows index row ∷ drop (index + 1) rows = drop_more rows index row inside in
    let rest' : drop index rows ≡ row ∷ drop (index + 1) rows = cc in
    let more : drop 1 (drop index levels) ≡ drop (index + 1) levels = drop-drop 1 index levels in
    let zero_is : index + 0 ≡ index = omega arith in
    let level : get_or (drop index levels) 0 0 ≡ get_or levels index 0 = get_or-drop index levels 0 0 ∙ ap (λ m. get_or levels m 0) zero_is in
    let step = shifts_cons (take index shifts) shift row (drop (index + 1) rows) (drop index levels) in
    let there : shifts_from (take index shifts) shift (drop index rows) (drop index levels) ≡ shifts_from (take index shifts) shift (row ∷ drop (index + 1) rows) (drop index levels) =
    ap (λ (ys : List Row). shifts_from (take index shifts) shift ys (drop index levels)) rest' in
    cc

pub shifts_end : (shifts : List ℕ) (index shift : ℕ) (rows : List Row) (levels : List ℕ) → length rows ≤ index → length shifts ≡ length rows
    → shifts_from (take index shifts) shift (drop index rows) (drop index levels) ≡ shifts
shifts_end shifts index shift rows levels past long =
    let none : drop index rows ≡ [] = drop_all index rows past in
    let all : take index shifts ≡ shifts = take_all index shifts (omega arith) in
    let end = shifts_nil (take index shifts) shift (drop index levels) in
    cc

pub within_more : (bound wider shift index : ℕ) (shifts : List ℕ) → index < length shifts → bound ≤ wider → shift ≤ wider → AllWithin bound (take index shifts) → AllWithin wider (take (index + 1) (set shifts index shift))
within_more bound wider shift index shifts room le low within =
    let done : take (index + 1) (set shifts index shift) ≡ take index shifts ++ shift ∷ [] = take_more_set shifts index shift room in
    let weaker : AllWithin wider (take index shifts) = All-weaker (λ x. x ≤ bound) (λ x. x ≤ wider) (λ x (h : x ≤ bound). omega arith) (take index shifts) within in
    subst (λ (xs : List ℕ). AllWithin wider xs) (sym done) (All-push (λ x. x ≤ wider) (take index shifts) shift weaker low)

-- the bytes of the rows so far bound the next shift
pub bound_more : (rows : List Row) (index : ℕ) (row : Row) → index < length rows → row ≡ get_or rows index row → most_in (take (index + 1) rows) ≡ most_in (take index rows) + most_bytes row.size
bound_more rows index row inside here =
    let more : most_in (take (index + 1) rows) ≡ most_in (take index rows) + most_bytes (get_or rows index row).size = sum_by_more (λ r. most_bytes r.size) rows index row inside in
    let same : most_bytes (get_or rows index row).size ≡ most_bytes row.size = ap (λ (r : Row). most_bytes r.size) (sym here) in
    omega arith

pub next_within : (shifts : List ℕ) (index shift next : ℕ) (rows : List Row) (levels : List ℕ) (row : Row) → index < length rows → index < length shifts → row ≡ get_or rows index row
    → next ≡ shift_behind (take (index + 1) (set shifts index shift)) row (get_or levels index 0) shift → get_or levels index 0 ≤ 9
    → shift ≤ most_in (take index rows) → AllWithin (most_in (take index rows)) (take index shifts)
    → next ≤ most_in (take (index + 1) rows)
next_within shifts index shift next rows levels row inside room here is nine low within =
    let more = bound_more rows index row inside here in
    let done = within_more (most_in (take index rows)) (most_in (take index rows)) shift index shifts room (omega arith) low within in
    let le = shift_behind-le (take (index + 1) (set shifts index shift)) (most_in (take index rows)) row (get_or levels index 0) shift low nine done in
    omega arith

pub done_within : (shifts : List ℕ) (index shift : ℕ) (rows : List Row) (row : Row) → index < length rows → index < length shifts → row ≡ get_or rows index row
    → shift ≤ most_in (take index rows) → AllWithin (most_in (take index rows)) (take index shifts)
    → AllWithin (most_in (take (index + 1) rows)) (take (index + 1) (set shifts index shift))
done_within shifts index shift rows row inside room here low within =
    let more = bound_more rows index row inside here in
    within_more (most_in (take index rows)) (most_in (take (index + 1) rows)) shift index shifts room (omega arith) (omega arith) within

pub done_at : (bound shift index : ℕ) (rows : List Row) (shifts : List ℕ) → index < length shifts → shift ≤ most_in (take index rows) → most_in rows < bound
    → AllWithin (most_in (take index rows)) (take index shifts) → (at : ℕ) → at ≤ index → get_or (set shifts index shift) at 0 < bound
done_at bound shift index rows shifts room low few within at before =
    let part : most_in (take index rows) ≤ most_in rows = sum_by-take-le (λ r. most_bytes r.size) rows index in
    let done = within_more (most_in (take index rows)) (most_in (take index rows)) shift index shifts room (omega arith) low within in
    let le = within_at (most_in (take index rows)) (take (index + 1) (set shifts index shift)) at done in
    let same : get_or (take (index + 1) (set shifts index shift)) at 0 ≡ get_or (set shifts index shift) at 0 = get_or-take (index + 1) (set shifts index shift) at 0 (omega arith) in
    omega arith
