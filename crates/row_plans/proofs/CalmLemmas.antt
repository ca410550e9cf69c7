-- A distance stays where no row that it spans gets another size.
use Rattle.std.proofs.Common.{◌≡◌, ◌⊎◌, ℕ, ◌+◌, ◌-◌, ◌%◌, ◌^◌, ◌<◌, ◌≤◌, zero, suc, Option, None, Some, IfSome, Bool, false, List, [], ◌∷◌, length, get_or, take, refl, sym, ap, ◌∙◌, subst, arith, inl, inr}
use Rattle.std.specs.List.{All}
use Rattle.std.proofs.lemmas.Bool.{cases_lt, lt-ltb}
use Rattle.std.proofs.lemmas.List.{get_or_past, get_or-map, get_or-take, length-take}
use Rattle.asm_levels.specs.declared.distances.Distance.{Distance}
use Rattle.asm_levels.specs.declared.distances.Distance.TheVariants.{Between, Sum}
use Rattle.asm_levels.specs.declared.rows.RowSize.{RowSize}
use Rattle.asm_levels.specs.declared.rows.RowSize.TheVariants.{Fixed, Align, Org, Jump, Leb128, Advance, End}
use Rattle.asm_levels.specs.declared.rows.Row.{Row}
use Rattle.asm_levels.specs.Distances.{distance_value}
use Rattle.asm_levels.specs.Needs.{needed, top, tops, has_levels, levels_needed}
use Rattle.item_bytes.specs.Levels.{jump_level, leb128_level, advance_level}
use Rattle.asm_levels.specs.RowLists.{AreEnds, IsAmong}
use Rattle.row_plans.specs.Resizing.{AreMoved, AreTouched, AreResized}
use Rattle.asm_levels.specs.Watching.{IsSpan, RowSpans, block_of, leaf_of, HasEntryAbove, IsWatched, IsCovered, IsTouched, AreHighest}
use Rattle.row_plans.specs.Looking.{AreCalm}
use Rattle.row_plans.proofs.PartLemmas.{apart_tests}
use Rattle.row_plans.proofs.ResizingLemmas.{past_inner}
use Rattle.row_plans.proofs.SizedLemmas.{no_row}

-- two shifts that are as far apart as before
IsKeptApart : List ℕ → List ℕ → ℕ → ℕ → Type 0
IsKeptApart shifts later first last = get_or later last 0 + get_or shifts first 0 ≡ get_or shifts last 0 + get_or later first 0

distance_kept : (shifts later : List ℕ) (distance : Distance) (first last : ℕ) → IsSpan distance first last → (get_or later last 0 + get_or shifts first 0 ≡ get_or shifts last 0 + get_or later first 0)
    → ((at : ℕ) → get_or shifts at 0 < 2 ^ 62) → ((at : ℕ) → get_or later at 0 < 2 ^ 62) → distance_value later distance ≡ distance_value shifts distance
unfolding distance_value
distance_kept shifts later (Between number ahead behind) first last span apart small small_later =
    let one = small ahead in let two = small behind in let three = small_later ahead in let four = small_later behind in
    elim (cases_lt ahead behind) [
      | inl less ↦ (
          let low : first ≡ ahead = span.0 ∙ (omega arith) in
          let high : last ≡ behind = span.1 ∙ (omega arith) in
          let same : get_or later behind 0 + get_or shifts ahead 0 ≡ get_or shifts behind 0 + get_or later ahead 0 =
          subst (λ (i : ℕ). get_or later behind 0 + get_or shifts i 0 ≡ get_or shifts behind 0 + get_or later i 0) low (subst (λ (i : ℕ). get_or later i 0 + get_or shifts first 0 ≡ get_or shifts i 0 + get_or later first 0) high apart) in
          omega arith)
      | inr more ↦ (
          let low : first ≡ behind = span.0 ∙ (omega arith) in
          let high : last ≡ ahead = span.1 ∙ (omega arith) in
          let same : get_or later ahead 0 + get_or shifts behind 0 ≡ get_or shifts ahead 0 + get_or later behind 0 =
          subst (λ (i : ℕ). get_or later ahead 0 + get_or shifts i 0 ≡ get_or shifts ahead 0 + get_or later i 0) low (subst (λ (i : ℕ). get_or later i 0 + get_or shifts first 0 ≡ get_or shifts i 0 + get_or later first 0) high apart) in
          omega arith)
    ]
distance_kept shifts later (Sum number terms) first last span apart small small_later = absurd span

needed_kept : (shifts later : List ℕ) (size : RowSize) (first last : ℕ) → RowSpans size first last → (get_or later last 0 + get_or shifts first 0 ≡ get_or shifts last 0 + get_or later first 0)
    → ((at : ℕ) → get_or shifts at 0 < 2 ^ 62) → ((at : ℕ) → get_or later at 0 < 2 ^ 62) → needed later size ≡ needed shifts size
unfolding needed
needed_kept shifts later (Fixed bytes) first last span apart small small_later = refl
needed_kept shifts later (Align log most) first last span apart small small_later = refl
needed_kept shifts later (Org from ahead behind) first last span apart small small_later = refl
needed_kept shifts later (Jump conditional distance) first last span apart small small_later = ap (λ d. jump_level d) (distance_kept shifts later distance first last span apart small small_later)
needed_kept shifts later (Leb128 signed distance) first last span apart small small_later = ap (λ d. leb128_level signed d) (distance_kept shifts later distance first last span apart small small_later)
needed_kept shifts later (Advance distance) first last span apart small small_later = ap (λ d. advance_level d) (distance_kept shifts later distance first last span apart small small_later)
needed_kept shifts later End first last span apart small small_later = refl

-- no row needs a level above its top
abbrev pub StaysWithin : Type 0
StaysWithin = (shifts : List ℕ) (rows : List Row) (index : ℕ) → get_or (levels_needed shifts rows) index 0 ≤ get_or (tops rows) index 0

needs_none : StaysWithin → (all : List ℕ) (size : RowSize) → has_levels size ≡ false → needed all size ≡ 0
needs_none stays all size none = elim (cases_lt 0 (top size)) [
  | inl more ↦ absurd (apart_tests (has_levels size) (lt-ltb 0 (top size) more) none)
  | inr past ↦ (let low : needed all size ≤ top size = stays all (record { offset = 0; size = size } ∷ []) 0 in omega arith)
]

distance_order : (distance : Distance) (first last : ℕ) → IsSpan distance first last → first ≤ last
distance_order (Between number ahead behind) first last span = let low = span.0 in let high = span.1 in omega arith
distance_order (Sum number terms) first last span = absurd span

span_order : (size : RowSize) (first last : ℕ) → RowSpans size first last → first ≤ last
span_order (Fixed bytes) first last span = absurd span
span_order (Align log most) first last span = absurd span
span_order (Org from ahead behind) first last span = absurd span
span_order (Jump conditional distance) first last span = distance_order distance first last span
span_order (Leb128 signed distance) first last span = distance_order distance first last span
span_order (Advance distance) first last span = distance_order distance first last span
span_order End first last span = absurd span

exact_apart : (a b c d : ℕ) → a < 2 ^ 62 → b < 2 ^ 62 → c < 2 ^ 62 → d < 2 ^ 62 → (a + b) % 2 ^ 64 ≡ (c + d) % 2 ^ 64 → a + b ≡ c + d
exact_apart a b c d one two three four same = omega arith

sum_same : (shift one other : ℕ) → one % 2 ^ 64 ≡ other % 2 ^ 64 → (shift + one) % 2 ^ 64 ≡ (shift + other) % 2 ^ 64
sum_same shift one other same = omega arith

step_apart : (one other bytes next later a b : ℕ) → next ≡ (one + bytes) % 2 ^ 64 → later ≡ (other + bytes) % 2 ^ 64 → (other + a) % 2 ^ 64 ≡ (one + b) % 2 ^ 64 → (later + a) % 2 ^ 64 ≡ (next + b) % 2 ^ 64
step_apart one other bytes next later a b is was same = omega arith

module _ (rows : List Row) (ends sizes after shifts later : List ℕ) (many : ℕ) (touched : List ℕ) (moved : AreMoved rows sizes shifts) (now : AreMoved rows after later)
    (all_ends : AreEnds rows ends) (listed : AreTouched sizes after many touched) (small : All (λ shift. shift < 2 ^ 62) shifts) (small_later : All (λ shift. shift < 2 ^ 62) later) where
  small_at : (at : ℕ) → get_or shifts at 0 < 2 ^ 62
  small_at at = elim (cases_lt at (length shifts)) [
    | inl less ↦ small at 0 less
    | inr past ↦ (let none : get_or shifts at 0 ≡ 0 = get_or_past shifts at 0 past in omega arith)
  ]

  later_at : (at : ℕ) → get_or later at 0 < 2 ^ 62
  later_at at = elim (cases_lt at (length later)) [
    | inl less ↦ small_later at 0 less
    | inr past ↦ (let none : get_or later at 0 ≡ 0 = get_or_past later at 0 past in omega arith)
  ]

  -- from a row on, so many rows of its section keep their sizes, or one of them is listed
  apart_or_touched : (default : Row) (first count : ℕ) → first < length rows → first + count < get_or ends first 0
      → ((get_or later (first + count) 0 + get_or shifts first 0) % 2 ^ 64 ≡ (get_or shifts (first + count) 0 + get_or later first 0) % 2 ^ 64)
      ⊎ ((row : ℕ) × (first ≤ row) × (row < first + count) × IsAmong row many touched)
  apart_or_touched default first zero inside within =
      let none : first + 0 ≡ first = omega arith in
      inl (ap (λ i. (get_or later i 0 + get_or shifts first 0) % 2 ^ 64) none ∙ ((omega arith) ∙ ap (λ i. (get_or shifts i 0 + get_or later first 0) % 2 ^ 64) (sym none)))
  apart_or_touched default first (suc count) inside within = elim (apart_or_touched default first count inside (omega arith)) [
    | inl apart ↦ elim (listed (first + count)) [
      | inl among ↦ inr (first + count, omega arith, omega arith, among)
      | inr same ↦ inl (
          let before = all_ends.each first inside in
          let end = before.within in
          let inner = before.inner (first + count) default (omega arith) (omega arith) in
          let one : first + suc count ≡ first + count + 1 = omega arith in
          let next : get_or shifts (first + count + 1) 0 ≡ (get_or shifts (first + count) 0 + get_or sizes (first + count) 0) % 2 ^ 64 =
          moved.next (first + count) default (omega arith) ∙ ap (λ m. m % 2 ^ 64) (past_inner (get_or rows (first + count) default).size (get_or shifts (first + count) 0) (get_or sizes (first + count) 0) inner) in
          let next' : get_or later (first + count + 1) 0 ≡ (get_or later (first + count) 0 + get_or after (first + count) 0) % 2 ^ 64 =
          now.next (first + count) default (omega arith) ∙ ap (λ m. m % 2 ^ 64) (past_inner (get_or rows (first + count) default).size (get_or later (first + count) 0) (get_or after (first + count) 0) inner) in
          let next'' : get_or later (first + count + 1) 0 ≡ (get_or later (first + count) 0 + get_or sizes (first + count) 0) % 2 ^ 64 = next' ∙ sum_same (get_or later (first + count) 0) (get_or after (first + count) 0) (get_or sizes (first + count) 0) same in
          let step = step_apart (get_or shifts (first + count) 0) (get_or later (first + count) 0) (get_or sizes (first + count) 0) (get_or shifts (first + count + 1) 0) (get_or later (first + count + 1) 0) (get_or shifts first 0) (get_or later first 0) next next'' apart in
          ap (λ i. (get_or later i 0 + get_or shifts first 0) % 2 ^ 64) one ∙ (step ∙ ap (λ i. (get_or shifts i 0 + get_or later first 0) % 2 ^ 64) (sym one)))
    ]
    | inr there ↦ inr (there.0, there.1, (let less = there.2 in omega arith), there.3)
  ]

  -- a row whose distance spans no listed row needs what it did before
  watched_calm : (default : Row) (entries nodes : List ℕ) (follows : List Bool) (wide levels : List ℕ) (index : ℕ) → IsWatched rows ends entries nodes follows index → index < length rows
      → get_or (levels_needed shifts rows) index 0 ≡ needed shifts (get_or rows index default).size → get_or (levels_needed later rows) index 0 ≡ needed later (get_or rows index default).size
      → get_or (levels_needed shifts rows) index 0 ≤ get_or levels index 0
      → (get_or (levels_needed later rows) index 0 ≤ get_or levels index 0) ⊎ (IsTouched (length rows) entries nodes follows many touched index ⊎ IsAmong index (length wide) wide)
  watched_calm default entries nodes follows wide levels index watched within need need' before =
      let first = watched.first in
      let last = watched.last in
      let span = watched.span default in
      let section = watched.section in
      let order : first ≤ last = span_order (get_or rows index default).size first last span in
      let back : first + (last - first) ≡ last = omega arith in
      elim (apart_or_touched default first (last - first) (first_inside first last section) (let less = section in omega arith)) [
        | inl apart ↦ inl (
            let exact : get_or later last 0 + get_or shifts first 0 ≡ get_or shifts last 0 + get_or later first 0 =
            exact_apart (get_or later last 0) (get_or shifts first 0) (get_or shifts last 0) (get_or later first 0) (later_at last) (small_at first) (small_at last) (later_at first)
            (subst (λ (i : ℕ). (get_or later i 0 + get_or shifts first 0) % 2 ^ 64 ≡ (get_or shifts i 0 + get_or later first 0) % 2 ^ 64) back apart) in
            let kept = needed_kept shifts later (get_or rows index default).size first last span exact small_at later_at in
            omega arith)
        | inr there ↦ inr (inl (
            let low = there.1 in
            let high = there.2 in
            let among = there.3 in
            let entry = watched.entries (block_of there.0) (omega arith) (omega arith) in
            (among.0, among.1, subst (λ (row : ℕ). HasEntryAbove entries nodes follows index (leaf_of (length rows) row)) (sym among.2) entry)))
      ]
    where
      first_inside : (first last : ℕ) → last < get_or ends first 0 → first < length rows
      first_inside first last less = elim (cases_lt first (length ends)) [
        | inl inside ↦ (let count = all_ends.count in omega arith)
        | inr past ↦ (let none : get_or ends first 0 ≡ 0 = get_or_past ends first 0 past in absurd (omega arith))
      ]

  -- what is covered needs no more than before, or is looked at
  pub calm_after : StaysWithin → (default : Row) (entries nodes : List ℕ) (follows : List Bool) (wide levels : List ℕ) (left : ℕ) → ((index : ℕ) → index < length rows → IsCovered rows ends entries nodes follows wide index)
      → AreHighest rows levels left wide → ((index : ℕ) → index < length rows → get_or (levels_needed shifts rows) index 0 ≤ get_or levels index 0)
      → AreCalm rows later levels entries nodes follows (take left wide) many touched
  calm_after stays default entries nodes follows wide levels left covered highest holds index within =
      let need : get_or (levels_needed shifts rows) index 0 ≡ needed shifts (get_or rows index default).size = get_or-map (λ (r : Row). needed shifts r.size) rows index default 0 within in
      let need' : get_or (levels_needed later rows) index 0 ≡ needed later (get_or rows index default).size = get_or-map (λ (r : Row). needed later r.size) rows index default 0 within in
      let before = holds index within in
      elim (covered index within) [
        | inl one ↦ inl (let none = needs_none stays later (get_or rows index default).size (one default) in omega arith)
        | inr rest ↦ elim rest [
          | inl watched ↦ watched_calm default entries nodes follows (take left wide) levels index watched within need need' before
          | inr among ↦ elim (cases_lt among.0 left) [
            | inl first ↦ inr (inr (among.0, (let less = among.1 in let long = length-take left wide in omega arith), get_or-take left wide among.0 0 first ∙ among.2))
            | inr behind ↦ inl (
                let own = highest among.0 behind among.1 in
                let top : get_or (tops rows) index 0 ≤ get_or levels index 0 = subst (λ (row : ℕ). get_or (tops rows) row 0 ≤ get_or levels row 0) among.2 own in
                let low = stays later rows index in
                omega arith)
          ]
        ]
      ]

-- what the first so many of a list leave calm, where there is such a list
pub calm_if : StaysWithin → (rows : List Row) (ends shifts later touched entries nodes : List ℕ) (follows : List Bool) (wide levels : List ℕ) (left : ℕ) (result : Option ℕ) → AreEnds rows ends
    → All (λ shift. shift < 2 ^ 62) shifts → All (λ shift. shift < 2 ^ 62) later → ((index : ℕ) → index < length rows → IsCovered rows ends entries nodes follows wide index)
    → AreHighest rows levels left wide → ((index : ℕ) → index < length rows → get_or (levels_needed shifts rows) index 0 ≤ get_or levels index 0)
    → IfSome result (λ many. (sizes : List ℕ) × AreMoved rows sizes shifts × AreResized rows levels sizes later many touched)
    → IfSome result (λ many. AreCalm rows later levels entries nodes follows (take left wide) many touched)
calm_if stays rows ends shifts later touched entries nodes follows wide levels left None all_ends small small_later covered highest holds resized = resized
calm_if stays rows ends shifts later touched entries nodes follows wide levels left (Some many) all_ends small small_later covered highest holds resized =
    let now = resized.2 in
    calm_after rows ends resized.0 now.sizes shifts later many touched resized.1 now.moved all_ends now.touched small small_later stays no_row entries nodes follows wide levels left covered highest holds
