-- Rows that have the entries of the row before them.
use Rattle.std.proofs.Common.{◌≡◌, ◌⊎◌, ℕ, ◌+◌, ◌<◌, ◌≤◌, Bool, true, false, inl, inr, zero, suc, List, set, length, replicate, get_or, refl, ap, sym, ◌∙◌, subst, arith}
use Rattle.std.proofs.lemmas.Bool.{cases_eq}
use Rattle.std.proofs.lemmas.List.{get_or-set_same, get_or-set_other, length-set}
use Rattle.asm_levels.specs.declared.rows.Row.{Row}
use Rattle.asm_levels.specs.Needs.{has_levels}
use Rattle.asm_levels.specs.Watching.{IsEntry, HasOwnEntry, IsFollowed, HasEntryAbove, AreFollowers, IsRun, IsCovered, first_leaf}

pub followed_self : (follows : List Bool) (row : ℕ) → IsFollowed follows row row
followed_self follows row = (omega arith, λ other low high. absurd (omega arith))

followed_next : (follows : List Bool) (first row next : ℕ) → row + 1 ≡ next → next < length follows → IsFollowed follows first row → IsFollowed (set follows next true) first next
followed_next follows first row next behind inside followed = (
  (let low = followed.0 in omega arith),
  λ other low high. elim (cases_eq other next) [
    | inl same ↦ ap (λ i. get_or (set follows next true) i false) same ∙ get_or-set_same follows next true false inside
    | inr apart ↦ get_or-set_other follows next other true false apart ∙ followed.1 other low (omega arith)
  ],
)

-- at most this row is said to have the entries of the row before it
abbrev pub IsMarked : List Bool → List Bool → ℕ → Type 0
IsMarked follows later at = (later ≡ follows) ⊎ (later ≡ set follows at true)

pub length-marked : (follows later : List Bool) (at : ℕ) → IsMarked follows later at → length later ≡ length follows
length-marked follows later at marked = elim marked [
  | inl same ↦ ap (λ (xs : List Bool). length xs) same
  | inr more ↦ ap (λ (xs : List Bool). length xs) more ∙ length-set follows at true
]

followed_kept : (follows later : List Bool) (at first row : ℕ) → IsMarked follows later at → row < at → IsFollowed follows first row → IsFollowed later first row
followed_kept follows later at first row marked before followed = elim marked [
  | inl same ↦ subst (λ (xs : List Bool). IsFollowed xs first row) (sym same) followed
  | inr more ↦ subst (λ (xs : List Bool). IsFollowed xs first row) (sym more)
      (followed.0, λ other low high. get_or-set_other follows at other true false (omega arith) ∙ followed.1 other low high)
]

-- entries that keep all others keep what is above a block
above_kept : (rows nodes more other : List ℕ) (follows later : List Bool) (at index leaf : ℕ) → IsMarked follows later at → index < at → ((row node : ℕ) → IsEntry rows nodes row node → IsEntry more other row node)
    → HasEntryAbove rows nodes follows index leaf → HasEntryAbove more other later index leaf
above_kept rows nodes more other follows later at index leaf marked before keep entry =
    let own = entry.2 in
    (entry.0, followed_kept follows later at entry.0 index marked before entry.1, (own.0, own.1, own.2, keep entry.0 own.0 own.3))

-- and what is covered
pub covered_kept : (all : List Row) (ends rows nodes more other : List ℕ) (follows later : List Bool) (wide : List ℕ) (at index : ℕ) → IsMarked follows later at → index < at
    → ((row node : ℕ) → IsEntry rows nodes row node → IsEntry more other row node) → IsCovered all ends rows nodes follows wide index → IsCovered all ends more other later wide index
covered_kept all ends rows nodes more other follows later wide at index marked before keep covered = elim covered [
  | inl one ↦ inl one
  | inr rest ↦ elim rest [
    | inl watched ↦ inr (inl (record {
      first = watched.first;
      last = watched.last;
      span = watched.span;
      section = watched.section;
      entries = λ block low high. above_kept rows nodes more other follows later at index (block + first_leaf (length all)) marked before keep (watched.entries block low high);
    }))
    | inr among ↦ inr (inr among)
  ]
]

-- a row with the entries of the row before it, and one with its own
pub run_next : (many : ℕ) (rows nodes : List ℕ) (follows : List Bool) (first last index : ℕ) → index < length follows → IsRun many rows nodes follows first last index
    → IsRun many rows nodes (set follows index true) first last (index + 1)
run_next many rows nodes follows first last index inside run block low high =
    let before = run block low high in
    let entry = before.2 in
    (index, refl, (entry.0, followed_next follows entry.0 before.0 index before.1 inside entry.1, entry.2))

pub run_own : (many : ℕ) (rows nodes : List ℕ) (follows : List Bool) (first last index : ℕ) → ((block : ℕ) → first ≤ block → block ≤ last → HasOwnEntry rows nodes index (block + first_leaf many))
    → IsRun many rows nodes follows first last (index + 1)
run_own many rows nodes follows first last index own block low high = (index, refl, (index, followed_self follows index, own block low high))

-- what the row before the next one has, this row has
pub run_entries : (many : ℕ) (rows nodes : List ℕ) (follows : List Bool) (first last index : ℕ) → IsRun many rows nodes follows first last (index + 1)
    → (block : ℕ) → first ≤ block → block ≤ last → HasEntryAbove rows nodes follows index (block + first_leaf many)
run_entries many rows nodes follows first last index run block low high =
    let entry = run block low high in
    subst (λ (row : ℕ). HasEntryAbove rows nodes follows row (block + first_leaf many)) (let is = entry.1 in omega arith) entry.2

pub apart_tests : (b : Bool) → b ≡ true → b ≡ false → ⊥
apart_tests b one other = cc

-- no row does at first
unmarked : (count row : ℕ) → get_or (replicate count false) row false ≡ false
unmarked zero row = refl
unmarked (suc count) zero = refl
unmarked (suc count) (suc row) = unmarked count row

pub no_followers : (all : List Row) (follows : List Bool) (count : ℕ) → follows ≡ replicate count false → AreFollowers all follows
no_followers all follows count none row default is = absurd (apart_tests (get_or follows row false) is (ap (λ (xs : List Bool). get_or xs row false) none ∙ unmarked count row))

pub followers_more : (all : List Row) (follows later : List Bool) (at : ℕ) → IsMarked follows later at → AreFollowers all follows → ((default : Row) → has_levels (get_or all at default).size ≡ true) → AreFollowers all later
followers_more all follows later at marked before own = elim marked [
  | inl same ↦ subst (λ (xs : List Bool). AreFollowers all xs) (sym same) before
  | inr more ↦ subst (λ (xs : List Bool). AreFollowers all xs) (sym more) (λ row default is. elim (cases_eq row at) [
    | inl here ↦ ap (λ i. has_levels (get_or all i default).size) here ∙ own default
    | inr other ↦ before row default (sym (get_or-set_other follows at row true false other) ∙ is)
  ])
]
