-- The numbers of a table, one by one.
use Rattle.std.proofs.Common.{◌≡◌, ℕ, ◌+◌, ◌*◌, ◌/◌, ◌%◌, ◌^◌, ◌<◌, ◌≤◌, zero, suc, List, [], ◌∷◌, length, get_or, set, replicate, refl, sym, ap, ◌∙◌, arith, inl, inr}
use Rattle.std.specs.List.{All}
use Rattle.std.proofs.lemmas.Bool.{cases_eq}
use Rattle.std.proofs.lemmas.List.{get_or-set_same, get_or-set_other, length-set, ext_get_or}
use Rattle.range_table.specs.Shown.{shown_from}

length-shown_from : (index : ℕ) (blocks entries : List ℕ) → length (shown_from index blocks entries) ≡ length entries
unfolding shown_from
length-shown_from index blocks [] = refl
length-shown_from index blocks (entry ∷ entries) = ap suc (length-shown_from (suc index) blocks entries)

-- there are as many numbers as entries
pub length_shown : (blocks entries : List ℕ) → length (shown_from 0 blocks entries) ≡ length entries
length_shown blocks entries = length-shown_from 0 blocks entries

get_or-shown_from : (index : ℕ) (blocks entries : List ℕ) (at : ℕ) → at < length entries
    → get_or (shown_from index blocks entries) at 0 ≡ (get_or entries at 0 + get_or blocks ((index + at) / 256) 0) % 2 ^ 64
unfolding shown_from
get_or-shown_from index blocks [] at below = absurd (omega arith)
get_or-shown_from index blocks (entry ∷ entries) zero below =
    let same : index ≡ index + 0 = omega arith in ap (λ there. (entry + get_or blocks (there / 256) 0) % 2 ^ 64) same
get_or-shown_from index blocks (entry ∷ entries) (suc at) below =
    let same : suc index + at ≡ index + suc at = omega arith in
    get_or-shown_from (suc index) blocks entries at (omega arith)
    ∙ ap (λ there. (get_or entries at 0 + get_or blocks (there / 256) 0) % 2 ^ 64) same

-- a number is its entry and what was added to its block
pub shown_at : (blocks entries : List ℕ) (at : ℕ) → at < length entries
    → get_or (shown_from 0 blocks entries) at 0 ≡ (get_or entries at 0 + get_or blocks (at / 256) 0) % 2 ^ 64
shown_at blocks entries at below =
    let same : 0 + at ≡ at = omega arith in
    get_or-shown_from 0 blocks entries at below ∙ ap (λ there. (get_or entries at 0 + get_or blocks (there / 256) 0) % 2 ^ 64) same

zero_at : (count at : ℕ) → ◌≡◌ {A = ℕ} (get_or (replicate count 0) at 0) 0
zero_at zero at = refl
zero_at (suc count) zero = refl
zero_at (suc count) (suc at) = zero_at count at

zeros_from : (index count blocks : ℕ) → shown_from index (replicate blocks 0) (replicate count 0) ≡ replicate count 0
unfolding shown_from
zeros_from index zero blocks = refl
zeros_from index (suc count) blocks = rw (zero_at blocks (index / 256)) (ap (λ more. 0 ∷ more) (zeros_from (suc index) count blocks))

plain_from : (index : ℕ) (blocks entries : List ℕ) → ((at : ℕ) → get_or blocks at 0 ≡ 0) → All (λ entry. entry < 2 ^ 64) entries → shown_from index blocks entries ≡ entries
unfolding shown_from
plain_from index blocks [] none small = refl
plain_from index blocks (entry ∷ entries) empty small =
    let none : get_or blocks (index / 256) 0 ≡ 0 = empty (index / 256) in
    let least : entry < 2 ^ 64 = small 0 0 (omega arith) in
    let rest = plain_from (suc index) blocks entries empty (λ at d within. small (suc at) d (omega arith)) in
    let first : (entry + get_or blocks (index / 256) 0) % 2 ^ 64 ≡ entry = omega arith in
    rw (first, rest) refl

-- entries of blocks to which nothing was added show themselves
pub shown_plain : (count : ℕ) (entries : List ℕ) → All (λ entry. entry < 2 ^ 64) entries → shown_from 0 (replicate count 0) entries ≡ entries
shown_plain count entries small = plain_from 0 (replicate count 0) entries (zero_at count) small

-- a table of zeros shows zeros
pub shown_zeros : (count blocks : ℕ) → shown_from 0 (replicate blocks 0) (replicate count 0) ≡ replicate count 0
shown_zeros count blocks = zeros_from 0 count blocks

-- an entry is put in so that its number is this one
pub shown_set : (blocks entries : List ℕ) (at entry number : ℕ) → at < length entries → (entry + get_or blocks (at / 256) 0) % 2 ^ 64 ≡ number
    → shown_from 0 blocks (set entries at entry) ≡ set (shown_from 0 blocks entries) at number
shown_set blocks entries at entry number below gives =
    let long : length (set entries at entry) ≡ length entries = length-set entries at entry in
    let shown : length (shown_from 0 blocks entries) ≡ length entries = length_shown blocks entries in
    let after : length (shown_from 0 blocks (set entries at entry)) ≡ length (set (shown_from 0 blocks entries) at number) =
    length_shown blocks (set entries at entry) ∙ long ∙ sym (length-set (shown_from 0 blocks entries) at number ∙ shown) in
    ext_get_or 0 (shown_from 0 blocks (set entries at entry)) (set (shown_from 0 blocks entries) at number) after
    (λ there within. (
    let inside : there < length entries = omega (arith, length_shown blocks (set entries at entry)) in
    let one = shown_at blocks (set entries at entry) there (omega arith) in
    elim (cases_eq there at) [
      | inl same ↦ rw same (shown_at blocks (set entries at entry) at (omega arith)
          ∙ ap (λ e. (e + get_or blocks (at / 256) 0) % 2 ^ 64) (get_or-set_same entries at entry 0 below)
          ∙ gives ∙ sym (get_or-set_same (shown_from 0 blocks entries) at number 0 (omega arith)))
      | inr other ↦ one
          ∙ ap (λ e. (e + get_or blocks (there / 256) 0) % 2 ^ 64) (get_or-set_other entries at there entry 0 other)
          ∙ sym (shown_at blocks entries there inside)
          ∙ sym (get_or-set_other (shown_from 0 blocks entries) at there number 0 other)
    ]))
