-- Ranges to whose numbers a number is added.
use Rattle.std.proofs.Common.{◌≡◌, ◌⊎◌, ℕ, ◌+◌, ◌*◌, ◌/◌, ◌%◌, ◌^◌, ◌<◌, ◌≤◌, List, length, get_or, set, refl, sym, ap, ◌∙◌, arith, inl, inr}
use Rattle.std.proofs.lemmas.Bool.{cases_eq, cases_lt}
use Rattle.std.proofs.lemmas.List.{get_or-set_same, get_or-set_other, get_or_past, length-set}
use Rattle.range_table.specs.Moving.{IsMoved}
use Rattle.range_table.specs.Shown.{shown_from}
use Rattle.range_table.proofs.ShownLemmas.{length_shown, shown_at}

-- nothing is added to no range
pub moved_none : (from more : ℕ) (numbers : List ℕ) → IsMoved from from more numbers numbers
moved_none from more numbers = record {
  len = refl;
  inside = λ index low high. absurd (omega arith);
  outside = λ index away. refl;
}

-- the next number of the range
pub moved_more : (from to more : ℕ) (before after : List ℕ) → from ≤ to → to < length after → IsMoved from to more before after
    → IsMoved from (to + 1) more before (set after to ((get_or after to 0 + more) % 2 ^ 64))
moved_more from to more before after low within moved = record {
  len = length-set after to ((get_or after to 0 + more) % 2 ^ 64) ∙ moved.len;
  inside = λ index least most. elim (cases_eq index to) [
    | inl same ↦ rw same (get_or-set_same after to ((get_or after to 0 + more) % 2 ^ 64) 0 within
        ∙ ap (λ number. (number + more) % 2 ^ 64) (moved.outside to (inr (omega arith))))
    | inr other ↦ get_or-set_other after to index ((get_or after to 0 + more) % 2 ^ 64) 0 other ∙ moved.inside index least (omega arith)
  ];
  outside = λ index away. (
      let other : index ≡ to → ⊥ = λ same. absurd (elim away [ inl below ↦ (omega arith) | inr above ↦ (omega arith) ]) in
      let still : (index < from) ⊎ (to ≤ index) = elim away [ inl below ↦ inl below | inr above ↦ inr (omega arith) ] in
      get_or-set_other after to index ((get_or after to 0 + more) % 2 ^ 64) 0 other ∙ moved.outside index still);
}

-- one range behind the other
pub moved_joined : (from middle to more : ℕ) (before between after : List ℕ) → from ≤ middle → middle ≤ to
    → IsMoved from middle more before between → IsMoved middle to more between after → IsMoved from to more before after
moved_joined from middle to more before between after low high one other = record {
  len = other.len ∙ one.len;
  inside = λ index least most. elim (cases_lt index middle) [
    | inl below ↦ other.outside index (inl below) ∙ one.inside index least below
    | inr above ↦ other.inside index above most ∙ ap (λ number. (number + more) % 2 ^ 64) (one.outside index (inr above))
  ];
  outside = λ index away. elim away [
    | inl below ↦ other.outside index (inl (omega arith)) ∙ one.outside index (inl below)
    | inr above ↦ other.outside index (inr above) ∙ one.outside index (inr (omega arith))
  ];
}

two_sums : (a b c : ℕ) → ((a + b) % 2 ^ 64 + c) % 2 ^ 64 ≡ ((a + c) % 2 ^ 64 + b) % 2 ^ 64
two_sums a b c = omega arith

-- a range of the entries is a range of the numbers
pub entries_moved : (blocks entries after : List ℕ) (from to more : ℕ) → to ≤ length entries → IsMoved from to more entries after
    → IsMoved from to more (shown_from 0 blocks entries) (shown_from 0 blocks after)
entries_moved blocks entries after from to more within moved = record {
  len = length_shown blocks after ∙ moved.len ∙ sym (length_shown blocks entries);
  inside = λ index least most. (
      let is : index < length entries = omega arith in
      let same : length after ≡ length entries = moved.len in
      shown_at blocks after index (omega arith)
      ∙ ap (λ entry. (entry + get_or blocks (index / 256) 0) % 2 ^ 64) (moved.inside index least most)
      ∙ two_sums (get_or entries index 0) more (get_or blocks (index / 256) 0)
      ∙ ap (λ number. (number + more) % 2 ^ 64) (sym (shown_at blocks entries index is)));
  outside = λ index away. elim (cases_lt index (length entries)) [
    | inl is ↦ (
        let same : length after ≡ length entries = moved.len in
        shown_at blocks after index (omega arith)
        ∙ ap (λ entry. (entry + get_or blocks (index / 256) 0) % 2 ^ 64) (moved.outside index away)
        ∙ sym (shown_at blocks entries index is))
    | inr past ↦ (
        let same : length after ≡ length entries = moved.len in
        get_or_past (shown_from 0 blocks after) index 0 (omega (arith, length_shown blocks after))
        ∙ sym (get_or_past (shown_from 0 blocks entries) index 0 (omega (arith, length_shown blocks entries))))
  ];
}

-- a range of the blocks is a range of the numbers
pub blocks_moved : (blocks after entries : List ℕ) (first last more : ℕ) → 256 * last ≤ length entries → IsMoved first last more blocks after
    → IsMoved (256 * first) (256 * last) more (shown_from 0 blocks entries) (shown_from 0 after entries)
blocks_moved blocks after entries first last more within moved = record {
  len = length_shown after entries ∙ sym (length_shown blocks entries);
  inside = λ index least most. (
      let is : index < length entries = omega arith in
      shown_at after entries index is
      ∙ ap (λ block. (get_or entries index 0 + block) % 2 ^ 64) (moved.inside (index / 256) (omega arith) (omega arith))
      ∙ added (get_or entries index 0) (get_or blocks (index / 256) 0) more
      ∙ ap (λ number. (number + more) % 2 ^ 64) (sym (shown_at blocks entries index is)));
  outside = λ index away. elim (cases_lt index (length entries)) [
    | inl is ↦ (
        let block : (index / 256 < first) ⊎ (last ≤ index / 256) = elim away [ inl below ↦ inl (omega arith) | inr above ↦ inr (omega arith) ] in
        shown_at after entries index is
        ∙ ap (λ block. (get_or entries index 0 + block) % 2 ^ 64) (moved.outside (index / 256) block)
        ∙ sym (shown_at blocks entries index is))
    | inr past ↦ get_or_past (shown_from 0 after entries) index 0 (omega (arith, length_shown after entries))
        ∙ sym (get_or_past (shown_from 0 blocks entries) index 0 (omega (arith, length_shown blocks entries)))
  ];
}
  where
    added : (a b c : ℕ) → (a + (b + c) % 2 ^ 64) % 2 ^ 64 ≡ ((a + b) % 2 ^ 64 + c) % 2 ^ 64
    added a b c = omega arith
