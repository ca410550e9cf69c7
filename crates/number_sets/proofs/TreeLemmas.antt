use Rattle.std.proofs.Common.{◌≡◌, ℕ, ◌+◌, ◌-◌, ◌<◌, ◌≤◌, ◌≢◌, ◌&&◌, ◌⊎◌, inl, inr, Bool, true, false, List, get_or, refl, sym, ap, subst, ◌∙◌, arith}
use Rattle.std.proofs.lemmas.Bool.{cases_lt}
use Rattle.number_sets.specs.declared.trees.Tree.{Tree}
use Rattle.number_sets.specs.declared.trees.Tree.TheVariants.{Empty, Leaf, Fork'}
use Rattle.number_sets.specs.Trees.{has_in, IsShaped}

-- behind the width of a word there is no number
past_width : (tree : Tree) (width k : ℕ) → IsShaped tree width → width ≤ 64 → width ≤ k → has_in tree width k ≡ false
past_width Empty width k shape small far = refl
past_width (Leaf word) width k shape small far = shape.1 k far
past_width (Fork' p low q high) width k shape small far = absurd (let l = shape.0 in omega arith)

-- a word with a number more
pub leaf_with : (tree : Tree) (width n : ℕ) (word new : List Bool) → IsShaped tree width → width ≤ 64 → n < width → ((k : ℕ) → get_or word k false ≡ has_in tree width k)
    → ((k : ℕ) → k ≢ n → get_or new k false ≡ get_or word k false) → (k : ℕ) → width ≤ k → get_or new k false ≡ false
leaf_with tree width n word new shape small within is others k far = let ne : k ≢ n = omega arith in others k ne ∙ is k ∙ past_width tree width k shape small far

-- a word without some
pub leaf_without : (tree : Tree) (width : ℕ) (word new : List Bool) (test : ℕ → Bool) → IsShaped tree width → width ≤ 64 → ((k : ℕ) → get_or word k false ≡ has_in tree width k)
    → ((k : ℕ) → get_or new k false ≡ (get_or word k false && test k)) → (k : ℕ) → width ≤ k → get_or new k false ≡ false
leaf_without tree width word new test shape small is each k far = each k ∙ ap (λ b. b && test k) (is k ∙ past_width tree width k shape small far)

-- what two words have both
pub leaf_both : (tree : Tree) (width : ℕ) (word other new : List Bool) → IsShaped tree width → width ≤ 64 → ((k : ℕ) → get_or word k false ≡ has_in tree width k)
    → ((k : ℕ) → get_or new k false ≡ (get_or word k false && get_or other k false)) → (k : ℕ) → width ≤ k → get_or new k false ≡ false
leaf_both tree width word other new shape small is each k far = leaf_without tree width word new (λ j. get_or other j false) shape small is each k far

-- the numbers of a word are those of the tree that was looked at
pub seen_word : (tree at : Tree) (width : ℕ) (word : List Bool) → at ≡ tree → IsShaped tree width → width ≤ 64
    → ((w k : ℕ) → IsShaped at w → w ≤ 64 → get_or word k false ≡ has_in at w k) → (k : ℕ) → get_or word k false ≡ has_in tree width k
seen_word tree at width word e shape small is k =
    let P : Tree → Type 0 = λ x. IsShaped x width in
    is width k (subst P (sym e) shape) small ∙ ap (λ (x : Tree). has_in x width k) e

-- one tree has a number that another has not
abbrev pub Exceeds : (one other : ℕ → Bool) → (width : ℕ) → Type 0
Exceeds one other width = (k : ℕ) × (k < width) × (one k ≡ true) × (other k ≡ false)

-- where the lower half of one has
pub beyond_low : (one other low high : ℕ → Bool) (half width : ℕ) → half ≤ width → ((k : ℕ) → k < half → one k ≡ low k) → ((k : ℕ) → k < half → other k ≡ high k)
    → Exceeds low high half → Exceeds one other width
beyond_low one other low high half width h is_low is_high (k, l, e, f) = (k, omega arith, is_low k l ∙ e, is_high k l ∙ f)

-- where the other half has
pub beyond_high : (one other low high : ℕ → Bool) (half width : ℕ) → half ≤ width → ((k : ℕ) → half ≤ k → one k ≡ low (k - half)) → ((k : ℕ) → half ≤ k → other k ≡ high (k - half))
    → Exceeds low high (width - half) → Exceeds one other width
beyond_high one other low high half width h is_low is_high (k, l, e, f) =
    let back : k + half - half ≡ k = omega arith in
    (k + half, omega arith, is_low (k + half) (omega arith) ∙ ap low back ∙ e, is_high (k + half) (omega arith) ∙ ap high back ∙ f)

-- where a word has
pub beyond_words : (one other : Tree) (width : ℕ) (word others : List Bool) → IsShaped one width → width ≤ 64 → ((k : ℕ) → get_or word k false ≡ has_in one width k)
    → ((k : ℕ) → get_or others k false ≡ has_in other width k) → (k : ℕ) × (get_or word k false ≡ true) × (get_or others k false ≡ false) → Exceeds (has_in one width) (has_in other width) width
beyond_words one other width word others shape small is_word is_others (k, e, f) = by_place (cases_lt k width)
  where
    by_place : (k < width) ⊎ (width ≤ k) → Exceeds (has_in one width) (has_in other width) width
    by_place (inl l) = (k, l, sym (is_word k) ∙ e, sym (is_others k) ∙ f)
    by_place (inr l) = let none = past_width one width k shape small l in let there = is_word k in cc
