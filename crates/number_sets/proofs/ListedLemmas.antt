use Rattle.std.proofs.Common.{◌≡◌, ℕ, zero, suc, ◌+◌, ◌<◌, ◌≤◌, ◌⊎◌, ◌&&◌, ◌||◌, ◌==◌, not, nat_lt, nat_le, min, inl, inr, Bool, true, false, Option, Some, None, List, [], ◌∷◌, ◌++◌, length, get_or, sum_by, refl, sym, ap, ◌∙◌, arith, length-append}
use Rattle.std.proofs.lemmas.Bool.{cases_lt}
use Rattle.std.proofs.lemmas.Bool.Decides.{nat_tests}
use Rattle.std.proofs.lemmas.List.{get_or_past}
use Rattle.std.proofs.lemmas.List.Sums.{sum_by-append, sum_by-cons}
use Rattle.number_sets.specs.Bits.{counted}
use Rattle.number_sets.specs.Trees.{listed, IsLast}
use Rattle.number_sets.proofs.WordLemmas.{pushed_same, pushed_last}

-- as many as are listed
pub length_listed : (test : ℕ → Bool) (n : ℕ) → length (listed test n) ≡ n
unfolding listed
length_listed test zero = refl
length_listed test (suc n) = let e = length-append (listed test n) (test n ∷ []) in let i = length_listed test n in omega arith

-- each of the first ones
pub get_listed : (test : ℕ → Bool) (n k : ℕ) → k < n → get_or (listed test n) k false ≡ test k
unfolding listed
get_listed test zero k h = absurd (omega arith)
get_listed test (suc n) k h = by_place (get_listed test n k) (cases_lt k n)
  where
    by_place : (k < n → get_or (listed test n) k false ≡ test k) → (k < n) ⊎ (n ≤ k) → get_or (listed test n ++ test n ∷ []) k false ≡ test k
    by_place before (inl l) = let e = length_listed test n in pushed_same (listed test n) (test n) k (omega arith) ∙ before l
    by_place before (inr l) =
        let e = length_listed test n in
        let same : n ≡ k = omega arith in
        pushed_last (listed test n) (test n) k (omega arith) ∙ ap test same

-- behind them there is none
pub past_listed : (test : ℕ → Bool) (n k : ℕ) → n ≤ k → get_or (listed test n) k false ≡ false
past_listed test n k h = let e = length_listed test n in get_or_past (listed test n) k false (omega arith)

-- what is listed, by what is said of each
pub each_listed : (test wanted : ℕ → Bool) (n : ℕ) → ((k : ℕ) → k < n → test k ≡ wanted k) → ((k : ℕ) → n ≤ k → wanted k ≡ false) → (k : ℕ) → get_or (listed test n) k false ≡ wanted k
each_listed test wanted n low high k = by_place (cases_lt k n)
  where
    by_place : (k < n) ⊎ (n ≤ k) → get_or (listed test n) k false ≡ wanted k
    by_place (inl l) = get_listed test n k l ∙ low k l
    by_place (inr l) = past_listed test n k l ∙ sym (high k l)

-- lists of which one has no more than the other
no_more : (less more : ℕ → Bool) (n : ℕ) → ((k : ℕ) → k < n → less k ≡ true → more k ≡ true) → sum_by counted (listed less n) ≤ sum_by counted (listed more n)
unfolding listed
no_more less more zero h = omega arith
no_more less more (suc n) h = by_last (less n) (more n) refl refl (no_more less more n (λ k l. h k (omega arith)))
  where
    added : (test : ℕ → Bool) (b : Bool) → test n ≡ b → sum_by counted (listed test n ++ test n ∷ []) ≡ sum_by counted (listed test n) + counted b
    added test b e =
        let s = sum_by-append counted (listed test n) (test n ∷ []) in
        let t = sum_by-cons counted (test n) [] in
        let u = ap counted e in
        omega arith

    by_last : (a b : Bool) → less n ≡ a → more n ≡ b → sum_by counted (listed less n) ≤ sum_by counted (listed more n) → sum_by counted (listed less n ++ less n ∷ []) ≤ sum_by counted (listed more n ++ more n ∷ [])
    by_last a true e f i = let x = added less a e in let y = added more true f in let z = at_most a in omega arith
      where
        at_most : (b : Bool) → counted b ≤ 1
        at_most true = omega arith
        at_most false = omega arith
    by_last false false e f i = let x = added less false e in let y = added more false f in omega arith
    by_last true false e f i = let t = h n (omega arith) e in cc

-- and one of them has more
pub fewer_listed : (less more : ℕ → Bool) (n at : ℕ) → ((k : ℕ) → k < n → less k ≡ true → more k ≡ true) → at < n → less at ≡ false → more at ≡ true
    → sum_by counted (listed less n) < sum_by counted (listed more n)
unfolding listed
fewer_listed less more zero at h l gone there = absurd (omega arith)
fewer_listed less more (suc n) at h l gone there = by_place (cases_lt at n) (λ s. fewer_listed less more n at (λ k t. h k (omega arith)) s gone there)
  where
    added : (test : ℕ → Bool) (b : Bool) → test n ≡ b → sum_by counted (listed test n ++ test n ∷ []) ≡ sum_by counted (listed test n) + counted b
    added test b e =
        let s = sum_by-append counted (listed test n) (test n ∷ []) in
        let t = sum_by-cons counted (test n) [] in
        let u = ap counted e in
        omega arith

    by_last : (a b : Bool) → less n ≡ a → more n ≡ b → sum_by counted (listed less n) < sum_by counted (listed more n) → sum_by counted (listed less n ++ less n ∷ []) < sum_by counted (listed more n ++ more n ∷ [])
    by_last true true e f i = let x = added less true e in let y = added more true f in omega arith
    by_last false b e f i = let x = added less false e in let y = added more b f in omega arith
    by_last true false e f i = let t = h n (omega arith) e in cc

    by_place : (at < n) ⊎ (n ≤ at) → (at < n → sum_by counted (listed less n) < sum_by counted (listed more n)) → sum_by counted (listed less n ++ less n ∷ []) < sum_by counted (listed more n ++ more n ∷ [])
    by_place (inl s) before = by_last (less n) (more n) refl refl (before s)
    by_place (inr s) before =
        let same : at ≡ n = omega arith in
        let x = added less false (ap less (sym same) ∙ gone) in
        let y = added more true (ap more (sym same) ∙ there) in
        let z = no_more less more n (λ k t. h k (omega arith)) in
        omega arith

-- where a test holds of nothing, nothing is listed
pub none_listed : (test : ℕ → Bool) (n k : ℕ) → ((k : ℕ) → test k ≡ false) → get_or (listed test n) k false ≡ false
none_listed test n k none = each_listed test (λ j. false) n (λ j h. none j) (λ j h. refl) k

-- one number more is listed
pub put_listed : (old new : ℕ → Bool) (n at k : ℕ) → at < n → ((j : ℕ) → new j ≡ (j == at || old j)) → get_or (listed new n) k false ≡ (k == at || get_or (listed old n) k false)
put_listed old new n at k within each =
    each_listed new (λ j. j == at || get_or (listed old n) j false) n (λ j h. each j ∙ ap (λ b. j == at || b) (sym (get_listed old n j h)))
    (λ j h. let far : (j == at) ≡ false = grind (arith, nat_tests) in ap (λ b. b || get_or (listed old n) j false) far ∙ past_listed old n j h) k

-- some numbers are listed no more
pub cleared_listed : (old new test : ℕ → Bool) (n k : ℕ) → ((j : ℕ) → new j ≡ (old j && test j)) → get_or (listed new n) k false ≡ (get_or (listed old n) k false && test k)
cleared_listed old new test n k each =
    each_listed new (λ j. get_or (listed old n) j false && test j) n (λ j h. each j ∙ ap (λ b. b && test j) (sym (get_listed old n j h)))
    (λ j h. ap (λ b. b && test j) (past_listed old n j h)) k

-- none of those that are taken out was there
pub kept_listed : (bits : List Bool) (from to k : ℕ) → IsLast (λ j. get_or bits j false) from to None → get_or bits k false ≡ (get_or bits k false && not (nat_le from k && nat_lt k to))
kept_listed bits from to k none = by_place (nat_le from k) (nat_lt k to) refl refl
  where
    and_true : (a : Bool) → a ≡ (a && true)
    and_true true = refl
    and_true false = refl

    by_place : (a b : Bool) → nat_le from k ≡ a → nat_lt k to ≡ b → get_or bits k false ≡ (get_or bits k false && not (a && b))
    by_place true true e f = let gone = none k (grind (arith, nat_tests)) (grind (arith, nat_tests)) in gone ∙ ap (λ b. b && false) (sym gone)
    by_place true false e f = and_true (get_or bits k false)
    by_place false b e f = and_true (get_or bits k false)

-- the last one of those that are listed
pub last_listed : (test : ℕ → Bool) (n from to : ℕ) (found : Option ℕ) → IsLast test from (min to n) found → IsLast (λ k. get_or (listed test n) k false) from to found
last_listed test n from to None none = λ k l h. by_place k l h (cases_lt k n)
  where
    by_place : (k : ℕ) → from ≤ k → k < to → (k < n) ⊎ (n ≤ k) → get_or (listed test n) k false ≡ false
    by_place k l h (inl s) = get_listed test n k s ∙ none k l (omega arith)
    by_place k l h (inr s) = past_listed test n k s
last_listed test n from to (Some m) (l, h, here, above) = (l, omega arith, get_listed test n m (omega arith) ∙ here, λ k g s. by_place k g s (cases_lt k n))
  where
    by_place : (k : ℕ) → m < k → k < to → (k < n) ⊎ (n ≤ k) → get_or (listed test n) k false ≡ false
    by_place k g s (inl t) = get_listed test n k t ∙ above k g (omega arith)
    by_place k g s (inr t) = past_listed test n k t

-- all that one lists the other does
pub within_listed : (one other : ℕ → Bool) (n m k : ℕ) → n ≡ m → ((j : ℕ) → one j ≡ true → other j ≡ true) → get_or (listed one n) k false ≡ (get_or (listed one n) k false && get_or (listed other m) k false)
within_listed one other n m k same within = by_place (cases_lt k n)
  where
    kept : (a b : Bool) → (a ≡ true → b ≡ true) → a ≡ (a && b)
    kept true b t = sym (t refl)
    kept false b t = refl

    by_place : (k < n) ⊎ (n ≤ k) → get_or (listed one n) k false ≡ (get_or (listed one n) k false && get_or (listed other m) k false)
    by_place (inl s) = kept (get_or (listed one n) k false) (get_or (listed other m) k false) (λ e. get_listed other m k (omega arith) ∙ within k (sym (get_listed one n k s) ∙ e))
    by_place (inr s) = let none = past_listed one n k s in none ∙ ap (λ b. b && get_or (listed other m) k false) (sym none)

-- what two list both
pub both_listed : (one other both : ℕ → Bool) (n m k : ℕ) → n ≡ m → ((j : ℕ) → both j ≡ (one j && other j)) → get_or (listed both n) k false ≡ (get_or (listed one n) k false && get_or (listed other m) k false)
both_listed one other both n m k same each =
    each_listed both (λ j. get_or (listed one n) j false && get_or (listed other m) j false) n
    (λ j h. each j ∙ ap (λ b. b && other j) (sym (get_listed one n j h)) ∙ ap (λ b. get_or (listed one n) j false && b) (sym (get_listed other m j (omega arith))))
    (λ j h. ap (λ b. b && get_or (listed other m) j false) (past_listed one n j h)) k

-- is less, where the one lists what the other does not
pub fewer_both : (one other both : ℕ → Bool) (n : ℕ) → ((j : ℕ) → both j ≡ (one j && other j)) → (k : ℕ) × (k < n) × (one k ≡ true) × (other k ≡ false)
    → sum_by counted (listed both n) < sum_by counted (listed one n)
fewer_both one other both n each (k, l, e, f) =
    fewer_listed both one n k (λ j h t. first (one j) (other j) (sym (each j) ∙ t)) l (each k ∙ ap (λ b. b && other k) e ∙ f) e
  where
    first : (a b : Bool) → (a && b) ≡ true → a ≡ true
    first true b h = refl
    first false b h = cc

-- no number from 6 on is listed
pub short_listed : (bits : List Bool) (n k : ℕ) → length bits ≡ n → IsLast (λ j. get_or bits j false) 6 n None → 6 ≤ k → get_or bits k false ≡ false
short_listed bits n k long none l = by_place (cases_lt k n)
  where
    by_place : (k < n) ⊎ (n ≤ k) → get_or bits k false ≡ false
    by_place (inl s) = none k l s
    by_place (inr s) = get_or_past bits k false (omega arith)

-- what a set and a part of another have both
pub met_resized : (one part other new : List Bool) (n k : ℕ) → length one ≡ n → ((j : ℕ) → j < n → get_or part j false ≡ get_or other j false)
    → ((j : ℕ) → get_or new j false ≡ (get_or one j false && get_or part j false)) → get_or new k false ≡ (get_or one k false && get_or other k false)
met_resized one part other new n k long same each = by_place (cases_lt k n)
  where
    by_place : (k < n) ⊎ (n ≤ k) → get_or new k false ≡ (get_or one k false && get_or other k false)
    by_place (inl s) = each k ∙ ap (λ b. get_or one k false && b) (same k s)
    by_place (inr s) = let none = get_or_past one k false (omega arith) in each k ∙ ap (λ b. b && get_or part k false) none ∙ sym (ap (λ b. b && get_or other k false) none)

-- one number is listed no more
pub taken_listed : (old new : ℕ → Bool) (n at k : ℕ) → ((j : ℕ) → new j ≡ (old j && not (nat_le at j && nat_lt j (at + 1)))) → get_or (listed new n) k false ≡ (get_or (listed old n) k false && not (k == at))
taken_listed old new n at k each = cleared_listed old new (λ j. not (j == at)) n k (λ j. each j ∙ ap (λ b. old j && not b) (alone j))
  where
    alone : (j : ℕ) → (nat_le at j && nat_lt j (at + 1)) ≡ (j == at)
    alone j = grind (arith, nat_tests)
