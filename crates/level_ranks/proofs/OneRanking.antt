-- There is just one ranking: two agree on what is taken before each round, and so on all numbers.
use Rattle.std.proofs.Common.{◌≡◌, ℕ, zero, suc, ◌+◌, ◌<◌, nat_lt, Bool, true, false, cond, List, [], ◌∷◌, Option, Some, None, length, map, get_or, refl, sym, ap, ◌∙◌, subst, arith}
use Rattle.std.specs.Prelude.{count_by, fold}
use Rattle.std.proofs.lemmas.Bool.Decides.{nat_tests}
use Rattle.level_ranks.specs.Ranks.{Ranks, is_taken_before, levels_below, numbers_at, Holds, Misses, IsNumber, IsRanking}

abbrev number_of : Ranks → ℕ → ℕ → Option ℕ
number_of ranks item level = get_or (numbers_at ranks item) level None

abbrev lengths : Ranks → List ℕ
lengths ranks = map (λ numbers. length numbers) ranks

lengths_all : (v w : Ranks) → lengths v ≡ lengths w → length v ≡ length w
lengths_all [] [] same = refl
lengths_all [] (y ∷ ys) same = absurd cc
lengths_all (x ∷ xs) [] same = absurd cc
lengths_all (x ∷ xs) (y ∷ ys) same = let later : lengths xs ≡ lengths ys = cc in ap suc (lengths_all xs ys later)

lengths_at : (v w : Ranks) → lengths v ≡ lengths w → (item : ℕ) → length (numbers_at v item) ≡ length (numbers_at w item)
lengths_at [] [] same item = refl
lengths_at [] (y ∷ ys) same item = absurd cc
lengths_at (x ∷ xs) [] same item = absurd cc
lengths_at (x ∷ xs) (y ∷ ys) same zero = cc
lengths_at (x ∷ xs) (y ∷ ys) same (suc item) = let later : lengths xs ≡ lengths ys = cc in lengths_at xs ys later item

-- numbers that a test tells alike are counted alike, whatever is counted before
counts_from : (p : Option ℕ → Bool) (before : ℕ) (xs ys : List (Option ℕ)) → length xs ≡ length ys
    → ((k : ℕ) → k < length xs → p (get_or xs k None) ≡ p (get_or ys k None))
    → fold (λ n x. n + cond (p x) 1 0) before xs ≡ fold (λ n x. n + cond (p x) 1 0) before ys
counts_from p before [] [] long alike = refl
counts_from p before [] (y ∷ ys) long alike = absurd (omega arith)
counts_from p before (x ∷ xs) [] long alike = absurd (omega arith)
counts_from p before (x ∷ xs) (y ∷ ys) long alike =
    let first : p x ≡ p y = alike 0 (omega arith) in
    let later = counts_from p (before + cond (p y) 1 0) xs ys (omega arith) (λ k inside. alike (suc k) (omega arith)) in
    ap (λ (b : Bool). fold (λ n x. n + cond (p x) 1 0) (before + cond b 1 0) xs) first ∙ later

counts_same : (p : Option ℕ → Bool) (xs ys : List (Option ℕ)) → length xs ≡ length ys
    → ((k : ℕ) → k < length xs → p (get_or xs k None) ≡ p (get_or ys k None)) → count_by p xs ≡ count_by p ys
counts_same p xs ys long alike = counts_from p 0 xs ys long alike

levels_same : (p : Option ℕ → Bool) (v w : Ranks) → lengths v ≡ lengths w
    → ((i k : ℕ) → i < length v → k < length (numbers_at v i) → p (number_of v i k) ≡ p (number_of w i k)) → map (λ numbers. count_by p numbers) v ≡ map (λ numbers. count_by p numbers) w
levels_same p [] [] same alike = refl
levels_same p [] (y ∷ ys) same alike = absurd cc
levels_same p (x ∷ xs) [] same alike = absurd cc
levels_same p (x ∷ xs) (y ∷ ys) same alike =
    let long : length x ≡ length y = cc in
    let others : lengths xs ≡ lengths ys = cc in
    let first = counts_same p x y long (λ k inside. alike 0 k (omega arith) inside) in
    let later = levels_same p xs ys others (λ i k inside above. alike (suc i) k (omega arith) above) in
    rw (first, later)

numbers_same : (xs ys : List (Option ℕ)) → length xs ≡ length ys → ((k : ℕ) → k < length xs → get_or xs k None ≡ get_or ys k None) → xs ≡ ys
numbers_same [] [] long alike = refl
numbers_same [] (y ∷ ys) long alike = absurd (omega arith)
numbers_same (x ∷ xs) [] long alike = absurd (omega arith)
numbers_same (x ∷ xs) (y ∷ ys) long alike =
    let first : x ≡ y = alike 0 (omega arith) in
    let later = numbers_same xs ys (omega arith) (λ k inside. alike (suc k) (omega arith)) in
    rw (first, later)

ranks_same : (v w : Ranks) → lengths v ≡ lengths w → ((i k : ℕ) → i < length v → k < length (numbers_at v i) → number_of v i k ≡ number_of w i k) → v ≡ w
ranks_same [] [] same alike = refl
ranks_same [] (y ∷ ys) same alike = absurd cc
ranks_same (x ∷ xs) [] same alike = absurd cc
ranks_same (x ∷ xs) (y ∷ ys) same alike =
    let long : length x ≡ length y = cc in
    let others : lengths xs ≡ lengths ys = cc in
    let first = numbers_same x y long (λ k inside. alike 0 k (omega arith) inside) in
    let later = ranks_same xs ys others (λ i k inside above. alike (suc i) k (omega arith) above) in
    rw (first, later)

-- a level that is not held before a round in which both agree is not held by the other
not_held : (need : List ℕ → List ℕ) (v w : Ranks) (i k n : ℕ) → levels_below n v ≡ levels_below n w → Misses need v i k n → Holds need w i k n → (E : Type 0) → E
not_held need v w i k n agree misses holds E =
    let again : Misses need w i k n = subst (λ (levels : List ℕ). k < get_or (need levels) i 0) agree misses in
    absurd (omega arith)

abbrev AgreeBefore : Ranks → Ranks → ℕ → Type 0
AgreeBefore v w r = (q : ℕ) → q < r → levels_below q v ≡ levels_below q w

-- what is taken before a round by the one is taken by the other
forward : (need : List ℕ → List ℕ) (v w : Ranks) (i k r : ℕ) → AgreeBefore v w r → (a b : Option ℕ) → IsNumber need v i k a → IsNumber need w i k b → is_taken_before r a ≡ true → is_taken_before r b ≡ true
forward need v w i k r agree None b one other below = absurd cc
forward need v w i k r agree (Some n) None one other below =
    not_held need v w i k n (agree n (grind (arith, nat_tests))) one.1 (other n one.0) (false ≡ true)
forward need v w i k r agree (Some n) (Some m) one other below = by_test (nat_lt n m) refl
  where
    by_test : (b : Bool) → nat_lt n m ≡ b → nat_lt m r ≡ true
    by_test true is = not_held need v w i k n (agree n (grind (arith, nat_tests))) one.1 (other.2 n one.0 (grind (arith, nat_tests))) (nat_lt m r ≡ true)
    by_test false is = grind (arith, nat_tests)

both_ways : (a b : Bool) → (a ≡ true → b ≡ true) → (b ≡ true → a ≡ true) → a ≡ b
both_ways true b there back = sym (there refl)
both_ways false true there back = back refl
both_ways false false there back = refl

back_again : (v w : Ranks) (r : ℕ) → AgreeBefore v w r → AgreeBefore w v r
back_again v w r agree q before = sym (agree q before)

pick : (E : ℕ → Type 0) (r q : ℕ) → ((q : ℕ) → q < r → E q) → E r → q < suc r → (b : Bool) → nat_lt q r ≡ b → E q
pick E r q before now within true is = before q (grind (arith, nat_tests))
pick E r q before now within false is = let same : r ≡ q = grind (arith, nat_tests) in subst E same now

module _ (need : List ℕ → List ℕ) (tops : List ℕ) (v w : Ranks) (one : IsRanking need tops v) (other : IsRanking need tops w) where
  same_lengths : lengths v ≡ lengths w
  same_lengths = one.levels ∙ sym other.levels

  number_there : (i k : ℕ) → i < length v → k < length (numbers_at v i) → IsNumber need w i k (number_of w i k)
  number_there i k inside above =
      let all = lengths_all v w same_lengths in
      let there = lengths_at v w same_lengths i in
      other.numbers i k (omega arith) (omega arith)

  next_agrees : (r : ℕ) → AgreeBefore v w r → levels_below r v ≡ levels_below r w
  next_agrees r agree =
      levels_same (is_taken_before r) v w same_lengths
      (λ i k inside above. both_ways (is_taken_before r (number_of v i k)) (is_taken_before r (number_of w i k))
      (forward need v w i k r agree (number_of v i k) (number_of w i k) (one.numbers i k inside above) (number_there i k inside above))
      (forward need w v i k r (back_again v w r agree) (number_of w i k) (number_of v i k) (number_there i k inside above) (one.numbers i k inside above)))

  all_agree : (r : ℕ) → AgreeBefore v w r
  all_agree zero q before = absurd (omega arith)
  all_agree (suc r) q before = pick (λ (q : ℕ). levels_below q v ≡ levels_below q w) r q (all_agree r) (next_agrees r (all_agree r)) before (nat_lt q r) refl

  numbers_agree : (i k : ℕ) (a b : Option ℕ) → IsNumber need v i k a → IsNumber need w i k b → a ≡ b
  numbers_agree i k None None this that = refl
  numbers_agree i k None (Some m) this that = not_held need w v i k m (sym (next_agrees m (all_agree m))) that.1 (this m that.0) (None ≡ Some m)
  numbers_agree i k (Some n) None this that = not_held need v w i k n (next_agrees n (all_agree n)) this.1 (that n this.0) (Some n ≡ None)
  numbers_agree i k (Some n) (Some m) this that = by_tests (nat_lt n m) (nat_lt m n) refl refl
    where
      by_tests : (a b : Bool) → nat_lt n m ≡ a → nat_lt m n ≡ b → Some n ≡ Some m
      by_tests true b is above = not_held need v w i k n (next_agrees n (all_agree n)) this.1 (that.2 n this.0 (grind (arith, nat_tests))) (Some n ≡ Some m)
      by_tests false true is above = not_held need w v i k m (sym (next_agrees m (all_agree m))) that.1 (this.2 m that.0 (grind (arith, nat_tests))) (Some n ≡ Some m)
      by_tests false false is above = let same : n ≡ m = grind (arith, nat_tests) in ap (λ (x : ℕ). Some x) same

  pub one_ranking : v ≡ w
  one_ranking =
      ranks_same v w same_lengths (λ i k inside above. numbers_agree i k (number_of v i k) (number_of w i k) (one.numbers i k inside above) (number_there i k inside above))
