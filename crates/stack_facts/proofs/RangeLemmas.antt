use Rattle.std.proofs.Common.{◌≡◌, ℕ, ◌+◌, ◌-◌, ◌^◌, ◌<◌, ◌≤◌, ◌==◌, ◌⊎◌, ◌&&◌, ◌||◌, not, max, inl, inr, nat_lt, nat_le, Bool, true, false, Option, None, Some, List, length, get_or, refl, sym, ap, ◌∙◌, arith}
use Rattle.std.proofs.lemmas.Bool.{cases_lt}
use Rattle.std.proofs.lemmas.Bool.Decides.{nat_tests}
use Rattle.stack_facts.specs.declared.values.Span.{Span}
use Rattle.stack_facts.specs.declared.values.Slot.{Slot}
use Rattle.stack_facts.specs.Places.{below, gap, overlaps, is_slot_place}
use Rattle.stack_facts.specs.Sets.{slot_at}
use Rattle.stack_facts.specs.Ranks.{rank_at, rank_of, IsRanked, IsCountBefore, IsNumber, IsEnd, is_before, rank_up_to, lies_between, is_between, is_up_to}
use Rattle.stack_facts.specs.Passing.{IsDropped, is_met, is_lower}

-- the two tests of a range are those of ranks
low_side : (first k from rank : ℕ) → (k < first → rank < from) → (first ≤ k → from ≤ rank) → nat_le (6 + first) (6 + k) ≡ nat_le from rank
low_side first k from rank h g = by_place (cases_lt k first)
  where
    by_place : (k < first) ⊎ (first ≤ k) → nat_le (6 + first) (6 + k) ≡ nat_le from rank
    by_place (inl l) = let r = h l in grind (arith, nat_tests)
    by_place (inr l) = let r = g l in grind (arith, nat_tests)

high_side : (past k to rank : ℕ) → (k < past → rank < to) → (past ≤ k → to ≤ rank) → nat_lt (6 + k) (6 + past) ≡ nat_lt rank to
high_side past k to rank h g = by_place (cases_lt k past)
  where
    by_place : (k < past) ⊎ (past ≤ k) → nat_lt (6 + k) (6 + past) ≡ nat_lt rank to
    by_place (inl l) = let r = h l in grind (arith, nat_tests)
    by_place (inr l) = let r = g l in grind (arith, nat_tests)

-- a rank between those of two distances of a register is one of the register
ranks_between : (q r n from : ℕ) (to : Option ℕ) → n < 2 ^ 64 → from < 2 ^ 64 → IsNumber to
    → (nat_le (rank_at from r) (rank_at n q) && nat_lt (rank_at n q) (rank_up_to r to)) ≡ ((q == r) && (nat_le from n && is_before to n))
ranks_between q r n from to h g l = by_register (cases_lt q r) (cases_lt r q)
  where
    Says : Option ℕ → Type 0
    Says o = (nat_le (rank_at from r) (rank_at n q) && nat_lt (rank_at n q) (rank_up_to r o)) ≡ ((q == r) && (nat_le from n && is_before o n))

    lower : q < r → (o : Option ℕ) → Says o
    lower s o =
        let a : nat_le (rank_at from r) (rank_at n q) ≡ false = grind (arith, nat_tests) in
        let b : (q == r) ≡ false = grind (arith, nat_tests) in
        ap (λ x. x && nat_lt (rank_at n q) (rank_up_to r o)) a ∙ sym (ap (λ x. x && (nat_le from n && is_before o n)) b)

    and_false : (x : Bool) → (x && false) ≡ false
    and_false true = refl
    and_false false = refl

    higher : r < q → (o : Option ℕ) → IsNumber o → Says o
    higher s None k =
        let a : nat_lt (rank_at n q) (rank_up_to r None) ≡ false = grind (arith, nat_tests) in
        let b : (q == r) ≡ false = grind (arith, nat_tests) in
        ap (λ x. nat_le (rank_at from r) (rank_at n q) && x) a ∙ and_false (nat_le (rank_at from r) (rank_at n q)) ∙ sym (ap (λ x. x && (nat_le from n && is_before None n)) b)
    higher s (Some m) k =
        let a : nat_lt (rank_at n q) (rank_up_to r (Some m)) ≡ false = grind (arith, nat_tests) in
        let b : (q == r) ≡ false = grind (arith, nat_tests) in
        ap (λ x. nat_le (rank_at from r) (rank_at n q) && x) a ∙ and_false (nat_le (rank_at from r) (rank_at n q)) ∙ sym (ap (λ x. x && (nat_le from n && is_before (Some m) n)) b)

    own : q ≡ r → (o : Option ℕ) → Says o
    own s None =
        let a : nat_le (rank_at from r) (rank_at n q) ≡ nat_le from n = grind (arith, nat_tests) in
        let b : nat_lt (rank_at n q) (rank_up_to r None) ≡ true = grind (arith, nat_tests) in
        let c : (q == r) ≡ true = grind (arith, nat_tests) in
        ap (λ x. x && nat_lt (rank_at n q) (rank_up_to r None)) a ∙ ap (λ x. nat_le from n && x) b ∙ sym (ap (λ x. x && (nat_le from n && is_before None n)) c)
    own s (Some m) =
        let a : nat_le (rank_at from r) (rank_at n q) ≡ nat_le from n = grind (arith, nat_tests) in
        let b : nat_lt (rank_at n q) (rank_up_to r (Some m)) ≡ nat_lt n m = grind (arith, nat_tests) in
        let c : (q == r) ≡ true = grind (arith, nat_tests) in
        ap (λ x. x && nat_lt (rank_at n q) (rank_up_to r (Some m))) a ∙ ap (λ x. nat_le from n && x) b ∙ sym (ap (λ x. x && (nat_le from n && is_before (Some m) n)) c)

    by_register : (q < r) ⊎ (r ≤ q) → (r < q) ⊎ (q ≤ r) → Says to
    by_register (inl s) t = lower s to
    by_register (inr s) (inl t) = higher t to l
    by_register (inr s) (inr t) = own (omega arith) to

-- a place of slots is a number of 64 bits
pub placed_small : (n : ℕ) → is_slot_place n ≡ true → n < 2 ^ 64
placed_small n h = grind (arith, nat_tests)

-- the numbers of slots between two counts are those of the slots between the two distances
between_counts : (slots : List Slot) (r from : ℕ) (to : Option ℕ) (first past k : ℕ) → IsRanked slots → from < 2 ^ 64 → IsNumber to
    → IsCountBefore slots (rank_at from r) first → IsCountBefore slots (rank_up_to r to) past → k < length slots
    → (nat_le (6 + first) (6 + k) && nat_lt (6 + k) (6 + past)) ≡ is_between r from to slots k
between_counts slots r from to first past k ranked small number a b h =
    let s = slot_at slots k in
    ap (λ x. x && nat_lt (6 + k) (6 + past)) (low_side first k (rank_at from r) (rank_of s) (a.before k) (λ l. a.behind k l h))
    ∙ ap (λ x. nat_le (rank_at from r) (rank_of s) && x) (high_side past k (rank_up_to r to) (rank_of s) (b.before k) (λ l. b.behind k l h))
    ∙ ranks_between s.register r s.distance from to (placed_small s.distance (ranked.may k h).1) small number

-- what is taken out of a set by numbers
pub drops_between : (slots : List Slot) (word out : List Bool) (r from : ℕ) (to : Option ℕ) (first past : ℕ) → IsRanked slots → from < 2 ^ 64 → IsNumber to
    → IsCountBefore slots (rank_at from r) first → IsCountBefore slots (rank_up_to r to) past
    → ((k : ℕ) → get_or out k false ≡ (get_or word k false && not (nat_le (6 + first) k && nat_lt k (6 + past)))) → IsDropped word out (is_between r from to slots) (length slots)
drops_between slots word out r from to first past ranked small number a b each = record {
  entries = λ k h. let t : nat_le (6 + first) k ≡ false = grind (arith, nat_tests) in each k ∙ ap (λ x. get_or word k false && not (x && nat_lt k (6 + past))) t ∙ and_true (get_or word k false);
  done = λ k h. each (6 + k) ∙ ap (λ x. get_or word (6 + k) false && not x) (between_counts slots r from to first past k ranked small number a b h);
  rest = λ k h.
      let w = b.within in
      let t : nat_lt (6 + k) (6 + past) ≡ false = grind (arith, nat_tests) in
      each (6 + k) ∙ ap (λ x. get_or word (6 + k) false && not (nat_le (6 + first) (6 + k) && x)) t ∙ none (get_or word (6 + k) false) (nat_le (6 + first) (6 + k));
}
  where
    and_true : (x : Bool) → (x && true) ≡ x
    and_true true = refl
    and_true false = refl

    none : (x y : Bool) → (x && not (y && false)) ≡ x
    none true true = refl
    none true false = refl
    none false y = refl

-- nothing is taken out of which no test holds
pub drops_no_slot : (word : List Bool) (test : ℕ → Bool) (count : ℕ) → ((k : ℕ) → k < count → test k ≡ false) → IsDropped word word test count
drops_no_slot word test count fails = record {
  entries = λ k h. refl;
  done = λ k h. sym (ap (λ b. get_or word (6 + k) false && not b) (fails k h) ∙ and_true (get_or word (6 + k) false));
  rest = λ k h. refl;
}
  where
    and_true : (x : Bool) → (x && true) ≡ x
    and_true true = refl
    and_true false = refl

-- by another test that is the same
pub drops_same : (word out : List Bool) (one other : ℕ → Bool) (count : ℕ) → ((k : ℕ) → k < count → one k ≡ other k) → IsDropped word out one count → IsDropped word out other count
drops_same word out one other count same d = record {
  entries = d.entries;
  done = λ k h. d.done k h ∙ ap (λ b. get_or word (6 + k) false && not b) (same k h);
  rest = d.rest;
}

-- one after the other
pub drops_both : (word out new : List Bool) (one other both : ℕ → Bool) (count : ℕ) → ((k : ℕ) → k < count → (one k || other k) ≡ both k) → IsDropped word out one count → IsDropped out new other count → IsDropped word new both count
drops_both word out new one other both count is d e = record {
  entries = λ k h. e.entries k h ∙ d.entries k h;
  done = λ k h. e.done k h ∙ ap (λ x. x && not (other k)) (d.done k h) ∙ twice (get_or word (6 + k) false) (one k) (other k) ∙ ap (λ b. get_or word (6 + k) false && not b) (is k h);
  rest = λ k h. e.rest k h ∙ d.rest k h;
}
  where
    twice : (x a b : Bool) → ((x && not a) && not b) ≡ (x && not (a || b))
    twice true true b = refl
    twice true false b = refl
    twice false a b = refl

-- no register was gone over
pub up_to_begins : (test : ℕ → Bool) (slots : List Slot) (k : ℕ) → IsRanked slots → k < length slots → is_up_to test slots 1 k ≡ false
up_to_begins test slots k ranked h =
    let six = (ranked.may k h).0 in
    let far : nat_lt (slot_at slots k).register 1 ≡ false = grind (arith, nat_tests) in
    ap (λ b. test k && b) far ∙ and_false (test k)
  where
    and_false : (x : Bool) → (x && false) ≡ false
    and_false true = refl
    and_false false = refl

-- one more was
pub up_to_more : (from : ℕ) (to : Option ℕ) (slots : List Slot) (r k : ℕ) → (is_up_to (lies_between from to slots) slots r k || is_between r from to slots k) ≡ is_up_to (lies_between from to slots) slots (r + 1) k
up_to_more from to slots r k = by_test (lies_between from to slots k)
  where
    q : ℕ
    q = (slot_at slots k).register

    next : (nat_lt q r || (q == r)) ≡ nat_lt q (r + 1)
    next = grind (arith, nat_tests)

    and_true : (x : Bool) → (x && true) ≡ x
    and_true true = refl
    and_true false = refl

    and_false : (x : Bool) → (x && false) ≡ false
    and_false true = refl
    and_false false = refl

    by_test : (b : Bool) → ((b && nat_lt q r) || ((q == r) && b)) ≡ (b && nat_lt q (r + 1))
    by_test true = ap (λ x. nat_lt q r || x) (and_true (q == r)) ∙ next
    by_test false = and_false (q == r)

-- all were
pub up_to_ends : (test : ℕ → Bool) (slots : List Slot) (k : ℕ) → IsRanked slots → k < length slots → is_up_to test slots 7 k ≡ test k
up_to_ends test slots k ranked h =
    let six = (ranked.may k h).0 in
    let near : nat_lt (slot_at slots k).register 7 ≡ true = grind (arith, nat_tests) in
    ap (λ b. test k && b) near ∙ and_true (test k)
  where
    and_true : (x : Bool) → (x && true) ≡ x
    and_true true = refl
    and_true false = refl

-- bytes that begin far below 0 meet the slots in a range, where none of them counts as one
pub met_between : (start size n : ℕ) → 2 ^ 62 ≤ start → start < 2 ^ 64 → size < 2 ^ 8 → is_slot_place n ≡ true → overlaps start size n ≡ (nat_le (start - 7) n && nat_lt n (start + max size 1))
unfolding overlaps
met_between start size n h g l place = by_side (cases_lt n start)
  where
    and_true : (x : Bool) → (x && true) ≡ x
    and_true true = refl
    and_true false = refl

    low : 2 ^ 63 ≤ n
    low = grind (arith, nat_tests)

    high : n ≤ 2 ^ 64 - 16
    high = grind (arith, nat_tests)

    by_side : (n < start) ⊎ (start ≤ n) → overlaps start size n ≡ (nat_le (start - 7) n && nat_lt n (start + max size 1))
    by_side (inl s) =
        let x = low in
        let a : nat_lt (gap start n) size ≡ false = grind (arith, nat_tests) in
        let b : nat_lt (gap n start) 8 ≡ nat_le (start - 7) n = grind (arith, nat_tests) in
        let d : nat_lt n (start + max size 1) ≡ true = grind (arith, nat_tests) in
        ap (λ t. t || nat_lt (gap n start) 8) a ∙ b ∙ sym (ap (λ t. nat_le (start - 7) n && t) d ∙ and_true (nat_le (start - 7) n))
    by_side (inr s) =
        let x = low in
        let y = high in
        let a : nat_le (start - 7) n ≡ true = grind (arith, nat_tests) in
        let b : (nat_lt (gap start n) size || nat_lt (gap n start) 8) ≡ nat_lt n (start + max size 1) = grind (arith, nat_tests) in
        b ∙ sym (ap (λ t. t && nat_lt n (start + max size 1)) a)

-- and others none
pub met_none : (start size n : ℕ) → start < 2 ^ 62 → size < 2 ^ 8 → is_slot_place n ≡ true → overlaps start size n ≡ false
unfolding overlaps
met_none start size n h l place = grind (arith, nat_tests)

-- slots below a distance below 0
lower_between : (n limit : ℕ) → 2 ^ 63 ≤ limit → limit < 2 ^ 64 → is_slot_place n ≡ true → below n limit ≡ nat_lt n limit
lower_between n limit h g place = grind (arith, nat_tests)

-- and all below any other
lower_all : (n limit : ℕ) → limit < 2 ^ 63 → is_slot_place n ≡ true → below n limit ≡ true
lower_all n limit h place = grind (arith, nat_tests)

-- slots below a distance, as a range
pub lower_is : (slots : List Slot) (limit k : ℕ) → IsRanked slots → 2 ^ 63 ≤ limit → limit < 2 ^ 64 → k < length slots → lies_between 0 (Some limit) slots k ≡ is_lower limit slots k
lower_is slots limit k ranked h g l =
    let n = (slot_at slots k).distance in
    let a : nat_le 0 n ≡ true = grind (arith, nat_tests) in
    ap (λ b. b && nat_lt n limit) a ∙ sym (lower_between n limit h g (ranked.may k l).1)

pub lower_is_all : (slots : List Slot) (limit k : ℕ) → IsRanked slots → limit < 2 ^ 63 → k < length slots → lies_between 0 None slots k ≡ is_lower limit slots k
lower_is_all slots limit k ranked h l =
    let n = (slot_at slots k).distance in
    let a : nat_le 0 n ≡ true = grind (arith, nat_tests) in
    ap (λ b. b && true) a ∙ sym (lower_all n limit h (ranked.may k l).1)

-- slots that bytes meet, as a range
pub met_is : (slots : List Slot) (span : Span) (to : Option ℕ) (k : ℕ) → IsRanked slots → 2 ^ 62 ≤ span.start → span.start < 2 ^ 64 → span.size < 2 ^ 8 → IsEnd (span.start + max span.size 1) to → k < length slots
    → lies_between (span.start - 7) to slots k ≡ is_met span slots k
met_is slots span to k ranked h g l end s = by_end to end
  where
    n : ℕ
    n = (slot_at slots k).distance

    met : overlaps span.start span.size n ≡ (nat_le (span.start - 7) n && nat_lt n (span.start + max span.size 1))
    met = met_between span.start span.size n h g l (ranked.may k s).1

    by_end : (o : Option ℕ) → IsEnd (span.start + max span.size 1) o → (nat_le (span.start - 7) n && is_before o n) ≡ overlaps span.start span.size n
    by_end None e =
        let small = placed_small n (ranked.may k s).1 in
        let t : nat_lt n (span.start + max span.size 1) ≡ true = grind (arith, nat_tests) in
        ap (λ b. nat_le (span.start - 7) n && b) (sym t) ∙ sym met
    by_end (Some m) e = ap (λ x. nat_le (span.start - 7) n && nat_lt n x) e ∙ sym met
