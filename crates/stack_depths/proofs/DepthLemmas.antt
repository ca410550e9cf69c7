use Rattle.std.proofs.Common.{◌≡◌, ℕ, zero, suc, ◌+◌, ◌-◌, ◌%◌, ◌^◌, ◌<◌, ◌≤◌, ◌≢◌, ◌==◌, ◌&&◌, nat_lt, Bool, true, false, cond, if◌then◌else◌, List, [], ◌∷◌, length, get_or, slice_get, slice_set, ◌↔◌, is_some, sum_by, Option, Some, None, refl, sym, ap, arith, ◌∙◌, get_or-set_same, get_or-set_other}
use Rattle.std.proofs.lemmas.Bool.Decides.{nat_tests}
use Rattle.std.proofs.lemmas.List.Sums.{sum_by-cons}
use Rattle.std.proofs.lemmas.Nat.Bits.{bit_at-zero}
use Rattle.work_lists.specs.Exact.{Fact, says, carried_from, carries, look, IsExactAt, AreExact}
use Rattle.flow_graph.specs.declared.nodes.Node.{Node}
use Rattle.flow_graph.specs.Walks.{successor_lists, IsWalk}
use Rattle.insn_effects.specs.Followed.{FollowedMove, followed_by}
use Rattle.code_functions.specs.declared.items.CodeItem.{CodeItem}
use Rattle.stack_depths.specs.declared.values.Distance.{Distance}
use Rattle.stack_depths.specs.Distances.{has_bit, unless_written, sum_of, moved_by, distance_over, entry_distance, distances_along, AreDistances, AreReached}
use Rattle.stack_depths.specs.States.{value_of, known, known_at, distances_in, reached_in, meet_of, is_number, lies, source_unless, source_moved, source_by, source_over, held, depth_rules}
use Rattle.stack_depths.proofs.WayLemmas.{listed, unlisted, no_walks}

-- no more distances are known than there are registers
pub weight_of : (s : List (Option Distance)) → sum_by held s ≤ length s
weight_of [] = omega arith
weight_of (None ∷ s) = let i = weight_of s in let e = sum_by-cons held None s in omega arith
weight_of (Some d ∷ s) = let i = weight_of s in let e = sum_by-cons held (Some d) s in omega arith

-- where nothing is written no register is
no_bit : (q : ℕ) → has_bit 0 q ≡ false
no_bit q = ap (λ x. x == 1) (bit_at-zero q)

-- the same of a move
pub unwritten : (moves : Option FollowedMove) (written : ℕ) (before : ℕ → Option ℕ) (q : ℕ) → written ≡ 0 → moved_by moves false before q ≡ moved_by moves (has_bit written q) before q
unwritten moves written before q e = ap (λ b. moved_by moves b before q) (sym (ap (λ n. has_bit n q) e ∙ no_bit q))

-- a register that does not move keeps its distance
pub unmoved_alone : (out before : List (Option Distance)) (q : ℕ) → out ≡ before → known out q ≡ moved_by None false (known before) q
unmoved_alone out before q e = ap (λ s. known s q) e

-- one register moves, and the others keep their distances
pub moved_one : (before : List (Option Distance)) (m : FollowedMove) (to : ℕ) (x : Option Distance) (q : ℕ) → length before ≡ 7 → to ≡ m.to → to < 7 → q < 7
    → value_of x ≡ sum_of (known before m.base) m.add → known (slice_set before to x) q ≡ moved_by (Some m) false (known before) q
moved_one before m to x q long is inside small sum = by_test (m.to == q) refl
  where
    by_test : (b : Bool) → (m.to == q) ≡ b → known (slice_set before to x) q ≡ cond b (sum_of (known before m.base) m.add) (known before q)
    by_test true t =
        let same : q ≡ to = grind (arith, nat_tests) in
        ap (known (slice_set before to x)) same ∙ ap value_of (get_or-set_same before to x None (omega arith)) ∙ sum
    by_test false t =
        let apart : q ≢ to = grind (arith, nat_tests) in
        ap value_of (get_or-set_other before to q x None apart)

-- no register of the seven moves
pub moved_none : (before : List (Option Distance)) (m : FollowedMove) (q : ℕ) → 7 ≤ m.to → q < 7 → known before q ≡ moved_by (Some m) false (known before) q
moved_none before m q far small =
    let other : (m.to == q) ≡ false = grind (arith, nat_tests) in
    sym (ap (λ b. cond b (sum_of (known before m.base) m.add) (known before q)) other)

-- a known distance is below 2 ^ 64
pub fits_of : (s : List (Option Distance)) (q d : ℕ) → known s q ≡ Some d → d < 2 ^ 64
fits_of s q d h = by_value (get_or s q None) h
  where
    by_value : (o : Option Distance) → value_of o ≡ Some d → d < 2 ^ 64
    by_value None e = cc
    by_value (Some x) e = let f = x.fits in let same : x.value ≡ d = cc in omega arith

-- behind the last register nothing is known
pub past_of : (s : List (Option Distance)) (q : ℕ) → length s ≤ q → known s q ≡ None
past_of [] q h = refl
past_of (x ∷ s) zero h = absurd (omega arith)
past_of (x ∷ s) (suc q) h = past_of s q (omega arith)

-- two tests that hold together are the same
same_tests : (a b c d : ℕ) → (a ≡ b → c ≡ d) → (c ≡ d → a ≡ b) → (a == b) ≡ (c == d)
same_tests a b c d f g = grind (arith, nat_tests)

-- a sum is a number where the distance is what is left of it
added : (d more k : ℕ) → d < 2 ^ 64 → k < 2 ^ 64 → ((d + more) % (2 ^ 64) == k) ≡ (d == (k + (2 ^ 64 - more % (2 ^ 64))) % (2 ^ 64))
added d more k h l = same_tests ((d + more) % (2 ^ 64)) k d ((k + (2 ^ 64 - more % (2 ^ 64))) % (2 ^ 64)) (λ e. omega arith) (λ e. omega arith)

-- no distance is a number of more than 64 bits
too_large : (n k : ℕ) → nat_lt k (2 ^ 64) ≡ false → (n % (2 ^ 64) == k) ≡ false
too_large n k h = let b : n % (2 ^ 64) < 2 ^ 64 = omega arith in grind (arith, nat_tests)

-- nothing holds with what does not
both_false : (a : Bool) → (a && false) ≡ false
both_false true = refl
both_false false = refl

-- of a register that moves
sum_case : (o : Option ℕ) (before : ℕ → Option ℕ) (m : FollowedMove) (k : ℕ) (b : Bool) → before m.base ≡ o → nat_lt k (2 ^ 64) ≡ b → ((d : ℕ) → o ≡ Some d → (d < 2 ^ 64) × (nat_lt m.base 7 ≡ true)) → is_number (sum_of o m.add) k ≡ carried_from (lies before) (cond b (Some (says m.base ((k + (2 ^ 64 - m.add % (2 ^ 64))) % (2 ^ 64)))) None)
sum_case None before m k true e t range = sym (ap (λ o. nat_lt m.base 7 && is_number o ((k + (2 ^ 64 - m.add % (2 ^ 64))) % (2 ^ 64))) e ∙ both_false (nat_lt m.base 7))
sum_case None before m k false e t range = refl
sum_case (Some d) before m k true e t range =
    let r = range d refl in
    let small : k < 2 ^ 64 = grind (arith, nat_tests) in
    added d m.add k r.0 small ∙ sym (ap (λ o. nat_lt m.base 7 && is_number o ((k + (2 ^ 64 - m.add % (2 ^ 64))) % (2 ^ 64))) e ∙ ap (λ b. b && (d == (k + (2 ^ 64 - m.add % (2 ^ 64))) % (2 ^ 64))) r.1)
sum_case (Some d) before m k false e t range = too_large (d + m.add) k t

-- of one that does not move
kept_case : (before : ℕ → Option ℕ) (w : Bool) (q k : ℕ) → nat_lt q 7 ≡ true → is_number (unless_written w (before q)) k ≡ carried_from (lies before) (source_unless w q k)
kept_case before true q k h = refl
kept_case before false q k h = sym (ap (λ b. b && is_number (before q) k) h)

-- of both, by the move
moved_case : (mv : Option FollowedMove) (before : ℕ → Option ℕ) (w : Bool) (q k : ℕ) → nat_lt q 7 ≡ true → ((p d : ℕ) → before p ≡ Some d → (d < 2 ^ 64) × (nat_lt p 7 ≡ true)) → is_number (moved_by mv w before q) k ≡ carried_from (lies before) (source_by mv w q k)
moved_case None before w q k h range = kept_case before w q k h
moved_case (Some m) before w q k h range = by_test (m.to == q)
  where
    by_test : (b : Bool) → is_number (cond b (sum_of (before m.base) m.add) (unless_written w (before q))) k ≡ carried_from (lies before) (cond b (source_moved m k) (source_unless w q k))
    by_test true = sum_case (before m.base) before m k (nat_lt k (2 ^ 64)) refl refl (range m.base)
    by_test false = kept_case before w q k h

-- what a state knows is in range
range_of : (s : List (Option Distance)) → length s ≡ 7 → (p d : ℕ) → known s p ≡ Some d → (d < 2 ^ 64) × (nat_lt p 7 ≡ true)
range_of s l p d e = (fits_of s p d e, by_test (nat_lt p 7) refl)
  where
    by_test : (b : Bool) → nat_lt p 7 ≡ b → b ≡ true
    by_test true t = refl
    by_test false t = let far : length s ≤ p = let g : 7 ≤ p = grind (arith, nat_tests) in omega arith in let n = past_of s p far in cc

-- known distances are numbers of 64 bits, of the seven alone
abbrev pub IsInRange : (ℕ → Option ℕ) → Type 0
IsInRange before = (p d : ℕ) → before p ≡ Some d → (d < 2 ^ 64) × (nat_lt p 7 ≡ true)

-- the facts after an item come from those before it
pub over_case : (o : Option CodeItem) (before after : ℕ → Option ℕ) → IsInRange before → ((q : ℕ) → q < 7 → after q ≡ distance_over o before q) → (f : Fact) → lies after f ≡ carried_from (lies before) (source_over o f)
over_case None before after range h (says q k) = by_test (nat_lt q 7) refl
  where
    by_test : (b : Bool) → nat_lt q 7 ≡ b → (b && is_number (after q) k) ≡ (b && is_number (before q) k)
    by_test true e = let small : q < 7 = grind (arith, nat_tests) in ap (λ o. is_number o k) (h q small)
    by_test false e = refl
over_case (Some x) before after range h (says q k) = by_test (nat_lt q 7) refl
  where
    by_test : (b : Bool) → nat_lt q 7 ≡ b → (b && is_number (after q) k) ≡ carried_from (lies before) (cond b (source_by (followed_by x.effect).moves (has_bit x.effect.written q) q k) None)
    by_test true e = let small : q < 7 = grind (arith, nat_tests) in ap (λ o. is_number o k) (h q small) ∙ moved_case (followed_by x.effect).moves before (has_bit x.effect.written q) q k e range
    by_test false e = refl

-- the same of two states
pub after_case : (o : Option CodeItem) (s t : List (Option Distance)) → length s ≡ 7 → ((q : ℕ) → q < 7 → known t q ≡ distance_over o (known s) q) → (f : Fact) → lies (known t) f ≡ carried_from (lies (known s)) (source_over o f)
after_case o s t l h f = over_case o (known s) (known t) (range_of s l) h f

-- two distances agree on a number where both are it
met : (a b : Option ℕ) (k : ℕ) → is_number (meet_of a b) k ≡ (is_number a k && is_number b k)
met None b k = refl
met (Some a) None k = sym (both_false (a == k))
met (Some a) (Some b) k = by_test (a == b) refl
  where
    by_test : (c : Bool) → (a == b) ≡ c → is_number (cond c (Some a) None) k ≡ ((a == k) && (b == k))
    by_test c e = grind (arith, nat_tests)

-- the same of two states
pub met_case : (s from t : List (Option Distance)) → ((q : ℕ) → q < 7 → known t q ≡ meet_of (known s q) (known from q)) → (f : Fact) → lies (known t) f ≡ (lies (known s) f && lies (known from) f)
met_case s from t h (says q k) = by_test (nat_lt q 7) refl
  where
    by_test : (b : Bool) → nat_lt q 7 ≡ b → (b && is_number (known t q) k) ≡ ((b && is_number (known s q) k) && (b && is_number (known from q) k))
    by_test true e = let small : q < 7 = grind (arith, nat_tests) in ap (λ o. is_number o k) (h q small) ∙ met (known s q) (known from q) k
    by_test false e = refl

-- along walks
sum_range : (o : Option ℕ) (more d : ℕ) → sum_of o more ≡ Some d → d < 2 ^ 64
sum_range None more d h = cc
sum_range (Some x) more d h = let e : (x + more) % (2 ^ 64) ≡ d = cc in omega arith

-- a register that is not written has the distance that it had
kept_range : (w : Bool) (o : Option ℕ) (d : ℕ) → unless_written w o ≡ Some d → o ≡ Some d
kept_range true o d h = cc
kept_range false o d h = h

-- distances after an item are in range
over_range : (o : Option CodeItem) (before : ℕ → Option ℕ) (q d : ℕ) → IsInRange before → distance_over o before q ≡ Some d → d < 2 ^ 64
over_range None before q d range h = (range q d h).0
over_range (Some x) before q d range h = by_move (followed_by x.effect).moves h
  where
    by_move : (m : Option FollowedMove) → moved_by m (has_bit x.effect.written q) before q ≡ Some d → d < 2 ^ 64
    by_move None g = (range q d (kept_range (has_bit x.effect.written q) (before q) d g)).0
    by_move (Some m) g = by_test (m.to == q) g
      where
        by_test : (b : Bool) → cond b (sum_of (before m.base) m.add) (unless_written (has_bit x.effect.written q) (before q)) ≡ Some d → d < 2 ^ 64
        by_test true k = sum_range (before m.base) m.add d k
        by_test false k = (range q d (kept_range (has_bit x.effect.written q) (before q) d k)).0

-- so are those at entry
entry_range : IsInRange entry_distance
entry_range p d h = by_test (p == 0) refl h
  where
    by_test : (b : Bool) → (p == 0) ≡ b → cond b (Some (2 ^ 64 - 8)) None ≡ Some d → (d < 2 ^ 64) × (nat_lt p 7 ≡ true)
    by_test true e g = let n : 2 ^ 64 - 8 ≡ d = cc in let z : p ≡ 0 = grind (arith, nat_tests) in (omega arith, ap (λ x. nat_lt x 7) z)
    by_test false e g = cc

-- so are those of the seven alone
guarded_range : (o : Option CodeItem) (before : ℕ → Option ℕ) → IsInRange before → IsInRange (λ q. if nat_lt q 7 then distance_over o before q else None)
guarded_range o before range p d h = by_test (nat_lt p 7) refl h
  where
    by_test : (b : Bool) → nat_lt p 7 ≡ b → cond b (distance_over o before p) None ≡ Some d → (d < 2 ^ 64) × (nat_lt p 7 ≡ true)
    by_test true e g = (over_range o before p d range g, e)
    by_test false e g = cc

-- so are those along a walk
along_range : (items : List CodeItem) (w : List ℕ) → IsInRange (distances_along items w)
along_range items [] = entry_range
along_range items (i ∷ w) = guarded_range (slice_get items i) (distances_along items w) (along_range items w)

-- facts that come from sets that are the same
same_carried : (a b : Fact → Bool) (o : Option Fact) → ((f : Fact) → a f ≡ b f) → carried_from a o ≡ carried_from b o
same_carried a b None h = refl
same_carried a b (Some f) h = h f

-- the test of the seven holds of each of them
guarded : (o : Option CodeItem) (before : ℕ → Option ℕ) (q : ℕ) → q < 7 → (if nat_lt q 7 then distance_over o before q else None) ≡ distance_over o before q
guarded o before q h = let e : nat_lt q 7 ≡ true = grind (arith, nat_tests) in ap (λ b. cond b (distance_over o before q) None) e

-- a walk carries the facts of its distances
pub along_carries : (items : List CodeItem) (w : List ℕ) (f : Fact) → carries (depth_rules items) w f ≡ lies (distances_along items w) f
unfolding depth_rules
along_carries items [] f = refl
along_carries items (i ∷ w) f =
    same_carried (carries (depth_rules items) w) (lies (distances_along items w)) (source_over (slice_get items i) f) (λ g. along_carries items w g) ∙ sym (over_case (slice_get items i) (distances_along items w) (distances_along items (i ∷ w)) (along_range items w) (λ q h. guarded (slice_get items i) (distances_along items w) q h) f)

-- a distance that is a number
numbered : (o : Option ℕ) (k : ℕ) → is_number o k ≡ true → o ≡ Some k
numbered None k h = cc
numbered (Some d) k h = let e : d ≡ k = grind (arith, nat_tests) in ap Some e

-- and back
number_of : (o : Option ℕ) (k : ℕ) → o ≡ Some k → is_number o k ≡ true
number_of o k h = ap (λ x. is_number x k) h ∙ same k
  where
    same : (n : ℕ) → (n == n) ≡ true
    same n = grind (arith, nat_tests)

-- where a walk leads there, and every walk gives this distance
abbrev IsAgreed : List Node → List CodeItem → (j q k : ℕ) → Type 0
IsAgreed nodes items j q k = ((w : List ℕ) × IsWalk nodes w j) × ((w : List ℕ) → IsWalk nodes w j → distances_along items w q ≡ Some k)

-- what a state knows is what all walks give
at_state : (nodes : List Node) (items : List CodeItem) (j q k : ℕ) (o : Option (List (Option Distance))) → 0 < length nodes → nat_lt q 7 ≡ true → IsExactAt (depth_rules items) (successor_lists nodes) j o → (known_at o q ≡ Some k) ↔ IsAgreed nodes items j q k
unfolding depth_rules
at_state nodes items j q k None some inside e = (λ h. cc, λ h. absurd (e h.0.0 (listed nodes h.0.0 j h.0.1)))
at_state nodes items j q k (Some s) some inside e = (
  λ h. ((e.0.0, unlisted nodes e.0.0 j some e.0.1), λ w walk. numbered (distances_along items w q) k (sym (along w) ∙ (e.1 (says q k)).0 (ap (λ b. b && is_number (known s q) k) inside ∙ number_of (known s q) k h) w (listed nodes w j walk))),
  λ h. numbered (known s q) k (sym (ap (λ b. b && is_number (known s q) k) inside) ∙ (e.1 (says q k)).1 (λ w walk. along w ∙ number_of (distances_along items w q) k (h.1 w (unlisted nodes w j some walk)))),
)
  where
    along : (w : List ℕ) → carries (depth_rules items) w (says q k) ≡ is_number (distances_along items w q) k
    along w = along_carries items w (says q k) ∙ ap (λ b. b && is_number (distances_along items w q) k) inside

-- what the work list answers is what all walks agree on
pub exact_distances : (nodes : List Node) (items : List CodeItem) (states : List (Option (List (Option Distance)))) → 0 < length nodes → AreExact (depth_rules items) (successor_lists nodes) states → AreDistances nodes items (distances_in states)
unfolding distances_in
exact_distances nodes items states some exact j q k = by_range (nat_lt q 7) refl
  where
    by_range : (b : Bool) → nat_lt q 7 ≡ b → (cond b (known_at (look states j) q) None ≡ Some k) ↔ IsAgreed nodes items j q k
    by_range true inside = at_state nodes items j q k (look states j) some inside (exact.1 j)
    by_range false far = (λ h. cc, λ h. let r = along_range items h.0.0 q k (h.1 h.0.0 h.0.1) in cc (r.1))

-- the items that have a state are those with a walk
pub exact_reached : (nodes : List Node) (items : List CodeItem) (states : List (Option (List (Option Distance)))) → 0 < length nodes → AreExact (depth_rules items) (successor_lists nodes) states → AreReached nodes (reached_in states)
unfolding reached_in
exact_reached nodes items states some exact j = by_state (look states j) (exact.1 j)
  where
    by_state : (o : Option (List (Option Distance))) → IsExactAt (depth_rules items) (successor_lists nodes) j o → (is_some o ≡ true) ↔ ((w : List ℕ) × IsWalk nodes w j)
    by_state None e = (λ h. cc, λ h. absurd (e h.0 (listed nodes h.0 j h.1)))
    by_state (Some s) e = (λ h. (e.0.0, unlisted nodes e.0.0 j some e.0.1), λ h. refl)

-- nothing is known in a function without items
pub no_distances : (nodes : List Node) (items : List CodeItem) (states : List (Option (List (Option Distance)))) → length nodes ≡ 0 → states ≡ [] → AreDistances nodes items (distances_in states)
unfolding distances_in
no_distances nodes items states none e j q k = (λ h. absurd (nothing (nat_lt q 7) (ap (λ x. cond (nat_lt q 7) (known_at (look x j) q) None) (sym e) ∙ h)), λ h. absurd (no_walks nodes h.0.0 j none h.0.1))
  where
    nothing : (b : Bool) → cond b None None ≡ Some k → ⊥
    nothing true h = cc
    nothing false h = cc

-- no walk leads to any item there
pub none_reached : (nodes : List Node) (states : List (Option (List (Option Distance)))) → length nodes ≡ 0 → states ≡ [] → AreReached nodes (reached_in states)
unfolding reached_in
none_reached nodes states none e j = (λ h. absurd (nothing (ap (λ x. is_some (look x j)) (sym e) ∙ h)), λ h. absurd (no_walks nodes h.0 j none h.1))
  where
    nothing : false ≡ true → ⊥
    nothing h = cc
