use Rattle.std.proofs.Common.{◌≡◌, ℕ, ◌+◌, ◌-◌, ◌/◌, ◌%◌, ◌^◌, ◌<◌, ◌≤◌, ◌==◌, ◌||◌, ◌&&◌, not, nat_lt, Bool, true, false, if◌then◌else◌, Option, Some, None, List, length, get_or, refl, sym, ap, ◌∙◌, arith}
use Rattle.std.proofs.lemmas.Bool.Decides.{nat_tests}
use Rattle.std.proofs.lemmas.Nat.{shr-shr}
use Rattle.std.proofs.lemmas.Nat.Bits.{bit_at-zero}
use Rattle.insn_effects.specs.declared.effects.Role.{Role}
use Rattle.insn_effects.specs.declared.effects.Role.TheVariants as role
use Rattle.insn_effects.specs.declared.effects.Effect.{Effect}
use Rattle.insn_effects.specs.Followed.{FollowedMove, FollowedStore, FollowedLoad, Followed, followed_by, moves_by, stores_by, loads_by, calls_by}
use Rattle.stack_depths.specs.Distances.{Distances, has_bit}
use Rattle.stack_facts.specs.declared.values.Clauses.{Clauses}
use Rattle.stack_facts.specs.declared.values.Clauses.TheVariants.{Synthesis, Kept}
use Rattle.stack_facts.specs.declared.values.Slot.{Slot}
use Rattle.stack_facts.specs.declared.values.Change.{Change}
use Rattle.stack_facts.specs.Places.{below, floor_by, is_saved, dropped_by, change_by, moves_to, loads_to, writes, nothing_followed, is_quiet_role}
use Rattle.stack_facts.specs.Facts.{Fact, entry, slot, is_below, loads_own, facts_after, IsSlotOf}
use Rattle.stack_facts.specs.Sets.{place_of, holds_in}

-- what is followed, by its parts
abbrev made : Option FollowedMove → ℕ → Option FollowedStore → Option FollowedLoad → Bool → Followed
made m w s l c = record { moves = m; written = w; stores = s; loads = l; calls = c }

-- nothing is followed of an item of a quiet role that writes nothing
pub quiet_followed : (e : Effect) → is_quiet_role e.role ≡ true → e.written ≡ 0 → followed_by e ≡ nothing_followed
quiet_followed e quiet none = by_role e.role refl quiet
  where
    by_parts : (own : Role) → e.role ≡ own → followed_by e ≡ made (moves_by own e) 0 (stores_by own e) (loads_by own e) (calls_by own)
    by_parts own is =
        ap (λ r. made (moves_by r e) e.written (stores_by r e) (loads_by r e) (calls_by r)) is
        ∙ ap (λ n. made (moves_by own e) n (stores_by own e) (loads_by own e) (calls_by own)) none

    by_role : (own : Role) → e.role ≡ own → is_quiet_role own ≡ true → followed_by e ≡ nothing_followed
    by_role role.Other is q = by_parts role.Other is
    by_role role.Jump is q = by_parts role.Jump is
    by_role role.Branch is q = by_parts role.Branch is
    by_role role.Return is q = by_parts role.Return is
    by_role role.Padding is q = by_parts role.Padding is
    by_role _ is q = cc

-- no bit of 0 is 1
no_bit : (r : ℕ) → has_bit 0 r ≡ false
no_bit r = ap (λ x. x == 1) (bit_at-zero r)

-- what holds with what does
and_true : (a : Bool) → (a && true) ≡ a
and_true true = refl
and_true false = refl

-- what holds with what does not
and_false : (a : Bool) → (a && false) ≡ false
and_false true = refl
and_false false = refl

-- no distance is below itself
not_below_itself : (n : ℕ) → below n n ≡ false
not_below_itself n = grind (arith, nat_tests)

-- an rsp that stays does not rise
no_floor : (o : Option ℕ) (n : ℕ) → is_below (floor_by o o) n ≡ false
no_floor None n = refl
no_floor (Some k) n = ap (λ b. is_below (if b then Some k else None) n) (not_below_itself k)

-- what stays of a slot
slot_stays : (x b : Bool) → b ≡ false → (((x && true) && true) && not b) ≡ x
slot_stays true false h = refl
slot_stays false false h = refl
slot_stays x true h = cc

-- where nothing is followed of an item, the same facts stand after it
nothing_changes : (by : Clauses) (known : Distances) (stood : Fact → Bool) (f : Fact) → facts_after (writes nothing_followed) (change_by by nothing_followed known) stood f ≡ stood f
nothing_changes by known stood (entry r) = ap (λ b. stood (entry r) && not b) (no_bit r) ∙ and_true (stood (entry r))
nothing_changes Synthesis known stood (slot n r) = slot_stays (stood (slot n r)) (is_below (floor_by (known 0) (known 0)) n) (no_floor (known 0) n)
nothing_changes Kept known stood (slot n r) = slot_stays (stood (slot n r)) false refl

-- the same of an item of which nothing is followed
pub quiet_after : (by : Clauses) (e : Effect) (known : Distances) (stood : Fact → Bool) (f : Fact) → followed_by e ≡ nothing_followed
    → facts_after (writes (followed_by e)) (change_by by (followed_by e) known) stood f ≡ stood f
quiet_after by e known stood f quiet = ap (λ g. facts_after (writes g) (change_by by g known) stood f) quiet ∙ nothing_changes by known stood f

-- an entry value that is neither loaded nor written stays
pub kept_entry : (slots : List Slot) (written : ℕ → Bool) (c : Change) (before : List Bool) (k : ℕ) → k < 6 → c.loaded ≡ None → written (k + 1) ≡ false
    → get_or before k false ≡ facts_after written c (holds_in slots before) (entry (k + 1))
kept_entry slots written c before k h none unwritten =
    let six : is_saved (k + 1) ≡ true = grind (arith, nat_tests) in
    let back : k ≡ k + 1 - 1 = omega arith in
    let own : loads_own c.loaded (holds_in slots before) (k + 1) ≡ false = ap (λ o. loads_own o (holds_in slots before) (k + 1)) none in
    ap (λ m. get_or before m false) back
    ∙ sym (and_true (get_or before (k + 1 - 1) false))
    ∙ sym (ap (λ b. b || ((is_saved (k + 1) && get_or before (k + 1 - 1) false) && not (written (k + 1)))) own
    ∙ ap (λ b. (b && get_or before (k + 1 - 1) false) && not (written (k + 1))) six
    ∙ ap (λ b. get_or before (k + 1 - 1) false && not b) unwritten)

-- no slot stands in a set of entry values alone
pub short_best : (slots : List Slot) (bits : List Bool) (r : ℕ) → ((k : ℕ) → 6 ≤ k → get_or bits k false ≡ false) → IsSlotOf (holds_in slots bits) r None
short_best slots bits r h = λ n.
    ap (λ b. nat_lt (place_of slots n r) (length slots) && b) (h (6 + place_of slots n r) (omega arith)) ∙ and_false (nat_lt (place_of slots n r) (length slots))

-- sets with the same bits have the same facts
pub same_facts : (slots : List Slot) (one other : List Bool) (f : Fact) → ((k : ℕ) → get_or one k false ≡ get_or other k false) → holds_in slots one f ≡ holds_in slots other f
same_facts slots one other (entry r) h = ap (λ b. is_saved r && b) (h (r - 1))
same_facts slots one other (slot n r) h = ap (λ b. nat_lt (place_of slots n r) (length slots) && b) (h (6 + place_of slots n r))

-- no higher bit of a number below 2 is 1
none_high : (written r : ℕ) → written < 2 → 0 < r → has_bit written r ≡ false
none_high written r h l =
    let e : r ≡ 1 + (r - 1) = omega arith in
    let none : written / 2 ^ 1 ≡ 0 = omega arith in
    ap (λ m. has_bit written m) e ∙ ap (λ x. x % 2 == 1) (sym (shr-shr written 1 (r - 1)) ∙ ap (λ x. x / 2 ^ (r - 1)) none) ∙ no_bit (r - 1)

-- an item that moves none of the six, loads none and writes rsp at most
pub none_written : (e : Effect) (moves : Option FollowedMove) (loads : Option FollowedLoad) → moves ≡ moves_by e.role e → loads ≡ loads_by e.role e → e.written < 2
    → ((r : ℕ) → 0 < r → moves_to moves r ≡ false) → loads ≡ None → (r : ℕ) → 0 < r → writes (followed_by e) r ≡ false
none_written e moves loads is_moves is_loads small move none r some =
    ap (λ m. moves_to m r || (loads_to (loads_by e.role e) r || has_bit e.written r)) (sym is_moves)
    ∙ ap (λ b. b || (loads_to (loads_by e.role e) r || has_bit e.written r)) (move r some)
    ∙ ap (λ l. loads_to l r || has_bit e.written r) (sym is_loads ∙ none)
    ∙ none_high e.written r small some
