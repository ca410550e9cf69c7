use Rattle.std.proofs.Common.{◌≡◌, ℕ, ◌<◌, ◌==◌, ◌&&◌, ◌||◌, ◌⊎◌, inl, inr, Bool, true, false, cond, Option, Some, None, refl, sym, ap, subst, ◌∙◌, arith}
use Rattle.std.proofs.lemmas.Bool.Decides.{nat_tests}
use Rattle.insn_effects.specs.declared.effects.Role.{Role}
use Rattle.insn_effects.specs.declared.effects.Role.TheVariants as role
use Rattle.insn_effects.specs.declared.effects.Effect.{Effect}
use Rattle.insn_effects.specs.Followed.{FollowedStore, FollowedLoad, FollowedMove, followed_by, stores_by, loads_by}
use Rattle.stack_depths.specs.Distances.{Distances, has_bit}
use Rattle.stack_facts.specs.declared.values.Clauses.{Clauses}
use Rattle.stack_facts.specs.declared.values.Clauses.TheVariants.{Synthesis, Kept}
use Rattle.stack_facts.specs.declared.values.Slot.{Slot}
use Rattle.stack_facts.specs.Places.{overlaps, gap, is_saved, is_slot_place, fixed, span_at, stored_by, saved_at, saved_by, loaded_at, loaded_by, dropped_by, change_by, moves_to, loads_to, writes}
use Rattle.stack_facts.specs.Facts.{is_at, is_touched}
use Rattle.stack_facts.specs.Sources.{IsChange}

-- both hold
both : (a b : Bool) → (a && b) ≡ true → (a ≡ true) × (b ≡ true)
both true b h = (refl, h)
both false b h = cc

-- numbers of which the test holds
same_number : (a b : ℕ) → (a == b) ≡ true → a ≡ b
same_number a b h = grind (arith, nat_tests)

-- bytes meet the slot where they begin
overlaps_itself : (a size : ℕ) → 0 < size → overlaps a size a ≡ true
unfolding overlaps
overlaps_itself a size h =
    let g : gap a a ≡ 0 = omega arith in
    grind (arith, nat_tests)

-- a number is itself
own_number : (r : ℕ) → (r == r) ≡ true
own_number r = grind (arith, nat_tests)

-- the second of three holds
second_of : (a b c : Bool) → b ≡ true → (a || (b || c)) ≡ true
second_of true b c h = refl
second_of false true c h = refl
second_of false false c h = cc

-- a register that is loaded is written
loads_write : (moves : Option FollowedMove) (loads : Option FollowedLoad) (known : Distances) (bit : ℕ → Bool) (s : Slot) → loaded_by loads known ≡ Some s → (moves_to moves s.register || (loads_to loads s.register || bit s.register)) ≡ true
loads_write moves None known bit s h = cc
loads_write moves (Some l) known bit s h = by_fixed (fixed known l.base l.displacement) h
  where
    by_fixed : (o : Option ℕ) → loaded_at l.register o ≡ Some s → (moves_to moves s.register || (loads_to (Some l) s.register || bit s.register)) ≡ true
    by_fixed None e = cc
    by_fixed (Some a) e = let same : l.register ≡ s.register = cc in second_of (moves_to moves s.register) (l.register == s.register) (bit s.register) (ap (λ q. q == s.register) same ∙ own_number s.register)

-- a save stores there
saves_store : (stores : Option FollowedStore) (known : Distances) (n r : ℕ) → is_at (saved_by stores known) n r ≡ true → is_touched (stored_by stores known) n ≡ true
saves_store None known n r h = cc
saves_store (Some s) known n r h = by_fixed (fixed known s.base s.displacement) h
  where
    by_place : (a : ℕ) (c : Bool) → (is_saved s.register && (s.size == 8 && is_slot_place a)) ≡ c → is_at (cond c (Some (record { distance = a; register = s.register })) None) n r ≡ true → overlaps a s.size n ≡ true
    by_place a false t e = cc
    by_place a true t e =
        let at : a ≡ n = same_number a n (both (a == n) (s.register == r) e).0 in
        let size : s.size ≡ 8 = same_number s.size 8 (both (s.size == 8) (is_slot_place a) (both (is_saved s.register) (s.size == 8 && is_slot_place a) t).1).0 in
        let own = overlaps_itself a s.size (omega arith) in
        let P : ℕ → Type 0 = λ x. overlaps a s.size x ≡ true in
        subst P at own

    by_fixed : (o : Option ℕ) → is_at (saved_at s.register s.size o) n r ≡ true → is_touched (span_at s.size o) n ≡ true
    by_fixed None e = cc
    by_fixed (Some a) e = by_place a (is_saved s.register && (s.size == 8 && is_slot_place a)) refl e

-- a slot that may be made is of one of the six
pub saved_six : (stores : Option FollowedStore) (known : Distances) (n r : ℕ) → is_at (saved_by stores known) n r ≡ true → is_saved r ≡ true
saved_six None known n r h = cc
saved_six (Some s) known n r h = by_fixed (fixed known s.base s.displacement) h
  where
    by_place : (a : ℕ) (c : Bool) → (is_saved s.register && (s.size == 8 && is_slot_place a)) ≡ c → is_at (cond c (Some (record { distance = a; register = s.register })) None) n r ≡ true → is_saved r ≡ true
    by_place a false t e = cc
    by_place a true t e =
        let who : s.register ≡ r = same_number s.register r (both (a == n) (s.register == r) e).1 in
        ap is_saved (sym who) ∙ (both (is_saved s.register) (s.size == 8 && is_slot_place a) t).0

    by_fixed : (o : Option ℕ) → is_at (saved_at s.register s.size o) n r ≡ true → is_saved r ≡ true
    by_fixed None e = cc
    by_fixed (Some a) e = by_place a (is_saved s.register && (s.size == 8 && is_slot_place a)) refl e

-- and lies at a place of slots
pub saved_place : (stores : Option FollowedStore) (known : Distances) (n r : ℕ) → is_at (saved_by stores known) n r ≡ true → is_slot_place n ≡ true
saved_place None known n r h = cc
saved_place (Some s) known n r h = by_fixed (fixed known s.base s.displacement) h
  where
    by_place : (a : ℕ) (c : Bool) → (is_saved s.register && (s.size == 8 && is_slot_place a)) ≡ c → is_at (cond c (Some (record { distance = a; register = s.register })) None) n r ≡ true → is_slot_place n ≡ true
    by_place a false t e = cc
    by_place a true t e =
        let at : a ≡ n = same_number a n (both (a == n) (s.register == r) e).0 in
        ap is_slot_place (sym at) ∙ (both (s.size == 8) (is_slot_place a) (both (is_saved s.register) (s.size == 8 && is_slot_place a) t).1).1

    by_fixed : (o : Option ℕ) → is_at (saved_at s.register s.size o) n r ≡ true → is_slot_place n ≡ true
    by_fixed None e = cc
    by_fixed (Some a) e = by_place a (is_saved s.register && (s.size == 8 && is_slot_place a)) refl e

-- no item both stores and loads
one_access : (own : Role) (e : Effect) → (stores_by own e ≡ None) ⊎ (loads_by own e ≡ None)
one_access role.Pop e = inl refl
one_access role.Load e = inl refl
one_access role.Leave e = inl refl
one_access _ e = inr refl

-- what saves loads nothing from there
saves_only : (e : Effect) (known : Distances) (n r : ℕ) → is_at (saved_by (stores_by e.role e) known) n r ≡ true → is_at (loaded_by (loads_by e.role e) known) n r ≡ false
saves_only e known n r h = by_access (one_access e.role e)
  where
    by_access : (stores_by e.role e ≡ None) ⊎ (loads_by e.role e ≡ None) → is_at (loaded_by (loads_by e.role e) known) n r ≡ false
    by_access (inl none) = absurd (nothing (ap (λ s. is_at (saved_by s known) n r) (sym none) ∙ h))
      where
        nothing : false ≡ true → ⊥
        nothing x = cc
    by_access (inr none) = ap (λ l. is_at (loaded_by l known) n r) none

-- a kept slot is not dropped
drops_less : (by : Clauses) (loaded : Option Slot) (n r : ℕ) → is_at loaded n r ≡ false → is_at (dropped_by by loaded) n r ≡ false
drops_less Synthesis loaded n r h = h
drops_less Kept loaded n r h = refl

-- what the law of one source asks for holds of each effect
pub is_change : (by : Clauses) (e : Effect) (known : Distances) → IsChange (writes (followed_by e)) (change_by by (followed_by e) known)
is_change by e known = record {
  loads_write = λ s h. loads_write (followed_by e).moves (followed_by e).loads known (has_bit e.written) s h;
  saves_store = λ n r h. saves_store (followed_by e).stores known n r h;
  saves_only = λ n r h. drops_less by (loaded_by (loads_by e.role e) known) n r (saves_only e known n r h);
}
