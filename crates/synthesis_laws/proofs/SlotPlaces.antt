-- Slots that walks carry lie at places of slots.
use Rattle.std.proofs.Common.{◌≡◌, ℕ, ◌==◌, ◌&&◌, ◌||◌, ◌⊎◌, inl, inr, Bool, true, false, cond, Option, Some, None, List, [], ◌∷◌, slice_get, refl, subst, arith}
use Rattle.std.proofs.lemmas.Bool.Decides.{nat_tests}
use Rattle.insn_effects.specs.Followed.{FollowedStore, followed_by}
use Rattle.code_functions.specs.declared.items.CodeItem.{CodeItem}
use Rattle.flow_graph.specs.declared.nodes.Node.{Node}
use Rattle.stack_depths.specs.Distances.{Distances}
use Rattle.stack_facts.specs.Places.{below, fixed, saved_at, saved_by, change_of, is_saved, is_slot_place}
use Rattle.stack_facts.specs.Facts.{Fact, slot, is_at, facts_over, facts_along, AreFacts}

-- a slot that stands was made, or stood
carried : (made own stood kept left risen : Bool) → ((((made && own) || (stood && kept)) && left) && risen) ≡ true → (made ≡ true) ⊎ (stood ≡ true)
carried true own stood kept left risen h = inl refl
carried false own true kept left risen h = inr refl
carried false own false kept left risen h = cc

-- a first test that is met with another
met : (a b : Bool) → (a && b) ≡ true → a ≡ true
met true b h = refl
met false b h = cc

-- and the second
met_too : (a b : Bool) → (a && b) ≡ true → b ≡ true
met_too true b h = h
met_too false b h = absurd (let none : ⊥ = cc in none)

-- numbers that are tested
tested : (m n : ℕ) → (m == n) ≡ true → m ≡ n
tested m n h = grind (arith, nat_tests)

-- one that is made lies at a place of slots
made_at : (register size : ℕ) (at : Option ℕ) (n r : ℕ) → is_at (saved_at register size at) n r ≡ true → is_slot_place n ≡ true
made_at register size None n r h = absurd (let none : ⊥ = cc in none)
made_at register size (Some m) n r h = by (is_saved register && (size == 8 && is_slot_place m)) refl h
  where
    by : (b : Bool) → (is_saved register && (size == 8 && is_slot_place m)) ≡ b
        → is_at (cond b (Some (record { distance = m; register = register })) None) n r ≡ true → is_slot_place n ≡ true
    by false may is = absurd (let none : ⊥ = cc in none)
    by true may is =
        subst (λ x. is_slot_place x ≡ true) (tested m n (met (m == n) (register == r) is))
        (met_too (size == 8) (is_slot_place m) (met_too (is_saved register) (size == 8 && is_slot_place m) may))

-- so is that of a store
made_by : (stores : Option FollowedStore) (known : Distances) (n r : ℕ) → is_at (saved_by stores known) n r ≡ true → is_slot_place n ≡ true
made_by None known n r h = absurd (let none : ⊥ = cc in none)
made_by (Some s) known n r h = made_at s.register s.size (fixed known s.base s.displacement) n r h

-- a slot that stands after an item
over : (item : Option CodeItem) (known : Distances) (stood : Fact → Bool) (n r : ℕ) → (stood (slot n r) ≡ true → is_slot_place n ≡ true)
    → facts_over item known stood (slot n r) ≡ true → is_slot_place n ≡ true
over None known stood n r before h = before h
over (Some item) known stood n r before h = by (carried _ _ _ _ _ _ h)
  where
    by : (is_at (change_of (followed_by item.effect) known).saved n r ≡ true) ⊎ (stood (slot n r) ≡ true) → is_slot_place n ≡ true
    by (inl made) = made_by (followed_by item.effect).stores known n r made
    by (inr had) = before had

-- a slot that a walk carries
along : (items : List CodeItem) (known : ℕ → Distances) (w : List ℕ) (n r : ℕ) → facts_along items known w (slot n r) ≡ true → is_slot_place n ≡ true
along items known [] n r h = absurd (let none : ⊥ = cc in none)
along items known (last ∷ before) n r h =
    over (slice_get items last) (known last) (facts_along items known before) n r (along items known before n r) h

-- a slot that stands at an item
pub slot_placed : (nodes : List Node) (items : List CodeItem) (known : ℕ → Distances) (facts : ℕ → Fact → Bool) → AreFacts nodes items known facts
    → (j n r : ℕ) → facts j (slot n r) ≡ true → is_slot_place n ≡ true
slot_placed nodes items known facts are j n r is =
    let walks = (are j (slot n r)).0 is in
    along items known walks.0.0 n r (walks.1 walks.0.0 walks.0.1)

-- of two places of slots, neither below the other
pub highest : (n m : ℕ) → is_slot_place n ≡ true → is_slot_place m ≡ true → below n m ≡ false → below m n ≡ false → n ≡ m
highest n m a b c d = grind (arith, nat_tests)
