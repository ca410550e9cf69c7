-- A register has a rule or is lost.
use Rattle.std.proofs.Common.{◌≡◌, ◌^◌, ◌<◌, ◌≤◌, ◌⊎◌, inl, inr, ℕ, zero, suc, Bool, true, false, Option, Some, None, refl, sym, subst, arith}
use Rattle.std.proofs.lemmas.Bool.{cases_lt, cases_Bool}
use Rattle.std.proofs.lemmas.Bool.Decides.{nat_tests}
use Rattle.asm_base.specs.declared.faults.SavedRegister.{SavedRegister}
use Rattle.asm_base.specs.declared.faults.SavedRegister.TheVariants.{Rbx, Rbp, R12, R13, R14, R15}
use Rattle.stack_facts.specs.Places.{below, is_saved, is_slot_place}
use Rattle.stack_facts.specs.Facts.{Fact, entry, slot}
use Rattle.scfi_pass.specs.Registers.{number_of}
use Rattle.scfi_pass.specs.Rows.{IsRuleOf}
use Rattle.scfi_pass.specs.Faults.{IsLost, IsFirstOf}
use Rattle.synthesis_laws.proofs.SameRows.{ArePlaced}
use Rattle.synthesis_laws.proofs.Decided.{Decided, is_met, both, first_below}

module _ (stands : Fact → Bool) (r : ℕ) where
  -- this slot stands, and none that stands below a distance is behind it
  pub record Last (top : ℕ) : Type 0 where
    pub distance : ℕ
    pub stands_there : stands (slot distance r) ≡ true
    pub none_behind : (m : ℕ) → m < top → stands (slot m r) ≡ true → m ≤ distance

  -- none stands below a distance
  abbrev NoneBelow : ℕ → Type 0
  NoneBelow top = (m : ℕ) → m < top → stands (slot m r) ≡ false

  -- where the next one does not stand, the last one stays
  last_stays : (top : ℕ) → Last top → stands (slot top r) ≡ false → Last (suc top)
  last_stays top found fails = record { distance = found.distance; stands_there = found.stands_there; none_behind = λ m low is. by m low is (cases_lt m top) }
    where
      by : (m : ℕ) → m < suc top → stands (slot m r) ≡ true → (m < top) ⊎ (top ≤ m) → m ≤ found.distance
      by m low is (inl less) = found.none_behind m less is
      by m low is (inr more) =
          let same : m ≡ top = omega arith in
          let At : ℕ → Type 0 = λ n. stands (slot n r) ≡ true in
          let here = subst At same is in
          absurd (let none : ⊥ = cc in none)

  -- and where none stood, none stands
  none_stays : (top : ℕ) → NoneBelow top → stands (slot top r) ≡ false → NoneBelow (suc top)
  none_stays top none fails m low = by (cases_lt m top)
    where
      by : (m < top) ⊎ (top ≤ m) → stands (slot m r) ≡ false
      by (inl less) = none m less
      by (inr more) =
          let same : top ≡ m = omega arith in
          let At : ℕ → Type 0 = λ n. stands (slot n r) ≡ false in
          subst At same fails

  -- there is a last one, or none stands
  last_below : (top : ℕ) → Last top ⊎ NoneBelow top
  last_below zero = inr (λ m low. absurd (let none : ⊥ = omega arith in none))
  last_below (suc top) = by (last_below top) (cases_Bool (stands (slot top r)))
    where
      by : Last top ⊎ NoneBelow top → (stands (slot top r) ≡ true) ⊎ (stands (slot top r) ≡ false) → Last (suc top) ⊎ NoneBelow (suc top)
      by _ (inl is) = inl (record { distance = top; stands_there = is; none_behind = λ m low at. omega arith })
      by (inl found) (inr fails) = inl (last_stays top found fails)
      by (inr none) (inr fails) = inr (none_stays top none fails)

  -- a slot that is not behind another is not above it
  not_above : (n m : ℕ) → is_slot_place n ≡ true → is_slot_place m ≡ true → m ≤ n → below n m ≡ false
  not_above n m a b low = grind (arith, nat_tests)

  -- a place of slots is below 2^64
  in_range : (n : ℕ) → is_slot_place n ≡ true → n < 2 ^ 64
  in_range n a = grind (arith, nat_tests)

  -- the register has a rule, or is lost
  pub rule_or_lost : ArePlaced stands → ((rule : Option ℕ) × IsRuleOf stands r rule) ⊎ IsLost stands r
  rule_or_lost placed = by (last_below (2 ^ 64)) (cases_Bool (stands (entry r)))
    where
      fails : NoneBelow (2 ^ 64) → (n : ℕ) → (b : Bool) → stands (slot n r) ≡ b → stands (slot n r) ≡ false
      fails none n false is = is
      fails none n true is = none n (in_range n (placed n r is))

      by : Last (2 ^ 64) ⊎ NoneBelow (2 ^ 64) → (stands (entry r) ≡ true) ⊎ (stands (entry r) ≡ false) → ((rule : Option ℕ) × IsRuleOf stands r rule) ⊎ IsLost stands r
      by (inl last) _ = inl (
        Some last.distance,
        (
          last.stands_there,
          λ m is. not_above last.distance m (placed last.distance r last.stands_there) (placed m r is) (last.none_behind m (in_range m (placed m r is)) is),
        ),
      )
      by (inr none) (inl has) = inl (None, ((λ n. fails none n (stands (slot n r)) refl), has))
      by (inr none) (inr loses) = inr (loses, λ n. fails none n (stands (slot n r)) refl)

-- one of the six has a name
named : (q : ℕ) → is_saved q ≡ true → (r : SavedRegister) × (number_of r ≡ q)
named zero is = absurd (let none : ⊥ = cc in none)
named (suc zero) is = (Rbx, refl)
named (suc (suc zero)) is = (Rbp, refl)
named (suc (suc (suc zero))) is = (R12, refl)
named (suc (suc (suc (suc zero)))) is = (R13, refl)
named (suc (suc (suc (suc (suc zero))))) is = (R14, refl)
named (suc (suc (suc (suc (suc (suc zero)))))) is = (R15, refl)
named (suc (suc (suc (suc (suc (suc (suc more))))))) is = absurd (let low = under more is in let none : ⊥ = omega arith in none)
  where
    under : (n : ℕ) → is_saved (suc (suc (suc (suc (suc (suc (suc n))))))) ≡ true → n < 0
    under n saved = grind (arith, nat_tests)

-- each of the six is below 7
pub saved_low : (q : ℕ) → is_saved q ≡ true → q < 7
saved_low q is = grind (arith, nat_tests)

-- something holds of a first register of the six, or of none
pub first_of_six : (P : ℕ → Type 0) → ((q : ℕ) → Decided (P q)) → ((r : SavedRegister) × IsFirstOf P (number_of r)) ⊎ ((q : ℕ) → is_saved q ≡ true → P q → ⊥)
first_of_six P each = by (first_below Six (λ q. both (is_met (is_saved q)) (each q)) 7)
  where
    Six : ℕ → Type 0
    Six q = (is_saved q ≡ true) × P q

    by : ((n : ℕ) × (n < 7) × Six n × ((m : ℕ) → m < n → Six m → ⊥)) ⊎ ((n : ℕ) → n < 7 → Six n → ⊥)
        → ((r : SavedRegister) × IsFirstOf P (number_of r)) ⊎ ((q : ℕ) → is_saved q ≡ true → P q → ⊥)
    by (inl found) =
        let name = named found.0 found.2.0 in
        let First : ℕ → Type 0 = IsFirstOf P in
        let first : IsFirstOf P found.0 = (found.2.1, λ q saved low p. found.3 q low (saved, p)) in
        inl (name.0, subst First (sym name.1) first)
    by (inr none) = inr (λ q saved p. none q (saved_low q saved) (saved, p))
