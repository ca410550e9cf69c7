use Rattle.std.proofs.Common.{◌≡◌, ℕ, ◌+◌, ◌<◌, ◌≤◌, ◌⊎◌, ◌&&◌, Bool, true, false, List, [], ◌∷◌, ◌++◌, get_or, set-set, Option, Some, None, slice_set, refl, sym, subst, inl, inr, arith, ◌∙◌}
use Rattle.work_lists.specs.Exact.{Fact, Rules, look}
use Rattle.work_lists.specs.Search.{Carried, left}

-- both hold
both : (a b : Bool) → (a && b) ≡ true → (a ≡ true) × (b ≡ true)
both true b h = (refl, h)
both false b h = cc

-- one of two does not hold
one_of : (a b : Bool) → (a && b) ≡ false → (b ≡ false) ⊎ (a ≡ false)
one_of true b h = inl h
one_of false b h = inr refl

-- a state was met with what was there
pub carried_met : {S : Type 0} (rules : Rules S) (old : List (Option S)) (gone : Option S) (todo waiting : List ℕ) (j : ℕ) (out s t : S) → get_or old j None ≡ Some s → ((f : Fact) → rules.holds t f ≡ (rules.holds s f && rules.holds out f)) → ((waiting ≡ todo) × (t ≡ s)) ⊎ ((waiting ≡ todo ++ j ∷ []) × (rules.weight t < rules.weight s)) → Carried rules old (slice_set (slice_set old j gone) j (Some t)) todo waiting j out
carried_met {S} rules old gone todo waiting j out s t there met pays = record {
  state = t;
  set = set-set old j gone (Some t);
  under = λ f h. (both (rules.holds s f) (rules.holds out f) (sym (met f) ∙ h)).1;
  kept = λ x f e h. let same : s ≡ x = cc in let P : S → Type 0 = λ y. rules.holds y f ≡ true in subst P same (both (rules.holds s f) (rules.holds out f) (sym (met f) ∙ h)).0;
  lost = λ f h. by_test f (one_of (rules.holds s f) (rules.holds out f) (sym (met f) ∙ h));
  pays = paid pays;
}
  where
    by_test : (f : Fact) → (rules.holds out f ≡ false) ⊎ (rules.holds s f ≡ false) → (rules.holds out f ≡ false) ⊎ ((x : S) × (look old j ≡ Some x) × (rules.holds x f ≡ false))
    by_test f (inl h) = inl h
    by_test f (inr h) = inr (s, there, h)

    paid : ((waiting ≡ todo) × (t ≡ s)) ⊎ ((waiting ≡ todo ++ j ∷ []) × (rules.weight t < rules.weight s)) → ((waiting ≡ todo) × (look old j ≡ Some t)) ⊎ ((waiting ≡ todo ++ j ∷ []) × (rules.weight t + 1 ≤ left rules (look old j)))
    paid (inl (h, e)) = let u : look old j ≡ Some t = cc in inl (h, u)
    paid (inr (h, l)) = let P : Option S → Type 0 = λ o. rules.weight t + 1 ≤ left rules o in let u : rules.weight t + 1 ≤ rules.weight s = omega arith in inr (h, subst P (sym there) u)
