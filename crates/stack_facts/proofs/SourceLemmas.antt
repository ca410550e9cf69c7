use Rattle.std.proofs.Common.{◌≡◌, ℕ, ◌==◌, ◌||◌, ◌&&◌, not, Bool, true, false, cond, Option, Some, None, refl, subst, ◌∙◌, arith}
use Rattle.std.proofs.lemmas.Bool.Decides.{nat_tests}
use Rattle.stack_facts.specs.declared.values.Slot.{Slot}
use Rattle.stack_facts.specs.declared.values.Change.{Change}
use Rattle.stack_facts.specs.Facts.{Fact, entry, slot, is_at, is_below, is_touched, loads_own, facts_after}
use Rattle.stack_facts.specs.Sources.{unless, entry_source, source_of, carried_from, IsChange}

-- of an entry value
entry_case : (c w : Bool) (stood : Fact → Bool) (f g : Fact) → (c ≡ true → w ≡ true) → ((c && stood f) || (stood g && not w)) ≡ carried_from stood (cond c (Some f) (unless w g))
entry_case true true stood f g h = by_value (stood f) (stood g)
  where
    by_value : (a b : Bool) → ((true && a) || (b && not true)) ≡ a
    by_value true b = refl
    by_value false true = refl
    by_value false false = refl
entry_case true false stood f g h = let x = h refl in cc
entry_case false true stood f g h = by_value (stood g)
  where
    by_value : (b : Bool) → (b && not true) ≡ false
    by_value true = refl
    by_value false = refl
entry_case false false stood f g h = by_value (stood g)
  where
    by_value : (b : Bool) → (b && not false) ≡ b
    by_value true = refl
    by_value false = refl

-- of a slot
slot_case : (b s t d l : Bool) (stood : Fact → Bool) (f g : Fact) → (s ≡ true → t ≡ true) → (s ≡ true → l ≡ false) → ((((s && stood g) || (stood f && not (t || d))) && not (l && stood f)) && not b) ≡ carried_from stood (cond b None (cond s (Some g) (unless ((t || d) || l) f)))
slot_case b s t d l stood f g h k = by_value b s t d l (stood f) (stood g) h k ∙ same b s ((t || d) || l)
  where
    by_value : (b s t d l x y : Bool) → (s ≡ true → t ≡ true) → (s ≡ true → l ≡ false) → ((((s && y) || (x && not (t || d))) && not (l && x)) && not b) ≡ cond b false (cond s y (cond ((t || d) || l) false x))
    by_value b s t d l x y h k = grind arith

    same : (b s u : Bool) → cond b false (cond s (stood g) (cond u false (stood f))) ≡ carried_from stood (cond b None (cond s (Some g) (unless u f)))
    same true s u = refl
    same false true u = refl
    same false false true = refl
    same false false false = refl

-- each fact after an item comes from one fact before it
pub after_from_source : (written : ℕ → Bool) (c : Change) (stood : Fact → Bool) (f : Fact) → IsChange written c → facts_after written c stood f ≡ carried_from stood (source_of written c f)
after_from_source written c stood (entry r) is = by_load c.loaded refl
  where
    by_load : (o : Option Slot) → c.loaded ≡ o → (loads_own o stood r || (stood (entry r) && not (written r))) ≡ carried_from stood (entry_source o (written r) r)
    by_load None e = entry_case false (written r) stood (entry r) (entry r) (λ h. absurd cc)
    by_load (Some x) e = entry_case (x.register == r) (written r) stood (slot x.distance r) (entry r) (λ h. let same : x.register ≡ r = grind (arith, nat_tests) in let P : ℕ → Type 0 = λ q. written q ≡ true in subst P same (is.loads_write x e))
after_from_source written c stood (slot n r) is = slot_case (is_below c.floor n) (is_at c.saved n r) (is_touched c.stored n) (is_below c.cleared n) (is_at c.freed n r) stood (slot n r) (entry r) (is.saves_store n r) (is.saves_only n r)
