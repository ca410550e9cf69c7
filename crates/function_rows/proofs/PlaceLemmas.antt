use Rattle.std.proofs.Common.{◌≡◌, ℕ, ◌<◌, ◌≤◌, ◌⊎◌, inl, inr, true, List, [], ◌∷◌, ◌++◌, length, length-append, get_or, sym, ap, subst, ◌∙◌, arith}
use Rattle.std.proofs.lemmas.Bool.{cases_lt}
use Rattle.std.proofs.lemmas.Bool.Decides.{nat_tests}
use Rattle.std.proofs.lemmas.List.{get_or_append_left}
use Rattle.std.proofs.Math.Seq.{get_or-append_seam}
use Rattle.code_functions.specs.declared.items.CodeItem.{CodeItem}
use Rattle.code_functions.specs.InOrder.{AreInOrder, is_up_to}

-- each item stands one byte behind the one before it
pub record StandInRow (items : List CodeItem) : Type 0 where
  pub each : (i : ℕ) (d : CodeItem) → i < length items → (get_or items i d).place ≡ record { item = 0; offset = i }

-- no item stands yet
pub none_stand : (items : List CodeItem) → items ≡ [] → StandInRow items
none_stand items e = let P : List CodeItem → Type 0 = StandInRow in subst P (sym e) (record { each = λ i d h. absurd (omega arith) })

-- one item more stands behind the others
pub one_more : (items new : List CodeItem) (item : CodeItem) → StandInRow items → new ≡ items ++ item ∷ [] → item.place ≡ record { item = 0; offset = length items } → StandInRow new
one_more items new item row e at = let P : List CodeItem → Type 0 = StandInRow in subst P (sym e) (record { each = λ i d h. each i d (cases_lt i (length items)) h })
  where
    each : (i : ℕ) (d : CodeItem) → (i < length items) ⊎ (length items ≤ i) → i < length (items ++ item ∷ []) → (get_or (items ++ item ∷ []) i d).place ≡ record { item = 0; offset = i }
    each i d (inl l) h = ap (λ (x : CodeItem). x.place) (get_or_append_left items (item ∷ []) d i l) ∙ row.each i d l
    each i d (inr l) h =
        let n = length-append items (item ∷ []) in
        let same : length items ≡ i = omega arith in
        let P : ℕ → Type 0 = λ k. (get_or (items ++ item ∷ []) k d).place ≡ record { item = 0; offset = k } in
        subst P same (ap (λ (x : CodeItem). x.place) (get_or-append_seam items item [] d) ∙ at)

up_to : (i j : ℕ) → i ≤ j → is_up_to (record { item = 0; offset = i }) (record { item = 0; offset = j }) ≡ true
up_to i j h = grind (arith, nat_tests)

-- such items are in order
pub in_order : (items : List CodeItem) → StandInRow items → AreInOrder items
in_order items row = record {
  each = λ i j d h l.
      let a = row.each i d (omega arith) in
      let b = row.each j d l in
      ap (λ p. is_up_to p (get_or items j d).place) a ∙ ap (λ p. is_up_to (record { item = 0; offset = i }) p) b ∙ up_to i j h;
}
