-- The items of a section, one after the other.
use Rattle.std.proofs.Common.{◌≡◌, ℕ, ◌+◌, ◌-◌, ◌<◌, ◌≤◌, true, List, [], ◌∷◌, ◌++◌, length, get_or, drop, take_all, length-drop, refl, sym, ap, ◌∙◌, append_assoc, arith}
use Rattle.std.specs.Prelude.{slice_range}
use Rattle.std.proofs.Math.Nat.{le_of_eq}
use Rattle.std.proofs.lemmas.List.{at_drop_all, at_drop_more}
use Rattle.std.proofs.lemmas.List.Folds.{drop_split}
use Rattle.item_contents.specs.declared.contents.Content.{Content}
use Rattle.item_contents.specs.declared.contents.Content.TheVariants.{Run, Fill, Align, Org, Growing}
use Rattle.item_contents.specs.Contents.{is_run}
use Rattle.asm_relax.specs.Settling.{LaidItem}
use Rattle.elf_object.specs.Contents.{reached, interleaved, is_one_run}

joined : (out a b rest : List ℕ) → ((out ++ a) ++ b) ++ rest ≡ out ++ (a ++ (b ++ rest))
joined out a b rest = append_assoc (out ++ a) b rest ∙ append_assoc out a (b ++ rest)

module _ (held : Content → ℕ → List ℕ) where
  -- an item more is put
  pub items_step : (bytes : List ℕ) (items : List LaidItem) (i from upto : ℕ) (item : LaidItem) (out more last whole : List ℕ) → i < length items → item ≡ get_or items i item
      → upto ≡ reached from item → more ≡ out ++ slice_range bytes from upto → last ≡ more ++ held item.content item.size
      → out ++ interleaved held bytes from (drop i items) ≡ whole → last ++ interleaved held bytes upto (drop (i + 1) items) ≡ whole
  unfolding interleaved
  items_step bytes items i from upto item out more last whole inside is there first second before =
      let rest = interleaved held bytes (reached from item) (drop (i + 1) items) in
      let head : interleaved held bytes from (drop i items) ≡ slice_range bytes from (reached from item) ++ (held item.content item.size ++ rest) =
      at_drop_more (interleaved held bytes from) items i item inside ∙ ap (λ x. interleaved held bytes from (x ∷ drop (i + 1) items)) (sym is) in
      ap (λ n. last ++ interleaved held bytes n (drop (i + 1) items)) there
      ∙ ap (λ xs. xs ++ rest) (second ∙ ap (λ xs. xs ++ held item.content item.size) (first ∙ ap (λ n. out ++ slice_range bytes from n) there))
      ∙ joined out (slice_range bytes from (reached from item)) (held item.content item.size) rest ∙ ap (λ xs. out ++ xs) (sym head) ∙ before

  -- behind the last item stand the plain bytes that are left
  pub items_end : (bytes : List ℕ) (items : List LaidItem) (i from : ℕ) (out last whole : List ℕ) → length items ≤ i
      → out ++ interleaved held bytes from (drop i items) ≡ whole → last ≡ out ++ slice_range bytes from (length bytes) → last ≡ whole
  unfolding interleaved
  items_end bytes items i from out last whole all before is =
      is ∙ ap (λ xs. out ++ xs) (take_all (length bytes - from) (drop from bytes) (le_of_eq (length-drop from bytes))) ∙ ap (λ xs. out ++ xs) (sym (at_drop_all (interleaved held bytes from) items i all)) ∙ before

  alone : (bytes : List ℕ) (item : LaidItem) (content : Content) → ((size : ℕ) → held Run size ≡ []) → item.content ≡ content → is_run content ≡ true → bytes ≡ interleaved held bytes 0 (item ∷ [])
  unfolding interleaved
  alone bytes item Run none holds is = rw (holds, none item.size) (drop_split bytes 0 (reached 0 item) (omega arith))
  alone bytes item (Fill other) none holds is = absurd cc
  alone bytes item (Align other) none holds is = absurd cc
  alone bytes item (Org other) none holds is = absurd cc
  alone bytes item (Growing other) none holds is = absurd cc

  -- around one run stand all plain bytes
  pub one_run : (bytes : List ℕ) (items : List LaidItem) → ((size : ℕ) → held Run size ≡ []) → is_one_run items ≡ true → bytes ≡ interleaved held bytes 0 items
  unfolding interleaved
  one_run bytes [] none is = refl
  one_run bytes (item ∷ []) none is = alone bytes item item.content none refl is
  one_run bytes (item ∷ next ∷ items) none is = absurd cc
