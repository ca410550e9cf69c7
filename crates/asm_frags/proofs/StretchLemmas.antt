-- A stretch of items adds no break to the known extent exactly where each of them has one possible size.
use Rattle.std.proofs.Common.{◌≡◌, ℕ, ◌+◌, ◌<◌, ◌≤◌, ◌==◌, Bool, true, false, List, [], ◌∷◌, ◌++◌, refl, sym, ap, ◌∙◌, arith}
use Rattle.std.specs.List.{fold, list_all, sum_by}
use Rattle.std.proofs.lemmas.List.Sums.{fold-append, sum_by-cons}
use Rattle.std.proofs.lemmas.Bool.Decides.{nat_tests}
use Rattle.asm_frags.specs.declared.items.Frag.{Frag}
use Rattle.asm_frags.specs.declared.known_extents.KnownExtent.{KnownExtent}
use Rattle.item_contents.specs.FixedSizes.{is_fixed, fixed_bytes}
use Rattle.asm_frags.specs.KnownExtents.{advanced, extent_of}

same_number : (a b : ℕ) → a ≡ b → (a == b) ≡ true
same_number a b same = grind (arith, nat_tests)

other_number : (a b : ℕ) → b < a → (a == b) ≡ false
other_number a b below = grind (arith, nat_tests)

module _ {P Address : Type 0} where
  are_fixed : List (Frag P Address) → Bool
  are_fixed items = list_all (λ item. is_fixed item.content) items

  all_bytes : List (Frag P Address) → ℕ
  all_bytes items = sum_by (λ item. fixed_bytes item.content) items

  fixed_step : (extent : KnownExtent) (item : Frag P Address) → is_fixed item.content ≡ true
      → advanced extent item ≡ record { breaks = extent.breaks; bytes = extent.bytes + fixed_bytes item.content }
  fixed_step extent item is = rw is refl

  broken_step : (extent : KnownExtent) (item : Frag P Address) → is_fixed item.content ≡ false
      → advanced extent item ≡ record { breaks = extent.breaks + 1; bytes = extent.bytes }
  broken_step extent item is = rw is refl

  breaks_step : (extent : KnownExtent) (item : Frag P Address) (fixed : Bool) → is_fixed item.content ≡ fixed → extent.breaks ≤ (advanced extent item).breaks
  breaks_step extent item true is = rw (fixed_step extent item is) (omega arith)
  breaks_step extent item false is = rw (broken_step extent item is) (omega arith)

  breaks_rise : (extent : KnownExtent) (items : List (Frag P Address)) → extent.breaks ≤ (fold advanced extent items).breaks
  breaks_rise extent [] = omega arith
  breaks_rise extent (item ∷ items) =
      let first = breaks_step extent item (is_fixed item.content) refl in
      let rest = breaks_rise (advanced extent item) items in
      omega arith

  broken : (extent : KnownExtent) (items : List (Frag P Address)) → are_fixed items ≡ false → extent.breaks < (fold advanced extent items).breaks
  unfolding are_fixed
  broken extent [] is = cc
  broken extent (item ∷ items) is = by_first (is_fixed item.content) refl (broken (advanced extent item) items)
    where
      by_first : (one : Bool) → is_fixed item.content ≡ one → (are_fixed items ≡ false → (advanced extent item).breaks < (fold advanced (advanced extent item) items).breaks)
          → extent.breaks < (fold advanced extent (item ∷ items)).breaks
      by_first true here below =
          let rest : are_fixed items ≡ false = rw here at is in
          let first = breaks_step extent item true here in
          let later = below rest in
          omega arith
      by_first false here below =
          let first : (advanced extent item).breaks ≡ extent.breaks + 1 = ap (λ (r : KnownExtent). r.breaks) (broken_step extent item here) in
          let later = breaks_rise (advanced extent item) items in
          omega arith

  -- the items add no break, and add their sizes
  abbrev IsFixedStretch : KnownExtent → List (Frag P Address) → Type 0
  IsFixedStretch extent items = ((fold advanced extent items).breaks ≡ extent.breaks) × ((fold advanced extent items).bytes ≡ extent.bytes + all_bytes items)

  fixed : (extent : KnownExtent) (items : List (Frag P Address)) → are_fixed items ≡ true → IsFixedStretch extent items
  unfolding are_fixed all_bytes
  fixed extent [] is = (refl, omega arith)
  fixed extent (item ∷ items) is = by_first (is_fixed item.content) refl (fixed (advanced extent item) items)
    where
      by_first : (one : Bool) → is_fixed item.content ≡ one → (are_fixed items ≡ true → IsFixedStretch (advanced extent item) items) → IsFixedStretch extent (item ∷ items)
      by_first true here below =
          let all : are_fixed items ≡ true = rw here at is in
          let rest = below all in
          let first = fixed_step extent item here in
          let breaks : (advanced extent item).breaks ≡ extent.breaks = ap (λ (r : KnownExtent). r.breaks) first in
          let bytes : (advanced extent item).bytes ≡ extent.bytes + fixed_bytes item.content = ap (λ (r : KnownExtent). r.bytes) first in
          let sum : all_bytes (item ∷ items) ≡ fixed_bytes item.content + all_bytes items = sum_by-cons (λ (i : Frag P Address). fixed_bytes i.content) item items in
          (rest.0 ∙ breaks, omega (arith, rest.1, bytes, sum))
      by_first false here below = let none : false ≡ true = rw here at is in cc

  further : (before more : List (Frag P Address)) → extent_of (before ++ more) ≡ fold advanced (extent_of before) more
  unfolding extent_of
  further before more = fold-append advanced (record { breaks = 0; bytes = 0 }) before more

  -- no break more is all fixed
  pub breaks_tell : (before more : List (Frag P Address))
      → ((extent_of (before ++ more)).breaks == (extent_of before).breaks) ≡ list_all (λ item. is_fixed item.content) more
  unfolding are_fixed
  breaks_tell before more = rw (further before more) (by_all (are_fixed more) refl)
    where
      by_all : (all : Bool) → are_fixed more ≡ all → ((fold advanced (extent_of before) more).breaks == (extent_of before).breaks) ≡ are_fixed more
      by_all true is = same_number _ _ (fixed (extent_of before) more is).0 ∙ sym is
      by_all false is = other_number _ _ (broken (extent_of before) more is) ∙ sym is

  -- fixed items add their sizes
  pub bytes_add : (before more : List (Frag P Address)) → list_all (λ item. is_fixed item.content) more ≡ true
      → (extent_of (before ++ more)).bytes ≡ (extent_of before).bytes + sum_by (λ item. fixed_bytes item.content) more
  unfolding are_fixed all_bytes
  bytes_add before more all = rw (further before more) (fixed (extent_of before) more all).1
