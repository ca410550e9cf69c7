-- Units that are repeated.
use Rattle.std.proofs.Common.{◌≡◌, ℕ, zero, suc, ◌+◌, ◌*◌, ◌==◌, ◌&&◌, ◌||◌, Bool, true, false, List, [], ◌∷◌, ◌++◌, length, replicate, refl, ap, sym, ◌∙◌, arith, length-append}
use Rattle.std.specs.List.{list_all, concat}
use Rattle.std.proofs.lemmas.Bool.Decides.{nat_tests}
use Rattle.std.proofs.lemmas.List.Folds.{list_all-append}
use Rattle.item_contents.specs.Contents.{repeated}

pub repeated-one : (count byte : ℕ) → repeated count (byte ∷ []) ≡ replicate count byte
unfolding repeated
repeated-one zero byte = refl
repeated-one (suc count) byte = ap (λ (bytes : List ℕ). byte ∷ bytes) (repeated-one count byte)

pub repeated_concat : (count : ℕ) (unit : List ℕ) → repeated count unit ≡ concat (replicate count unit)
unfolding repeated
repeated_concat zero unit = refl
repeated_concat (suc count) unit = ap (λ (bytes : List ℕ). unit ++ bytes) (repeated_concat count unit)

pub length-repeated : (count : ℕ) (unit : List ℕ) → length (repeated count unit) ≡ count * length unit
unfolding repeated
length-repeated zero unit = omega arith
length-repeated (suc count) unit = let rest = length-repeated count unit in omega (arith, length-append unit (repeated count unit))

all_twice : (a b : Bool) → (a && (b || a)) ≡ a
all_twice true true = refl
all_twice true false = refl
all_twice false b = refl

some_units : (count : ℕ) → (suc count == 0) ≡ false
some_units count = grind (arith, nat_tests)

-- each byte is 0 where there is no unit, or each byte of it is 0
pub list_all-repeated : (p : ℕ → Bool) (count : ℕ) (unit : List ℕ) → list_all p (repeated count unit) ≡ ((count == 0) || list_all p unit)
unfolding repeated
list_all-repeated p zero unit = refl
list_all-repeated p (suc count) unit =
    list_all-append p unit (repeated count unit) ∙ ap (λ (b : Bool). list_all p unit && b) (list_all-repeated p count unit) ∙ all_twice (list_all p unit) (count == 0)
    ∙ sym (ap (λ (b : Bool). b || list_all p unit) (some_units count))

pub list_all-replicate : (p : ℕ → Bool) (count byte : ℕ) → p byte ≡ true → list_all p (replicate count byte) ≡ true
list_all-replicate p zero byte is = refl
list_all-replicate p (suc count) byte is = rw (is, list_all-replicate p count byte is) refl
