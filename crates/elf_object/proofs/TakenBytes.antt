-- Bytes that are taken one after the other.
use Rattle.std.proofs.Common.{◌≡◌, ℕ, zero, suc, List, [], ◌∷◌, ◌++◌, length, refl, sym, ap, ◌∙◌, arith, append-nil}
use Rattle.item_contents.specs.Contents.{repeated}

-- an empty unit, however often
pub empty_unit : (count : ℕ) (unit : List ℕ) → length unit ≡ 0 → repeated count unit ≡ []
unfolding repeated
empty_unit zero unit none = refl
empty_unit (suc count) [] none = empty_unit count [] none
empty_unit (suc count) (byte ∷ unit) none = absurd (omega arith)

-- a unit, never
pub no_unit : (count : ℕ) (unit : List ℕ) → count ≡ 0 → repeated count unit ≡ []
unfolding repeated
no_unit count unit none = rw none refl

-- a unit, once
pub unit_once : (unit : List ℕ) → repeated 1 unit ≡ unit
unfolding repeated
unit_once unit = append-nil unit

-- no bytes are there already
pub nothing_more : (before bytes : List ℕ) → bytes ≡ [] → before ≡ before ++ bytes
nothing_more before bytes none = sym (ap (λ (more : List ℕ). before ++ more) none ∙ append-nil before)
