-- Units that are repeated: how long they are, one more, none, and units of one byte.
use Rattle.std.proofs.Common.{◌≡◌, ℕ, zero, suc, ◌+◌, ◌*◌, List, [], ◌∷◌, ◌++◌, length, replicate, refl, ap, sym, ◌∙◌, arith, append_assoc, append-nil, get_or, length-append}
use Rattle.item_contents.specs.Contents.{repeated}

pub length-repeated : (count : ℕ) (unit : List ℕ) → length (repeated count unit) ≡ count * length unit
unfolding repeated
length-repeated zero unit = omega arith
length-repeated (suc count) unit = let rest = length-repeated count unit in omega (arith, length-append unit (repeated count unit))

-- so many units, and then so many more
pub repeated_sum : (first more : ℕ) (unit : List ℕ) → repeated (first + more) unit ≡ repeated first unit ++ repeated more unit
unfolding repeated
repeated_sum zero more unit = let none : zero + more ≡ more = omega arith in rw none refl
repeated_sum (suc first) more unit =
    let next : suc first + more ≡ suc (first + more) = omega arith in
    rw next (ap (λ (bytes : List ℕ). unit ++ bytes) (repeated_sum first more unit) ∙ sym (append_assoc unit (repeated first unit) (repeated more unit)))

-- one unit more goes last as well as first
pub repeated_more : (count : ℕ) (unit : List ℕ) → repeated (count + 1) unit ≡ repeated count unit ++ unit
unfolding repeated
repeated_more count unit = repeated_sum count 1 unit ∙ ap (λ (bytes : List ℕ). repeated count unit ++ bytes) (append-nil unit)

-- no unit
pub repeated_none : (unit : List ℕ) → repeated 0 unit ≡ []
unfolding repeated
repeated_none unit = refl

-- a unit of one byte, repeated, is that byte repeated
pub repeated-one : (count byte : ℕ) → repeated count (byte ∷ []) ≡ replicate count byte
unfolding repeated
repeated-one zero byte = refl
repeated-one (suc count) byte = ap (λ (bytes : List ℕ). byte ∷ bytes) (repeated-one count byte)

pub repeated_alone : (count : ℕ) (unit : List ℕ) → length unit ≡ 1 → replicate count (get_or unit 0 0) ≡ repeated count unit
repeated_alone count [] alone = absurd (omega arith)
repeated_alone count (byte ∷ []) alone = sym (repeated-one count byte)
repeated_alone count (byte ∷ next ∷ unit) alone = absurd (omega arith)
