-- An item's bytes of an unsigned number are its digits, padded.
use Rattle.std.proofs.Common.{◌≡◌, ◌↔◌, ℕ, zero, suc, ◌+◌, ◌*◌, ◌/◌, ◌%◌, ◌^◌, ◌<◌, ◌≤◌, false, List, [], ◌∷◌, ◌++◌, Some, refl, ◌∙◌, ap, subst, arith}
use Rattle.item_bytes.specs.Leb128.{leb128_bytes}
use Rattle.item_bytes.specs.Levels.{leb128_level, unsigned_level}
use Rattle.leb128.specs.Digits.{padded_digits}
use Rattle.leb128.specs.Numbers.{NumbersReadBack}
use Rattle.leb128.specs.Reading.{uleb}
use Rattle.leb128.specs.Room.{uleb_room}

digits_are : (more value : ℕ) → value < uleb_room more → leb128_bytes false value (suc more) ≡ padded_digits more value
unfolding leb128_bytes
digits_are zero value fits = ap (λ n. n ∷ []) (let same : value % 2 ^ 7 ≡ value = omega (arith, fits) in same)
digits_are (suc more) value fits =
    ap (λ n. (2 ^ 7 + value % 2 ^ 7) ∷ leb128_bytes false n (suc more)) (let same : value / 2 ^ 7 + 0 ≡ value / 128 = omega arith in same)
    ∙ ap (λ bytes. (128 + value % 128) ∷ bytes) (digits_are more (value / 128) (omega (arith, fits)))

room_is : (more : ℕ) → more ≤ 9 → 2 ^ (7 * (more + 1)) ≡ uleb_room more
room_is zero small = refl
room_is (suc zero) small = refl
room_is (suc (suc zero)) small = refl
room_is (suc (suc (suc zero))) small = refl
room_is (suc (suc (suc (suc zero)))) small = refl
room_is (suc (suc (suc (suc (suc zero))))) small = refl
room_is (suc (suc (suc (suc (suc (suc zero)))))) small = refl
room_is (suc (suc (suc (suc (suc (suc (suc zero))))))) small = refl
room_is (suc (suc (suc (suc (suc (suc (suc (suc zero)))))))) small = refl
room_is (suc (suc (suc (suc (suc (suc (suc (suc (suc zero))))))))) small = refl
room_is (suc (suc (suc (suc (suc (suc (suc (suc (suc (suc more)))))))))) small = absurd (let none : ⊥ = omega (arith, small) in none)

-- which numbers so many groups of 7 bits besides the first hold
abbrev pub GroupsHold : Type 0
GroupsHold = (value level : ℕ) → value < 2 ^ 64 → (unsigned_level value ≤ level) ↔ (value < 2 ^ (7 * (level + 1)))

-- a number in so many groups as hold it is read from them, whatever follows
pub groups_read : (numbers : NumbersReadBack) (level distance : ℕ) (rest : List ℕ) → distance < 2 ^ 64 → level ≤ 9 → distance < 2 ^ (7 * (level + 1))
    → uleb (leb128_bytes false distance (level + 1) ++ rest) ≡ Some (distance, rest)
groups_read numbers level distance rest small few fits =
    let room : distance < uleb_room level = subst (λ n. distance < n) (room_is level few) fits in
    ap (λ groups. uleb (leb128_bytes false distance groups ++ rest)) (let same : level + 1 ≡ suc level = omega arith in same)
    ∙ ap (λ bytes. uleb (bytes ++ rest)) (digits_are level distance room)
    ∙ numbers.padded level distance rest room small

pub gap_reads : (numbers : NumbersReadBack) (holds : GroupsHold) (level distance : ℕ) (rest : List ℕ) → distance < 2 ^ 64 → level ≤ 9
    → leb128_level false distance ≤ level → uleb (leb128_bytes false distance (level + 1) ++ rest) ≡ Some (distance, rest)
gap_reads numbers holds level distance rest small few fits = groups_read numbers level distance rest small few ((holds distance level small).0 fits)
