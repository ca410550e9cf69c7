-- How many limits a value has reached, by the limit at an index, and what the levels of numbers hold by that.
use Rattle.std.proofs.Common.{◌≡◌, ℕ, ◌+◌, ◌-◌, ◌*◌, ◌%◌, ◌^◌, ◌<◌, ◌≤◌, zero, suc, List, [], ◌∷◌, ◌↔◌, inl, inr, length, get_or, refl, arith, nat_le, nat_lt, Bool, true, false, cond}
use Rattle.std.proofs.Math.Nat.{pow-le-pow_right}
use Rattle.std.proofs.lemmas.Bool.{cases_lt, lt-ltb, le-ltb, le-leb, lt-leb}
use Rattle.std.proofs.lemmas.List.Sums.{prefix_len-le-length}
use Rattle.item_bytes.specs.Levels.{limits_reached, jump_level, unsigned_limits, unsigned_level, without_sign, signed_limits, signed_level, advance_limits, advance_level, IsSignedWithin, AdvanceHolds}

-- each limit is at least the one before
abbrev pub IsRising : List ℕ → Type 0
IsRising [] = Unit {0}
IsRising (x ∷ []) = Unit {0}
IsRising (x ∷ y ∷ limits) = (x ≤ y) × IsRising (y ∷ limits)

reached_none : (value x : ℕ) (limits : List ℕ) → value < x → limits_reached value (x ∷ limits) ≡ 0
reached_none value x limits below = rw (lt-leb x value below) refl

reached_one : (value x : ℕ) (limits : List ℕ) → x ≤ value → limits_reached value (x ∷ limits) ≡ 1 + limits_reached value limits
reached_one value x limits above = rw (le-leb x value above) refl

-- a value below a limit has reached at most those before it
pub reached_within : (value : ℕ) (limits : List ℕ) (k : ℕ) → k < length limits → value < get_or limits k 0 → limits_reached value limits ≤ k
reached_within value [] k inside below = absurd (omega arith)
reached_within value (x ∷ limits) zero inside below = let none = reached_none value x limits below in omega arith
reached_within value (x ∷ limits) (suc k) inside below = elim (cases_lt value x) [
  | inl lt ↦ (let none = reached_none value x limits lt in omega arith)
  | inr ge ↦ (let one = reached_one value x limits ge in let rest = reached_within value limits k (omega arith) below in omega arith)
]

-- a value that has reached a limit has reached all before it
pub reached_beyond : (value : ℕ) (limits : List ℕ) (k : ℕ) → IsRising limits → k < length limits → get_or limits k 0 ≤ value → k < limits_reached value limits
reached_beyond value [] k rising inside above = absurd (omega arith)
reached_beyond value (x ∷ limits) zero rising inside above = let one = reached_one value x limits above in omega arith
reached_beyond value (x ∷ []) (suc k) rising inside above = absurd (omega arith)
reached_beyond value (x ∷ y ∷ limits) (suc k) rising inside above =
    let rest : k < limits_reached value (y ∷ limits) = reached_beyond value (y ∷ limits) k rising.1 (omega arith) above in
    elim (cases_lt value y) [
      | inl lt ↦ (let none = reached_none value y limits lt in absurd (omega arith))
      | inr ge ↦ (let le = rising.0 in let one = reached_one value x (y ∷ limits) (omega arith) in omega arith)
    ]

-- the two together
pub reached_exactly : (value : ℕ) (limits : List ℕ) (k : ℕ) → IsRising limits → k < length limits → (limits_reached value limits ≤ k) ↔ (value < get_or limits k 0)
reached_exactly value limits k rising inside = (
  λ within. elim (cases_lt value (get_or limits k 0)) [
    | inl lt ↦ lt
    | inr ge ↦ (let beyond = reached_beyond value limits k rising inside ge in absurd (omega arith))
  ],
  λ below. reached_within value limits k inside below,
)

unsigned_rising : IsRising unsigned_limits
unsigned_rising = (omega arith, (omega arith, (omega arith, (omega arith, (omega arith, (omega arith, (omega arith, (omega arith, tt))))))))

signed_rising : IsRising signed_limits
signed_rising = (omega arith, (omega arith, (omega arith, (omega arith, (omega arith, (omega arith, (omega arith, (omega arith, tt))))))))

advance_rising : IsRising advance_limits
advance_rising = (omega arith, (omega arith, (omega arith, tt)))

unsigned_limit : (level : ℕ) → level < 9 → get_or unsigned_limits level 0 ≡ 2 ^ (7 * (level + 1))
unsigned_limit zero small = refl
unsigned_limit (suc zero) small = refl
unsigned_limit (suc (suc zero)) small = refl
unsigned_limit (suc (suc (suc zero))) small = refl
unsigned_limit (suc (suc (suc (suc zero)))) small = refl
unsigned_limit (suc (suc (suc (suc (suc zero))))) small = refl
unsigned_limit (suc (suc (suc (suc (suc (suc zero)))))) small = refl
unsigned_limit (suc (suc (suc (suc (suc (suc (suc zero))))))) small = refl
unsigned_limit (suc (suc (suc (suc (suc (suc (suc (suc zero)))))))) small = refl
unsigned_limit (suc (suc (suc (suc (suc (suc (suc (suc (suc level))))))))) small = absurd (omega arith)

signed_limit : (level : ℕ) → level < 9 → get_or signed_limits level 0 ≡ 2 ^ (7 * (level + 1) - 1)
signed_limit zero small = refl
signed_limit (suc zero) small = refl
signed_limit (suc (suc zero)) small = refl
signed_limit (suc (suc (suc zero))) small = refl
signed_limit (suc (suc (suc (suc zero)))) small = refl
signed_limit (suc (suc (suc (suc (suc zero))))) small = refl
signed_limit (suc (suc (suc (suc (suc (suc zero)))))) small = refl
signed_limit (suc (suc (suc (suc (suc (suc (suc zero))))))) small = refl
signed_limit (suc (suc (suc (suc (suc (suc (suc (suc zero)))))))) small = refl
signed_limit (suc (suc (suc (suc (suc (suc (suc (suc (suc level))))))))) small = absurd (omega arith)

-- ten groups and more hold each number modulo 2^64
powers_above : (value count : ℕ) → value < 2 ^ 64 → 64 ≤ count → value < 2 ^ count
powers_above value count small many =
    let two : 0 < 2 = omega arith in
    let above : 2 ^ 64 ≤ 2 ^ count = pow-le-pow_right two many in
    omega arith

unsigned_below : (value level : ℕ) → level < 9 → (unsigned_level value ≤ level) ↔ (value < 2 ^ (7 * (level + 1)))
unfolding unsigned_level
unsigned_below value level small = rw (← unsigned_limit level small) (reached_exactly value unsigned_limits level unsigned_rising (omega arith))

unsigned_most : (value level : ℕ) → 9 ≤ level → unsigned_level value ≤ level
unfolding unsigned_level
unsigned_most value level large = let most = prefix_len-le-length (λ limit. nat_le limit value) unsigned_limits in omega arith

pub unsigned_holds : (value level : ℕ) → value < 2 ^ 64 → (unsigned_level value ≤ level) ↔ (value < 2 ^ (7 * (level + 1)))
unsigned_holds value level small = elim (cases_lt level 9) [
  | inl lt ↦ unsigned_below value level lt
  | inr ge ↦ (λ h. powers_above value (7 * (level + 1)) small (omega arith), λ h. unsigned_most value level ge)
]

-- the bits without the sign are below a bound exactly where the number is from its negative on and below it
without_sign_below : (value bound : ℕ) → value < 2 ^ 64 → bound ≤ 2 ^ 62 → (without_sign value < bound) ↔ IsSignedWithin bound value
without_sign_below value bound small low = elim (cases_lt value (2 ^ 63)) [
  | inl lt ↦ rw (lt-ltb value (2 ^ 63) lt) (λ h. inl h, λ h. elim h [ inl below ↦ below | inr above ↦ absurd (omega arith) ])
  | inr ge ↦ rw (le-ltb value (2 ^ 63) ge) (λ h. inr (omega arith), λ h. elim h [ inl below ↦ absurd (omega arith) | inr above ↦ omega arith ])
]

signed_limit_low : (level : ℕ) → level < 9 → get_or signed_limits level 0 ≤ 2 ^ 62
signed_limit_low zero small = omega arith
signed_limit_low (suc zero) small = omega arith
signed_limit_low (suc (suc zero)) small = omega arith
signed_limit_low (suc (suc (suc zero))) small = omega arith
signed_limit_low (suc (suc (suc (suc zero)))) small = omega arith
signed_limit_low (suc (suc (suc (suc (suc zero))))) small = omega arith
signed_limit_low (suc (suc (suc (suc (suc (suc zero)))))) small = omega arith
signed_limit_low (suc (suc (suc (suc (suc (suc (suc zero))))))) small = omega arith
signed_limit_low (suc (suc (suc (suc (suc (suc (suc (suc zero)))))))) small = omega arith
signed_limit_low (suc (suc (suc (suc (suc (suc (suc (suc (suc level))))))))) small = absurd (omega arith)

signed_below : (value level : ℕ) → value < 2 ^ 64 → level < 9 → (signed_level value ≤ level) ↔ IsSignedWithin (2 ^ (7 * (level + 1) - 1)) value
unfolding signed_level
signed_below value level small few =
    let exactly = reached_exactly (without_sign value) signed_limits level signed_rising (omega arith) in
    let below = without_sign_below value (get_or signed_limits level 0) small (signed_limit_low level few) in
    rw (← signed_limit level few) (λ h. below.0 (exactly.0 h), λ h. exactly.1 (below.1 h))

signed_most : (value level : ℕ) → 9 ≤ level → signed_level value ≤ level
unfolding signed_level
signed_most value level large = let most = prefix_len-le-length (λ limit. nat_le limit (without_sign value)) signed_limits in omega arith

pub signed_holds : (value level : ℕ) → value < 2 ^ 64 → (signed_level value ≤ level) ↔ IsSignedWithin (2 ^ (7 * (level + 1) - 1)) value
signed_holds value level small = elim (cases_lt level 9) [
  | inl lt ↦ signed_below value level small lt
  | inr ge ↦ (λ h. inl (powers_above value (7 * (level + 1) - 1) small (omega arith)), λ h. signed_most value level ge)
]

pub advance_holds : (distance level : ℕ) → distance < 2 ^ 32 → (advance_level distance ≤ level) ↔ AdvanceHolds level distance
unfolding advance_level
advance_holds distance zero small =
    let exactly = reached_exactly distance advance_limits 0 advance_rising (omega arith) in
    (λ h. (let below : distance < 1 = exactly.0 h in omega arith), λ h. exactly.1 (omega arith))
advance_holds distance (suc zero) small = reached_exactly distance advance_limits 1 advance_rising (omega arith)
advance_holds distance (suc (suc zero)) small = reached_exactly distance advance_limits 2 advance_rising (omega arith)
advance_holds distance (suc (suc (suc zero))) small = reached_exactly distance advance_limits 3 advance_rising (omega arith)
advance_holds distance (suc (suc (suc (suc level)))) small =
    let most = prefix_len-le-length (λ limit. nat_le limit distance) advance_limits in
    (λ h. small, λ h. omega arith)

-- the highest level is taken where none holds the distance
pub advance_beyond : (distance : ℕ) → 2 ^ 32 ≤ distance → advance_level distance ≡ 4
unfolding advance_level
advance_beyond distance large =
    let most = prefix_len-le-length (λ limit. nat_le limit distance) advance_limits in
    let least : 3 < limits_reached distance advance_limits = reached_beyond distance advance_limits 3 advance_rising (omega arith) (omega arith) in
    omega arith

pub jump_holds : (distance : ℕ) → distance < 2 ^ 64 → (jump_level distance ≡ 0) ↔ IsSignedWithin (2 ^ 7) distance
unfolding jump_level
jump_holds distance small = elim (cases_lt ((distance + 2 ^ 7) % 2 ^ 64) (2 ^ 8)) [
  | inl lt ↦ rw (lt-ltb ((distance + 2 ^ 7) % 2 ^ 64) (2 ^ 8) lt) (λ h. (elim (cases_lt distance (2 ^ 7)) [ inl below ↦ inl below | inr above ↦ inr (omega arith) ]), λ h. refl)
  | inr ge ↦ rw (le-ltb ((distance + 2 ^ 7) % 2 ^ 64) (2 ^ 8) ge) (λ h. absurd (omega arith), λ h. elim h [ inl below ↦ absurd (omega arith) | inr above ↦ absurd (omega arith) ])
]

pub jump-le : (distance : ℕ) → jump_level distance ≤ 1
unfolding jump_level
jump-le distance = one_or_none (nat_lt ((distance + 2 ^ 7) % 2 ^ 64) (2 ^ 8))
  where
    one_or_none : (b : Bool) → cond b 0 1 ≤ 1
    one_or_none true = omega arith
    one_or_none false = omega arith

pub unsigned-le : (value : ℕ) → unsigned_level value ≤ 9
unfolding unsigned_level
unsigned-le value = prefix_len-le-length (λ limit. nat_le limit value) unsigned_limits

pub signed-le : (value : ℕ) → signed_level value ≤ 9
unfolding signed_level
signed-le value = prefix_len-le-length (λ limit. nat_le limit (without_sign value)) signed_limits
