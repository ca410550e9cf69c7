-- That LEB128 numbers read back.
use Rattle.std.proofs.Common.{◌≡◌, ℕ, ◌+◌, ◌-◌, ◌*◌, ◌/◌, ◌%◌, ◌^◌, ◌<◌, ◌≤◌, ◌∙◌, zero, suc, Bool, true, false, Some, List, [], ◌∷◌, ◌++◌, All, inl, inr, length, refl, ap, arith}
use Rattle.std.proofs.lemmas.Bool.{cases_lt, lt-ltb, le-ltb, le-leb, lt-leb}
use Rattle.std.proofs.lemmas.Nat.{pow-add}
use Rattle.std.proofs.lemmas.List.Elements.{All-nil, All-cons}
use Rattle.item_bytes.specs.Levels.{leb128_level, IsSignedWithin}
use Rattle.item_bytes.proofs.LimitLemmas.{unsigned_holds, signed_holds}
use Rattle.item_bytes.specs.Leb128.{groups_above, leb128_bytes, last_group, read_leb128}

-- a byte without bit 7 is the last one
read_last : (signed : Bool) (byte : ℕ) (rest : List ℕ) → byte < 2 ^ 7 → read_leb128 signed (byte ∷ rest) ≡ Some (last_group signed byte, rest)
unfolding read_leb128
read_last signed byte rest below = rw (lt-ltb byte (2 ^ 7) below) refl

-- a byte with bit 7 stands before what the others are read as
read_more : (signed : Bool) (group number : ℕ) (bytes rest : List ℕ) → read_leb128 signed bytes ≡ Some (number, rest) → read_leb128 signed ((2 ^ 7 + group) ∷ bytes) ≡ Some ((group + 2 ^ 7 * number) % 2 ^ 64, rest)
unfolding read_leb128
read_more signed group number bytes rest read =
    let same : (2 ^ 7 + group) - 2 ^ 7 ≡ group = omega arith in
    rw (le-ltb (2 ^ 7 + group) (2 ^ 7) (omega arith)) (rw (read, same) refl)

-- the group before the groups above it
joined : (value : ℕ) → value < 2 ^ 64 → (value % 2 ^ 7 + 2 ^ 7 * (value / 2 ^ 7)) % 2 ^ 64 ≡ value
joined value small = omega arith

-- a group more holds 7 bits more
bound_more : (n : ℕ) → 2 ^ (7 * (suc n + 1)) ≡ 2 ^ 7 * 2 ^ (7 * (n + 1))
bound_more n = let same : 7 * (suc n + 1) ≡ 7 + 7 * (n + 1) = omega arith in ap (λ k. 2 ^ k) same ∙ pow-add 2 7 (7 * (n + 1))

signed_bound_more : (n : ℕ) → 2 ^ (7 * (suc n + 1) - 1) ≡ 2 ^ 7 * 2 ^ (7 * (n + 1) - 1)
signed_bound_more n = let same : 7 * (suc n + 1) - 1 ≡ 7 + (7 * (n + 1) - 1) = omega arith in ap (λ k. 2 ^ k) same ∙ pow-add 2 7 (7 * (n + 1) - 1)

unsigned_reads : (n value : ℕ) (rest : List ℕ) → value < 2 ^ 64 → value < 2 ^ (7 * (n + 1)) → read_leb128 false (leb128_bytes false value (suc n) ++ rest) ≡ Some (value, rest)
unfolding leb128_bytes
unsigned_reads zero value rest small fits =
    let same : value % 2 ^ 7 ≡ value = omega arith in
    read_last false (value % 2 ^ 7) rest (omega arith) ∙ ap (λ v. Some (v, rest)) same
unsigned_reads (suc n) value rest small fits =
    let more = bound_more n in
    let same : groups_above false value ≡ value / 2 ^ 7 = omega arith in
    let above : groups_above false value < 2 ^ (7 * (n + 1)) = omega arith in
    let read = unsigned_reads n (groups_above false value) rest (omega arith) above in
    let number : (value % 2 ^ 7 + 2 ^ 7 * groups_above false value) % 2 ^ 64 ≡ value = omega arith in
    read_more false (value % 2 ^ 7) (groups_above false value) (leb128_bytes false (groups_above false value) (suc n) ++ rest) rest read ∙ ap (λ v. Some (v, rest)) number

-- the groups above the lowest one, by the sign
above_positive : (value : ℕ) → value < 2 ^ 63 → groups_above true value ≡ value / 2 ^ 7
above_positive value positive = rw (lt-leb (2 ^ 63) value positive) (omega arith)

above_negative : (value : ℕ) → 2 ^ 63 ≤ value → groups_above true value ≡ value / 2 ^ 7 + (2 ^ 64 - 2 ^ 57)
above_negative value negative = rw (le-leb (2 ^ 63) value negative) refl

-- the last group of a number that 7 bits hold
last_positive : (value : ℕ) → value < 2 ^ 6 → last_group true (value % 2 ^ 7) ≡ value
last_positive value below = rw (lt-leb (2 ^ 6) (value % 2 ^ 7) (omega arith)) (omega arith)

last_negative : (value : ℕ) → value < 2 ^ 64 → 2 ^ 64 ≤ value + 2 ^ 6 → last_group true (value % 2 ^ 7) ≡ value
last_negative value small above = rw (le-leb (2 ^ 6) (value % 2 ^ 7) (omega arith)) (omega arith)

positive_reads : (n value : ℕ) (rest : List ℕ) → value < 2 ^ 63 → value < 2 ^ (7 * (n + 1) - 1) → read_leb128 true (leb128_bytes true value (suc n) ++ rest) ≡ Some (value, rest)
unfolding leb128_bytes
positive_reads zero value rest small fits =
    read_last true (value % 2 ^ 7) rest (omega arith) ∙ ap (λ v. Some (v, rest)) (last_positive value fits)
positive_reads (suc n) value rest small fits =
    let more = signed_bound_more n in
    let same = above_positive value small in
    let above : groups_above true value < 2 ^ (7 * (n + 1) - 1) = omega arith in
    let read = positive_reads n (groups_above true value) rest (omega arith) above in
    let number : (value % 2 ^ 7 + 2 ^ 7 * groups_above true value) % 2 ^ 64 ≡ value = omega arith in
    read_more true (value % 2 ^ 7) (groups_above true value) (leb128_bytes true (groups_above true value) (suc n) ++ rest) rest read ∙ ap (λ v. Some (v, rest)) number

negative_reads : (n value : ℕ) (rest : List ℕ) → value < 2 ^ 64 → 2 ^ 63 ≤ value → 2 ^ 64 ≤ value + 2 ^ (7 * (n + 1) - 1) → read_leb128 true (leb128_bytes true value (suc n) ++ rest) ≡ Some (value, rest)
unfolding leb128_bytes
negative_reads zero value rest small negative fits =
    read_last true (value % 2 ^ 7) rest (omega arith) ∙ ap (λ v. Some (v, rest)) (last_negative value small fits)
negative_reads (suc n) value rest small negative fits =
    let more = signed_bound_more n in
    let same = above_negative value negative in
    let above : 2 ^ 64 ≤ groups_above true value + 2 ^ (7 * (n + 1) - 1) = omega arith in
    let read = negative_reads n (groups_above true value) rest (omega arith) (omega arith) above in
    let number : (value % 2 ^ 7 + 2 ^ 7 * groups_above true value) % 2 ^ 64 ≡ value = omega arith in
    read_more true (value % 2 ^ 7) (groups_above true value) (leb128_bytes true (groups_above true value) (suc n) ++ rest) rest read ∙ ap (λ v. Some (v, rest)) number

-- a signed number within a bound is read back, by its sign
signed_reads : (n value : ℕ) (rest : List ℕ) → value < 2 ^ 64 → IsSignedWithin (2 ^ (7 * (n + 1) - 1)) value → read_leb128 true (leb128_bytes true value (suc n) ++ rest) ≡ Some (value, rest)
signed_reads n value rest small within = elim (cases_lt value (2 ^ 63)) [
  | inl lt ↦ positive_reads n value rest lt (elim within [ inl below ↦ below | inr above ↦ omega arith ])
  | inr ge ↦ negative_reads n value rest small ge (elim within [ inl below ↦ omega arith | inr above ↦ above ])
]

pub reads_back : (signed : Bool) (value groups : ℕ) (rest : List ℕ) → value < 2 ^ 64 → 1 ≤ groups → leb128_level signed value ≤ groups - 1 → read_leb128 signed (leb128_bytes signed value groups ++ rest) ≡ Some (value, rest)
reads_back signed value zero rest small some holds = absurd (omega arith)
reads_back false value (suc n) rest small some holds =
    let fits = (unsigned_holds value n small).0 (omega arith) in
    unsigned_reads n value rest small fits
reads_back true value (suc n) rest small some holds =
    let fits = (signed_holds value n small).0 (omega arith) in
    signed_reads n value rest small fits

pub counted : (signed : Bool) (value groups : ℕ) → length (leb128_bytes signed value groups) ≡ groups
unfolding leb128_bytes
counted signed value zero = refl
counted signed value (suc zero) = refl
counted signed value (suc (suc n)) = let rest = counted signed (groups_above signed value) (suc n) in omega arith

pub are_bytes : (signed : Bool) (value groups : ℕ) → All (λ byte. byte < 2 ^ 8) (leb128_bytes signed value groups)
unfolding leb128_bytes
are_bytes signed value zero = All-nil (λ byte. byte < 2 ^ 8)
are_bytes signed value (suc zero) = All-cons (λ byte. byte < 2 ^ 8) (value % 2 ^ 7) [] (omega arith) (All-nil (λ byte. byte < 2 ^ 8))
are_bytes signed value (suc (suc n)) = All-cons (λ byte. byte < 2 ^ 8) (2 ^ 7 + value % 2 ^ 7) (leb128_bytes signed (groups_above signed value) (suc n)) (omega arith) (are_bytes signed (groups_above signed value) (suc n))
