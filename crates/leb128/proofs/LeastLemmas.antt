-- No bytes that read as a number are fewer than those that it's written in.
use Rattle.std.proofs.Common.{◌≡◌, ℕ, zero, suc, ◌+◌, ◌-◌, ◌*◌, ◌/◌, ◌%◌, ◌^◌, ◌<◌, ◌≤◌, nat_lt, Bool, true, false, ℤ, pos, negsuc, ◌+ℤ◌, ◌-ℤ◌, ◌*ℤ◌, neg_ℤ, int_le, int_lt, ◌&&◌, List, [], ◌∷◌, ◌++◌, length, Option, None, Some, if◌then◌else◌, refl, sym, ◌∙◌, ap, subst, arith}
use Rattle.std.specs.Prelude.{All}
use Rattle.std.specs.Option.{option_map, option_and_then}
use Rattle.std.proofs.lemmas.List.Elements.{All-head, All-tail}
use Rattle.leb128.specs.Reading.{uleb, uleb_above, sleb, sleb_above}
use Rattle.leb128.specs.Digits.{uleb_digits, uleb_bytes, sleb_digits, sleb_digits_below, sleb_bytes}
use Rattle.leb128.proofs.DigitLemmas.{digits_short, signed_short, below_short}

-- a choice has what each of its values has
choose : {A : Type 0} (P : A → Type 0) (b : Bool) (this other : A) → (b ≡ true → P this) → (b ≡ false → P other) → P (if b then this else other)
choose P true this other given given_other = given refl
choose P false this other given given_other = given_other refl

test_below : (a b : ℕ) → nat_lt a b ≡ true → a < b
test_below a b below = grind arith

test_from : (a b : ℕ) → nat_lt a b ≡ false → b ≤ a
test_from a b from = grind arith

-- UNSIGNED

-- what was read has its number in so many bytes, less what is left, however many the digits may be
abbrev Least : ℕ → Option (ℕ × List ℕ) → Type 0
Least most None = Unit {0}
Least most (Some read) = (more : ℕ) → length (uleb_digits more read.0) + length read.1 ≤ most

longer : (most left low above more : ℕ) → low < 128 → ((more : ℕ) → length (uleb_digits more above) + left ≤ most)
    → length (uleb_digits more (low + 128 * above)) + left ≤ suc most
longer most left low above zero small below = let one = below 0 in omega (arith, one)
longer most left low above (suc more) small below =
    choose (λ digits. length digits + left ≤ suc most) (nat_lt (low + 128 * above) 128) ((low + 128 * above) ∷ [])
    ((128 + (low + 128 * above) % 128) ∷ uleb_digits more ((low + 128 * above) / 128))
    (λ is. let one = below 0 in omega (arith, one))
    (λ is.
    let same : (low + 128 * above) / 128 ≡ above = omega (arith, small) in
    let rest : length (uleb_digits more ((low + 128 * above) / 128)) + left ≤ most = subst (λ n. length (uleb_digits more n) + left ≤ most) (sym same) (below more) in
    omega (arith, rest))

least_above : (byte most : ℕ) → byte < 2 ^ 8 → 128 ≤ byte → (due : Option (ℕ × List ℕ)) → Least most due
    → Least (suc most) (option_and_then (uleb_above byte) due)
least_above byte most small long None below = tt
least_above byte most small long (Some (above, tail)) below =
    choose (Least (suc most)) (nat_lt above (2 ^ 57)) (Some (byte - 128 + 128 * above, tail)) None
    (λ is more. longer most (length tail) (byte - 128) above more (omega (arith, small, long)) below) (λ is. tt)

least : (bytes : List ℕ) → All (λ byte. byte < 2 ^ 8) bytes → Least (length bytes) (uleb bytes)
least [] small = tt
least (byte ∷ rest) small =
    choose (Least (suc (length rest))) (nat_lt byte 128) (Some (byte, rest)) (option_and_then (uleb_above byte) (uleb rest))
    (λ is more.
    let one : length (uleb_digits more byte) ≡ 1 = ap length (digits_short more byte (test_below byte 128 is)) in
    omega (arith, one))
    (λ is. least_above byte (length rest) (All-head (λ byte. byte < 2 ^ 8) byte rest small) (test_from byte 128 is) (uleb rest)
    (least rest (All-tail (λ byte. byte < 2 ^ 8) byte rest small)))

pub least_unsigned : (number : ℕ) (bytes rest : List ℕ) → All (λ byte. byte < 2 ^ 8) bytes → uleb bytes ≡ Some (number, rest)
    → length (uleb_bytes number) + length rest ≤ length bytes
unfolding uleb_bytes
least_unsigned number bytes rest small is = subst (Least (length bytes)) is (least bytes small) 9

-- SIGNED

abbrev digits_of : ℕ → ℤ → List ℕ
digits_of more (pos number) = sleb_digits more number
digits_of more (negsuc number) = sleb_digits_below more number

abbrev LeastSigned : ℕ → Option (ℤ × List ℕ) → Type 0
LeastSigned most None = Unit {0}
LeastSigned most (Some read) = (more : ℕ) → length (digits_of more read.0) + length read.1 ≤ most

longer_up : (most left low above more : ℕ) → low < 128 → ((more : ℕ) → length (sleb_digits more above) + left ≤ most)
    → length (sleb_digits more (low + 128 * above)) + left ≤ suc most
longer_up most left low above zero small below = let one = below 0 in omega (arith, one)
longer_up most left low above (suc more) small below =
    choose (λ digits. length digits + left ≤ suc most) (nat_lt (low + 128 * above) 64) ((low + 128 * above) ∷ [])
    ((128 + (low + 128 * above) % 128) ∷ sleb_digits more ((low + 128 * above) / 128))
    (λ is. let one = below 0 in omega (arith, one))
    (λ is.
    let same : (low + 128 * above) / 128 ≡ above = omega (arith, small) in
    let rest : length (sleb_digits more ((low + 128 * above) / 128)) + left ≤ most = subst (λ n. length (sleb_digits more n) + left ≤ most) (sym same) (below more) in
    omega (arith, rest))

longer_down : (most left low above more : ℕ) → low < 128 → ((more : ℕ) → length (sleb_digits_below more above) + left ≤ most)
    → length (sleb_digits_below more (low + 128 * above)) + left ≤ suc most
longer_down most left low above zero small below = let one = below 0 in omega (arith, one)
longer_down most left low above (suc more) small below =
    choose (λ digits. length digits + left ≤ suc most) (nat_lt (low + 128 * above) 64) ((127 - (low + 128 * above)) ∷ [])
    ((255 - (low + 128 * above) % 128) ∷ sleb_digits_below more ((low + 128 * above) / 128))
    (λ is. let one = below 0 in omega (arith, one))
    (λ is.
    let same : (low + 128 * above) / 128 ≡ above = omega (arith, small) in
    let rest : length (sleb_digits_below more ((low + 128 * above) / 128)) + left ≤ most = subst (λ n. length (sleb_digits_below more n) + left ≤ most) (sym same) (below more) in
    omega (arith, rest))

value_up : (low above : ℕ) → pos low +ℤ (pos 128 *ℤ pos above) ≡ pos (low + 128 * above)
value_up low above = grind arith

value_down : (low above : ℕ) → low < 128 → pos low +ℤ (pos 128 *ℤ negsuc above) ≡ negsuc (127 - low + 128 * above)
value_down low above small = grind arith

last_down : (byte : ℕ) → 64 ≤ byte → byte < 128 → pos byte -ℤ pos 128 ≡ negsuc (127 - byte)
last_down byte high low = grind arith

longer_signed : (most left low more : ℕ) (above : ℤ) → low < 128 → ((more : ℕ) → length (digits_of more above) + left ≤ most)
    → length (digits_of more (pos low +ℤ (pos 128 *ℤ above))) + left ≤ suc most
longer_signed most left low more (pos above) small below =
    subst (λ z. length (digits_of more z) + left ≤ suc most) (sym (value_up low above)) (longer_up most left low above more small below)
longer_signed most left low more (negsuc above) small below =
    subst (λ z. length (digits_of more z) + left ≤ suc most) (sym (value_down low above small)) (longer_down most left (127 - low) above more (omega arith) below)

signed_above : (byte most : ℕ) → byte < 2 ^ 8 → 128 ≤ byte → (due : Option (ℤ × List ℕ)) → LeastSigned most due
    → LeastSigned (suc most) (option_and_then (sleb_above byte) due)
signed_above byte most small long None below = tt
signed_above byte most small long (Some (above, tail)) below =
    choose (λ value. LeastSigned (suc most) (option_map (λ value. (value, tail)) value)) (int_le (neg_ℤ (pos (2 ^ 56))) above && int_lt above (pos (2 ^ 56)))
    (Some (pos (byte - 128) +ℤ (pos 128 *ℤ above))) None
    (λ is more. longer_signed most (length tail) (byte - 128) more above (omega (arith, small, long)) below) (λ is. tt)

signed_least : (bytes : List ℕ) → All (λ byte. byte < 2 ^ 8) bytes → LeastSigned (length bytes) (sleb bytes)
signed_least [] small = tt
signed_least (byte ∷ rest) small =
    choose (LeastSigned (suc (length rest))) (nat_lt byte 64) (Some (pos byte, rest))
    (if nat_lt byte 128 then Some (pos byte -ℤ pos 128, rest) else option_and_then (sleb_above byte) (sleb rest))
    (λ is more.
    let one : length (sleb_digits more byte) ≡ 1 = ap length (signed_short more byte (test_below byte 64 is)) in
    omega (arith, one))
    (λ high. choose (LeastSigned (suc (length rest))) (nat_lt byte 128) (Some (pos byte -ℤ pos 128, rest)) (option_and_then (sleb_above byte) (sleb rest))
    (λ is more.
    let from = test_from byte 64 high in
    let below = test_below byte 128 is in
    let one : length (digits_of more (pos byte -ℤ pos 128)) ≡ 1 =
    ap (λ z. length (digits_of more z)) (last_down byte from below) ∙ ap length (below_short more (127 - byte) (omega (arith, from, below))) in
    omega (arith, one))
    (λ is. signed_above byte (length rest) (All-head (λ byte. byte < 2 ^ 8) byte rest small) (test_from byte 128 is) (sleb rest)
    (signed_least rest (All-tail (λ byte. byte < 2 ^ 8) byte rest small))))

of_digits : (number : ℤ) → digits_of 9 number ≡ sleb_bytes number
unfolding sleb_bytes
of_digits (pos number) = refl
of_digits (negsuc number) = refl

pub least_signed : (number : ℤ) (bytes rest : List ℕ) → All (λ byte. byte < 2 ^ 8) bytes → sleb bytes ≡ Some (number, rest)
    → length (sleb_bytes number) + length rest ≤ length bytes
least_signed number bytes rest small is =
    subst (λ digits. length digits + length rest ≤ length bytes) (of_digits number) (subst (LeastSigned (length bytes)) is (signed_least bytes small) 9)
