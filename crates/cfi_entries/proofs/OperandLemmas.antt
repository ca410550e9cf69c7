-- What operands are read as, and that fewer bytes are left.
use Rattle.std.proofs.Common.{◌≡◌, ℕ, suc, ◌+◌, ◌-◌, ◌*◌, ◌^◌, ◌<◌, ◌≤◌, ℤ, pos, ◌*ℤ◌, ◌-ℤ◌, neg_ℤ, Bool, true, false, length, List, [], ◌∷◌, Option, None, Some, nat_le, nat_lt, int_lt, int_le, ◌&&◌, if◌then◌else◌, refl, arith}
use Rattle.std.specs.Option.{option_map, option_and_then}
use Rattle.leb128.specs.Reading.{uleb, uleb_above, sleb, sleb_above, value_above}
use Rattle.cfi_rows.specs.Instructions.{small, register_of, within, plain_of, times, factored_of, times_signed, factored_signed_of, byte_of, two_bytes_of, four_bytes_of}

-- what is read, if anything, leaves fewer bytes than these, and is such a thing
unfoldable pub Gives : {A : Type 0} → (A → Type 0) → ℕ → Option (A × List ℕ) → Type 0
Gives Is most None = Unit {0}
Gives Is most (Some read) = (length read.1 < most) × Is read.0

abbrev pub Anything : {A : Type 0} → A → Type 0
Anything a = Unit {0}

pub more_left : {A : Type 0} (Is : A → Type 0) (few many : ℕ) (read : Option (A × List ℕ)) → few ≤ many → Gives Is few read → Gives Is many read
unfolding Gives
more_left Is few many None at_most given = tt
more_left Is few many (Some (a, rest)) at_most (shorter, is) = (omega arith, is)

pub then_gives : {A B : Type 0} (Is : A → Type 0) (Becomes : B → Type 0) (most : ℕ) (on_read : A × List ℕ → Option (B × List ℕ)) (read : Option (A × List ℕ))
    → Gives Is most read → ((a : A) (rest : List ℕ) → length rest < most → Is a → Gives Becomes most (on_read (a, rest)))
    → Gives Becomes most (option_and_then on_read read)
unfolding Gives
then_gives Is Becomes most on_read None given on = tt
then_gives Is Becomes most on_read (Some (a, rest)) (shorter, is) on = on a rest shorter is

pub map_gives : {A B : Type 0} (Is : A → Type 0) (Becomes : B → Type 0) (most : ℕ) (make : A → B) (read : Option (A × List ℕ))
    → Gives Is most read → ((a : A) → Is a → Becomes (make a)) → Gives Becomes most (option_map (λ a. (make a.0, a.1)) read)
unfolding Gives
map_gives Is Becomes most make None given on = tt
map_gives Is Becomes most make (Some (a, rest)) (shorter, is) on = (shorter, on a is)

if_gives : {A : Type 0} (Is : A → Type 0) (most : ℕ) (b : Bool) (this : A) (rest : List ℕ) → length rest < most → (b ≡ true → Is this)
    → Gives Is most (if b then Some (this, rest) else None)
unfolding Gives
if_gives Is most true this rest shorter is = (shorter, is refl)
if_gives Is most false this rest shorter is = tt

pub choose : {A : Type 0} (Is : A → Type 0) (most : ℕ) (b : Bool) (this other : Option (A × List ℕ)) → Gives Is most this → Gives Is most other
    → Gives Is most (if b then this else other)
unfolding Gives
choose Is most true this other given given_other = given
choose Is most false this other given given_other = given_other

uleb_gives : (bytes : List ℕ) → Gives Anything (length bytes) (uleb bytes)
unfolding Gives
uleb_gives [] = tt
uleb_gives (byte ∷ rest) =
    choose Anything (suc (length rest)) (nat_lt byte 128) (Some (byte, rest)) (option_and_then (uleb_above byte) (uleb rest)) (omega arith, tt)
    (then_gives Anything Anything (suc (length rest)) (uleb_above byte) (uleb rest)
    (more_left Anything (length rest) (suc (length rest)) (uleb rest) (omega arith) (uleb_gives rest))
    (λ above tail shorter is. if_gives Anything (suc (length rest)) (nat_lt above (2 ^ 57)) (byte - 128 + 128 * above) tail shorter (λ _. tt)))

above_gives : (byte : ℕ) (most : ℕ) (tail : List ℕ) (value : Option ℤ) → length tail < most → Gives Anything most (option_map (λ value. (value, tail)) value)
unfolding Gives
above_gives byte most tail None shorter = tt
above_gives byte most tail (Some value) shorter = (shorter, tt)

sleb_gives : (bytes : List ℕ) → Gives Anything (length bytes) (sleb bytes)
unfolding Gives
sleb_gives [] = tt
sleb_gives (byte ∷ rest) =
    choose Anything (suc (length rest)) (nat_lt byte 64) (Some (pos byte, rest)) _ (omega arith, tt)
    (choose Anything (suc (length rest)) (nat_lt byte 128) (Some (pos byte -ℤ pos 128, rest)) _ (omega arith, tt)
    (then_gives Anything Anything (suc (length rest)) (sleb_above byte) (sleb rest)
    (more_left Anything (length rest) (suc (length rest)) (sleb rest) (omega arith) (sleb_gives rest))
    (λ above tail shorter is. above_gives byte (suc (length rest)) tail (value_above byte above) shorter)))

-- the operands
abbrev pub IsSmall : ℕ → Type 0
IsSmall number = number < 64

abbrev pub IsPlain : ℤ → Type 0
IsPlain offset = (number : ℕ) × (number < 2 ^ 63) × (offset ≡ pos number)

-- -8 times a number, which has a sign or not
abbrev pub IsBelow : ℤ → Type 0
IsBelow offset = (number : ℕ) × (number ≤ 2 ^ 60) × (offset ≡ pos number *ℤ neg_ℤ (pos 8))

abbrev pub IsFactored : ℤ → Type 0
IsFactored offset = (number : ℤ) × ((int_lt (neg_ℤ (pos (2 ^ 60))) number && int_le number (pos (2 ^ 60))) ≡ true) × (offset ≡ number *ℤ neg_ℤ (pos 8))

pub register_gives : (bytes : List ℕ) → Gives IsSmall (length bytes) (register_of bytes)
register_gives bytes =
    then_gives Anything IsSmall (length bytes) small (uleb bytes) (uleb_gives bytes)
    (λ number rest shorter is. if_gives IsSmall (length bytes) (nat_lt number 64) number rest shorter (λ fits. grind arith))

pub plain_gives : (bytes : List ℕ) → Gives IsPlain (length bytes) (plain_of bytes)
plain_gives bytes =
    then_gives Anything IsPlain (length bytes) within (uleb bytes) (uleb_gives bytes)
    (λ number rest shorter is. if_gives IsPlain (length bytes) (nat_lt number (2 ^ 63)) (pos number) rest shorter (λ fits. (number, grind arith, refl)))

pub factored_gives : (bytes : List ℕ) → Gives IsBelow (length bytes) (factored_of bytes)
factored_gives bytes =
    then_gives Anything IsBelow (length bytes) times (uleb bytes) (uleb_gives bytes)
    (λ number rest shorter is. if_gives IsBelow (length bytes) (nat_le number (2 ^ 60)) (pos number *ℤ neg_ℤ (pos 8)) rest shorter (λ fits. (number, grind arith, refl)))

pub factored_signed_gives : (bytes : List ℕ) → Gives IsFactored (length bytes) (factored_signed_of bytes)
factored_signed_gives bytes =
    then_gives Anything IsFactored (length bytes) times_signed (sleb bytes) (sleb_gives bytes)
    (λ number rest shorter is.
    if_gives IsFactored (length bytes) (int_lt (neg_ℤ (pos (2 ^ 60))) number && int_le number (pos (2 ^ 60))) (number *ℤ neg_ℤ (pos 8)) rest shorter (λ fits. (number, fits, refl)))

pub byte_gives : (bytes : List ℕ) → Gives Anything (length bytes) (byte_of bytes)
unfolding Gives
byte_gives [] = tt
byte_gives (a ∷ rest) = (omega arith, tt)

pub two_bytes_gives : (bytes : List ℕ) → Gives Anything (length bytes) (two_bytes_of bytes)
unfolding Gives
two_bytes_gives [] = tt
two_bytes_gives (a ∷ []) = tt
two_bytes_gives (a ∷ b ∷ rest) = (omega arith, tt)

pub four_bytes_gives : (bytes : List ℕ) → Gives Anything (length bytes) (four_bytes_of bytes)
unfolding Gives
four_bytes_gives [] = tt
four_bytes_gives (a ∷ []) = tt
four_bytes_gives (a ∷ b ∷ []) = tt
four_bytes_gives (a ∷ b ∷ c ∷ []) = tt
four_bytes_gives (a ∷ b ∷ c ∷ d ∷ rest) = (omega arith, tt)
