-- What was written as a signed number reads back.
use Rattle.std.proofs.Common.{◌≡◌, ℕ, zero, suc, ◌+◌, ◌-◌, ◌/◌, ◌%◌, ◌^◌, ◌<◌, ◌≤◌, ℤ, pos, negsuc, ◌+ℤ◌, ◌-ℤ◌, ◌*ℤ◌, neg_ℤ, int_le, int_lt, ◌&&◌, true, List, [], ◌∷◌, ◌++◌, None, Some, nat_lt, if◌then◌else◌, ◌∙◌, ap, arith, inl, inr, ◌⊎◌}
use Rattle.std.proofs.lemmas.Bool.{cases_lt}
use Rattle.std.specs.Option.{option_map, option_and_then}
use Rattle.leb128.specs.Reading.{sleb, sleb_above}
use Rattle.leb128.specs.Room.{sleb_room}
use Rattle.leb128.specs.Digits.{sleb_digits, sleb_digits_below, sleb_bytes}
use Rattle.leb128.specs.Numbers.{IsSigned64}
use Rattle.leb128.proofs.ReadingLemmas.{is_below, is_from}

-- what a first byte with more behind it reads as
sleb_long : (byte : ℕ) (digits tail : List ℕ) (above : ℤ) → 128 ≤ byte → sleb digits ≡ Some (above, tail)
    → sleb (byte ∷ digits) ≡ sleb_above byte (above, tail)
sleb_long byte digits tail above long reads =
    ap (λ b. if b then Some (pos byte, digits) else (if nat_lt byte 128 then Some (pos byte -ℤ pos 128, digits) else option_and_then (sleb_above byte) (sleb digits))) (is_from byte 64 (omega arith))
    ∙ ap (λ b. if b then Some (pos byte -ℤ pos 128, digits) else option_and_then (sleb_above byte) (sleb digits)) (is_from byte 128 long)
    ∙ ap (option_and_then (sleb_above byte)) reads

above_gives : (byte : ℕ) (tail : List ℕ) (above : ℤ) → (int_le (neg_ℤ (pos (2 ^ 56))) above && int_lt above (pos (2 ^ 56))) ≡ true
    → sleb_above byte (above, tail) ≡ Some (pos (byte - 128) +ℤ (pos 128 *ℤ above), tail)
above_gives byte tail above near =
    ap (λ b. option_map (λ value. (value, tail)) (if b then Some (pos (byte - 128) +ℤ (pos 128 *ℤ above)) else None)) near

near_up : (number : ℕ) → number < 2 ^ 56 → (int_le (neg_ℤ (pos (2 ^ 56))) (pos number) && int_lt (pos number) (pos (2 ^ 56))) ≡ true
near_up number fits = grind arith

near_down : (number : ℕ) → number < 2 ^ 56 → (int_le (neg_ℤ (pos (2 ^ 56))) (negsuc number) && int_lt (negsuc number) (pos (2 ^ 56))) ≡ true
near_down number fits = grind arith

value_up : (number : ℕ) → pos (128 + number % 128 - 128) +ℤ (pos 128 *ℤ pos (number / 128)) ≡ pos number
value_up number = grind arith

value_down : (number : ℕ) → pos (255 - number % 128 - 128) +ℤ (pos 128 *ℤ negsuc (number / 128)) ≡ negsuc number
value_down number = grind arith

last_down : (number : ℕ) → number < 64 → pos (127 - number) -ℤ pos 128 ≡ negsuc number
last_down number fits = grind arith

up_one : (number : ℕ) (tail : List ℕ) → number < 64 → sleb (number ∷ tail) ≡ Some (pos number, tail)
up_one number tail fits = grind (arith, is_below number 64 fits)

down_one : (number : ℕ) (tail : List ℕ) → number < 64 → sleb ((127 - number) ∷ tail) ≡ Some (negsuc number, tail)
down_one number tail fits =
    ap (λ b. if b then Some (pos (127 - number), tail) else (if nat_lt (127 - number) 128 then Some (pos (127 - number) -ℤ pos 128, tail) else option_and_then (sleb_above (127 - number)) (sleb tail))) (is_from (127 - number) 64 (omega arith))
    ∙ ap (λ b. if b then Some (pos (127 - number) -ℤ pos 128, tail) else option_and_then (sleb_above (127 - number)) (sleb tail)) (is_below (127 - number) 128 (omega arith))
    ∙ ap (λ z. Some (z, tail)) (last_down number fits)

up_split : (more number : ℕ) (tail : List ℕ) → number < 2 ^ 63
    → sleb (sleb_digits more (number / 128) ++ tail) ≡ Some (pos (number / 128), tail)
    → (number < 64) ⊎ (64 ≤ number) → sleb (sleb_digits (suc more) number ++ tail) ≡ Some (pos number, tail)
up_split more number tail small below (inl short) =
    ap (λ b. sleb ((if b then number ∷ [] else (128 + number % 128) ∷ sleb_digits more (number / 128)) ++ tail)) (is_below number 64 short)
    ∙ up_one number tail short
up_split more number tail small below (inr long) =
    ap (λ b. sleb ((if b then number ∷ [] else (128 + number % 128) ∷ sleb_digits more (number / 128)) ++ tail)) (is_from number 64 long)
    ∙ sleb_long (128 + number % 128) (sleb_digits more (number / 128) ++ tail) tail (pos (number / 128)) (omega arith) below
    ∙ above_gives (128 + number % 128) tail (pos (number / 128)) (near_up (number / 128) (omega arith))
    ∙ ap (λ z. Some (z, tail)) (value_up number)

up_read : (more number : ℕ) (tail : List ℕ) → number < sleb_room more → number < 2 ^ 63 → sleb (sleb_digits more number ++ tail) ≡ Some (pos number, tail)
up_read zero number tail fits small = up_one number tail fits
up_read (suc more) number tail fits small =
    up_split more number tail small (up_read more (number / 128) tail (omega arith) (omega arith)) (cases_lt number 64)

down_split : (more number : ℕ) (tail : List ℕ) → number < 2 ^ 63
    → sleb (sleb_digits_below more (number / 128) ++ tail) ≡ Some (negsuc (number / 128), tail)
    → (number < 64) ⊎ (64 ≤ number) → sleb (sleb_digits_below (suc more) number ++ tail) ≡ Some (negsuc number, tail)
down_split more number tail small below (inl short) =
    ap (λ b. sleb ((if b then (127 - number) ∷ [] else (255 - number % 128) ∷ sleb_digits_below more (number / 128)) ++ tail)) (is_below number 64 short)
    ∙ down_one number tail short
down_split more number tail small below (inr long) =
    ap (λ b. sleb ((if b then (127 - number) ∷ [] else (255 - number % 128) ∷ sleb_digits_below more (number / 128)) ++ tail)) (is_from number 64 long)
    ∙ sleb_long (255 - number % 128) (sleb_digits_below more (number / 128) ++ tail) tail (negsuc (number / 128)) (omega arith) below
    ∙ above_gives (255 - number % 128) tail (negsuc (number / 128)) (near_down (number / 128) (omega arith))
    ∙ ap (λ z. Some (z, tail)) (value_down number)

down_read : (more number : ℕ) (tail : List ℕ) → number < sleb_room more → number < 2 ^ 63 → sleb (sleb_digits_below more number ++ tail) ≡ Some (negsuc number, tail)
down_read zero number tail fits small = down_one number tail fits
down_read (suc more) number tail fits small =
    down_split more number tail small (down_read more (number / 128) tail (omega arith) (omega arith)) (cases_lt number 64)

pub sleb_read : (number : ℤ) (tail : List ℕ) → IsSigned64 number → sleb (sleb_bytes number ++ tail) ≡ Some (number, tail)
unfolding sleb_bytes
sleb_read (pos number) tail small = up_read 9 number tail (omega arith) small
sleb_read (negsuc number) tail small = down_read 9 number tail (omega arith) small
