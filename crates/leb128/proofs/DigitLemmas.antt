-- A number's digits, one after another.
use Rattle.std.proofs.Common.{◌≡◌, ℕ, zero, suc, ◌+◌, ◌-◌, ◌/◌, ◌%◌, ◌<◌, ◌≤◌, ◌≢◌, ◌∙◌, ℤ, pos, negsuc, ◌<ℤ◌, unsigned_abs, [], ◌∷◌, if◌then◌else◌, refl, ap, arith}
use Rattle.leb128.specs.Room.{uleb_room, sleb_room}
use Rattle.leb128.specs.Digits.{uleb_digits, sleb_digits, sleb_digits_below, sleb_bytes}
use Rattle.leb128.proofs.ReadingLemmas.{is_below, is_from}

pub digits_last : (more number : ℕ) → more ≡ 0 → uleb_digits more number ≡ number ∷ []
digits_last zero number last = refl
digits_last (suc more) number last = absurd (let none : ⊥ = omega arith in none)

pub digits_short : (more number : ℕ) → number < 128 → uleb_digits more number ≡ number ∷ []
digits_short zero number short = refl
digits_short (suc more) number short =
    ap (λ b. if b then number ∷ [] else (128 + number % 128) ∷ uleb_digits more (number / 128)) (is_below number 128 short)

pub digits_more : (more number : ℕ) → more ≢ 0 → 128 ≤ number → uleb_digits more number ≡ (128 + number % 128) ∷ uleb_digits (more - 1) (number / 128)
digits_more zero number some long = absurd (some refl)
digits_more (suc more) number some long =
    ap (λ b. if b then number ∷ [] else (128 + number % 128) ∷ uleb_digits more (number / 128)) (is_from number 128 long)
    ∙ ap (λ less. (128 + number % 128) ∷ uleb_digits less (number / 128)) (let same : more ≡ suc more - 1 = omega arith in same)

pub room_last : (more number : ℕ) → more ≡ 0 → number < uleb_room more → number < 128
room_last zero number last fits = fits
room_last (suc more) number last fits = absurd (let none : ⊥ = omega arith in none)

pub room_more : (more number : ℕ) → more ≢ 0 → number < uleb_room more → number / 128 < uleb_room (more - 1)
room_more zero number some fits = absurd (some refl)
room_more (suc more) number some fits =
    let step : uleb_room (suc more - 1) ≡ uleb_room more = ap uleb_room (let same : suc more - 1 ≡ more = omega arith in same) in omega arith

pub signed_last : (more number : ℕ) → more ≡ 0 → sleb_digits more number ≡ number ∷ []
signed_last zero number last = refl
signed_last (suc more) number last = absurd (let none : ⊥ = omega arith in none)

pub signed_short : (more number : ℕ) → number < 64 → sleb_digits more number ≡ number ∷ []
signed_short zero number short = refl
signed_short (suc more) number short =
    ap (λ b. if b then number ∷ [] else (128 + number % 128) ∷ sleb_digits more (number / 128)) (is_below number 64 short)

pub signed_more : (more number : ℕ) → more ≢ 0 → 64 ≤ number → sleb_digits more number ≡ (128 + number % 128) ∷ sleb_digits (more - 1) (number / 128)
signed_more zero number some long = absurd (some refl)
signed_more (suc more) number some long =
    ap (λ b. if b then number ∷ [] else (128 + number % 128) ∷ sleb_digits more (number / 128)) (is_from number 64 long)
    ∙ ap (λ less. (128 + number % 128) ∷ sleb_digits less (number / 128)) (let same : more ≡ suc more - 1 = omega arith in same)

pub below_last : (more number : ℕ) → more ≡ 0 → sleb_digits_below more number ≡ (127 - number) ∷ []
below_last zero number last = refl
below_last (suc more) number last = absurd (let none : ⊥ = omega arith in none)

pub below_short : (more number : ℕ) → number < 64 → sleb_digits_below more number ≡ (127 - number) ∷ []
below_short zero number short = refl
below_short (suc more) number short =
    ap (λ b. if b then (127 - number) ∷ [] else (255 - number % 128) ∷ sleb_digits_below more (number / 128)) (is_below number 64 short)

pub below_more : (more number : ℕ) → more ≢ 0 → 64 ≤ number
    → sleb_digits_below more number ≡ (255 - number % 128) ∷ sleb_digits_below (more - 1) (number / 128)
below_more zero number some long = absurd (some refl)
below_more (suc more) number some long =
    ap (λ b. if b then (127 - number) ∷ [] else (255 - number % 128) ∷ sleb_digits_below more (number / 128)) (is_from number 64 long)
    ∙ ap (λ less. (255 - number % 128) ∷ sleb_digits_below less (number / 128)) (let same : more ≡ suc more - 1 = omega arith in same)

pub signed_room_last : (more number : ℕ) → more ≡ 0 → number < sleb_room more → number < 64
signed_room_last zero number last fits = fits
signed_room_last (suc more) number last fits = absurd (let none : ⊥ = omega arith in none)

pub signed_room_more : (more number : ℕ) → more ≢ 0 → number < sleb_room more → number / 128 < sleb_room (more - 1)
signed_room_more zero number some fits = absurd (some refl)
signed_room_more (suc more) number some fits =
    let step : sleb_room (suc more - 1) ≡ sleb_room more = ap sleb_room (let same : suc more - 1 ≡ more = omega arith in same) in omega arith

pub signed_up : (value : ℤ) (number : ℕ) → value ≡ pos number → sleb_bytes value ≡ sleb_digits 9 number
unfolding sleb_bytes
signed_up value number is = ap sleb_bytes is

minus_less : (value : ℤ) (size : ℕ) → value <ℤ pos 0 → unsigned_abs value ≡ size → value ≡ negsuc (size - 1)
minus_less value size low is = grind arith

pub signed_down : (value : ℤ) (size : ℕ) → value <ℤ pos 0 → unsigned_abs value ≡ size → sleb_bytes value ≡ sleb_digits_below 9 (size - 1)
unfolding sleb_bytes
signed_down value size low is = ap sleb_bytes (minus_less value size low is)
