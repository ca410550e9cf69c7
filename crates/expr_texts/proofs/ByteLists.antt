-- Lists of bytes, and parts of them.
use Rattle.std.proofs.Common.{◌≡◌, ℕ, zero, suc, ◌&&◌, Bool, true, false, List, [], ◌∷◌, take, drop, refl}
use Rattle.std.specs.List.{list_all}
use Rattle.expr_texts.specs.Shown.{is_byte}

pub both : (a b : Bool) → (a && b) ≡ true → (a ≡ true) × (b ≡ true)
both true true is = (refl, refl)
both true false is = cc
both false b is = cc

pub all_take : (n : ℕ) (bytes : List ℕ) → list_all is_byte bytes ≡ true → list_all is_byte (take n bytes) ≡ true
all_take zero bytes all = refl
all_take (suc n) [] all = refl
all_take (suc n) (byte ∷ bytes) all =
    let parts = both (is_byte byte) (list_all is_byte bytes) all in
    let first = parts.0 in
    rw first (all_take n bytes parts.1)

pub all_drop : (n : ℕ) (bytes : List ℕ) → list_all is_byte bytes ≡ true → list_all is_byte (drop n bytes) ≡ true
all_drop zero bytes all = all
all_drop (suc n) [] all = refl
all_drop (suc n) (byte ∷ bytes) all = all_drop n bytes (both (is_byte byte) (list_all is_byte bytes) all).1
