-- How far a string reaches, one byte further at a time.
use Rattle.std.proofs.Common.{◌≡◌, ℕ, ◌+◌, ◌<◌, ◌≤◌, Bool, true, false, eqb, cond, suc, ◌||◌, List, [], ◌∷◌, length, get_or, drop, refl, arith}
use Rattle.std.proofs.lemmas.List.{drop_more}
use Rattle.std.proofs.lemmas.Bool.Decides.{nat_tests}
use Rattle.asm_base.specs.Dividing.{quoted_length}

-- a line feed ends it
pub quoted_length-feed : (escaped : Bool) (bytes : List ℕ) (i : ℕ) → i < length bytes → eqb (get_or bytes i 0) 10 ≡ true → quoted_length escaped (drop i bytes) ≡ 0
unfolding quoted_length
quoted_length-feed true bytes i h e = rw (drop_more bytes i 0 h, e) refl
quoted_length-feed false bytes i h e = rw (drop_more bytes i 0 h, e) refl

-- a byte that a backslash escapes
pub quoted_length-escaped : (bytes : List ℕ) (i : ℕ) → i < length bytes → eqb (get_or bytes i 0) 10 ≡ false → quoted_length true (drop i bytes) ≡ 1 + quoted_length false (drop (i + 1) bytes)
unfolding quoted_length
quoted_length-escaped bytes i h e = rw (drop_more bytes i 0 h, e) (omega arith)

-- a byte that is no quote
pub quoted_length-further : (bytes : List ℕ) (i : ℕ) → i < length bytes → eqb (get_or bytes i 0) 10 ≡ false → eqb (get_or bytes i 0) 34 ≡ false → quoted_length false (drop i bytes) ≡ 1 + quoted_length (eqb (get_or bytes i 0) 92) (drop (i + 1) bytes)
unfolding quoted_length
quoted_length-further bytes i h feed e = rw (drop_more bytes i 0 h, feed, e) (omega arith)

-- the quote that closes the string
pub quoted_length-closed : (bytes : List ℕ) (i : ℕ) → i < length bytes → eqb (get_or bytes i 0) 10 ≡ false → eqb (get_or bytes i 0) 34 ≡ true → quoted_length false (drop i bytes) ≡ 0
unfolding quoted_length
quoted_length-closed bytes i h feed e = rw (drop_more bytes i 0 h, feed, e) refl

-- a string ends within its bytes
pub quoted_length-le : (escaped : Bool) (bytes : List ℕ) → quoted_length escaped bytes ≤ length bytes
unfolding quoted_length
quoted_length-le escaped [] = omega arith
quoted_length-le true (byte ∷ rest) = let h = quoted_length-le false rest in grind (arith, nat_tests)
quoted_length-le false (byte ∷ rest) = let h = quoted_length-le (eqb byte 92) rest in at_most (eqb byte 10 || eqb byte 34) _ _ h
  where
    at_most : (stops : Bool) (n m : ℕ) → n ≤ m → cond stops 0 (suc n) ≤ suc m
    at_most true n m h = omega arith
    at_most false n m h = omega arith

-- the steps of a loop over the bytes of a string
pub ruleset quoted_steps = (quoted_length-feed, quoted_length-escaped, quoted_length-further, quoted_length-closed, quoted_length-le)
