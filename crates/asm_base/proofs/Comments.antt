-- How far a block comment reaches, one byte further at a time.
use Rattle.std.proofs.Common.{◌≡◌, ℕ, ◌+◌, ◌<◌, ◌≤◌, Bool, true, false, eqb, cond, suc, ◌&&◌, List, [], ◌∷◌, length, get_or, drop, refl, arith}
use Rattle.std.proofs.lemmas.List.{drop_more}
use Rattle.asm_base.specs.ByteClasses.{begins_with}
use Rattle.asm_base.specs.Dividing.{comment_length}

-- a byte at which no `*/` stands
pub comment_length-further : (bytes : List ℕ) (i : ℕ) → i < length bytes → (eqb (get_or bytes i 0) 42 && begins_with 47 (drop (i + 1) bytes)) ≡ false → comment_length (drop i bytes) ≡ 1 + comment_length (drop (i + 1) bytes)
unfolding comment_length
comment_length-further bytes i h e = rw (drop_more bytes i 0 h, e) (omega arith)

-- the `*/` that closes the comment
pub comment_length-closed : (bytes : List ℕ) (i : ℕ) → i < length bytes → (eqb (get_or bytes i 0) 42 && begins_with 47 (drop (i + 1) bytes)) ≡ true → comment_length (drop i bytes) ≡ 0
unfolding comment_length
comment_length-closed bytes i h e = rw (drop_more bytes i 0 h, e) refl

-- a comment ends within its bytes, and its `*/` too
pub comment_length-le : (bytes : List ℕ) → comment_length bytes ≤ length bytes
unfolding comment_length
comment_length-le [] = omega arith
comment_length-le (byte ∷ rest) = let h = comment_length-le rest in at_most (eqb byte 42 && begins_with 47 rest) _ _ h
  where
    at_most : (stops : Bool) (n m : ℕ) → n ≤ m → cond stops 0 (suc n) ≤ suc m
    at_most true n m h = omega arith
    at_most false n m h = omega arith

-- where a comment closes, both bytes of the `*/` are there
pub comment_closes : (bytes : List ℕ) → comment_length bytes < length bytes → comment_length bytes + 2 ≤ length bytes
unfolding comment_length
comment_closes [] short = absurd (omega arith)
comment_closes (byte ∷ []) short = within (eqb byte 42) short
  where
    within : (star : Bool) → cond (star && false) 0 1 < 1 → cond (star && false) 0 1 + 2 ≤ 1
    within true short = absurd (omega arith)
    within false short = absurd (omega arith)
comment_closes (byte ∷ next ∷ rest) short = within (eqb byte 42 && eqb next 47) (comment_length (next ∷ rest)) (comment_closes (next ∷ rest)) short
  where
    within : (stops : Bool) (n : ℕ) → (n < suc (length rest) → n + 2 ≤ suc (length rest)) → cond stops 0 (suc n) < suc (suc (length rest)) → cond stops 0 (suc n) + 2 ≤ suc (suc (length rest))
    within true n later short = omega arith
    within false n later short = let h = later (omega arith) in omega arith

pub ruleset comment_steps = (comment_length-further, comment_length-closed, comment_length-le)
