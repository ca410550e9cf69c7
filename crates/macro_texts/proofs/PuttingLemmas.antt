-- Arguments put in, piece by piece.
use Rattle.std.proofs.Common.{◌≡◌, ℕ, zero, suc, not, ◌==◌, ◌||◌, ◌+◌, ◌-◌, ◌<◌, ◌≤◌, Bool, true, false, cond, List, [], ◌∷◌, ◌++◌, length, take, drop, get_or, refl, sym, ap, ◌∙◌, append_assoc, arith}
use Rattle.std.proofs.lemmas.List.{append-nil, drop-drop, take_all, take_rest, length-drop}
use Rattle.std.proofs.Math.ListN.{drop_of_length-le}
use Rattle.std.proofs.lemmas.Bool.{false≢true}
use Rattle.std.proofs.lemmas.Bool.Decides.{nat_tests}
use Rattle.std.specs.List.{prefix_len}
use Rattle.macro_texts.specs.Arguments.{ArgumentAs}
use Rattle.macro_texts.specs.Putting.{is_plain, has_backslash, put_at, put_from, put}
use Rattle.macro_texts.specs.PuttingSeen.{IsPutOn}

-- bytes that are left out are passed over
skipped : (arguments : List ArgumentAs) (number n : ℕ) (bytes : List ℕ) → put_from arguments number n bytes ≡ put arguments number (drop n bytes)
unfolding put_from
skipped arguments number zero bytes = refl
skipped arguments number (suc n) [] = refl
skipped arguments number (suc n) (byte ∷ rest) = skipped arguments number n rest

-- a backslash and what it takes
put_piece : (arguments : List ArgumentAs) (number byte : ℕ) (rest made more : List ℕ) (taken : ℕ) → is_plain byte ≡ false
    → more ≡ (put_at arguments number rest).text → taken ≡ (put_at arguments number rest).taken
    → (made ++ more) ++ put arguments number (drop taken rest) ≡ made ++ put arguments number (byte ∷ rest)
unfolding put_from
put_piece arguments number byte rest made more taken e p t =
    let skip = skipped arguments number taken rest in
    rw (e, ← p, ← t, skip) (append_assoc made more (put arguments number (drop taken rest)))

-- bytes that stand for themselves
plain_by : (arguments : List ArgumentAs) (number byte : ℕ) (rest : List ℕ) (n : ℕ) (plain : Bool) → is_plain byte ≡ plain
    → put arguments number rest ≡ take n rest ++ put arguments number (drop n rest)
    → put arguments number (byte ∷ rest) ≡ take (cond plain (1 + n) 0) (byte ∷ rest) ++ put arguments number (drop (cond plain (1 + n) 0) (byte ∷ rest))
unfolding put_from
plain_by arguments number byte rest n true e is =
    let one : 1 + n ≡ suc n = omega arith in
    rw (e, one) (ap (λ xs. byte ∷ xs) is)
plain_by arguments number byte rest n false e is = refl

plain_run : (arguments : List ArgumentAs) (number : ℕ) (bytes : List ℕ)
    → put arguments number bytes ≡ take (prefix_len is_plain bytes) bytes ++ put arguments number (drop (prefix_len is_plain bytes) bytes)
plain_run arguments number [] = refl
plain_run arguments number (byte ∷ rest) = plain_by arguments number byte rest (prefix_len is_plain rest) (is_plain byte) refl (plain_run arguments number rest)

-- one step over plain bytes
not_92 : (byte : ℕ) → (byte ≡ 92 → ⊥) → is_plain byte ≡ true
not_92 byte other = grind (arith, nat_tests)

some_by : (plain : Bool) (n : ℕ) → plain ≡ true → 0 < cond plain (1 + n) 0
some_by plain n is = let some : 0 < 1 + n = omega arith in rw is some

some_plain : (body : List ℕ) (d : ℕ) → 0 < length body → (get_or body 0 d ≡ 92 → ⊥) → 0 < prefix_len is_plain body
some_plain [] d some other = absurd (omega arith)
some_plain (byte ∷ rest) d some other = some_by (is_plain byte) (prefix_len is_plain rest) (not_92 byte other)

pub put_plain : (arguments : List ArgumentAs) (number : ℕ) (made now body : List ℕ) (n d : ℕ) → 0 < length body → (get_or body 0 d ≡ 92 → ⊥) → n ≤ length body → n ≡ prefix_len is_plain body → now ≡ made ++ take n body
    → IsPutOn arguments number made now body n
put_plain arguments number made now body n d some other fits is made_is =
    let run = plain_run arguments number body in
    let here = rw (← is) at run in
    record {
      some = omega (arith, is, some_plain body d some other);
      within = fits;
      makes = rw (made_is, here) (append_assoc made (take n body) (put arguments number (drop n body)));
    }

-- one step over a backslash
is_92 : (byte : ℕ) → byte ≡ 92 → is_plain byte ≡ false
is_92 byte is = grind (arith, nat_tests)

pub put_backslash : (arguments : List ArgumentAs) (number : ℕ) (made now more body : List ℕ) (taken n d : ℕ) → 0 < length body → get_or body 0 d ≡ 92
    → more ≡ (put_at arguments number (take (length body - 1) (drop 1 body))).text → taken ≡ (put_at arguments number (take (length body - 1) (drop 1 body))).taken
    → taken ≤ length (take (length body - 1) (drop 1 body)) → now ≡ made ++ more → n ≡ 1 + taken
    → IsPutOn arguments number made now body n
put_backslash arguments number made now more [] taken n d some first p t fits made_is is = absurd (omega arith)
put_backslash arguments number made now more (byte ∷ rest) taken n d some first p t fits made_is is =
    let left : take (length (byte ∷ rest) - 1) (drop 1 (byte ∷ rest)) ≡ rest = take_rest (byte ∷ rest) 1 in
    let p2 = rw left at p in
    let t2 = rw left at t in
    let fits2 = rw left at fits in
    let next : n ≡ suc taken = omega (arith, is) in
    record {
      some = omega (arith, next);
      within = omega (arith, next, fits2);
      makes = rw (made_is, next) (put_piece arguments number byte rest made more taken (is_92 byte first) p2 t2);
    }

-- nothing is left
pub put_end : (arguments : List ArgumentAs) (number : ℕ) (made body : List ℕ) (at : ℕ) → length body ≤ at
    → made ++ put arguments number (drop at body) ≡ put arguments number body → made ≡ put arguments number body
unfolding put_from
put_end arguments number made body at all is =
    sym (append-nil made) ∙ ap (λ xs. made ++ put arguments number xs) (sym (drop_of_length-le body all)) ∙ is

-- without a backslash all bytes stand for themselves
none_by : (found : Bool) (other : Bool) (n k : ℕ) → (found || other) ≡ false → (other ≡ false → k ≤ n) → suc k ≤ cond (not found) (1 + n) 0
none_by true other n k is rest = absurd (false≢true (sym is))
none_by false other n k is rest = omega (arith, rest is)

all_plain : (body : List ℕ) → has_backslash body ≡ false → length body ≤ prefix_len is_plain body
all_plain [] is = omega arith
all_plain (byte ∷ rest) is = none_by (byte == 92) (has_backslash rest) (prefix_len is_plain rest) (length rest) is (all_plain rest)

-- a body without a backslash stays as it is
pub put_whole : (arguments : List ArgumentAs) (number : ℕ) (body : List ℕ) → has_backslash body ≡ false → put arguments number body ≡ body
unfolding put_from
put_whole arguments number body is =
    let all = all_plain body is in
    plain_run arguments number body ∙ ap (λ xs. take (prefix_len is_plain body) body ++ put arguments number xs) (drop_of_length-le body all) ∙ append-nil (take (prefix_len is_plain body) body) ∙ take_all (prefix_len is_plain body) body all

-- what is left behind so many bytes of what is left
pub body_left : (body : List ℕ) (at : ℕ) → take (length body - at) (drop at body) ≡ drop at body
body_left body at = take_rest body at

pub body_next : (body : List ℕ) (at n : ℕ) → drop n (take (length body - at) (drop at body)) ≡ drop (at + n) body
body_next body at n = ap (drop n) (take_rest body at) ∙ drop-drop n at body

pub body_within : (body : List ℕ) (at n : ℕ) → at ≤ length body → n ≤ length (take (length body - at) (drop at body)) → at + n ≤ length body
body_within body at n inside fits = omega (arith, ap length (take_rest body at), length-drop at body)
