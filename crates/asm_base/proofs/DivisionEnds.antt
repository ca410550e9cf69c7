-- How far lines, comments and strings reach where it is known what they hold.
use Rattle.std.proofs.Common.{◌≡◌, ℕ, suc, ◌+◌, Bool, true, false, eqb, ◌&&◌, List, [], ◌∷◌, ◌++◌, length, inl, inr, refl, ap, ◌∙◌, arith, eqb-true, ne_eqb, append_assoc}
use Rattle.std.proofs.lemmas.Bool.{not-false, or_parts}
use Rattle.std.proofs.lemmas.List.{length-append}
use Rattle.std.proofs.lemmas.List.Elements.{All-head, All-tail}
use Rattle.asm_base.specs.ByteClasses.{is_feed, begins_with}
use Rattle.asm_base.specs.Pieces.{EndsLine, IsOnLine, has_close, IsQuoted, empty, plain, escape, IsOpenQuoted}
use Rattle.asm_base.specs.Dividing.{line_length, comment_length, quoted_length}

-- where a line ends, a byte stands in front only if it is a line feed
pub ends_line-feed : (first : ℕ) (rest : List ℕ) → EndsLine (first ∷ rest) → is_feed first ≡ true
ends_line-feed first rest ends = not-false (is_feed first) ends

-- where a line ends stands no `"`
pub ends_line-no_quote : (rest : List ℕ) → EndsLine rest → begins_with 34 rest ≡ false
ends_line-no_quote [] ends = refl
ends_line-no_quote (first ∷ rest) ends = rw (eqb-true first 10 (ends_line-feed first rest ends)) refl

pub line_length-whole : (inner rest : List ℕ) → IsOnLine inner → EndsLine rest → line_length (inner ++ rest) ≡ length inner
line_length-whole [] [] line ends = refl
line_length-whole [] (first ∷ rest) line ends = rw ends refl
line_length-whole (byte ∷ inner) rest line ends =
    let IsNoFeed = λ (b : ℕ). is_feed b ≡ false in
    let no_feed : is_feed byte ≡ false = All-head IsNoFeed byte inner line in
    let later = line_length-whole inner rest (All-tail IsNoFeed byte inner line) ends in
    rw no_feed (omega arith)

-- what stands in front of these does not hang on what follows the byte
pub begins_with-before : (byte star : ℕ) (inner rest : List ℕ) → begins_with byte (inner ++ star ∷ rest) ≡ begins_with byte (inner ++ star ∷ [])
begins_with-before byte star [] rest = refl
begins_with-before byte star (first ∷ inner) rest = refl

pub comment_length-closed_by : (inner rest : List ℕ) → has_close (inner ++ 42 ∷ []) ≡ false → comment_length (inner ++ 42 ∷ 47 ∷ rest) ≡ length inner
unfolding comment_length
comment_length-closed_by [] rest open_before = refl
comment_length-closed_by (byte ∷ inner) rest open_before =
    let parts = or_parts (eqb byte 42 && begins_with 47 (inner ++ 42 ∷ [])) _ open_before in
    let here : (eqb byte 42 && begins_with 47 (inner ++ 42 ∷ 47 ∷ rest)) ≡ false = ap (λ b. eqb byte 42 && b) (begins_with-before 47 42 inner (47 ∷ rest)) ∙ parts.0 in
    rw here (ap suc (comment_length-closed_by inner rest parts.1))

pub comment_length-open : (inner : List ℕ) → has_close inner ≡ false → comment_length inner ≡ length inner
unfolding comment_length
comment_length-open [] never = refl
comment_length-open (byte ∷ inner) never =
    let parts = or_parts (eqb byte 42 && begins_with 47 inner) _ never in
    rw parts.0 (ap suc (comment_length-open inner parts.1))

-- past what a string holds
quoted_length-past : (inner rest : List ℕ) → IsQuoted inner → quoted_length false (inner ++ rest) ≡ length inner + quoted_length false rest
unfolding quoted_length
quoted_length-past _ rest empty = omega arith
quoted_length-past _ rest (plain byte inner no_feed no_quote no_escape quoted) =
    let later = quoted_length-past inner rest quoted in
    rw (no_feed, ne_eqb byte 34 no_quote, ne_eqb byte 92 no_escape) (omega arith)
quoted_length-past _ rest (escape byte inner no_feed quoted) =
    let later = quoted_length-past inner rest quoted in
    rw no_feed (omega arith)

-- nothing of a string stands past the end of its line
quoted_length-ends : (escaped : Bool) (rest : List ℕ) → EndsLine rest → quoted_length escaped rest ≡ 0
unfolding quoted_length
quoted_length-ends escaped [] ends = refl
quoted_length-ends true (first ∷ rest) ends = rw (ends_line-feed first rest ends) refl
quoted_length-ends false (first ∷ rest) ends = rw (ends_line-feed first rest ends) refl

pub quoted_length-closed_by : (inner rest : List ℕ) → IsQuoted inner → quoted_length false (inner ++ 34 ∷ rest) ≡ length inner
unfolding quoted_length
quoted_length-closed_by inner rest quoted = let e = quoted_length-past inner (34 ∷ rest) quoted in omega arith

pub quoted_length-open : (inner rest : List ℕ) → IsOpenQuoted inner → EndsLine rest → quoted_length false (inner ++ rest) ≡ length inner
unfolding quoted_length
quoted_length-open inner rest (inl quoted) ends =
    let e = quoted_length-past inner rest quoted in
    let none = quoted_length-ends false rest ends in
    omega arith
quoted_length-open inner rest (inr last) ends =
    let e = quoted_length-past last.0 (92 ∷ rest) last.2 in
    let none = quoted_length-ends true rest ends in
    rw (last.1, append_assoc) (omega (arith, length-append last.0 (92 ∷ [])))
