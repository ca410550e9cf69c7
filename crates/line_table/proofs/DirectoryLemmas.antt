-- The directories of a line table: each stands at its place, and none twice.
use Rattle.std.proofs.Common.{◌≡◌, ◌≢◌, ◌⊎◌, inl, inr, ℕ, zero, suc, ◌+◌, ◌<◌, Bool, true, false, cond, not, List, [], ◌∷◌, ◌++◌, length, Option, None, Some, IfSome, ◌==◌, if◌then◌else◌, slice_get, refl, sym, ap, ◌∙◌, subst, arith}
use Rattle.std.specs.List.{filter}
use Rattle.std.specs.Str.{bytes_eq}
use Rattle.std.proofs.lemmas.Option.{slice_get_within, same_Some}
use Rattle.std.proofs.lemmas.Slice.Eq.{bytes_eq-Decides}
use Rattle.line_directives.specs.SourceFiles.{place_of, with_directory_of}
use Rattle.line_table.specs.Header.{is_other}

-- LISTS WITHOUT REPEATS

-- none of these texts is that one
abbrev pub Lacks : List ℕ → List (List ℕ) → Type 0
Lacks text [] = Unit {0}
Lacks text (other ∷ others) = (other ≢ text) × Lacks text others

-- no text stands twice
abbrev pub AreApart : List (List ℕ) → Type 0
AreApart [] = Unit {0}
AreApart (text ∷ others) = Lacks text others × AreApart others

same_text : (a b : List ℕ) → bytes_eq a b ≡ true → a ≡ b
same_text a b is = (bytes_eq-Decides a b).0 is

other_text : (a b : List ℕ) → bytes_eq a b ≡ false → a ≢ b
other_text a b is same = let yes : bytes_eq a b ≡ true = (bytes_eq-Decides a b).1 same in let none : ⊥ = cc in none

pub lacks_at : (text : List ℕ) (texts : List (List ℕ)) (i : ℕ) → Lacks text texts → slice_get texts i ≡ Some text → ⊥
lacks_at text [] i lacks at = let none : ⊥ = cc in none
lacks_at text (other ∷ others) zero lacks at = lacks.0 (same_Some other text at)
lacks_at text (other ∷ others) (suc i) lacks at = lacks_at text others i lacks.1 at

pub apart_at : (texts : List (List ℕ)) (i j : ℕ) (text : List ℕ) → AreApart texts → slice_get texts i ≡ Some text → slice_get texts j ≡ Some text → i ≡ j
apart_at [] i j text apart one two = absurd (let none : ⊥ = cc in none)
apart_at (other ∷ others) zero zero text apart one two = refl
apart_at (other ∷ others) zero (suc j) text apart one two =
    absurd (lacks_at other others j apart.0 (two ∙ sym one))
apart_at (other ∷ others) (suc i) zero text apart one two =
    absurd (lacks_at other others i apart.0 (one ∙ sym two))
apart_at (other ∷ others) (suc i) (suc j) text apart one two = ap suc (apart_at others i j text apart.1 one two)

lacks_onto : (b : Bool) (text other : List ℕ) (others : List (List ℕ)) → other ≢ text → Lacks text others → Lacks text (cond b (other ∷ others) others)
lacks_onto true text other others apart lacks = (apart, lacks)
lacks_onto false text other others apart lacks = lacks

lacks_filter : (p : List ℕ → Bool) (text : List ℕ) (texts : List (List ℕ)) → Lacks text texts → Lacks text (filter p texts)
lacks_filter p text [] lacks = tt
lacks_filter p text (other ∷ others) lacks = lacks_onto (p other) text other (filter p others) lacks.0 (lacks_filter p text others lacks.1)

apart_onto : (b : Bool) (text : List ℕ) (others : List (List ℕ)) → Lacks text others → AreApart others → AreApart (cond b (text ∷ others) others)
apart_onto true text others lacks apart = (lacks, apart)
apart_onto false text others lacks apart = apart

pub apart_filter : (p : List ℕ → Bool) (texts : List (List ℕ)) → AreApart texts → AreApart (filter p texts)
apart_filter p [] apart = tt
apart_filter p (text ∷ others) apart =
    apart_onto (p text) text (filter p others) (lacks_filter p text others apart.0) (apart_filter p others apart.1)

lacks_push : (text new : List ℕ) (texts : List (List ℕ)) → new ≢ text → Lacks text texts → Lacks text (texts ++ new ∷ [])
lacks_push text new [] other lacks = (other, tt)
lacks_push text new (one ∷ others) other lacks = (lacks.0, lacks_push text new others other lacks.1)

apart_push : (new : List ℕ) (texts : List (List ℕ)) → Lacks new texts → AreApart texts → AreApart (texts ++ new ∷ [])
apart_push new [] lacks apart = (tt, tt)
apart_push new (one ∷ others) lacks apart =
    (lacks_push one new others (λ same. lacks.0 (sym same)) apart.0, apart_push new others lacks.1 apart.1)

pub still_at : (texts more : List (List ℕ)) (i : ℕ) (text : List ℕ) → slice_get texts i ≡ Some text → slice_get (texts ++ more) i ≡ Some text
still_at [] more i text at = absurd (let none : ⊥ = cc in none)
still_at (other ∷ others) more zero text at = at
still_at (other ∷ others) more (suc i) text at = still_at others more i text at

last_at : (texts : List (List ℕ)) (text : List ℕ) → slice_get (texts ++ text ∷ []) (length texts) ≡ Some text
last_at [] text = refl
last_at (other ∷ others) text = last_at others text

-- PLACES

-- what stands at the place of a text, or that it stands nowhere
abbrev pub IsPlace : List ℕ → List (List ℕ) → ℕ → Type 0
IsPlace text texts place = (slice_get texts place ≡ Some text) ⊎ ((place ≡ length texts) × Lacks text texts)

place_onto : (b : Bool) (text other : List ℕ) (others : List (List ℕ)) (below : ℕ) → bytes_eq other text ≡ b → IsPlace text others below
    → IsPlace text (other ∷ others) (cond (not b) (1 + below) 0)
place_onto true text other others below is place = inl (ap Some (same_text other text is))
place_onto false text other others below is (inl at) =
    let next : suc below ≡ 1 + below = omega arith in
    inl (subst (λ n. slice_get (other ∷ others) n ≡ Some text) next at)
place_onto false text other others below is (inr (behind, lacks)) =
    inr (omega (arith, behind), (other_text other text is, lacks))

pub place_is : (text : List ℕ) (texts : List (List ℕ)) → IsPlace text texts (place_of text texts)
place_is text [] = inr (refl, tt)
place_is text (other ∷ others) = place_onto (bytes_eq other text) text other others (place_of text others) refl (place_is text others)

-- a directory that is seen
pub record IsSeen (directory : Option (List ℕ)) (old new : List (List ℕ)) : Type 0 where
  pub kept : (i : ℕ) (text : List ℕ) → slice_get old i ≡ Some text → slice_get new i ≡ Some text
  pub here : IfSome directory (λ text. slice_get new (place_of text old) ≡ Some text)
  pub apart : AreApart old → AreApart new

new_seen : (text : List ℕ) (old : List (List ℕ)) → Lacks text old → place_of text old ≡ length old → IsSeen (Some text) old (old ++ text ∷ [])
new_seen text old lacks place = record {
  kept = λ i other at. still_at old (text ∷ []) i other at;
  here = ap (slice_get (old ++ text ∷ [])) place ∙ last_at old text;
  apart = apart_push text old lacks;
}

old_seen : (text : List ℕ) (old : List (List ℕ)) → slice_get old (place_of text old) ≡ Some text → IsSeen (Some text) old old
old_seen text old at = record { kept = λ i other is. is; here = at; apart = λ apart. apart }

seen_by : (b : Bool) (text : List ℕ) (old : List (List ℕ)) → (place_of text old == length old) ≡ b → IsPlace text old (place_of text old)
    → IsSeen (Some text) old (if b then old ++ text ∷ [] else old)
seen_by true text old is (inl at) =
    let within : place_of text old < length old = slice_get_within old (place_of text old) text at in
    absurd (let none : ⊥ = grind (arith, is, within) in none)
seen_by true text old is (inr (place, lacks)) = new_seen text old lacks place
seen_by false text old is (inl at) = old_seen text old at
seen_by false text old is (inr (place, lacks)) = absurd (let none : ⊥ = grind (arith, is, place) in none)

pub is_seen : (directory : Option (List ℕ)) (old : List (List ℕ)) → IsSeen directory old (with_directory_of directory old)
is_seen None old = record { kept = λ i other is. is; here = tt; apart = λ apart. apart }
is_seen (Some text) old = seen_by (place_of text old == length old) text old refl (place_is text old)

-- DIRECTORY 0 AND THE OTHERS

lacks_first_onto : (b : Bool) (first other : List ℕ) (others : List (List ℕ)) → bytes_eq other first ≡ b → Lacks first others
    → Lacks first (cond (not b) (other ∷ others) others)
lacks_first_onto true first other others is lacks = lacks
lacks_first_onto false first other others is lacks = (other_text other first is, lacks)

pub lacks_first : (first : List ℕ) (texts : List (List ℕ)) → Lacks first (filter (is_other first) texts)
lacks_first first [] = tt
lacks_first first (other ∷ others) =
    lacks_first_onto (bytes_eq other first) first other (filter (is_other first) others) refl (lacks_first first others)

lacks_back_onto : (b : Bool) (first text other : List ℕ) (others : List (List ℕ)) → bytes_eq other first ≡ b → first ≢ text
    → Lacks text (cond (not b) (other ∷ others) others) → (other ≢ text) × Lacks text others
lacks_back_onto true first text other others is apart lacks = (λ same. apart (sym (same_text other first is) ∙ same), lacks)
lacks_back_onto false first text other others is apart lacks = lacks

lacks_back : (first text : List ℕ) (texts : List (List ℕ)) → first ≢ text → Lacks text (filter (is_other first) texts) → Lacks text texts
lacks_back first text [] apart lacks = tt
lacks_back first text (other ∷ others) apart lacks =
    let both = lacks_back_onto (bytes_eq other first) first text other (filter (is_other first) others) refl apart lacks in
    (both.0, lacks_back first text others apart both.1)

placed_by : (first text : List ℕ) (texts : List (List ℕ)) (i place : ℕ) → slice_get texts i ≡ Some text
    → IsPlace text (first ∷ filter (is_other first) texts) place → slice_get (first ∷ filter (is_other first) texts) place ≡ Some text
placed_by first text texts i place at (inl there) = there
placed_by first text texts i place at (inr (behind, lacks)) =
    absurd (lacks_at text texts i (lacks_back first text texts lacks.0 lacks.1) at)

-- a text that is seen stands at its place among directory 0 and the others
pub placed_among : (first text : List ℕ) (texts : List (List ℕ)) (i : ℕ) → slice_get texts i ≡ Some text
    → slice_get (first ∷ filter (is_other first) texts) (place_of text (first ∷ filter (is_other first) texts)) ≡ Some text
placed_among first text texts i at =
    placed_by first text texts i (place_of text (first ∷ filter (is_other first) texts)) at (place_is text (first ∷ filter (is_other first) texts))

pub apart_among : (first : List ℕ) (texts : List (List ℕ)) → AreApart texts → AreApart (first ∷ filter (is_other first) texts)
apart_among first texts apart = (lacks_first first texts, apart_filter (is_other first) texts apart)
