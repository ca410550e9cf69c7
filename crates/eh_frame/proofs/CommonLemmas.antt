-- Terms that are compared one after the other.
use Rattle.std.proofs.Common.{◌≡◌, ℕ, ◌+◌, ◌<◌, ◌&&◌, Bool, false, true, List, [], ◌∷◌, length, drop, refl, ◌∙◌, ap, arith, slice_index_or}
use Rattle.std.proofs.lemmas.List.{drop_more}
use Rattle.asm_expr.specs.declared.forms.Term.{Term}
use Rattle.eh_frame.specs.Commons.{same_term, same_terms}

-- lists of two lengths are not the same
pub terms_apart : (one other : List Term) → (length one ≡ length other → ⊥) → false ≡ same_terms one other
terms_apart [] [] apart = absurd (apart refl)
terms_apart [] (other ∷ others) apart = refl
terms_apart (one ∷ ones) [] apart = refl
terms_apart (one ∷ ones) (other ∷ others) apart =
    by (same_term one other) (terms_apart ones others (λ same. apart (omega (arith, same))))
  where
    by : (b : Bool) → false ≡ same_terms ones others → false ≡ (b && same_terms ones others)
    by true rest = rest
    by false rest = refl

-- from one index to the next
terms_at : (one other : List Term) (i : ℕ) (d e : Term) → i < length one → i < length other
    → same_terms (drop i one) (drop i other) ≡ (same_term (slice_index_or one i d) (slice_index_or other i e) && same_terms (drop (i + 1) one) (drop (i + 1) other))
terms_at one other i d e within also =
    ap (λ terms. same_terms terms (drop i other)) (drop_more one i d within)
    ∙ ap (same_terms (slice_index_or one i d ∷ drop (i + 1) one)) (drop_more other i e also)

pub terms_more : (one other : List Term) (i : ℕ) (d e : Term) → i < length one → length one ≡ length other
    → same_terms one other ≡ same_terms (drop i one) (drop i other) → same_term (slice_index_or one i d) (slice_index_or other i e) ≡ true
    → same_terms one other ≡ same_terms (drop (i + 1) one) (drop (i + 1) other)
terms_more one other i d e within same so_far equal =
    so_far ∙ terms_at one other i d e within (omega (arith, within, same)) ∙ ap (λ b. b && same_terms (drop (i + 1) one) (drop (i + 1) other)) equal

pub terms_not : (one other : List Term) (i : ℕ) (d e : Term) → i < length one → length one ≡ length other
    → same_terms one other ≡ same_terms (drop i one) (drop i other) → same_term (slice_index_or one i d) (slice_index_or other i e) ≡ false
    → same_terms one other ≡ false
terms_not one other i d e within same so_far apart =
    so_far ∙ terms_at one other i d e within (omega (arith, within, same)) ∙ ap (λ b. b && same_terms (drop (i + 1) one) (drop (i + 1) other)) apart

drop_all : (one : List Term) → drop (length one) one ≡ []
drop_all [] = refl
drop_all (one ∷ ones) = drop_all ones

pub terms_all : (one other : List Term) → length one ≡ length other → same_terms one other ≡ same_terms (drop (length one) one) (drop (length one) other)
    → same_terms one other ≡ true
terms_all one other same so_far =
    so_far ∙ ap (λ ones. same_terms ones (drop (length one) other)) (drop_all one)
    ∙ ap (same_terms []) (ap (λ n. drop n other) same ∙ drop_all other)
