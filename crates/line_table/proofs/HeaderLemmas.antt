-- Bytes that are put one behind the other.
use Rattle.std.proofs.Common.{◌≡◌, ℕ, List, [], ◌++◌, sym, ap, ◌∙◌, append_assoc, append-nil}

-- a front, a number and what follows
pub number_between : (old front first digits second rest new : List ℕ) → first ≡ old ++ front → second ≡ first ++ digits → new ++ [] ≡ second ++ rest
    → new ≡ old ++ (front ++ (digits ++ rest))
number_between old front first digits second rest new one two three =
    sym (append-nil new) ∙ three ∙ ap (λ (bytes : List ℕ). bytes ++ rest) two ∙ ap (λ (bytes : List ℕ). bytes ++ digits ++ rest) one
    ∙ ap (λ (bytes : List ℕ). bytes ++ rest) (append_assoc old front digits) ∙ append_assoc old (front ++ digits) rest
    ∙ ap (λ (bytes : List ℕ). old ++ bytes) (append_assoc front digits rest)
