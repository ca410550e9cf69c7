-- Lists of which one element is changed.
use Rattle.std.proofs.Common.{◌≡◌, ℕ, zero, suc, ◌<◌, ◌≤◌, List, [], ◌∷◌, Option, Some, None, length, map, refl, sym, ap, ◌∙◌, arith}
use Rattle.std.specs.Prelude.{slice_get}
use Rattle.asm_frags.specs.Addresses.{changed_there, changed_at}

pub changed_more : {X : Type 0} (change : X → X) (x : X) (xs : List X) (n : ℕ) → changed_at change (x ∷ xs) (suc n) ≡ x ∷ changed_at change xs n
changed_more {X} change x xs n = by_one (slice_get xs n)
  where
    by_one : (o : Option X) → changed_there change (x ∷ xs) (suc n) o ≡ x ∷ changed_there change xs n o
    by_one None = refl
    by_one (Some y) = refl

-- changed twice
pub changed_twice : {X : Type 0} (change again : X → X) (xs : List X) (n : ℕ) → changed_at again (changed_at change xs n) n ≡ changed_at (λ x. again (change x)) xs n
changed_twice change again [] n = refl
changed_twice change again (x ∷ xs) zero = refl
changed_twice {X} change again (x ∷ xs) (suc n) =
    ap (λ (all : List X). changed_at again all (suc n)) (changed_more change x xs n) ∙ changed_more again x (changed_at change xs n) n
    ∙ ap (λ (all : List X). x ∷ all) (changed_twice change again xs n) ∙ sym (changed_more (λ x. again (change x)) x xs n)

-- changed alike
pub changed_alike : {X : Type 0} (change other : X → X) (xs : List X) (n : ℕ) (x : X) → slice_get xs n ≡ Some x → change x ≡ other x → changed_at change xs n ≡ changed_at other xs n
changed_alike change other xs n x is alike = rw (is, alike)

-- what stands there then
pub changed_get : {X : Type 0} (change : X → X) (xs : List X) (n : ℕ) (x : X) → slice_get xs n ≡ Some x → slice_get (changed_at change xs n) n ≡ Some (change x)
changed_get change [] n x is = absurd cc
changed_get change (y ∷ ys) zero x is = let same : y ≡ x = cc in rw same
changed_get {X} change (y ∷ ys) (suc n) x is = ap (λ (all : List X). slice_get all (suc n)) (changed_more change y ys n) ∙ changed_get change ys n x is

pub changed_length : {X : Type 0} (change : X → X) (xs : List X) (n : ℕ) → length (changed_at change xs n) ≡ length xs
changed_length change [] n = refl
changed_length change (x ∷ xs) zero = refl
changed_length {X} change (x ∷ xs) (suc n) = ap (λ (all : List X). length all) (changed_more change x xs n) ∙ ap suc (changed_length change xs n)

-- a change that leaves it as it is
pub changed_none : {X : Type 0} (change : X → X) (xs : List X) (n : ℕ) → ((x : X) → change x ≡ x) → xs ≡ changed_at change xs n
changed_none change [] n same = refl
changed_none {X} change (x ∷ xs) zero same = ap (λ (y : X). y ∷ xs) (sym (same x))
changed_none {X} change (x ∷ xs) (suc n) same = ap (λ (all : List X). x ∷ all) (changed_none change xs n same) ∙ sym (changed_more change x xs n)

-- the list with its first n elements changed
abbrev pub front : {X : Type 0} → (X → X) → ℕ → List X → List X
front change zero xs = xs
front change (suc n) [] = []
front change (suc n) (x ∷ xs) = change x ∷ front change n xs

pub front_next : {X : Type 0} (change : X → X) (n : ℕ) (xs : List X) → n < length xs → changed_at change (front change n xs) n ≡ front change (suc n) xs
front_next change n [] inside = absurd (omega arith)
front_next change zero (x ∷ xs) inside = refl
front_next {X} change (suc n) (x ∷ xs) inside =
    changed_more change (change x) (front change n xs) n ∙ ap (λ (all : List X). change x ∷ all) (front_next change n xs (omega arith))

pub front_length : {X : Type 0} (change : X → X) (n : ℕ) (xs : List X) → length (front change n xs) ≡ length xs
front_length change zero xs = refl
front_length change (suc n) [] = refl
front_length change (suc n) (x ∷ xs) = ap suc (front_length change n xs)

pub front_all : {X : Type 0} (change : X → X) (n : ℕ) (xs : List X) → length xs ≤ n → front change n xs ≡ map change xs
front_all change zero [] all = refl
front_all change zero (x ∷ xs) all = absurd (omega arith)
front_all change (suc n) [] all = refl
front_all {X} change (suc n) (x ∷ xs) all = ap (λ (ys : List X). change x ∷ ys) (front_all change n xs (omega arith))
