-- The first of the shortest.
use Rattle.std.proofs.Common.{◌≡◌, ◌<◌, ◌≤◌, ◌⊎◌, ◌∷◌, ◌∙◌, List, Some, [], ap, arith, false, inl, inr, length, refl, slice_get, subst, suc, sym, true, zero, ℕ}
use Rattle.std.proofs.lemmas.Bool.{cases_order, both_ways, and_parts}
use Rattle.x86_table.specs.declared.forms.Row.{Row}
use Rattle.x86_insn.specs.Views.{View}
use Rattle.x86_table.specs.Bytes.{bytes_of}
use Rattle.x86_table.specs.Fits.{fits}
use Rattle.x86_table.specs.Rows.{the_rows}
use Rattle.x86_parts.specs.Building.{built, takes, is_shaped, all_shaped}
use Rattle.x86_parts.specs.Codes.{Means, OrderedCodes, AtMost, Before}
use Rattle.x86_encode.proofs.Complete.{takes_all}

pub at_most_same : (xs : List ℕ) → AtMost xs xs
at_most_same [] = tt
at_most_same (x ∷ xs) = inr (refl, at_most_same xs)

pub some_is : {A : Type 0} {m n : A} → Some m ≡ Some n → m ≡ n
some_is h = cc

-- a row that is not taken codes nothing
pub misses : (n : ℕ) (r : Row) (insn : View) → slice_get the_rows n ≡ Some r → is_shaped r ≡ true → takes r insn ≡ false → (bytes : List ℕ) → OrderedCodes bytes insn n → ⊥
misses n r insn e w t bytes (s, p, c) =
    let same : s ≡ r = some_is (sym c.found ∙ e) in
    let P : Row → Type 0 = λ x. Means x p insn in
    let Q : Row → Type 0 = λ x. fits x p ≡ true in
    both_ways (takes r insn) t (takes_all r insn p w (subst Q same c.fit) (subst P same c.means)).takes

-- all that a row codes is what it takes, or longer
pub rest_longer : (n : ℕ) (r : Row) (insn : View) → slice_get the_rows n ≡ Some r → is_shaped r ≡ true → (other : List ℕ) → OrderedCodes other insn n
    → (bytes_of r (built r insn) ≡ other) ⊎ (length (bytes_of r (built r insn)) < length other)
rest_longer n r insn e w other (s, p, c) =
    let same : s ≡ r = some_is (sym c.found ∙ e) in
    let P : Row → Type 0 = λ x. Means x p insn in
    let Q : Row → Type 0 = λ x. fits x p ≡ true in
    let bytes : other ≡ bytes_of r p = c.bytes_are ∙ ap (λ (x : Row). bytes_of x p) same in
    elim (takes_all r insn p w (subst Q same c.fit) (subst P same c.means)).size [
      | inl a ↦ inl (a ∙ sym bytes)
      | inr lt ↦ inr (rw bytes lt)
    ]

pub own_before : (n : ℕ) (a b : List ℕ) → (a ≡ b) ⊎ (length a < length b) → Before a n b n
own_before n a b (inl e) = inr (ap length e, inr (refl, rw (← e) (at_most_same a)))
own_before n a b (inr lt) = inl lt

pub later_by : (i n : ℕ) (a b : List ℕ) → i < n → length a ≤ length b → Before a i b n
later_by i n a b lt le = elim (cases_order (length a) (length b)) [
  | inl e ↦ inr (e, inl lt)
  | inr (inl l) ↦ inl l
  | inr (inr g) ↦ absurd (omega arith)
]

-- a later row of at least that length
later : (i n : ℕ) (a c b : List ℕ) → i < n → length a ≤ length c → (c ≡ b) ⊎ (length c < length b) → Before a i b n
later i n a c b lt le (inl e) = let k : length c ≡ length b = ap length e in later_by i n a b lt (omega arith)
later i n a c b lt le (inr g) = later_by i n a b lt (omega arith)

pub shorter_before : (i j n : ℕ) (new code other : List ℕ) → length new < length code → Before code i other j → Before new n other j
shorter_before i j n new code other lt (inl l) = inl (omega arith)
shorter_before i j n new code other lt (inr p) = let e = p.0 in inl (omega arith)

within : (xs : List Row) (i : ℕ) (r : Row) → slice_get xs i ≡ Some r → i < length xs
within [] i r h = cc
within (x ∷ xs) zero r h = omega arith
within (x ∷ xs) (suc i) r h = let l = within xs i r h in omega arith

pub shaped : all_shaped the_rows ≡ true
unfolding the_rows
shaped = refl

pub code_within : (bytes : List ℕ) (insn : View) (j : ℕ) → OrderedCodes bytes insn j → j < length the_rows
code_within bytes insn j (r, p, c) = within the_rows j r c.found

-- a row of the table is shaped
pub shaped_in : (rows : List Row) (i : ℕ) (r : Row) → all_shaped rows ≡ true → slice_get rows i ≡ Some r → is_shaped r ≡ true
shaped_in [] i r a h = cc
shaped_in (x ∷ rows) zero r a h = let p = and_parts (is_shaped x) (all_shaped rows) a in subst (λ (y : Row). is_shaped y ≡ true) (some_is h) p.0
shaped_in (x ∷ rows) (suc i) r a h = let p = and_parts (is_shaped x) (all_shaped rows) a in shaped_in rows i r p.1 h

pub shaped_at : (n : ℕ) (r : Row) → slice_get the_rows n ≡ Some r → is_shaped r ≡ true
shaped_at n r e = shaped_in the_rows n r shaped e
