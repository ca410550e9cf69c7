-- The row that the encoding takes is the first of the shortest.
use Rattle.std.proofs.Common.{◌≡◌, ◌<◌, ◌+◌, ◌==◌, ◌⊎◌, ◌∷◌, ◌∙◌, if◌then◌else◌, Bool, List, None, Option, Some, [], ap, arith, eq-eqb, false, inl, inr, length, nat_lt, refl, slice_get, subst, suc, sym, true, zero, ℕ}
use Rattle.std.proofs.lemmas.Bool.{cases_order, cases_Bool, both_ways, ltb-true, ltb-false}
use Rattle.x86_table.specs.declared.forms.Row.{Row}
use Rattle.x86_parts.specs.declared.found.Found.{Found}
use Rattle.x86_insn.specs.Views.{View}
use Rattle.x86_table.specs.Bytes.{bytes_of}
use Rattle.x86_table.specs.Rows.{the_rows}
use Rattle.x86_parts.specs.Building.{built, takes}
use Rattle.x86_parts.specs.Codes.{OrderedCodes, Before, HasNoOrderedCode}
use Rattle.x86_encode.specs.Encoding.{RowAt, size_by, row_if, row_offered, shorter, shortest_of, shortest_row}
use Rattle.x86_encode.proofs.Best.{misses, own_before, later_by, rest_longer, shaped_at, some_is}
use Rattle.x86_encode.proofs.Complete.{taken}
use Rattle.x86_encode.proofs.Search.{Taking}

-- WHAT THE FOLD GIVES

-- the row is one of these, counted from an index, and takes the instruction; no row that does has fewer bytes, or as many and stands before it
pub record IsLeast (insn : View) (i : ℕ) (rows : List Row) (x : RowAt) : Type 0 where
  pub place : ℕ
  pub row_is : x.row ≡ i + place
  pub found : slice_get rows place ≡ Some x.r
  pub taken : takes x.r insn ≡ true
  pub least : (j : ℕ) (s : Row) → slice_get rows j ≡ Some s → takes s insn ≡ true
      → (size_by insn x.r < size_by insn s) ⊎ ((size_by insn x.r ≡ size_by insn s) × (x.row < suc (i + j)))

-- the same where no row may take it
abbrev pub Least : View → ℕ → List Row → Option RowAt → Type 0
Least insn i rows None = (j : ℕ) (s : Row) → slice_get rows j ≡ Some s → takes s insn ≡ true → ⊥
Least insn i rows (Some x) = IsLeast insn i rows x

-- a fact of all rows that take the instruction, by the first and the others
ahead : (P : ℕ → Row → Type 0) (r : Row) (rows : List Row) → P 0 r → ((j : ℕ) (s : Row) → slice_get rows j ≡ Some s → P (suc j) s)
    → (j : ℕ) (s : Row) → slice_get (r ∷ rows) j ≡ Some s → P j s
ahead P r rows here rest zero s e = subst (P 0) (some_is e) here
ahead P r rows here rest (suc j) s e = rest j s e

none_next : (insn : View) (i : ℕ) (r : Row) (rows : List Row) → takes r insn ≡ false → Least insn (suc i) rows None → Least insn i (r ∷ rows) None
none_next insn i r rows f k = ahead (λ j s. takes s insn ≡ true → ⊥) r rows (λ t. both_ways (takes r insn) f t) k

-- what is least of the others is least, if the first row does not take the instruction or has more bytes
kept_next : (insn : View) (i : ℕ) (r : Row) (rows : List Row) (x : RowAt) → (takes r insn ≡ true → size_by insn x.r < size_by insn r)
    → IsLeast insn (suc i) rows x → IsLeast insn i (r ∷ rows) x
kept_next insn i r rows x more k = record {
  place = suc k.place;
  row_is = (let e = k.row_is in omega arith);
  found = k.found;
  taken = k.taken;
  least = ahead (λ j s. takes s insn ≡ true → (size_by insn x.r < size_by insn s) ⊎ ((size_by insn x.r ≡ size_by insn s) × (x.row < suc (i + j)))) r rows (λ t. inl (more t))
      (λ j s e t. elim (k.least j s e t) [
        | inl l ↦ inl l
        | inr p ↦ inr (p.0, (let l = p.1 in omega arith))
      ]);
}

-- the first row is, if it takes the instruction and none of the others has fewer bytes
first_next : (insn : View) (i : ℕ) (r : Row) (rows : List Row) → takes r insn ≡ true
    → ((j : ℕ) (s : Row) → slice_get rows j ≡ Some s → takes s insn ≡ true → size_by insn r < suc (size_by insn s))
    → IsLeast insn i (r ∷ rows) (record { row = i; r = r })
first_next insn i r rows t more = record {
  place = 0;
  row_is = omega arith;
  found = refl;
  taken = t;
  least = ahead (λ j s. takes s insn ≡ true → (size_by insn r < size_by insn s) ⊎ ((size_by insn r ≡ size_by insn s) × (i < suc (i + j)))) r rows (λ u. inr (refl, omega arith))
      (λ j s e u. let m = more j s e u in elim (cases_order (size_by insn r) (size_by insn s)) [
        | inl q ↦ inr (q, omega arith)
        | inr (inl l) ↦ inl l
        | inr (inr g) ↦ absurd (omega arith)
      ]);
}

both_next : (insn : View) (i : ℕ) (r : Row) (rows : List Row) (x : RowAt) (q : Bool) → nat_lt (size_by insn x.r) (size_by insn r) ≡ q
    → takes r insn ≡ true → IsLeast insn (suc i) rows x
    → IsLeast insn i (r ∷ rows) (if q then x else (record { row = i; r = r }))
both_next insn i r rows x true e t k = kept_next insn i r rows x (λ u. ltb-true (size_by insn x.r) (size_by insn r) e) k
both_next insn i r rows x false e t k = let l = ltb-false (size_by insn x.r) (size_by insn r) e in
    first_next insn i r rows t (λ j s f u. elim (k.least j s f u) [
      | inl m ↦ omega arith
      | inr p ↦ (let m = p.0 in omega arith)
    ])

least_next : (insn : View) (i : ℕ) (r : Row) (rows : List Row) (t : Bool) (rest : Option RowAt) → takes r insn ≡ t → Least insn (suc i) rows rest
    → Least insn i (r ∷ rows) (shorter insn (row_if t (record { row = i; r = r })) rest)
least_next insn i r rows false None f k = none_next insn i r rows f k
least_next insn i r rows false (Some x) f k = kept_next insn i r rows x (λ t. absurd (both_ways (takes r insn) f t)) k
least_next insn i r rows true None t k = first_next insn i r rows t (λ j s e u. absurd (k j s e u))
least_next insn i r rows true (Some x) t k = both_next insn i r rows x (nat_lt (size_by insn x.r) (size_by insn r)) refl t k

-- THE NAME FIRST

offered_is : (insn : View) (x : RowAt) (b : Bool) → (insn.name.0 == x.r.name.0) ≡ b → row_offered b insn x ≡ row_if (takes x.r insn) x
offered_is insn x true e = refl
offered_is insn x false e = elim (cases_Bool (takes x.r insn)) [
  | inl t ↦ absurd (both_ways (insn.name.0 == x.r.name.0) e (eq-eqb _ _ (taken x.r insn t).1.name))
  | inr f ↦ rw f refl
]

least_of : (insn : View) (i : ℕ) (rows : List Row) → Least insn i rows (shortest_of insn i rows)
least_of insn i [] = λ j s e t. cc
least_of insn i (r ∷ rows) =
    let x : RowAt = record { row = i; r = r } in
    subst (λ (o : Option RowAt). Least insn i (r ∷ rows) (shorter insn o (shortest_of insn (suc i) rows))) (sym (offered_is insn x (insn.name.0 == r.name.0) refl))
    (least_next insn i r rows (takes r insn) (shortest_of insn (suc i) rows) refl (least_of insn (suc i) rows))

pub least_row : (insn : View) → Least insn 0 the_rows (shortest_row insn)
unfolding shortest_row
least_row insn = least_of insn 0 the_rows

-- THE SAME AS THE SEARCH

-- a row with its index
abbrev row_with : ℕ → Row → RowAt
row_with n r = record { row = n; r = r }

row_with_is : (n m : ℕ) (r s : Row) → n ≡ m → r ≡ s → row_with n r ≡ row_with m s
row_with_is n m r s e f = rw (e, f) refl

code_at : (insn : View) (i : ℕ) (r : Row) → slice_get the_rows i ≡ Some r → takes r insn ≡ true → OrderedCodes (bytes_of r (built r insn)) insn i
code_at insn i r s t = let k = taken r insn t in (r, built r insn, record { found = s; fit = k.0; means = k.1; bytes_are = refl })

pub found_at : (insn : View) (x : RowAt) (k : IsLeast insn 0 the_rows x) → slice_get the_rows x.row ≡ Some x.r
found_at insn x k = let e = k.row_is in let f : k.place ≡ x.row = omega arith in subst (λ (i : ℕ). slice_get the_rows i ≡ Some x.r) f k.found

-- no other row has as few bytes and stands as early
one_row : (a b i j : ℕ) (xs ys : List ℕ) → a ≡ length xs → b ≡ length ys → Before xs i ys j → (b < a) ⊎ ((b ≡ a) × (j < suc (0 + i))) → j ≡ i
one_row a b i j xs ys e f (inl l) (inl m) = absurd (omega arith)
one_row a b i j xs ys e f (inl l) (inr m) = (let g = m.0 in absurd (omega arith))
one_row a b i j xs ys e f (inr l) (inl m) = (let g = l.0 in absurd (omega arith))
one_row a b i j xs ys e f (inr (g, inl l)) (inr m) = (let h = m.1 in absurd (omega arith))
one_row a b i j xs ys e f (inr (g, inr l)) (inr m) = sym l.0

same_row : (insn : View) (x : Found) (r : Row) (o : Option RowAt) → Taking insn x r → Least insn 0 the_rows o
    → o ≡ Some (record { row = x.row; r = r })
same_row insn x r None t k = absurd (k x.row r t.found t.taken)
same_row insn x r (Some y) t k =
    let e : y.row ≡ x.row = one_row (size_by insn r) (size_by insn y.r) x.row y.row (bytes_of r (built r insn)) (bytes_of y.r (built y.r insn)) refl refl
    (t.least (bytes_of y.r (built y.r insn)) y.row (code_at insn y.row y.r (found_at insn y k) k.taken)) (k.least x.row r t.found t.taken) in
    let f : y.r ≡ r = some_is (sym (found_at insn y k) ∙ ap (λ (i : ℕ). slice_get the_rows i) e ∙ t.found) in
    ap (λ (z : RowAt). Some z) (row_with_is y.row x.row y.r r e f)

-- what the search finds is the row of the encoding
pub taking_row : (insn : View) (x : Found) (r : Row) → Taking insn x r → shortest_row insn ≡ Some (record { row = x.row; r = r })
taking_row insn x r t = same_row insn x r (shortest_row insn) t (least_row insn)

same_none : (insn : View) (o : Option RowAt) → HasNoOrderedCode insn → Least insn 0 the_rows o → o ≡ None
same_none insn None h k = refl
same_none insn (Some y) h k = absurd (h (bytes_of y.r (built y.r insn)) y.row (code_at insn y.row y.r (found_at insn y k) k.taken))

-- where it finds none there is none
pub none_row : (insn : View) → HasNoOrderedCode insn → shortest_row insn ≡ None
none_row insn h = same_none insn (shortest_row insn) h (least_row insn)

-- THE ROW OF THE ENCODING IS THE BEST

-- no bytes of another row come before
before_code : (insn : View) (x : RowAt) → IsLeast insn 0 the_rows x → (other : List ℕ) (j : ℕ) (s : Row) → slice_get the_rows j ≡ Some s
    → OrderedCodes other insn j → takes s insn ≡ true
    → Before (bytes_of x.r (built x.r insn)) x.row other j
before_code insn x k other j s f c t =
    let z = rest_longer j s insn f (shaped_at j s f) other c in
    elim (cases_order x.row j) [
      | inl e ↦ let same : s ≡ x.r = some_is (sym f ∙ ap (λ (i : ℕ). slice_get the_rows i) (sym e) ∙ found_at insn x k) in
          subst (λ (i : ℕ). Before (bytes_of x.r (built x.r insn)) i other j) (sym e) (own_before j (bytes_of x.r (built x.r insn)) other
          (subst (λ (r : Row). (bytes_of r (built r insn) ≡ other) ⊎ (length (bytes_of r (built r insn)) < length other)) same z))
      | inr (inl l) ↦ later_by x.row j (bytes_of x.r (built x.r insn)) other l (let m = longer z (k.least j s f t) in omega arith)
      | inr (inr g) ↦ inl (elim (k.least j s f t) [
        | inl m ↦ shorter_than z m
        | inr m ↦ absurd (let n = m.1 in omega arith)
      ])
    ]
  where
    longer : (bytes_of s (built s insn) ≡ other) ⊎ (length (bytes_of s (built s insn)) < length other)
        → (size_by insn x.r < size_by insn s) ⊎ ((size_by insn x.r ≡ size_by insn s) × (x.row < suc (0 + j)))
        → length (bytes_of x.r (built x.r insn)) < suc (length other)
    longer (inl e) (inl m) = (let q : length (bytes_of s (built s insn)) ≡ length other = ap (λ (y : List ℕ). length y) e in omega arith)
    longer (inl e) (inr m) = (let q : length (bytes_of s (built s insn)) ≡ length other = ap (λ (y : List ℕ). length y) e in let n = m.0 in omega arith)
    longer (inr l) (inl m) = omega arith
    longer (inr l) (inr m) = (let n = m.0 in omega arith)

    shorter_than : (bytes_of s (built s insn) ≡ other) ⊎ (length (bytes_of s (built s insn)) < length other) → size_by insn x.r < size_by insn s
        → length (bytes_of x.r (built x.r insn)) < length other
    shorter_than (inl e) m = (let q : length (bytes_of s (built s insn)) ≡ length other = ap (λ (y : List ℕ). length y) e in omega arith)
    shorter_than (inr l) m = omega arith

pub least_before : (insn : View) (x : RowAt) → IsLeast insn 0 the_rows x → (other : List ℕ) (j : ℕ) → OrderedCodes other insn j
    → Before (bytes_of x.r (built x.r insn)) x.row other j
least_before insn x k other j (s, p, c) = elim (cases_Bool (takes s insn)) [
  | inl t ↦ before_code insn x k other j s c.found (s, p, c) t
  | inr f ↦ absurd (misses j s insn c.found (shaped_at j s c.found) f other (s, p, c))
]

pub least_none : (insn : View) → Least insn 0 the_rows None → HasNoOrderedCode insn
least_none insn k bytes j (s, p, c) = elim (cases_Bool (takes s insn)) [
  | inl t ↦ k j s c.found t
  | inr f ↦ misses j s insn c.found (shaped_at j s c.found) f bytes (s, p, c)
]
