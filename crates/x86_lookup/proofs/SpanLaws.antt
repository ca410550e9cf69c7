-- Each row lies in the span of its name alone.
use Rattle.std.proofs.Common.{◌≡◌, ◌<◌, ◌≤◌, ℕ, ◌+◌, ◌==◌, ◌&&◌, nat_lt, nat_le, List, [], ◌∷◌, length, Bool, true, false, Option, Some, None, slice_get, refl, arith, zero, suc, sym, ap, ◌∙◌, inl, inr, subst, eq-eqb}
use Rattle.std.proofs.lemmas.Bool.{eqb-true, both_ways, ltb-true, leb-true, lt-ltb, le-leb, and_parts, and_from, cases_Bool, cases_order}
use Rattle.x86_table.specs.declared.forms.Row.{Row}
use Rattle.x86_lookup.specs.declared.spans.Span.{Span}
use Rattle.x86_lookup.specs.declared.ranges.RowRange.{RowRange}
use Rattle.x86_table.specs.Rows.{the_rows}
use Rattle.x86_lookup.specs.Ranges.{agree, is_size, the_spans, span_or, span_of, range, by_name, by_size, is_in, IsWithin, is_named, is_sized, AreRowsOf, is_by_size, all_spanned, is_ordered, all_ordered}
use Rattle.x86_lookup.proofs.SpanFacts.{spanned, ordered}

agrees : (a b : Bool) → agree a b ≡ true → a ≡ b
agrees true b h = sym h
agrees false true h = cc
agrees false false h = refl

none_in : (i : ℕ) → is_in (range 0 0) i ≡ false
none_in i = elim (cases_Bool (is_in (range 0 0) i)) [
  | inl h ↦ (let p = and_parts (nat_le 0 i) (nat_lt i 0) h in let l = ltb-true i 0 p.1 in absurd (omega arith))
  | inr h ↦ h
]

in_parts : (a b i : ℕ) → is_in (range a b) i ≡ true → (a ≤ i) × (i < b)
in_parts a b i h =
    let p = and_parts (nat_le a i) (nat_lt i b) h in
    (leb-true a i p.0, ltb-true i b p.1)

in_wider : (a b c d i : ℕ) → c ≤ a → b ≤ d → is_in (range a b) i ≡ true → is_in (range c d) i ≡ true
in_wider a b c d i l m h =
    let p = in_parts a b i h in
    let x = p.0 in
    let y = p.1 in
    and_from _ _ (le-leb c i (omega arith)) (lt-ltb i d (omega arith))

-- the parts of a span follow each other
pub record Ordered (span : Span) : Type 0 where
  pub zero_first : span.first ≤ span.sizeless_end
  pub byte_next : span.sizeless_end ≤ span.byte_end
  pub word_next : span.byte_end ≤ span.word_end
  pub long_next : span.word_end ≤ span.long_end
  pub quad_last : span.long_end ≤ span.quad_end

of_ordered : (span : Span) → is_ordered span ≡ true → Ordered span
of_ordered span h =
    let a = and_parts _ _ h in
    let b = and_parts _ _ a.1 in
    let c = and_parts _ _ b.1 in
    let d = and_parts _ _ c.1 in
    record {
      zero_first = leb-true span.first span.sizeless_end a.0;
      byte_next = leb-true span.sizeless_end span.byte_end b.0;
      word_next = leb-true span.byte_end span.word_end c.0;
      long_next = leb-true span.word_end span.long_end d.0;
      quad_last = leb-true span.long_end span.quad_end d.1;
    }

-- of spans that follow each other, what is said of the first and of the others
record Follows (start stop : ℕ) (span : Span) (spans : List Span) : Type 0 where
  behind : start ≤ span.first
  parts : Ordered span
  others : all_ordered span.quad_end stop spans ≡ true

follows : (start stop : ℕ) (span : Span) (spans : List Span) → all_ordered start stop (span ∷ spans) ≡ true → Follows start stop span spans
follows start stop span spans h =
    let a = and_parts (nat_le start span.first) (is_ordered span && all_ordered span.quad_end stop spans) h in
    let b = and_parts (is_ordered span) (all_ordered span.quad_end stop spans) a.1 in
    record { behind = leb-true start span.first a.0; parts = of_ordered span b.0; others = b.1 }

span_long : (span : Span) → Ordered span → span.first ≤ span.quad_end
span_long span o = let a = o.zero_first in let b = o.byte_next in let c = o.word_next in let d = o.long_next in let e = o.quad_last in omega arith

ordered_at : (spans : List Span) (start stop k : ℕ) → all_ordered start stop spans ≡ true → Ordered (span_or (slice_get spans k))
ordered_at [] start stop k h = record { zero_first = omega arith; byte_next = omega arith; word_next = omega arith; long_next = omega arith; quad_last = omega arith }
ordered_at (span ∷ spans) start stop zero h = (follows start stop span spans h).parts
ordered_at (span ∷ spans) start stop (suc k) h = ordered_at spans span.quad_end stop k (follows start stop span spans h).others

-- they end where they have to
ends : (spans : List Span) (start stop : ℕ) → all_ordered start stop spans ≡ true → start ≤ stop
ends [] start stop h = leb-true start stop h
ends (span ∷ spans) start stop h =
    let f = follows start stop span spans h in
    let a = f.behind in let b = span_long span f.parts in let c = ends spans span.quad_end stop f.others in omega arith

within_at : (spans : List Span) (start stop k : ℕ) → all_ordered start stop spans ≡ true → (span_or (slice_get spans k)).quad_end ≤ stop
within_at [] start stop k h = omega arith
within_at (span ∷ spans) start stop zero h = ends spans span.quad_end stop (follows start stop span spans h).others
within_at (span ∷ spans) start stop (suc k) h = within_at spans span.quad_end stop k (follows start stop span spans h).others

-- each begins where they do, or behind that
behind_at : (spans : List Span) (start stop k : ℕ) (span : Span) → all_ordered start stop spans ≡ true → slice_get spans k ≡ Some span → start ≤ span.first
behind_at [] start stop k span h e = cc
behind_at (t ∷ spans) start stop zero span h e =
    let same : t ≡ span = cc in
    subst (λ (x : Span). start ≤ x.first) same (follows start stop t spans h).behind
behind_at (t ∷ spans) start stop (suc k) span h e =
    let f = follows start stop t spans h in
    let a = f.behind in let b = span_long t f.parts in let c = behind_at spans t.quad_end stop k span f.others e in omega arith

-- a later one begins where an earlier one ends, or behind that
apart_at : (spans : List Span) (start stop j k : ℕ) (one other : Span) → all_ordered start stop spans ≡ true → j < k → slice_get spans j ≡ Some one → slice_get spans k ≡ Some other → one.quad_end ≤ other.first
apart_at [] start stop j k one other h l e f = cc
apart_at (t ∷ spans) start stop j zero one other h l e f = absurd (omega arith)
apart_at (t ∷ spans) start stop zero (suc k) one other h l e f =
    let same : t ≡ one = cc in
    subst (λ (x : Span). x.quad_end ≤ other.first) same (behind_at spans t.quad_end stop k other (follows start stop t spans h).others f)
apart_at (t ∷ spans) start stop (suc j) (suc k) one other h l e f =
    let g = follows start stop t spans h in
    apart_at spans t.quad_end stop j k one other g.others (omega arith) e f

order_of : (name : ℕ) (span : Span) → span ≡ span_of name → Ordered span
unfolding span_of
order_of name span e = subst (λ (x : Span). Ordered x) (sym e) (ordered_at the_spans 0 (length the_rows) name ordered)

within_of : (name : ℕ) (span : Span) → span ≡ span_of name → span.quad_end ≤ length the_rows
unfolding span_of
within_of name span e = subst (λ (x : Span). x.quad_end ≤ length the_rows) (sym e) (within_at the_spans 0 (length the_rows) name ordered)

pub name_within : (name : ℕ) (span : Span) → span ≡ span_of name → IsWithin (range span.first span.quad_end)
name_within name span e = record { start = span_long span (order_of name span e); stop = within_of name span e }

-- a part of a span lies in it
part_in : (span : Span) (size i : ℕ) → Ordered span → is_in (by_size span size) i ≡ true → is_in (by_name span) i ≡ true
part_in span size i o h =
    let l0 = o.zero_first in let l1 = o.byte_next in let l2 = o.word_next in let l3 = o.long_next in let l4 = o.quad_last in
    elim (cases_Bool (size == 0)) [
      | inl a ↦ in_wider span.first span.sizeless_end span.first span.quad_end i (omega arith) (omega arith) (rw a at h)
      | inr a ↦ elim (cases_Bool (size == 8)) [
        | inl b ↦ in_wider span.sizeless_end span.byte_end span.first span.quad_end i (omega arith) (omega arith) (rw (a, b) at h)
        | inr b ↦ elim (cases_Bool (size == 16)) [
          | inl c ↦ in_wider span.byte_end span.word_end span.first span.quad_end i (omega arith) (omega arith) (rw (a, b, c) at h)
          | inr c ↦ elim (cases_Bool (size == 32)) [
            | inl d ↦ in_wider span.word_end span.long_end span.first span.quad_end i (omega arith) (omega arith) (rw (a, b, c, d) at h)
            | inr d ↦ elim (cases_Bool (size == 64)) [
              | inl e ↦ in_wider span.long_end span.quad_end span.first span.quad_end i (omega arith) (omega arith) (rw (a, b, c, d, e) at h)
              | inr e ↦ (let none : is_in (range 0 0) i ≡ true = rw (a, b, c, d, e) at h in absurd (both_ways (is_in (range 0 0) i) (none_in i) none))
            ]
          ]
        ]
      ]
    ]

bounded : (n : ℕ) (span : Span) (size : ℕ) → Ordered span → span.quad_end ≤ n → ((by_size span size).start ≤ (by_size span size).stop) × ((by_size span size).stop ≤ n)
bounded n span size o l5 =
    let l0 = o.zero_first in let l1 = o.byte_next in let l2 = o.word_next in let l3 = o.long_next in let l4 = o.quad_last in
    elim (cases_Bool (size == 0)) [
      | inl a ↦ rw a (l0, omega arith)
      | inr a ↦ elim (cases_Bool (size == 8)) [
        | inl b ↦ rw (a, b) (l1, omega arith)
        | inr b ↦ elim (cases_Bool (size == 16)) [
          | inl c ↦ rw (a, b, c) (l2, omega arith)
          | inr c ↦ elim (cases_Bool (size == 32)) [
            | inl d ↦ rw (a, b, c, d) (l3, omega arith)
            | inr d ↦ elim (cases_Bool (size == 64)) [
              | inl e ↦ rw (a, b, c, d, e) (l4, l5)
              | inr e ↦ rw (a, b, c, d, e) (omega arith, omega arith)
            ]
          ]
        ]
      ]
    ]

pub size_within : (name size : ℕ) (span : Span) (found : RowRange) → span ≡ span_of name → found ≡ by_size span size → IsWithin found
size_within name size span found e f =
    let b = bounded (length the_rows) span size (order_of name span e) (within_of name span e) in
    rw f (record { start = b.0; stop = b.1 })

spanned_at : (rows : List Row) (k i : ℕ) (r : Row) → all_spanned k rows ≡ true → slice_get rows i ≡ Some r → is_by_size (k + i) r.size (span_of r.name.0) ≡ true
spanned_at [] k i r h e = cc
spanned_at (t ∷ rows) k zero r h e =
    let same : t ≡ r = cc in
    let here : k ≡ k + 0 = omega arith in
    let one : is_by_size k t.size (span_of t.name.0) ≡ true = (and_parts (is_by_size k t.size (span_of t.name.0)) (all_spanned (k + 1) rows) h).0 in
    subst (λ (j : ℕ). is_by_size j r.size (span_of r.name.0) ≡ true) here (subst (λ (x : Row). is_by_size k x.size (span_of x.name.0) ≡ true) same one)
spanned_at (t ∷ rows) k (suc i) r h e =
    let there : k + 1 + i ≡ k + suc i = omega arith in
    subst (λ (j : ℕ). is_by_size j r.size (span_of r.name.0) ≡ true) there
    (spanned_at rows (k + 1) i r (and_parts (is_by_size k t.size (span_of t.name.0)) (all_spanned (k + 1) rows) h).1 e)

spanned_row : (i : ℕ) (r : Row) → slice_get the_rows i ≡ Some r → is_by_size i r.size (span_of r.name.0) ≡ true
spanned_row i r e =
    let z : 0 + i ≡ i = omega arith in
    subst (λ (j : ℕ). is_by_size j r.size (span_of r.name.0) ≡ true) z (spanned_at the_rows 0 i r spanned e)

sized_at : (i own size : ℕ) (span : Span) → is_by_size i own span ≡ true → is_in (by_size span size) i ≡ (own == size)
sized_at i own size span h =
    let p = and_parts _ _ h in
    let q = and_parts _ _ p.1 in
    let s = and_parts _ _ q.1 in
    let t = and_parts _ _ s.1 in
    let u = and_parts _ _ t.1 in
    let Holds : ℕ → Type 0 = λ z. is_in (by_size span z) i ≡ (own == z) in
    elim (cases_Bool (size == 0)) [
      | inl a ↦ subst Holds (sym (eqb-true size 0 a)) (agrees _ _ p.0)
      | inr a ↦ elim (cases_Bool (size == 8)) [
        | inl b ↦ subst Holds (sym (eqb-true size 8 b)) (agrees _ _ q.0)
        | inr b ↦ elim (cases_Bool (size == 16)) [
          | inl c ↦ subst Holds (sym (eqb-true size 16 c)) (agrees _ _ s.0)
          | inr c ↦ elim (cases_Bool (size == 32)) [
            | inl d ↦ subst Holds (sym (eqb-true size 32 d)) (agrees _ _ t.0)
            | inr d ↦ elim (cases_Bool (size == 64)) [
              | inl e ↦ subst Holds (sym (eqb-true size 64 e)) (agrees _ _ u.0)
              | inr e ↦ rw (a, b, c, d, e) (none_in i ∙ sym (no_size own size a b c d e u.1))
            ]
          ]
        ]
      ]
    ]
  where
    no_size : (own size : ℕ) → (size == 0) ≡ false → (size == 8) ≡ false → (size == 16) ≡ false → (size == 32) ≡ false → (size == 64) ≡ false → is_size own ≡ true → (own == size) ≡ false
    no_size own size a b c d e s = elim (cases_Bool (own == size)) [
      | inl h ↦
          let same : own ≡ size = eqb-true own size h in
          let t : is_size size ≡ true = subst (λ (x : ℕ). is_size x ≡ true) same s in
          let f : false ≡ true = rw (a, b, c, d, e) at t in
          cc
      | inr h ↦ h
    ]

-- an index in a span that may be there
record Holds (i : ℕ) (found : Option Span) : Type 0 where
  span : Span
  is : found ≡ Some span
  above : span.first ≤ i
  below : i < span.quad_end

held : (i : ℕ) (found : Option Span) → is_in (by_name (span_or found)) i ≡ true → Holds i found
held i None h = absurd (both_ways (is_in (range 0 0) i) (none_in i) h)
held i (Some span) h = let p = in_parts span.first span.quad_end i h in record { span = span; is = refl; above = p.0; below = p.1 }

-- no index lies in the spans of two names
only_one : (i j k : ℕ) → is_in (by_name (span_of j)) i ≡ true → is_in (by_name (span_of k)) i ≡ true → j ≡ k
unfolding span_of
only_one i j k h g =
    let x = held i (slice_get the_spans j) h in
    let y = held i (slice_get the_spans k) g in
    let a = x.above in let b = x.below in let c = y.above in let d = y.below in
    elim (cases_order j k) [
      | inl e ↦ e
      | inr (inl lt) ↦ (let l = apart_at the_spans 0 (length the_rows) j k x.span y.span ordered lt x.is y.is in absurd (omega arith))
      | inr (inr gt) ↦ (let l = apart_at the_spans 0 (length the_rows) k j y.span x.span ordered gt y.is x.is in absurd (omega arith))
    ]

-- a row lies in the span of its name
own_span : (i : ℕ) (r : Row) → slice_get the_rows i ≡ Some r → is_in (by_name (span_of r.name.0)) i ≡ true
own_span i r e = part_in (span_of r.name.0) r.size i (order_of r.name.0 (span_of r.name.0) refl)
    (sized_at i r.size r.size (span_of r.name.0) (spanned_row i r e) ∙ eq-eqb r.size r.size refl)

pub name_rows : (name : ℕ) (span : Span) → span ≡ span_of name → AreRowsOf (is_named name) (range span.first span.quad_end)
name_rows name span e i r found =
    let own = own_span i r found in
    elim (cases_Bool (r.name.0 == name)) [
      | inl h ↦
          let same : span_of r.name.0 ≡ span = ap span_of (eqb-true r.name.0 name h) ∙ sym e in
          subst (λ (x : Span). is_in (by_name x) i ≡ true) same own ∙ sym h
      | inr h ↦ elim (cases_Bool (is_in (by_name span) i)) [
        | inl t ↦
            let other : is_in (by_name (span_of name)) i ≡ true = subst (λ (x : Span). is_in (by_name x) i ≡ true) e t in
            absurd (both_ways (r.name.0 == name) h (eq-eqb r.name.0 name (only_one i r.name.0 name own other)))
        | inr f ↦ f ∙ sym h
      ]
    ]

-- an index outside of the span of a name is in none of its parts
outside : (span : Span) (size i : ℕ) → Ordered span → is_in (by_name span) i ≡ false → is_in (by_size span size) i ≡ false
outside span size i o h = elim (cases_Bool (is_in (by_size span size) i)) [
  | inl t ↦ absurd (both_ways (is_in (by_name span) i) h (part_in span size i o t))
  | inr f ↦ f
]

pub size_rows : (name size : ℕ) (span : Span) (found : RowRange) → span ≡ span_of name → found ≡ by_size span size → AreRowsOf (is_sized name size) found
size_rows name size span found e f i r g =
    let o = order_of name span e in
    let s = spanned_row i r g in
    let named = name_rows name span e i r g in
    elim (cases_Bool (r.name.0 == name)) [
      | inl h ↦
          let same : span_of r.name.0 ≡ span = ap span_of (eqb-true r.name.0 name h) ∙ sym e in
          let sized : is_by_size i r.size span ≡ true = subst (λ (x : Span). is_by_size i r.size x ≡ true) same s in
          rw (f, h) (sized_at i r.size size span sized)
      | inr h ↦ rw (f, h) (outside span size i o (named ∙ h))
    ]
