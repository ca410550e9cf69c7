-- The bytes of rows without operands read as their instructions, and a mnemonic has one such row at most.
use Rattle.std.proofs.Common.{◌≡◌, ℕ, ◌==◌, ◌&&◌, ◌||◌, List, [], ◌∷◌, Bool, true, false, not, if◌then◌else◌, Option, Some, None, option_map, slice_get, refl, zero, suc, sym, ap, ◌∙◌, inl, inr, subst}
use Rattle.std.proofs.lemmas.Bool.{and_parts, cases_Bool, both_ways}
use Rattle.std.specs.List.{find, filter, list_all}
use Rattle.x86_insn.specs.declared.insns.Prefix.TheVariants as prefix
use Rattle.x86_insn.specs.Views.{Seen, View, absent}
use Rattle.x86_table.specs.declared.forms.Pattern.{Pattern}
use Rattle.x86_table.specs.declared.forms.Pattern.TheVariants as pattern
use Rattle.x86_table.specs.declared.forms.Row.{Row}
use Rattle.x86_table.specs.Rows.{the_rows}
use Rattle.x86_table.specs.Bytes.{bytes_of, rex_bits, rex_byte}
use Rattle.x86_table.specs.Fits.{fits, fields_fit}
use Rattle.x86_table.specs.Reads.{shown, meaning, Reads}
use Rattle.x86_lookup.specs.declared.names.Named.{Named}
use Rattle.x86_lookup.specs.Names.{the_att_names, has_text}
use Rattle.x86_lookup.specs.Writing.{is_absent}
use Rattle.x86_lookup.specs.BareInstructions.{takes_no_operand, is_row_of, bare_row, no_fields, bare_bytes, bare_view, Coded, bare_coded, bare_of, bare_instruction, BareCodesRead, BareCodesStand, BareRowsAreAlone}
use Rattle.x86_lookup.proofs.RowLookups.{found_one}

all_fit : list_all (λ r. not (takes_no_operand r) || fits r no_fields) the_rows ≡ true
unfolding the_rows fits fields_fit bytes_of rex_bits rex_byte
all_fit = refl

all_stand : list_all (λ r. not (takes_no_operand r) || not (list_all (λ byte. byte == 0) (bare_bytes r))) the_rows ≡ true
unfolding the_rows bytes_of rex_bits rex_byte
all_stand = refl

some_is : {A : Type 0} {m n : A} → Some m ≡ Some n → m ≡ n
some_is h = cc

implies : (a b : Bool) → (not a || b) ≡ true → a ≡ true → b ≡ true
implies true b h t = h
implies false b h t = cc

false_of_not : (a : Bool) → not a ≡ true → a ≡ false
false_of_not true h = cc
false_of_not false h = refl

-- what holds of all holds of what stands at an index
holds_at : {X : Type 0} (p : X → Bool) (xs : List X) (i : ℕ) (x : X) → list_all p xs ≡ true → slice_get xs i ≡ Some x → p x ≡ true
holds_at p [] i x a e = cc
holds_at p (y ∷ xs) zero x a e = subst (λ z. p z ≡ true) (some_is e) (and_parts (p y) (list_all p xs) a).0
holds_at p (y ∷ xs) (suc i) x a e = holds_at p xs i x (and_parts (p y) (list_all p xs) a).1 e

absent_is : (q : Pattern) → is_absent q ≡ true → q ≡ pattern.Absent
absent_is pattern.Absent h = refl
absent_is (pattern.RegMem c n) h = cc
absent_is (pattern.Reg c) h = cc
absent_is (pattern.Low c) h = cc
absent_is (pattern.Accumulator c) h = cc
absent_is pattern.Cl h = cc
absent_is pattern.One h = cc
absent_is pattern.Immediate h = cc
absent_is pattern.Target h = cc

-- operands that are absent, in either order
view_is : (r : Row) (one other third : Seen) (changed : Bool) → one ≡ absent → other ≡ absent → third ≡ absent
    → bare_view r ≡ record { name = r.name; size = r.size; «prefix» = prefix.Absent; first = if changed then other else one; second = if changed then one else other; third = third }
view_is r one other third true e f g =
    let bare : Seen → Seen → Seen → View = λ x y z. record { name = r.name; size = r.size; «prefix» = prefix.Absent; first = x; second = y; third = z } in
    ap (λ x. bare x absent absent) (sym f) ∙ ap (λ y. bare other y absent) (sym e) ∙ ap (λ z. bare other one z) (sym g)
view_is r one other third false e f g =
    let bare : Seen → Seen → Seen → View = λ x y z. record { name = r.name; size = r.size; «prefix» = prefix.Absent; first = x; second = y; third = z } in
    ap (λ x. bare x absent absent) (sym e) ∙ ap (λ y. bare one y absent) (sym f) ∙ ap (λ z. bare one other z) (sym g)

meaning_is : (r : Row) → takes_no_operand r ≡ true → bare_view r ≡ meaning r no_fields
unfolding meaning
meaning_is r t =
    let a = and_parts (is_absent r.first) (is_absent r.second && is_absent r.third) t in
    let b = and_parts (is_absent r.second) (is_absent r.third) a.1 in
    view_is r _ _ _ _ (ap (shown _ _ no_fields) (absent_is r.first a.0)) (ap (shown _ _ no_fields) (absent_is r.second b.0)) (ap (shown _ _ no_fields) (absent_is r.third b.1))

-- the bytes of a row without operands read as its instruction
row_reads : (i : ℕ) (r : Row) → slice_get the_rows i ≡ Some r → takes_no_operand r ≡ true → Reads (bare_bytes r) (bare_view r)
row_reads i r e t = (
  i,
  r,
  no_fields,
  record {
    found = e;
    fit = implies (takes_no_operand r) (fits r no_fields) (holds_at (λ r. not (takes_no_operand r) || fits r no_fields) the_rows i r all_fit e) t;
    held_known = refl;
    place_known = refl;
    bytes_are = refl;
    insn_is = meaning_is r t;
  },
)

-- the row of an instruction without operands
record IsOfRow (coded : Coded) : Type 0 where
  index : ℕ
  row : Row
  found : slice_get the_rows index ≡ Some row
  bare : takes_no_operand row ≡ true
  is : bare_coded row ≡ coded

of_found : (named : Named) (found : Option Row) (coded : Coded) → bare_row named ≡ found → option_map bare_coded found ≡ Some coded → IsOfRow coded
of_found named None coded e h = cc
of_found named (Some r) coded e h =
    let one = found_one (λ r. takes_no_operand r && is_row_of named r) the_rows r e in
    record { index = one.0; row = r; found = one.1; bare = (and_parts (takes_no_operand r) (is_row_of named r) one.2).0; is = some_is h }

of_named : (named : Option Named) (coded : Coded) → bare_of named ≡ Some coded → IsOfRow coded
of_named None coded h = cc
of_named (Some named) coded h = of_found named (bare_row named) coded refl h

pub codes_read : BareCodesRead
unfolding bare_instruction
codes_read text coded h =
    let of = of_named (find (has_text text) the_att_names) coded h in
    subst (λ (c : Coded). Reads c.bytes c.insn) of.is (row_reads of.index of.row of.found of.bare)

pub codes_stand : BareCodesStand
unfolding bare_instruction
codes_stand text coded h =
    let of = of_named (find (has_text text) the_att_names) coded h in
    subst (λ (c : Coded). list_all (λ byte. byte == 0) c.bytes ≡ false) of.is
    (false_of_not (list_all (λ byte. byte == 0) (bare_bytes of.row)) (implies (takes_no_operand of.row) (not (list_all (λ byte. byte == 0) (bare_bytes of.row)))
    (holds_at (λ r. not (takes_no_operand r) || not (list_all (λ byte. byte == 0) (bare_bytes r))) the_rows of.index of.row all_stand of.found) of.bare))

-- one of these passes at most
abbrev at_most_one : {X : Type 0} → (X → Bool) → List X → Bool
at_most_one p [] = true
at_most_one p (x ∷ xs) = if p x then list_all (λ y. not (p y)) xs else at_most_one p xs

none-filter : {X : Type 0} (p q : X → Bool) (xs : List X) → list_all (λ x. not (p x && q x)) xs ≡ list_all (λ x. not (q x)) (filter p xs)
none-filter p q [] = refl
none-filter p q (x ∷ xs) = elim (cases_Bool (p x)) [
  | inl t ↦ rw t (ap (λ rest. not (q x) && rest) (none-filter p q xs))
  | inr f ↦ rw f (none-filter p q xs)
]

at_most_one-filter : {X : Type 0} (p q : X → Bool) (xs : List X) → at_most_one (λ x. p x && q x) xs ≡ at_most_one q (filter p xs)
at_most_one-filter p q [] = refl
at_most_one-filter p q (x ∷ xs) = elim (cases_Bool (p x)) [
  | inl t ↦ (elim (cases_Bool (q x)) [ inl s ↦ rw (t, s) (none-filter p q xs) | inr s ↦ rw (t, s) (at_most_one-filter p q xs) ])
  | inr f ↦ rw f (at_most_one-filter p q xs)
]

if_so : (c a b : Bool) → c ≡ true → (if c then a else b) ≡ true → a ≡ true
if_so true a b q h = h
if_so false a b q h = cc

if_not : (c a b : Bool) → c ≡ false → (if c then a else b) ≡ true → b ≡ true
if_not true a b q h = cc
if_not false a b q h = h

-- behind one that passes none does
none_behind : {X : Type 0} (p : X → Bool) (x : X) (xs : List X) (j : ℕ) (y : X) → at_most_one p (x ∷ xs) ≡ true → p x ≡ true → slice_get xs j ≡ Some y → p y ≡ true → ⊥
none_behind p x xs j y a t e u =
    both_ways (p y) (false_of_not (p y) (holds_at (λ z. not (p z)) xs j y (if_so (p x) (list_all (λ z. not (p z)) xs) (at_most_one p xs) t a) e)) u

one_place : {X : Type 0} (p : X → Bool) (xs : List X) (i j : ℕ) (x y : X) → at_most_one p xs ≡ true → slice_get xs i ≡ Some x → slice_get xs j ≡ Some y
    → p x ≡ true → p y ≡ true → i ≡ j
one_place p [] i j x y a e f t u = cc
one_place p (z ∷ xs) zero zero x y a e f t u = refl
one_place p (z ∷ xs) zero (suc j) x y a e f t u = absurd (none_behind p z xs j y a (ap p (some_is e) ∙ t) f u)
one_place p (z ∷ xs) (suc i) zero x y a e f t u = absurd (none_behind p z xs i x a (ap p (some_is f) ∙ u) e t)
one_place p (z ∷ xs) (suc i) (suc j) x y a e f t u = elim (cases_Bool (p z)) [
  | inl q ↦ absurd (none_behind p z xs i x a q e t)
  | inr q ↦ ap suc (one_place p xs i j x y (if_not (p z) (list_all (λ w. not (p w)) xs) (at_most_one p xs) q a) e f t u)
]

-- each of the mnemonics has one of these rows at most
abbrev all_alone : List Row → List Named → Bool
all_alone rows names = list_all (λ named. at_most_one (is_row_of named) rows) names

alone : all_alone (filter takes_no_operand the_rows) the_att_names ≡ true
unfolding the_att_names the_rows
alone = refl

pub rows_alone : BareRowsAreAlone
rows_alone k i j named r s n e f t u =
    one_place (λ r. takes_no_operand r && is_row_of named r) the_rows i j r s
    (at_most_one-filter takes_no_operand (is_row_of named) the_rows ∙ holds_at (λ named. at_most_one (is_row_of named) (filter takes_no_operand the_rows)) the_att_names k named alone n)
    e f t u
