-- The keys of a name's rows say the size of those that take such operands.
use Rattle.std.proofs.Common.{◌≡◌, ◌<◌, ◌≤◌, ◌+◌, ◌==◌, ◌&&◌, ◌∙◌, Bool, List, [], ◌∷◌, None, Option, Some, ap, arith, cond, false, get_or, inl, inr, length, map, nat_le, nat_lt, option_map, refl, slice_get, subst, sym, true, ℕ}
use Rattle.std.proofs.lemmas.Bool.{and_parts, and_from, both_ways, cases_Bool, cases_order, eqb-true, eq-eqb, ltb-true, leb-true, lt-ltb, le-leb, false_from_ne_true}
use Rattle.std.proofs.lemmas.Option.{slice_get-map, slice_get-get_or}
use Rattle.x86_insn.specs.declared.insns.Slot.{Slot}
use Rattle.x86_insn.specs.declared.insns.Insn.{Insn}
use Rattle.x86_table.specs.declared.forms.Row.{Row}
use Rattle.x86_table.specs.Rows.{the_rows}
use Rattle.x86_lookup.specs.declared.row_keys.Key.{Key}
use Rattle.x86_lookup.specs.declared.ranges.RowRange.{RowRange}
use Rattle.x86_lookup.specs.declared.form_sizes.FormSize.{FormSize}
use Rattle.x86_lookup.specs.declared.form_sizes.FormSize.TheVariants as sizes
use Rattle.x86_lookup.specs.declared.form_sizes.SlotSorts.{SlotSorts}
use Rattle.x86_lookup.specs.Ranges.{is_in, is_named, IsWithin, AreRowsOf}
use Rattle.x86_lookup.specs.Forms.{takes, takes_all, hold_all, takes_sized, is_form_of, IsOneSize, AreTwoSizes, AreSizes, with_size}
use Rattle.x86_lookup.specs.Keys.{the_keys, slot_sort, pattern_sorts, has_bit, shows, AreSlotSorts}
use Rattle.x86_lookup.proofs.KeyFacts.{sorts_in, sorts_by, sorted, as_many}
use Rattle.x86_lookup.proofs.PatternSorts.{taken_by_sort}

some_is : {A : Type 0} {m n : A} → Some m ≡ Some n → m ≡ n
some_is h = cc

-- THE KEYS

-- the key at the index of a row says its size and sorts
key_at : (i : ℕ) (r : Row) (k : Key) → slice_get the_rows i ≡ Some r → slice_get the_keys i ≡ Some k → sorts_in k ≡ sorts_by r
key_at i r k h g =
    let a : slice_get (map sorts_in the_keys) i ≡ Some (sorts_in k) = slice_get-map sorts_in the_keys i ∙ ap (option_map sorts_in) g in
    let b : slice_get (map sorts_by the_rows) i ≡ Some (sorts_by r) = slice_get-map sorts_by the_rows i ∙ ap (option_map sorts_by) h in
    some_is (sym a ∙ ap (λ (xs : List Key). slice_get xs i) sorted ∙ b)

pub row_inside : (x : RowRange) (i : ℕ) (rows : List Row) → IsWithin x → rows ≡ the_rows → i < x.stop → i < length rows
row_inside x i rows w f lt =
    let k = w.stop in
    let l : length rows ≡ length the_rows = ap (λ (y : List Row). length y) f in
    omega arith

pub key_inside : (x : RowRange) (i : ℕ) (keys : List Key) → IsWithin x → keys ≡ the_keys → i < x.stop → i < length keys
key_inside x i keys w f lt =
    let k = w.stop in
    let l : length keys ≡ length the_keys = ap (λ (y : List Key). length y) f in
    let m = as_many in
    omega arith

-- a key that says the sorts of a row shows what the row takes
shown : (k : Key) (r : Row) (first second third : Slot) → sorts_in k ≡ sorts_by r → shows k (slot_sort first) (slot_sort second) (slot_sort third) ≡ takes_all first second third r
unfolding takes_all
shown k r first second third e =
    let a : k.first ≡ pattern_sorts r.first = ap (λ (q : Key). q.first) e in
    let b : k.second ≡ pattern_sorts r.second = ap (λ (q : Key). q.second) e in
    let c : k.third ≡ pattern_sorts r.third = ap (λ (q : Key). q.third) e in
    rw (a, b, c, taken_by_sort r.first first, taken_by_sort r.second second, taken_by_sort r.third third) refl

-- THE SIZES OF THE ROWS BEFORE AN INDEX

-- a row before n passes the test and has this size, and each before n that passes it has
pub record OneBefore (n : ℕ) (test : Row → Bool) (size : ℕ) : Type 0 where
  pub at : ℕ
  pub row : Row
  pub stands : slice_get the_rows at ≡ Some row
  pub passes : test row ≡ true
  pub is : row.size ≡ size
  pub all : (i : ℕ) (r : Row) → i < n → slice_get the_rows i ≡ Some r → test r ≡ true → r.size ≡ size

-- what is known of the sizes of the rows before n that pass the test
abbrev pub SizesBefore : ℕ → (Row → Bool) → FormSize → Type 0
SizesBefore n test sizes.Absent = (i : ℕ) (r : Row) → i < n → slice_get the_rows i ≡ Some r → test r ≡ false
SizesBefore n test (sizes.One size) = OneBefore n test size
SizesBefore n test sizes.Several = AreTwoSizes test

-- a row that does not pass changes nothing
pub passed_over : (n : ℕ) (test : Row → Bool) (found : FormSize) (r : Row) → slice_get the_rows n ≡ Some r → test r ≡ false → SizesBefore n test found → SizesBefore (n + 1) test found
passed_over n test sizes.Absent r stands fails before = λ i q lt at. elim (cases_order i n) [
  | inl e ↦ (let same : r ≡ q = some_is (sym stands ∙ ap (slice_get the_rows) (sym e) ∙ at) in subst (λ (y : Row). test y ≡ false) same fails)
  | inr (inl l) ↦ before i q l at
  | inr (inr g) ↦ absurd (omega arith)
]
passed_over n test (sizes.One size) r stands fails before = record {
  at = before.at;
  row = before.row;
  stands = before.stands;
  passes = before.passes;
  is = before.is;
  all = λ i q lt at t. elim (cases_order i n) [
    | inl e ↦ (let same : r ≡ q = some_is (sym stands ∙ ap (slice_get the_rows) (sym e) ∙ at) in absurd (both_ways (test r) fails (subst (λ (y : Row). test y ≡ true) (sym same) t)))
    | inr (inl l) ↦ before.all i q l at t
    | inr (inr g) ↦ absurd (omega arith)
  ];
}
passed_over n test sizes.Several r stands fails before = before

-- the first row that passes
first_one : (n : ℕ) (test : Row → Bool) (r : Row) → slice_get the_rows n ≡ Some r → test r ≡ true → SizesBefore n test sizes.Absent → OneBefore (n + 1) test r.size
first_one n test r stands passes before = record {
  at = n;
  row = r;
  stands = stands;
  passes = passes;
  is = refl;
  all = λ i q lt at t. elim (cases_order i n) [
    | inl e ↦ (let same : q ≡ r = some_is (sym at ∙ ap (slice_get the_rows) e ∙ stands) in ap (λ (y : Row). y.size) same)
    | inr (inl l) ↦ absurd (both_ways (test q) (before i q l at) t)
    | inr (inr g) ↦ absurd (omega arith)
  ];
}

-- a row of the same size
one_more : (n : ℕ) (test : Row → Bool) (size : ℕ) (r : Row) → slice_get the_rows n ≡ Some r → size ≡ r.size → OneBefore n test size → OneBefore (n + 1) test size
one_more n test size r stands same before = record {
  at = before.at;
  row = before.row;
  stands = before.stands;
  passes = before.passes;
  is = before.is;
  all = λ i q lt at t. elim (cases_order i n) [
    | inl e ↦ (let here : q ≡ r = some_is (sym at ∙ ap (slice_get the_rows) e ∙ stands) in ap (λ (y : Row). y.size) here ∙ sym same)
    | inr (inl l) ↦ before.all i q l at t
    | inr (inr g) ↦ absurd (omega arith)
  ];
}

-- a row of another size
another : (n : ℕ) (test : Row → Bool) (size : ℕ) (r : Row) → slice_get the_rows n ≡ Some r → test r ≡ true → (size == r.size) ≡ false → OneBefore n test size → AreTwoSizes test
another n test size r stands passes differ before = record {
  at = n;
  one = r;
  stands = stands;
  passes = passes;
  also_at = before.at;
  other = before.row;
  also_stands = before.stands;
  also_passes = before.passes;
  differ = subst (λ (s : ℕ). (s == r.size) ≡ false) (sym before.is) differ;
}

one_or_two : (n : ℕ) (test : Row → Bool) (size : ℕ) (r : Row) (b : Bool) → (size == r.size) ≡ b → slice_get the_rows n ≡ Some r → test r ≡ true → OneBefore n test size
    → SizesBefore (n + 1) test (cond b (sizes.One size) sizes.Several)
one_or_two n test size r true e stands passes before = one_more n test size r stands (eqb-true size r.size e) before
one_or_two n test size r false e stands passes before = another n test size r stands passes e before

-- a row that passes adds its size
pub added : (n : ℕ) (test : Row → Bool) (found : FormSize) (r : Row) → slice_get the_rows n ≡ Some r → test r ≡ true → SizesBefore n test found → SizesBefore (n + 1) test (with_size found r.size)
added n test sizes.Absent r stands passes before = first_one n test r stands passes before
added n test (sizes.One size) r stands passes before = one_or_two n test size r (size == r.size) refl stands passes before
added n test sizes.Several r stands passes before = before

-- THE RANGE OF THE NAME

form_in : (bits name : ℕ) (first second third : Slot) (x : RowRange) (i : ℕ) (r : Row) → AreRowsOf (is_named name) x → slice_get the_rows i ≡ Some r → is_form_of bits name first second third r ≡ true
    → (x.start ≤ i) × (i < x.stop)
form_in bits name first second third x i r are at t =
    let named = (and_parts (is_named name r) (takes_sized bits first second third r) t).0 in
    let both = and_parts (nat_le x.start i) (nat_lt i x.stop) (are i r at ∙ named) in
    (leb-true x.start i both.0, ltb-true i x.stop both.1)

pub none_before : (bits name : ℕ) (first second third : Slot) (x : RowRange) → AreRowsOf (is_named name) x → SizesBefore x.start (is_form_of bits name first second third) sizes.Absent
none_before bits name first second third x are = λ i r lt at.
    false_from_ne_true (is_form_of bits name first second third r) (λ t. let k = (form_in bits name first second third x i r are at t).0 in omega arith)

pub all_before : (bits name : ℕ) (first second third : Slot) (x : RowRange) (n : ℕ) (found : FormSize) → AreRowsOf (is_named name) x → x.stop ≤ n
    → SizesBefore n (is_form_of bits name first second third) found → AreSizes (is_form_of bits name first second third) found
all_before bits name first second third x n sizes.Absent are le before = λ i r at.
    false_from_ne_true (is_form_of bits name first second third r) (λ t.
    let k = (form_in bits name first second third x i r are at t).1 in
    let l : i < n = omega arith in
    both_ways (is_form_of bits name first second third r) (before i r l at) t)
all_before bits name first second third x n (sizes.One size) are le before = record {
  at = before.at;
  row = before.row;
  stands = before.stands;
  passes = before.passes;
  is = before.is;
  all = λ i r at t. (let k = (form_in bits name first second third x i r are at t).1 in before.all i r (omega arith) at t);
}
all_before bits name first second third x n sizes.Several are le before = before

-- THE LOOP

pub row_at : (rows : List Row) (n : ℕ) (d : Row) → rows ≡ the_rows → n < length rows → slice_get the_rows n ≡ Some (get_or rows n d)
row_at rows n d g lt = rw (← g) (slice_get-get_or rows n d lt)

key_of_row : (keys : List Key) (rows : List Row) (n : ℕ) (e : Key) (d : Row) → keys ≡ the_keys → rows ≡ the_rows → n < length keys → n < length rows
    → sorts_in (get_or keys n e) ≡ sorts_by (get_or rows n d)
key_of_row keys rows n e d f g lt lu =
    let a : slice_get the_keys n ≡ Some (get_or keys n e) = rw (← f) (slice_get-get_or keys n e lt) in
    key_at n (get_or rows n d) (get_or keys n e) (row_at rows n d g lu) a

-- a row of the range is a form exactly where its key and its memory say so
form_by : (bits name : ℕ) (insn : Insn) (sorts : SlotSorts) (x : RowRange) (n : ℕ) (r : Row) (k : Key) → AreSlotSorts sorts insn → AreRowsOf (is_named name) x → slice_get the_rows n ≡ Some r
    → is_in x n ≡ true → sorts_in k ≡ sorts_by r
    → (shows k sorts.0 sorts.1 sorts.2 && hold_all bits insn.first insn.second insn.third r) ≡ is_form_of bits name insn.first insn.second insn.third r
unfolding takes_sized
form_by bits name insn sorts x n r k are rows at inside e =
    let named : is_named name r ≡ true = sym (rows n r at) ∙ inside in
    let a = are.first in
    let b = are.second in
    let c = are.third in
    rw (named, a, b, c, shown k r insn.first insn.second insn.third e) refl

inside_is : (x : RowRange) (n : ℕ) → x.start ≤ n → n < x.stop → is_in x n ≡ true
inside_is x n le lt = and_from (nat_le x.start n) (nat_lt n x.stop) (le-leb x.start n le) (lt-ltb n x.stop lt)

-- what is known of the sizes behind a row that is taken
pub taken_next : (bits name : ℕ) (insn : Insn) (sorts : SlotSorts) (x : RowRange) (n : ℕ) (found new : FormSize) (keys : List Key) (rows : List Row) (e : Key) (d : Row) (b : Bool)
    → AreSlotSorts sorts insn → IsWithin x → AreRowsOf (is_named name) x → keys ≡ the_keys → rows ≡ the_rows → x.start ≤ n → n < x.stop
    → b ≡ (shows (get_or keys n e) sorts.0 sorts.1 sorts.2 && hold_all bits insn.first insn.second insn.third (get_or rows n d)) → b ≡ true → new ≡ with_size found (get_or keys n e).size
    → SizesBefore n (is_form_of bits name insn.first insn.second insn.third) found → SizesBefore (n + 1) (is_form_of bits name insn.first insn.second insn.third) new
taken_next bits name insn sorts x n found new keys rows e d b are within just f g le lt tests t is before =
    let r = get_or rows n d in
    let k = get_or keys n e in
    let at = row_at rows n d g (row_inside x n rows within g lt) in
    let same = key_of_row keys rows n e d f g (key_inside x n keys within f lt) (row_inside x n rows within g lt) in
    let passes = sym (form_by bits name insn sorts x n r k are just at (inside_is x n le lt) same) ∙ sym tests ∙ t in
    let size : k.size ≡ r.size = ap (λ (q : Key). q.size) same in
    subst (SizesBefore (n + 1) (is_form_of bits name insn.first insn.second insn.third)) (sym (is ∙ ap (with_size found) size)) (added n (is_form_of bits name insn.first insn.second insn.third) found r at passes before)

-- and of one that is not
pub left_next : (bits name : ℕ) (insn : Insn) (sorts : SlotSorts) (x : RowRange) (n : ℕ) (found new : FormSize) (keys : List Key) (rows : List Row) (e : Key) (d : Row) (b : Bool)
    → AreSlotSorts sorts insn → IsWithin x → AreRowsOf (is_named name) x → keys ≡ the_keys → rows ≡ the_rows → x.start ≤ n → n < x.stop
    → b ≡ (shows (get_or keys n e) sorts.0 sorts.1 sorts.2 && hold_all bits insn.first insn.second insn.third (get_or rows n d)) → b ≡ false → new ≡ found
    → SizesBefore n (is_form_of bits name insn.first insn.second insn.third) found → SizesBefore (n + 1) (is_form_of bits name insn.first insn.second insn.third) new
left_next bits name insn sorts x n found new keys rows e d b are within just f g le lt tests t is before =
    let r = get_or rows n d in
    let k = get_or keys n e in
    let at = row_at rows n d g (row_inside x n rows within g lt) in
    let same = key_of_row keys rows n e d f g (key_inside x n keys within f lt) (row_inside x n rows within g lt) in
    let fails = sym (form_by bits name insn sorts x n r k are just at (inside_is x n le lt) same) ∙ sym tests ∙ t in
    subst (SizesBefore (n + 1) (is_form_of bits name insn.first insn.second insn.third)) (sym is) (passed_over n (is_form_of bits name insn.first insn.second insn.third) found r at fails before)
