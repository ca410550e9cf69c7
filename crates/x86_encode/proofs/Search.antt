-- The search by lengths is the search by bytes.
use Rattle.std.proofs.Common.{◌≡◌, ◌<◌, ◌≤◌, ◌+◌, ◌&&◌, ◌∷◌, ◌∙◌, List, None, Option, Some, [], ap, arith, eq-eqb, false, get_or, inl, inr, length, nat_le, nat_lt, refl, slice_get, subst, sym, true, ℕ}
use Rattle.std.proofs.lemmas.Bool.{cases_order, both_ways, ltb-true, leb-true, leb-false, le-leb, and_parts, and_from, cases_Bool}
use Rattle.std.proofs.lemmas.Option.{slice_get-get_or, slice_get_within}
use Rattle.x86_insn.specs.declared.insns.Mnemonic.{Mnemonic}
use Rattle.x86_table.specs.declared.forms.Row.{Row}
use Rattle.x86_lookup.specs.declared.row_keys.Key.{Key}
use Rattle.x86_parts.specs.declared.found.Found.{Found}
use Rattle.x86_lookup.specs.declared.ranges.RowRange.{RowRange}
use Rattle.x86_insn.specs.Views.{View}
use Rattle.x86_table.specs.Bytes.{bytes_of}
use Rattle.x86_table.specs.Fields.{Fields, fields_of}
use Rattle.x86_table.specs.Fits.{fields_fit, fits}
use Rattle.x86_lookup.specs.Ranges.{IsWithin, is_sized, AreRowsOf}
use Rattle.x86_table.specs.Rows.{the_rows}
use Rattle.x86_parts.specs.Building.{pick, without_rex, built, shows, takes}
use Rattle.x86_parts.specs.Codes.{OrderedCodes, Before, HasNoOrderedCode, named, name_meant, meant}
use Rattle.x86_encode.specs.Exchanges.{OrderedAt}
use Rattle.x86_lookup.specs.Keys.{the_keys}
use Rattle.x86_parts.specs.Keys.{length_by, least_length, key_of, admits, is_reached, BestSofar, Sofar, Steps, Best, Finds}
use Rattle.x86_encode.proofs.Best.{some_is, misses, rest_longer, own_before, later_by, shorter_before, shaped_at}
use Rattle.x86_encode.proofs.Complete.{taken}
use Rattle.x86_encode.proofs.Keyed.{passed, key_at, as_many}
use Rattle.x86_encode.proofs.Length.{length_is, at_least}

-- THE NAME ALONE CHANGES NOTHING ELSE

pub built_named : (name : Mnemonic) (r : Row) (insn : View) → built r (named name insn) ≡ built r insn
unfolding built without_rex pick
built_named name r insn = refl

pub admits_named : (name : Mnemonic) (k : Key) (insn : View) → admits k (named name insn) ≡ admits k insn
unfolding admits
admits_named name k insn = refl

-- WHAT A ROW OFFERS

-- what a row offers, if it takes the instruction
pub record Offer (insn : View) (r : Row) (i : ℕ) (x : Found) : Type 0 where
  pub row_is : x.row ≡ i
  pub taken : takes r insn ≡ true
  pub parts_are : fields_of x.parts ≡ built r insn
  pub length_is : x.length ≡ length (bytes_of r (built r insn))

not_taken : (r : Row) (insn : View) → ((fits r (built r insn) ≡ true) × (shows r (built r insn) insn ≡ true) → ⊥) → takes r insn ≡ false
unfolding takes
not_taken r insn k = elim (cases_Bool (takes r insn)) [
  | inl e ↦ absurd (k (and_parts (fits r (built r insn)) (shows r (built r insn) insn) e))
  | inr e ↦ e
]

pub no_fit : (r : Row) (insn : View) (p : Fields) → p ≡ built r insn → fields_fit r p ≡ false → takes r insn ≡ false
unfolding fits
no_fit r insn p e f = not_taken r insn (λ k.
    both_ways (fields_fit r p) f (subst (λ (x : Fields). fields_fit r x ≡ true) (sym e) (and_parts (fields_fit r (built r insn)) _ k.0).0))

length_built : (r : Row) (insn : View) (p : Fields) (n : ℕ) → p ≡ built r insn → n ≡ length_by r p → length (bytes_of r (built r insn)) ≡ n
length_built r insn p n e len = ap (λ (x : Fields). length (bytes_of r x)) (sym e) ∙ length_is r p ∙ sym len

pub too_long : (r : Row) (insn : View) (p : Fields) (n : ℕ) → p ≡ built r insn → n ≡ length_by r p → 15 < n → takes r insn ≡ false
unfolding fits
too_long r insn p n e len lt = not_taken r insn (λ k.
    let l : length (bytes_of r (built r insn)) ≡ n = length_built r insn p n e len in
    let q = leb-true (length (bytes_of r (built r insn))) 15 (and_parts (fields_fit r (built r insn)) _ k.0).1 in
    absurd (omega arith))

pub not_shown : (r : Row) (insn : View) (p : Fields) → p ≡ built r insn → shows r p insn ≡ false → takes r insn ≡ false
not_shown r insn p e s = not_taken r insn (λ k.
    both_ways (shows r p insn) s (subst (λ (x : Fields). shows r x insn ≡ true) (sym e) k.1))

pub is_taken : (r : Row) (insn : View) (p : Fields) (n : ℕ) → p ≡ built r insn → n ≡ length_by r p → fields_fit r p ≡ true → n ≤ 15 → shows r p insn ≡ true → takes r insn ≡ true
unfolding takes fits
is_taken r insn p n e len f le s =
    let l : length (bytes_of r (built r insn)) ≡ n = length_built r insn p n e len in
    let g : fields_fit r (built r insn) ≡ true = subst (λ (x : Fields). fields_fit r x ≡ true) e f in
    let h : shows r (built r insn) insn ≡ true = subst (λ (x : Fields). shows r x insn ≡ true) e s in
    and_from _ _ (and_from _ _ g (le-leb (length (bytes_of r (built r insn))) 15 (omega arith))) h

pub offered : (r : Row) (insn : View) (i : ℕ) (x : Found) (p : Fields) (n : ℕ) → x.row ≡ i → fields_of x.parts ≡ p → x.length ≡ n → p ≡ built r insn → n ≡ length_by r p → fields_fit r p ≡ true → n ≤ 15
    → shows r p insn ≡ true → Offer insn r i x
offered r insn i x p n a b c e len f le s = record {
  row_is = a;
  taken = is_taken r insn p n e len f le s;
  parts_are = b ∙ e;
  length_is = c ∙ sym (length_built r insn p n e len);
}

-- STEPS

-- what was found stays, if the row codes nothing that is shorter
stays : (n : ℕ) (insn : View) (x : Found) → BestSofar n insn x → ((other : List ℕ) → OrderedCodes other insn n → x.length ≤ length other) → BestSofar (n + 1) insn x
stays n insn x b k = record {
  r = b.r;
  below = (let l = b.below in omega arith);
  found = b.found;
  taken = b.taken;
  parts_are = b.parts_are;
  length_is = b.length_is;
  least = λ other j lt c. elim (cases_order j n) [
    | inl e ↦ let l = b.below in let z = b.length_is in let at : OrderedCodes other insn n = subst (λ (y : ℕ). OrderedCodes other insn y) e c in
        let m = k other at in
        subst (λ (y : ℕ). Before (bytes_of b.r (built b.r insn)) x.row other y) (sym e) (later_by x.row n (bytes_of b.r (built b.r insn)) other l (omega arith))
    | inr (inl l) ↦ b.least other j l c
    | inr (inr g) ↦ absurd (omega arith)
  ];
}

-- the row's offer comes before all that came before
takes_over : (n : ℕ) (insn : View) (r : Row) (x : Found) → Offer insn r n x → slice_get the_rows n ≡ Some r
    → ((other : List ℕ) (j : ℕ) → j < n → OrderedCodes other insn j → Before (bytes_of r (built r insn)) n other j) → BestSofar (n + 1) insn x
takes_over n insn r x o s k = record {
  r = r;
  below = (let e = o.row_is in omega arith);
  found = subst (λ (y : ℕ). slice_get the_rows y ≡ Some r) (sym o.row_is) s;
  taken = o.taken;
  parts_are = o.parts_are;
  length_is = o.length_is;
  least = λ other j lt c. subst (λ (y : ℕ). Before (bytes_of r (built r insn)) y other j) (sym o.row_is) (elim (cases_order j n) [
    | inl e ↦ let at : OrderedCodes other insn n = subst (λ (y : ℕ). OrderedCodes other insn y) e c in
        subst (λ (y : ℕ). Before (bytes_of r (built r insn)) n other y) (sym e) (own_before n (bytes_of r (built r insn)) other (rest_longer n r insn s (shaped_at n r s) other at))
    | inr (inl l) ↦ k other j l c
    | inr (inr g) ↦ absurd (omega arith)
  ]);
}

none_yet : (n : ℕ) (insn : View) → Sofar n insn None → ((other : List ℕ) → OrderedCodes other insn n → ⊥) → Sofar (n + 1) insn None
none_yet n insn b k = λ bytes j l c. elim (cases_order j n) [
  | inl e ↦ k bytes (subst (λ (y : ℕ). OrderedCodes bytes insn y) e c)
  | inr (inl m) ↦ b bytes j m c
  | inr (inr g) ↦ absurd (omega arith)
]

passes : (n : ℕ) (insn : View) (found : Option Found) → ((other : List ℕ) → OrderedCodes other insn n → ⊥) → Sofar n insn found → Sofar (n + 1) insn found
passes n insn None k b = none_yet n insn b k
passes n insn (Some x) k b = stays n insn x b (λ other c. absurd (k other c))

pub steps_not : (insn : View) (r : Row) (i : ℕ) (found : Option Found) → takes r insn ≡ false → Steps insn r i found found
steps_not insn r i found o = λ s b. passes i insn found (misses i r insn s (shaped_at i r s) o) b

pub steps_longer : (insn : View) (r : Row) (i : ℕ) (found : Option Found) (p : Fields) (n : ℕ) → p ≡ built r insn → n ≡ length_by r p → is_reached found n ≡ true → Steps insn r i found found
steps_longer insn r i None p n e len t = cc
steps_longer insn r i (Some x) p n e len t = λ s b.
    let l : length (bytes_of r (built r insn)) ≡ n = length_built r insn p n e len in
    let k = leb-true x.length n t in
    stays i insn x b (λ other c. elim (rest_longer i r insn s (shaped_at i r s) other c) [
      | inl e ↦ (let m : length (bytes_of r (built r insn)) ≡ length other = ap (λ (y : List ℕ). length y) e in omega arith)
      | inr g ↦ omega arith
    ])

pub steps_shorter : (insn : View) (r : Row) (i : ℕ) (found : Option Found) (x : Found) → Offer insn r i x → is_reached found x.length ≡ false → Steps insn r i found (Some x)
steps_shorter insn r i None x o t = λ s b. takes_over i insn r x o s (λ other j lt c. absurd (b other j lt c))
steps_shorter insn r i (Some old) x o t = λ s b.
    let l = leb-false old.length x.length t in
    let a = o.length_is in
    let c = b.length_is in
    takes_over i insn r x o s (λ other j lt k. shorter_before old.row j i (bytes_of r (built r insn)) (bytes_of b.r (built b.r insn)) other (omega arith) (b.least other j lt k))

pub steps_reached : (insn : View) (r : Row) (i : ℕ) (found : Option Found) → is_reached found (least_length r) ≡ true → Steps insn r i found found
steps_reached insn r i None e = cc
steps_reached insn r i (Some x) e = λ s b. stays i insn x b (λ other (q, p, c).
    let same : q ≡ r = some_is (sym c.found ∙ s) in
    let k = leb-true x.length (least_length r) e in
    let l : length other ≡ length_by q p = ap (λ (y : List ℕ). length y) c.bytes_are ∙ length_is q p in
    let m = at_least q p in
    let z : least_length q ≡ least_length r = ap least_length same in
    omega arith)

-- THE LOOP

row_at : (rows : List Row) (n : ℕ) (d : Row) → rows ≡ the_rows → n < length rows → slice_get the_rows n ≡ Some (get_or rows n d)
row_at rows n d g lt = rw (← g) (slice_get-get_or rows n d lt)

pub sofar_next : (n : ℕ) (insn : View) (found new : Option Found) (rows : List Row) (d : Row) → rows ≡ the_rows → n < length rows → Steps insn (get_or rows n d) n found new → Sofar n insn found → Sofar (n + 1) insn new
sofar_next n insn found new rows d g lt k b = k (row_at rows n d g lt) b

passed_by : (n : ℕ) (insn : View) (found : Option Found) (r : Row) → slice_get the_rows n ≡ Some r → admits (key_of r) insn ≡ false → Sofar n insn found → Sofar (n + 1) insn found
passed_by n insn found r s a b = passes n insn found (misses n r insn s (shaped_at n r s) (passed r insn a)) b

pub key_is : (keys : List Key) (rows : List Row) (i : ℕ) (d : Key) (e : Row) → keys ≡ the_keys → rows ≡ the_rows → i < length keys → i < length rows → get_or keys i d ≡ key_of (get_or rows i e)
key_is keys rows i d e f g lt lu =
    let a : slice_get the_rows i ≡ Some (get_or rows i e) = row_at rows i e g lu in
    let b : slice_get the_keys i ≡ Some (get_or keys i d) = rw (← f) (slice_get-get_or keys i d lt) in
    some_is (sym b ∙ key_at i (get_or rows i e) a)

sofar_same : (n : ℕ) (insn : View) (found : Option Found) (rows : List Row) (keys : List Key) (d : Row) (e : Key) → rows ≡ the_rows → keys ≡ the_keys → n < length rows → n < length keys
    → admits (get_or keys n e) insn ≡ false → Sofar n insn found → Sofar (n + 1) insn found
sofar_same n insn found rows keys d e g h lt lu a s =
    let k = key_is keys rows n e d h g lu lt in
    let b : admits (key_of (get_or rows n d)) insn ≡ false = subst (λ (y : Key). admits y insn ≡ false) k a in
    passed_by n insn found (get_or rows n d) (row_at rows n d g lt) b s

pub sofar_kept : (n : ℕ) (insn : View) (found : Option Found) (rows : List Row) (keys : List Key) (e : Key) → rows ≡ the_rows → keys ≡ the_keys → n < length rows → n < length keys
    → admits (get_or keys n e) insn ≡ false → Sofar n insn found → Sofar (n + 1) insn found
sofar_kept n insn found [] keys e g h lt lu a s = absurd (omega arith)
sofar_kept n insn found (x ∷ rows) keys e g h lt lu a s = sofar_same n insn found (x ∷ rows) keys x e g h lt lu a s

-- THE RANGE

in_both : (start stop i : ℕ) → (nat_le start i && nat_lt i stop) ≡ true → (start ≤ i) × (i < stop)
in_both start stop i h = let p = and_parts (nat_le start i) (nat_lt i stop) h in (leb-true start i p.0, ltb-true i stop p.1)

sized : (insn : View) (r : Row) → insn.name.0 ≡ r.name.0 → insn.size ≡ r.size → is_sized insn.name.0 insn.size r ≡ true
sized insn r e f = and_from _ _ (eq-eqb _ _ (sym e)) (eq-eqb _ _ (sym f))

coded_in : (insn : View) (x : RowRange) (bytes : List ℕ) (j : ℕ) → AreRowsOf (is_sized insn.name.0 insn.size) x → OrderedCodes bytes insn j → (x.start ≤ j) × (j < x.stop)
coded_in insn x bytes j a (r, p, c) = in_both x.start x.stop j (a j r c.found ∙ sized insn r c.means.name c.means.size)

pub sofar_at : (insn : View) (x : RowRange) → AreRowsOf (is_sized insn.name.0 insn.size) x → Sofar x.start insn None
sofar_at insn x a = λ bytes j lt c. let k = (coded_in insn x bytes j a c).0 in absurd (omega arith)

pub row_inside : (x : RowRange) (i : ℕ) (rows : List Row) → IsWithin x → rows ≡ the_rows → i < x.stop → i < length rows
row_inside x i rows w f lt =
    let k = w.stop in
    let l : length rows ≡ length the_rows = ap (λ (y : List Row). length y) f in
    omega arith

pub key_inside : (x : RowRange) (i : ℕ) (keys : List Key) → IsWithin x → keys ≡ the_keys → i < x.stop → i < length keys
key_inside x i keys w f lt =
    let k = w.stop in
    let l : length keys ≡ length the_keys = ap (λ (y : List Key). length y) f in
    let m = as_many in
    omega arith

past : (insn : View) (x : RowRange) (i : ℕ) (bytes : List ℕ) (j : ℕ) → AreRowsOf (is_sized insn.name.0 insn.size) x → x.stop ≤ i → OrderedCodes bytes insn j → j < i
past insn x i bytes j a le c = let m = (coded_in insn x bytes j a c).1 in omega arith

pub sofar_ends : (insn : View) (x : RowRange) (i : ℕ) (found : Option Found) → IsWithin x → AreRowsOf (is_sized insn.name.0 insn.size) x → x.stop ≤ i → (x.start ≤ x.stop → i ≤ x.stop) → Sofar i insn found
    → Finds insn found
sofar_ends insn x i None w a le up b = λ bytes j c. b bytes j (past insn x i bytes j a le c) c
sofar_ends insn x i (Some y) w a le up b = record {
  r = b.r;
  found = b.found;
  taken = b.taken;
  parts_are = b.parts_are;
  length_is = b.length_is;
  least = λ other j c. b.least other j (past insn x i other j a le c) c;
}

-- WHAT IS FOUND

pub none_found : (insn : View) (found : Option Found) → found ≡ None → Finds insn found → HasNoOrderedCode insn
none_found insn None e k = k
none_found insn (Some x) e k = cc

-- the row of what is found takes the instruction
pub record Taking (insn : View) (x : Found) (r : Row) : Type 0 where
  pub found : slice_get the_rows x.row ≡ Some r
  pub taken : takes r insn ≡ true
  pub parts_are : fields_of x.parts ≡ built r insn
  pub length_is : x.length ≡ length (bytes_of r (built r insn))
  pub least : (other : List ℕ) (j : ℕ) → OrderedCodes other insn j → Before (bytes_of r (built r insn)) x.row other j

pub best_of : (insn : View) (found : Option Found) (x : Found) → found ≡ Some x → Finds insn found → Best insn x
best_of insn found x e k = let q : Finds insn (Some x) = subst (λ (y : Option Found). Finds insn y) e k in q

pub best_within : (insn : View) (x : Found) (rows : List Row) → rows ≡ the_rows → Best insn x → x.row < length rows
best_within insn x rows g t = slice_get_within rows x.row t.r (subst (λ (y : List Row). slice_get y x.row ≡ Some t.r) (sym g) t.found)

taking : (insn : View) (x : Found) (b : Best insn x) → Taking insn x b.r
taking insn x b = record { found = b.found; taken = b.taken; parts_are = b.parts_are; length_is = b.length_is; least = b.least }

pub best_row : (insn : View) (x : Found) (rows : List Row) (d : Row) → rows ≡ the_rows → Best insn x → Taking insn x (get_or rows x.row d)
best_row insn x rows d g t =
    let s = row_at rows x.row d g (best_within insn x rows g t) in
    let same : t.r ≡ get_or rows x.row d = some_is (sym t.found ∙ s) in
    subst (λ (y : Row). Taking insn x y) same (taking insn x t)

pub taking_fits : (insn : View) (x : Found) (r : Row) → Taking insn x r → fields_fit r (fields_of x.parts) ≡ true
unfolding takes fits
taking_fits insn x r t =
    subst (λ (y : Fields). fields_fit r y ≡ true) (sym t.parts_are) (and_parts _ _ (and_parts _ _ t.taken).0).0

taken_code : (insn : View) (x : Found) (r : Row) → Taking insn x r → OrderedCodes (bytes_of r (built r insn)) insn x.row
taken_code insn x r t = let k = taken r insn t.taken in (r, built r insn, record { found = t.found; fit = k.0; means = k.1; bytes_are = refl })

pub taking_code : (insn : View) (x : Found) (r : Row) (bytes : List ℕ) → Taking insn x r → bytes ≡ bytes_of r (fields_of x.parts) → OrderedAt x.row bytes insn
taking_code insn x r bytes t e =
    let same : bytes_of r (built r insn) ≡ bytes = ap (λ (y : Fields). bytes_of r y) (sym t.parts_are) ∙ sym e in
    subst (λ (y : List ℕ). OrderedAt x.row y insn) same (record { codes = taken_code insn x r t; least = t.least })

pub meant_is : (name : Mnemonic) (insn : View) → name.0 ≡ name_meant insn → named name insn ≡ meant insn
meant_is name insn e = ap (λ (n : ℕ). named (record { 0 = n }) insn) e
