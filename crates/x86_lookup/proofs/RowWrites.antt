-- Rows that admit one instruction say the same of what it writes.
use Rattle.std.proofs.Common.{◌≡◌, ◌<◌, ◌≤◌, ℕ, ◌==◌, ◌&&◌, ◌||◌, List, [], ◌∷◌, Bool, true, false, not, if◌then◌else◌, Some, None, slice_get, refl, arith, zero, suc, inl, inr, sym, ap, ◌∙◌, subst, eq-eqb, nat_lt}
use Rattle.std.proofs.lemmas.Bool.{and_parts, and_from, both_ways, eqb-true, ltb-true, cases_Bool, cases_order}
use Rattle.x86_insn.specs.declared.insns.Slot.{Slot}
use Rattle.x86_insn.specs.declared.insns.Slot.TheVariants as slot
use Rattle.x86_insn.specs.declared.insns.Insn.{Insn}
use Rattle.x86_table.specs.declared.forms.Destinations.{Destinations}
use Rattle.x86_table.specs.declared.forms.Destinations.TheVariants as destinations
use Rattle.x86_table.specs.declared.forms.Implied.{Implied}
use Rattle.x86_table.specs.declared.forms.Implied.TheVariants as implied
use Rattle.x86_table.specs.declared.forms.StoreKind.{StoreKind}
use Rattle.x86_table.specs.declared.forms.StoreKind.TheVariants as kind
use Rattle.x86_table.specs.declared.forms.Pattern.{Pattern}
use Rattle.x86_table.specs.declared.forms.Row.{Row}
use Rattle.x86_table.specs.Rows.{the_rows}
use Rattle.x86_lookup.specs.Writing.{is_absent, takes_register, takes_memory, is_immediate, is_target, kind_fits, admits, FindsRow, bytes_in_memory, stored, writes_by, no_writes, IsWritten, kinds_meet, may_meet, destinations_number, implied_number, store_number, write_same, agrees_with, all_agree}

agree : all_agree the_rows ≡ true
unfolding the_rows
agree = refl

-- destinations by their numbers
abbrev destinations_at : ℕ → Destinations
destinations_at n = if n == 0 then destinations.Nothing else (if n == 1 then destinations.First else (destinations.FirstAndSecond))

destinations_is : (x : Destinations) → destinations_at (destinations_number x) ≡ x
destinations_is destinations.Nothing = refl
destinations_is destinations.First = refl
destinations_is destinations.FirstAndSecond = refl

destinations_same : (x y : Destinations) → (destinations_number x == destinations_number y) ≡ true → x ≡ y
destinations_same x y h = sym (destinations_is x) ∙ ap destinations_at (eqb-true (destinations_number x) (destinations_number y) h) ∙ destinations_is y

-- implied registers by their numbers
abbrev implied_at : ℕ → Implied
implied_at n = if n == 0 then implied.Absent else (if n == 1 then implied.Rax else (if n == 2 then implied.Rcx else (if n == 3 then implied.Rdx else (if n == 4 then implied.Rsp else (if n == 5 then implied.Rdi else (if n == 6 then implied.RaxRdx else (if n == 7 then implied.RaxRsi else (if n == 8 then implied.RsiRdi else (if n == 9 then implied.RspRbp else (if n == 10 then implied.RaxRcxR11 else (if n == 11 then implied.RaxRbxRcxRdx else (implied.Xmm0))))))))))))

implied_is : (x : Implied) → implied_at (implied_number x) ≡ x
implied_is implied.Absent = refl
implied_is implied.Rax = refl
implied_is implied.Rcx = refl
implied_is implied.Rdx = refl
implied_is implied.Rsp = refl
implied_is implied.Rdi = refl
implied_is implied.RaxRdx = refl
implied_is implied.RaxRsi = refl
implied_is implied.RsiRdi = refl
implied_is implied.RspRbp = refl
implied_is implied.RaxRcxR11 = refl
implied_is implied.RaxRbxRcxRdx = refl
implied_is implied.Xmm0 = refl

implied_same : (x y : Implied) → (implied_number x == implied_number y) ≡ true → x ≡ y
implied_same x y h = sym (implied_is x) ∙ ap implied_at (eqb-true (implied_number x) (implied_number y) h) ∙ implied_is y

-- kinds of stores by their numbers
abbrev store_at : ℕ → StoreKind
store_at n = if n == 0 then kind.Absent else (if n == 1 then kind.Operand else (if n == 2 then kind.BitString else (if n == 3 then kind.PushQuad else (if n == 4 then kind.PushWord else (kind.Unfixed)))))

store_is : (x : StoreKind) → store_at (store_number x) ≡ x
store_is kind.Absent = refl
store_is kind.Operand = refl
store_is kind.BitString = refl
store_is kind.PushQuad = refl
store_is kind.PushWord = refl
store_is kind.Unfixed = refl

store_same : (x y : StoreKind) → (store_number x == store_number y) ≡ true → x ≡ y
store_same x y h = sym (store_is x) ∙ ap store_at (eqb-true (store_number x) (store_number y) h) ∙ store_is y

some_is : {A : Type 0} {m n : A} → Some m ≡ Some n → m ≡ n
some_is h = cc

or_left : (a b : Bool) → a ≡ true → (a || b) ≡ true
or_left true b h = refl
or_left false b h = cc

or_right : (a b : Bool) → b ≡ true → (a || b) ≡ true
or_right true b h = refl
or_right false b h = h

-- patterns that show one operand meet
meet : (p q : Pattern) (s : Slot) → kind_fits p s ≡ true → kind_fits q s ≡ true → kinds_meet p q ≡ true
meet p q slot.Absent f g = or_left (is_absent p && is_absent q) _ (and_from _ _ f g)
meet p q (slot.Register r) f g = or_right (is_absent p && is_absent q) _ (or_left (takes_register p && takes_register q) _ (and_from _ _ f g))
meet p q slot.Immediate f g = or_right (is_absent p && is_absent q) _ (or_right (takes_register p && takes_register q) _ (or_left (is_immediate p && is_immediate q) _ (and_from _ _ f g)))
meet p q slot.Memory f g = or_right (is_absent p && is_absent q) _ (or_right (takes_register p && takes_register q) _ (or_right (is_immediate p && is_immediate q) _
    (or_left (takes_memory p && takes_memory q) (is_target p && is_target q) (and_from _ _ f g))))
meet p q slot.Target f g = or_right (is_absent p && is_absent q) _ (or_right (takes_register p && takes_register q) _ (or_right (is_immediate p && is_immediate q) _
    (or_right (takes_memory p && takes_memory q) (is_target p && is_target q) (and_from _ _ f g))))

-- what a row admits
record Admitted (r : Row) (insn : Insn) : Type 0 where
  name : r.name.0 ≡ insn.name.0
  size : r.size ≡ insn.size
  first : kind_fits r.first insn.first ≡ true
  second : kind_fits r.second insn.second ≡ true
  third : kind_fits r.third insn.third ≡ true

admitted : (r : Row) (insn : Insn) → admits r insn ≡ true → Admitted r insn
unfolding admits
admitted r insn h =
    let a = and_parts (r.name.0 == insn.name.0) ((r.size == insn.size) && (kind_fits r.first insn.first && (kind_fits r.second insn.second && kind_fits r.third insn.third))) h in
    let b = and_parts (r.size == insn.size) (kind_fits r.first insn.first && (kind_fits r.second insn.second && kind_fits r.third insn.third)) a.1 in
    let c = and_parts (kind_fits r.first insn.first) (kind_fits r.second insn.second && kind_fits r.third insn.third) b.1 in
    let d = and_parts (kind_fits r.second insn.second) (kind_fits r.third insn.third) c.1 in
    record { name = eqb-true r.name.0 insn.name.0 a.0; size = eqb-true r.size insn.size b.0; first = c.0; second = d.0; third = d.1 }

both_meet : (r s : Row) (insn : Insn) → Admitted r insn → Admitted s insn → may_meet r s ≡ true
both_meet r s insn f g =
    and_from _ _ (eq-eqb r.name.0 s.name.0 (f.name ∙ sym g.name))
    (and_from _ _ (eq-eqb r.size s.size (f.size ∙ sym g.size))
    (and_from _ _ (meet r.first s.first insn.first f.first g.first)
    (and_from _ _ (meet r.second s.second insn.second f.second g.second) (meet r.third s.third insn.third f.third g.third))))

implies : (a b : Bool) → (not a || b) ≡ true → a ≡ true → b ≡ true
implies true b h t = h
implies false b h t = cc

if_so : (c a b : Bool) → c ≡ true → (if c then a else b) ≡ true → a ≡ true
if_so true a b q h = h
if_so false a b q h = cc

if_not : (c a b : Bool) → c ≡ false → (if c then a else b) ≡ true → b ≡ true
if_not true a b q h = cc
if_not false a b q h = h

-- where the next row has the name too, this is said of it; else its name has a higher number
with_next : (r t : Row) (rows : List Row) → agrees_with r (t ∷ rows) ≡ true → (r.name.0 == t.name.0) ≡ true → ((not (may_meet r t) || write_same r t) && agrees_with r rows) ≡ true
with_next r t rows h q = if_so (r.name.0 == t.name.0) ((not (may_meet r t) || write_same r t) && agrees_with r rows) (nat_lt r.name.0 t.name.0) q h

next_above : (r t : Row) (rows : List Row) → agrees_with r (t ∷ rows) ≡ true → (r.name.0 == t.name.0) ≡ false → r.name.0 < t.name.0
next_above r t rows h q =
    ltb-true r.name.0 t.name.0 (if_not (r.name.0 == t.name.0) ((not (may_meet r t) || write_same r t) && agrees_with r rows) (nat_lt r.name.0 t.name.0) q h)

next_from : (r t : Row) (rows : List Row) → agrees_with r (t ∷ rows) ≡ true → r.name.0 ≤ t.name.0
next_from r t rows h = elim (cases_Bool (r.name.0 == t.name.0)) [
  | inl q ↦ (let e = eqb-true r.name.0 t.name.0 q in omega arith)
  | inr q ↦ (let l = next_above r t rows h q in omega arith)
]

-- rows behind have names of no lower numbers
sorted : (r s : Row) (rows : List Row) (j : ℕ) → agrees_with r rows ≡ true → all_agree rows ≡ true → slice_get rows j ≡ Some s → r.name.0 ≤ s.name.0
sorted r s [] j h a e = cc
sorted r s (t ∷ rows) zero h a e = subst (λ (x : Row). r.name.0 ≤ x.name.0) (some_is e) (next_from r t rows h)
sorted r s (t ∷ rows) (suc j) h a e =
    let p = and_parts (agrees_with t rows) (all_agree rows) a in
    let l = next_from r t rows h in
    let m = sorted t s rows j p.0 p.1 e in
    omega arith

with_one : (r s : Row) (rows : List Row) (j : ℕ) → agrees_with r rows ≡ true → all_agree rows ≡ true → slice_get rows j ≡ Some s → r.name.0 ≡ s.name.0
    → (not (may_meet r s) || write_same r s) ≡ true
with_one r s [] j h a e n = cc
with_one r s (t ∷ rows) zero h a e n =
    let same : t ≡ s = some_is e in
    elim (cases_Bool (r.name.0 == t.name.0)) [
      | inl q ↦ subst (λ (x : Row). (not (may_meet r x) || write_same r x) ≡ true) same (and_parts (not (may_meet r t) || write_same r t) (agrees_with r rows) (with_next r t rows h q)).0
      | inr q ↦ (let l = next_above r t rows h q in let z : t.name.0 ≡ s.name.0 = ap (λ (x : Row). x.name.0) same in absurd (omega arith))
    ]
with_one r s (t ∷ rows) (suc j) h a e n =
    let p = and_parts (agrees_with t rows) (all_agree rows) a in
    elim (cases_Bool (r.name.0 == t.name.0)) [
      | inl q ↦ with_one r s rows j (and_parts (not (may_meet r t) || write_same r t) (agrees_with r rows) (with_next r t rows h q)).1 p.1 e n
      | inr q ↦ (let l = next_above r t rows h q in let m = sorted t s rows j p.0 p.1 e in absurd (omega arith))
    ]

of_one : (rows : List Row) (i j : ℕ) (r s : Row) → all_agree rows ≡ true → i < j → slice_get rows i ≡ Some r → slice_get rows j ≡ Some s → r.name.0 ≡ s.name.0
    → (not (may_meet r s) || write_same r s) ≡ true
of_one [] i j r s a l e f n = cc
of_one (t ∷ rows) i zero r s a l e f n = absurd (omega arith)
of_one (t ∷ rows) zero (suc j) r s a l e f n =
    let p = and_parts (agrees_with t rows) (all_agree rows) a in
    let same : t ≡ r = some_is e in
    let named : t.name.0 ≡ s.name.0 = ap (λ (x : Row). x.name.0) same ∙ n in
    subst (λ (x : Row). (not (may_meet x s) || write_same x s) ≡ true) same (with_one t s rows j p.0 p.1 f named)
of_one (t ∷ rows) (suc i) (suc j) r s a l e f n = of_one rows i j r s (and_parts (agrees_with t rows) (all_agree rows) a).1 (omega arith) e f n

stored_same : (p q : Pattern) (s : Slot) → kind_fits p s ≡ true → kind_fits q s ≡ true → (not (takes_memory p && takes_memory q) || (bytes_in_memory p == bytes_in_memory q)) ≡ true
    → (k : StoreKind) → stored s k (bytes_in_memory p) ≡ stored s k (bytes_in_memory q)
stored_same p q slot.Memory f g h k =
    let same = eqb-true (bytes_in_memory p) (bytes_in_memory q) (implies (takes_memory p && takes_memory q) (bytes_in_memory p == bytes_in_memory q) h (and_from _ _ f g)) in
    ap (stored slot.Memory k) same
stored_same p q slot.Absent f g h k = refl
stored_same p q (slot.Register r) f g h k = refl
stored_same p q slot.Immediate f g h k = refl
stored_same p q slot.Target f g h k = refl

-- rows that admit one instruction say the same, the first of them first
in_order : (insn : Insn) (i j : ℕ) (r s : Row) → i < j → slice_get the_rows i ≡ Some r → slice_get the_rows j ≡ Some s → admits r insn ≡ true → admits s insn ≡ true → writes_by r insn ≡ writes_by s insn
unfolding writes_by
in_order insn i j r s l e f a b =
    let x = admitted r insn a in
    let y = admitted s insn b in
    let alike = implies (may_meet r s) (write_same r s) (of_one the_rows i j r s agree l e f (x.name ∙ sym y.name)) (both_meet r s insn x y) in
    let p = and_parts (destinations_number r.outputs.destinations == destinations_number s.outputs.destinations) ((implied_number r.outputs.implied == implied_number s.outputs.implied)
    && ((store_number r.outputs.store == store_number s.outputs.store) && (not (takes_memory r.first && takes_memory s.first) || (bytes_in_memory r.first == bytes_in_memory s.first)))) alike in
    let q = and_parts (implied_number r.outputs.implied == implied_number s.outputs.implied)
    ((store_number r.outputs.store == store_number s.outputs.store) && (not (takes_memory r.first && takes_memory s.first) || (bytes_in_memory r.first == bytes_in_memory s.first))) p.1 in
    let t = and_parts (store_number r.outputs.store == store_number s.outputs.store) (not (takes_memory r.first && takes_memory s.first) || (bytes_in_memory r.first == bytes_in_memory s.first)) q.1 in
    let d = destinations_same r.outputs.destinations s.outputs.destinations p.0 in
    let m = implied_same r.outputs.implied s.outputs.implied q.0 in
    let k = store_same r.outputs.store s.outputs.store t.0 in
    let w = stored_same r.first s.first insn.first x.first y.first t.1 s.outputs.store in
    rw (d, m, k, w) refl

-- in any order
same_writes : (insn : Insn) (i j : ℕ) (r s : Row) → slice_get the_rows i ≡ Some r → slice_get the_rows j ≡ Some s → admits r insn ≡ true → admits s insn ≡ true → writes_by r insn ≡ writes_by s insn
same_writes insn i j r s e f a b = elim (cases_order i j) [
  | inl same ↦
      let found : slice_get the_rows j ≡ Some r = ap (slice_get the_rows) (sym same) ∙ e in
      ap (λ (x : Row). writes_by x insn) (some_is (sym found ∙ f))
  | inr (inl lt) ↦ in_order insn i j r s lt e f a b
  | inr (inr gt) ↦ sym (in_order insn j i s r gt f e b a)
]

pub by_found : (insn : Insn) (r : Row) → FindsRow insn (Some r) → IsWritten insn (writes_by r insn)
by_found insn r (j, found, fits) = record {
  by_row = λ i s e a. same_writes insn j i r s found e fits a;
  by_none = λ none. absurd (both_ways (admits r insn) (none j r found) fits);
}

pub by_none : (insn : Insn) → FindsRow insn None → IsWritten insn no_writes
by_none insn none = record {
  by_row = λ i s e a. absurd (both_ways (admits s insn) (none i s e) a);
  by_none = λ also. refl;
}
