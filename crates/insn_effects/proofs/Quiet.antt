-- Where neither the operands nor the name say otherwise, an instruction writes none of the seven.
use Rattle.std.proofs.Common.{◌≡◌, ◌<◌, ℕ, zero, suc, ◌+◌, ◌==◌, ◌&&◌, ◌||◌, Bool, true, false, not, List, [], ◌∷◌, slice_get, Option, Some, None, refl, sym, ap, subst, ◌∙◌, arith, lit<}
use Rattle.std.proofs.lemmas.Bool.{and_parts, eqb-true}
use Rattle.std.specs.List.{find, list_all}
use Rattle.x86_insn.specs.declared.insns.Insn.{Insn}
use Rattle.x86_insn.specs.declared.insns.Slot.{Slot}
use Rattle.x86_insn.specs.declared.insns.Slot.TheVariants as slot
use Rattle.x86_insn.specs.declared.amounts.Values.{Values}
use Rattle.x86_insn.specs.Views.{Seen, seen_at, view_of}
use Rattle.x86_table.specs.declared.forms.Destinations.{Destinations}
use Rattle.x86_table.specs.declared.forms.Destinations.TheVariants as destinations
use Rattle.x86_table.specs.declared.forms.Implied.{Implied}
use Rattle.x86_table.specs.declared.forms.StoreKind.{StoreKind}
use Rattle.x86_table.specs.declared.forms.StoreKind.TheVariants as kind
use Rattle.x86_table.specs.declared.forms.Row.{Row}
use Rattle.x86_table.specs.Rows.{the_rows}
use Rattle.x86_lookup.specs.declared.writing.Store.{Store}
use Rattle.x86_lookup.specs.declared.writing.Writes.{Writes}
use Rattle.x86_lookup.specs.Writing.{reg_in, kind_fits, first_written, second_written, stored, elsewhere, bytes_in_memory, no_writes, has_general, part_is, writes_general}
use Rattle.insn_effects.specs.Seven.{bit_if, bits_of}
use Rattle.insn_effects.specs.Listed.{Head, head_of, admits_head, row_writes, writes_if, writes_by_head, writes_of}
use Rattle.insn_effects.specs.Quiet.{implies_some, is_quiet, is_memory, is_still, is_quiet_row}
use Rattle.insn_effects.specs.Actions.{other}
use Rattle.insn_effects.specs.Decoding.{stored_by, by_writes}
use Rattle.insn_effects.specs.Effects.{store_of, effect_of}
use Rattle.insn_effects.specs.Followed.{FollowedStore, followed_store, followed, wrote}
use Rattle.insn_effects.proofs.Listing.{found, same_slot}

-- each row whose name does not say otherwise is quiet, computed over the table
all_quiet : list_all (λ r. implies_some r.name.0 || is_quiet_row r) the_rows ≡ true
unfolding the_rows
all_quiet = refl

-- what holds of all holds of what stands at an index
holds_at : (p : Row → Bool) (xs : List Row) (i : ℕ) (r : Row) → list_all p xs ≡ true → slice_get xs i ≡ Some r → p r ≡ true
holds_at p [] i r h e = cc
holds_at p (x ∷ xs) zero r h e = let same : x ≡ r = cc in subst (λ (y : Row). p y ≡ true) same (and_parts (p x) (list_all p xs) h).0
holds_at p (x ∷ xs) (suc i) r h e = holds_at p xs i r (and_parts (p x) (list_all p xs) h).1 e

or_false : (a b : Bool) → (a || b) ≡ true → a ≡ false → b ≡ true
or_false true b h e = cc
or_false false b h e = h

false_of_not : (a : Bool) → not a ≡ true → a ≡ false
false_of_not true h = cc
false_of_not false h = refl

-- none of the seven is one of these
record AreClear (f : ℕ → Bool) : Type 0 where
  rsp : f 4 ≡ false
  rbx : f 3 ≡ false
  rbp : f 5 ≡ false
  r12 : f 12 ≡ false
  r13 : f 13 ≡ false
  r14 : f 14 ≡ false
  r15 : f 15 ≡ false

one_clear : (b : Bool) (bit rest : ℕ) → 0 < bit → bit_if b bit + rest ≡ 0 → (b ≡ false) × (rest ≡ 0)
one_clear true bit rest h e = absurd (omega arith)
one_clear false bit rest h e = (refl, omega arith)

last_clear : (b : Bool) (bit : ℕ) → 0 < bit → bit_if b bit ≡ 0 → b ≡ false
last_clear true bit h e = absurd (omega arith)
last_clear false bit h e = refl

clear : (f : ℕ → Bool) → bits_of f ≡ 0 → AreClear f
clear f h =
    let a = one_clear (f 4) 1 (bit_if (f 3) 2 + (bit_if (f 5) 4 + (bit_if (f 12) 8 + (bit_if (f 13) 16 + (bit_if (f 14) 32 + bit_if (f 15) 64))))) (lit< tt) h in
    let b = one_clear (f 3) 2 (bit_if (f 5) 4 + (bit_if (f 12) 8 + (bit_if (f 13) 16 + (bit_if (f 14) 32 + bit_if (f 15) 64)))) (lit< tt) a.1 in
    let c = one_clear (f 5) 4 (bit_if (f 12) 8 + (bit_if (f 13) 16 + (bit_if (f 14) 32 + bit_if (f 15) 64))) (lit< tt) b.1 in
    let d = one_clear (f 12) 8 (bit_if (f 13) 16 + (bit_if (f 14) 32 + bit_if (f 15) 64)) (lit< tt) c.1 in
    let e = one_clear (f 13) 16 (bit_if (f 14) 32 + bit_if (f 15) 64) (lit< tt) d.1 in
    let g = one_clear (f 14) 32 (bit_if (f 15) 64) (lit< tt) e.1 in
    record { rsp = a.0; rbx = b.0; rbp = c.0; r12 = d.0; r13 = e.0; r14 = g.0; r15 = last_clear (f 15) 64 (lit< tt) g.1 }

none_set : (f : ℕ → Bool) → AreClear f → bits_of f ≡ 0
none_set f c = simp (c.rsp, c.rbx, c.rbp, c.r12, c.r13, c.r14, c.r15) refl

and_false : (b : Bool) → (b && false) ≡ false
and_false true = refl
and_false false = refl

-- what a row writes is an operand, implied, or rcx
one_test : (d : Destinations) (s t : Slot) (i : Implied) (b : Bool) (n : ℕ) → part_is (reg_in s) n ≡ false → part_is (reg_in t) n ≡ false → has_general i n ≡ false → (n == 1) ≡ false
    → (part_is (first_written d s) n || (part_is (second_written d t) n || (has_general i n || (b && (n == 1))))) ≡ false
one_test destinations.Nothing s t i b n f g h k = simp (h, k, and_false b) refl
one_test destinations.First s t i b n f g h k = simp (f, h, k, and_false b) refl
one_test destinations.FirstAndSecond s t i b n f g h k = simp (f, g, h, k, and_false b) refl

row_bits : (h : Head) (r : Row) → bits_of (part_is (reg_in h.first)) ≡ 0 → bits_of (part_is (reg_in h.second)) ≡ 0 → bits_of (has_general r.outputs.implied) ≡ 0
    → bits_of (writes_general (row_writes h r)) ≡ 0
row_bits h r f g k =
    let a = clear (part_is (reg_in h.first)) f in
    let b = clear (part_is (reg_in h.second)) g in
    let c = clear (has_general r.outputs.implied) k in
    none_set (writes_general (row_writes h r)) (record {
      rsp = test 4 a.rsp b.rsp c.rsp refl;
      rbx = test 3 a.rbx b.rbx c.rbx refl;
      rbp = test 5 a.rbp b.rbp c.rbp refl;
      r12 = test 12 a.r12 b.r12 c.r12 refl;
      r13 = test 13 a.r13 b.r13 c.r13 refl;
      r14 = test 14 a.r14 b.r14 c.r14 refl;
      r15 = test 15 a.r15 b.r15 c.r15 refl;
    })
  where
    test : (n : ℕ) → part_is (reg_in h.first) n ≡ false → part_is (reg_in h.second) n ≡ false → has_general r.outputs.implied n ≡ false → (n == 1) ≡ false
        → writes_general (row_writes h r) n ≡ false
    test n = one_test r.outputs.destinations h.first h.second r.outputs.implied (row_writes h r).repeats n

-- a quiet instruction of no row, or of one
record IsStill (h : Head) (w : Writes) : Type 0 where
  bits : bits_of (writes_general w) ≡ 0
  store : (k : StoreKind) × (is_still k ≡ true) × (bytes : ℕ) × (w.store ≡ stored h.first k bytes)

same_name : (r : Row) (h : Head) → admits_head r h ≡ true → r.name.0 ≡ h.name
unfolding admits_head
same_name r h e = eqb-true r.name.0 h.name (and_parts (r.name.0 == h.name) ((r.size == h.size) && (kind_fits r.first h.first && (kind_fits r.second h.second && kind_fits r.third h.third))) e).0

elsewhere_same : (s : Slot) → no_writes.store ≡ stored s kind.Absent 0
elsewhere_same slot.Absent = refl
elsewhere_same (slot.Register r) = refl
elsewhere_same slot.Immediate = refl
elsewhere_same slot.Memory = refl
elsewhere_same slot.Target = refl

by_head : (h : Head) → bits_of (part_is (reg_in h.first)) ≡ 0 → bits_of (part_is (reg_in h.second)) ≡ 0 → implies_some h.name ≡ false → IsStill h (writes_by_head h)
unfolding writes_by_head
by_head h f g n = by_found (find p the_rows) refl
  where
    p : Row → Bool
    p = λ r. admits_head r h

    by_found : (o : Option Row) → find p the_rows ≡ o → IsStill h (writes_if h (find p the_rows))
    by_found None e = subst (λ (o : Option Row). IsStill h (writes_if h o)) (sym e) (record { bits = refl; store = (kind.Absent, refl, 0, elsewhere_same h.first) })
    by_found (Some r) e =
        let at = found p the_rows r e in
        let named = same_name r h at.passes in
        let quiet = or_false (implies_some r.name.0) (is_quiet_row r) (holds_at (λ r. implies_some r.name.0 || is_quiet_row r) the_rows at.index r all_quiet at.there) (ap implies_some named ∙ n) in
        let parts = and_parts (bits_of (has_general r.outputs.implied) == 0) (is_still r.outputs.store) quiet in
        subst (λ (o : Option Row). IsStill h (writes_if h o)) (sym e) (record {
          bits = row_bits h r f g (eqb-true (bits_of (has_general r.outputs.implied)) 0 parts.0);
          store = (r.outputs.store, parts.1, bytes_in_memory r.first, refl);
        })

-- what is quiet of an instruction
record IsQuiet (insn : Insn) : Type 0 where
  first : bits_of (part_is (reg_in insn.first)) ≡ 0
  second : bits_of (part_is (reg_in insn.second)) ≡ 0
  name : implies_some insn.name.0 ≡ false

quiet : (insn : Insn) → is_quiet insn ≡ true → IsQuiet insn
quiet insn h =
    let a = and_parts (bits_of (part_is (reg_in insn.first)) == 0) ((bits_of (part_is (reg_in insn.second)) == 0) && not (implies_some insn.name.0)) h in
    let b = and_parts (bits_of (part_is (reg_in insn.second)) == 0) (not (implies_some insn.name.0)) a.1 in
    record { first = eqb-true (bits_of (part_is (reg_in insn.first))) 0 a.0; second = eqb-true (bits_of (part_is (reg_in insn.second))) 0 b.0; name = false_of_not (implies_some insn.name.0) b.1 }

still : (insn : Insn) (values : Values) → is_quiet insn ≡ true → IsStill (head_of (view_of insn values)) (writes_of (view_of insn values))
still insn values h =
    let q = quiet insn h in
    by_head (head_of (view_of insn values))
    (subst (λ (s : Slot). bits_of (part_is (reg_in s)) ≡ 0) (sym (same_slot insn values insn.first)) q.first)
    (subst (λ (s : Slot). bits_of (part_is (reg_in s)) ≡ 0) (sym (same_slot insn values insn.second)) q.second) q.name

-- it writes none of the seven
pub quiet_bits : (insn : Insn) (values : Values) → is_quiet insn ≡ true → bits_of (writes_general (writes_of (view_of insn values))) ≡ 0
quiet_bits insn values h = (still insn values h).bits

no_store : (o : Seen) (k : StoreKind) → is_still k ≡ true → followed_store (store_of (stored_by o (elsewhere k))) None ≡ None
no_store o kind.Absent h = refl
no_store o kind.Operand h = refl
no_store o kind.BitString h = refl
no_store o kind.PushQuad h = cc
no_store o kind.PushWord h = cc
no_store o kind.Unfixed h = refl

by_slot : (insn : Insn) (values : Values) (s : Slot) (k : StoreKind) (bytes : ℕ) → is_memory s ≡ false → is_still k ≡ true
    → followed_store (store_of (stored_by (seen_at insn values s) (stored s k bytes))) None ≡ None
by_slot insn values slot.Absent k bytes m h = no_store (seen_at insn values slot.Absent) k h
by_slot insn values (slot.Register r) k bytes m h = no_store (seen_at insn values (slot.Register r)) k h
by_slot insn values slot.Immediate k bytes m h = no_store (seen_at insn values slot.Immediate) k h
by_slot insn values slot.Memory k bytes m h = cc
by_slot insn values slot.Target k bytes m h = no_store (seen_at insn values slot.Target) k h

as_wrote : (insn : Insn) (values : Values) (w : Writes) (k : StoreKind) (bytes : ℕ) → is_memory insn.first ≡ false → is_still k ≡ true
    → bits_of (writes_general w) ≡ 0 → w.store ≡ stored insn.first k bytes
    → followed (effect_of (other (writes_general w) (stored_by (seen_at insn values insn.first) w.store))) ≡ wrote 0 None
as_wrote insn values w k bytes m h b s =
    let e : followed_store (store_of (stored_by (seen_at insn values insn.first) w.store)) None ≡ None =
    ap (λ (x : Store). followed_store (store_of (stored_by (seen_at insn values insn.first) x)) None) s ∙ by_slot insn values insn.first k bytes m h in
    ap (λ (n : ℕ). wrote n (followed_store (store_of (stored_by (seen_at insn values insn.first) w.store)) None)) b ∙ ap (λ (x : Option FollowedStore). wrote 0 x) e

-- it stores nowhere that is followed, if its first operand is not in memory
pub quiet_effect : (insn : Insn) (values : Values) → is_memory insn.first ≡ false → is_quiet insn ≡ true → followed (effect_of (by_writes (view_of insn values))) ≡ wrote 0 None
quiet_effect insn values m h =
    let w = still insn values h in
    let s : (writes_of (view_of insn values)).store ≡ stored insn.first w.store.0 w.store.2 =
    subst (λ (x : Slot). (writes_of (view_of insn values)).store ≡ stored x w.store.0 w.store.2) (same_slot insn values insn.first) w.store.3 in
    as_wrote insn values (writes_of (view_of insn values)) w.store.0 w.store.2 m w.store.1 w.bits s
