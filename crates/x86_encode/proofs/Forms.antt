-- Whether any values have bytes is seen at a few of them.
use Rattle.std.proofs.Common.{◌≡◌, ◌^◌, ◌==◌, ◌&&◌, ◌||◌, Bool, None, Option, Some, ap, eq-eqb, false, inl, inr, not, refl, subst, sym, true, ℕ}
use Rattle.std.proofs.lemmas.Bool.{both_ways, and_parts, and_from, cases_Bool}
use Rattle.x86_insn.specs.declared.insns.Mnemonic.{Mnemonic}
use Rattle.x86_insn.specs.declared.insns.Slot.{Slot}
use Rattle.x86_insn.specs.declared.insns.Insn.{Insn}
use Rattle.x86_insn.specs.declared.amounts.Values.{Values}
use Rattle.x86_table.specs.declared.forms.Row.{Row}
use Rattle.x86_table.specs.declared.forms.Immediate.{Immediate}
use Rattle.x86_table.specs.declared.forms.Immediate.TheVariants as immediate
use Rattle.x86_insn.specs.declared.insns.Slot.TheVariants as slot
use Rattle.x86_insn.specs.Views.{immediate as shown_immediate, View, seen_at, view_of}
use Rattle.x86_table.specs.Fits.{immediate_fits}
use Rattle.x86_parts.specs.Codes.{last_of, reduced, is_quad, is_wide, named, name_meant, meant}
use Rattle.x86_encode.specs.Exchanges.{HasNoCode, HasCode}
use Rattle.x86_encode.specs.Faults.{with_values, Coded, HasForm, is_value, is_full, kinds_fit}
use Rattle.x86_encode.proofs.Nearest.{values_by}
use Rattle.x86_encode.proofs.Orders.{any_zero, any_value}
use Rattle.x86_encode.proofs.Roles.{or_rest}
use Rattle.x86_encode.proofs.Search.{meant_is}
use Rattle.x86_encode.proofs.Values.{Takes}
use Rattle.x86_table.specs.declared.mnemonics.integers.TheConstants.{MOV, MOVABS}

-- A VALUE THAT EACH IMMEDIATE HOLDS

one_same : (i : Immediate) → is_value i ≡ true → reduced (last_of i) 1 ≡ shown_immediate (Some 1)
one_same immediate.Absent h = cc
one_same immediate.Byte h = refl
one_same immediate.Count h = refl
one_same immediate.Sext16 h = refl
one_same immediate.Sext32 h = refl
one_same immediate.Sext64 h = refl
one_same immediate.Word h = refl
one_same immediate.Long h = refl
one_same immediate.LongSext h = refl
one_same immediate.Quad h = refl
one_same immediate.Rel8 h = cc
one_same immediate.Short h = cc
one_same immediate.Rel32 h = cc

one_fits : (i : Immediate) → is_value i ≡ true → immediate_fits i (Some 1) ≡ true
one_fits immediate.Absent h = cc
one_fits immediate.Byte h = refl
one_fits immediate.Count h = refl
one_fits immediate.Sext16 h = refl
one_fits immediate.Sext32 h = refl
one_fits immediate.Sext64 h = refl
one_fits immediate.Word h = refl
one_fits immediate.Long h = refl
one_fits immediate.LongSext h = refl
one_fits immediate.Quad h = refl
one_fits immediate.Rel8 h = cc
one_fits immediate.Short h = cc
one_fits immediate.Rel32 h = cc

full_same : (i : Immediate) → (is_full i || not (is_value i)) ≡ true → is_value i ≡ true → reduced (last_of i) (2 ^ 63) ≡ shown_immediate (Some (2 ^ 63))
full_same immediate.Absent k h = cc
full_same immediate.Byte k h = cc
full_same immediate.Count k h = cc
full_same immediate.Sext16 k h = cc
full_same immediate.Sext32 k h = cc
full_same immediate.Sext64 k h = cc
full_same immediate.Word k h = cc
full_same immediate.Long k h = cc
full_same immediate.LongSext k h = cc
full_same immediate.Quad k h = refl
full_same immediate.Rel8 k h = cc
full_same immediate.Short k h = cc
full_same immediate.Rel32 k h = cc

full_fits : (i : Immediate) → (is_full i || not (is_value i)) ≡ true → is_value i ≡ true → immediate_fits i (Some (2 ^ 63)) ≡ true
full_fits immediate.Absent k h = cc
full_fits immediate.Byte k h = cc
full_fits immediate.Count k h = cc
full_fits immediate.Sext16 k h = cc
full_fits immediate.Sext32 k h = cc
full_fits immediate.Sext64 k h = cc
full_fits immediate.Word k h = cc
full_fits immediate.Long k h = cc
full_fits immediate.LongSext k h = cc
full_fits immediate.Quad k h = refl
full_fits immediate.Rel8 k h = cc
full_fits immediate.Short k h = cc
full_fits immediate.Rel32 k h = cc

takes_one : (i : Immediate) → Takes 1 i
takes_one i = record { same = one_same i; fits = one_fits i }

movabs_full : (r : Row) → kinds_fit r ≡ true → MOVABS ≡ r.name.0 → (is_full r.immediate || not (is_value r.immediate)) ≡ true
movabs_full r k e = or_rest (not (r.name.0 == MOVABS)) (is_full r.immediate || not (is_value r.immediate)) (ap not (eq-eqb r.name.0 MOVABS (sym e))) (and_parts _ _ k).1

takes_full : (r : Row) → kinds_fit r ≡ true → MOVABS ≡ r.name.0 → Takes (2 ^ 63) r.immediate
takes_full r k e = record { same = full_same r.immediate (movabs_full r k e); fits = full_fits r.immediate (movabs_full r k e) }

-- THE NAME

-- the name that is meant is movabs
abbrev wide_test : Insn → Values → Bool
wide_test insn values = (insn.name.0 == MOV) && ((insn.size == 64) && (is_quad (seen_at insn values insn.first) && is_wide (seen_at insn values insn.second)))

name_own : (insn : Insn) (values : Values) → wide_test insn values ≡ false → insn.name.0 ≡ name_meant (view_of insn values)
name_own insn values h = rw h refl

name_movabs : (insn : Insn) (values : Values) → wide_test insn values ≡ true → MOVABS ≡ name_meant (view_of insn values)
name_movabs insn values h = rw h refl

not_wide : (a b c d : Bool) → d ≡ false → (a && (b && (c && d))) ≡ false
not_wide true true true d h = h
not_wide true true false d h = refl
not_wide true false c d h = refl
not_wide false b c d h = refl

wide_none : (insn : Insn) (moved : Option ℕ) (s : Slot) → is_wide (seen_at insn (values_by None moved) s) ≡ false
wide_none insn moved slot.Absent = refl
wide_none insn moved (slot.Register r) = refl
wide_none insn moved slot.Immediate = refl
wide_none insn moved slot.Memory = refl
wide_none insn moved slot.Target = refl

wide_one : (insn : Insn) (moved : Option ℕ) (s : Slot) → is_wide (seen_at insn (values_by (Some 1) moved) s) ≡ false
wide_one insn moved slot.Absent = refl
wide_one insn moved (slot.Register r) = refl
wide_one insn moved slot.Immediate = refl
wide_one insn moved slot.Memory = refl
wide_one insn moved slot.Target = refl

wide_full : (insn : Insn) (held moved : Option ℕ) (s : Slot) → is_wide (seen_at insn (values_by held moved) s) ≡ true → is_wide (seen_at insn (values_by (Some (2 ^ 63)) (Some 0)) s) ≡ true
wide_full insn held moved slot.Absent h = cc
wide_full insn held moved (slot.Register r) h = cc
wide_full insn held moved slot.Immediate h = refl
wide_full insn held moved slot.Memory h = cc
wide_full insn held moved slot.Target h = cc

wide_held : (insn : Insn) (held moved : Option ℕ) (s : Slot) → is_wide (seen_at insn (values_by held moved) s) ≡ true → held ≡ Some 1 → 2 ^ 63 ≡ 1
wide_held insn held moved slot.Absent h e = cc
wide_held insn held moved (slot.Register r) h e = cc
wide_held insn held moved slot.Immediate h e = absurd (both_ways (is_wide (shown_immediate held)) (ap (λ (d : Option ℕ). is_wide (shown_immediate d)) e) h)
wide_held insn held moved slot.Memory h e = cc
wide_held insn held moved slot.Target h e = cc

quad_any : (insn : Insn) (held moved : Option ℕ) (s : Slot) → is_quad (seen_at insn (values_by held moved) s) ≡ true → is_quad (seen_at insn (values_by (Some (2 ^ 63)) (Some 0)) s) ≡ true
quad_any insn held moved slot.Absent h = h
quad_any insn held moved (slot.Register r) h = h
quad_any insn held moved slot.Immediate h = h
quad_any insn held moved slot.Memory h = h
quad_any insn held moved slot.Target h = h

test_one : (insn : Insn) (moved : Option ℕ) → wide_test insn (values_by (Some 1) moved) ≡ false
test_one insn moved = not_wide (insn.name.0 == MOV) (insn.size == 64) (is_quad (seen_at insn (values_by (Some 1) moved) insn.first)) (is_wide (seen_at insn (values_by (Some 1) moved) insn.second))
    (wide_one insn moved insn.second)

test_none : (insn : Insn) (moved : Option ℕ) → wide_test insn (values_by None moved) ≡ false
test_none insn moved = not_wide (insn.name.0 == MOV) (insn.size == 64) (is_quad (seen_at insn (values_by None moved) insn.first)) (is_wide (seen_at insn (values_by None moved) insn.second))
    (wide_none insn moved insn.second)

-- WHAT HAS BYTES

-- by the name that is meant
own_code : (name : Mnemonic) (insn : Insn) (values : Values) → name.0 ≡ name_meant (view_of insn values) → HasCode (named name (view_of insn values)) → HasCode (meant (view_of insn values))
own_code name insn values e h = subst (λ (v : View). HasCode v) (meant_is name (view_of insn values) e) h

meant_code : (name : Mnemonic) (insn : Insn) (values : Values) → name.0 ≡ name_meant (view_of insn values) → HasCode (meant (view_of insn values)) → HasCode (named name (view_of insn values))
meant_code name insn values e h = subst (λ (v : View). HasCode v) (sym (meant_is name (view_of insn values) e)) h

plain_values : (insn : Insn) (held moved : Option ℕ) → wide_test insn (values_by held moved) ≡ false → HasCode (with_values insn held moved) → HasCode (with_values insn (Some 1) (Some 0))
plain_values insn held moved t h =
    let a = meant_code insn.name insn (values_by held moved) (name_own insn (values_by held moved) t) h in
    let b = any_value 1 insn.name insn held moved (λ r k e. takes_one r.immediate) (λ e. refl) a in
    let c = any_zero insn.name insn (Some 1) moved b in
    own_code insn.name insn (values_by (Some 1) (Some 0)) (name_own insn (values_by (Some 1) (Some 0)) (test_one insn (Some 0))) c

wide_values : (insn : Insn) (held moved : Option ℕ) → wide_test insn (values_by held moved) ≡ true → HasCode (with_values insn held moved) → HasCode (with_values insn (Some (2 ^ 63)) (Some 0))
wide_values insn held moved t h =
    let name : Mnemonic = record { 0 = MOVABS } in
    let p = and_parts _ _ t in
    let q = and_parts _ _ p.1 in
    let r = and_parts _ _ q.1 in
    let u : wide_test insn (values_by (Some (2 ^ 63)) (Some 0)) ≡ true =
    and_from _ _ p.0 (and_from _ _ q.0 (and_from _ _ (quad_any insn held moved insn.first r.0) (wide_full insn held moved insn.second r.1))) in
    let a = meant_code name insn (values_by held moved) (name_movabs insn (values_by held moved) t) h in
    let b = any_value (2 ^ 63) name insn held moved (λ s k e. takes_full s k e) (λ e. wide_held insn held moved insn.second r.1 e) a in
    let c = any_zero name insn (Some (2 ^ 63)) moved b in
    own_code name insn (values_by (Some (2 ^ 63)) (Some 0)) (name_movabs insn (values_by (Some (2 ^ 63)) (Some 0)) u) c

pub no_form : (insn : Insn) → HasNoCode (with_values insn (Some 1) (Some 0)) → HasNoCode (with_values insn (Some (2 ^ 63)) (Some 0)) → (held moved : Option ℕ) → HasNoCode (with_values insn held moved)
no_form insn one wide held moved bytes i c = elim (cases_Bool (wide_test insn (values_by held moved))) [
  | inl t ↦ (let h = wide_values insn held moved t (bytes, i, c) in wide h.0 h.1 h.2)
  | inr t ↦ (let h = plain_values insn held moved t (bytes, i, c) in one h.0 h.1 h.2)
]

pub none_unknown : (insn : Insn) → HasNoCode (with_values insn None (Some 0)) → (moved : Option ℕ) → HasNoCode (with_values insn None moved)
none_unknown insn none moved bytes i c =
    let a = meant_code insn.name insn (values_by None moved) (name_own insn (values_by None moved) (test_none insn moved)) (bytes, i, c) in
    let b = any_zero insn.name insn None moved a in
    let h = own_code insn.name insn (values_by None (Some 0)) (name_own insn (values_by None (Some 0)) (test_none insn (Some 0))) b in
    none h.0 h.1 h.2

pub form_by : (b : Bool) (insn : Insn) → Coded b (with_values insn (Some (2 ^ 63)) (Some 0)) → HasNoCode (with_values insn (Some 1) (Some 0)) → HasForm b insn
form_by true insn h none = (Some (2 ^ 63), Some 0, refl, h)
form_by false insn h none = no_form insn none h
