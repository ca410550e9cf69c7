use Rattle.std.proofs.Common.{◌≡◌, ℕ, zero, suc, Bool, true, false, cond, List, [], ◌∷◌, slice_get, Option, Some, None, refl, sym, ap, subst, ◌∙◌}
use Rattle.std.specs.List.{find}
use Rattle.x86_insn.specs.declared.insns.Insn.{Insn}
use Rattle.x86_insn.specs.declared.insns.Slot.{Slot}
use Rattle.x86_insn.specs.declared.insns.Slot.TheVariants as slot
use Rattle.x86_insn.specs.declared.amounts.Values.{Values}
use Rattle.x86_insn.specs.Views.{seen_at, view_of}
use Rattle.x86_table.specs.declared.forms.Row.{Row}
use Rattle.x86_table.specs.Rows.{the_rows}
use Rattle.x86_lookup.specs.declared.writing.Writes.{Writes}
use Rattle.x86_lookup.specs.Writing.{admits, writes_by, IsWritten}
use Rattle.insn_effects.specs.Listed.{slot_of, Head, head_of, admits_head, row_writes, writes_if, writes_by_head, writes_of}

-- what a search finds passes, and what it leaves out does not
pub record Found (p : Row → Bool) (rows : List Row) (r : Row) : Type 0 where
  pub index : ℕ
  pub there : slice_get rows index ≡ Some r
  pub passes : p r ≡ true

pub found : (p : Row → Bool) (rows : List Row) (r : Row) → find p rows ≡ Some r → Found p rows r
found p [] r h = cc
found p (x ∷ rows) r h = by_test (p x) refl h (λ g. found p rows r g)
  where
    by_test : (b : Bool) → p x ≡ b → cond b (Some x) (find p rows) ≡ Some r → (find p rows ≡ Some r → Found p rows r) → Found p (x ∷ rows) r
    by_test true e g again = let same : x ≡ r = cc in record { index = zero; there = ap Some same; passes = subst (λ y. p y ≡ true) same e }
    by_test false e g again = let f = again g in record { index = suc f.index; there = f.there; passes = f.passes }

left_out : (p : Row → Bool) (rows : List Row) (i : ℕ) (r : Row) → find p rows ≡ None → slice_get rows i ≡ Some r → p r ≡ false
left_out p [] i r h g = cc
left_out p (x ∷ rows) i r h g = by_test (p x) refl i h g (λ k. left_out p rows k r)
  where
    by_test : (b : Bool) → p x ≡ b → (i : ℕ) → cond b (Some x) (find p rows) ≡ None → slice_get (x ∷ rows) i ≡ Some r → ((k : ℕ) → find p rows ≡ None → slice_get rows k ≡ Some r → p r ≡ false) → p r ≡ false
    by_test true e i h g again = cc
    by_test false e zero h g again = let same : x ≡ r = cc in subst (λ y. p y ≡ false) same e
    by_test false e (suc k) h g again = again k h g

pub same_slot : (insn : Insn) (values : Values) (s : Slot) → slot_of (seen_at insn values s) ≡ s
same_slot insn values slot.Absent = refl
same_slot insn values (slot.Register r) = refl
same_slot insn values slot.Immediate = refl
same_slot insn values slot.Memory = refl
same_slot insn values slot.Target = refl

same_admits : (insn : Insn) (values : Values) (r : Row) → admits_head r (head_of (view_of insn values)) ≡ admits r insn
unfolding admits admits_head
same_admits insn values r =
    let a = same_slot insn values insn.first in
    let b = same_slot insn values insn.second in
    let c = same_slot insn values insn.third in
    cc

same_row : (insn : Insn) (values : Values) (r : Row) → row_writes (head_of (view_of insn values)) r ≡ writes_by r insn
unfolding writes_by
same_row insn values r =
    let a = same_slot insn values insn.first in
    let b = same_slot insn values insn.second in
    cc

pub listed : (insn : Insn) (values : Values) (writes : Writes) → IsWritten insn writes → writes ≡ writes_of (view_of insn values)
unfolding writes_by_head
listed insn values writes is = by_found (find p the_rows) refl
  where
    h : Head
    h = head_of (view_of insn values)

    p : Row → Bool
    p = λ r. admits_head r (head_of (view_of insn values))

    by_found : (o : Option Row) → find p the_rows ≡ o → writes ≡ writes_if h (find p the_rows)
    by_found None e = is.by_none (λ i r g. sym (same_admits insn values r) ∙ left_out p the_rows i r e g) ∙ sym (ap (writes_if h) e)
    by_found (Some r) e =
        let f = found p the_rows r e in
        is.by_row f.index r f.there (sym (same_admits insn values r) ∙ f.passes) ∙ sym (same_row insn values r) ∙ sym (ap (writes_if h) e)
