-- The size that is found is the one that the instruction has.
use Rattle.std.proofs.Common.{◌≡◌, ℕ, ◌==◌, ◌||◌, List, [], ◌∷◌, Bool, true, false, not, cond, Option, Some, None, Result, Ok, Err, slice_get, refl, zero, suc, sym, ap, ◌∙◌, inl, inr, subst}
use Rattle.std.proofs.lemmas.Bool.{and_parts, and_from, and_cases, both_ways, eqb-true, eq-eqb, cases_Bool}
use Rattle.std.specs.List.{find, list_all}
use Rattle.x86_table.specs.declared.forms.Row.{Row}
use Rattle.x86_table.specs.Rows.{the_rows}
use Rattle.att_operands.specs.declared.faults.OperandCause.{OperandCause}
use Rattle.att_operands.specs.declared.faults.OperandCause.TheVariants.{UnknownOperandSize}
use Rattle.att_insns.specs.InsnTexts.{InsnText}
use Rattle.x86_lookup.specs.Forms.{is_form}
use Rattle.att_insns.specs.Sizes.{agrees, size_by, size_left, of_size, sized}
use Rattle.att_insns.specs.Spells.{HaveSize, HasSize, fixed, left, formless, with_size}

pub some_is : {A : Type 0} {m n : A} → Some m ≡ Some n → m ≡ n
some_is h = cc

-- what is found is one of them and passes
pub record One (p : Row → Bool) (xs : List Row) (r : Row) : Type 0 where
  pub at : ℕ
  pub stands : slice_get xs at ≡ Some r
  pub passes : p r ≡ true

pub found_one : (p : Row → Bool) (xs : List Row) (r : Row) → find p xs ≡ Some r → One p xs r
found_one p [] r h = cc
found_one p (x ∷ xs) r h = elim (cases_Bool (p x)) [
  | inl t ↦
      let same : x ≡ r = some_is (rw t at h) in
      record { at = 0; stands = ap Some same; passes = subst (λ (y : Row). p y ≡ true) same t }
  | inr f ↦
      let rest = found_one p xs r (rw f at h) in
      record { at = suc rest.at; stands = rest.stands; passes = rest.passes }
]

-- where nothing is found, none passes
pub none_passes : (p : Row → Bool) (xs : List Row) (j : ℕ) (r : Row) → find p xs ≡ None → slice_get xs j ≡ Some r → p r ≡ false
none_passes p [] j r h e = cc
none_passes p (x ∷ xs) zero r h e = elim (cases_Bool (p x)) [
  | inl t ↦ (let bad : Some x ≡ None = rw t at h in cc)
  | inr f ↦ subst (λ (y : Row). p y ≡ false) (some_is e) f
]
none_passes p (x ∷ xs) (suc j) r h e = elim (cases_Bool (p x)) [
  | inl t ↦ (let bad : Some x ≡ None = rw t at h in cc)
  | inr f ↦ none_passes p xs j r (rw f at h) e
]

-- where none passes, nothing is found
pub none_found : (p : Row → Bool) (xs : List Row) → ((j : ℕ) (r : Row) → slice_get xs j ≡ Some r → p r ≡ false) → find p xs ≡ None
none_found p [] h = refl
none_found p (x ∷ xs) h = let f = h 0 x refl in rw f (none_found p xs (λ j r e. h (suc j) r e))

pub all_passes : (q : Row → Bool) (xs : List Row) (j : ℕ) (r : Row) → list_all q xs ≡ true → slice_get xs j ≡ Some r → q r ≡ true
all_passes q [] j r h e = cc
all_passes q (x ∷ xs) zero r h e = subst (λ (y : Row). q y ≡ true) (some_is e) (and_parts (q x) (list_all q xs) h).0
all_passes q (x ∷ xs) (suc j) r h e = all_passes q xs j r (and_parts (q x) (list_all q xs) h).1 e

all_from : (q : Row → Bool) (xs : List Row) → ((j : ℕ) (r : Row) → slice_get xs j ≡ Some r → q r ≡ true) → list_all q xs ≡ true
all_from q [] h = refl
all_from q (x ∷ xs) h = and_from (q x) (list_all q xs) (h 0 x refl) (all_from q xs (λ j r e. h (suc j) r e))

-- where not all pass, one does not
pub record Missing (q : Row → Bool) (xs : List Row) : Type 0 where
  pub at : ℕ
  pub row : Row
  pub stands : slice_get xs at ≡ Some row
  pub fails : q row ≡ false

pub one_fails : (q : Row → Bool) (xs : List Row) → list_all q xs ≡ false → Missing q xs
one_fails q [] h = cc
one_fails q (x ∷ xs) h = elim (and_cases (q x) (list_all q xs) h) [
  | inl f ↦ record { at = 0; row = x; stands = refl; fails = f }
  | inr g ↦ let rest = one_fails q xs g in record { at = suc rest.at; row = rest.row; stands = rest.stands; fails = rest.fails }
]

-- the row is a form of the instruction
abbrev pub form_of : InsnText → Row → Bool
form_of insn r = is_form insn.name.0 insn.first insn.second insn.third r

-- all forms agree with the size that they have
agree : (insn : InsnText) (size : ℕ) → HaveSize insn size → list_all (agrees insn.name.0 insn.first insn.second insn.third size) the_rows ≡ true
agree insn size have = all_from (agrees insn.name.0 insn.first insn.second insn.third size) the_rows (λ j r e.
    elim (cases_Bool (form_of insn r)) [
      | inl t ↦ (let same : (r.size == size) ≡ true = eq-eqb r.size size (have j r e t) in rw (t, same) refl)
      | inr f ↦ rw f refl
    ])

pub left_by : (insn : InsnText) (i : ℕ) (r : Row) (found : Option Row) → slice_get the_rows i ≡ Some r → form_of insn r ≡ true → HaveSize insn r.size
    → find (form_of insn) the_rows ≡ found → size_by insn.name.0 insn.first insn.second insn.third found ≡ Ok r.size
left_by insn i r None e t have is = absurd (both_ways (form_of insn r) (none_passes (form_of insn) the_rows i r is e) t)
left_by insn i r (Some s) e t have is =
    let one = found_one (form_of insn) the_rows s is in
    let same : s.size ≡ r.size = have one.at s one.stands one.passes in
    let all = agree insn s.size (λ j q at form. have j q at form ∙ sym same) in
    rw all (ap Ok same)

-- an instruction that has the size gets it
pub size_reads : (insn : InsnText) (size : ℕ) → HasSize insn size → sized insn ≡ Ok (with_size insn size)
unfolding size_left
size_reads _ _ (fixed insn given) = rw given refl
size_reads _ _ (left insn i r open_size stands form have) =
    let found = left_by insn i r (find (form_of insn) the_rows) stands form have refl in
    rw (open_size, found) refl
size_reads _ _ (formless insn open_size none) =
    let found : find (form_of insn) the_rows ≡ None = none_found (form_of insn) the_rows none in
    rw (open_size, found) refl

-- the size that an instruction got
pub record Sized (insn made : InsnText) : Type 0 where
  pub size : ℕ
  pub has : HasSize insn size
  pub is : made ≡ with_size insn size

ok_is : {A : Type 0} (one other : A) → (let given : Result A OperandCause = Ok one in given ≡ Ok other) → one ≡ other
ok_is one other h = cc

have_by : (insn : InsnText) (size : ℕ) → list_all (agrees insn.name.0 insn.first insn.second insn.third size) the_rows ≡ true → HaveSize insn size
have_by insn size all i r e t =
    let holds : (not (form_of insn r) || (r.size == size)) ≡ true = all_passes (agrees insn.name.0 insn.first insn.second insn.third size) the_rows i r all e in
    eqb-true r.size size (rw t at holds)

sized_some : (insn made : InsnText) (r : Row) (b : Bool) → (insn.size == 0) ≡ true → find (form_of insn) the_rows ≡ Some r
    → list_all (agrees insn.name.0 insn.first insn.second insn.third r.size) the_rows ≡ b → of_size insn (cond b (Ok r.size) (Err UnknownOperandSize)) ≡ Ok made → Sized insn made
sized_some insn made r true open_size is all given =
    let one = found_one (form_of insn) the_rows r is in
    record { size = r.size; has = left insn one.at r open_size one.stands one.passes (have_by insn r.size all); is = sym (ok_is (with_size insn r.size) made given) }
sized_some insn made r false open_size is all given = cc

sized_left : (insn made : InsnText) (found : Option Row) → (insn.size == 0) ≡ true → find (form_of insn) the_rows ≡ found
    → of_size insn (size_by insn.name.0 insn.first insn.second insn.third found) ≡ Ok made → Sized insn made
sized_left insn made None open_size is given =
    record { size = 0; has = formless insn open_size (λ i r e. none_passes (form_of insn) the_rows i r is e); is = sym (ok_is (with_size insn 0) made given) }
sized_left insn made (Some r) open_size is given = sized_some insn made r (list_all (agrees insn.name.0 insn.first insn.second insn.third r.size) the_rows) open_size is refl given

sized_by : (insn made : InsnText) (b : Bool) → (insn.size == 0) ≡ b → cond b (of_size insn (size_left insn.name.0 insn.first insn.second insn.third)) (Ok insn) ≡ Ok made → Sized insn made
unfolding size_left
sized_by insn made true open_size given = sized_left insn made (find (form_of insn) the_rows) open_size refl given
sized_by insn made false open_size given = record { size = insn.size; has = fixed insn open_size; is = sym (ok_is insn made given) }

-- an instruction that got a size has it
pub size_has : (insn made : InsnText) → sized insn ≡ Ok made → Sized insn made
size_has insn made given = sized_by insn made (insn.size == 0) refl given
