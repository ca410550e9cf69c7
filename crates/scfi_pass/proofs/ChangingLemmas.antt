use Rattle.std.proofs.Common.{◌≡◌, ℕ, ℤ, ◌==◌, Bool, true, false, cond, if◌then◌else◌, Option, Some, None, List, [], ◌∷◌, ◌++◌, refl, sym, ap, ◌∙◌, arith}
use Rattle.std.proofs.lemmas.List.{append_assoc}
use Rattle.std.proofs.lemmas.Bool.Decides.{nat_tests}
use Rattle.std.proofs.lemmas.Cmp.{int_eq_equiv}
use Rattle.std.specs.Ordering.{int_eq}
use Rattle.cfi_rows.specs.declared.rows.CfiOp.{CfiOp}
use Rattle.cfi_rows.specs.Differences.{differences, same_rule, rule_op, cfa_change, cfa_change_of}
use Rattle.scfi_pass.specs.declared.rows.Cfa.{Cfa}
use Rattle.scfi_pass.specs.declared.rows.StackRow.{StackRow}
use Rattle.scfi_pass.specs.declared.item_ops.ItemOp.{ItemOp}
use Rattle.scfi_pass.specs.Registers.{dwarf_number}
use Rattle.scfi_pass.specs.Rows.{rule_of, whole_row, signed, offset_of}
use Rattle.cfi_rows.specs.Rows.{common_row}
use Rattle.scfi_pass.specs.Tables.{entry_row}
use Rattle.scfi_pass.specs.Changing.{cfa_op_by, cfa_op, slot_op, told_at, told}

-- what an option has
listed : Option CfiOp → List CfiOp
listed None = []
listed (Some op) = op ∷ []

-- what the difference of two rules is
one : ℕ → Option ℕ → Option ℕ → List CfiOp
one number x y = if same_rule (rule_of x) (rule_of y) then [] else rule_op number (rule_of y) ∷ []

-- the registers that may differ, one behind the other
abbrev opened_ops : StackRow → StackRow → List CfiOp
opened_ops a b = cfa_change_of (whole_row a) (whole_row b)
    ++ (one 3 a.rbx b.rbx ++ (one 6 a.rbp b.rbp ++ (one 12 a.r12 b.r12 ++ (one 13 a.r13 b.r13 ++ (one 14 a.r14 b.r14 ++ (one 15 a.r15 b.r15 ++ []))))))

-- the other rules are the same in all rows
opened : (a b : StackRow) → differences (whole_row a) (whole_row b) ≡ opened_ops a b
unfolding one
opened a b = refl

-- the difference of two rules is one instruction at most
one_listed : (number : ℕ) (x y : Option ℕ) → one number x y ≡ listed (slot_op number x y)
unfolding one listed
one_listed number None None = refl
one_listed number (Some m) None = refl
one_listed number None (Some n) = refl
one_listed number (Some m) (Some n) = by_test (int_eq (signed m) (signed n))
  where
    by_test : (b : Bool) → cond b [] (rule_op number (rule_of (Some n)) ∷ []) ≡ listed (cond b None (Some (rule_op number (rule_of (Some n)))))
    by_test true = refl
    by_test false = refl

-- so is that of two frame addresses
cfa_listed : (a b : StackRow) → cfa_change_of (whole_row a) (whole_row b) ≡ listed (cfa_op a.cfa b.cfa)
unfolding listed
cfa_listed a b = by_tests (dwarf_number a.cfa.register == dwarf_number b.cfa.register) (int_eq (offset_of a.cfa.distance) (offset_of b.cfa.distance))
  where
    by_tests : (x y : Bool) → cfa_change x y (whole_row b) ≡ listed (cfa_op_by x y (dwarf_number b.cfa.register) (offset_of b.cfa.distance))
    by_tests true true = refl
    by_tests true false = refl
    by_tests false true = refl
    by_tests false false = refl

-- lists of parts that are the same
joined : {A : Type 0} (a b c d : List A) → a ≡ b → c ≡ d → a ++ c ≡ b ++ d
joined a b c d h g = ap (λ x. x ++ c) h ∙ ap (λ x. b ++ x) g

-- the instructions of all registers, one behind the other
abbrev listed_ops : StackRow → StackRow → List CfiOp
listed_ops a b = listed (cfa_op a.cfa b.cfa)
    ++ (listed (slot_op 3 a.rbx b.rbx) ++ (listed (slot_op 6 a.rbp b.rbp) ++ (listed (slot_op 12 a.r12 b.r12)
    ++ (listed (slot_op 13 a.r13 b.r13) ++ (listed (slot_op 14 a.r14 b.r14) ++ (listed (slot_op 15 a.r15 b.r15) ++ []))))))

-- the difference of two rows is these
all_listed : (a b : StackRow) → differences (whole_row a) (whole_row b) ≡ listed_ops a b
all_listed a b = opened a b ∙ joined _ _ _ _ (cfa_listed a b)
    (joined _ _ _ _ (one_listed 3 a.rbx b.rbx) (joined _ _ _ _ (one_listed 6 a.rbp b.rbp) (joined _ _ _ _ (one_listed 12 a.r12 b.r12)
    (joined _ _ _ _ (one_listed 13 a.r13 b.r13) (joined _ _ _ _ (one_listed 14 a.r14 b.r14) (joined _ _ _ _ (one_listed 15 a.r15 b.r15) refl))))))

-- what is told of one instruction and others
told_more : (item : ℕ) (o : Option CfiOp) (rest : List CfiOp) (tail : List ItemOp) → told item rest ≡ tail → told item (listed o ++ rest) ≡ told_at item o ++ tail
unfolding listed
told_more item None rest tail e = e
told_more item (Some op) rest tail e = ap (λ x. record { item = item; op = op } ∷ x) e

-- what is told of the last one
told_last : (item : ℕ) (o : Option CfiOp) → told item (listed o ++ []) ≡ told_at item o
unfolding listed
told_last item None = refl
told_last item (Some op) = refl

-- what stands behind what was put
behind : (old new t s : List ItemOp) → new ≡ old ++ t → new ++ s ≡ old ++ (t ++ s)
behind old new t s e = ap (λ x. x ++ s) e ∙ append_assoc old t s

-- all instructions were put, one behind the other
pub led : (item : ℕ) (a b : StackRow) (old n1 n2 n3 n4 n5 n6 n7 : List ItemOp)
    → n1 ≡ old ++ told_at item (cfa_op a.cfa b.cfa) → n2 ≡ n1 ++ told_at item (slot_op 3 a.rbx b.rbx) → n3 ≡ n2 ++ told_at item (slot_op 6 a.rbp b.rbp)
    → n4 ≡ n3 ++ told_at item (slot_op 12 a.r12 b.r12) → n5 ≡ n4 ++ told_at item (slot_op 13 a.r13 b.r13) → n6 ≡ n5 ++ told_at item (slot_op 14 a.r14 b.r14)
    → n7 ≡ n6 ++ told_at item (slot_op 15 a.r15 b.r15) → n7 ≡ old ++ told item (differences (whole_row a) (whole_row b))
led item a b old n1 n2 n3 n4 n5 n6 n7 e1 e2 e3 e4 e5 e6 e7 =
    e7 ∙ behind n5 n6 t14 t15 e6 ∙ behind n4 n5 t13 s14 e5 ∙ behind n3 n4 t12 s13 e4 ∙ behind n2 n3 t6 s12 e3 ∙ behind n1 n2 t3 s6 e2 ∙ behind old n1 tc s3 e1
    ∙ ap (λ x. old ++ x) (sym (ap (told item) (all_listed a b)
    ∙ told_more item (cfa_op a.cfa b.cfa) _ _ (told_more item (slot_op 3 a.rbx b.rbx) _ _ (told_more item (slot_op 6 a.rbp b.rbp) _ _
    (told_more item (slot_op 12 a.r12 b.r12) _ _ (told_more item (slot_op 13 a.r13 b.r13) _ _ (told_more item (slot_op 14 a.r14 b.r14) _ _
    (told_last item (slot_op 15 a.r15 b.r15)))))))))
  where
    tc : List ItemOp
    tc = told_at item (cfa_op a.cfa b.cfa)

    t3 : List ItemOp
    t3 = told_at item (slot_op 3 a.rbx b.rbx)

    t6 : List ItemOp
    t6 = told_at item (slot_op 6 a.rbp b.rbp)

    t12 : List ItemOp
    t12 = told_at item (slot_op 12 a.r12 b.r12)

    t13 : List ItemOp
    t13 = told_at item (slot_op 13 a.r13 b.r13)

    t14 : List ItemOp
    t14 = told_at item (slot_op 14 a.r14 b.r14)

    t15 : List ItemOp
    t15 = told_at item (slot_op 15 a.r15 b.r15)

    s14 : List ItemOp
    s14 = t14 ++ t15

    s13 : List ItemOp
    s13 = t13 ++ s14

    s12 : List ItemOp
    s12 = t12 ++ s13

    s6 : List ItemOp
    s6 = t6 ++ s12

    s3 : List ItemOp
    s3 = t3 ++ s6

-- nothing is put
append_none : (xs : List ItemOp) → xs ++ [] ≡ xs
append_none [] = refl
append_none (x ∷ xs) = ap (λ y. x ∷ y) (append_none xs)

-- a number is itself
number_same : (n : ℕ) → (n == n) ≡ true
number_same n = grind (arith, nat_tests)

-- so is a signed one
int_eq_same : (z : ℤ) → int_eq z z ≡ true
int_eq_same z = int_eq_equiv.refl z

-- a rule is not changed to itself
slot_same : (number : ℕ) (x : Option ℕ) → slot_op number x x ≡ None
slot_same number None = refl
slot_same number (Some n) = by_test (int_eq (signed n) (signed n)) (int_eq_same (signed n))
  where
    by_test : (b : Bool) → b ≡ true → cond b None (Some (rule_op number (rule_of (Some n)))) ≡ None
    by_test true e = refl
    by_test false e = cc

-- nor is a frame address
cfa_same : (c : Cfa) → cfa_op c c ≡ None
cfa_same c = by_tests (dwarf_number c.register == dwarf_number c.register) (int_eq (offset_of c.distance) (offset_of c.distance)) (number_same (dwarf_number c.register)) (int_eq_same (offset_of c.distance))
  where
    by_tests : (x y : Bool) → x ≡ true → y ≡ true → cfa_op_by x y (dwarf_number c.register) (offset_of c.distance) ≡ None
    by_tests true true h g = refl
    by_tests false y h g = cc
    by_tests true false h g = cc

-- no instruction leads from a row to itself
pub none_led : (row : StackRow) → differences (whole_row row) (whole_row row) ≡ []
unfolding listed
none_led row = all_listed row row ∙ joined _ _ _ _ (ap listed (cfa_same row.cfa))
    (joined _ _ _ _ (ap listed (slot_same 3 row.rbx)) (joined _ _ _ _ (ap listed (slot_same 6 row.rbp)) (joined _ _ _ _ (ap listed (slot_same 12 row.r12))
    (joined _ _ _ _ (ap listed (slot_same 13 row.r13)) (joined _ _ _ _ (ap listed (slot_same 14 row.r14)) (joined _ _ _ _ (ap listed (slot_same 15 row.r15)) refl))))))

-- so nothing is put
pub none_told : (item : ℕ) (row : StackRow) (ops : List ItemOp) → ops ≡ ops ++ told item (differences (whole_row row) (whole_row row))
none_told item row ops = sym (ap (λ x. ops ++ told item x) (none_led row) ∙ append_none ops)

-- the row at entry is that of the common entry
pub common : whole_row entry_row ≡ common_row
common = refl
