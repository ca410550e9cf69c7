-- The list of instructions that lead from one row to another, and what running them gives.
use Rattle.std.proofs.Common.{◌≡◌, ℕ, suc, ◌+◌, ◌<◌, ◌≤◌, ℤ, Bool, true, false, ◌==◌, length, List, [], ◌∷◌, ◌++◌, slice_set, slice_get, None, Some, if◌then◌else◌, refl, sym, ◌∙◌, ap, subst, arith, inl, inr, ◌⊎◌, append_assoc, length-append}
use Rattle.std.specs.Option.{option_and_then}
use Rattle.std.specs.Ordering.{int_eq}
use Rattle.cfi_rows.specs.declared.rows.CfaRow.{CfaRow}
use Rattle.cfi_rows.specs.declared.rows.CfiOp.{CfiOp}
use Rattle.cfi_rows.specs.declared.rows.Rule.{Rule}
use Rattle.cfi_rows.specs.declared.rows.Rule.TheVariants.{Unspecified, Undefined, SameValue, Offset, ValueOffset, Register}
use Rattle.cfi_rows.specs.Rows.{Rows, rows_of, changed, ruled, ops_after}
use Rattle.cfi_rows.specs.Differences.{cfa_change, same_rule, rule_op, rule_changes, differences, IsReached}
use Rattle.cfi_entries.proofs.Comparisons.{is_below}

-- a test of rules or numbers that holds
same_offset : (a b : ℤ) → int_eq a b ≡ true → a ≡ b
same_offset a b is = grind arith

same_is : (a b : Rule) → same_rule a b ≡ true → a ≡ b
same_is Unspecified Unspecified is = refl
same_is Undefined Undefined is = refl
same_is SameValue SameValue is = refl
same_is (Offset a) (Offset b) is = ap Offset (same_offset a b is)
same_is (ValueOffset a) (ValueOffset b) is = ap ValueOffset (same_offset a b is)
same_is (Register a) (Register b) is = ap Register (let same : a ≡ b = grind arith in same)
same_is _ _ is = absurd (let none : ⊥ = cc in none)

-- a rule is put behind as many as its number says
set_behind : (done rest : List Rule) (a b : Rule) → slice_set (done ++ a ∷ rest) (length done) b ≡ done ++ b ∷ rest
set_behind [] rest a b = refl
set_behind (rule ∷ done) rest a b = ap (λ rules. rule ∷ rules) (set_behind done rest a b)

abbrev with_rules : CfaRow → List Rule → CfaRow
with_rules row rules = record row { rules = rules }

-- registers from a number on that are unspecified are so already, or where the procedure begins
abbrev AreReached : CfaRow → ℕ → List Rule → List Rule → Type 0
AreReached initial n from to = (k : ℕ) → slice_get to k ≡ Some Unspecified
    → (slice_get from k ≡ Some Unspecified) ⊎ (slice_get initial.rules (n + k) ≡ Some Unspecified)

op_ruled : (initial : CfaRow) (n : ℕ) (rule : Rule) (rows : Rows) → (rule ≡ Unspecified → slice_get initial.rules n ≡ Some Unspecified)
    → changed initial (rule_op n rule) rows ≡ ruled rows n (Some rule)
op_ruled initial n Unspecified rows given = ap (ruled rows n) (given refl)
op_ruled initial n Undefined rows given = refl
op_ruled initial n SameValue rows given = refl
op_ruled initial n (Offset offset) rows given = refl
op_ruled initial n (ValueOffset offset) rows given = refl
op_ruled initial n (Register other) rows given = refl

ruled_there : (n : ℕ) (row : CfaRow) (saved : List CfaRow) (done from : List Rule) (a b : Rule) → n ≡ length done → n < 64
    → ruled (rows_of (with_rules row (done ++ a ∷ from)) saved) n (Some b) ≡ Some (rows_of (with_rules row (done ++ b ∷ from)) saved)
ruled_there n row saved done from a b is fits =
    ap (λ test. if test then Some (rows_of (with_rules row (slice_set (done ++ a ∷ from) n b)) saved) else None) (is_below n 64 fits)
    ∙ ap (λ n. Some (rows_of (with_rules row (slice_set (done ++ a ∷ from) n b)) saved)) is
    ∙ ap (λ rules. Some (rows_of (with_rules row rules) saved)) (set_behind done from a b)

one_more : (done from : List Rule) (b : Rule) → (done ++ b ∷ []) ++ from ≡ done ++ b ∷ from
one_more done from b = append_assoc done (b ∷ []) from

longer : (n : ℕ) (done : List Rule) (b : Rule) → n ≡ length done → n + 1 ≡ length (done ++ b ∷ [])
longer n done b is = simp length-append (omega arith)

next_reached : (initial : CfaRow) (n : ℕ) (a b : Rule) (from to : List Rule) → AreReached initial n (a ∷ from) (b ∷ to) → AreReached initial (n + 1) from to
next_reached initial n a b from to reached k blank =
    subst (λ at. (slice_get from k ≡ Some Unspecified) ⊎ (slice_get initial.rules at ≡ Some Unspecified))
    (let same : n + suc k ≡ n + 1 + k = omega arith in same) (reached (suc k) blank)

-- an unspecified rule that is put anew is that of the common entry
given_here : (initial : CfaRow) (n : ℕ) (a b : Rule) (from to : List Rule) → same_rule a b ≡ false → AreReached initial n (a ∷ from) (b ∷ to)
    → b ≡ Unspecified → slice_get initial.rules n ≡ Some Unspecified
given_here initial n a b from to other reached blank = given_by (reached 0 (ap Some blank))
  where
    given_by : (Some a ≡ Some Unspecified) ⊎ (slice_get initial.rules (n + 0) ≡ Some Unspecified) → slice_get initial.rules n ≡ Some Unspecified
    given_by (inl there) =
        absurd (let same : same_rule a b ≡ true = ap (λ a. same_rule a b) (let is : a ≡ Unspecified = cc in is) ∙ ap (same_rule Unspecified) blank in
        let none : ⊥ = cc in none)
    given_by (inr given) = subst (λ at. slice_get initial.rules at ≡ Some Unspecified) (let same : n + 0 ≡ n = omega arith in same) given

rules_led : (initial : CfaRow) (n : ℕ) (row : CfaRow) (saved : List CfaRow) (done from to : List Rule) → n ≡ length done → n + length from ≤ 64
    → length from ≡ length to → AreReached initial n from to
    → ops_after initial (rule_changes n from to) (rows_of (with_rules row (done ++ from)) saved) ≡ Some (rows_of (with_rules row (done ++ to)) saved)
rules_led initial n row saved done [] [] is fits same reached = refl
rules_led initial n row saved done [] (b ∷ to) is fits same reached = absurd (let none : ⊥ = omega arith in none)
rules_led initial n row saved done (a ∷ from) [] is fits same reached = absurd (let none : ⊥ = omega arith in none)
rules_led initial n row saved done (a ∷ from) (b ∷ to) is fits same reached =
    by (same_rule a b) refl
    (ap (λ rules. ops_after initial (rule_changes (n + 1) from to) (rows_of (with_rules row rules) saved)) (sym (one_more done from b))
    ∙ rules_led initial (n + 1) row saved (done ++ b ∷ []) from to (longer n done b is) (omega arith) (omega arith) (next_reached initial n a b from to reached)
    ∙ ap (λ rules. Some (rows_of (with_rules row rules) saved)) (one_more done to b))
  where
    by : (test : Bool) → same_rule a b ≡ test
        → ops_after initial (rule_changes (n + 1) from to) (rows_of (with_rules row (done ++ b ∷ from)) saved) ≡ Some (rows_of (with_rules row (done ++ b ∷ to)) saved)
        → ops_after initial ((if test then [] else rule_op n b ∷ []) ++ rule_changes (n + 1) from to) (rows_of (with_rules row (done ++ a ∷ from)) saved)
        ≡ Some (rows_of (with_rules row (done ++ b ∷ to)) saved)
    by true test below =
        ap (λ rule. ops_after initial (rule_changes (n + 1) from to) (rows_of (with_rules row (done ++ rule ∷ from)) saved)) (same_is a b test) ∙ below
    by false test below =
        ap (option_and_then (ops_after initial (rule_changes (n + 1) from to)))
        (op_ruled initial n b (rows_of (with_rules row (done ++ a ∷ from)) saved) (given_here initial n a b from to test reached)
        ∙ ruled_there n row saved done from a b is (omega arith))
        ∙ below

-- the CFA's instruction
cfa_led : (initial from to : CfaRow) (saved : List CfaRow) (ops : List CfiOp) (register offset : Bool)
    → (register ≡ true → from.register ≡ to.register) → (offset ≡ true → from.offset ≡ to.offset)
    → ops_after initial (cfa_change register offset to ++ ops) (rows_of from saved) ≡ ops_after initial ops (rows_of (with_rules to from.rules) saved)
cfa_led initial from to saved ops true true same_register same_offset =
    ap (λ register. ops_after initial ops (rows_of (record from { register = register }) saved)) (same_register refl)
    ∙ ap (λ offset. ops_after initial ops (rows_of (record from { register = to.register; offset = offset }) saved)) (same_offset refl)
cfa_led initial from to saved ops false true same_register same_offset =
    ap (λ offset. ops_after initial ops (rows_of (record from { register = to.register; offset = offset }) saved)) (same_offset refl)
cfa_led initial from to saved ops true false same_register same_offset =
    ap (λ register. ops_after initial ops (rows_of (record from { register = register; offset = to.offset }) saved)) (same_register refl)
cfa_led initial from to saved ops false false same_register same_offset = refl

same_number : (a b : ℕ) → (a == b) ≡ true → a ≡ b
same_number a b is = grind arith

-- running the instructions on the first row gives the second
pub differences_led : (initial from to : CfaRow) (saved : List CfaRow) → length from.rules ≡ 64 → length to.rules ≡ 64 → IsReached initial from to
    → ops_after initial (differences from to) (rows_of from saved) ≡ Some (rows_of to saved)
differences_led initial from to saved from_all to_all reached =
    cfa_led initial from to saved (rule_changes 0 from.rules to.rules) (from.register == to.register) (int_eq from.offset to.offset)
    (same_number from.register to.register) (same_offset from.offset to.offset)
    ∙ rules_led initial 0 to saved [] from.rules to.rules refl (omega arith) (omega arith)
    (λ k blank. subst (λ at. (slice_get from.rules k ≡ Some Unspecified) ⊎ (slice_get initial.rules at ≡ Some Unspecified))
    (let same : k ≡ 0 + k = omega arith in same) (reached k blank))
