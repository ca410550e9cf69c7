-- Which rows' differences can be written, and which rows are reached from where a procedure begins.
use Rattle.std.proofs.Common.{◌≡◌, ◌≢◌, ℕ, zero, suc, ◌+◌, ◌^◌, ◌<◌, ℤ, pos, negsuc, Bool, true, false, ◌==◌, nat_lt, length, List, [], ◌∷◌, replicate, slice_set, slice_get, Option, None, Some, IsSome, All, if◌then◌else◌, refl, sym, ◌∙◌, ap, subst, arith, inl, inr, ◌⊎◌}
use Rattle.std.specs.Option.{option_map}
use Rattle.std.specs.Ordering.{int_eq}
use Rattle.std.proofs.lemmas.Option.{slice_get_within}
use Rattle.std.proofs.lemmas.List.Elements.{All-nil, All-cons, All-append}
use Rattle.std.proofs.lemmas.Bool.{cases_eq}
use Rattle.cfi_rows.specs.declared.rows.CfaRow.{CfaRow}
use Rattle.cfi_rows.specs.declared.rows.CfiOp.{CfiOp}
use Rattle.cfi_rows.specs.declared.rows.CfiOp.TheVariants.{DefCfa, DefCfaRegister, DefCfaOffset}
use Rattle.cfi_rows.specs.declared.rows.Rule.{Rule}
use Rattle.cfi_rows.specs.declared.rows.Rule.TheVariants.{Unspecified, Undefined, SameValue, Offset, ValueOffset, Register}
use Rattle.cfi_rows.specs.Rows.{common_row}
use Rattle.cfi_entries.specs.Written.{slots, cfa_offset, written}
use Rattle.cfi_rows.specs.Differences.{cfa_change, same_rule, rule_op, rule_changes, differences, IsReached}
use Rattle.cfi_entries.specs.Written.{HaveForms}

-- at each register but one the rules stay
set_other : (i k : ℕ) (rules : List Rule) (rule : Rule) → k ≢ i → slice_get (slice_set rules i rule) k ≡ slice_get rules k
set_other i k [] rule other = refl
set_other zero zero (first ∷ rules) rule other = absurd (other refl)
set_other zero (suc k) (first ∷ rules) rule other = refl
set_other (suc i) zero (first ∷ rules) rule other = refl
set_other (suc i) (suc k) (first ∷ rules) rule other = set_other i k rules rule (λ same. other (ap suc same))

blank_at : (n k : ℕ) → k < n → slice_get (replicate n Unspecified) k ≡ Some Unspecified
blank_at zero k fits = absurd (let none : ⊥ = omega arith in none)
blank_at (suc n) zero fits = refl
blank_at (suc n) (suc k) fits = blank_at n k (omega arith)

common_blank : (number : ℕ) → number ≢ 16 → number < 64 → slice_get common_row.rules number ≡ Some Unspecified
common_blank number other fits =
    set_other 16 number (replicate 64 Unspecified) (Offset (negsuc 7)) other ∙ blank_at 64 number fits

-- rows that are alike at the return address are reached from where a procedure begins
pub alike_reached : (from to : CfaRow) → length to.rules ≡ 64 → slice_get from.rules 16 ≡ slice_get to.rules 16 → IsReached common_row from to
alike_reached from to all alike number blank = by (cases_eq number 16)
  where
    by : (number ≡ 16) ⊎ (number ≢ 16) → (slice_get from.rules number ≡ Some Unspecified) ⊎ (slice_get common_row.rules number ≡ Some Unspecified)
    by (inl here) = inl (ap (slice_get from.rules) here ∙ alike ∙ ap (slice_get to.rules) (sym here) ∙ blank)
    by (inr other) =
        let within : number < length to.rules = slice_get_within to.rules number Unspecified blank in
        inr (common_blank number other (omega arith))

-- a register's test
some_under : (b : Bool) (due : Option (List ℕ)) → IsSome (if b then due else None) → IsSome due
some_under true due some = some
some_under false due some = absurd (let none : ⊥ = cc in none)

some_beside : (b : Bool) (due other : Option (List ℕ)) → IsSome (if b then due else None) → IsSome other → IsSome (if b then other else None)
some_beside true due other some also = also
some_beside false due other some also = absurd (let none : ⊥ = cc in none)

some_mapped : (number : Option ℕ) (make other : ℕ → List ℕ) → IsSome (option_map make number) → IsSome (option_map other number)
some_mapped None make other some = absurd (let none : ⊥ = cc in none)
some_mapped (Some number) make other some = refl

some_plain : (b : Bool) (due other : List ℕ) → IsSome (if b then Some due else None) → IsSome (if b then Some other else None)
some_plain true due other some = refl
some_plain false due other some = some

-- an offset that can be written behind some bytes can be written behind others
some_offset : (plain factored also_plain also_factored : List ℕ) (offset : ℤ) → IsSome (cfa_offset plain factored offset)
    → IsSome (cfa_offset also_plain also_factored offset)
some_offset plain factored also_plain also_factored (pos offset) some = some_plain _ _ _ some
some_offset plain factored also_plain also_factored (negsuc distance) some = some_mapped (slots (2 ^ 63) (distance + 1)) _ _ some

abbrev CanBeWritten : CfiOp → Type 0
CanBeWritten op = IsSome (written op)

one_written : (op : CfiOp) → CanBeWritten op → All CanBeWritten (op ∷ [])
one_written op some = All-cons CanBeWritten op [] some (All-nil CanBeWritten)

cfa_written : (register offset : Bool) (to : CfaRow) → CanBeWritten (DefCfa to.register to.offset) → All CanBeWritten (cfa_change register offset to)
cfa_written true true to some = All-nil CanBeWritten
cfa_written false true to some =
    one_written (DefCfaRegister to.register) (some_beside (nat_lt to.register 64) _ (Some (0x0d ∷ to.register ∷ [])) some refl)
cfa_written true false to some =
    one_written (DefCfaOffset to.offset)
    (some_offset (0x0c ∷ to.register ∷ []) (0x12 ∷ to.register ∷ []) (0x0e ∷ []) (0x13 ∷ []) to.offset (some_under (nat_lt to.register 64) _ some))
cfa_written false false to some = one_written (DefCfa to.register to.offset) some

same_self : (rule : Rule) → same_rule rule rule ≡ true
same_self Unspecified = refl
same_self Undefined = refl
same_self SameValue = refl
same_self (Offset offset) = let same : int_eq offset offset ≡ true = grind arith in same
same_self (ValueOffset offset) = let same : int_eq offset offset ≡ true = grind arith in same
same_self (Register other) = let same : (other == other) ≡ true = grind arith in same

-- each rule stands already, or can be written
abbrev AreForms : ℕ → List Rule → List Rule → Type 0
AreForms n from to = (k : ℕ) (rule : Rule) → slice_get to k ≡ Some rule
    → (slice_get from k ≡ Some rule) ⊎ CanBeWritten (rule_op (n + k) rule)

next_forms : (n : ℕ) (a b : Rule) (from to : List Rule) → AreForms n (a ∷ from) (b ∷ to) → AreForms (n + 1) from to
next_forms n a b from to forms k rule is =
    subst (λ at. (slice_get from k ≡ Some rule) ⊎ CanBeWritten (rule_op at rule))
    (let same : n + suc k ≡ n + 1 + k = omega arith in same) (forms (suc k) rule is)

rule_written_here : (n : ℕ) (a b : Rule) (test : Bool) → same_rule a b ≡ test → (Some a ≡ Some b) ⊎ CanBeWritten (rule_op (n + 0) b)
    → All CanBeWritten (if test then [] else rule_op n b ∷ [])
rule_written_here n a b true is form = All-nil CanBeWritten
rule_written_here n a b false is (inl there) =
    absurd (let same : a ≡ b = cc in let alike : same_rule a b ≡ true = ap (λ a. same_rule a b) same ∙ same_self b in let none : ⊥ = cc in none)
rule_written_here n a b false is (inr some) =
    one_written (rule_op n b) (subst (λ at. CanBeWritten (rule_op at b)) (let same : n + 0 ≡ n = omega arith in same) some)

rules_written : (n : ℕ) (from to : List Rule) → AreForms n from to → All CanBeWritten (rule_changes n from to)
rules_written n [] to forms = All-nil CanBeWritten
rules_written n (a ∷ from) [] forms = All-nil CanBeWritten
rules_written n (a ∷ from) (b ∷ to) forms =
    All-append CanBeWritten (if same_rule a b then [] else rule_op n b ∷ []) (rule_changes (n + 1) from to)
    (rule_written_here n a b (same_rule a b) refl (forms 0 b refl)) (rules_written (n + 1) from to (next_forms n a b from to forms))

pub differences_written : (from to : CfaRow) → HaveForms from to → All CanBeWritten (differences from to)
differences_written from to (cfa, forms) =
    All-append CanBeWritten (cfa_change (from.register == to.register) (int_eq from.offset to.offset) to) (rule_changes 0 from.rules to.rules)
    (cfa_written (from.register == to.register) (int_eq from.offset to.offset) to cfa)
    (rules_written 0 from.rules to.rules (λ k rule is. subst (λ at. (slice_get from.rules k ≡ Some rule) ⊎ CanBeWritten (rule_op at rule))
    (let same : k ≡ 0 + k = omega arith in same) (forms k rule is)))
