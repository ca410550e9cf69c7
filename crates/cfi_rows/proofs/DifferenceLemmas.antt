-- The instructions for the rules of registers, one after the other.
use Rattle.std.proofs.Common.{◌≡◌, ℕ, zero, suc, ◌+◌, ◌<◌, ◌≤◌, true, false, length, List, [], ◌∷◌, ◌++◌, drop, slice_index_or, if◌then◌else◌, refl, ◌∙◌, ap, arith}
use Rattle.cfi_rows.specs.declared.rows.Rule.{Rule}
use Rattle.cfi_rows.specs.declared.rows.Rule.TheVariants.{Unspecified}
use Rattle.cfi_rows.specs.Differences.{same_rule, rule_op, rule_changes}

-- the rules from a register on
at_suc : (n : ℕ) (rules : List Rule) → n < length rules → drop n rules ≡ slice_index_or rules n Unspecified ∷ drop (suc n) rules
at_suc n [] fits = absurd (let none : ⊥ = omega arith in none)
at_suc zero (rule ∷ rules) fits = refl
at_suc (suc n) (rule ∷ rules) fits = at_suc n rules (omega arith)

at_head : (n : ℕ) (rules : List Rule) → n < length rules → drop n rules ≡ slice_index_or rules n Unspecified ∷ drop (n + 1) rules
at_head n rules fits =
    at_suc n rules fits ∙ ap (λ next. slice_index_or rules n Unspecified ∷ drop next rules) (let same : suc n ≡ n + 1 = omega arith in same)

heads : (n : ℕ) (a b : List Rule) → n < length a → n < length b
    → rule_changes n (drop n a) (drop n b)
    ≡ (if same_rule (slice_index_or a n Unspecified) (slice_index_or b n Unspecified) then [] else rule_op n (slice_index_or b n Unspecified) ∷ [])
    ++ rule_changes (n + 1) (drop (n + 1) a) (drop (n + 1) b)
heads n a b in_a in_b =
    ap (λ from. rule_changes n from (drop n b)) (at_head n a in_a)
    ∙ ap (rule_changes n (slice_index_or a n Unspecified ∷ drop (n + 1) a)) (at_head n b in_b)

pub one_kept : (n : ℕ) (a b : List Rule) → n < length a → n < length b
    → same_rule (slice_index_or a n Unspecified) (slice_index_or b n Unspecified) ≡ true
    → rule_changes n (drop n a) (drop n b) ≡ rule_changes (n + 1) (drop (n + 1) a) (drop (n + 1) b)
one_kept n a b in_a in_b same =
    heads n a b in_a in_b
    ∙ ap (λ same. (if same then [] else rule_op n (slice_index_or b n Unspecified) ∷ []) ++ rule_changes (n + 1) (drop (n + 1) a) (drop (n + 1) b)) same

pub one_changed : (n : ℕ) (a b : List Rule) → n < length a → n < length b
    → same_rule (slice_index_or a n Unspecified) (slice_index_or b n Unspecified) ≡ false
    → rule_changes n (drop n a) (drop n b) ≡ rule_op n (slice_index_or b n Unspecified) ∷ rule_changes (n + 1) (drop (n + 1) a) (drop (n + 1) b)
one_changed n a b in_a in_b other =
    heads n a b in_a in_b
    ∙ ap (λ same. (if same then [] else rule_op n (slice_index_or b n Unspecified) ∷ []) ++ rule_changes (n + 1) (drop (n + 1) a) (drop (n + 1) b)) other

pub none_left : (n : ℕ) (a b : List Rule) → length a ≤ n → rule_changes n (drop n a) (drop n b) ≡ []
none_left n a b all = ap (λ from. rule_changes n from (drop n b)) (all_dropped n a all)
  where
    all_dropped : (n : ℕ) (rules : List Rule) → length rules ≤ n → drop n rules ≡ []
    all_dropped zero [] all = refl
    all_dropped (suc n) [] all = refl
    all_dropped zero (rule ∷ rules) all = absurd (let none : ⊥ = omega arith in none)
    all_dropped (suc n) (rule ∷ rules) all = all_dropped n rules (omega arith)
