-- The counted instances of numeric labels are symbols.
use Rattle.std.proofs.Common.{◌≡◌, ◌≢◌, ℕ, ◌+◌, ◌<◌, ◌≤◌, Bool, true, false, cond, ◌&&◌, ◌||◌, List, [], ◌∷◌, Option, None, Some, IsNone, nat_eq, unwrap_or, eq-eqb, refl, sym, ap, ◌∙◌, arith, true≢false}
use Rattle.std.specs.List.{list_any}
use Rattle.std.proofs.lemmas.Bool.{eqb-true}
use Rattle.std.proofs.lemmas.Bool.Decides.{nat_tests}
use Rattle.std.specs.Option.{option_map}
use Rattle.std.specs.Map.{lookup}
use Rattle.indexmap.specs.IndexMap.{insert_entry}
use Rattle.asm_expr.specs.declared.naming.Name.{Name}
use Rattle.asm_expr.specs.declared.naming.Name.TheVariants as naming
use Rattle.asm_expr.specs.Names.{same_name}
use Rattle.asm_symbols.specs.declared.entries.Symbol.{Symbol}
use Rattle.asm_symbols.specs.SymbolMap.{names, index_of}
use Rattle.asm_symbols.specs.Counting.{counted}
use Rattle.asm_symbols.specs.Sound.{means_label, is_label_of, AreCounted}

none_behind : (o : Option ℕ) → option_map (λ i. i + 1) o ≡ None → o ≡ None
none_behind None is = refl
none_behind (Some i) is = cc

step : (same label any : Bool) (o : Option ℕ) → (any ≡ true → o ≡ None → ⊥) → ((same && label) || any) ≡ true → cond same (Some 0) (option_map (λ i. i + 1) o) ≡ None → ⊥
step true label any o later is none = cc
step false label any o later is none = later is (none_behind o none)

-- a label stands among the names
pub label_stands : (name : Name) (symbols : List Symbol) → list_any (is_label_of name) symbols ≡ true → index_of name (names symbols) ≡ None → ⊥
label_stands name [] is none = cc
label_stands name (symbol ∷ symbols) is none =
    step (same_name name symbol.name) (means_label symbol.meaning) (list_any (is_label_of name) symbols) (index_of name (names symbols)) (label_stands name symbols) is none

-- the last instance is found exactly where some instance is counted
pub none_exactly : (found : Option ℕ) (symbols : List Symbol) (counts : List (ℕ × ℕ)) (number instance : ℕ) → AreCounted symbols counts → instance ≡ counted counts number → instance ≢ 0
    → found ≡ index_of (naming.Numeric number instance) (names symbols)
    → (IsNone found → counted counts number ≡ 0) × (counted counts number ≡ 0 → IsNone found)
none_exactly None symbols counts number instance sound count some is =
    absurd (label_stands (naming.Numeric number instance) symbols (sound.labels number instance (omega arith) (omega arith)) (sym is))
none_exactly (Some at) symbols counts number instance sound count some is = (λ none. cc, λ zero. absurd (some (count ∙ zero)))

twice : {X : Type 0} (b : Bool) (x y z : X) → cond b x y ≡ cond b x (cond b z y)
twice true x y z = refl
twice false x y z = refl

swapped : {X : Type 0} (a b : Bool) (x y z : X) → (a ≡ true → b ≡ true → ⊥) → cond a x (cond b y z) ≡ cond b y (cond a x z)
swapped true true x y z apart = absurd (apart refl refl)
swapped true false x y z apart = refl
swapped false b x y z apart = refl

module _ {K V : Type 0} (eq : K → K → Bool) (same : (a b : K) → eq a b ≡ true → a ≡ b) (own : (a : K) → eq a a ≡ true) where
  inserted_first : (e : K × V) (es : List (K × V)) (k q : K) (v : V) (b : Bool) → eq k e.0 ≡ b
      → lookup (eq q) (insert_entry eq es k v) ≡ cond (eq q k) (Some v) (lookup (eq q) es)
      → lookup (eq q) (cond b ((e.0, v) ∷ es) (e ∷ insert_entry eq es k v)) ≡ cond (eq q k) (Some v) (cond (eq q e.0) (Some e.1) (lookup (eq q) es))
  inserted_first e es k q v true is later = rw (same k e.0 is) (twice (eq q e.0) (Some v) (lookup (eq q) es) (Some e.1))
  inserted_first e es k q v false is later =
      ap (λ o. cond (eq q e.0) (Some e.1) o) later
      ∙ swapped (eq q e.0) (eq q k) (Some e.1) (Some v) (lookup (eq q) es) (λ (one : eq q e.0 ≡ true) (other : eq q k ≡ true). true≢false (sym (own e.0) ∙ ap (λ x. eq x e.0) (sym (same q e.0 one) ∙ same q k other) ∙ is))

  -- what is put is found under its key, and all else as before
  pub lookup-insert : (es : List (K × V)) (k q : K) (v : V) → lookup (eq q) (insert_entry eq es k v) ≡ cond (eq q k) (Some v) (lookup (eq q) es)
  lookup-insert [] k q v = refl
  lookup-insert (e ∷ es) k q v = inserted_first e es k q v (eq k e.0) refl (lookup-insert es k q v)

-- the count of a numeric label that is raised, and of all others
counted-insert : (counts : List (ℕ × ℕ)) (number count other : ℕ) → counted (insert_entry nat_eq counts number count) other ≡ cond (nat_eq other number) count (counted counts other)
counted-insert counts number count other =
    ap (λ o. unwrap_or o 0) (lookup-insert nat_eq (λ a b is. eqb-true a b is) (λ a. eq-eqb a a refl) counts number other count)
    ∙ by (nat_eq other number) (lookup (nat_eq other) counts)
  where
    by : (b : Bool) (o : Option ℕ) → unwrap_or (cond b (Some count) o) 0 ≡ cond b count (unwrap_or o 0)
    by true o = refl
    by false o = refl

module _ (symbols : List Symbol) (counts : List (ℕ × ℕ)) (number instance : ℕ) (sound : AreCounted symbols counts) (next : instance ≡ counted counts number + 1)
    (new : list_any (is_label_of (naming.Numeric number instance)) symbols ≡ true) where
  last_by : (k : ℕ) (b : Bool) → nat_eq k instance ≡ b → 0 < k → k ≤ instance → list_any (is_label_of (naming.Numeric number k)) symbols ≡ true
  last_by k true is some within = rw (eqb-true k instance is) new
  last_by k false is some within = sound.labels number k some (omega (arith, apart k instance is))
    where
      apart : (a b : ℕ) → nat_eq a b ≡ false → a ≢ b
      apart a b is = grind (arith, nat_tests)

  raised_by : (other k : ℕ) (b : Bool) → nat_eq other number ≡ b → 0 < k → k ≤ cond b instance (counted counts other) → list_any (is_label_of (naming.Numeric other k)) symbols ≡ true
  raised_by other k true is some within = rw (eqb-true other number is) (last_by k (nat_eq k instance) refl some within)
  raised_by other k false is some within = sound.labels other k some within

  -- one instance more is counted
  pub AreCounted-raised : AreCounted symbols (insert_entry nat_eq counts number instance)
  AreCounted-raised = record {
    labels = λ other k some within. raised_by other k (nat_eq other number) refl some (rw (counted-insert counts number instance other) at within);
  }
