-- Where names stand in a list.
use Rattle.std.proofs.Common.{◌≡◌, ℕ, zero, suc, ◌+◌, ◌<◌, Bool, true, false, cond, List, [], ◌∷◌, ◌++◌, length, Option, None, Some, refl, sym, ap, ◌∙◌, arith, slice_get}
use Rattle.std.specs.Option.{option_map}
use Rattle.std.proofs.lemmas.Option.{slice_get_within}
use Rattle.std.proofs.lemmas.List.{length-map}
use Rattle.asm_expr.specs.declared.naming.Name.{Name}
use Rattle.asm_expr.specs.Names.{same_name}
use Rattle.asm_symbols.specs.declared.entries.Symbol.{Symbol}
use Rattle.asm_symbols.specs.SymbolMap.{names, index_of}
use Rattle.asm_symbols.proofs.SameNames.{same_from_test, own_name}

none_behind : (o : Option ℕ) → option_map (λ i. i + 1) o ≡ None → o ≡ None
none_behind None is = refl
none_behind (Some i) is = cc

-- a name that is new stands last
first_new : (b : Bool) (name : Name) (ns : List Name) → (index_of name ns ≡ None → index_of name (ns ++ name ∷ []) ≡ Some (length ns))
    → cond b (Some 0) (option_map (λ i. i + 1) (index_of name ns)) ≡ None
    → cond b (Some 0) (option_map (λ i. i + 1) (index_of name (ns ++ name ∷ []))) ≡ Some (suc (length ns))
first_new true name ns later none = cc
first_new false name ns later none = ap (option_map (λ i. i + 1)) (later (none_behind (index_of name ns) none)) ∙ ap Some (omega arith)

pub index_of-last : (name : Name) (ns : List Name) → index_of name ns ≡ None → index_of name (ns ++ name ∷ []) ≡ Some (length ns)
index_of-last name [] none = rw (own_name name)
index_of-last name (first ∷ ns) none = first_new (same_name name first) name ns (index_of-last name ns) none

-- another name that stands last moves none
pub index_of-other : (name other : Name) (ns : List Name) → same_name other name ≡ false → index_of other (ns ++ name ∷ []) ≡ index_of other ns
index_of-other name other [] apart = rw apart
index_of-other name other (first ∷ ns) apart = ap (λ o. cond (same_name other first) (Some 0) (option_map (λ i. i + 1) o)) (index_of-other name other ns apart)

-- a name that stands stays where it is
first_stays : (b : Bool) (name : Name) (ns more : List Name) (at : ℕ) → ((i : ℕ) → index_of name ns ≡ Some i → index_of name (ns ++ more) ≡ Some i)
    → cond b (Some 0) (option_map (λ i. i + 1) (index_of name ns)) ≡ Some at
    → cond b (Some 0) (option_map (λ i. i + 1) (index_of name (ns ++ more))) ≡ Some at
first_stays true name ns more at later is = is
first_stays false name ns more at later is = by (index_of name ns) refl is
  where
    by : (o : Option ℕ) → index_of name ns ≡ o → option_map (λ i. i + 1) o ≡ Some at → option_map (λ i. i + 1) (index_of name (ns ++ more)) ≡ Some at
    by None found is = cc
    by (Some i) found is = ap (option_map (λ i. i + 1)) (later i found) ∙ is

pub index_of-stays : (name : Name) (ns more : List Name) (at : ℕ) → index_of name ns ≡ Some at → index_of name (ns ++ more) ≡ Some at
index_of-stays name [] more at is = cc
index_of-stays name (first ∷ ns) more at is = first_stays (same_name name first) name ns more at (index_of-stays name ns more) is

-- the name stands where it is found
found_first : (b : Bool) (name first : Name) (ns : List Name) (at : ℕ) → same_name name first ≡ b → ((i : ℕ) → index_of name ns ≡ Some i → slice_get ns i ≡ Some name)
    → cond b (Some 0) (option_map (λ i. i + 1) (index_of name ns)) ≡ Some at → slice_get (first ∷ ns) at ≡ Some name
found_first true name first ns zero is later found = ap Some (sym (same_from_test name first is))
found_first true name first ns (suc at) is later found = let none : zero ≡ suc at = cc in absurd (omega arith)
found_first false name first ns at is later found = by (index_of name ns) refl found at refl
  where
    by : (o : Option ℕ) → index_of name ns ≡ o → option_map (λ i. i + 1) o ≡ Some at → (n : ℕ) → at ≡ n → slice_get (first ∷ ns) n ≡ Some name
    by None there found n is = cc
    by (Some i) there found zero is = let none : i + 1 ≡ zero = cc in absurd (omega arith)
    by (Some i) there found (suc n) is = let one : i + 1 ≡ suc n = cc in let back : n ≡ i = omega arith in rw back (later i there)

pub slice_get-index_of : (name : Name) (ns : List Name) (at : ℕ) → index_of name ns ≡ Some at → slice_get ns at ≡ Some name
slice_get-index_of name [] at is = cc
slice_get-index_of name (first ∷ ns) at is = found_first (same_name name first) name first ns at refl (slice_get-index_of name ns) is

-- a name that is found stands within the symbols
pub index_of-within : (name : Name) (symbols : List Symbol) (at : ℕ) → index_of name (names symbols) ≡ Some at → at < length symbols
index_of-within name symbols at is =
    let inside : at < length (names symbols) = slice_get_within (names symbols) at name (slice_get-index_of name (names symbols) at is) in
    let long : length (names symbols) ≡ length symbols = simp length-map in
    omega arith
