-- A name that becomes a symbol's is found then, and each that was found stays so; symbols only come, and the numeric labels count as before.
use Rattle.std.proofs.Common.{◌≡◌, ℕ, suc, ◌+◌, ◌<◌, ◌≤◌, Bool, true, false, cond, List, [], ◌∷◌, ◌++◌, length, Option, None, Some, is_some, unwrap_or, refl, sym, ap, subst, ◌∙◌, arith, length-append, slice_get}
use Rattle.std.specs.Option.{option_map}
use Rattle.std.proofs.lemmas.List.{map-append}
use Rattle.asm_expr.specs.declared.naming.Name.{Name}
use Rattle.asm_expr.specs.declared.trees.Written.{Written}
use Rattle.asm_expr.specs.Names.{same_name}
use Rattle.asm_symbols.specs.declared.entries.Symbol.{Symbol}
use Rattle.asm_symbols.specs.Counting.{meant_name}
use Rattle.asm_symbols.specs.SymbolMap.{SymbolMap, names, index_of}
use Rattle.asm_symbols.specs.Interning.{undefined, with_name, interned, number_of}
use Rattle.asm_symbols.specs.Sound.{AreFound}

-- the names with one more
pub names-push : (symbols : List Symbol) (name : Name) → names (symbols ++ undefined name ∷ []) ≡ names symbols ++ name ∷ []
names-push symbols name = map-append (λ (symbol : Symbol). symbol.name) symbols (undefined name ∷ [])

-- a name that is found stands within the symbols
first_within : (b : Bool) (found : Option ℕ) (n at : ℕ) → ((i : ℕ) → found ≡ Some i → i < n) → cond b (Some 0) (option_map (λ i. i + 1) found) ≡ Some at → at < suc n
first_within true found n at within is = let zero : 0 ≡ at = cc in omega arith
first_within false None n at within is = cc
first_within false (Some i) n at within is = let low = within i refl in let next : i + 1 ≡ at = cc in omega arith

index_of-within : (name : Name) (symbols : List Symbol) (at : ℕ) → index_of name (names symbols) ≡ Some at → at < length symbols
index_of-within name [] at is = cc
index_of-within name (first ∷ symbols) at is =
    first_within (same_name name first.name) (index_of name (names symbols)) (length symbols) at (index_of-within name symbols) is

-- and stays where it is with more names behind it
first_stays : (b : Bool) (found later : Option ℕ) (at : ℕ) → ((i : ℕ) → found ≡ Some i → later ≡ Some i) → cond b (Some 0) (option_map (λ i. i + 1) found) ≡ Some at
    → cond b (Some 0) (option_map (λ i. i + 1) later) ≡ Some at
first_stays true found later at stays is = is
first_stays false None later at stays is = cc
first_stays false (Some i) later at stays is = ap (option_map (λ i. i + 1)) (stays i refl) ∙ is

index_of-stays : (name : Name) (ns more : List Name) (at : ℕ) → index_of name ns ≡ Some at → index_of name (ns ++ more) ≡ Some at
index_of-stays name [] more at is = cc
index_of-stays name (first ∷ ns) more at is = first_stays (same_name name first) (index_of name ns) (index_of name (ns ++ more)) at (index_of-stays name ns more) is

-- a new name stands last
last_there : (symbols : List Symbol) (name : Name) → slice_get (names (symbols ++ undefined name ∷ [])) (length symbols) ≡ Some name
last_there [] name = refl
last_there (first ∷ symbols) name = last_there symbols name

module _ (old : SymbolMap) (name : Name) where
  counts_by : (there : Bool) → (cond there old (with_name old name)).counts ≡ old.counts
  counts_by true = refl
  counts_by false = refl

  grows_by : (there : Bool) → length old.symbols ≤ length (cond there old (with_name old name)).symbols
  grows_by true = omega arith
  grows_by false = omega (arith, length-append old.symbols (undefined name ∷ []))

  within_by : (found : Option ℕ) → index_of name (names old.symbols) ≡ found
      → unwrap_or found (length old.symbols) < length (cond (is_some found) old (with_name old name)).symbols
  within_by None is = omega (arith, length-append old.symbols (undefined name ∷ []))
  within_by (Some at) is = index_of-within name old.symbols at is

  pub interned_counts : (new : SymbolMap) → new ≡ interned old name → new.counts ≡ old.counts
  unfolding interned
  interned_counts new is = ap (λ (map : SymbolMap). map.counts) is ∙ counts_by (is_some (index_of name (names old.symbols)))

  pub interned_grows : (new : SymbolMap) → new ≡ interned old name → length old.symbols ≤ length new.symbols
  unfolding interned
  interned_grows new is = subst (λ (map : SymbolMap). length old.symbols ≤ length map.symbols) (sym is) (grows_by (is_some (index_of name (names old.symbols))))

  pub interned_within : (new : SymbolMap) (id : ℕ) → new ≡ interned old name → id ≡ number_of old name → id < length new.symbols
  unfolding interned number_of
  interned_within new id is number =
      subst (λ (map : SymbolMap). id < length map.symbols) (sym is)
      (subst (λ n. n < length (interned old name).symbols) (sym number) (within_by (index_of name (names old.symbols)) refl))

  found_by : (found : Option ℕ) → index_of name (names old.symbols) ≡ found → AreFound (names (cond (is_some found) old (with_name old name)).symbols)
      → index_of name (names (cond (is_some found) old (with_name old name)).symbols) ≡ Some (unwrap_or found (length old.symbols))
  found_by None is all = all (length old.symbols) name (last_there old.symbols name)
  found_by (Some at) is all = is

  stays_by : (there : Bool) (other : Name) (at : ℕ) → index_of other (names old.symbols) ≡ Some at
      → index_of other (names (cond there old (with_name old name)).symbols) ≡ Some at
  stays_by true other at is = is
  stays_by false other at is = ap (index_of other) (names-push old.symbols name) ∙ index_of-stays other (names old.symbols) (name ∷ []) at is

  -- each name of the new map is found where it stands
  pub interned_found : (new : SymbolMap) (id : ℕ) → new ≡ interned old name → id ≡ number_of old name → AreFound (names new.symbols) → index_of name (names new.symbols) ≡ Some id
  unfolding interned number_of
  interned_found new id is number all =
      ap (λ (map : SymbolMap). index_of name (names map.symbols)) is
      ∙ (found_by (index_of name (names old.symbols)) refl (subst (λ (map : SymbolMap). AreFound (names map.symbols)) is all) ∙ ap Some (sym number))

  pub interned_stays : (other : Name) (at : ℕ) → index_of other (names old.symbols) ≡ Some at → index_of other (names (interned old name).symbols) ≡ Some at
  unfolding interned
  interned_stays other at is = stays_by (is_some (index_of name (names old.symbols))) other at is

-- the same of what a name means
pub meant_found : (old new : SymbolMap) (written : Written) (id : ℕ) → new ≡ interned old (meant_name old.counts written)
    → id ≡ number_of old (meant_name old.counts written) → AreFound (names new.symbols) → index_of (meant_name new.counts written) (names new.symbols) ≡ Some id
meant_found old new written id is number all =
    ap (λ counts. index_of (meant_name counts written) (names new.symbols)) (interned_counts old (meant_name old.counts written) new is)
    ∙ interned_found old (meant_name old.counts written) new id is number all
