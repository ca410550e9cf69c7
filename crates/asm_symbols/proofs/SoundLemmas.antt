-- The fields of a symbol map stay sound where a name more comes.
use Rattle.std.proofs.Common.{◌≡◌, ℕ, ◌+◌, ◌^◌, ◌<◌, ◌⊎◌, inl, inr, ◌||◌, List, [], ◌∷◌, ◌++◌, length, None, Some, ap, ◌∙◌, arith, slice_get, length-append}
use Rattle.std.specs.List.{list_any, sum_by}
use Rattle.std.proofs.lemmas.List.Folds.{list_any-append}
use Rattle.std.proofs.lemmas.List.Sums.{sum_by-append}
use Rattle.std.proofs.lemmas.List.{length-map, map-append}
use Rattle.std.proofs.lemmas.Option.{slice_get_within}
use Rattle.asm_expr.specs.declared.naming.Name.{Name}
use Rattle.asm_expr.specs.declared.naming.Name.TheVariants as naming
use Rattle.asm_symbols.specs.declared.entries.Symbol.{Symbol}
use Rattle.asm_symbols.specs.SymbolMap.{names, index_of}
use Rattle.asm_symbols.specs.Interning.{name_size, undefined}
use Rattle.asm_symbols.specs.NameChains.{HasHash, IsHashedAt, AreHashed}
use Rattle.asm_symbols.specs.Sound.{IsIndexed, AreNumbered, is_label_of, AreCounted, IsSound}
use Rattle.asm_symbols.proofs.ChainLemmas.{one_of_more, slice_get-before, slice_get-last}
use Rattle.asm_symbols.proofs.ForwardLemmas.{forward_push}
use Rattle.asm_symbols.proofs.IndexLemmas.{index_of-last, index_of-stays}

module _ (hashes : List ℕ) (ns : List Name) (name : Name) (hash : ℕ) (own : HasHash name hash) (sound : IsIndexed hashes ns) (new : index_of name ns ≡ None) where
  apart_by : (at : ℕ) (other : Name) → (slice_get ns at ≡ Some other) ⊎ ((at ≡ length ns) × (other ≡ name)) → index_of other (ns ++ name ∷ []) ≡ Some at
  apart_by at other (inl there) = index_of-stays other ns (name ∷ []) at (sound.apart at other there)
  apart_by at other (inr last) = rw (last.0, last.1) (index_of-last name ns new)

  hashed_by : (at : ℕ) (other : Name) → (slice_get ns at ≡ Some other) ⊎ ((at ≡ length ns) × (other ≡ name)) → IsHashedAt (hashes ++ hash ∷ []) at other
  hashed_by at other (inl there) =
      let held = sound.hashed.each at other there in
      let inside = slice_get_within hashes at held.hash held.there in
      record { hash = held.hash; there = slice_get-before hashes (hash ∷ []) at inside ∙ held.there; own = held.own }
  hashed_by at other (inr last) = record {
    hash = hash;
    there = rw (last.0, ← sound.hashed.long) (slice_get-last hashes hash);
    own = rw (← last.1) at own;
  }

  hashed_more : AreHashed (hashes ++ hash ∷ []) (ns ++ name ∷ [])
  hashed_more =
      let one = length-append hashes (hash ∷ []) in
      let other = length-append ns (name ∷ []) in
      let long = sound.hashed.long in
      record { long = omega arith; each = λ at other there. hashed_by at other (one_of_more ns name other at there) }

  pub IsIndexed-push : IsIndexed (hashes ++ hash ∷ []) (ns ++ name ∷ [])
  IsIndexed-push = record {
    hashed = hashed_more;
    apart = λ at other there. apart_by at other (one_of_more ns name other at there);
  }

sum_by-one : {X : Type 0} (f : X → ℕ) (xs : List X) (x : X) → sum_by f (xs ++ x ∷ []) ≡ sum_by f xs + f x
sum_by-one f xs x = sum_by-append f xs (x ∷ []) ∙ omega arith

length-one : {X : Type 0} (xs : List X) (x : X) → length (xs ++ x ∷ []) ≡ length xs + 1
length-one xs x = length-append xs (x ∷ [])

pub AreNumbered-name : (ns files : List Name) (bytes : ℕ) (name : Name) → AreNumbered ns files bytes → length ns + 1 < 2 ^ 32 → AreNumbered (ns ++ name ∷ []) files (bytes + name_size name)
AreNumbered-name ns files bytes name within few =
    let total : bytes ≡ sum_by name_size ns + sum_by name_size files = within.total in
    let sum : sum_by name_size (ns ++ name ∷ []) ≡ sum_by name_size ns + name_size name = sum_by-one name_size ns name in
    let long : length (ns ++ name ∷ []) ≡ length ns + 1 = length-one ns name in
    record { total = omega arith; few = omega arith; few_files = within.few_files }

pub AreCounted-push : (symbols : List Symbol) (counts : List (ℕ × ℕ)) (symbol : Symbol) → AreCounted symbols counts → AreCounted (symbols ++ symbol ∷ []) counts
AreCounted-push symbols counts symbol sound = record {
  labels = λ number instance some within. list_any-append (is_label_of (naming.Numeric number instance)) symbols (symbol ∷ []) ∙ ap (λ b. b || list_any (is_label_of (naming.Numeric number instance)) (symbol ∷ [])) (sound.labels number instance some within);
}

-- the names with one more
names-push : (symbols : List Symbol) (name : Name) → names (symbols ++ undefined name ∷ []) ≡ names symbols ++ name ∷ []
names-push symbols name = map-append (λ (symbol : Symbol). symbol.name) symbols (undefined name ∷ [])

-- a symbol more
pub IsSound-name : (hashes : List ℕ) (symbols : List Symbol) (files : List Name) (counts : List (ℕ × ℕ)) (bytes : ℕ) (name : Name) (hash : ℕ) → HasHash name hash
    → IsSound hashes symbols files counts bytes → index_of name (names symbols) ≡ None → length symbols + 1 < 2 ^ 32
    → IsSound (hashes ++ hash ∷ []) (symbols ++ undefined name ∷ []) files counts (bytes + name_size name)
IsSound-name hashes symbols files counts bytes name hash own sound new few =
    let long : length (names symbols) ≡ length symbols = simp length-map in
    record {
      indexed = rw names-push (IsIndexed-push hashes (names symbols) name hash own sound.indexed new);
      within = rw names-push (AreNumbered-name (names symbols) files bytes name sound.within (omega arith));
      instances = AreCounted-push symbols counts (undefined name) sound.instances;
      forward = forward_push symbols name sound.forward;
    }
