-- The fields of a symbol map stay sound where a symbol is defined.
use Rattle.std.proofs.Common.{◌≡◌, ℕ, zero, suc, ◌+◌, ◌==◌, Bool, true, false, cond, ◌||◌, List, [], ◌∷◌, nat_eq, None, Some, refl, sym, ◌∙◌, ◌<◌, length, get_or, set, Result, Ok, Err, ap, slice_get}
use Rattle.std.proofs.lemmas.Bool.{eqb-true}
use Rattle.std.proofs.lemmas.Option.{slice_get_read, same_Some}
use Rattle.std.specs.List.{list_any}
use Rattle.indexmap.specs.IndexMap.{insert_entry}
use Rattle.std.specs.Result.{MatchResult}
use Rattle.asm_expr.specs.declared.naming.Name.{Name}
use Rattle.asm_expr.specs.declared.naming.Name.TheVariants as naming
use Rattle.asm_symbols.specs.declared.entries.Symbol.{Symbol}
use Rattle.asm_symbols.specs.declared.entries.Meaning.{Meaning}
use Rattle.asm_symbols.specs.declared.entries.Meaning.TheVariants as meaning
use Rattle.asm_symbols.specs.declared.entries.Definition.{Definition}
use Rattle.asm_symbols.specs.declared.entries.Definition.TheVariants as definition
use Rattle.asm_symbols.specs.SymbolMap.{SymbolMap, changed, with_meaning}
use Rattle.asm_symbols.specs.Counting.{counted, counts_after}
use Rattle.asm_symbols.specs.Defining.{meant, redefined, defined}
use Rattle.asm_symbols.specs.Assigning.{form_of}
use Rattle.asm_symbols.specs.Sound.{means_label, is_label_of, AreCounted, IsSound}
use Rattle.asm_symbols.proofs.SameNames.{own_name}
use Rattle.asm_symbols.proofs.ChangeLemmas.{set_changed, IsSound-changed}
use Rattle.asm_symbols.proofs.ForwardLemmas.{KeepsForm, forward_kept}
use Rattle.asm_symbols.proofs.CountLemmas.{AreCounted-raised}

or_true : (a b : Bool) → b ≡ true → (a || b) ≡ true
or_true true b is = refl
or_true false b is = is

-- a symbol that is made to pass the test passes it
pub changed_passes : (change : Symbol → Symbol) (test : Symbol → Bool) (symbols : List Symbol) (at : ℕ) (old : Symbol) → slice_get symbols at ≡ Some old → test (change old) ≡ true
    → list_any test (changed change symbols at) ≡ true
unfolding changed
changed_passes change test [] at old is passes = cc
changed_passes change test (symbol ∷ symbols) zero old is passes = let same : symbol ≡ old = cc in rw (same, passes)
changed_passes change test (symbol ∷ symbols) (suc at) old is passes = or_true (test symbol) (list_any test (changed change symbols at)) (changed_passes change test symbols at old is passes)

-- what a definition makes has no form
formless : (what : Definition) → form_of (meant what) ≡ None
formless (definition.Label spot) = refl
formless (definition.Common size align) = refl
formless (definition.Space spot) = refl

module _ (symbols : List Symbol) (at : ℕ) (old : Symbol) (there : slice_get symbols at ≡ Some old) where
  defined_label : (spot : _) → list_any (is_label_of old.name) (changed (with_meaning (meant (definition.Label spot))) symbols at) ≡ true
  defined_label spot = changed_passes (with_meaning (meant (definition.Label spot))) (is_label_of old.name) symbols at old there (rw (own_name old.name))

  raised_if : (b : Bool) (spot : _) (counts : List (ℕ × ℕ)) (number instance : ℕ) → old.name ≡ naming.Numeric number instance → (instance == counted counts number + 1) ≡ b
      → AreCounted (changed (with_meaning (meant (definition.Label spot))) symbols at) counts
      → AreCounted (changed (with_meaning (meant (definition.Label spot))) symbols at) (cond b (insert_entry nat_eq counts number instance) counts)
  raised_if true spot counts number instance name is sound = AreCounted-raised (changed (with_meaning (meant (definition.Label spot))) symbols at) counts number instance sound (eqb-true instance (counted counts number + 1) is) (rw name at (defined_label spot))
  raised_if false spot counts number instance name is sound = sound

  counted_by : (name : Name) (what : Definition) (counts : List (ℕ × ℕ)) → old.name ≡ name
      → AreCounted (changed (with_meaning (meant what)) symbols at) counts → AreCounted (changed (with_meaning (meant what)) symbols at) (counts_after name what counts)
  counted_by (naming.Numeric number instance) (definition.Label spot) counts name sound = raised_if (instance == counted counts number + 1) spot counts number instance name refl sound
  counted_by (naming.Numeric number instance) (definition.Common size align) counts name sound = sound
  counted_by (naming.Numeric number instance) (definition.Space spot) counts name sound = sound
  counted_by (naming.Plain text) what counts name sound = sound
  counted_by (naming.Place section item offset) what counts name sound = sound

  -- what is no label and has no form is defined
  pub IsSound-defined : (what : Definition) (index : List ℕ) (files : List Name) (counts : List (ℕ × ℕ)) (bytes : ℕ) → means_label old.meaning ≡ false → form_of old.meaning ≡ None
      → IsSound index symbols files counts bytes → IsSound index (changed (with_meaning (meant what)) symbols at) files (counts_after old.name what counts) bytes
  IsSound-defined what index files counts bytes plain unassigned sound =
      let keeps : KeepsForm (with_meaning (meant what)) symbols at = λ symbol is. let same : symbol ≡ old = cc in formless what ∙ sym (rw same unassigned) in
      let forward = forward_kept (with_meaning (meant what)) symbols at keeps sound.forward in
      let made = IsSound-changed (with_meaning (meant what)) (λ _. refl) index symbols files counts bytes at (λ symbol is label. let same : symbol ≡ old = cc in cc) forward sound in
      record { indexed = made.indexed; within = made.within; instances = counted_by old.name what counts refl made.instances; forward = forward }

-- what is read twice at one place is one
same_read : (symbols : List Symbol) (at : ℕ) (a b : Symbol) → at < length symbols → a ≡ get_or symbols at a → b ≡ get_or symbols at b → a ≡ b
same_read symbols at a b there one other = same_Some a b (sym (slice_get_read symbols (length symbols) at a refl there one) ∙ slice_get_read symbols (length symbols) at b refl there other)

-- a value, where only faults are mapped
abbrev passed : {T : Type 0} (D : Type 0) → T → Result T D
passed D value = Ok value

-- a value that is there after faults were mapped was there before
pub there_before : {T E : Type 0} (D : Type 0) (before : Result T E) (value : T) → MatchResult before (λ there. passed D value ≡ Ok there) (λ _. ⊥) → before ≡ Ok value
there_before D (Ok there) value same = let is : value ≡ there = cc in ap Ok (sym is)
there_before D (Err fault) value same = absurd same

-- only what is no label and has no form is defined, as the definition says
redefined_then : (meaning : Meaning) (what : Definition) (made : Meaning) → redefined meaning what ≡ Ok made → (made ≡ meant what) × ((means_label meaning ≡ false) × (form_of meaning ≡ None))
redefined_then meaning.Undefined what made is = (cc, (refl, refl))
redefined_then (meaning.Label spot) what made is = cc
redefined_then (meaning.Space spot) what made is = cc
redefined_then (meaning.Common size align) what made is = cc
redefined_then (meaning.Assigned form) (definition.Label spot) made is = cc
redefined_then (meaning.Assigned form) (definition.Common size align) made is = cc
redefined_then (meaning.Assigned form) (definition.Space spot) made is = cc

module _ (symbols : List Symbol) (at : ℕ) (first second third : Symbol) (there : at < length symbols) (one : first ≡ get_or symbols at first) (two : second ≡ get_or symbols at second)
    (three : third ≡ get_or symbols at third) (what : Definition) (made : Meaning) (is : redefined first.meaning what ≡ Ok made) (files : List Name) (sizes : ℕ) (counts new : List (ℕ × ℕ)) (grown : new ≡ counts_after second.name what counts) where
  -- the fields stay sound
  pub define_sound : (index : List ℕ) (bytes : ℕ) → IsSound index symbols files counts bytes → IsSound index (set symbols at (with_meaning made third)) files new bytes
  define_sound index bytes sound =
      let parts = redefined_then first.meaning what made is in
      let same = same_read symbols at first second there one two in
      let write = set_changed (with_meaning (meant what)) symbols at third there three in
      rw (grown, ← same, parts.0, write) (IsSound-defined symbols at first (slice_get_read symbols (length symbols) at first refl there one) what index files counts bytes parts.1.0 parts.1.1 sound)

  -- the map is the one that the definition says
  pub define_gives : (let map : SymbolMap = record { symbols = symbols; files = files; counts = counts; sizes = sizes } in
      let after : SymbolMap = record { symbols = set symbols at (with_meaning made third); files = files; counts = new; sizes = sizes } in defined map at what ≡ Ok after)
  unfolding defined
  define_gives =
      let read = slice_get_read symbols (length symbols) at first refl there one in
      let same = same_read symbols at first second there one two in
      let write = set_changed (with_meaning made) symbols at third there three in
      rw (read, is, grown, ← same, write)
