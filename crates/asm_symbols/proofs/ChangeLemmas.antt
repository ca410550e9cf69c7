-- The fields of a symbol map stay sound where a symbol changes and keeps its name.
use Rattle.std.proofs.Common.{◌≡◌, ℕ, zero, suc, ◌<◌, Bool, true, false, ◌&&◌, ◌||◌, List, [], ◌∷◌, length, get_or, set, Some, refl, sym, ap, arith, slice_get}
use Rattle.std.specs.List.{list_any}
use Rattle.asm_expr.specs.declared.naming.Name.{Name}
use Rattle.asm_expr.specs.declared.naming.Name.TheVariants as naming
use Rattle.asm_expr.specs.Names.{same_name}
use Rattle.asm_symbols.specs.declared.entries.Symbol.{Symbol}
use Rattle.asm_symbols.specs.SymbolMap.{names, changed}
use Rattle.asm_symbols.specs.Assigning.{NoFormLeadsBack}
use Rattle.asm_symbols.specs.Sound.{means_label, is_label_of, AreCounted, IsSound}

both : (a b : Bool) → (a && b) ≡ true → (a ≡ true) × (b ≡ true)
both true true is = (refl, refl)
both true false is = cc
both false b is = cc

-- a symbol that is written is changed
pub set_changed : (change : Symbol → Symbol) (symbols : List Symbol) (at : ℕ) (old : Symbol) → at < length symbols → old ≡ get_or symbols at old
    → set symbols at (change old) ≡ changed change symbols at
unfolding changed
set_changed change [] at old inside is = refl
set_changed change (symbol ∷ symbols) zero old inside is = ap (λ (s : Symbol). change s ∷ symbols) is
set_changed change (symbol ∷ symbols) (suc at) old inside is = ap (λ rest. symbol ∷ rest) (set_changed change symbols at old (omega arith) is)

module _ (change : Symbol → Symbol) where
  pub names-changed : ((symbol : Symbol) → (change symbol).name ≡ symbol.name) → (symbols : List Symbol) (at : ℕ) → names (changed change symbols at) ≡ names symbols
  unfolding changed
  names-changed keeps [] at = refl
  names-changed keeps (symbol ∷ symbols) zero = ap (λ name. name ∷ names symbols) (keeps symbol)
  names-changed keeps (symbol ∷ symbols) (suc at) = ap (λ rest. symbol.name ∷ rest) (names-changed keeps symbols at)

  either : (a b c : Bool) → (a ≡ true → c ≡ true) → (a || b) ≡ true → (c || b) ≡ true
  either true b c keeps is = rw (keeps refl)
  either false true true keeps is = refl
  either false true false keeps is = refl
  either false false c keeps is = cc

  later : (a b c : Bool) → (b ≡ true → c ≡ true) → (a || b) ≡ true → (a || c) ≡ true
  later true b c keeps is = refl
  later false b c keeps is = keeps is

  list_any-changed : (test : Symbol → Bool) (symbols : List Symbol) (at : ℕ)
      → ((symbol : Symbol) → slice_get symbols at ≡ Some symbol → test symbol ≡ true → test (change symbol) ≡ true)
      → list_any test symbols ≡ true → list_any test (changed change symbols at) ≡ true
  unfolding changed
  list_any-changed test [] at keeps is = is
  list_any-changed test (symbol ∷ symbols) zero keeps is = either (test symbol) (list_any test symbols) (test (change symbol)) (keeps symbol refl) is
  list_any-changed test (symbol ∷ symbols) (suc at) keeps is = later (test symbol) (list_any test symbols) (list_any test (changed change symbols at)) (list_any-changed test symbols at keeps) is

  -- what is a label stays one
  abbrev pub KeepsLabels : List Symbol → ℕ → Type 0
  KeepsLabels symbols at = (symbol : Symbol) → slice_get symbols at ≡ Some symbol → means_label symbol.meaning ≡ true → means_label (change symbol).meaning ≡ true

  and_stays : (a b c d : Bool) → a ≡ c → (b ≡ true → d ≡ true) → (a && b) ≡ true → (c && d) ≡ true
  and_stays a b c d same keeps is = let parts = both a b is in rw (← same, parts.0, keeps parts.1)

  pub AreCounted-changed : ((symbol : Symbol) → (change symbol).name ≡ symbol.name) → (symbols : List Symbol) (counts : List (ℕ × ℕ)) (at : ℕ) → KeepsLabels symbols at
      → AreCounted symbols counts → AreCounted (changed change symbols at) counts
  AreCounted-changed keeps symbols counts at labels sound = record {
    labels = λ number instance some within. list_any-changed (is_label_of (naming.Numeric number instance)) symbols at
        (λ symbol there is. and_stays (same_name (naming.Numeric number instance) symbol.name) (means_label symbol.meaning) (same_name (naming.Numeric number instance) (change symbol).name) (means_label (change symbol).meaning)
        (ap (same_name (naming.Numeric number instance)) (sym (keeps symbol))) (labels symbol there) is)
        (sound.labels number instance some within);
  }

  pub IsSound-changed : ((symbol : Symbol) → (change symbol).name ≡ symbol.name) → (index : List ℕ) (symbols : List Symbol) (files : List Name) (counts : List (ℕ × ℕ)) (bytes at : ℕ)
      → KeepsLabels symbols at → NoFormLeadsBack (changed change symbols at) → IsSound index symbols files counts bytes → IsSound index (changed change symbols at) files counts bytes
  IsSound-changed keeps index symbols files counts bytes at labels forward sound =
      let same = names-changed keeps symbols at in
      record { indexed = rw same sound.indexed; within = rw same sound.within; instances = AreCounted-changed keeps symbols counts at labels sound.instances; forward = forward }
