-- What holds of the fields of a symbol map at all times.
use Rattle.std.specs.Prelude.{◌≡◌, ℕ, ◌+◌, ◌^◌, ◌<◌, ◌≤◌, ◌&&◌, Bool, true, false, List, length, sum_by, Some, slice_get}
use Rattle.std.specs.List.{list_any}
use Rattle.std.specs.Option.{option_map_or}
use Rattle.asm_expr.specs.declared.naming.Name.{Name}
use Rattle.asm_expr.specs.declared.naming.Name.TheVariants as naming
use Rattle.asm_expr.specs.Names.{same_name}
use Rattle.asm_symbols.specs.declared.entries.Symbol.{Symbol}
use Rattle.asm_symbols.specs.declared.entries.Meaning.{Meaning}
use Rattle.asm_symbols.specs.declared.entries.Meaning.TheVariants as meaning
use Rattle.asm_symbols.specs.SymbolMap.{names, index_of}
use Rattle.asm_symbols.specs.Interning.{name_size}
use Rattle.asm_symbols.specs.Counting.{counted}
use Rattle.asm_symbols.specs.Assigning.{NoFormLeadsBack}
use Rattle.asm_symbols.specs.NameChains.{AreHashed}

-- no two places have one name
abbrev pub AreApart : List Name → Type 0
AreApart ns =
    (name : Name) (one other : ℕ) → slice_get ns one ≡ Some name → slice_get ns other ≡ Some name → one ≡ other

-- each name is found where it stands
abbrev pub AreFound : List Name → Type 0
AreFound ns = (at : ℕ) (name : Name) → slice_get ns at ≡ Some name → index_of name ns ≡ Some at

-- the index has the hash of each name, and each name stands once
pub record IsIndexed (hashes : List ℕ) (ns : List Name) : Type 0 where
  pub hashed : AreHashed hashes ns
  pub apart : AreFound ns

-- the bytes of all names are counted, each symbol has a number of 32 bits, and there are at most 2^24 files
pub record AreNumbered (ns files : List Name) (bytes : ℕ) : Type 0 where
  pub total : bytes ≡ sum_by name_size ns + sum_by name_size files
  pub few : length ns < 2 ^ 32
  pub few_files : length files ≤ 2 ^ 24

-- the symbol is a label
abbrev pub means_label : Meaning → Bool
means_label (meaning.Label spot) = true
means_label _ = false

-- the symbol at this index is a label
abbrev pub is_label_at : List Symbol → ℕ → Bool
is_label_at symbols at = option_map_or (λ symbol. means_label symbol.meaning) (slice_get symbols at) false

-- the symbol has this name and is a label
abbrev pub is_label_of : Name → Symbol → Bool
is_label_of name symbol = same_name name symbol.name && means_label symbol.meaning

-- the instances of numeric labels that are counted are labels
pub record AreCounted (symbols : List Symbol) (counts : List (ℕ × ℕ)) : Type 0 where
  pub labels : (number instance : ℕ) → 0 < instance → instance ≤ counted counts number → list_any (is_label_of (naming.Numeric number instance)) symbols ≡ true

-- names are found by the index, their bytes are counted, each counted instance is a label, and no form leads back to its symbol
pub record IsSound (hashes : List ℕ) (symbols : List Symbol) (files : List Name) (counts : List (ℕ × ℕ)) (bytes : ℕ) : Type 0 where
  pub indexed : IsIndexed hashes (names symbols)
  pub within : AreNumbered (names symbols) files bytes
  pub instances : AreCounted symbols counts
  pub forward : NoFormLeadsBack symbols
