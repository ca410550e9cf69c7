-- A symbol that is written, as code does it.
use Rattle.std.proofs.Common.{◌≡◌, ℕ, ◌+◌, ◌<◌, false, List, length, get_or, set, sym, ap, ◌∙◌}
use Rattle.std.specs.Option.{option_map_or}
use Rattle.asm_expr.specs.declared.naming.Name.{Name}
use Rattle.asm_expr.specs.Forms.{Form}
use Rattle.asm_symbols.specs.declared.entries.Symbol.{Symbol}
use Rattle.asm_symbols.specs.SymbolMap.{SymbolMap, changed, with_symbol}
use Rattle.asm_symbols.specs.Attributes.{with_size, with_next_size}
use Rattle.asm_symbols.specs.Assigning.{NoFormLeadsBack}
use Rattle.asm_symbols.specs.Sound.{means_label, is_label_at, IsSound}
use Rattle.asm_symbols.proofs.ChangeLemmas.{set_changed, KeepsLabels, IsSound-changed}

module _ (change : Symbol → Symbol) (symbols : List Symbol) (at : ℕ) (old : Symbol) (there : at < length symbols) (is : old ≡ get_or symbols at old) where
  -- the map has the change
  pub written : (files : List Name) (counts : List (ℕ × ℕ)) (sizes : ℕ)
      → (let new : SymbolMap = record { symbols = set symbols at (change old); files = files; counts = counts; sizes = sizes } in new)
      ≡ with_symbol change (record { symbols = symbols; files = files; counts = counts; sizes = sizes }) at
  written files counts sizes = ap (λ all. record { symbols = all; files = files; counts = counts; sizes = sizes }) (set_changed change symbols at old there is)

  -- and is sound
  pub written_sound : ((symbol : Symbol) → (change symbol).name ≡ symbol.name) → KeepsLabels change symbols at → (NoFormLeadsBack symbols → NoFormLeadsBack (changed change symbols at)) → (index : List ℕ) (files : List Name) (counts : List (ℕ × ℕ)) (bytes : ℕ)
      → IsSound index symbols files counts bytes → IsSound index (set symbols at (change old)) files counts bytes
  written_sound keeps labels forward index files counts bytes sound = rw (set_changed change symbols at old there is) (IsSound-changed change keeps index symbols files counts bytes at labels (forward sound.forward) sound)

-- the map of the next size has the change
pub written_size : (size : Form) (symbols : List Symbol) (at : ℕ) (old : Symbol) → at < length symbols → old ≡ get_or symbols at old
    → (files : List Name) (counts : List (ℕ × ℕ)) (sizes number : ℕ) → number ≡ sizes + 1
    → (let new : SymbolMap = record { symbols = set symbols at (with_size size number old); files = files; counts = counts; sizes = number } in new)
    ≡ with_next_size size (record { symbols = symbols; files = files; counts = counts; sizes = sizes }) at
written_size size symbols at old there is files counts sizes number next = rw (next, set_changed (with_size size (sizes + 1)) symbols at old there is)

-- what is no label keeps nothing
pub keeps_none : (change : Symbol → Symbol) (symbols : List Symbol) (at : ℕ) → is_label_at symbols at ≡ false → KeepsLabels change symbols at
keeps_none change symbols at plain symbol there label =
    let none : means_label symbol.meaning ≡ false = sym (ap (λ o. option_map_or (λ (s : Symbol). means_label s.meaning) o false) there) ∙ plain in
    cc
