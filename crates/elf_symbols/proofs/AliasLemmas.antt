-- What is said first along a chain of aliases.
use Rattle.std.proofs.Common.{◌≡◌, ℕ, zero, suc, ◌-◌, ◌<◌, ◌≤◌, Option, None, Some, refl, arith}
use Rattle.std.specs.Prelude.{slice_get, option_and_then}
use Rattle.asm_symbols.specs.declared.entries.Symbol.{Symbol}
use Rattle.asm_symbols.specs.SymbolMap.{SymbolMap}
use Rattle.elf_symbols.specs.Aliases.{alias_of, said_along}

module _ {T : Type 0} (said : Symbol → Option T) (map : SymbolMap) (whole : Option T) where
  -- nothing is said of the next symbol
  pub along_step : (left : ℕ) (next after : Option ℕ) (symbol : Symbol) → 0 < left → option_and_then (slice_get map.symbols) next ≡ Some symbol → said symbol ≡ None
      → after ≡ alias_of symbol.meaning → said_along said map left next ≡ whole → said_along said map (left - 1) after ≡ whole
  unfolding said_along
  along_step zero next after symbol some there none more before = absurd (omega arith)
  along_step (suc left) None after symbol some there none more before = absurd cc
  along_step (suc left) (Some at) after symbol some there none more before =
      let one : suc left - 1 ≡ left = omega arith in
      rw (one, more) (rw (there, none) at before)

  -- something is said of the next symbol
  pub along_found : (left : ℕ) (next : Option ℕ) (symbol : Symbol) (x : T) → 0 < left → option_and_then (slice_get map.symbols) next ≡ Some symbol → said symbol ≡ Some x
      → said_along said map left next ≡ whole → Some x ≡ whole
  unfolding said_along
  along_found zero next symbol x some there found before = absurd (omega arith)
  along_found (suc left) None symbol x some there found before = absurd cc
  along_found (suc left) (Some at) symbol x some there found before = rw (there, found) at before

  along_none : (left : ℕ) → said_along said map left None ≡ None
  unfolding said_along
  along_none zero = refl
  along_none (suc left) = refl

  -- no symbol is next
  pub along_end : (left : ℕ) (next : Option ℕ) → 0 < left → option_and_then (slice_get map.symbols) next ≡ None → said_along said map left next ≡ whole → None ≡ whole
  unfolding said_along
  along_end zero next some none before = absurd (omega arith)
  along_end (suc left) None some none before = before
  along_end (suc left) (Some at) some none before = let rest = along_none left in rw (none, rest) at before

  -- all are seen
  pub along_done : (left : ℕ) (next : Option ℕ) → left ≤ 0 → said_along said map left next ≡ whole → None ≡ whole
  unfolding said_along
  along_done zero next none before = before
  along_done (suc left) next none before = absurd (omega arith)
