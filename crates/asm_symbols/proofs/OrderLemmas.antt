-- The order of names stays.
use Rattle.std.proofs.Common.{◌≡◌, ℕ, List, length, take, Option, None, Some, Result, Ok, Err, refl, sym, ap, ◌∙◌, slice_get}
use Rattle.std.proofs.lemmas.List.{length-map}
use Rattle.std.proofs.Math.Seq.{take-length}
use Rattle.asm_symbols.specs.declared.entries.Symbol.{Symbol}
use Rattle.asm_symbols.specs.declared.entries.Meaning.{Meaning}
use Rattle.asm_symbols.specs.declared.entries.Definition.{Definition}
use Rattle.asm_symbols.specs.declared.entries.Binding.{Binding}
use Rattle.asm_base.specs.declared.causes.SymCause.{SymCause}
use Rattle.asm_symbols.specs.SymbolMap.{SymbolMap, names, changed, with_symbol, with_meaning}
use Rattle.asm_base.specs.Refusals.{◌>>=◌}
use Rattle.asm_symbols.specs.Defining.{redefined, with_defined, defined_by, defined}
use Rattle.asm_symbols.specs.Attributes.{bound_as, with_binding, bound_by, bound}
use Rattle.asm_symbols.specs.Order.{KeepsOrder}
use Rattle.asm_symbols.proofs.ChangeLemmas.{names-changed}

-- all names are the first of themselves
all_names : (symbols : List Symbol) → take (length symbols) (names symbols) ≡ names symbols
all_names symbols =
    let long : length symbols ≡ length (names symbols) = simp length-map in
    ap (λ n. take n (names symbols)) long ∙ take-length (names symbols)

-- a symbol that changes keeps its name
pub order_changed : (change : Symbol → Symbol) → ((symbol : Symbol) → (change symbol).name ≡ symbol.name) → (symbols : List Symbol) (at : ℕ)
    → take (length symbols) (names (changed change symbols at)) ≡ names symbols
order_changed change keeps symbols at = rw (names-changed change keeps symbols at) (all_names symbols)

-- one symbol of the map is another, of the same name
pub record ChangesOne (map made : SymbolMap) (at : ℕ) : Type 0 where
  pub change : Symbol → Symbol
  pub keeps : (symbol : Symbol) → (change symbol).name ≡ symbol.name
  pub is : made.symbols ≡ changed change map.symbols at

order_one : (map made : SymbolMap) (at : ℕ) → ChangesOne map made at → KeepsOrder map made
order_one map made at one = rw one.is (order_changed one.change one.keeps map.symbols at)

defined_made : (map made : SymbolMap) (at : ℕ) (what : Definition) (symbol : Symbol) (r : Result Meaning SymCause)
    → (r >>= λ new. Ok (with_defined map at symbol.name what new)) ≡ Ok made → ChangesOne map made at
defined_made map made at what symbol (Err fault) is = cc
defined_made map made at what symbol (Ok new) is =
    let same : with_defined map at symbol.name what new ≡ made = cc in
    record { change = with_meaning new; keeps = λ _. refl; is = ap (λ (m : SymbolMap). m.symbols) (sym same) }

defined_found : (map made : SymbolMap) (at : ℕ) (what : Definition) (o : Option Symbol) → defined_by o map at what ≡ Ok made → ChangesOne map made at
defined_found map made at what None is = cc
defined_found map made at what (Some symbol) is = defined_made map made at what symbol (redefined symbol.meaning what) is

pub order_defined : (map made : SymbolMap) (at : ℕ) (what : Definition) → defined map at what ≡ Ok made → KeepsOrder map made
unfolding defined
order_defined map made at what is = order_one map made at (defined_found map made at what (slice_get map.symbols at) is)

bound_made : (map made : SymbolMap) (at : ℕ) (r : Result Binding SymCause) → (r >>= λ new. Ok (with_symbol (with_binding new) map at)) ≡ Ok made → ChangesOne map made at
bound_made map made at (Err fault) is = cc
bound_made map made at (Ok new) is =
    let same : with_symbol (with_binding new) map at ≡ made = cc in
    record { change = with_binding new; keeps = λ _. refl; is = ap (λ (m : SymbolMap). m.symbols) (sym same) }

bound_found : (map made : SymbolMap) (at : ℕ) (binding : Binding) (o : Option Symbol) → bound_by o map at binding ≡ Ok made → ChangesOne map made at
bound_found map made at binding None is = cc
bound_found map made at binding (Some symbol) is = bound_made map made at (bound_as symbol.meaning symbol.binding binding) is

pub order_bound : (map made : SymbolMap) (at : ℕ) (binding : Binding) → bound map at binding ≡ Ok made → KeepsOrder map made
unfolding bound
order_bound map made at binding is = order_one map made at (bound_found map made at binding (slice_get map.symbols at) is)
