-- A symbol that is no assigned one is none in the forms of fields.
use Rattle.std.proofs.Common.{◌≡◌, ℕ, zero, suc, Bool, true, false, List, [], ◌∷◌, map, None, refl}
use Rattle.asm_symbols.specs.declared.entries.Symbol.{Symbol}
use Rattle.asm_symbols.specs.Assigning.{form_of, form_at}
use Rattle.asm_symbols.specs.SymbolMap.{SymbolMap}
use Rattle.assigned_forms.specs.Opened.{opened_if}
use Rattle.assigned_forms.specs.Linked.{is_weak_alias, linked_map}

-- so it is where some symbols are undefined
none_opened : (test : Symbol → Bool) (symbols : List Symbol) (index : ℕ) → form_at symbols index ≡ None
    → form_at (map (λ symbol. opened_if (test symbol) symbol) symbols) index ≡ None
none_opened test [] index none = refl
none_opened test (symbol ∷ symbols) zero none = by (test symbol)
  where
    by : (undefined : Bool) → form_of (opened_if undefined symbol).meaning ≡ None
    by true = refl
    by false = none
none_opened test (symbol ∷ symbols) (suc index) none = none_opened test symbols index none

pub linked_formless : (symbols : SymbolMap) (index : ℕ) → form_at symbols.symbols index ≡ None → form_at (linked_map symbols).symbols index ≡ None
unfolding linked_map
linked_formless symbols index none = none_opened (is_weak_alias symbols) symbols.symbols index none
