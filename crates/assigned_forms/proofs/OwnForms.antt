-- Where no form names an assigned symbol, the symbols' own forms are the expanded ones.
use Rattle.std.proofs.Common.{◌≡◌, ℕ, zero, suc, Bool, true, false, ◌&&◌, not, List, [], ◌∷◌, Option, None, Some, refl, sym, ap, ◌∙◌}
use Rattle.std.specs.List.{list_all, list_any}
use Rattle.std.specs.Option.{option_map}
use Rattle.std.specs.Prelude.{is_some}
use Rattle.asm_expr.specs.declared.forms.Term.{Term}
use Rattle.asm_expr.specs.Forms.{Form}
use Rattle.asm_symbols.specs.declared.entries.Symbol.{Symbol}
use Rattle.asm_symbols.specs.SymbolMap.{SymbolMap}
use Rattle.asm_symbols.specs.Assigning.{form_of, form_at}
use Rattle.assigned_forms.specs.Expanding.{names_assigned, names_expanded, is_expanded, is_plain, stands_for_itself, own_forms, expanded, expansion_at, entry_at, AreExpansions}
use Rattle.assigned_forms.proofs.ExpansionLemmas.{own_there}

both : (a b : Bool) → (a && b) ≡ true → (a ≡ true) × (b ≡ true)
both true b is = (refl, is)
both false b is = cc

not_none : (a : Bool) → not a ≡ true → a ≡ false
not_none true is = cc
not_none false is = refl

-- the list of own forms has that of each symbol at its index
pub own_entry : (symbols : List Symbol) (at : ℕ) → entry_at (own_forms symbols) at ≡ form_at symbols at
own_entry [] at = refl
own_entry (symbol ∷ rest) zero = refl
own_entry (symbol ∷ rest) (suc at) = own_entry rest at

-- where nothing is there, no form names what is
pub names_absent : (form : Form) → names_expanded [] form ≡ false
names_absent form = by form.terms
  where
    by : (terms : List Term) → list_any (λ term. is_some (entry_at [] term.symbol)) terms ≡ false
    by [] = refl
    by (term ∷ terms) = by terms

-- where no symbol is an assigned one, none has a form
no_form : (symbols : List Symbol) (at : ℕ) → list_all is_plain symbols ≡ true → form_at symbols at ≡ None
no_form [] at all = refl
no_form (symbol ∷ rest) zero all = none (form_of symbol.meaning) (both (is_plain symbol) (list_all is_plain rest) all).0
  where
    none : (o : Option Form) → not (is_some o) ≡ true → o ≡ None
    none None is = refl
    none (Some form) is = cc
no_form (symbol ∷ rest) (suc at) all = no_form rest at (both (is_plain symbol) (list_all is_plain rest) all).1

module _ (all : SymbolMap) where
  -- then no expanded form is needed
  pub no_expansions : list_all is_plain all.symbols ≡ true → AreExpansions all []
  no_expansions plain = record { each = λ at. sym (ap (option_map (expanded all)) (no_form all.symbols at plain)) }

  names_none : (o : Option Form) (form : Form) → o ≡ Some form → is_expanded all o ≡ true → names_assigned all form ≡ false
  names_none o form is stands = not_none (names_assigned all form) (ap (is_expanded all) (sym is) ∙ stands)

  stands_at : (symbols : List Symbol) (at : ℕ) (form : Form) → list_all (stands_for_itself all) symbols ≡ true → form_at symbols at ≡ Some form → names_assigned all form ≡ false
  stands_at [] at form stand is = cc
  stands_at (symbol ∷ rest) zero form stand is = names_none (form_of symbol.meaning) form is (both (stands_for_itself all symbol) (list_all (stands_for_itself all) rest) stand).0
  stands_at (symbol ∷ rest) (suc at) form stand is = stands_at rest at form (both (stands_for_itself all symbol) (list_all (stands_for_itself all) rest) stand).1 is

  own_by : (stand : list_all (stands_for_itself all) all.symbols ≡ true) (at : ℕ) (o : Option Form) → form_at all.symbols at ≡ o → o ≡ expansion_at all at
  own_by stand at None is = sym (ap (option_map (expanded all)) is)
  own_by stand at (Some form) is = sym (own_there all at form is (stands_at all.symbols at form stand is))

  pub own_expansions : list_all (stands_for_itself all) all.symbols ≡ true → AreExpansions all (own_forms all.symbols)
  own_expansions stand = record { each = λ at. own_entry all.symbols at ∙ own_by stand at (form_at all.symbols at) refl }
