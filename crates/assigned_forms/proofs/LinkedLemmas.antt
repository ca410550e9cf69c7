-- Weak aliases count as undefined in the forms of fields.
use Rattle.std.proofs.Common.{◌≡◌, ℕ, zero, suc, inl, inr, Bool, true, false, ◌&&◌, ◌||◌, List, [], ◌∷◌, map, take, length, ◌+◌, ◌<◌, ◌++◌, Option, None, Some, is_some, refl, sym, ap, ◌∙◌, subst, arith}
use Rattle.std.specs.Prelude.{slice_get}
use Rattle.std.specs.List.{list_any}
use Rattle.std.specs.Option.{option_map, option_map_or, option_and_then}
use Rattle.std.proofs.lemmas.Option.{slice_get-map}
use Rattle.asm_expr.specs.declared.forms.Term.{Term}
use Rattle.asm_expr.specs.Forms.{Form, symbol_form}
use Rattle.asm_symbols.specs.declared.entries.Meaning.{Meaning}
use Rattle.asm_symbols.specs.declared.entries.Symbol.{Symbol}
use Rattle.asm_symbols.specs.Assigning.{form_of, form_at, IsNamedIn, NoFormLeadsBack}
use Rattle.asm_symbols.specs.Attributes.{is_weak}
use Rattle.asm_symbols.specs.SymbolMap.{SymbolMap}
use Rattle.assigned_forms.specs.Expanding.{is_assigned, names_assigned, expanded, expansion_at, entry_at, AreExpansions}
use Rattle.assigned_forms.specs.Opened.{opened_if, all_opened, opened}
use Rattle.assigned_forms.specs.Linked.{comes_to_place, is_weak_assigned, is_weak_alias, linked_map, linked, IsLinkedSymbol, NamesLinked}
use Rattle.assigned_forms.proofs.RankLemmas.{AreDecided}
use Rattle.assigned_forms.proofs.ExpandingLemmas.{expanded_none, expanded_clean}
use Rattle.assigned_forms.proofs.OpenedLemmas.{none_leads_back}

-- symbols that are marked by a test
marked_by : (test : Symbol → Bool) (symbols : List Symbol) → all_opened (map test symbols) symbols ≡ map (λ symbol. opened_if (test symbol) symbol) symbols
marked_by test [] = refl
marked_by test (symbol ∷ symbols) = ap (λ rest. opened_if (test symbol) symbol ∷ rest) (marked_by test symbols)

or_parts : (a b : Bool) → (a || b) ≡ false → (a ≡ false) × (b ≡ false)
or_parts true b is = cc
or_parts false b is = (refl, is)

module _ (all : SymbolMap) where
  -- the map whose weak aliases are marked
  pub aliases_opened : (marks : List Bool) → marks ≡ map (is_weak_alias all) all.symbols → opened all marks ≡ linked_map all
  unfolding opened linked_map
  aliases_opened marks is =
      ap (λ (symbols : List Symbol). record all { symbols = symbols })
      (ap (λ (them : List Bool). all_opened them all.symbols) is ∙ marked_by (is_weak_alias all) all.symbols)

  -- a symbol that is not both weak and assigned is no weak alias
  no_alias : (weak : Bool) (found : Option Form) → (weak && is_some found) ≡ false → (weak && comes_to_place all (option_map (expanded all) found)) ≡ false
  no_alias true None is = refl
  no_alias true (Some form) is = cc
  no_alias false found is = refl

  same_symbols : (symbols : List Symbol) → list_any is_weak_assigned symbols ≡ false → map (λ symbol. opened_if (is_weak_alias all symbol) symbol) symbols ≡ symbols
  same_symbols [] none = refl
  same_symbols (symbol ∷ symbols) none =
      let parts = or_parts (is_weak_assigned symbol) (list_any is_weak_assigned symbols) none in
      ap (λ (b : Bool). opened_if b symbol ∷ map (λ other. opened_if (is_weak_alias all other) other) symbols) (no_alias (is_weak symbol.binding) (form_of symbol.meaning) parts.0)
      ∙ ap (λ (rest : List Symbol). symbol ∷ rest) (same_symbols symbols parts.1)

  -- where no symbol is weak and assigned, none is left to the linker
  pub none_left : list_any is_weak_assigned all.symbols ≡ false → linked_map all ≡ all
  unfolding linked_map
  none_left none = ap (λ (symbols : List Symbol). record all { symbols = symbols }) (same_symbols all.symbols none)

  pub linked_leads_forward : NoFormLeadsBack all.symbols → NoFormLeadsBack (linked_map all).symbols
  linked_leads_forward forward =
      subst (λ (other : SymbolMap). NoFormLeadsBack other.symbols) (aliases_opened (map (is_weak_alias all) all.symbols) refl)
      (none_leads_back all (map (is_weak_alias all) all.symbols) forward)

  -- the form of a symbol of the linked map
  linked_form : (index : ℕ) → form_at (linked_map all).symbols index
      ≡ option_and_then (λ symbol. form_of symbol.meaning) (option_map (λ symbol. opened_if (is_weak_alias all symbol) symbol) (slice_get all.symbols index))
  unfolding linked_map
  linked_form index = ap (option_and_then (λ (symbol : Symbol). form_of symbol.meaning)) (slice_get-map (λ symbol. opened_if (is_weak_alias all symbol) symbol) all.symbols index)

  -- a weak alias has none
  alias_open : (index : ℕ) (symbol : Symbol) → slice_get all.symbols index ≡ Some symbol → is_weak_alias all symbol ≡ true → form_at (linked_map all).symbols index ≡ None
  alias_open index symbol there is =
      linked_form index
      ∙ ap (λ (o : Option Symbol). option_and_then (λ (s : Symbol). form_of s.meaning) (option_map (λ s. opened_if (is_weak_alias all s) s) o)) there
      ∙ ap (λ (b : Bool). form_of (opened_if b symbol).meaning) is

  -- and any other symbol its own
  other_kept : (index : ℕ) (symbol : Symbol) → slice_get all.symbols index ≡ Some symbol → is_weak_alias all symbol ≡ false
      → form_at (linked_map all).symbols index ≡ form_of symbol.meaning
  other_kept index symbol there is =
      linked_form index
      ∙ ap (λ (o : Option Symbol). option_and_then (λ (s : Symbol). form_of s.meaning) (option_map (λ s. opened_if (is_weak_alias all s) s) o)) there
      ∙ ap (λ (b : Bool). form_of (opened_if b symbol).meaning) is

  -- so it stays in the form of a field
  pub alias_stays : (index : ℕ) (symbol : Symbol) → slice_get all.symbols index ≡ Some symbol → is_weak_alias all symbol ≡ true → linked all (symbol_form index) ≡ symbol_form index
  unfolding linked
  alias_stays index symbol there is =
      expanded_none (linked_map all) (symbol_form index) (ap (λ (o : Option Form). is_some o || false) (alias_open index symbol there is))

  named_free : (terms : List Term) (index : ℕ) → list_any (is_assigned (linked_map all)) terms ≡ false → IsNamedIn terms index → is_some (form_at (linked_map all).symbols index) ≡ false
  named_free [] index none named = absurd named
  named_free (term ∷ terms) index none (inl this) =
      ap (λ (i : ℕ). is_some (form_at (linked_map all).symbols i)) (sym this) ∙ (or_parts (is_assigned (linked_map all) term) (list_any (is_assigned (linked_map all)) terms) none).0
  named_free (term ∷ terms) index none (inr later) =
      named_free terms index (or_parts (is_assigned (linked_map all) term) (list_any (is_assigned (linked_map all)) terms) none).1 later

  module _ (decided : AreDecided) (forward : NoFormLeadsBack all.symbols) where
    -- no other assigned symbol is left in the form of a field
    pub linked_left : (made : Form) → NamesLinked all (linked all made)
    unfolding linked
    linked_left made index symbol named there =
        by (is_weak_alias all symbol) refl (named_free (expanded (linked_map all) made).terms index (expanded_clean (linked_map all) decided (linked_leads_forward forward) made) named)
      where
        by : (b : Bool) → is_weak_alias all symbol ≡ b → is_some (form_at (linked_map all).symbols index) ≡ false → IsLinkedSymbol all symbol
        by true is free = inr is
        by false is free = inl (sym (ap is_some (other_kept index symbol there is)) ∙ free)

-- a symbol that is there is known by its expanded form
pub alias_known : (all : SymbolMap) (forms : List (Option Form)) (index : ℕ) (symbol : Symbol) → AreExpansions all forms → slice_get all.symbols index ≡ Some symbol
    → (is_weak symbol.binding && comes_to_place all (entry_at forms index)) ≡ is_weak_alias all symbol
alias_known all forms index symbol exact there =
    ap (λ (o : Option Form). is_weak symbol.binding && comes_to_place all o)
    (exact.each index ∙ ap (λ (o : Option Symbol). option_map (expanded all) (option_and_then (λ (s : Symbol). form_of s.meaning) o)) there)

-- one more element
pub map_more : {X Y : Type 0} (f : X → Y) (xs : List X) (i : ℕ) (d : Y) → i < length xs → map f (take (i + 1) xs) ≡ map f (take i xs) ++ option_map_or f (slice_get xs i) d ∷ []
map_more f [] i d inside = absurd (omega arith)
map_more f (x ∷ xs) zero d inside = refl
map_more f (x ∷ xs) (suc i) d inside =
    let next : suc i + 1 ≡ suc (i + 1) = omega arith in
    ap (λ n. map f (take n (x ∷ xs))) next ∙ ap (λ rest. f x ∷ rest) (map_more f xs i d (omega arith))
