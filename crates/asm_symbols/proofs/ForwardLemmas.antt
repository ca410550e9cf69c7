-- No form leads back to its symbol, whatever a call makes of the map.
use Rattle.std.proofs.Common.{◌≡◌, ℕ, zero, suc, ◌<◌, ◌⊎◌, inl, inr, List, [], ◌∷◌, ◌++◌, length, Some, refl, sym, ap, subst, ◌∙◌, arith, slice_get}
use Rattle.std.proofs.lemmas.Option.{same_Some}
use Rattle.asm_expr.specs.declared.naming.Name.{Name}
use Rattle.asm_expr.specs.Forms.{Form}
use Rattle.asm_symbols.specs.declared.entries.Symbol.{Symbol}
use Rattle.asm_symbols.specs.declared.entries.Meaning.TheVariants.{Assigned}
use Rattle.asm_symbols.specs.SymbolMap.{changed, with_meaning}
use Rattle.asm_symbols.specs.Interning.{undefined}
use Rattle.asm_symbols.specs.Assigning.{form_of, form_at, NamesSymbol, Leads, straight, further, NoFormLeadsBack}

-- where no form comes, nothing more is led to
leads_kept : (old new : List Symbol) (form : Form) → ((i : ℕ) (f : Form) → form_at new i ≡ Some f → form_at old i ≡ Some f) → (index : ℕ) → Leads new form index → Leads old form index
leads_kept old new form kept index (straight last named) = straight last named
leads_kept old new form kept index (further middle last next leads is named) = further middle last next (leads_kept old new form kept middle leads) (kept middle next is) named

forward_where : (old new : List Symbol) → ((i : ℕ) (f : Form) → form_at new i ≡ Some f → form_at old i ≡ Some f) → NoFormLeadsBack old → NoFormLeadsBack new
forward_where old new kept forward index form is leads = forward index form (kept index form is) (leads_kept old new form kept index leads)

-- the change keeps the form of the symbol at this index, if it has one
abbrev pub KeepsForm : (Symbol → Symbol) → List Symbol → ℕ → Type 0
KeepsForm change symbols at = (symbol : Symbol) → slice_get symbols at ≡ Some symbol → form_of (change symbol).meaning ≡ form_of symbol.meaning

form_at-kept : (change : Symbol → Symbol) (symbols : List Symbol) (at : ℕ) → KeepsForm change symbols at → (index : ℕ) → form_at (changed change symbols at) index ≡ form_at symbols index
unfolding changed
form_at-kept change [] at keeps index = refl
form_at-kept change (symbol ∷ symbols) zero keeps zero = keeps symbol refl
form_at-kept change (symbol ∷ symbols) zero keeps (suc index) = refl
form_at-kept change (symbol ∷ symbols) (suc at) keeps zero = refl
form_at-kept change (symbol ∷ symbols) (suc at) keeps (suc index) = form_at-kept change symbols at keeps index

-- a symbol that changes keeps its form
pub forward_kept : (change : Symbol → Symbol) (symbols : List Symbol) (at : ℕ) → KeepsForm change symbols at → NoFormLeadsBack symbols → NoFormLeadsBack (changed change symbols at)
forward_kept change symbols at keeps = forward_where symbols (changed change symbols at) (λ i f has. sym (form_at-kept change symbols at keeps i) ∙ has)

-- a form goes on to what a form leads to whose symbol it leads to
pub leads_on : (symbols : List Symbol) (first : Form) (middle : ℕ) (next : Form) (last : ℕ) → Leads symbols first middle → form_at symbols middle ≡ Some next → Leads symbols next last → Leads symbols first last
leads_on symbols first middle next last leads is (straight index named) = further middle index next leads is named
leads_on symbols first middle next last leads is (further other index then' more has named) = further other index then' (leads_on symbols first middle next other leads is more) has named

-- a form of the map where a symbol was assigned is that form, or stood there
form_written : (form : Form) (symbols : List Symbol) (at index : ℕ) (found : Form) → form_at (changed (with_meaning (Assigned form)) symbols at) index ≡ Some found
    → ((index ≡ at) × (form ≡ found)) ⊎ (form_at symbols index ≡ Some found)
unfolding changed
form_written form [] at index found is = inr is
form_written form (symbol ∷ symbols) zero zero found is = inl (refl, same_Some form found is)
form_written form (symbol ∷ symbols) zero (suc index) found is = inr is
form_written form (symbol ∷ symbols) (suc at) zero found is = inr is
form_written form (symbol ∷ symbols) (suc at) (suc index) found is = elim (form_written form symbols at index found is) [ inl this ↦ inl (ap suc this.0, this.1) | inr stood ↦ inr stood ]

module _ (symbols : List Symbol) (at : ℕ) (form : Form) (apart : Leads symbols form at → ⊥) where
  through_step : (first : Form) (middle last : ℕ) (next : Form) → Leads symbols first middle ⊎ (Leads symbols first at × Leads symbols form middle)
      → ((middle ≡ at) × (form ≡ next)) ⊎ (form_at symbols middle ≡ Some next) → NamesSymbol next last
      → Leads symbols first last ⊎ (Leads symbols first at × Leads symbols form last)
  through_step first middle last next (inl led) (inl this) named =
      inr (subst (λ (i : ℕ). Leads symbols first i) this.0 led, straight last (subst (λ (f : Form). NamesSymbol f last) (sym this.1) named))
  through_step first middle last next (inl led) (inr stood) named = inl (further middle last next led stood named)
  through_step first middle last next (inr both) (inl this) named = inr (both.0, straight last (subst (λ (f : Form). NamesSymbol f last) (sym this.1) named))
  through_step first middle last next (inr both) (inr stood) named = inr (both.0, further middle last next both.1 stood named)

  -- what is led to was led to, or is led to by the new form
  through : (first : Form) (index : ℕ) → Leads (changed (with_meaning (Assigned form)) symbols at) first index → Leads symbols first index ⊎ (Leads symbols first at × Leads symbols form index)
  through first index (straight last named) = inl (straight last named)
  through first index (further middle last next leads is named) = through_step first middle last next (through first middle leads) (form_written form symbols at middle next is) named

  written_by : NoFormLeadsBack symbols → (index : ℕ) (found : Form) → ((index ≡ at) × (form ≡ found)) ⊎ (form_at symbols index ≡ Some found)
      → Leads symbols found index ⊎ (Leads symbols found at × Leads symbols form index) → ⊥
  written_by forward index found (inl this) (inl led) = apart (subst (λ (f : Form). Leads symbols f at) (sym this.1) (subst (λ (i : ℕ). Leads symbols found i) this.0 led))
  written_by forward index found (inl this) (inr both) = apart (subst (λ (f : Form). Leads symbols f at) (sym this.1) both.0)
  written_by forward index found (inr stood) (inl led) = forward index found stood led
  written_by forward index found (inr stood) (inr both) = apart (leads_on symbols form index found at both.1 stood both.0)

  -- a form that does not lead back is assigned
  pub forward_written : NoFormLeadsBack symbols → NoFormLeadsBack (changed (with_meaning (Assigned form)) symbols at)
  forward_written forward index found is leads = written_by forward index found (form_written form symbols at index found is) (through found index leads)

form_at-before : (symbols : List Symbol) (name : Name) (index : ℕ) (form : Form) → form_at (symbols ++ undefined name ∷ []) index ≡ Some form → form_at symbols index ≡ Some form
form_at-before [] name zero form is = cc
form_at-before [] name (suc index) form is = is
form_at-before (symbol ∷ symbols) name zero form is = is
form_at-before (symbol ∷ symbols) name (suc index) form is = form_at-before symbols name index form is

-- an assigned symbol is one of the symbols
pub form_within : (symbols : List Symbol) (index : ℕ) (form : Form) → form_at symbols index ≡ Some form → index < length symbols
form_within [] zero form is = cc
form_within [] (suc index) form is = cc
form_within (symbol ∷ symbols) zero form is = omega arith
form_within (symbol ∷ symbols) (suc index) form is = let later = form_within symbols index form is in omega arith

-- a name more has no form
pub forward_push : (symbols : List Symbol) (name : Name) → NoFormLeadsBack symbols → NoFormLeadsBack (symbols ++ undefined name ∷ [])
forward_push symbols name = forward_where symbols (symbols ++ undefined name ∷ []) (form_at-before symbols name)
