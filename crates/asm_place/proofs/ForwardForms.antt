-- No form leads back to its symbol, whatever a statement makes of the symbols.
use Rattle.std.proofs.Common.{◌≡◌, ℕ, zero, suc, ◌⊎◌, inl, inr, true, false, List, [], ◌∷◌, ◌++◌, None, Some, refl, sym, ap, subst, ◌∙◌, slice_get}
use Rattle.std.proofs.lemmas.Option.{none-some, same_Some}
use Rattle.asm_expr.specs.Forms.{Form}
use Rattle.asm_symbols.specs.declared.entries.Definition.{Definition}
use Rattle.asm_symbols.specs.declared.entries.Definition.TheVariants as definition
use Rattle.asm_symbols.specs.declared.entries.Symbol.{Symbol}
use Rattle.asm_symbols.specs.declared.entries.Meaning.TheVariants.{Assigned}
use Rattle.asm_symbols.specs.Assigning.{form_of, form_at, NamesSymbol, Leads, straight, further, NoFormLeadsBack}
use Rattle.asm_symbols.specs.Defining.{meant}
use Rattle.asm_symbols.specs.LeadsBack.{leads_back}
use Rattle.asm_symbols.specs.SymbolMap.{changed, with_meaning}

-- the program that decides whether a form leads back finds each that does
abbrev pub LeadsAreFound : Type 0
LeadsAreFound = (symbols : List Symbol) (form : Form) (at : ℕ) → Leads symbols form at → leads_back symbols form at ≡ true

-- so one that it does not find does not lead back
pub not_led : LeadsAreFound → (symbols : List Symbol) (form : Form) (at : ℕ) → leads_back symbols form at ≡ false → Leads symbols form at → ⊥
not_led found symbols form at none leads = let both : true ≡ false = sym (found symbols form at leads) ∙ none in absurd cc

-- where there is no symbol there is no form
pub forward_none : NoFormLeadsBack []
forward_none index form is leads = none-some form is

-- WHERE NO FORM COMES

-- nothing more is led to
leads_kept : (old new : List Symbol) (form : Form) → ((i : ℕ) (f : Form) → form_at new i ≡ Some f → form_at old i ≡ Some f) → (index : ℕ) → Leads new form index → Leads old form index
leads_kept old new form kept index (straight last named) = straight last named
leads_kept old new form kept index (further middle last next leads is named) = further middle last next (leads_kept old new form kept middle leads) (kept middle next is) named

forward_where : (old new : List Symbol) → ((i : ℕ) (f : Form) → form_at new i ≡ Some f → form_at old i ≡ Some f) → NoFormLeadsBack old → NoFormLeadsBack new
forward_where old new kept forward index form is leads = forward index form (kept index form is) (leads_kept old new form kept index leads)

-- a symbol that changes keeps its form
form_kept : (change : Symbol → Symbol) (symbols : List Symbol) (at : ℕ) → ((symbol : Symbol) → slice_get symbols at ≡ Some symbol → form_of (change symbol).meaning ≡ form_of symbol.meaning)
    → (index : ℕ) → form_at (changed change symbols at) index ≡ form_at symbols index
unfolding changed
form_kept change [] at keeps index = refl
form_kept change (symbol ∷ symbols) zero keeps zero = keeps symbol refl
form_kept change (symbol ∷ symbols) zero keeps (suc index) = refl
form_kept change (symbol ∷ symbols) (suc at) keeps zero = refl
form_kept change (symbol ∷ symbols) (suc at) keeps (suc index) = form_kept change symbols at keeps index

pub forward_kept : (change : Symbol → Symbol) (symbols : List Symbol) (at : ℕ) → ((symbol : Symbol) → slice_get symbols at ≡ Some symbol → form_of (change symbol).meaning ≡ form_of symbol.meaning)
    → NoFormLeadsBack symbols → NoFormLeadsBack (changed change symbols at)
forward_kept change symbols at keeps = forward_where symbols (changed change symbols at) (λ i f has. sym (form_kept change symbols at keeps i) ∙ has)

-- a symbol more has no form
form_before : (symbols : List Symbol) (one : Symbol) → form_of one.meaning ≡ None → (index : ℕ) (form : Form) → form_at (symbols ++ one ∷ []) index ≡ Some form → form_at symbols index ≡ Some form
form_before [] one none zero form is = absurd (none-some form (sym none ∙ is))
form_before [] one none (suc index) form is = is
form_before (symbol ∷ symbols) one none zero form is = is
form_before (symbol ∷ symbols) one none (suc index) form is = form_before symbols one none index form is

pub forward_push : (symbols : List Symbol) (one : Symbol) → form_of one.meaning ≡ None → NoFormLeadsBack symbols → NoFormLeadsBack (symbols ++ one ∷ [])
forward_push symbols one none = forward_where symbols (symbols ++ one ∷ []) (form_before symbols one none)

-- what is defined has no form
pub meant_formless : (what : Definition) → form_of (meant what) ≡ None
meant_formless (definition.Label spot) = refl
meant_formless (definition.Common size align) = refl
meant_formless (definition.Space spot) = refl

-- WHERE A FORM IS ASSIGNED

-- a form goes on to what a form leads to whose symbol it leads to
leads_on : (symbols : List Symbol) (first : Form) (middle : ℕ) (next : Form) (last : ℕ) → Leads symbols first middle → form_at symbols middle ≡ Some next → Leads symbols next last → Leads symbols first last
leads_on symbols first middle next last leads is (straight index named) = further middle index next leads is named
leads_on symbols first middle next last leads is (further other index then' more has named) = further other index then' (leads_on symbols first middle next other leads is more) has named

-- a form of the map where a symbol was assigned is that form, or stood there
form_written : (form : Form) (symbols : List Symbol) (at index : ℕ) (found : Form) → form_at (changed (with_meaning (Assigned form)) symbols at) index ≡ Some found
    → ((index ≡ at) × (form ≡ found)) ⊎ (form_at symbols index ≡ Some found)
unfolding changed
form_written form [] at index found is = inr is
form_written form (symbol ∷ symbols) zero zero found is = inl (refl, same_Some form found is)
form_written form (symbol ∷ symbols) zero (suc index) found is = inr is
form_written form (symbol ∷ symbols) (suc at) zero found is = inr is
form_written form (symbol ∷ symbols) (suc at) (suc index) found is = elim (form_written form symbols at index found is) [ inl this ↦ inl (ap suc this.0, this.1) | inr stood ↦ inr stood ]

module _ (symbols : List Symbol) (at : ℕ) (form : Form) (apart : Leads symbols form at → ⊥) where
  through_step : (first : Form) (middle last : ℕ) (next : Form) → Leads symbols first middle ⊎ (Leads symbols first at × Leads symbols form middle)
      → ((middle ≡ at) × (form ≡ next)) ⊎ (form_at symbols middle ≡ Some next) → NamesSymbol next last
      → Leads symbols first last ⊎ (Leads symbols first at × Leads symbols form last)
  through_step first middle last next (inl led) (inl this) named =
      inr (subst (λ (i : ℕ). Leads symbols first i) this.0 led, straight last (subst (λ (f : Form). NamesSymbol f last) (sym this.1) named))
  through_step first middle last next (inl led) (inr stood) named = inl (further middle last next led stood named)
  through_step first middle last next (inr both) (inl this) named = inr (both.0, straight last (subst (λ (f : Form). NamesSymbol f last) (sym this.1) named))
  through_step first middle last next (inr both) (inr stood) named = inr (both.0, further middle last next both.1 stood named)

  -- what is led to was led to, or is led to by the new form
  through : (first : Form) (index : ℕ) → Leads (changed (with_meaning (Assigned form)) symbols at) first index → Leads symbols first index ⊎ (Leads symbols first at × Leads symbols form index)
  through first index (straight last named) = inl (straight last named)
  through first index (further middle last next leads is named) = through_step first middle last next (through first middle leads) (form_written form symbols at middle next is) named

  written_by : NoFormLeadsBack symbols → (index : ℕ) (found : Form) → ((index ≡ at) × (form ≡ found)) ⊎ (form_at symbols index ≡ Some found)
      → Leads symbols found index ⊎ (Leads symbols found at × Leads symbols form index) → ⊥
  written_by forward index found (inl this) (inl led) = apart (subst (λ (f : Form). Leads symbols f at) (sym this.1) (subst (λ (i : ℕ). Leads symbols found i) this.0 led))
  written_by forward index found (inl this) (inr both) = apart (subst (λ (f : Form). Leads symbols f at) (sym this.1) both.0)
  written_by forward index found (inr stood) (inl led) = forward index found stood led
  written_by forward index found (inr stood) (inr both) = apart (leads_on symbols form index found at both.1 stood both.0)

  -- a form that does not lead back is assigned
  pub forward_written : NoFormLeadsBack symbols → NoFormLeadsBack (changed (with_meaning (Assigned form)) symbols at)
  forward_written forward index found is leads = written_by forward index found (form_written form symbols at index found is) (through found index leads)
