-- Symbols of which some count as undefined.
use Rattle.std.proofs.Common.{◌≡◌, ℕ, zero, suc, Bool, true, false, cond, List, [], ◌∷◌, length, map, Option, None, Some, refl, sym, ap, ◌∙◌}
use Rattle.std.specs.Prelude.{slice_index_or}
use Rattle.asm_expr.specs.Forms.{Form}
use Rattle.asm_symbols.specs.declared.entries.Symbol.{Symbol}
use Rattle.asm_symbols.specs.SymbolMap.{SymbolMap}
use Rattle.asm_symbols.specs.Assigning.{form_at, Leads, straight, further, NoFormLeadsBack}
use Rattle.assigned_forms.specs.Opened.{opened_if, all_opened, opened}

all_long : (marks : List Bool) (symbols : List Symbol) → length (all_opened marks symbols) ≡ length symbols
all_long [] symbols = refl
all_long (mark ∷ marks) [] = refl
all_long (mark ∷ marks) (symbol ∷ symbols) = ap suc (all_long marks symbols)

-- the form of a symbol is left where it is not marked
form_opened : (marks : List Bool) (symbols : List Symbol) (at : ℕ) → form_at (all_opened marks symbols) at ≡ cond (slice_index_or marks at false) None (form_at symbols at)
form_opened [] symbols at = refl
form_opened (true ∷ marks) [] zero = refl
form_opened (false ∷ marks) [] zero = refl
form_opened (mark ∷ marks) [] (suc at) = none (slice_index_or marks at false)
  where
    none : (b : Bool) → None ≡ cond b None (form_at [] (suc at))
    none true = refl
    none false = refl
form_opened (true ∷ marks) (symbol ∷ symbols) zero = refl
form_opened (false ∷ marks) (symbol ∷ symbols) zero = refl
form_opened (mark ∷ marks) (symbol ∷ symbols) (suc at) = form_opened marks symbols at

pub none_opened : (map' : SymbolMap) → opened map' [] ≡ map'
unfolding opened
none_opened map' = refl

module _ (map' : SymbolMap) (marks : List Bool) where
  pub opened_long : length (opened map' marks).symbols ≡ length map'.symbols
  unfolding opened
  opened_long = all_long marks map'.symbols

  pub marked_form : (at : ℕ) → slice_index_or marks at false ≡ true → form_at (opened map' marks).symbols at ≡ None
  unfolding opened
  marked_form at is = form_opened marks map'.symbols at ∙ ap (λ b. cond b None (form_at map'.symbols at)) is

  pub unmarked_form : (at : ℕ) → slice_index_or marks at false ≡ false → form_at (opened map' marks).symbols at ≡ form_at map'.symbols at
  unfolding opened
  unmarked_form at is = form_opened marks map'.symbols at ∙ ap (λ b. cond b None (form_at map'.symbols at)) is

  -- a form that is left was there before
  was_there : (at : ℕ) (form : Form) → form_at (opened map' marks).symbols at ≡ Some form → form_at map'.symbols at ≡ Some form
  unfolding opened
  was_there at form is = by (slice_index_or marks at false) (sym (form_opened marks map'.symbols at) ∙ is)
    where
      by : (b : Bool) → cond b None (form_at map'.symbols at) ≡ Some form → form_at map'.symbols at ≡ Some form
      by true is = cc
      by false is = is

  led_before : (form : Form) (at : ℕ) → Leads (opened map' marks).symbols form at → Leads map'.symbols form at
  led_before form at (straight index named) = straight index named
  led_before form at (further middle index next leads is named) = further middle index next (led_before form middle leads) (was_there middle next is) named

  pub none_leads_back : NoFormLeadsBack map'.symbols → NoFormLeadsBack (opened map' marks).symbols
  none_leads_back forward at form is leads = forward at form (was_there at form is) (led_before form at leads)
