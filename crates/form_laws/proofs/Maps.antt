-- Changes of the symbol map by which no symbol goes and no form comes, and those by which one form comes.
use Rattle.std.proofs.Common.{◌≡◌, ℕ, zero, suc, ◌+◌, ◌<◌, ◌≤◌, ◌⊎◌, inl, inr, Bool, true, false, cond, List, [], ◌∷◌, ◌++◌, length, Option, None, Some, Ok, Err, refl, sym, ap, subst, ◌∙◌, arith, length-append}
use Rattle.std.specs.Prelude.{slice_get, is_some}
use Rattle.std.proofs.lemmas.Option.{none-some, same_Some}
use Rattle.asm_expr.specs.declared.naming.Name.{Name}
use Rattle.asm_expr.specs.Forms.{Form, constant_form}
use Rattle.asm_base.specs.declared.causes.SymCause.{SymCause}
use Rattle.asm_base.specs.declared.causes.SymCause.TheVariants.{BadSymbolUse}
use Rattle.asm_symbols.specs.declared.entries.Binding.{Binding}
use Rattle.asm_symbols.specs.declared.entries.Definition.{Definition}
use Rattle.asm_symbols.specs.declared.entries.Definition.TheVariants as definition
use Rattle.asm_symbols.specs.declared.entries.Kind.{Kind}
use Rattle.asm_symbols.specs.declared.entries.Meaning.{Meaning}
use Rattle.asm_symbols.specs.declared.entries.Meaning.TheVariants as meaning
use Rattle.asm_symbols.specs.declared.entries.Symbol.{Symbol}
use Rattle.asm_symbols.specs.declared.entries.SymbolAttribute.{SymbolAttribute}
use Rattle.asm_symbols.specs.declared.entries.SymbolAttribute.TheVariants.{Bind, See}
use Rattle.asm_symbols.specs.SymbolMap.{SymbolMap, names, index_of, changed, with_meaning}
use Rattle.asm_symbols.specs.Assigning.{form_of, form_at, form_fault_at, with_form}
use Rattle.asm_symbols.specs.Attributes.{with_binding, with_kind, with_visibility, with_size, with_next_size, bound_as, bound_by, bound}
use Rattle.asm_symbols.specs.Defining.{meant, redefined, with_defined, defined_by, defined}
use Rattle.asm_symbols.specs.Interning.{undefined, with_name, named, interned, has_room, with_file}
use Rattle.asm_symbols.specs.LeadsBack.{leads_back, assigned_by, assigned}
use Rattle.asm_uses.specs.Attributes.{said, kind_said, as_space, space_kind}
use Rattle.form_laws.proofs.Steps.{Fine, made, refused, step, after, either}

-- no symbol goes, and each form was there
pub record Keeps (before after : SymbolMap) : Type 0 where
  pub more : length before.symbols ≤ length after.symbols
  pub forms : (index : ℕ) (form : Form) → form_at after.symbols index ≡ Some form → form_at before.symbols index ≡ Some form

-- a map that stays
pub same : (map : SymbolMap) → Keeps map map
same map = record { more = omega arith; forms = λ index form is. is }

-- a change behind another
pub both : (one two three : SymbolMap) → Keeps one two → Keeps two three → Keeps one three
both one two three first last =
    let more = first.more in
    let still = last.more in
    record { more = omega (arith, more, still); forms = λ index form is. first.forms index form (last.forms index form is) }

-- ONE SYMBOL CHANGES

pub changed_long : (change : Symbol → Symbol) (symbols : List Symbol) (at : ℕ) → length (changed change symbols at) ≡ length symbols
unfolding changed
changed_long change [] at = refl
changed_long change (symbol ∷ rest) zero = refl
changed_long change (symbol ∷ rest) (suc at) = ap suc (changed_long change rest at)

pub changed_names : (change : Symbol → Symbol) → ((symbol : Symbol) → (change symbol).name ≡ symbol.name) → (symbols : List Symbol) (at : ℕ)
    → names (changed change symbols at) ≡ names symbols
unfolding changed
changed_names change kept [] at = refl
changed_names change kept (symbol ∷ rest) zero = ap (λ (name : Name). name ∷ names rest) (kept symbol)
changed_names change kept (symbol ∷ rest) (suc at) = ap (λ (others : List Name). symbol.name ∷ others) (changed_names change kept rest at)

-- the change gives a symbol no form that it had not
abbrev GivesNoForm : (Symbol → Symbol) → Type 0
GivesNoForm change = (symbol : Symbol) (form : Form) → form_of (change symbol).meaning ≡ Some form → form_of symbol.meaning ≡ Some form

changed_form : (change : Symbol → Symbol) → GivesNoForm change → (symbols : List Symbol) (at index : ℕ) (form : Form)
    → form_at (changed change symbols at) index ≡ Some form → form_at symbols index ≡ Some form
unfolding changed
changed_form change gives [] at index form is = is
changed_form change gives (symbol ∷ symbols) zero zero form is = gives symbol form is
changed_form change gives (symbol ∷ symbols) zero (suc index) form is = is
changed_form change gives (symbol ∷ symbols) (suc at) zero form is = is
changed_form change gives (symbol ∷ symbols) (suc at) (suc index) form is = changed_form change gives symbols at index form is

changed_keeps : (change : Symbol → Symbol) → GivesNoForm change → (map : SymbolMap) (at : ℕ) (after : SymbolMap) → after.symbols ≡ changed change map.symbols at → Keeps map after
changed_keeps change gives map at after is =
    let long : length after.symbols ≡ length map.symbols = ap (λ (all : List Symbol). length all) is ∙ changed_long change map.symbols at in
    record {
      more = omega (arith, long);
      forms = λ index form has. changed_form change gives map.symbols at index form (subst (λ (all : List Symbol). form_at all index ≡ Some form) is has);
    }

-- A NAME MORE

pushed_form : (symbols : List Symbol) (name : Name) (index : ℕ) (form : Form) → form_at (symbols ++ undefined name ∷ []) index ≡ Some form → form_at symbols index ≡ Some form
pushed_form [] name zero form is = absurd (none-some form is)
pushed_form [] name (suc index) form is = is
pushed_form (symbol ∷ symbols) name zero form is = is
pushed_form (symbol ∷ symbols) name (suc index) form is = pushed_form symbols name index form is

pub push_keeps : (map : SymbolMap) (name : Name) → Keeps map (with_name map name)
push_keeps map name =
    let long = length-append map.symbols (undefined name ∷ []) in
    record { more = omega (arith, long); forms = pushed_form map.symbols name }

pub interned_keeps : (map : SymbolMap) (name : Name) → Keeps map (interned map name)
unfolding interned
interned_keeps map name = by (is_some (index_of name (names map.symbols)))
  where
    by : (test : Bool) → Keeps map (cond test map (with_name map name))
    by true = same map
    by false = push_keeps map name

added_keeps : (test : Bool) (map : SymbolMap) (name : Name)
    → Fine (λ (pair : SymbolMap × ℕ). Keeps map pair.0) (cond test (Ok (with_name map name, length map.symbols)) (Err BadSymbolUse))
added_keeps true map name = made _ (push_keeps map name)
added_keeps false map name = refused _

pub named_keeps : (map : SymbolMap) (name : Name) → Fine (λ (pair : SymbolMap × ℕ). Keeps map pair.0) (named map name)
unfolding named
named_keeps map name = by (index_of name (names map.symbols)) refl
  where
    by : (found : Option ℕ) → index_of name (names map.symbols) ≡ found → Fine (λ (pair : SymbolMap × ℕ). Keeps map pair.0) (named map name)
    by (Some index) is = rw is (made (map, index) (same map))
    by None is = rw is (added_keeps (has_room map name) map name)

-- a name that is new is one symbol more
added_longer : (test : Bool) (map : SymbolMap) (name : Name)
    → Fine (λ (pair : SymbolMap × ℕ). length map.symbols < length pair.0.symbols) (cond test (Ok (with_name map name, length map.symbols)) (Err BadSymbolUse))
added_longer true map name = let long = length-append map.symbols (undefined name ∷ []) in made _ (omega (arith, long))
added_longer false map name = refused _

pub named_longer : (map : SymbolMap) (name : Name) → index_of name (names map.symbols) ≡ None → Fine (λ (pair : SymbolMap × ℕ). length map.symbols < length pair.0.symbols) (named map name)
unfolding named
named_longer map name is = rw is (added_longer (has_room map name) map name)

pub file_keeps : (map : SymbolMap) (name : Name) → Fine (Keeps map) (with_file map name)
unfolding with_file
file_keeps map name = either (has_room map name) (made _ (record { more = omega arith; forms = λ index form is. is })) (refused _)

-- WHAT IS SAID OF A SYMBOL

meant_formless : (what : Definition) → form_of (meant what) ≡ None
meant_formless (definition.Label spot) = refl
meant_formless (definition.Common size align) = refl
meant_formless (definition.Space spot) = refl

redefined_formless : (now : Meaning) (what : Definition) → Fine (λ (new : Meaning). form_of new ≡ None) (redefined now what)
redefined_formless meaning.Undefined what = made (meant what) (meant_formless what)
redefined_formless (meaning.Label spot) what = refused _
redefined_formless (meaning.Space spot) what = refused _
redefined_formless (meaning.Common size align) what = refused _
redefined_formless (meaning.Assigned form) (definition.Label spot) = refused _
redefined_formless (meaning.Assigned form) (definition.Common size align) = refused _
redefined_formless (meaning.Assigned form) (definition.Space spot) = refused _

pub defined_keeps : (what : Definition) (map : SymbolMap) (at : ℕ) → Fine (Keeps map) (defined map at what)
unfolding defined
defined_keeps what map at = by (slice_get map.symbols at)
  where
    by : (found : Option Symbol) → Fine (Keeps map) (defined_by found map at what)
    by None = refused _
    by (Some symbol) =
        step (redefined_formless symbol.meaning what)
        (λ now formless. made _ (changed_keeps (with_meaning now) (λ one form has. absurd (none-some form (sym formless ∙ has))) map at
        (with_defined map at symbol.name what now) refl))

bound_keeps : (binding : Binding) (map : SymbolMap) (at : ℕ) → Fine (Keeps map) (bound map at binding)
unfolding bound
bound_keeps binding map at = by (slice_get map.symbols at)
  where
    by : (found : Option Symbol) → Fine (Keeps map) (bound_by found map at binding)
    by None = refused _
    by (Some symbol) =
        after (bound_as symbol.meaning symbol.binding binding) (λ now. made _ (changed_keeps (with_binding now) (λ one form has. has) map at _ refl))

pub said_keeps : (attribute : SymbolAttribute) (map : SymbolMap) (at : ℕ) → Fine (Keeps map) (said attribute map at)
said_keeps (Bind binding) map at = bound_keeps binding map at
said_keeps (See visibility) map at = made _ (changed_keeps (with_visibility visibility) (λ one form has. has) map at _ refl)

pub kind_keeps : (kind : Kind) (map : SymbolMap) (at : ℕ) → Fine (Keeps map) (kind_said kind map at)
kind_keeps kind map at = made _ (changed_keeps (with_kind kind) (λ one form has. has) map at _ refl)

pub size_keeps : (size : Form) (map : SymbolMap) (at : ℕ) → Keeps map (with_next_size size map at)
size_keeps size map at = changed_keeps (with_size size (map.sizes + 1)) (λ one form has. has) map at (with_next_size size map at) refl

pub space_keeps : (size : ℕ) (map : SymbolMap) (at : ℕ) → Keeps map (as_space size map at)
space_keeps size map at =
    both map (with_next_size (constant_form size) map at) (as_space size map at) (size_keeps (constant_form size) map at)
    (changed_keeps (with_kind (space_kind map at)) (λ one form has. has) (with_next_size (constant_form size) map at) at (as_space size map at) refl)

-- A FORM COMES

-- the map is the one with this form
abbrev pub TakesForm : SymbolMap → ℕ → Form → SymbolMap → Type 0
TakesForm map at form after = after ≡ with_form map at form

pub assigned_takes : (map : SymbolMap) (at : ℕ) (form : Form) (once : Bool) → Fine (TakesForm map at form) (assigned map at form once)
unfolding assigned
assigned_takes map at form once = by (form_fault_at map at once) (leads_back map.symbols form at)
  where
    by : (fault : Option SymCause) (back : Bool) → Fine (TakesForm map at form) (assigned_by fault back (with_form map at form))
    by (Some fault) back = refused _
    by None true = refused _
    by None false = made _ refl

-- a form of the map with it is this one, or was there
pub form_written : (form : Form) (symbols : List Symbol) (at index : ℕ) (found : Form) → form_at (changed (with_meaning (meaning.Assigned form)) symbols at) index ≡ Some found
    → ((index ≡ at) × (form ≡ found)) ⊎ (form_at symbols index ≡ Some found)
unfolding changed
form_written form [] at index found is = inr is
form_written form (symbol ∷ symbols) zero zero found is = inl (refl, same_Some form found is)
form_written form (symbol ∷ symbols) zero (suc index) found is = inr is
form_written form (symbol ∷ symbols) (suc at) zero found is = inr is
form_written form (symbol ∷ symbols) (suc at) (suc index) found is =
    elim (form_written form symbols at index found is) [ inl this ↦ inl (ap suc this.0, this.1) | inr stood ↦ inr stood ]
