-- The forms of a name and a number more, where the name has a symbol.
use Rattle.std.proofs.Common.{◌≡◌, ℕ, false, List, length, Some, unwrap_or, Result, Ok, refl, sym, ap, subst, ◌∙◌}
use Rattle.asm_expr.specs.declared.naming.Name.{Name}
use Rattle.asm_expr.specs.declared.naming.Name.TheVariants as naming
use Rattle.asm_expr.specs.declared.trees.Written.TheVariants as written
use Rattle.asm_expr.specs.Forms.{Form}
use Rattle.asm_expr.specs.Knowledge.{Told, Knowledge}
use Rattle.asm_expr.specs.Linear.{linear, binary_form}
use Rattle.asm_operands.specs.declared.place_faults.PlaceCause.{PlaceCause}
use Rattle.asm_operands.specs.Expressions.{form_in}
use Rattle.asm_symbols.specs.declared.entries.Spot.{Spot}
use Rattle.asm_symbols.specs.Interning.{number_of}
use Rattle.asm_symbols.specs.Looking.{told}
use Rattle.asm_symbols.specs.SymbolMap.{SymbolMap, names, index_of}
use Rattle.asm_uses.specs.declared.plain_sums.Plain.{Plain}
use Rattle.asm_uses.specs.declared.sums.Operand.TheVariants.{Number, Symbol}
use Rattle.asm_uses.specs.declared.sums.Added.TheVariants.{Plus}
use Rattle.asm_uses.specs.declared.sums.SymbolSum.{SymbolSum}
use Rattle.asm_uses.specs.Places.{known_at, uses_place}
use Rattle.asm_uses.specs.PlainSums.{plain_form, IsElsewhere, IsPlain}
use Rattle.asm_uses.specs.SumForms.{sum_form}
use Rattle.asm_values.specs.State.{Placed, here, known_here}
use Rattle.att_operands.specs.Values.{IsFitting}
use Rattle.x86_insn.specs.Amounts.{named_tree}
use Rattle.amount_forms.specs.Amounts.{NameFits}

-- a symbol, and a number more
abbrev pub moved : ℕ → ℕ → SymbolSum
moved index more = record { first = Symbol index; second = Plus (Number more) }

-- the form of the tree is that of the symbol that the name means, and the number
pub named_sum : (known : Knowledge) (bytes : List ℕ) (more : ℕ) → form_in known (named_tree bytes more) ≡ Ok (sum_form known (moved (known.meant (written.Plain bytes)) more))
unfolding form_in linear binary_form sum_form
named_sum known bytes more = refl

-- the number of a name that is found
number_is : (map : SymbolMap) (name : Name) (index : ℕ) → index_of name (names map.symbols) ≡ Some index → number_of map name ≡ index
unfolding number_of
number_is map name index is = ap (λ found. unwrap_or found (length map.symbols)) is

module _ (map : SymbolMap) (spot : Spot) (bytes : List ℕ) (more index : ℕ) (plain : Plain) (is : index_of (naming.Plain bytes) (names map.symbols) ≡ Some index)
    (elsewhere : IsElsewhere map (known_at map spot) index) (found : IsPlain map (Symbol index) (Plus (Number more)) plain) where
  -- so the form is a plain one, if one is found
  pub plain_named : form_in (known_at map spot) (named_tree bytes more) ≡ Ok (plain_form (told map) plain)
  unfolding sum_form
  plain_named =
      named_sum (known_at map spot) bytes more
      ∙ (ap (λ own. let made : Result Form PlaceCause = Ok (sum_form (known_at map spot) (moved own more)) in made) (number_is map (naming.Plain bytes) index is)
      ∙ ap (λ form. let made : Result Form PlaceCause = Ok form in made) (found.form (known_at map spot) elsewhere tt))

  -- and does not keep the place
  pub plain_is_free : uses_place (known_at map spot).place (plain_form (told map) plain) ≡ false
  plain_is_free = found.free (known_at map spot) elsewhere tt

-- the same where the name is looked for at a statement, and the form was made
module _ (placed : Placed) (bytes : List ℕ) (more index : ℕ) (plain : Plain) (form : Form)
    (law : (map : SymbolMap) (spot : Spot) (text : List ℕ) (index : ℕ) → index_of (naming.Plain text) (names map.symbols) ≡ Some index → IsElsewhere map (known_at map spot) index) where
  abbrev Here : Type 0
  Here = form_in (known_here placed) (named_tree bytes more) ≡ Ok form

  abbrev Free : Type 0
  Free = uses_place (known_here placed).place form ≡ false

  form_in_table : index_of (naming.Plain bytes) (names placed.table.symbols.symbols) ≡ Some index → IsPlain placed.table.symbols (Symbol index) (Plus (Number more)) plain
      → form ≡ plain_form (told placed.table.symbols) plain → Here × Free
  form_in_table is found made =
      let elsewhere = law placed.table.symbols (here placed) bytes index is in (
        plain_named placed.table.symbols (here placed) bytes more index plain is elsewhere found ∙ ap (λ form. let made : Result Form PlaceCause = Ok form in made) (sym made),
        ap (uses_place (known_here placed).place) made ∙ plain_is_free placed.table.symbols (here placed) bytes more index plain is elsewhere found,
      )

  pub form_found : (map : SymbolMap) → map ≡ placed.table.symbols → index_of (naming.Plain bytes) (names map.symbols) ≡ Some index → IsPlain map (Symbol index) (Plus (Number more)) plain
      → form ≡ plain_form (told map) plain → Here × Free
  form_found map same is found made =
      form_in_table (subst (λ (m : SymbolMap). index_of (naming.Plain bytes) (names m.symbols) ≡ Some index) same is)
      (subst (λ (m : SymbolMap). IsPlain m (Symbol index) (Plus (Number more)) plain) same found) (subst (λ (m : SymbolMap). form ≡ plain_form (told m) plain) same made)

-- what is known of a name that is found is what its symbol is told as
pub fits_found : (placed : Placed) (bytes : List ℕ) (index : ℕ)
    → ((map : SymbolMap) (spot : Spot) (text : List ℕ) (index : ℕ) → index_of (naming.Plain text) (names map.symbols) ≡ Some index → IsElsewhere map (known_at map spot) index)
    → index_of (naming.Plain bytes) (names placed.table.symbols.symbols) ≡ Some index → IsFitting (told placed.table.symbols index) → NameFits (known_here placed) bytes
fits_found placed bytes index law is fits =
    let map = placed.table.symbols in
    let known = known_here placed in
    subst (λ own. IsFitting (known.told own)) (sym (number_is map (naming.Plain bytes) index is))
    (subst (λ (told : Told). IsFitting told) (sym (law map (here placed) bytes index is).told) fits)
