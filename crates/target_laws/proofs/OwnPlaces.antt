-- The form of a branch's field names its own place minus once, however assigned symbols are put in.
use Rattle.std.proofs.Common.{◌≡◌, ◌-◌, ◌^◌, ◌<◌, false, cond, List, [], ◌∷◌, ◌++◌, refl, sym, ap, ◌∙◌, subst, arith}
use Rattle.std.specs.Prelude.{◌==◌}
use Rattle.asm_expr.specs.declared.forms.Term.{Term}
use Rattle.asm_expr.specs.Forms.{Form, wrapped, term_of}
use Rattle.asm_expr.specs.Coefficients.{times, coefficient, is_among}
use Rattle.asm_symbols.specs.SymbolMap.{SymbolMap}
use Rattle.asm_frags.specs.Fields.{own_place}
use Rattle.assigned_forms.specs.Linked.{linked}
use Rattle.asm_place.specs.Coding.{from_own_place}
use Rattle.target_laws.specs.Targets.{NamesNoField, AreExpandable}
use Rattle.target_laws.proofs.Distances.{apart_of}
use Rattle.target_laws.proofs.Branching.{less_place, less_constant, split}

-- behind terms that do not name it the place counts as often as it is put there
counted_last : (terms : List Term) → is_among own_place terms ≡ false → times own_place (terms ++ term_of own_place (2 ^ 64 - 1) ∷ []) ≡ 2 ^ 64 - 1
counted_last [] none = refl
counted_last (term ∷ terms) none =
    let parts = apart_of own_place (term.symbol == own_place) (is_among own_place terms) none in
    let here : cond (term.symbol == own_place) term.coefficient 0 ≡ 0 = ap (λ b. cond b term.coefficient 0) parts.0 in
    let later = counted_last terms parts.1 in
    omega (arith, here, later)

module _ (symbols : SymbolMap) (expandable : AreExpandable symbols) (target : Form) (plain : NamesNoField target) where
  pub names_own_place : coefficient (linked symbols (from_own_place target)) own_place ≡ 2 ^ 64 - 1
  names_own_place =
      let is = split symbols expandable target plain in
      ap (λ (f : Form). coefficient f own_place) is.is ∙ ap (λ (terms : List Term). wrapped (times own_place terms)) (less_place is.rest is.plain)
      ∙ ap wrapped (counted_last is.rest.terms is.plain)

  -- its number has 64 bits
  pub constant_small : (linked symbols (from_own_place target)).constant < 2 ^ 64
  constant_small =
      let is = split symbols expandable target plain in
      let once = less_constant is.rest in
      subst (λ (f : Form). f.constant < 2 ^ 64) (sym is.is) (omega (arith, once))
