-- The form of a target names symbols that are there, or the next one.
use Rattle.std.proofs.Common.{◌≡◌, Result, Ok, Err, refl, ap, subst}
use Rattle.asm_expr.specs.Forms.{Form}
use Rattle.asm_expr.specs.Trees.{Tree}
use Rattle.asm_operands.specs.Expressions.{form_in}
use Rattle.asm_operands.specs.declared.place_faults.PlaceCause.{PlaceCause}
use Rattle.asm_values.specs.State.{Placed, here, known_here}
use Rattle.asm_place.specs.declared.codes.InsnForms.{InsnForms}
use Rattle.asm_place.specs.Coding.{forms_of}
use Rattle.asm_place.specs.SymbolPlaces.{AreUpTo, PlacesStand}
use Rattle.asm_place.proofs.Walks.{Fine, made, refused}
use Rattle.asm_place.proofs.StatementSplits.{same_Ok, both_ok}
use Rattle.asm_place.proofs.NamedSymbols.{form_up}
use Rattle.asm_place.proofs.PlaceSteps.{count}

-- the form of the displacement names symbols that are there, or the next one
pub displacement_up : (named : Placed) (own moved : Tree) (forms : InsnForms) → PlacesStand named → forms_of (known_here named) own moved ≡ Ok forms
    → AreUpTo (count named) forms.displacement.terms
displacement_up named own moved forms stands is =
    both_ok (form_in (known_here named) own) _ forms is (λ one one_is more.
    both_ok (form_in (known_here named) moved) _ forms more (λ other other_is made.
    let same : other ≡ forms.displacement = ap (λ (f : InsnForms). f.displacement) (same_Ok _ forms made) in
    subst (λ (f : Form). AreUpTo (count named) f.terms) same
    (form_up named.sections named.table.symbols (here named) moved other stands.symbols other_is)))

pub forms_up : (named : Placed) (own moved : Tree) → PlacesStand named
    → Fine (λ (forms : InsnForms). AreUpTo (count named) forms.displacement.terms) (forms_of (known_here named) own moved)
forms_up named own moved stands = by (forms_of (known_here named) own moved) refl
  where
    by : (answer : Result InsnForms PlaceCause) → forms_of (known_here named) own moved ≡ answer → Fine (λ (forms : InsnForms). AreUpTo (count named) forms.displacement.terms) answer
    by (Ok forms) is = made forms (displacement_up named own moved forms stands is)
    by (Err fault) is = refused fault
