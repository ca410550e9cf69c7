-- A symbol of the section and the place of the field cancel.
use Rattle.std.proofs.Common.{◌≡◌, ℕ, Some, None, Option, refl, sym, ap, ◌∙◌, arith, rules}
use Rattle.std.specs.Prelude.{IfSome, slice_get}
use Rattle.std.proofs.lemmas.Grind.{common_steps}
use Rattle.std.proofs.lemmas.Option.{gets}
use Rattle.asm_expr.specs.Forms.{Form}
use Rattle.asm_expr.specs.Knowledge.{label}
use Rattle.asm_expr.specs.Settled.{settled, constant_left}
use Rattle.asm_frags.specs.SectionOf.{SectionOf}
use Rattle.asm_relax.specs.Final.{address_in, address_of, beside_label}
use Rattle.asm_relax.specs.FieldValues.{told_in_field, IsNearPair}
use Rattle.asm_relax.specs.Settling.{LaidItem, LaidSections}
use Rattle.asm_relax.proofs.DistanceLemmas.{told_else, told_own}
use Rattle.asm_relax.proofs.PairLemmas.{pair_is, beside_is}
use Rattle.asm_relax.proofs.field_values.near_value.Goals as goal

address_there : (sections : LaidSections) (number item offset : ℕ) (found : SectionOf LaidItem) → slice_get sections number ≡ Some found
    → address_of sections number item offset ≡ address_in found.items item offset
unfolding address_of
address_there sections number item offset found there = rw there refl

some_is : (found value : Option ℕ) → found ≡ value → IfSome found (λ n. Some n ≡ value)
some_is None value is = tt
some_is (Some n) value is = is

pub returns : goal.returns
returns c =
    let all = c.args.symbols.now in
    let sections = c.args.sections.now in
    let field = c.args.field.now in
    let one = c.args.one.now in
    let other = c.args.other.now in
    let told = told_in_field all sections field in
    let near : IsNearPair all field one other = c.is_near_pair.ensures (search rules) in
    let spot = c.in_ok-spot.spot in
    let there : slice_get sections field.section ≡ Some c.in_ok-section.section.now = grind (arith, common_steps, gets, c.in_ok-section.ensures.lookup, c.as_slice.ensures.sections) in
    let at : address_of sections field.section spot.place.place.item spot.place.place.offset ≡ c.address_in-at.result =
    address_there sections field.section spot.place.place.item spot.place.place.offset c.in_ok-section.section.now there ∙ sym c.address_in-at.ensures in
    let first : told one.symbol ≡ label field.section c.address_in-at.result =
    told_else all sections field one.symbol near.symbol ∙ c.in_ok-spot.ensures sections ∙ ap (label field.section) at in
    let second : told other.symbol ≡ label field.section c.address_within.result =
    ap told near.own ∙ told_own all sections field near.linked ∙ ap (label field.section) (sym (c.address_within.ensures sections there)) in
    let value : c.beside_label.result ≡ beside_label field.form.constant one.coefficient c.address_in-at.result field.section other.coefficient (label field.section c.address_within.result) = search rules in
    some_is c.beside_label.result (constant_left (settled told field.form))
    (value ∙ beside_is told field.form.constant one other c.requires.kept (search rules) field.section c.address_in-at.result first (label field.section c.address_within.result) second
    ∙ ap (λ (made : Form). constant_left (settled told made)) (sym (pair_is field.form one other c.requires.terms)))
