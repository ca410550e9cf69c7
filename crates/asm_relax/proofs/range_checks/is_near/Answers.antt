-- Both places stand low in their section.
use Rattle.std.proofs.Common.{◌≡◌, Some, arith, rules}
use Rattle.std.specs.Prelude.{slice_get}
use Rattle.std.proofs.lemmas.Grind.{common_steps}
use Rattle.std.proofs.lemmas.Option.{gets}
use Rattle.asm_frags.specs.SectionOf.{SectionOf}
use Rattle.asm_relax.specs.FieldValues.{IsNearPair}
use Rattle.asm_relax.specs.LowPlaces.{KeepsLow, IsSmall}
use Rattle.asm_relax.specs.Settling.{LaidItem}
use Rattle.asm_relax.proofs.LowPlaceLemmas.{all_get}
use Rattle.asm_relax.proofs.NearFields.{near_misfit}
use Rattle.asm_relax.proofs.range_checks.is_near.Goals as goal

pub returns-then-are_within : goal.returns-then-are_within
returns-then-are_within c = λ is.
    let all = c.args.symbols.now in
    let sections = c.args.sections.now in
    let field = c.args.field.now in
    let section = c.in-Some-get.section.now in
    let spot = c.in-Some.spot in
    let near : IsNearPair all field c.args.one.now c.args.other.now = c.is_near_pair.ensures (search rules) in
    let small : IsSmall field = c.is_small.ensures is in
    let there : slice_get sections field.section ≡ Some section = grind (arith, common_steps, gets, c.in-Some-get.ensures.lookup, c.as_slice.ensures.sections) in
    let keeps : KeepsLow section = all_get (λ (one : SectionOf LaidItem). KeepsLow one) sections field.section section there c.requires.low in
    near_misfit all sections field section there keeps c.are_within.ensures.low c.args.one.now c.args.other.now spot.place.place.item spot.place.place.offset c.requires.terms near (c.in-Some.ensures sections)
    (c.are_within.ensures.within (search rules)) small
