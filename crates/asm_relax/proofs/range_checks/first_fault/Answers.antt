-- No section is too large, so that places stand low.
use Rattle.std.proofs.Common.{◌≡◌, Option, Some, None, false, is_some, refl, sym, ap, ◌∙◌}
use Rattle.asm_relax.specs.declared.faults.LayoutFault.{LayoutFault}
use Rattle.asm_relax.specs.Faults.{first_of}
use Rattle.asm_relax.specs.RangeChecks.{large_section}
use Rattle.asm_relax.specs.Settling.{LaidSections}
use Rattle.asm_relax.proofs.LowPlaceLemmas.{keeps_all}
use Rattle.asm_relax.proofs.range_checks.first_fault.Goals as goal

is_none : (found : Option LayoutFault) → is_some found ≡ false → found ≡ None
is_none None is = refl
is_none (Some fault) is = absurd cc

pub first_misfit-requires : goal.first_misfit-requires
first_misfit-requires c =
    let none : c.first_large_section-found.result ≡ None = is_none c.first_large_section-found.result (sym c.is_some.ensures ∙ c.if-is_some.false) in
    let all : first_of large_section c.args.sections.now ≡ None =
    ap (λ (sections : LaidSections). first_of large_section sections) (sym c.as_slice.ensures.sections) ∙ sym c.first_large_section-found.ensures ∙ none in
    record { low = keeps_all c.args.sections.now c.requires.moves all }
