-- What is known of the symbol is what is known of the name.
use Rattle.std.proofs.Common.{subst}
use Rattle.asm_symbols.specs.Looking.{told}
use Rattle.asm_symbols.specs.SymbolMap.{SymbolMap}
use Rattle.asm_values.specs.PlacedBy.{placed_by}
use Rattle.att_operands.specs.Values.{IsFitting}
use Rattle.amount_forms.proofs.NamedForms.{fits_found}
use Rattle.amount_forms.proofs.fits.symbol_fits.Goals as goal

pub returns : goal.returns
returns c =
    let Fits : SymbolMap → Type 0 = λ map. IsFitting (told map c.args.symbol) in
    fits_found (placed_by c.args.assembler.now) c.args.bytes.now c.args.symbol c.texts_are_no_place.ensures c.requires (subst Fits c.symbols.ensures c.told_fits.ensures)
