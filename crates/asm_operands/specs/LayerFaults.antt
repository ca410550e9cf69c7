-- The faults of symbols and sections, as faults of a statement.
use Rattle.std.specs.Prelude.{Result, Ok, Err}
use Rattle.asm_operands.specs.declared.place_faults.PlaceCause.{PlaceCause}
use Rattle.asm_operands.specs.declared.place_faults.PlaceCause.TheVariants as placing
use Rattle.asm_base.specs.declared.causes.SymCause.{SymCause}
use Rattle.asm_base.specs.declared.causes.SymCause.TheVariants as symbol
use Rattle.asm_base.specs.declared.causes.FragCause.{FragCause}
use Rattle.asm_base.specs.declared.causes.FragCause.TheVariants as frag

-- the fault of a symbol as one of placing
abbrev pub symbol_fault : SymCause → PlaceCause
symbol_fault symbol.SymbolAlreadyDefined = placing.SymbolAlreadyDefined
symbol_fault symbol.BadSymbolUse = placing.BadSymbolUse

-- the fault of a section as one of placing
abbrev pub section_fault : FragCause → PlaceCause
section_fault frag.BadSection = placing.BadSection

-- what the symbol map answers, as a statement has it
abbrev pub of_symbols : {A : Type 0} → Result A SymCause → Result A PlaceCause
of_symbols (Ok made) = Ok made
of_symbols (Err fault) = Err (symbol_fault fault)

-- what the sections answer, as a statement has it
abbrev pub of_sections : {A : Type 0} → Result A FragCause → Result A PlaceCause
of_sections (Ok made) = Ok made
of_sections (Err fault) = Err (section_fault fault)
