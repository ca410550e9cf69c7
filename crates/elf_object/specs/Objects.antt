-- What sections and symbols stand for: an object, or the first fault.
use Rattle.std.specs.Prelude.{ℕ, List, Result}
use Rattle.asm_symbols.specs.SymbolMap.{SymbolMap}
use Rattle.asm_relax.specs.Settling.{LaidSections, unless}
use Rattle.elf_object.specs.declared.faults.ObjectCause.{ObjectCause}
use Rattle.elf_object.specs.Faults.{object_fault}
use Rattle.elf_object.specs.Image.{image_of}

-- the bytes of the object, or why there is none
abbrev pub object_of : SymbolMap → LaidSections → Result (List ℕ) ObjectCause
object_of symbols sections = unless (object_fault symbols sections) (image_of symbols sections)
