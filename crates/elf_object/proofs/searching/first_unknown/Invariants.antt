-- The earliest one so far, or one of the symbols that are left.
use Rattle.std.proofs.Common.{◌≡◌, drop}
use Rattle.elf_object.specs.Faults.{earlier, first_unknown}
use Rattle.elf_object.proofs.searching.first_unknown.Given as goal

abbrev pub invariant-loop-index : goal.invariant-loop-index
invariant-loop-index l =
    earlier l.found (first_unknown l.at.symbols.now l.at.sections.now l.index (drop l.index l.symbols))
    ≡ first_unknown l.at.symbols.now l.at.sections.now 0 l.symbols
