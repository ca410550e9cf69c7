-- The entries so far, and those to come, are all.
use Rattle.std.proofs.Common.{◌≡◌, ◌++◌, drop}
use Rattle.elf_object.specs.Sections.{relocation_bytes}
use Rattle.elf_symbols.specs.Views.{numbers_view}
use Rattle.elf_object.proofs.sections.relocation_bytes.Given as goal

abbrev pub invariant-loop-relocation : goal.invariant-loop-relocation
invariant-loop-relocation l =
    l.out.items ++ relocation_bytes (numbers_view l.numbers) (drop l.relocation-index l.relocations) ≡ relocation_bytes (numbers_view l.numbers) l.relocations
