-- The marks so far, and what is named by the sections to come, are all.
use Rattle.std.proofs.Common.{◌≡◌, ℕ, ◌<◌, ◌||◌, drop, length, map}
use Rattle.elf_symbols.specs.declared.targets.Target.TheVariants.{OfSection, OfSymbol}
use Rattle.elf_object.specs.Naming.{is_named, is_thread_named}
use Rattle.elf_object.specs.Marking.{mark_at}
use Rattle.elf_object.specs.Views.{relocations_in}
use Rattle.elf_object.proofs.naming.named_by.Given as goal

abbrev pub invariant-loop-section : goal.invariant-loop-section
invariant-loop-section l = record {
  all_sections : length l.named.sections.items ≡ length l.held;
  all_symbols : length l.named.symbols.items ≡ l.symbols;
  all_threads : length l.named.thread_locals.items ≡ l.symbols;
  sections : (number : ℕ) → number < length l.held
      → (mark_at l.named.sections.items number || is_named (map relocations_in (drop l.section-index l.held)) (OfSection number))
      ≡ is_named (map relocations_in l.held) (OfSection number);
  symbols : (index : ℕ) → index < l.symbols
      → (mark_at l.named.symbols.items index || is_named (map relocations_in (drop l.section-index l.held)) (OfSymbol index))
      ≡ is_named (map relocations_in l.held) (OfSymbol index);
  thread_locals : (index : ℕ) → index < l.symbols
      → (mark_at l.named.thread_locals.items index || is_thread_named (map relocations_in (drop l.section-index l.held)) (OfSymbol index))
      ≡ is_thread_named (map relocations_in l.held) (OfSymbol index);
}
