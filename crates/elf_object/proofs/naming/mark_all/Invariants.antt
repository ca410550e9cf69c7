-- The marks so far, and what is named by the relocations to come, are all.
use Rattle.std.proofs.Common.{◌≡◌, ℕ, ◌<◌, ◌||◌, drop, length}
use Rattle.elf_symbols.specs.declared.targets.Target.TheVariants.{OfSection, OfSymbol}
use Rattle.elf_object.specs.Naming.{is_named_by, is_thread_named_by}
use Rattle.elf_object.specs.Marking.{mark_at}
use Rattle.elf_object.proofs.naming.mark_all.Given as goal

abbrev pub invariant-loop-relocation : goal.invariant-loop-relocation
invariant-loop-relocation l = record {
  same_sections : length l.named.sections.items ≡ length l.fn.named.sections.items;
  same_symbols : length l.named.symbols.items ≡ length l.fn.named.symbols.items;
  same_threads : length l.named.thread_locals.items ≡ length l.fn.named.thread_locals.items;
  sections : (number : ℕ) → number < length l.fn.named.sections.items
      → (mark_at l.named.sections.items number || is_named_by (OfSection number) (drop l.relocation-index l.relocations))
      ≡ (mark_at l.fn.named.sections.items number || is_named_by (OfSection number) l.relocations);
  symbols : (index : ℕ) → index < length l.fn.named.symbols.items
      → (mark_at l.named.symbols.items index || is_named_by (OfSymbol index) (drop l.relocation-index l.relocations))
      ≡ (mark_at l.fn.named.symbols.items index || is_named_by (OfSymbol index) l.relocations);
  thread_locals : (index : ℕ) → index < length l.fn.named.thread_locals.items
      → (mark_at l.named.thread_locals.items index || is_thread_named_by (OfSymbol index) (drop l.relocation-index l.relocations))
      ≡ (mark_at l.fn.named.thread_locals.items index || is_thread_named_by (OfSymbol index) l.relocations);
}
