-- What marking more relocations changes.
use Rattle.std.specs.Prelude.{◌≡◌, ℕ, ◌<◌, ◌||◌, Bool, false, List, length, slice_index_or}
use Rattle.elf_object.specs.declared.relocations.Relocation.{Relocation}
use Rattle.elf_symbols.specs.declared.targets.Target.TheVariants.{OfSection, OfSymbol}
use Rattle.elf_symbols.specs.Targets.{NamedOf}
use Rattle.elf_object.specs.Naming.{is_named_by, is_thread_named_by}

-- the mark of this number, and false behind the last
abbrev pub mark_at : List Bool → ℕ → Bool
mark_at marks index = slice_index_or marks index false

-- as many marks as before, and those set that these relocations name
pub record Marks (old new : NamedOf) (found : List Relocation) : Type 0 where
  pub same_sections : length new.sections ≡ length old.sections
  pub same_symbols : length new.symbols ≡ length old.symbols
  pub same_threads : length new.thread_locals ≡ length old.thread_locals
  pub sections : (number : ℕ) → number < length old.sections
      → mark_at new.sections number ≡ (mark_at old.sections number || is_named_by (OfSection number) found)
  pub symbols : (index : ℕ) → index < length old.symbols → mark_at new.symbols index ≡ (mark_at old.symbols index || is_named_by (OfSymbol index) found)
  pub thread_locals : (index : ℕ) → index < length old.thread_locals
      → mark_at new.thread_locals index ≡ (mark_at old.thread_locals index || is_thread_named_by (OfSymbol index) found)
