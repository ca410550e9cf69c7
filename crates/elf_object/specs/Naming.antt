-- Which sections and symbols relocations name.
use Rattle.std.specs.Prelude.{ℕ, zero, suc, ◌+◌, ◌&&◌, Bool, true, false, List, [], ◌∷◌, length, nat_eq}
use Rattle.std.specs.List.{list_any}
use Rattle.elf_object.specs.declared.relocations.Relocation.{Relocation}
use Rattle.elf_object.specs.declared.relocations.RelocationKind.{RelocationKind}
use Rattle.elf_object.specs.declared.relocations.RelocationKind.TheVariants.{Direct64, Pc32, Plt32, GotPcRel, Direct32, Signed32, Direct16, Pc16, Direct8, Pc8, GotTpOff, TpOff32, Pc64}
use Rattle.elf_symbols.specs.Targets.{NamedOf}
use Rattle.elf_symbols.specs.declared.targets.Target.{Target}
use Rattle.elf_symbols.specs.declared.targets.Target.TheVariants.{OfSection, OfSymbol}

-- both name the same section or the same symbol
abbrev pub same_target : Target → Target → Bool
same_target (OfSection a) (OfSection b) = nat_eq a b
same_target (OfSymbol a) (OfSymbol b) = nat_eq a b
same_target (OfSection a) (OfSymbol b) = false
same_target (OfSymbol a) (OfSection b) = false

-- one of these relocations names the target
abbrev pub is_named_by : Target → List Relocation → Bool
is_named_by target found = list_any (λ r. same_target r.target target) found

-- the relocation asks for the symbol's offset from the thread pointer
abbrev pub is_thread_kind : RelocationKind → Bool
is_thread_kind Direct64 = false
is_thread_kind Pc32 = false
is_thread_kind Plt32 = false
is_thread_kind GotPcRel = false
is_thread_kind Direct32 = false
is_thread_kind Signed32 = false
is_thread_kind Direct16 = false
is_thread_kind Pc16 = false
is_thread_kind Direct8 = false
is_thread_kind Pc8 = false
is_thread_kind GotTpOff = true
is_thread_kind TpOff32 = true
is_thread_kind Pc64 = false

-- one of these relocations names the target as thread-local
abbrev pub is_thread_named_by : Target → List Relocation → Bool
is_thread_named_by target found = list_any (λ r. is_thread_kind r.kind && same_target r.target target) found

-- a relocation of one of the sections names the target as thread-local
abbrev pub is_thread_named : List (List Relocation) → Target → Bool
is_thread_named found target = list_any (is_thread_named_by target) found

-- a relocation of one of the sections names the target
abbrev pub is_named : List (List Relocation) → Target → Bool
is_named found target = list_any (is_named_by target) found

-- of so many numbers, from this one on, which are so
abbrev pub marks_from : (ℕ → Bool) → ℕ → ℕ → List Bool
marks_from is_so number zero = []
marks_from is_so number (suc count) = is_so number ∷ marks_from is_so (number + 1) count

-- what the relocations of the sections name, of so many symbols
unfoldable pub named_of : List (List Relocation) → ℕ → NamedOf
named_of found symbols = record {
  sections = marks_from (λ number. is_named found (OfSection number)) 0 (length found);
  symbols = marks_from (λ index. is_named found (OfSymbol index)) 0 symbols;
  thread_locals = marks_from (λ index. is_thread_named found (OfSymbol index)) 0 symbols;
}
