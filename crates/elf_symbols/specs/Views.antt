-- What the types of the program stand for.
use Rattle.elf_symbols.specs.declared.entries.TableSymbol.{TableSymbol}
use Rattle.elf_symbols.specs.declared.numbers.Numbers.{Numbers}
use Rattle.elf_symbols.specs.declared.targets.Named.{Named}
use Rattle.elf_symbols.specs.Numbers.{NumbersOf}
use Rattle.elf_symbols.specs.SymbolTable.{SymbolEntry}
use Rattle.elf_symbols.specs.Targets.{NamedOf}

-- a symbol of the table
unfoldable pub symbol_view : TableSymbol → SymbolEntry
symbol_view s = record {
  name = s.name.now;
  binding = s.binding;
  kind = s.kind;
  visibility = s.visibility;
  section = s.section;
  value = s.value;
  size = s.size;
}

-- the numbers by which relocations name sections and symbols
abbrev pub numbers_view : Numbers → NumbersOf
numbers_view numbers = record { sections = numbers.sections.items; symbols = numbers.symbols.items; groups = numbers.groups.items }

-- the marks of what relocations name
abbrev pub named_view : Named → NamedOf
named_view named = record { sections = named.sections.items; symbols = named.symbols.items; thread_locals = named.thread_locals.items }
