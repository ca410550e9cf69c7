-- The numbers of symbols in the symbol table, by which relocations name them.
use Rattle.std.specs.Prelude.{ℕ, ◌+◌, Bool, true, false, List, [], ◌∷◌, length, slice_index_or, if◌then◌else◌}
use Rattle.std.specs.Option.{option_map_or}
use Rattle.asm_expr.specs.declared.naming.Name.TheVariants.{Plain}
use Rattle.asm_frags.specs.declared.groups.Group.{Group}
use Rattle.asm_frags.specs.Groups.{groups_of}
use Rattle.asm_symbols.specs.SymbolMap.{SymbolMap, names, index_of}
use Rattle.asm_relax.specs.Settling.{LaidSections}
use Rattle.elf_symbols.specs.declared.numbers.Standing.{Standing}
use Rattle.elf_symbols.specs.declared.numbers.Standing.TheVariants as standing
use Rattle.elf_symbols.specs.declared.targets.Target.{Target}
use Rattle.elf_symbols.specs.declared.targets.Target.TheVariants.{OfSection, OfSymbol}
use Rattle.elf_symbols.specs.Targets.{NamedOf}
use Rattle.elf_symbols.specs.SymbolTable.{part, listed_all, section_entries, standings, is_signature_listed, own_signatures}

-- the number of each section, where those that are marked have the numbers from this one on
abbrev pub section_numbers : ℕ → List Bool → List ℕ
section_numbers next [] = []
section_numbers next (true ∷ marks) = next ∷ section_numbers (next + 1) marks
section_numbers next (false ∷ marks) = next ∷ section_numbers next marks

-- the number of each symbol, where local ones have the numbers from this one on, and others from that; 0 where one does not stand in the table
abbrev pub symbol_numbers : ℕ → ℕ → List Standing → List ℕ
symbol_numbers local other [] = []
symbol_numbers local other (standing.Absent ∷ more) = 0 ∷ symbol_numbers local other more
symbol_numbers local other (standing.Local ∷ more) = local ∷ symbol_numbers (local + 1) other more
symbol_numbers local other (standing.Other ∷ more) = other ∷ symbol_numbers local (other + 1) more

-- the null symbol has the number 0, and names of files follow
abbrev pub first_section_symbol : SymbolMap → ℕ
first_section_symbol symbols = 1 + length symbols.files

-- the number of the first local symbol behind those of files and sections
abbrev pub first_local : SymbolMap → NamedOf → ℕ
first_local symbols named = first_section_symbol symbols + length (section_entries 0 named.sections)

-- the number of the first symbol of a signature that no other entry is of
abbrev pub first_signature : SymbolMap → LaidSections → NamedOf → ℕ
first_signature symbols sections named = first_local symbols named + length (part true (listed_all symbols sections named))

-- the first symbol that is not local
abbrev pub first_other : SymbolMap → LaidSections → NamedOf → ℕ
first_other symbols sections named = first_signature symbols sections named + length (own_signatures symbols sections named)

-- the number among these of the symbol of the signature, which is there
abbrev pub signature_number : SymbolMap → List ℕ → List ℕ → ℕ
signature_number symbols numbers signature = option_map_or (λ index. slice_index_or numbers index 0) (index_of (Plain signature) (names symbols.symbols)) 0

-- the own number of a symbol that has an entry of its own, and else the next one
abbrev pub number_if : Bool → ℕ → ℕ → ℕ
number_if true own next = own
number_if false own next = next

-- the next number behind it
abbrev pub next_if : Bool → ℕ → ℕ
next_if true next = next
next_if false next = next + 1

-- the number of the symbol of each signature: that of its own entry, where it has one, and else the next from this one on
abbrev pub group_numbers : SymbolMap → List Standing → List ℕ → ℕ → List Group → List ℕ
group_numbers symbols all numbers next [] = []
group_numbers symbols all numbers next (group ∷ groups) =
    let listed = is_signature_listed symbols all group.signature in
    number_if listed (signature_number symbols numbers group.signature) next ∷ group_numbers symbols all numbers (next_if listed next) groups

-- the numbers of sections and symbols, and those of the signatures of groups
pub record NumbersOf : Type 0 where
  pub sections : List ℕ
  pub symbols : List ℕ
  pub groups : List ℕ

-- the numbers of symbols in the symbol table
abbrev pub symbol_numbers_of : SymbolMap → LaidSections → NamedOf → List ℕ
symbol_numbers_of symbols sections named =
    symbol_numbers (first_local symbols named) (first_other symbols sections named) (standings symbols sections named)

-- the numbers of sections, symbols and signatures in the symbol table
abbrev pub numbers_of : SymbolMap → LaidSections → NamedOf → NumbersOf
numbers_of symbols sections named = record {
  sections = section_numbers (first_section_symbol symbols) named.sections;
  symbols = symbol_numbers_of symbols sections named;
  groups =
      group_numbers symbols (standings symbols sections named) (symbol_numbers_of symbols sections named) (first_signature symbols sections named)
      (groups_of sections);
}

-- the number of the signature of the group of this index
abbrev pub group_symbol : NumbersOf → ℕ → ℕ
group_symbol numbers index = slice_index_or numbers.groups index 0

-- the number of what a relocation names
abbrev pub target_number : NumbersOf → Target → ℕ
target_number numbers (OfSection number) = slice_index_or numbers.sections number 0
target_number numbers (OfSymbol index) = slice_index_or numbers.symbols index 0
