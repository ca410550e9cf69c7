-- The symbol table: which symbols stand in it, in which order, and what their entries say (gABI, chapter 4, "Symbol Table").
use Rattle.std.specs.Prelude.{◌≡◌, ℕ, ◌+◌, ◌*◌, ◌&&◌, ◌||◌, not, Bool, true, false, List, [], ◌∷◌, ◌++◌, map, replicate, Option, None, Some, unwrap_or, slice_get, slice_index_or, option_and_then, if◌then◌else◌}
use Rattle.std.specs.List.{list_any}
use Rattle.asm_expr.specs.declared.naming.Name.{Name}
use Rattle.asm_expr.specs.declared.naming.Name.TheVariants.{Plain, Numeric, Place}
use Rattle.asm_expr.specs.Forms.{Form}
use Rattle.asm_frags.specs.declared.groups.Group.{Group}
use Rattle.asm_frags.specs.Groups.{groups_of, has_signature}
use Rattle.asm_symbols.specs.declared.entries.Symbol.{Symbol}
use Rattle.asm_symbols.specs.declared.entries.Binding.{Binding}
use Rattle.asm_symbols.specs.declared.entries.Binding.TheVariants.{Local, Global, Weak}
use Rattle.asm_symbols.specs.declared.entries.Kind.{Kind}
use Rattle.asm_symbols.specs.declared.entries.Kind.TheVariants as said
use Rattle.asm_symbols.specs.declared.entries.Visibility.{Visibility}
use Rattle.asm_symbols.specs.declared.entries.Visibility.TheVariants.{Internal, Hidden, Protected}
use Rattle.asm_symbols.specs.SymbolMap.{SymbolMap, names, index_of}
use Rattle.asm_relax.specs.Final.{field_value}
use Rattle.asm_relax.specs.Settling.{LaidSections}
use Rattle.elf_symbols.specs.declared.symbol_values.SymbolSection.{SymbolSection}
use Rattle.elf_symbols.specs.declared.symbol_values.SymbolSection.TheVariants.{Undefined, Absolute, Common, InSection, InGroup}
use Rattle.elf_symbols.specs.declared.symbol_values.SymbolValue.{SymbolValue}
use Rattle.elf_symbols.specs.declared.numbers.Standing.{Standing}
use Rattle.elf_symbols.specs.declared.numbers.Standing.TheVariants as standing
use Rattle.elf_symbols.specs.declared.entries.SymbolType.{SymbolType}
use Rattle.elf_symbols.specs.declared.entries.SymbolType.TheVariants as type
use Rattle.elf_file.specs.StringTable.{name_offsets}
use Rattle.elf_file.specs.TableEntries.{elf_symbol}
use Rattle.elf_symbols.specs.FileLocals.{is_file_local}
use Rattle.elf_symbols.specs.Targets.{NamedOf}
use Rattle.elf_symbols.specs.Aliases.{symbol_kind, symbol_size}
use Rattle.elf_symbols.specs.SymbolValues.{symbol_value, symbol_value_of, binding_of, is_local, is_thread_local}

-- a symbol, as the table tells it
pub record SymbolEntry : Type 0 where
  pub name : List ℕ
  pub binding : Binding
  pub kind : SymbolType
  pub visibility : Option Visibility
  pub section : SymbolSection
  pub value : ℕ
  pub size : ℕ

-- STB_LOCAL and the others
abbrev pub binding_number : Binding → ℕ
binding_number Local = 0
binding_number Global = 1
binding_number Weak = 2

-- STT_NOTYPE and the others
abbrev pub type_number : SymbolType → ℕ
type_number type.NoType = 0
type_number type.Object = 1
type_number type.Function = 2
type_number type.Section = 3
type_number type.File = 4
type_number type.Common = 5
type_number type.Tls = 6

-- STV_DEFAULT and the others
abbrev pub visibility_number : Option Visibility → ℕ
visibility_number None = 0
visibility_number (Some Internal) = 1
visibility_number (Some Hidden) = 2
visibility_number (Some Protected) = 3

-- SHN_UNDEF, SHN_ABS and SHN_COMMON, and the header indices of sections (gABI, chapter 4, "Special Section Indexes");
-- each section that a symbol stands in is there; the headers of groups stand right behind the null header
abbrev pub section_index_of : List ℕ → SymbolSection → ℕ
section_index_of headers Undefined = 0
section_index_of headers Absolute = 0xfff1
section_index_of headers Common = 0xfff2
section_index_of headers (InSection number) = slice_index_or headers number 0
section_index_of headers (InGroup index) = index + 1

-- the entry of a symbol whose name stands at this offset (Elf64_Sym)
abbrev pub symbol_bytes : List ℕ → ℕ → SymbolEntry → List ℕ
symbol_bytes headers name s =
    elf_symbol name (16 * binding_number s.binding + type_number s.kind) (visibility_number s.visibility) (section_index_of headers s.section) s.value s.size

-- the entries of symbols whose names stand at these offsets
abbrev pub all_symbol_bytes : List ℕ → List ℕ → List SymbolEntry → List ℕ
all_symbol_bytes headers [] symbols = []
all_symbol_bytes headers (name ∷ names) [] = []
all_symbol_bytes headers (name ∷ names) (s ∷ symbols) = symbol_bytes headers name s ++ all_symbol_bytes headers names symbols

-- the symbol has binding STB_LOCAL
abbrev pub is_local_entry : SymbolEntry → Bool
is_local_entry s = is_local s.binding

-- the type that `.type` says, and STT_NOTYPE where it says none
abbrev pub said_type : Option Kind → SymbolType
said_type None = type.NoType
said_type (Some said.NoType) = type.NoType
said_type (Some said.Object) = type.Object
said_type (Some said.Function) = type.Function
said_type (Some said.Tls) = type.Tls
said_type (Some said.Common) = type.Common

-- symbols in a TLS section, and those that are named as thread-local, have type STT_TLS
abbrev pub type_of : LaidSections → Bool → SymbolSection → Option Kind → SymbolType
type_of sections thread_local section kind = if thread_local || is_thread_local sections section then type.Tls else said_type kind

-- the value of a size, and 0 where no size is said; a size without a value is a fault before
abbrev pub size_of : SymbolMap → LaidSections → Option Form → ℕ
size_of map sections None = 0
size_of map sections (Some made) = unwrap_or (field_value map sections made) 0

-- the bytes of a name; numeric labels and places have none
abbrev pub text_of : Name → List ℕ
text_of (Plain text) = text
text_of (Numeric number instance) = []
text_of (Place section item offset) = []

-- the entry of a symbol that stands there; an alias has its symbol's type and size where none is said of it
abbrev pub entry_at : SymbolMap → LaidSections → Bool → Symbol → SymbolValue → SymbolEntry
entry_at map sections thread_local symbol there = record {
  name = text_of symbol.name;
  binding = binding_of symbol.meaning symbol.binding;
  kind = type_of sections thread_local there.section (symbol_kind map symbol);
  visibility = symbol.visibility;
  section = there.section;
  value = there.value;
  size = size_of map sections (symbol_size map symbol);
}

-- the symbol has section SHN_UNDEF
abbrev pub is_undefined_section : SymbolSection → Bool
is_undefined_section Undefined = true
is_undefined_section Absolute = false
is_undefined_section Common = false
is_undefined_section (InSection number) = false
is_undefined_section (InGroup index) = false

-- a symbol of another object, and one that is local to the file by its name and binding, stand in the table only where a relocation names them, or a group where they are defined
abbrev pub needs_naming : Symbol → SymbolValue → Bool
needs_naming symbol there = is_undefined_section there.section || (is_file_local symbol.name && is_local (binding_of symbol.meaning symbol.binding))

-- the name is the signature of a group
abbrev pub is_signature : LaidSections → Name → Bool
is_signature sections (Plain text) = list_any (has_signature text) (groups_of sections)
is_signature sections (Numeric number instance) = false
is_signature sections (Place section item offset) = false

-- a group names the symbol of its signature, where this object defines that
abbrev pub is_named_by_group : LaidSections → Symbol → SymbolValue → Bool
is_named_by_group sections symbol there = not (is_undefined_section there.section) && is_signature sections symbol.name

-- the entry of a symbol that stands there, unless it needs naming and nothing names it
abbrev pub listed_if : SymbolMap → LaidSections → Bool → Bool → Symbol → SymbolValue → Option SymbolEntry
listed_if map sections named thread_local symbol there =
    if needs_naming symbol there && not (named || is_named_by_group sections symbol there) then None else Some (entry_at map sections thread_local symbol there)

-- a symbol without a value, which is assigned what is no number and no place of this object, is undefined
abbrev pub value_or_undefined : Option SymbolValue → SymbolValue
value_or_undefined None = symbol_value Undefined 0
value_or_undefined (Some there) = there

-- the entry of a symbol, if it stands in the table
unfoldable pub listed : SymbolMap → LaidSections → Bool → Bool → Symbol → Option SymbolEntry
listed map sections named thread_local symbol =
    listed_if map sections named thread_local symbol (value_or_undefined (symbol_value_of map sections symbol.meaning))

-- the entry of a source file's name
abbrev pub file_entry : Name → SymbolEntry
file_entry name = record {
  name = text_of name;
  binding = Local;
  kind = type.File;
  visibility = None;
  section = Absolute;
  value = 0;
  size = 0;
}

-- the entry that stands for a section; it has the section's name, and none in the table
abbrev pub section_entry : ℕ → SymbolEntry
section_entry number = record {
  name = [];
  binding = Local;
  kind = type.Section;
  visibility = None;
  section = InSection number;
  value = 0;
  size = 0;
}

-- the entries of the symbols that stand in the table; the marks tell which of them relocations name, and which as thread-local
abbrev pub listed_by : SymbolMap → LaidSections → List Bool → List Bool → List Symbol → List (Option SymbolEntry)
listed_by map sections [] threads symbols = []
listed_by map sections (mark ∷ marks) [] symbols = []
listed_by map sections (mark ∷ marks) (thread ∷ threads) [] = []
listed_by map sections (mark ∷ marks) (thread ∷ threads) (symbol ∷ symbols) = listed map sections mark thread symbol ∷ listed_by map sections marks threads symbols

-- the entries of the sections that are marked, from this number on
abbrev pub section_entries : ℕ → List Bool → List SymbolEntry
section_entries number [] = []
section_entries number (true ∷ marks) = section_entry number ∷ section_entries (number + 1) marks
section_entries number (false ∷ marks) = section_entries (number + 1) marks

-- whether the entry is local, or whether it is not
abbrev pub is_bound : Bool → SymbolEntry → Bool
is_bound true s = is_local_entry s
is_bound false s = not (is_local_entry s)

-- the local ones of the entries that there are, or the others
abbrev pub part : Bool → List (Option SymbolEntry) → List SymbolEntry
part local [] = []
part local (None ∷ more) = part local more
part local (Some entry ∷ more) = if is_bound local entry then entry ∷ part local more else part local more

-- the local ones of the entries, or the others, are put last
abbrev pub PutsPart : Bool → List (Option SymbolEntry) → List SymbolEntry → List SymbolEntry → Type 0
PutsPart local all before after = after ≡ before ++ part local all

-- the entry of each symbol, if it stands in the table
abbrev pub listed_all : SymbolMap → LaidSections → NamedOf → List (Option SymbolEntry)
listed_all symbols sections named = listed_by symbols sections named.symbols named.thread_locals symbols.symbols

-- the entry of the signature of the group of this index: the place of its symbol is the group itself
abbrev pub signature_entry : ℕ → List ℕ → SymbolEntry
signature_entry index signature = record {
  name = signature;
  binding = Local;
  kind = type.NoType;
  visibility = None;
  section = InGroup index;
  value = 0;
  size = 0;
}

-- where an entry stands that is local, or that is not
abbrev pub standing_by : Bool → Standing
standing_by true = standing.Local
standing_by false = standing.Other

-- where a symbol stands by its entry, if it has one
abbrev pub standing_of : Option SymbolEntry → Standing
standing_of None = standing.Absent
standing_of (Some entry) = standing_by (is_local_entry entry)

-- where each symbol stands
abbrev pub standings : SymbolMap → LaidSections → NamedOf → List Standing
standings symbols sections named = map standing_of (listed_all symbols sections named)

-- a symbol that stands so is there and has an entry
abbrev pub is_listed : Option Standing → Bool
is_listed None = false
is_listed (Some standing.Absent) = false
is_listed (Some standing.Local) = true
is_listed (Some standing.Other) = true

-- the symbol of the signature has an entry of its own, where symbols stand so
abbrev pub is_signature_listed : SymbolMap → List Standing → List ℕ → Bool
is_signature_listed symbols all signature = is_listed (option_and_then (slice_get all) (index_of (Plain signature) (names symbols.symbols)))

-- the entry of the signature of the group of this index, if its symbol has none of its own
abbrev pub signature_if : SymbolMap → List Standing → ℕ → List ℕ → List SymbolEntry
signature_if symbols all index signature = if is_signature_listed symbols all signature then [] else signature_entry index signature ∷ []

-- the entries of signatures whose symbols have none of their own; the first group has this index
abbrev pub signature_entries : SymbolMap → List Standing → ℕ → List Group → List SymbolEntry
signature_entries symbols all index [] = []
signature_entries symbols all index (group ∷ groups) = signature_if symbols all index group.signature ++ signature_entries symbols all (index + 1) groups

-- the same of all groups
abbrev pub own_signatures : SymbolMap → LaidSections → NamedOf → List SymbolEntry
own_signatures symbols sections named = signature_entries symbols (standings symbols sections named) 0 (groups_of sections)

-- the entries behind the null symbol's: names of files, sections, local symbols, signatures of groups that no other entry is of, and the others, each in their order
unfoldable pub table_of : SymbolMap → LaidSections → NamedOf → List SymbolEntry
table_of symbols sections named =
    map file_entry symbols.files ++ section_entries 0 named.sections
    ++ part true (listed_all symbols sections named) ++ own_signatures symbols sections named ++ part false (listed_all symbols sections named)

-- the names of symbols in the symbol table
unfoldable pub symbol_names : List SymbolEntry → List (List ℕ)
symbol_names symbols = map (λ s. s.name) symbols

-- the table of the symbols, which begins with the null symbol
unfoldable pub symbol_table_of : List ℕ → List SymbolEntry → List ℕ
symbol_table_of headers symbols = replicate 24 0 ++ all_symbol_bytes headers (name_offsets (symbol_names symbols)) symbols
