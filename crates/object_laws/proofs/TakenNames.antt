-- How many bytes names take in string tables.
use Rattle.std.proofs.Common.{◌≡◌, ℕ, ◌+◌, ◌*◌, ◌^◌, ◌≤◌, ◌&&◌, ◌||◌, not, Bool, true, false, cond, List, [], ◌∷◌, ◌++◌, Option, None, Some, All, length, map, refl, ap, arith, length-append}
use Rattle.std.specs.Prelude.{sum_by, codes}
use Rattle.std.specs.List.{fold, list_any}
use Rattle.std.proofs.lemmas.List.Elements.{All-nil, All-head, All-tail, All-push, All-map}
use Rattle.std.proofs.lemmas.List.Sums.{sum_by-cons}
use Rattle.asm_expr.specs.declared.naming.Name.{Name}
use Rattle.asm_expr.specs.declared.naming.Name.TheVariants.{Plain, Numeric, Place}
use Rattle.asm_frags.specs.declared.groups.Group.{Group}
use Rattle.asm_frags.specs.Groups.{HasShortSignature, has_signature, with_group, groups_of}
use Rattle.asm_frags.specs.SectionOf.{SectionOf}
use Rattle.asm_symbols.specs.declared.entries.Symbol.{Symbol}
use Rattle.asm_symbols.specs.Interning.{name_size}
use Rattle.asm_symbols.specs.SymbolMap.{SymbolMap, names}
use Rattle.asm_relax.specs.Settling.{LaidItem, LaidSections}
use Rattle.elf_file.specs.Sections.{SectionEntry, group_section, group_bytes, relocation_section}
use Rattle.elf_file.specs.StringTable.{ended_name, strings}
use Rattle.elf_symbols.specs.Numbers.{NumbersOf, group_symbol}
use Rattle.elf_symbols.specs.SymbolTable.{SymbolEntry, file_entry, section_entries, is_local_entry, part, text_of, needs_naming, is_named_by_group, entry_at, value_or_undefined, listed, listed_by, signature_entry, is_signature_listed, signature_entries, standings}
use Rattle.elf_object.specs.TableLaws.{named_targets}
use Rattle.elf_symbols.specs.SymbolValues.{symbol_value_of}
use Rattle.elf_object.specs.declared.relocations.Relocation.{Relocation}
use Rattle.elf_object.specs.Sections.{source_section, relocation_bytes, with_relocations, header_count, entries_from, members_of, group_entries}

-- how many bytes the names of these take
abbrev pub taken : {A : Type 0} → (A → List ℕ) → List A → ℕ
taken name_of xs = length (strings (map name_of xs))

pub taken-cons : {A : Type 0} (name_of : A → List ℕ) (x : A) (xs : List A) → taken name_of (x ∷ xs) ≡ length (ended_name (name_of x)) + taken name_of xs
taken-cons name_of x xs = length-append (ended_name (name_of x)) (strings (map name_of xs))

-- the names of both
pub strings-append : (xs ys : List (List ℕ)) → length (strings (xs ++ ys)) ≡ length (strings xs) + length (strings ys)
strings-append [] ys = omega arith
strings-append (x ∷ xs) ys =
    let all = length-append (ended_name x) (strings (xs ++ ys)) in
    let first = length-append (ended_name x) (strings xs) in
    let rest = strings-append xs ys in
    omega (arith, all, first, rest)

pub taken-append : {A : Type 0} (name_of : A → List ℕ) (xs ys : List A) → taken name_of (xs ++ ys) ≡ taken name_of xs + taken name_of ys
taken-append name_of [] ys = omega arith
taken-append name_of (x ∷ xs) ys =
    let all = taken-cons name_of x (xs ++ ys) in
    let first = taken-cons name_of x xs in
    let rest = taken-append name_of xs ys in
    omega (arith, all, first, rest)

-- a name takes a byte more than it has, and none if it has none
pub ended_long : (name : List ℕ) → length (ended_name name) ≤ length name + 1
ended_long [] = omega arith
ended_long (c ∷ cs) = let long : length ((c ∷ cs) ++ 0 ∷ []) ≡ length (c ∷ cs) + 1 = length-append (c ∷ cs) (0 ∷ []) in omega (arith, long)

-- a symbol's name takes no more than is counted for it
text_long : (name : Name) → length (ended_name (text_of name)) ≤ name_size name
text_long (Plain text) = ended_long text
text_long (Numeric number instance) = omega arith
text_long (Place section item offset) = omega arith

-- SYMBOLS

abbrev pub entry_name : SymbolEntry → List ℕ
entry_name entry = entry.name

pub files_taken : (files : List Name) → taken entry_name (map file_entry files) ≤ sum_by name_size files
files_taken [] = omega arith
files_taken (name ∷ files) =
    let all : taken entry_name (file_entry name ∷ map file_entry files) ≡ length (ended_name (text_of name)) + taken entry_name (map file_entry files) =
    taken-cons entry_name (file_entry name) (map file_entry files) in
    let sum = sum_by-cons name_size name files in
    let one = text_long name in
    let rest = files_taken files in
    omega (arith, all, sum, one, rest)

pub sections_taken : (number : ℕ) (marks : List Bool) → taken entry_name (section_entries number marks) ≡ 0
sections_taken number [] = refl
sections_taken number (true ∷ marks) = sections_taken (number + 1) marks
sections_taken number (false ∷ marks) = sections_taken (number + 1) marks

pub sections_few : (number : ℕ) (marks : List Bool) → length (section_entries number marks) ≤ length marks
sections_few number [] = omega arith
sections_few number (true ∷ marks) = let rest = sections_few (number + 1) marks in omega (arith, rest)
sections_few number (false ∷ marks) = let rest = sections_few (number + 1) marks in omega (arith, rest)

-- what the names take of those that are listed
abbrev listed_taken : List (Option SymbolEntry) → ℕ
listed_taken [] = 0
listed_taken (None ∷ more) = listed_taken more
listed_taken (Some entry ∷ more) = length (ended_name entry.name) + listed_taken more

-- an entry is in one part
parts_of : (entry : SymbolEntry) (more : List (Option SymbolEntry)) (local : Bool) → is_local_entry entry ≡ local
    → (length (part true (Some entry ∷ more)) + length (part false (Some entry ∷ more)) ≡ 1 + (length (part true more) + length (part false more)))
    × (taken entry_name (part true (Some entry ∷ more)) + taken entry_name (part false (Some entry ∷ more))
    ≡ length (ended_name entry.name) + (taken entry_name (part true more) + taken entry_name (part false more)))
parts_of entry more true is =
    let first : part true (Some entry ∷ more) ≡ entry ∷ part true more = ap (λ (b : Bool). cond b (entry ∷ part true more) (part true more)) is in
    let second : part false (Some entry ∷ more) ≡ part false more = ap (λ (b : Bool). cond (not b) (entry ∷ part false more) (part false more)) is in
    let long = taken-cons entry_name entry (part true more) in (
      rw (first, second) (omega arith),
      rw (first, second) (omega (arith, long)),
    )
parts_of entry more false is =
    let first : part true (Some entry ∷ more) ≡ part true more = ap (λ (b : Bool). cond b (entry ∷ part true more) (part true more)) is in
    let second : part false (Some entry ∷ more) ≡ entry ∷ part false more = ap (λ (b : Bool). cond (not b) (entry ∷ part false more) (part false more)) is in
    let long = taken-cons entry_name entry (part false more) in (
      rw (first, second) (omega arith),
      rw (first, second) (omega (arith, long)),
    )

-- both parts have no more entries than are listed
pub parts_few : (all : List (Option SymbolEntry)) → length (part true all) + length (part false all) ≤ length all
parts_few [] = omega arith
parts_few (None ∷ more) = let rest = parts_few more in omega (arith, rest)
parts_few (Some entry ∷ more) =
    let rest = parts_few more in
    let here = (parts_of entry more (is_local_entry entry) refl).0 in
    omega (arith, rest, here)

parts_taken : (all : List (Option SymbolEntry)) → taken entry_name (part true all) + taken entry_name (part false all) ≡ listed_taken all
parts_taken [] = refl
parts_taken (None ∷ more) = parts_taken more
parts_taken (Some entry ∷ more) =
    let rest = parts_taken more in
    let here = (parts_of entry more (is_local_entry entry) refl).1 in
    omega (arith, rest, here)

pub listed_few : (symbols : SymbolMap) (sections : LaidSections) (marks threads : List Bool) (own : List Symbol) → length (listed_by symbols sections marks threads own) ≤ length own
listed_few symbols sections [] threads own = omega arith
listed_few symbols sections (mark ∷ marks) [] own = omega arith
listed_few symbols sections (mark ∷ marks) (thread ∷ threads) [] = omega arith
listed_few symbols sections (mark ∷ marks) (thread ∷ threads) (symbol ∷ own) = let rest = listed_few symbols sections marks threads own in omega (arith, rest)

-- an entry that is listed or not takes no more than its name
one_taken : (b : Bool) (entry : SymbolEntry) (more : List (Option SymbolEntry)) (most : ℕ) → length (ended_name entry.name) ≤ most
    → listed_taken (cond b None (Some entry) ∷ more) ≤ most + listed_taken more
one_taken true entry more most few = omega arith
one_taken false entry more most few = omega (arith, few)

-- an entry has its symbol's name
entry_taken : (symbols : SymbolMap) (sections : LaidSections) (mark thread : Bool) (symbol : Symbol) (more : List (Option SymbolEntry))
    → listed_taken (listed symbols sections mark thread symbol ∷ more) ≤ name_size symbol.name + listed_taken more
unfolding listed
entry_taken symbols sections mark thread symbol more =
    let there = value_or_undefined (symbol_value_of symbols sections symbol.meaning) in
    one_taken (needs_naming symbol there && not (mark || is_named_by_group sections symbol there)) (entry_at symbols sections thread symbol there) more (name_size symbol.name) (text_long symbol.name)

all_taken : (symbols : SymbolMap) (sections : LaidSections) (marks threads : List Bool) (own : List Symbol)
    → listed_taken (listed_by symbols sections marks threads own) ≤ sum_by name_size (names own)
all_taken symbols sections [] threads own = omega arith
all_taken symbols sections (mark ∷ marks) [] own = omega arith
all_taken symbols sections (mark ∷ marks) (thread ∷ threads) [] = omega arith
all_taken symbols sections (mark ∷ marks) (thread ∷ threads) (symbol ∷ own) =
    let one = entry_taken symbols sections mark thread symbol (listed_by symbols sections marks threads own) in
    let rest = all_taken symbols sections marks threads own in
    let sum = sum_by-cons name_size symbol.name (names own) in
    omega (arith, one, rest, sum)

-- the names of the entries of symbols take no more than is counted for the symbols
pub symbols_taken : (symbols : SymbolMap) (sections : LaidSections) (marks threads : List Bool) (own : List Symbol)
    → taken entry_name (part true (listed_by symbols sections marks threads own)) + taken entry_name (part false (listed_by symbols sections marks threads own))
    ≤ sum_by name_size (names own)
symbols_taken symbols sections marks threads own =
    let both = parts_taken (listed_by symbols sections marks threads own) in
    let few = all_taken symbols sections marks threads own in
    omega (arith, both, few)

-- SIGNATURES

-- the names of entries of signatures, and how many they are
pub signatures_taken : (symbols : SymbolMap) (sections : LaidSections) (index : ℕ) (groups : List Group) → All HasShortSignature groups
    → (taken entry_name (signature_entries symbols (standings symbols sections (named_targets symbols sections)) index groups) ≤ (2 ^ 16 + 1) * length groups) × (length (signature_entries symbols (standings symbols sections (named_targets symbols sections)) index groups) ≤ length groups)
signatures_taken symbols sections index [] short = (omega arith, omega arith)
signatures_taken symbols sections index (group ∷ groups) short =
    by_listed (is_signature_listed symbols (standings symbols sections (named_targets symbols sections)) group.signature) (signatures_taken symbols sections (index + 1) groups (All-tail HasShortSignature group groups short))
  where
    rest : List SymbolEntry
    rest = signature_entries symbols (standings symbols sections (named_targets symbols sections)) (index + 1) groups

    own : SymbolEntry
    own = signature_entry index group.signature

    by_listed : (b : Bool) → (taken entry_name rest ≤ (2 ^ 16 + 1) * length groups) × (length rest ≤ length groups)
        → (taken entry_name (cond b [] (own ∷ []) ++ rest) ≤ (2 ^ 16 + 1) * length (group ∷ groups)) × (length (cond b [] (own ∷ []) ++ rest) ≤ length (group ∷ groups))
    by_listed true (bytes, few) = (omega (arith, bytes), omega (arith, few))
    by_listed false (bytes, few) =
        let more = taken-cons entry_name own rest in
        let one = ended_long group.signature in
        let most : length group.signature ≤ 2 ^ 16 = All-head HasShortSignature group groups short in
        (omega (arith, bytes, more, one, most), omega (arith, few))

-- SECTIONS

abbrev pub section_name : SectionEntry → List ℕ
section_name s = s.name

-- the names of groups
pub groups_taken : (numbers : NumbersOf) (tables : ℕ) (sections : LaidSections) (found : List (List Relocation)) (index : ℕ) (groups : List Group)
    → taken section_name (group_entries numbers tables sections found index groups) ≡ 7 * length groups
groups_taken numbers tables sections found index [] = refl
groups_taken numbers tables sections found index (group ∷ groups) =
    let made = group_section tables (group_symbol numbers index) (group_bytes group.comdat (members_of group.signature sections found)) in
    let more : taken section_name (made ∷ group_entries numbers tables sections found (index + 1) groups) ≡ 7 + taken section_name (group_entries numbers tables sections found (index + 1) groups) =
    taken-cons section_name made (group_entries numbers tables sections found (index + 1) groups) in
    let rest = groups_taken numbers tables sections found (index + 1) groups in
    omega (arith, more, rest)

-- the names of a section and of its relocations
with_taken : (numbers : NumbersOf) (tables index : ℕ) (s : SectionEntry) (own : List Relocation) → length s.name ≤ 2 ^ 16
    → taken section_name (with_relocations numbers tables index s own) ≤ 2 * 2 ^ 16 + 7
with_taken numbers tables index s [] short =
    let one = ended_long s.name in
    let all : taken section_name (s ∷ []) ≡ length (ended_name s.name) + 0 = taken-cons section_name s [] in
    omega (arith, short, one, all)
with_taken numbers tables index s (r ∷ own) short =
    let second = relocation_section s.flags tables index s.name (relocation_bytes numbers (r ∷ own)) in
    let one = ended_long s.name in
    let other = ended_long second.name in
    let long : length (codes ".rela" ++ s.name) ≡ 5 + length s.name = length-append (codes ".rela") s.name in
    let first : taken section_name (s ∷ second ∷ []) ≡ length (ended_name s.name) + taken section_name (second ∷ []) = taken-cons section_name s (second ∷ []) in
    let last : taken section_name (second ∷ []) ≡ length (ended_name second.name) + 0 = taken-cons section_name second [] in
    omega (arith, short, one, other, long, first, last)

-- the names of sections of the source and of their relocations
pub sources_taken : (symbols : SymbolMap) (all : LaidSections) (numbers : NumbersOf) (tables index : ℕ) (sections : LaidSections) (found : List (List Relocation))
    → All (λ section. length section.name ≤ 2 ^ 16) sections
    → taken section_name (entries_from numbers tables index (map (source_section symbols all) sections) found) ≤ (2 * 2 ^ 16 + 7) * length sections
sources_taken symbols all numbers tables index [] found short = omega arith
sources_taken symbols all numbers tables index (s ∷ ss) [] short = omega arith
sources_taken symbols all numbers tables index (s ∷ ss) (own ∷ found) short =
    let is_short = λ (section : SectionOf LaidItem). length section.name ≤ 2 ^ 16 in
    let first = with_relocations numbers tables index (source_section symbols all s) own in
    let rest = entries_from numbers tables (index + header_count own) (map (source_section symbols all) ss) found in
    let both = taken-append section_name first rest in
    let one = with_taken numbers tables index (source_section symbols all s) own (All-head is_short s ss short) in
    let more = sources_taken symbols all numbers tables (index + header_count own) ss found (All-tail is_short s ss short) in
    omega (arith, both, one, more)
