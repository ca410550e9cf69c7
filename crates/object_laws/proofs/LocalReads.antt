-- The local symbols are those below sh_info.
use Rattle.std.proofs.Common.{◌≡◌, ℕ, zero, suc, ◌+◌, ◌-◌, ◌*◌, ◌/◌, ◌<◌, ◌≤◌, ◌≢◌, not, Bool, true, false, cond, List, [], ◌∷◌, Option, Some, None, length, take, drop, nat_le, option_map, option_and_then, refl, sym, ap, ◌∙◌, subst, arith}
use Rattle.std.proofs.lemmas.Bool.{leb-true}
use Rattle.std.specs.Prelude.{slice_get}
use Rattle.std.specs.List.{list_all}
use Rattle.asm_symbols.specs.SymbolMap.{SymbolMap}
use Rattle.asm_symbols.specs.declared.entries.Binding.{Binding}
use Rattle.asm_symbols.specs.declared.entries.Binding.TheVariants.{Local, Global, Weak}
use Rattle.asm_relax.specs.Settling.{LaidSections}
use Rattle.elf_file.specs.declared.reader.SymbolRecord.{SymbolRecord}
use Rattle.elf_file.specs.Reader.{symbol_in, symbol_record}
use Rattle.elf_symbols.specs.SymbolValues.{is_local}
use Rattle.elf_symbols.specs.SymbolTable.{SymbolEntry, binding_number, is_local_entry, symbol_table_of}
use Rattle.elf_object.specs.Contents.{relocations_of}
use Rattle.elf_object.specs.Image.{image_of}
use Rattle.elf_object.specs.Sections.{header_indices}
use Rattle.elf_object.specs.TableLaws.{LocalsFirst, table_in, info_in}
use Rattle.object_laws.specs.ObjectLimits.{symbol_table_index}
use Rattle.object_laws.specs.SymbolReading.{read_symbol, null_symbol, ObjectSymbolRead, LocalsRead}
use Rattle.object_laws.proofs.NameReads.{both_so}
use Rattle.object_laws.proofs.SymbolReads.{table_long, table_read, symbols_read, null_symbols_read}

-- a record that is read ends within the bytes
chosen : {A B : Type 0} (f : A → B) (b : Bool) (x : A) (y : B) → option_map f (cond b (Some x) None) ≡ Some y → b ≡ true
chosen f true x y is = refl
chosen f false x y is = absurd cc

record_within : (bytes : List ℕ) (number : ℕ) (symbol : SymbolRecord) → symbol_record bytes number ≡ Some symbol → 24 * number + 24 ≤ length bytes
unfolding symbol_record
record_within bytes number symbol is =
    leb-true (24 * number + 24) (length bytes) (chosen symbol_in (nat_le (24 * number + 24) (length bytes)) (take 24 (drop (24 * number) bytes)) symbol is)

record_in : {content : Option (List ℕ)} (bytes : List ℕ) (number : ℕ) (symbol : SymbolRecord) → content ≡ Some bytes
    → option_and_then (λ xs. symbol_record xs number) content ≡ Some symbol → symbol_record bytes number ≡ Some symbol
record_in bytes number symbol there is = sym (ap (option_and_then (λ (xs : List ℕ). symbol_record xs number)) there) ∙ is

pub got : {A : Type 0} (xs : List A) (i : ℕ) → i < length xs → (x : A) × (slice_get xs i ≡ Some x)
got [] i low = absurd (omega arith)
got (x ∷ xs) zero low = (x, refl)
got (x ∷ xs) (suc i) low = got xs i (omega arith)

in_front : (test : SymbolEntry → Bool) (these : List SymbolEntry) (n i : ℕ) (s : SymbolEntry) → list_all test (take n these) ≡ true → i < n → slice_get these i ≡ Some s → test s ≡ true
in_front test [] n i s all low is = absurd cc
in_front test (t ∷ these) zero i s all low is = absurd (omega arith)
in_front test (t ∷ these) (suc n) zero s all low is =
    let same : t ≡ s = cc in
    let (first, others) = both_so (test t) (list_all test (take n these)) all in
    ap test (sym same) ∙ first
in_front test (t ∷ these) (suc n) (suc i) s all low is =
    let (first, others) = both_so (test t) (list_all test (take n these)) all in
    in_front test these n i s others (omega arith) is

behind : (test : SymbolEntry → Bool) (these : List SymbolEntry) (n i : ℕ) (s : SymbolEntry) → list_all test (drop n these) ≡ true → n ≤ i → slice_get these i ≡ Some s → test s ≡ true
behind test [] n i s all low is = absurd cc
behind test (t ∷ these) zero zero s all low is =
    let same : t ≡ s = cc in
    let (first, others) = both_so (test t) (list_all test these) all in
    ap test (sym same) ∙ first
behind test (t ∷ these) zero (suc i) s all low is =
    let (first, others) = both_so (test t) (list_all test these) all in
    behind test these zero i s others (omega arith) is
behind test (t ∷ these) (suc n) zero s all low is = absurd (omega arith)
behind test (t ∷ these) (suc n) (suc i) s all low is = behind test these n i s all (omega arith) is

local_number : (binding : Binding) → is_local binding ≡ true → binding_number binding ≡ 0
local_number Local e = refl
local_number Global e = absurd cc
local_number Weak e = absurd cc

other_number : (binding : Binding) → not (is_local binding) ≡ true → binding_number binding ≢ 0
other_number Local e same = absurd cc
other_number Global e same = absurd (omega arith)
other_number Weak e same = absurd (omega arith)

-- what is so of the symbol of an entry
abbrev Bound : ℕ → ℕ → SymbolRecord → Type 0
Bound info number symbol = (number < info → symbol.info / 16 ≡ 0) × (info ≤ number → symbol.info / 16 ≢ 0)

entry_bound : (symbols : SymbolMap) (sections : LaidSections) (index : ℕ) (entry : SymbolEntry) (symbol : SymbolRecord) → LocalsFirst → slice_get (table_in symbols sections) index ≡ Some entry
    → symbol.info / 16 ≡ binding_number entry.binding → Bound (info_in symbols sections) (suc index) symbol
entry_bound symbols sections index entry symbol law is same =
    let (locals, others) = law symbols sections in
    let info = info_in symbols sections in
    let table = table_in symbols sections in (
      λ (low : suc index < info). same ∙ local_number entry.binding (in_front is_local_entry table (info - 1) index entry locals (omega arith) is),
      λ (high : info ≤ suc index) (e : symbol.info / 16 ≡ 0).
          other_number entry.binding (behind (λ (s : SymbolEntry). not (is_local_entry s)) table (info - 1) index entry others (omega arith) is) (sym same ∙ e),
    )

pub same_some : {A : Type 0} (x y : A) → Some x ≡ Some y → x ≡ y
same_some x y e = cc

-- a symbol that is read has the binding of its entry
binding_read : (symbols : SymbolMap) (sections : LaidSections) (number : ℕ) (entry : SymbolEntry) (symbol : SymbolRecord) → ObjectSymbolRead symbols sections number entry
    → read_symbol (image_of symbols sections) (symbol_table_index symbols sections) number ≡ Some symbol → symbol.info / 16 ≡ binding_number entry.binding
binding_read symbols sections number entry symbol own is =
    let same : own.symbol ≡ symbol = same_some own.symbol symbol (sym own.found ∙ is) in
    ap (λ (s : SymbolRecord). s.info / 16) (sym same) ∙ own.binding

pub locals_read : LocalsFirst → LocalsRead
locals_read law symbols sections zero symbol fits is =
    let same : null_symbol ≡ symbol = same_some null_symbol symbol (sym (null_symbols_read symbols sections fits) ∙ is) in
    subst (Bound (info_in symbols sections) 0) same (λ (low : 0 < info_in symbols sections). refl, λ (high : info_in symbols sections ≤ 0) (e : 0 / 16 ≡ 0). omega arith)
locals_read law symbols sections (suc index) symbol fits is =
    let headers = header_indices sections (relocations_of symbols sections) in
    let table = table_in symbols sections in
    let bytes = symbol_table_of headers table in
    let read : symbol_record bytes (suc index) ≡ Some symbol = record_in bytes (suc index) symbol (table_read symbols sections fits) is in
    let within : 24 * suc index + 24 ≤ length bytes = record_within bytes (suc index) symbol read in
    let long : length bytes ≡ 24 * (length table + 1) = table_long headers table in
    let (entry, there) = got table index (omega arith) in
    let one : index + 1 ≡ suc index = omega arith in
    let own = subst (λ n. ObjectSymbolRead symbols sections n entry) one (symbols_read symbols sections index entry fits there) in
    entry_bound symbols sections index entry symbol law there (binding_read symbols sections (suc index) entry symbol own is)
