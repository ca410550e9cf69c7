-- The numbers of sections and symbols are those of their entries.
use Rattle.std.proofs.Common.{◌≡◌, ℕ, zero, suc, ◌+◌, ◌-◌, ◌<◌, ◌≤◌, ◌&&◌, ◌||◌, not, nat_eq, Bool, true, false, cond, List, [], ◌∷◌, ◌++◌, Option, None, Some, length, map, refl, sym, ap, ◌∙◌, subst, arith, append-nil, length-append}
use Rattle.std.proofs.lemmas.List.{length-map}
use Rattle.std.proofs.lemmas.Bool.Decides.{nat_tests}
use Rattle.std.specs.Prelude.{slice_get, slice_index_or}
use Rattle.std.specs.List.{list_any}
use Rattle.asm_symbols.specs.declared.entries.Symbol.{Symbol}
use Rattle.asm_symbols.specs.SymbolMap.{SymbolMap}
use Rattle.asm_relax.specs.Settling.{LaidSections}
use Rattle.elf_object.specs.declared.relocations.Relocation.{Relocation}
use Rattle.elf_symbols.specs.declared.targets.Target.{Target}
use Rattle.elf_symbols.specs.declared.targets.Target.TheVariants.{OfSection, OfSymbol}
use Rattle.elf_symbols.specs.declared.symbol_values.SymbolValue.{SymbolValue}
use Rattle.elf_object.specs.Contents.{relocations_of}
use Rattle.elf_object.specs.Naming.{same_target, is_named_by, is_named, is_thread_named, marks_from, named_of}
use Rattle.elf_symbols.specs.Numbers.{section_numbers, symbol_numbers, first_section_symbol, first_local, first_other, numbers_of, target_number}
use Rattle.elf_symbols.specs.SymbolValues.{symbol_value_of}
use Rattle.elf_symbols.specs.SymbolTable.{SymbolEntry, is_local_entry, part, file_entry, section_entry, section_entries, entry_at, needs_naming, value_or_undefined, listed, listed_by, listed_all, table_of, standing_by, standing_of, own_signatures, is_named_by_group}
use Rattle.elf_object.specs.TableLaws.{named_targets, IsEntryOf, TargetsStand}
use Rattle.elf_object.proofs.ItemPlaces.{get_front, found_long}
use Rattle.elf_object.proofs.Targets.{Sits, got_inside, all_sit}

same_number : (n : ℕ) → nat_eq n n ≡ true
same_number n = grind (arith, nat_tests)

same_self : (target : Target) → same_target target target ≡ true
same_self (OfSection n) = same_number n
same_self (OfSymbol n) = same_number n

-- one that is so is found
any_there : {A : Type 0} (p : A → Bool) (xs : List A) (i : ℕ) (x : A) → slice_get xs i ≡ Some x → p x ≡ true → list_any p xs ≡ true
any_there p [] i x is so = absurd cc
any_there p (y ∷ xs) zero x is so = let same : y ≡ x = cc in ap (λ z. p z || list_any p xs) same ∙ ap (λ b. b || list_any p xs) so
any_there p (y ∷ xs) (suc i) x is so = or_later (p y) (list_any p xs) (any_there p xs i x is so)
  where
    or_later : (a b : Bool) → b ≡ true → (a || b) ≡ true
    or_later true b e = refl
    or_later false b e = e

-- a relocation names its target
named_there : (found : List (List Relocation)) (k i : ℕ) (own : List Relocation) (r : Relocation) → slice_get found k ≡ Some own → slice_get own i ≡ Some r
    → is_named found r.target ≡ true
named_there found k i own r there is =
    any_there (is_named_by r.target) found k own there (any_there (λ (x : Relocation). same_target x.target r.target) own i r is (same_self r.target))

marks_get : (is_so : ℕ → Bool) (from count n : ℕ) → n < count → slice_get (marks_from is_so from count) n ≡ Some (is_so (from + n))
marks_get is_so from zero n low = absurd (omega arith)
marks_get is_so from (suc count) zero low = let same : from ≡ from + 0 = omega arith in ap (λ m. Some (is_so m)) same
marks_get is_so from (suc count) (suc n) low =
    let same : from + 1 + n ≡ from + suc n = omega arith in marks_get is_so (from + 1) count n (omega arith) ∙ ap (λ m. Some (is_so m)) same

-- the entry of a number that is counted from another
pub record IsAt (entries : List SymbolEntry) (base number : ℕ) (entry : SymbolEntry) : Type 0 where
  behind : base ≤ number
  there : slice_get entries (number - base) ≡ Some entry

at_first : (entries : List SymbolEntry) (base : ℕ) (entry : SymbolEntry) → IsAt (entry ∷ entries) base base entry
at_first entries base entry = record { behind = omega arith; there = let none : base - base ≡ 0 = omega arith in ap (slice_get (entry ∷ entries)) none }

at_next : (entries : List SymbolEntry) (base number : ℕ) (first entry : SymbolEntry) → IsAt entries (base + 1) number entry → IsAt (first ∷ entries) base number entry
at_next entries base number first entry at = record {
  behind = let b = at.behind in omega arith;
  there = let b = at.behind in let one : number - base ≡ suc (number - (base + 1)) = omega arith in ap (slice_get (first ∷ entries)) one ∙ at.there;
}

sections_at : (marks : List Bool) (next number n : ℕ) → slice_get marks n ≡ Some true
    → IsAt (section_entries number marks) next (slice_index_or (section_numbers next marks) n 0) (section_entry (number + n))
sections_at [] next number n is = absurd cc
sections_at (true ∷ marks) next number zero is =
    let same : number ≡ number + 0 = omega arith in
    subst (λ m. IsAt (section_entries number (true ∷ marks)) next next (section_entry m)) same (at_first (section_entries (number + 1) marks) next (section_entry number))
sections_at (true ∷ marks) next number (suc n) is =
    let same : number + 1 + n ≡ number + suc n = omega arith in
    subst (λ m. IsAt (section_entries number (true ∷ marks)) next (slice_index_or (section_numbers (next + 1) marks) n 0) (section_entry m)) same
    (at_next (section_entries (number + 1) marks) next _ (section_entry number) (section_entry (number + 1 + n)) (sections_at marks (next + 1) (number + 1) n is))
sections_at (false ∷ marks) next number zero is = absurd cc
sections_at (false ∷ marks) next number (suc n) is =
    let same : number + 1 + n ≡ number + suc n = omega arith in
    subst (λ m. IsAt (section_entries number (false ∷ marks)) next (slice_index_or (section_numbers next marks) n 0) (section_entry m)) same (sections_at marks next (number + 1) n is)

either : (P : Bool → Type 0) (b : Bool) → P true → P false → P b
either P true first second = first
either P false first second = second

-- what is so of both, of the one that is taken
abbrev Both : (local other : ℕ) (entry s : SymbolEntry) (more : List (Option SymbolEntry)) (i : ℕ) (bound : Bool) → Type 0
Both local other entry s more i bound =
    IsAt (cond bound (s ∷ part true more) (part true more)) local
    (slice_index_or (symbol_numbers local other (standing_by bound ∷ map standing_of more)) i 0) entry

locals_at : (xs : List (Option SymbolEntry)) (local other i : ℕ) (entry : SymbolEntry) → slice_get xs i ≡ Some (Some entry) → is_local_entry entry ≡ true
    → IsAt (part true xs) local (slice_index_or (symbol_numbers local other (map standing_of xs)) i 0) entry
locals_at [] local other i entry is so = absurd cc
locals_at (None ∷ more) local other zero entry is so = absurd cc
locals_at (None ∷ more) local other (suc i) entry is so = locals_at more local other i entry is so
locals_at (Some s ∷ more) local other zero entry is so =
    let same : s ≡ entry = cc in
    let bound : is_local_entry s ≡ true = ap is_local_entry same ∙ so in
    rw (bound, same) (at_first (part true more) local entry)
locals_at (Some s ∷ more) local other (suc i) entry is so =
    either (λ bound. Both local other entry s more (suc i) bound) (is_local_entry s) (at_next (part true more) local _ s entry (locals_at more (local + 1) other i entry is so))
    (locals_at more local (other + 1) i entry is so)

others_at : (xs : List (Option SymbolEntry)) (local other i : ℕ) (entry : SymbolEntry) → slice_get xs i ≡ Some (Some entry) → is_local_entry entry ≡ false
    → IsAt (part false xs) other (slice_index_or (symbol_numbers local other (map standing_of xs)) i 0) entry
others_at [] local other i entry is so = absurd cc
others_at (None ∷ more) local other zero entry is so = absurd cc
others_at (None ∷ more) local other (suc i) entry is so = others_at more local other i entry is so
others_at (Some s ∷ more) local other zero entry is so =
    let same : s ≡ entry = cc in
    let bound : is_local_entry s ≡ false = ap is_local_entry same ∙ so in
    rw (bound, same) (at_first (part false more) other entry)
others_at (Some s ∷ more) local other (suc i) entry is so =
    either (λ bound. IsAt (cond (not bound) (s ∷ part false more) (part false more)) other
    (slice_index_or (symbol_numbers local other (standing_by bound ∷ map standing_of more)) (suc i) 0) entry) (is_local_entry s)
    (others_at more (local + 1) other i entry is so) (at_next (part false more) other _ s entry (others_at more local (other + 1) i entry is so))

-- the entry stands behind a front of the table
behind_front : (front entries tail : List SymbolEntry) (base number : ℕ) (entry : SymbolEntry) → base ≡ 1 + length front → IsAt entries base number entry
    → (0 < number) × (slice_get ((front ++ entries) ++ tail) (number - 1) ≡ Some entry)
behind_front front entries tail base number entry is at =
    let b = at.behind in
    let place : number - 1 ≡ length front + (number - base) = omega arith in
    (omega arith, get_front (front ++ entries) tail (number - 1) entry (ap (slice_get (front ++ entries)) place ∙ past front entries (number - base) entry at.there))
  where
    past : (front entries : List SymbolEntry) (j : ℕ) (entry : SymbolEntry) → slice_get entries j ≡ Some entry → slice_get (front ++ entries) (length front + j) ≡ Some entry
    past [] entries j entry there = let same : 0 + j ≡ j = omega arith in ap (slice_get entries) same ∙ there
    past (s ∷ front) entries j entry there =
        let same : suc (length front) + j ≡ suc (length front + j) = omega arith in ap (slice_get (s ∷ (front ++ entries))) same ∙ past front entries j entry there

listed_get : (map : SymbolMap) (sections : LaidSections) (marks threads : List Bool) (symbols : List Symbol) (i : ℕ) (mark thread : Bool) (symbol : Symbol)
    → slice_get marks i ≡ Some mark → slice_get threads i ≡ Some thread → slice_get symbols i ≡ Some symbol
    → slice_get (listed_by map sections marks threads symbols) i ≡ Some (listed map sections mark thread symbol)
listed_get map sections [] threads symbols i mark thread symbol is also there = absurd cc
listed_get map sections (m ∷ marks) [] symbols i mark thread symbol is also there = absurd cc
listed_get map sections (m ∷ marks) (t ∷ threads) [] i mark thread symbol is also there = absurd cc
listed_get map sections (m ∷ marks) (t ∷ threads) (s ∷ symbols) zero mark thread symbol is also there =
    let first : m ≡ mark = cc in let second : t ≡ thread = cc in let third : s ≡ symbol = cc in rw (first, second, third) refl
listed_get map sections (m ∷ marks) (t ∷ threads) (s ∷ symbols) (suc i) mark thread symbol is also there =
    listed_get map sections marks threads symbols i mark thread symbol is also there

-- where a symbol stands, or undefined
abbrev stood : SymbolMap → LaidSections → Symbol → SymbolValue
stood map sections symbol = value_or_undefined (symbol_value_of map sections symbol.meaning)

-- a symbol that is named is listed
listed_there : (map : SymbolMap) (sections : LaidSections) (thread : Bool) (symbol : Symbol)
    → listed map sections true thread symbol ≡ Some (entry_at map sections thread symbol (stood map sections symbol))
unfolding listed
listed_there map sections thread symbol =
    kept (needs_naming symbol (stood map sections symbol)) (is_named_by_group sections symbol (stood map sections symbol)) (entry_at map sections thread symbol (stood map sections symbol))
  where
    kept : (needs group : Bool) (entry : SymbolEntry) → cond (needs && not (true || group)) None (Some entry) ≡ Some entry
    kept true group entry = refl
    kept false group entry = refl

section_stands : (symbols : SymbolMap) (sections : LaidSections) (n : ℕ) → n < length sections → is_named (relocations_of symbols sections) (OfSection n) ≡ true
    → IsEntryOf symbols sections (target_number (numbers_of symbols sections (named_targets symbols sections)) (OfSection n)) (OfSection n)
unfolding table_of named_of
section_stands symbols sections n inside named =
    let found = relocations_of symbols sections in
    let marks = marks_from (λ number. is_named found (OfSection number)) 0 (length found) in
    let long : length found ≡ length sections = found_long symbols sections 0 sections in
    let zero_plus : 0 + n ≡ n = omega arith in
    let mark : slice_get marks n ≡ Some true =
    marks_get (λ number. is_named found (OfSection number)) 0 (length found) n (subst (λ m. n < m) (sym long) inside)
    ∙ ap (λ m. Some (is_named found (OfSection m))) zero_plus ∙ ap Some named in
    let files = map file_entry symbols.files in
    let at = subst (λ m. IsAt (section_entries 0 marks) (first_section_symbol symbols) (slice_index_or (section_numbers (first_section_symbol symbols) marks) n 0) (section_entry m))
    zero_plus (sections_at marks (first_section_symbol symbols) 0 n mark) in
    let base : first_section_symbol symbols ≡ 1 + length files = ap (λ m. 1 + m) (sym (length-map symbols.files file_entry)) in
    let all = listed_all symbols sections (named_targets symbols sections) in
    let (some, there) = behind_front files (section_entries 0 marks) (part true all) (first_section_symbol symbols) _ (section_entry n) base at in
    let named_all = named_targets symbols sections in
    let signatures = own_signatures symbols sections named_all in (
      some,
      get_front (((files ++ section_entries 0 marks) ++ part true all) ++ signatures) (part false all) _ (section_entry n)
          (get_front ((files ++ section_entries 0 marks) ++ part true all) signatures _ (section_entry n) there),
    )

-- the numbers of local symbols, and of the others
symbol_number : (symbols : SymbolMap) (sections : LaidSections) (i : ℕ) (entry : SymbolEntry) (bound : Bool) → is_local_entry entry ≡ bound
    → slice_get (listed_all symbols sections (named_targets symbols sections)) i ≡ Some (Some entry)
    → IsEntryOf symbols sections (target_number (numbers_of symbols sections (named_targets symbols sections)) (OfSymbol i)) (OfSymbol i)
unfolding table_of
symbol_number symbols sections i entry true so there =
    let named = named_targets symbols sections in
    let all = listed_all symbols sections named in
    let front = map file_entry symbols.files ++ section_entries 0 named.sections in
    let base : first_local symbols named ≡ 1 + length front =
    omega (arith, length-append (map file_entry symbols.files) (section_entries 0 named.sections), length-map symbols.files file_entry) in
    let at = locals_at all (first_local symbols named) (first_other symbols sections named) i entry there so in
    let signatures = own_signatures symbols sections named in
    let (some, stands) = behind_front front (part true all) signatures (first_local symbols named) _ entry base at in
    (entry, there, some, get_front ((front ++ part true all) ++ signatures) (part false all) _ entry stands)
symbol_number symbols sections i entry false so there =
    let named = named_targets symbols sections in
    let all = listed_all symbols sections named in
    let signatures = own_signatures symbols sections named in
    let front = ((map file_entry symbols.files ++ section_entries 0 named.sections) ++ part true all) ++ signatures in
    let base : first_other symbols sections named ≡ 1 + length front =
    omega (
      arith,
      length-append ((map file_entry symbols.files ++ section_entries 0 named.sections) ++ part true all) signatures,
      length-append (map file_entry symbols.files ++ section_entries 0 named.sections) (part true all),
      length-append (map file_entry symbols.files) (section_entries 0 named.sections),
      length-map symbols.files file_entry,
    ) in
    let at = others_at all (first_local symbols named) (first_other symbols sections named) i entry there so in
    let (some, stands) = behind_front front (part false all) [] (first_other symbols sections named) _ entry base at in
    let number = slice_index_or (symbol_numbers (first_local symbols named) (first_other symbols sections named) (map standing_of all)) i 0 in
    (entry, there, some, sym (ap (λ (xs : List SymbolEntry). slice_get xs (number - 1)) (append-nil (front ++ part false all))) ∙ stands)

symbol_stands : (symbols : SymbolMap) (sections : LaidSections) (i : ℕ) → Sits symbols sections (OfSymbol i) → is_named (relocations_of symbols sections) (OfSymbol i) ≡ true
    → IsEntryOf symbols sections (target_number (numbers_of symbols sections (named_targets symbols sections)) (OfSymbol i)) (OfSymbol i)
unfolding named_of
symbol_stands symbols sections i (symbol, got) named =
    let found = relocations_of symbols sections in
    let marks = marks_from (λ index. is_named found (OfSymbol index)) 0 (length symbols.symbols) in
    let zero_plus : 0 + i ≡ i = omega arith in
    let mark : slice_get marks i ≡ Some true =
    marks_get (λ index. is_named found (OfSymbol index)) 0 (length symbols.symbols) i (got_inside symbols.symbols i symbol got)
    ∙ ap (λ m. Some (is_named found (OfSymbol m))) zero_plus ∙ ap Some named in
    let threads = marks_from (λ index. is_thread_named found (OfSymbol index)) 0 (length symbols.symbols) in
    let thread = is_thread_named found (OfSymbol (0 + i)) in
    let beside : slice_get threads i ≡ Some thread =
    marks_get (λ index. is_thread_named found (OfSymbol index)) 0 (length symbols.symbols) i (got_inside symbols.symbols i symbol got) in
    let entry = entry_at symbols sections thread symbol (stood symbols sections symbol) in
    symbol_number symbols sections i entry (is_local_entry entry) refl
    (listed_get symbols sections marks threads symbols.symbols i true thread symbol mark beside got ∙ ap Some (listed_there symbols sections thread symbol))

target_stands : (symbols : SymbolMap) (sections : LaidSections) (target : Target) → Sits symbols sections target → is_named (relocations_of symbols sections) target ≡ true
    → IsEntryOf symbols sections (target_number (numbers_of symbols sections (named_targets symbols sections)) target) target
target_stands symbols sections (OfSection n) sits named = section_stands symbols sections n sits named
target_stands symbols sections (OfSymbol i) sits named = symbol_stands symbols sections i sits named

pub targets_stand : TargetsStand
targets_stand symbols sections number index own r there is =
    target_stands symbols sections r.target (all_sit symbols sections 0 sections number index own r there is)
    (named_there (relocations_of symbols sections) number index own r there is)
