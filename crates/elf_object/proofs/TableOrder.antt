-- The local symbols of the table stand first.
use Rattle.std.proofs.Common.{◌≡◌, ℕ, ◌+◌, ◌-◌, ◌&&◌, Bool, true, false, not, cond, List, [], ◌∷◌, ◌++◌, Option, None, Some, length, map, take, drop, refl, ap, ◌∙◌, arith, length-append}
use Rattle.std.proofs.lemmas.List.{length-map, drop_at, take-append-le, take_all}
use Rattle.std.specs.List.{list_all}
use Rattle.asm_expr.specs.declared.naming.Name.{Name}
use Rattle.asm_frags.specs.declared.groups.Group.{Group}
use Rattle.asm_frags.specs.Groups.{groups_of}
use Rattle.asm_symbols.specs.SymbolMap.{SymbolMap}
use Rattle.asm_relax.specs.Settling.{LaidSections}
use Rattle.elf_symbols.specs.Targets.{NamedOf}
use Rattle.elf_symbols.specs.SymbolTable.{SymbolEntry, is_local_entry, is_bound, part, file_entry, section_entries, listed_all, standings, is_signature_listed, signature_entry, signature_if, signature_entries, own_signatures, table_of}
use Rattle.elf_object.specs.TableLaws.{LocalsFirst, named_targets, info_in}

all_append : (p : SymbolEntry → Bool) (these those : List SymbolEntry) → list_all p these ≡ true → list_all p those ≡ true → list_all p (these ++ those) ≡ true
all_append p [] those first second = second
all_append p (s ∷ these) those first second = by_both (p s) (list_all p these) first (λ e es. ap (λ b. b && list_all p (these ++ those)) e ∙ all_append p these those es second)
  where
    by_both : {Goal : Type 0} (a b : Bool) → (a && b) ≡ true → (a ≡ true → b ≡ true → Goal) → Goal
    by_both true b e go = go refl e
    by_both false b e go = absurd cc

files_local : (files : List Name) → list_all is_local_entry (map file_entry files) ≡ true
files_local [] = refl
files_local (name ∷ files) = files_local files

sections_local : (number : ℕ) (marks : List Bool) → list_all is_local_entry (section_entries number marks) ≡ true
sections_local number [] = refl
sections_local number (true ∷ marks) = sections_local (number + 1) marks
sections_local number (false ∷ marks) = sections_local (number + 1) marks

kept_so : (p : SymbolEntry → Bool) (s : SymbolEntry) (kept : Bool) (more : List SymbolEntry) → (kept ≡ true → p s ≡ true) → list_all p more ≡ true
    → list_all p (cond kept (s ∷ more) more) ≡ true
kept_so p s true more is all = ap (λ b. b && list_all p more) (is refl) ∙ all
kept_so p s false more is all = all

part_so : (local : Bool) (these : List (Option SymbolEntry)) → list_all (is_bound local) (part local these) ≡ true
part_so local [] = refl
part_so local (None ∷ more) = part_so local more
part_so local (Some s ∷ more) = kept_so (is_bound local) s (is_bound local s) (part local more) (λ e. e) (part_so local more)

local_part : (these : List (Option SymbolEntry)) → list_all is_local_entry (part true these) ≡ true
local_part these = part_so true these

other_part : (these : List (Option SymbolEntry)) → list_all (λ s. not (is_local_entry s)) (part false these) ≡ true
other_part these = part_so false these

take_front : (these those : List SymbolEntry) (n : ℕ) → length these ≡ n → take n (these ++ those) ≡ these
take_front these those n long = take-append-le n these those (omega arith) ∙ take_all n these (omega arith)

one_local : (index : ℕ) (signature : List ℕ) (listed : Bool) → list_all is_local_entry (cond listed [] (signature_entry index signature ∷ [])) ≡ true
one_local index signature true = refl
one_local index signature false = refl

signatures_local : (symbols : SymbolMap) (sections : LaidSections) (named : NamedOf) (index : ℕ) (groups : List Group)
    → list_all is_local_entry (signature_entries symbols (standings symbols sections named) index groups) ≡ true
signatures_local symbols sections named index [] = refl
signatures_local symbols sections named index (group ∷ groups) =
    let all = standings symbols sections named in
    all_append is_local_entry (signature_if symbols all index group.signature) (signature_entries symbols all (index + 1) groups)
    (one_local index group.signature (is_signature_listed symbols all group.signature)) (signatures_local symbols sections named (index + 1) groups)

-- the null symbol isn't among them
all_but_null : (files own locals signatures count : ℕ) → count ≡ files → (1 + files + own + locals + signatures) - 1 ≡ count + own + locals + signatures
all_but_null files own locals signatures count same = omega (arith, same)

-- four lists of local symbols, and others behind them
ordered : (files own locals signatures others : List SymbolEntry) (n : ℕ) → n ≡ length files + length own + length locals + length signatures → list_all is_local_entry files ≡ true
    → list_all is_local_entry own ≡ true → list_all is_local_entry locals ≡ true → list_all is_local_entry signatures ≡ true → list_all (λ s. not (is_local_entry s)) others ≡ true
    → (list_all is_local_entry (take n ((((files ++ own) ++ locals) ++ signatures) ++ others)) ≡ true)
    × (list_all (λ s. not (is_local_entry s)) (drop n ((((files ++ own) ++ locals) ++ signatures) ++ others)) ≡ true)
ordered files own locals signatures others n is first second third fourth fifth =
    let front = ((files ++ own) ++ locals) ++ signatures in
    let long : length front ≡ n = omega (arith, is, length-append ((files ++ own) ++ locals) signatures, length-append (files ++ own) locals, length-append files own) in
    let all : list_all is_local_entry front ≡ true =
    all_append is_local_entry ((files ++ own) ++ locals) signatures (all_append is_local_entry (files ++ own) locals (all_append is_local_entry files own first second) third) fourth in (
      ap (list_all is_local_entry) (take_front front others n long) ∙ all,
      ap (list_all (λ s. not (is_local_entry s))) (drop_at front others n long) ∙ fifth,
    )

pub locals_first : LocalsFirst
unfolding table_of
locals_first symbols sections =
    let named = named_targets symbols sections in
    let all = listed_all symbols sections named in
    let files = map file_entry symbols.files in
    let own = section_entries 0 named.sections in
    let signatures = own_signatures symbols sections named in
    let count : info_in symbols sections - 1 ≡ length files + length own + length (part true all) + length signatures =
    all_but_null (length symbols.files) (length own) (length (part true all)) (length signatures) (length files) (length-map symbols.files file_entry) in
    ordered files own (part true all) signatures (part false all) (info_in symbols sections - 1) count (files_local symbols.files) (sections_local 0 named.sections) (local_part all)
    (signatures_local symbols sections named 0 (groups_of sections)) (other_part all)
