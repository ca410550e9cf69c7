-- The numbers of symbols and of signatures of groups are those of their entries in the table.
use Rattle.std.proofs.Common.{◌≡◌, ◌⊎◌, ℕ, zero, suc, ◌+◌, ◌-◌, ◌<◌, ◌≤◌, not, Bool, true, false, cond, List, [], ◌∷◌, ◌++◌, Option, None, Some, length, map, option_map, option_and_then, refl, sym, ap, ◌∙◌, subst, inl, inr, arith, append-nil, length-append}
use Rattle.std.proofs.lemmas.List.{length-map}
use Rattle.std.proofs.lemmas.Option.{slice_get-map}
use Rattle.std.proofs.lemmas.Slice.Eq.{bytes_eq-Decides}
use Rattle.std.specs.Prelude.{unwrap_or, slice_get, slice_index_or}
use Rattle.asm_expr.specs.declared.naming.Name.{Name}
use Rattle.asm_expr.specs.declared.naming.Name.TheVariants.{Plain, Numeric, Place}
use Rattle.asm_expr.specs.Names.{same_name}
use Rattle.asm_frags.specs.declared.groups.Group.{Group}
use Rattle.asm_frags.specs.Groups.{groups_of}
use Rattle.asm_symbols.specs.declared.entries.Symbol.{Symbol}
use Rattle.asm_symbols.specs.SymbolMap.{SymbolMap, names, index_of}
use Rattle.asm_relax.specs.Settling.{LaidSections}
use Rattle.elf_symbols.specs.Numbers.{symbol_numbers, first_local, first_signature, first_other, signature_number, number_if, next_if, group_numbers, symbol_numbers_of, numbers_of, group_symbol}
use Rattle.elf_symbols.specs.SymbolTable.{SymbolEntry, is_local_entry, part, file_entry, section_entries, signature_entry, listed_all, table_of, standing_by, standing_of, standings, is_listed, is_signature_listed, signature_entries, own_signatures}
use Rattle.elf_object.specs.TableLaws.{named_targets, table_in}
use Rattle.object_laws.specs.GroupReading.{named_entry, signed_entry}
use Rattle.object_laws.proofs.ObjectParts.{get_front, get_behind, mapped}

-- the entry of a number that is counted from another
record IsAt (entries : List SymbolEntry) (base number : ℕ) (entry : SymbolEntry) : Type 0 where
  behind : base ≤ number
  there : slice_get entries (number - base) ≡ Some entry

at_first : (entries : List SymbolEntry) (base : ℕ) (entry : SymbolEntry) → IsAt (entry ∷ entries) base base entry
at_first entries base entry = record { behind = omega arith; there = let none : base - base ≡ 0 = omega arith in ap (slice_get (entry ∷ entries)) none }

at_next : (entries : List SymbolEntry) (base number : ℕ) (first entry : SymbolEntry) → IsAt entries (base + 1) number entry → IsAt (first ∷ entries) base number entry
at_next entries base number first entry at = record {
  behind = let b = at.behind in omega arith;
  there = let b = at.behind in let one : number - base ≡ suc (number - (base + 1)) = omega arith in ap (slice_get (first ∷ entries)) one ∙ at.there;
}

either : (P : Bool → Type 0) (b : Bool) → P true → P false → P b
either P true first second = first
either P false first second = second

-- what is so of both, of the one that is taken
abbrev Both : (local other : ℕ) (entry s : SymbolEntry) (more : List (Option SymbolEntry)) (i : ℕ) (bound : Bool) → Type 0
Both local other entry s more i bound =
    IsAt (cond bound (s ∷ part true more) (part true more)) local
    (slice_index_or (symbol_numbers local other (standing_by bound ∷ map standing_of more)) i 0) entry

locals_at : (xs : List (Option SymbolEntry)) (local other i : ℕ) (entry : SymbolEntry) → slice_get xs i ≡ Some (Some entry) → is_local_entry entry ≡ true
    → IsAt (part true xs) local (slice_index_or (symbol_numbers local other (map standing_of xs)) i 0) entry
locals_at [] local other i entry is so = absurd cc
locals_at (None ∷ more) local other zero entry is so = absurd cc
locals_at (None ∷ more) local other (suc i) entry is so = locals_at more local other i entry is so
locals_at (Some s ∷ more) local other zero entry is so =
    let same : s ≡ entry = cc in
    let bound : is_local_entry s ≡ true = ap is_local_entry same ∙ so in
    rw (bound, same) (at_first (part true more) local entry)
locals_at (Some s ∷ more) local other (suc i) entry is so =
    either (λ bound. Both local other entry s more (suc i) bound) (is_local_entry s) (at_next (part true more) local _ s entry (locals_at more (local + 1) other i entry is so))
    (locals_at more local (other + 1) i entry is so)

others_at : (xs : List (Option SymbolEntry)) (local other i : ℕ) (entry : SymbolEntry) → slice_get xs i ≡ Some (Some entry) → is_local_entry entry ≡ false
    → IsAt (part false xs) other (slice_index_or (symbol_numbers local other (map standing_of xs)) i 0) entry
others_at [] local other i entry is so = absurd cc
others_at (None ∷ more) local other zero entry is so = absurd cc
others_at (None ∷ more) local other (suc i) entry is so = others_at more local other i entry is so
others_at (Some s ∷ more) local other zero entry is so =
    let same : s ≡ entry = cc in
    let bound : is_local_entry s ≡ false = ap is_local_entry same ∙ so in
    rw (bound, same) (at_first (part false more) other entry)
others_at (Some s ∷ more) local other (suc i) entry is so =
    either (λ bound. IsAt (cond (not bound) (s ∷ part false more) (part false more)) other
    (slice_index_or (symbol_numbers local other (standing_by bound ∷ map standing_of more)) (suc i) 0) entry) (is_local_entry s)
    (others_at more (local + 1) other i entry is so) (at_next (part false more) other _ s entry (others_at more local (other + 1) i entry is so))

-- the number is that of the entry in the table; the null symbol has the number 0
pub record IsNumbered (symbols : SymbolMap) (sections : LaidSections) (number : ℕ) (entry : SymbolEntry) : Type 0 where
  pub some : 0 < number
  pub there : slice_get (table_in symbols sections) (number - 1) ≡ Some entry

-- the entry stands behind a front of the table
behind_front : (front entries tail : List SymbolEntry) (base number : ℕ) (entry : SymbolEntry) → base ≡ 1 + length front → IsAt entries base number entry
    → (0 < number) × (slice_get ((front ++ entries) ++ tail) (number - 1) ≡ Some entry)
behind_front front entries tail base number entry is at =
    let b = at.behind in
    let place : number - 1 ≡ length front + (number - base) = omega arith in
    (omega arith, get_front (front ++ entries) tail (number - 1) entry (get_behind front entries (number - base) (number - 1) place ∙ at.there))

module _ (symbols : SymbolMap) (sections : LaidSections) where
  -- the entries that stand before those of signatures
  abbrev fronts : List SymbolEntry
  fronts =
      let named = named_targets symbols sections in
      (map file_entry symbols.files ++ section_entries 0 named.sections) ++ part true (listed_all symbols sections named)

  fronts_long : first_signature symbols sections (named_targets symbols sections) ≡ 1 + length fronts
  fronts_long =
      let named = named_targets symbols sections in
      omega (
        arith,
        length-append (map file_entry symbols.files ++ section_entries 0 named.sections) (part true (listed_all symbols sections named)),
        length-append (map file_entry symbols.files) (section_entries 0 named.sections),
        length-map symbols.files file_entry,
      )

  -- the number of a symbol that has an entry
  symbol_numbered : (i : ℕ) (entry : SymbolEntry) (bound : Bool) → is_local_entry entry ≡ bound → slice_get (listed_all symbols sections (named_targets symbols sections)) i ≡ Some (Some entry)
      → IsNumbered symbols sections (slice_index_or (symbol_numbers_of symbols sections (named_targets symbols sections)) i 0) entry
  unfolding table_of
  symbol_numbered i entry true so there =
      let named = named_targets symbols sections in
      let all = listed_all symbols sections named in
      let front = map file_entry symbols.files ++ section_entries 0 named.sections in
      let base : first_local symbols named ≡ 1 + length front =
      omega (arith, length-append (map file_entry symbols.files) (section_entries 0 named.sections), length-map symbols.files file_entry) in
      let at = locals_at all (first_local symbols named) (first_other symbols sections named) i entry there so in
      let signatures = own_signatures symbols sections named in
      let (some, stands) = behind_front front (part true all) signatures (first_local symbols named) _ entry base at in
      record { some = some; there = get_front ((front ++ part true all) ++ signatures) (part false all) _ entry stands }
  symbol_numbered i entry false so there =
      let named = named_targets symbols sections in
      let all = listed_all symbols sections named in
      let signatures = own_signatures symbols sections named in
      let front = fronts ++ signatures in
      let before = fronts_long in
      let base : first_other symbols sections named ≡ 1 + length front = omega (arith, before, length-append fronts signatures) in
      let at = others_at all (first_local symbols named) (first_other symbols sections named) i entry there so in
      let (some, stands) = behind_front front (part false all) [] (first_other symbols sections named) _ entry base at in
      let number = slice_index_or (symbol_numbers (first_local symbols named) (first_other symbols sections named) (map standing_of all)) i 0 in
      record { some = some; there = sym (ap (λ (xs : List SymbolEntry). slice_get xs (number - 1)) (append-nil (front ++ part false all))) ∙ stands }

  -- the number of a signature whose symbol has no other entry
  signature_there : (number : ℕ) (entry : SymbolEntry) → IsAt (own_signatures symbols sections (named_targets symbols sections)) (first_signature symbols sections (named_targets symbols sections)) number entry
      → IsNumbered symbols sections number entry
  unfolding table_of
  signature_there number entry at =
      let named = named_targets symbols sections in
      let (some, stands) = behind_front fronts (own_signatures symbols sections named) (part false (listed_all symbols sections named)) (first_signature symbols sections named) number entry fronts_long at in
      record { some = some; there = stands }

-- SIGNATURES

-- the name is found there
abbrev IsFound : Name → List Name → ℕ → Type 0
IsFound name list i = (other : Name) × (slice_get list i ≡ Some other) × (same_name name other ≡ true)

index_found : (name : Name) (list : List Name) (i : ℕ) → index_of name list ≡ Some i → IsFound name list i
index_found name [] i is = absurd cc
index_found name (first ∷ rest) i is = by_first (same_name name first) refl is (λ index later. index_found name rest index later)
  where
    by_first : (b : Bool) → same_name name first ≡ b → cond b (Some 0) (option_map (λ (index : ℕ). index + 1) (index_of name rest)) ≡ Some i
        → ((index : ℕ) → index_of name rest ≡ Some index → IsFound name rest index) → IsFound name (first ∷ rest) i
    by_first true so here behind =
        let at : 0 ≡ i = cc in
        (first, ap (slice_get (first ∷ rest)) (sym at), so)
    by_first false so here behind =
        mapped (λ (index : ℕ). index + 1) (index_of name rest) i here (λ index later more.
        let (other, there, same) = behind index later in
        let next : i ≡ suc index = sym more ∙ (let one : index + 1 ≡ suc index = omega arith in one) in
        (other, ap (slice_get (first ∷ rest)) next ∙ there, same))

-- a name that is the same as a text is that text
plain_name : (text : List ℕ) (name : Name) → same_name (Plain text) name ≡ true → name ≡ Plain text
plain_name text (Plain other) is = ap Plain (sym ((bytes_eq-Decides text other).0 is))
plain_name text (Numeric number instance) is = absurd cc
plain_name text (Place section item offset) is = absurd cc

-- an entry that is there
listed_there : (all : List (Option SymbolEntry)) (i : ℕ) → is_listed (slice_get (map standing_of all) i) ≡ true → (entry : SymbolEntry) × (slice_get all i ≡ Some (Some entry))
listed_there [] i is = absurd cc
listed_there (None ∷ all) zero is = absurd cc
listed_there (Some entry ∷ all) zero is = (entry, refl)
listed_there (one ∷ all) (suc i) is = listed_there all i is

-- the symbol that a signature names has an entry of its own
record HasEntry (symbols : SymbolMap) (sections : LaidSections) (signature : List ℕ) : Type 0 where
  index : ℕ
  symbol : Symbol
  entry : SymbolEntry
  found : index_of (Plain signature) (names symbols.symbols) ≡ Some index
  own : slice_get symbols.symbols index ≡ Some symbol
  named : symbol.name ≡ Plain signature
  there : slice_get (listed_all symbols sections (named_targets symbols sections)) index ≡ Some (Some entry)

has_entry : (symbols : SymbolMap) (sections : LaidSections) (signature : List ℕ) → is_signature_listed symbols (standings symbols sections (named_targets symbols sections)) signature ≡ true
    → HasEntry symbols sections signature
has_entry symbols sections signature is = by_index (index_of (Plain signature) (names symbols.symbols)) refl is
  where
    by_index : (found : Option ℕ) → index_of (Plain signature) (names symbols.symbols) ≡ found
        → is_listed (option_and_then (slice_get (standings symbols sections (named_targets symbols sections))) found) ≡ true → HasEntry symbols sections signature
    by_index None same listed = absurd cc
    by_index (Some index) same listed =
        let (entry, there) = listed_there (listed_all symbols sections (named_targets symbols sections)) index listed in
        let (name, got, alike) = index_found (Plain signature) (names symbols.symbols) index same in
        mapped (λ (symbol : Symbol). symbol.name) (slice_get symbols.symbols index) name (sym (slice_get-map (λ (symbol : Symbol). symbol.name) symbols.symbols index) ∙ got) (λ symbol own own_name.
        record {
          index = index;
          symbol = symbol;
          entry = entry;
          found = same;
          own = own;
          named = own_name ∙ plain_name signature name alike;
          there = there;
        })

-- the symbol that a signature names has no entry of its own
none_there : (all : List (Option SymbolEntry)) (i : ℕ) → is_listed (slice_get (map standing_of all) i) ≡ false → option_and_then (λ (entry : Option SymbolEntry). entry) (slice_get all i) ≡ None
none_there [] i is = refl
none_there (None ∷ all) zero is = refl
none_there (Some entry ∷ all) zero is = absurd (never (is_local_entry entry) is)
  where
    never : (b : Bool) → is_listed (Some (standing_by b)) ≡ false → ⊥
    never true is = absurd cc
    never false is = absurd cc
none_there (one ∷ all) (suc i) is = none_there all i is

no_entry : (symbols : SymbolMap) (sections : LaidSections) (signature : List ℕ) → is_signature_listed symbols (standings symbols sections (named_targets symbols sections)) signature ≡ false
    → named_entry symbols sections signature ≡ None
no_entry symbols sections signature is = by_index (index_of (Plain signature) (names symbols.symbols)) is
  where
    by_index : (found : Option ℕ) → is_listed (option_and_then (slice_get (standings symbols sections (named_targets symbols sections))) found) ≡ false
        → option_and_then (λ (number : ℕ). option_and_then (λ (entry : Option SymbolEntry). entry) (slice_get (listed_all symbols sections (named_targets symbols sections)) number)) found ≡ None
    by_index None none = refl
    by_index (Some number) none = none_there (listed_all symbols sections (named_targets symbols sections)) number none

-- the number of a signature: that of its symbol, if that has an entry of its own, and else that of its own entry
abbrev SignatureAt : SymbolMap → LaidSections → List ℕ → List SymbolEntry → ℕ → ℕ → ℕ → List ℕ → Type 0
SignatureAt symbols sections own entries next number place signature =
    ((is_signature_listed symbols (standings symbols sections (named_targets symbols sections)) signature ≡ true) × (number ≡ signature_number symbols own signature))
    ⊎ ((is_signature_listed symbols (standings symbols sections (named_targets symbols sections)) signature ≡ false) × IsAt entries next number (signature_entry place signature))

module _ (symbols : SymbolMap) (sections : LaidSections) (own : List ℕ) where
  signature_first : (next place : ℕ) (signature : List ℕ) (rest : List SymbolEntry) (b : Bool) → is_signature_listed symbols (standings symbols sections (named_targets symbols sections)) signature ≡ b
      → SignatureAt symbols sections own (cond b [] (signature_entry place signature ∷ []) ++ rest) next (number_if b (signature_number symbols own signature) next) place signature
  signature_first next place signature rest true is = inl (is, refl)
  signature_first next place signature rest false is = inr (is, at_first rest next (signature_entry place signature))

  signature_later : (next number place : ℕ) (signature : List ℕ) (entry : SymbolEntry) (rest : List SymbolEntry) (b : Bool) → SignatureAt symbols sections own rest (next_if b next) number place signature
      → SignatureAt symbols sections own (cond b [] (entry ∷ []) ++ rest) next number place signature
  signature_later next number place signature entry rest true at = at
  signature_later next number place signature entry rest false (inl listed) = inl listed
  signature_later next number place signature entry rest false (inr (is, at)) = inr (is, at_next rest next number entry (signature_entry place signature) at)

  signature_at : (next index : ℕ) (groups : List Group) (place : ℕ) (group : Group) → slice_get groups place ≡ Some group
      → SignatureAt symbols sections own (signature_entries symbols (standings symbols sections (named_targets symbols sections)) index groups) next (slice_index_or (group_numbers symbols (standings symbols sections (named_targets symbols sections)) own next groups) place 0) (index + place) group.signature
  signature_at next index [] place group is = absurd cc
  signature_at next index (g ∷ groups) zero group is =
      let same : g ≡ group = cc in
      let here : index ≡ index + 0 = omega arith in
      let rest = signature_entries symbols (standings symbols sections (named_targets symbols sections)) (index + 1) groups in
      let first = signature_first next index g.signature rest (is_signature_listed symbols (standings symbols sections (named_targets symbols sections)) g.signature) refl in
      let number = slice_index_or (group_numbers symbols (standings symbols sections (named_targets symbols sections)) own next (g ∷ groups)) 0 0 in
      subst (λ (one : Group). SignatureAt symbols sections own (signature_entries symbols (standings symbols sections (named_targets symbols sections)) index (g ∷ groups)) next number (index + 0) one.signature) same
      (subst (λ n. SignatureAt symbols sections own (signature_entries symbols (standings symbols sections (named_targets symbols sections)) index (g ∷ groups)) next number n g.signature) here first)
  signature_at next index (g ∷ groups) (suc place) group is =
      let listed = is_signature_listed symbols (standings symbols sections (named_targets symbols sections)) g.signature in
      let here : index + 1 + place ≡ index + suc place = omega arith in
      let rest = signature_entries symbols (standings symbols sections (named_targets symbols sections)) (index + 1) groups in
      let number = slice_index_or (group_numbers symbols (standings symbols sections (named_targets symbols sections)) own (next_if listed next) groups) place 0 in
      let later = signature_at (next_if listed next) (index + 1) groups place group is in
      signature_later next number (index + suc place) group.signature (signature_entry index g.signature) rest listed
      (subst (λ n. SignatureAt symbols sections own rest (next_if listed next) number n group.signature) here later)

-- the entry of a signature is one of its own, or that of the symbol of this name
abbrev pub IsSigned : SymbolMap → LaidSections → ℕ → List ℕ → SymbolEntry → Type 0
IsSigned symbols sections place signature entry =
    (entry ≡ signature_entry place signature)
    ⊎ ((number : ℕ) × (symbol : Symbol) × (slice_get symbols.symbols number ≡ Some symbol) × (symbol.name ≡ Plain signature)
    × (slice_get (listed_all symbols sections (named_targets symbols sections)) number ≡ Some (Some entry)))

-- the number of the signature of a group is that of its entry
pub record HasSignature (symbols : SymbolMap) (sections : LaidSections) (place number : ℕ) (group : Group) : Type 0 where
  pub entry : SymbolEntry
  pub meant : IsSigned symbols sections place group.signature entry
  pub signed : entry ≡ signed_entry symbols sections place group.signature
  pub numbered : IsNumbered symbols sections number entry

pub signature_numbered : (symbols : SymbolMap) (sections : LaidSections) (place : ℕ) (group : Group) → slice_get (groups_of sections) place ≡ Some group
    → HasSignature symbols sections place (group_symbol (numbers_of symbols sections (named_targets symbols sections)) place) group
signature_numbered symbols sections place group is =
    let named = named_targets symbols sections in
    let all = standings symbols sections named in
    let own = symbol_numbers_of symbols sections named in
    let next = first_signature symbols sections named in
    let zero_plus : 0 + place ≡ place = omega arith in
    by_case (subst (λ n. SignatureAt symbols sections own (signature_entries symbols all 0 (groups_of sections)) next (group_symbol (numbers_of symbols sections named) place) n group.signature) zero_plus
    (signature_at symbols sections own next 0 (groups_of sections) place group is))
  where
    number : ℕ
    number = group_symbol (numbers_of symbols sections (named_targets symbols sections)) place

    by_case : SignatureAt symbols sections (symbol_numbers_of symbols sections (named_targets symbols sections))
        (own_signatures symbols sections (named_targets symbols sections)) (first_signature symbols sections (named_targets symbols sections)) number place group.signature
        → HasSignature symbols sections place number group
    by_case (inl (listed, same)) =
        let has = has_entry symbols sections group.signature listed in
        let numbered = symbol_numbered symbols sections has.index has.entry (is_local_entry has.entry) refl has.there in
        let own = symbol_numbers_of symbols sections (named_targets symbols sections) in
        let there : number ≡ slice_index_or own has.index 0 = same ∙ rw has.found refl in
        let all = listed_all symbols sections (named_targets symbols sections) in
        let named : named_entry symbols sections group.signature ≡ Some has.entry =
        ap (option_and_then (λ (n : ℕ). option_and_then (λ (entry : Option SymbolEntry). entry) (slice_get all n))) has.found
        ∙ ap (option_and_then (λ (entry : Option SymbolEntry). entry)) has.there in
        record {
          entry = has.entry;
          meant = inr (has.index, has.symbol, has.own, has.named, has.there);
          signed = sym (ap (λ (o : Option SymbolEntry). unwrap_or o (signature_entry place group.signature)) named);
          numbered = subst (λ n. IsNumbered symbols sections n has.entry) (sym there) numbered;
        }
    by_case (inr (unlisted, at)) = record {
      entry = signature_entry place group.signature;
      meant = inl refl;
      signed = sym (ap (λ (o : Option SymbolEntry). unwrap_or o (signature_entry place group.signature)) (no_entry symbols sections group.signature unlisted));
      numbered = signature_there symbols sections number (signature_entry place group.signature) at;
    }
