-- The types, symbols and suffixes of relocations are as the laws say.
use Rattle.std.proofs.Common.{◌≡◌, ℕ, ◌+◌, Bool, false, List, [], ◌∷◌, Option, Some, refl, sym, ap, ◌∙◌, subst, ⊎_elim, arith}
use Rattle.std.specs.Prelude.{slice_get, option_map, find}
use Rattle.asm_expr.specs.declared.forms.Term.{Term}
use Rattle.asm_expr.specs.Forms.{term_of, wrapped}
use Rattle.asm_frags.specs.declared.fields.Field.{Field}
use Rattle.asm_frags.specs.SectionOf.{SectionOf}
use Rattle.asm_symbols.specs.declared.entries.Symbol.{Symbol}
use Rattle.asm_symbols.specs.SymbolMap.{SymbolMap}
use Rattle.asm_relax.specs.FieldValues.{counted}
use Rattle.asm_relax.specs.Settling.{LaidItem, LaidSections}
use Rattle.elf_object.specs.declared.references.SymbolReference.{SymbolReference}
use Rattle.elf_object.specs.declared.references.Reference.{Reference}
use Rattle.elf_object.specs.declared.relocations.Relocation.{Relocation}
use Rattle.elf_object.specs.declared.relocations.RelocationKind.{RelocationKind}
use Rattle.elf_object.specs.Relocations.{kind_number, kind_by, kind_for, is_plus, reference, relocation_with, field_place}
use Rattle.object_laws.specs.RelocationTypes.{RelocationType, relocation_type}
use Rattle.object_laws.specs.FieldTypes.{IsVerified, Suits, IsTyped, RelocationsSuitFields}
use Rattle.object_laws.specs.FieldSymbols.{form_left, added_symbol, IsSymbolOf, is_local_symbol, NamesSymbol, RelocationsNameSymbols}
use Rattle.object_laws.specs.Suffixes.{is_led, operand_by, IsAnswered, SuffixesAreAnswered}
use Rattle.object_laws.proofs.Types.{row_of, numbered, IsRight, is_led_by, kind_right, verified_held, no_zeros, no_sign, no_distance}
use Rattle.object_laws.proofs.Numbers.{asked}
use Rattle.object_laws.proofs.Parts.{IsMade, parts_of, IsFound, found_is, ArePair, IsAlone, IsLess, by_terms}

-- THE TYPE SUITS THE FIELD

suits : (field : Field) (taken local : Bool) (kind : RelocationKind) → IsRight field.role.suffix (is_led_by field.role.kind field.size local) taken field.role.kind field.size kind
    → Suits field (row_of kind)
suits field taken local kind right = record {
  bytes = right.0;
  signed = no_zeros (row_of kind).check field.role.kind right.1;
  plain = no_sign (row_of kind).check field.role.kind right.1;
  held = λ value low verified.
      verified_held (row_of kind).check field.role.kind field.size value right.1 (subst (λ (n : ℕ). IsVerified (row_of kind).check n value) right.0 verified);
}

pub suit : RelocationsSuitFields
suit map sections number section field r is =
    let (found, kind, parts) = parts_of map sections number section field r is in
    let right = kind_right field.role.suffix found.relative field.role.kind found.local field.size kind parts.chosen in (
      row_of kind,
      subst (λ (x : Relocation). IsTyped section field x (row_of kind)) parts.made
          (record { numbered = numbered kind; suits = suits field found.relative found.local kind right; place = refl }),
    )

-- THE SYMBOL

-- the symbol of the field, and what stands for it
pub record IsSymbol (map : SymbolMap) (sections : LaidSections) (field : Field) (found : Reference) (index : ℕ) (symbol : Symbol) (at : SymbolReference) : Type 0 where
  pub added : added_symbol map sections field ≡ Some index
  pub stands : IsFound map sections field index symbol at
  pub target : at.target ≡ found.target
  pub alone : (form_left map sections field).terms ≡ term_of index 1 ∷ [] → reference false (form_left map sections field).constant at ≡ found
  pub local : at.local ≡ found.local

-- the first of the terms that counts once
abbrev first_of : List Term → Option ℕ
first_of terms = option_map (λ (term : Term). term.symbol) (find is_plus terms)

abbrev FindsSymbol : SymbolMap → LaidSections → Field → Reference → Type 0
FindsSymbol map sections field found = (index : ℕ) × (symbol : Symbol) × (at : SymbolReference) × IsSymbol map sections field found index symbol at

module _ (map : SymbolMap) (sections : LaidSections) (number place : ℕ) (field : Field) (found : Reference) where
  alone_symbol : (index : ℕ) (at : SymbolReference) → IsAlone map sections field (form_left map sections field).terms (form_left map sections field).constant found index at
      → FindsSymbol map sections field found
  alone_symbol index at alone =
      let (symbol, stands) = found_is map sections field index at alone.there in (
        index,
        symbol,
        at,
        record {
          added = ap first_of alone.are;
          alone = λ _. alone.made;
          stands = stands;
          target = ap (λ (f : Reference). f.target) alone.made;
          local = ap (λ (f : Reference). f.local) alone.made;
        },
      )

  -- two terms are not one
  not_alone : {terms : List Term} {index from : ℕ} → terms ≡ term_of index 1 ∷ [] → ArePair map sections field terms index from → ⊥
  not_alone one two = ⊎_elim (λ e. absurd cc) (λ e. absurd cc) two

  less_symbol : (index from address : ℕ) (at : SymbolReference)
      → IsLess map sections field number place (form_left map sections field).terms (form_left map sections field).constant found index from address at → FindsSymbol map sections field found
  less_symbol index from address at pair =
      let (symbol, stands) = found_is map sections field index at pair.there in (
        index,
        symbol,
        at,
        record {
          alone = λ e. absurd (not_alone e pair.are);
          added = ⊎_elim (λ e. ap first_of e) (λ e. ap first_of e) pair.are;
          stands = stands;
          target = ap (λ (f : Reference). f.target) pair.made;
          local = ap (λ (f : Reference). f.local) pair.made;
        },
      )

symbol_of : (map : SymbolMap) (sections : LaidSections) (number : ℕ) (section : SectionOf LaidItem) (field : Field) (r : Relocation) (found : Reference) (kind : RelocationKind)
    → IsMade map sections number section field r found kind → FindsSymbol map sections field found
symbol_of map sections number section field r found kind parts =
    let place = field_place section field in
    by_terms map sections field number place (form_left map sections field).constant found (FindsSymbol map sections field found) (form_left map sections field).terms parts.there
    (alone_symbol map sections number place field found) (less_symbol map sections number place field found)

-- a relocation whose place is not taken has a field that counts from nowhere: its addend is that of the sum
addend_is : (field : Field) (found : Reference) (addend : ℕ) (kind : RelocationKind) → kind_for found.relative field.role found.local field.size ≡ Some kind
    → found.relative ≡ false → found.addend ≡ addend → counted field.size field.role found.addend ≡ addend
addend_is field found addend kind chosen absolute is =
    let there : kind_by field.role.suffix false field.role.kind found.local field.size ≡ Some kind =
    ap (λ (b : Bool). kind_by field.role.suffix b field.role.kind found.local field.size) (sym absolute) ∙ chosen in
    let kept = no_distance field.role.suffix field.role.kind found.local field.size kind there in
    rw kept is

names_symbol : (map : SymbolMap) (sections : LaidSections) (number : ℕ) (section : SectionOf LaidItem) (field : Field) (r : Relocation) (found : Reference) (kind : RelocationKind) (index : ℕ)
    (symbol : Symbol) (at : SymbolReference) → IsMade map sections number section field r found kind → IsSymbol map sections field found index symbol at
    → NamesSymbol map sections field index symbol (relocation_with (field_place section field) field found kind)
names_symbol map sections number section field r found kind index symbol at parts one =
    let is = one.stands.stands in
    let to = sym one.target in
    record {
      global = λ e. to ∙ is.global e;
      suffixed = λ e. to ∙ is.suffixed e;
      merged = λ n address known flagged. to ∙ is.merged n address known flagged;
      other = λ n address known unflagged local bare. to ∙ is.other n address known unflagged local bare;
      own_name = λ named e. (is.own_name named (one.target ∙ e)).0;
      own_section = λ n e. (
        at.addend,
        is.own_section n (one.target ∙ e),
        λ alone.
            let made = one.alone alone in
            let sum = sum_order (form_left map sections field).constant at.addend in
            addend_is field found (wrapped (at.addend + (form_left map sections field).constant)) kind parts.chosen
            (sym (ap (λ (f : Reference). f.relative) made)) (sym (ap (λ (f : Reference). f.addend) made) ∙ sum),
      );
    }
  where
    sum_order : (a b : ℕ) → wrapped (a + b) ≡ wrapped (b + a)
    sum_order a b = omega arith

pub name : RelocationsNameSymbols
name map sections number section field r is =
    let (found, kind, parts) = parts_of map sections number section field r is in
    let (index, symbol, at, one) = symbol_of map sections number section field r found kind parts in (
      index,
      symbol,
      record { added = one.added; there = one.stands.there },
      subst (NamesSymbol map sections field index symbol) parts.made (names_symbol map sections number section field r found kind index symbol at parts one),
    )

-- WHAT THE SUFFIX ASKS FOR

pub same_row : (kind : RelocationKind) (row : RelocationType) → relocation_type (kind_number kind) ≡ Some row → row_of kind ≡ row
same_row kind row is = let e = numbered kind in some_same (sym e ∙ is)
  where
    some_same : {x y : RelocationType} → Some x ≡ Some y → x ≡ y
    some_same e = cc

same_local : (map : SymbolMap) (sections : LaidSections) (field : Field) (found : Reference) (index other : ℕ) (symbol mine : Symbol) (at : SymbolReference)
    → IsSymbolOf map sections field index symbol → IsSymbol map sections field found other mine at → found.local ≡ is_local_symbol symbol
same_local map sections field found index other symbol mine at is one =
    let same : other ≡ index = index_same (sym one.added ∙ is.added) in
    let there : slice_get map.symbols index ≡ Some mine = ap (slice_get map.symbols) (sym same) ∙ one.stands.there in
    let symbols : mine ≡ symbol = symbol_same (sym there ∙ is.there) in
    sym one.local ∙ one.stands.stands.same ∙ ap is_local_symbol symbols
  where
    index_same : {x y : ℕ} → Some x ≡ Some y → x ≡ y
    index_same e = cc

    symbol_same : {x y : Symbol} → Some x ≡ Some y → x ≡ y
    symbol_same e = cc

answered : (field : Field) (symbol : Symbol) (r : Relocation) (taken local : Bool) → local ≡ is_local_symbol symbol
    → IsRight field.role.suffix (is_led_by field.role.kind field.size local) taken field.role.kind field.size r.kind → IsAnswered field symbol r
answered field symbol r taken local same right =
    let operand : (row_of r.kind).operand ≡ operand_by field.role.suffix (is_led field symbol) =
    right.3 ∙ ap (λ (l : Bool). operand_by field.role.suffix (is_led_by field.role.kind field.size l)) same in
    record {
      asked = asked field.role.suffix (is_led field symbol) r.kind operand;
      operand = λ row is. ap (λ (t : RelocationType). t.operand) (sym (same_row r.kind row is)) ∙ operand;
    }

pub answer : SuffixesAreAnswered
answer map sections number index section field symbol r is of =
    let (found, kind, parts) = parts_of map sections number section field r is in
    let (other, mine, at, one) = symbol_of map sections number section field r found kind parts in
    let right = kind_right field.role.suffix found.relative field.role.kind found.local field.size kind parts.chosen in
    let same : kind ≡ r.kind = ap (λ (x : Relocation). x.kind) parts.made in
    answered field symbol r found.relative found.local (same_local map sections field found index other symbol mine at of one)
    (subst (IsRight field.role.suffix (is_led_by field.role.kind field.size found.local) found.relative field.role.kind field.size) same right)
