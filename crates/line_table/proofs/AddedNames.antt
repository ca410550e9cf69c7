-- A table adds at most one section, and symbols whose names take no bytes.
use Rattle.std.proofs.Common.{◌≡◌, ℕ, suc, ◌⊎◌, inl, inr, List, [], ◌∷◌, ◌++◌, length, Option, None, Some, Ok, refl, ap, subst, ◌∙◌, arith}
use Rattle.std.specs.Prelude.{All, codes, map, sum_by}
use Rattle.std.specs.List.{slice_get}
use Rattle.std.proofs.lemmas.List.{map-append}
use Rattle.std.proofs.lemmas.List.Sums.{fold-append, sum_by-cons, sum_by-append}
use Rattle.std.proofs.lemmas.List.Elements.{All-head, All-tail, All-weaker}
use Rattle.std.proofs.lemmas.Option.{same_Some}
use Rattle.asm_base.specs.declared.places.SectionPlace.{SectionPlace}
use Rattle.asm_base.specs.declared.positions.Pos.{Pos}
use Rattle.asm_frags.specs.Groups.{groups_of, groups_among, with_group}
use Rattle.asm_frags.specs.Writing.{LooseSection}
use Rattle.asm_symbols.specs.declared.entries.Symbol.{Symbol}
use Rattle.asm_symbols.specs.Interning.{name_size, names_size}
use Rattle.asm_symbols.specs.SymbolMap.{SymbolMap, names}
use Rattle.section_laws.specs.Within.{IsWithin}
use Rattle.line_directives.specs.Taking.{LineTable}
use Rattle.table_pieces.specs.Labels.{IsLabelAt, GetsLabels}
use Rattle.table_pieces.specs.Marks.{place_name}
use Rattle.table_pieces.specs.Pieces.{Tables}
use Rattle.table_pieces.specs.Standing.{OneExtends}
use Rattle.line_table.specs.Additions.{section_names, section_kinds, AddsLittle, TablesAddLittle, StaysBeside, OthersStay}
use Rattle.line_table.specs.Placing.{new_table, placed}
use Rattle.line_table.proofs.PieceFacts.{Extending, Naming, Finding}
use Rattle.line_table.proofs.TableLemmas.{Begins, PutAt, put_at, nothing_at, put_extends, put_stays, is_placed}

-- SYMBOLS

-- the name takes no bytes
abbrev WithoutBytes : Symbol → Type 0
WithoutBytes label = name_size label.name ≡ 0

-- names without bytes have none
sum_nothing : (labels : List Symbol) → All WithoutBytes labels → sum_by name_size (names labels) ≡ 0
sum_nothing [] all = refl
sum_nothing (label ∷ labels) all =
    let own = All-head WithoutBytes label labels all in
    let later = sum_nothing labels (All-tail WithoutBytes label labels all) in
    omega (arith, own, later, sum_by-cons name_size label.name (names labels))

-- labels of places have names without bytes
labels_have_none : (before after : SymbolMap) (gets : GetsLabels before after) → All WithoutBytes gets.labels
labels_have_none before after gets =
    All-weaker (λ (label : Symbol). (at : SectionPlace) × (label.name ≡ place_name at) × IsLabelAt at label) WithoutBytes
    (λ label is. ap name_size is.1) gets.labels gets.each

-- so that all names take as many bytes as before
same_size : (before after : SymbolMap) → GetsLabels before after → names_size after ≡ names_size before
same_size before after gets =
    let split = ap (λ (symbols : List Symbol). sum_by name_size (names symbols)) gets.all
    ∙ (ap (sum_by name_size) (map-append (λ (symbol : Symbol). symbol.name) before.symbols gets.labels) ∙ sum_by-append name_size (names before.symbols) (names gets.labels)) in
    let none = sum_nothing gets.labels (labels_have_none before after gets) in
    let files = ap (sum_by name_size) gets.files in
    omega (arith, split, none, files)

-- SECTIONS

-- what sections tell is told of those that they become, of which there are as many
same_told : {Y : Type 0} (tells : LooseSection → Y) (before after : List LooseSection) → length after ≡ length before
    → ((number : ℕ) (held : LooseSection) → slice_get before number ≡ Some held → (now : LooseSection) × (slice_get after number ≡ Some now) × (tells now ≡ tells held))
    → map tells after ≡ map tells before
same_told tells [] [] long keep = refl
same_told tells [] (now ∷ after) long keep = absurd (omega (arith, long))
same_told tells (held ∷ before) [] long keep = absurd (omega (arith, long))
same_told tells (held ∷ before) (now ∷ after) long keep =
    let first = keep 0 held refl in
    let same : tells now ≡ tells held = ap tells (same_Some now first.0 first.1) ∙ first.2 in
    let rest : map tells after ≡ map tells before = same_told tells before after (omega (arith, long)) (λ number there is. keep (suc number) there is) in
    ap (λ told. told ∷ map tells after) same ∙ ap (λ told. tells held ∷ told) rest

-- a new section for a table is in no group
groups_beside : (sections : List LooseSection) → groups_of (sections ++ new_table ∷ []) ≡ groups_of sections
unfolding groups_of
groups_beside sections =
    ap groups_among (map-append (λ (section : LooseSection). section.group) sections (new_table ∷ []))
    ∙ fold-append with_group [] (map (λ (section : LooseSection). section.group) sections) (None ∷ [])

-- TABLES

-- what is known of the names and types of sections, and of symbols, is all
adds_by : (before after : Tables) → (section_names after.sections ≡ section_names before.sections) ⊎ (section_names after.sections ≡ section_names before.sections ++ codes ".debug_line" ∷ [])
    → (section_kinds after.sections ≡ section_kinds before.sections) ⊎ (section_kinds after.sections ≡ section_kinds before.sections ++ 1 ∷ [])
    → groups_of after.sections ≡ groups_of before.sections → GetsLabels before.symbols after.symbols → AddsLittle before after
adds_by before after named typed grouped gets = record {
  sections = named;
  kinds = typed;
  groups = grouped;
  labels = gets.labels;
  all = gets.all;
  without_bytes = labels_have_none before.symbols after.symbols gets;
  files = gets.files;
  size = same_size before.symbols after.symbols gets;
}

module _ (extending : Extending) (naming : Naming) where
  -- one that is extended keeps its name
  extended_names : (section : ℕ) (before after : List LooseSection) → OneExtends section before after → section_names after ≡ section_names before
  extended_names section before after extends =
      same_told (λ (section : LooseSection). section.name) before after extends.count
      (λ number held there. let now = extending.extensions.all section before after extends number held there in (now.0, now.1, now.2.name))

  -- and its type
  extended_kinds : (section : ℕ) (before after : List LooseSection) → OneExtends section before after → section_kinds after ≡ section_kinds before
  extended_kinds section before after extends =
      same_told (λ (section : LooseSection). section.kind) before after extends.count
      (λ number held there. let now = extending.extensions.all section before after extends number held there in (now.0, now.1, now.2.kind))

  -- and its group
  extended_groups : (section : ℕ) (before after : List LooseSection) → OneExtends section before after → groups_of after ≡ groups_of before
  unfolding groups_of
  extended_groups section before after extends =
      ap groups_among (same_told (λ (section : LooseSection). section.group) before after extends.count
      (λ number held there. let now = extending.extensions.all section before after extends number held there in (now.0, now.1, now.2.group)))

  -- with the section of a table, or as they are
  first_names : (section : ℕ) (tables first : Tables) → Begins section tables first → (now : List (List ℕ)) → now ≡ section_names first.sections
      → (now ≡ section_names tables.sections) ⊎ (now ≡ section_names tables.sections ++ codes ".debug_line" ∷ [])
  first_names section tables first begins now is = elim begins [
    | inl there ↦ inl (is ∙ ap (λ (t : Tables). section_names t.sections) there.1)
    | inr new ↦ inr (is ∙ ap (λ (t : Tables). section_names t.sections) new.2
        ∙ map-append (λ (section : LooseSection). section.name) tables.sections (new_table ∷ []))
  ]

  first_kinds : (section : ℕ) (tables first : Tables) → Begins section tables first → (now : List ℕ) → now ≡ section_kinds first.sections
      → (now ≡ section_kinds tables.sections) ⊎ (now ≡ section_kinds tables.sections ++ 1 ∷ [])
  first_kinds section tables first begins now is = elim begins [
    | inl there ↦ inl (is ∙ ap (λ (t : Tables). section_kinds t.sections) there.1)
    | inr new ↦ inr (is ∙ ap (λ (t : Tables). section_kinds t.sections) new.2
        ∙ map-append (λ (section : LooseSection). section.kind) tables.sections (new_table ∷ []))
  ]

  first_groups : (section : ℕ) (tables first : Tables) → Begins section tables first → groups_of first.sections ≡ groups_of tables.sections
  first_groups section tables first begins = elim begins [
    | inl there ↦ ap (λ (t : Tables). groups_of t.sections) there.1
    | inr new ↦ ap (λ (t : Tables). groups_of t.sections) new.2 ∙ groups_beside tables.sections
  ]

  put_adds : (pos : Pos) (lines : LineTable) (tables after : Tables) → PutAt pos lines tables after → AddsLittle tables after
  put_adds pos lines tables after put =
      adds_by tables after
      (first_names put.section tables put.first put.begins (section_names after.sections)
      (extended_names put.section put.first.sections after.sections (put_extends extending pos lines tables after put)))
      (first_kinds put.section tables put.first put.begins (section_kinds after.sections)
      (extended_kinds put.section put.first.sections after.sections (put_extends extending pos lines tables after put)))
      (extended_groups put.section put.first.sections after.sections (put_extends extending pos lines tables after put) ∙ first_groups put.section tables put.first put.begins)
      (put_stays extending naming pos lines tables after put).gets

  -- so it is of each that is placed
  pub tables_add_little : TablesAddLittle
  tables_add_little lines tables after is = by lines.first refl
    where
      by : (first : Option Pos) → lines.first ≡ first → AddsLittle tables after
      by None first =
          subst (AddsLittle tables) (nothing_at (record { file = 0; line = 0 }) lines tables after first is)
          (adds_by tables tables (inl refl) (inl refl) refl (naming.same tables.symbols))
      by (Some pos) first = put_adds pos lines tables after (put_at pos lines tables after first is)

  stays : (lines : LineTable) (tables after : Tables) → placed lines tables ≡ Ok after → StaysBeside tables after
  stays lines tables after is = by lines.first refl
    where
      by : (first : Option Pos) → lines.first ≡ first → StaysBeside tables after
      by None first =
          subst (StaysBeside tables) (nothing_at (record { file = 0; line = 0 }) lines tables after first is) (record {
            others = λ number held there other. there;
            grows = extending.extensions.all 0 tables.sections tables.sections (extending.extensions.same 0 tables.sections);
            gets = naming.same tables.symbols;
          })
      by (Some pos) first = put_stays extending naming pos lines tables after (put_at pos lines tables after first is)

  module _ (finding : Finding) where
    within : (lines : LineTable) (tables after : Tables) → placed lines tables ≡ Ok after → All IsWithin tables.sections → All IsWithin after.sections
    within lines tables after is low = by lines.first refl
      where
        by : (first : Option Pos) → lines.first ≡ first → All IsWithin after.sections
        by None first =
            subst (λ (t : Tables). All IsWithin t.sections) (nothing_at (record { file = 0; line = 0 }) lines tables after first is) low
        by (Some pos) first = (is_placed extending finding pos lines tables after low first is).within

    pub others_stay : OthersStay
    others_stay = record { stays = stays; within = within }
