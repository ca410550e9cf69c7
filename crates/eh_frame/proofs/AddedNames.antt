-- A table adds at most one section, and symbols whose names take no bytes.
use Rattle.std.proofs.Common.{◌≡◌, ℕ, suc, ◌⊎◌, inl, inr, Bool, true, false, List, [], ◌∷◌, ◌++◌, length, Option, None, Some, Result, Ok, Err, if◌then◌else◌, refl, ap, ◌∙◌, arith}
use Rattle.std.specs.Prelude.{All, codes, map, sum_by}
use Rattle.std.specs.List.{slice_get}
use Rattle.std.specs.Result.{IfOk}
use Rattle.std.proofs.lemmas.List.{map-append}
use Rattle.std.proofs.lemmas.List.Sums.{fold-append, sum_by-cons, sum_by-append}
use Rattle.std.proofs.lemmas.List.Elements.{All-head, All-tail, All-weaker}
use Rattle.std.proofs.lemmas.Option.{same_Some}
use Rattle.std.proofs.lemmas.Result.{IfOk-at_ok}
use Rattle.asm_base.specs.declared.causes.FragCause.{FragCause}
use Rattle.asm_base.specs.declared.causes.FragCause.TheVariants.{BadSection}
use Rattle.asm_base.specs.declared.places.SectionPlace.{SectionPlace}
use Rattle.asm_frags.specs.Groups.{groups_of, groups_among, with_group}
use Rattle.asm_frags.specs.SectionOf.{section_number}
use Rattle.asm_frags.specs.Writing.{LooseSection, takes_zeros_alone}
use Rattle.asm_symbols.specs.declared.entries.Symbol.{Symbol}
use Rattle.asm_symbols.specs.Interning.{name_size, names_size}
use Rattle.asm_symbols.specs.SymbolMap.{SymbolMap, names}
use Rattle.cfi_directives.specs.declared.frames.Frame.{Frame}
use Rattle.eh_frame.specs.Additions.{section_names, section_kinds, AddsLittle, TablesAddLittle}
use Rattle.table_pieces.specs.Labels.{IsLabelAt, GetsLabels}
use Rattle.table_pieces.specs.Marks.{place_name}
use Rattle.table_pieces.specs.Pieces.{Tables, tables_of}
use Rattle.table_pieces.specs.Standing.{OneExtends}
use Rattle.eh_frame.specs.Placing.{new_table, table_put, placed_there, placed_in, placed}
use Rattle.eh_frame.proofs.PieceFacts.{Extending, Naming}
use Rattle.eh_frame.proofs.TableSteps.{table_extends, table_gets}

-- SYMBOLS

-- the name takes no bytes
abbrev WithoutBytes : Symbol → Type 0
WithoutBytes label = name_size label.name ≡ 0

-- names without bytes have none
sum_nothing : (labels : List Symbol) → All WithoutBytes labels → sum_by name_size (names labels) ≡ 0
sum_nothing [] all = refl
sum_nothing (label ∷ labels) all =
    let own = All-head WithoutBytes label labels all in
    let later = sum_nothing labels (All-tail WithoutBytes label labels all) in
    omega (arith, own, later, sum_by-cons name_size label.name (names labels))

-- labels of places have names without bytes
labels_have_none : (before after : SymbolMap) (gets : GetsLabels before after) → All WithoutBytes gets.labels
labels_have_none before after gets =
    All-weaker (λ (label : Symbol). (at : SectionPlace) × (label.name ≡ place_name at) × IsLabelAt at label) WithoutBytes
    (λ label is. ap name_size is.1) gets.labels gets.each

-- so that all names take as many bytes as before
same_size : (before after : SymbolMap) → GetsLabels before after → names_size after ≡ names_size before
same_size before after gets =
    let split = ap (λ (symbols : List Symbol). sum_by name_size (names symbols)) gets.all
    ∙ (ap (sum_by name_size) (map-append (λ (symbol : Symbol). symbol.name) before.symbols gets.labels) ∙ sum_by-append name_size (names before.symbols) (names gets.labels)) in
    let none = sum_nothing gets.labels (labels_have_none before after gets) in
    let files = ap (sum_by name_size) gets.files in
    omega (arith, split, none, files)

-- SECTIONS

-- what sections tell is told of those that they become, of which there are as many
same_told : {Y : Type 0} (tells : LooseSection → Y) (before after : List LooseSection) → length after ≡ length before
    → ((number : ℕ) (held : LooseSection) → slice_get before number ≡ Some held → (now : LooseSection) × (slice_get after number ≡ Some now) × (tells now ≡ tells held))
    → map tells after ≡ map tells before
same_told tells [] [] long keep = refl
same_told tells [] (now ∷ after) long keep = absurd (omega (arith, long))
same_told tells (held ∷ before) [] long keep = absurd (omega (arith, long))
same_told tells (held ∷ before) (now ∷ after) long keep =
    let first = keep 0 held refl in
    let same : tells now ≡ tells held = ap tells (same_Some now first.0 first.1) ∙ first.2 in
    let rest : map tells after ≡ map tells before = same_told tells before after (omega (arith, long)) (λ number there is. keep (suc number) there is) in
    ap (λ told. told ∷ map tells after) same ∙ ap (λ told. tells held ∷ told) rest

-- a new section for a table is in no group
groups_beside : (sections : List LooseSection) → groups_of (sections ++ new_table ∷ []) ≡ groups_of sections
unfolding groups_of
groups_beside sections =
    ap groups_among (map-append (λ (section : LooseSection). section.group) sections (new_table ∷ []))
    ∙ fold-append with_group [] (map (λ (section : LooseSection). section.group) sections) (None ∷ [])

-- TABLES

-- what is known of the names and types of sections, and of symbols, is all
adds_by : (before after : Tables) → (section_names after.sections ≡ section_names before.sections) ⊎ (section_names after.sections ≡ section_names before.sections ++ codes ".eh_frame" ∷ [])
    → (section_kinds after.sections ≡ section_kinds before.sections) ⊎ (section_kinds after.sections ≡ section_kinds before.sections ++ 1 ∷ [])
    → groups_of after.sections ≡ groups_of before.sections → GetsLabels before.symbols after.symbols → AddsLittle before after
adds_by before after named typed grouped gets = record {
  sections = named;
  kinds = typed;
  groups = grouped;
  labels = gets.labels;
  all = gets.all;
  without_bytes = labels_have_none before.symbols after.symbols gets;
  files = gets.files;
  size = same_size before.symbols after.symbols gets;
}

module _ (extending : Extending) (naming : Naming) where
  -- one that is extended keeps its name
  extended_names : (section : ℕ) (before after : List LooseSection) → OneExtends section before after → section_names after ≡ section_names before
  extended_names section before after extends =
      same_told (λ (section : LooseSection). section.name) before after extends.count
      (λ number held there. let now = extending.extensions.all section before after extends number held there in (now.0, now.1, now.2.name))

  -- and its type
  extended_kinds : (section : ℕ) (before after : List LooseSection) → OneExtends section before after → section_kinds after ≡ section_kinds before
  extended_kinds section before after extends =
      same_told (λ (section : LooseSection). section.kind) before after extends.count
      (λ number held there. let now = extending.extensions.all section before after extends number held there in (now.0, now.1, now.2.kind))

  -- and its group
  extended_groups : (section : ℕ) (before after : List LooseSection) → OneExtends section before after → groups_of after ≡ groups_of before
  unfolding groups_of
  extended_groups section before after extends =
      ap groups_among (same_told (λ (section : LooseSection). section.group) before after extends.count
      (λ number held there. let now = extending.extensions.all section before after extends number held there in (now.0, now.1, now.2.group)))

  -- a table in a section that is there
  put_there : (section : ℕ) (first : Frame) (frames : List Frame) (tables : Tables) → AddsLittle tables (table_put section first frames tables)
  put_there section first frames tables =
      adds_by tables (table_put section first frames tables)
      (inl (extended_names section tables.sections (table_put section first frames tables).sections (table_extends extending section first frames tables)))
      (inl (extended_kinds section tables.sections (table_put section first frames tables).sections (table_extends extending section first frames tables)))
      (extended_groups section tables.sections (table_put section first frames tables).sections (table_extends extending section first frames tables))
      (table_gets naming section first frames tables)

  -- and in a new one
  put_new : (section : ℕ) (first : Frame) (frames : List Frame) (tables : Tables)
      → AddsLittle tables (table_put section first frames (tables_of tables.symbols (tables.sections ++ new_table ∷ [])))
  put_new section first frames tables =
      let more = tables_of tables.symbols (tables.sections ++ new_table ∷ []) in
      let put = table_put section first frames more in
      adds_by tables put
      (inr (extended_names section more.sections put.sections (table_extends extending section first frames more)
      ∙ map-append (λ (section : LooseSection). section.name) tables.sections (new_table ∷ [])))
      (inr (extended_kinds section more.sections put.sections (table_extends extending section first frames more)
      ∙ map-append (λ (section : LooseSection). section.kind) tables.sections (new_table ∷ [])))
      (extended_groups section more.sections put.sections (table_extends extending section first frames more) ∙ groups_beside tables.sections)
      (table_gets naming section first frames more)

  -- unless its section takes zeros alone
  by_zeros : (section : ℕ) (zeros : Bool) (first : Frame) (frames : List Frame) (tables : Tables)
      → (let answer : Result Tables FragCause = if zeros then Err BadSection else Ok (table_put section first frames tables) in IfOk answer (AddsLittle tables))
  by_zeros section true first frames tables = tt
  by_zeros section false first frames tables = put_there section first frames tables

  -- by the section that there is
  by_section : (section : ℕ) (found : Option LooseSection) (first : Frame) (frames : List Frame) (tables : Tables)
      → IfOk (placed_there section found first frames tables) (AddsLittle tables)
  by_section section None first frames tables = tt
  by_section section (Some held) first frames tables = by_zeros section (takes_zeros_alone held) first frames tables

  -- by its number
  by_number : (found : Option ℕ) (first : Frame) (frames : List Frame) (tables : Tables) → IfOk (placed_in found first frames tables) (AddsLittle tables)
  by_number None first frames tables = put_new (length tables.sections) first frames tables
  by_number (Some section) first frames tables = by_section section (slice_get tables.sections section) first frames tables

  -- whatever the procedures are
  by_frames : (frames : List Frame) (tables : Tables) → IfOk (placed frames tables) (AddsLittle tables)
  unfolding placed
  by_frames [] tables = adds_by tables tables (inl refl) (inl refl) refl (naming.same tables.symbols)
  by_frames (frame ∷ frames) tables = by_number (section_number (codes ".eh_frame") tables.sections) frame (frame ∷ frames) tables

  -- so it is of each that is placed
  pub tables_add_little : TablesAddLittle
  tables_add_little frames tables after is = IfOk-at_ok (AddsLittle tables) is (by_frames frames tables)
