-- The numbers of the object of a source fit their fields, and a reader finds its sections.
use Rattle.std.proofs.Common.{◌≡◌, ◌≢◌, ℕ, zero, suc, ◌+◌, ◌^◌, ◌≤◌, ◌&&◌, ◌⊎◌, inl, inr, nat_le, Bool, true, All, List, [], ◌∷◌, ◌++◌, codes, drop, length, map, Option, Some, Result, Ok, refl, sym, ap, ◌∙◌, subst, arith, length-append}
use Rattle.std.proofs.lemmas.Bool.Decides.{nat_tests}
use Rattle.std.proofs.lemmas.List.{length-map}
use Rattle.std.proofs.lemmas.List.Elements.{All-nil, All-cons, All-head, All-tail, All-map, All-push}
use Rattle.std.proofs.lemmas.Option.{same_Some}
use Rattle.std.specs.List.{slice_get}
use Rattle.asm_expr.specs.Forms.{Form}
use Rattle.asm_lines.specs.NextStatements.{TokenStatement}
use Rattle.asm_symbols.specs.Interning.{names_size}
use Rattle.asm_symbols.specs.SymbolMap.{SymbolMap}
use Rattle.asm_frags.specs.declared.groups.Group.{Group}
use Rattle.asm_frags.specs.Groups.{HasShortSignature, groups_among, groups_of}
use Rattle.asm_frags.specs.SectionOf.{SectionOf}
use Rattle.asm_frags.specs.Substituting.{laid_section, laid_sections}
use Rattle.asm_frags.specs.Writing.{LooseSection}
use Rattle.item_rows.specs.ItemRows.{row_count}
use Rattle.asm_relax.specs.KeptSections.{LayoutsKeepSections}
use Rattle.asm_relax.specs.Layout.{laid_out, laid_by}
use Rattle.asm_relax.specs.Settling.{LaidItem, LaidSections, planned, settled_sections, layout_of}
use Rattle.cfi_directives.specs.Procedures.{frames_of}
use Rattle.eh_frame.specs.Additions.{AddsLittle, TablesAddLittle}
use Rattle.table_pieces.specs.Pieces.{Tables, tables_of}
use Rattle.line_table.specs.Additions as line_table
use Rattle.line_table.specs.Placing as line_table_placing
use Rattle.elf_object.specs.Limits.{NumbersFit}
use Rattle.object_laws.specs.GroupReading.{GroupsRead, AreGroupHeaders, GroupsStand}
use Rattle.object_laws.specs.SectionPlaces.{SourceSectionsFound}
use Rattle.object_laws.specs.SmallSources.{IsSmallSource, ObjectsFit}
use Rattle.asm_place.specs.SourceSizes.{IsSmall}
use Rattle.asm_place.specs.Sources.{place_all}
use Rattle.asm_place.specs.declared.place_faults.FaultAt.{FaultAt}
use Rattle.asm_values.specs.State.{Placed, nothing_placed}
use Rattle.asm_macro.specs.Placing.{Step, ended}
use Rattle.asm_functions.specs.FollowedSource.{FollowedSource}
use Rattle.source_ends.specs.Ending.{Flags, framed, lines_behind, tabled, with_made}
use Rattle.source_ends.specs.Fitting.{LayoutFits, TablesFit}
use Rattle.asm_front.specs.Fitting.{StepFits, IsReadable, ObjectIsReadable}
use Rattle.asm_front.specs.ReadsBack.{ReadsBack}

-- what lower layers say of small sources and their objects
pub record SmallFacts : Type 0 where
  pub small : (statements : List TokenStatement) (no_warn : Bool) (placed : Placed) → place_all statements (nothing_placed no_warn) ≡ Ok placed → IsSmall placed
  pub little : TablesAddLittle
  pub lines_little : line_table.TablesAddLittle
  pub layouts : LayoutsKeepSections
  pub fit : ObjectsFit
  pub found : SourceSectionsFound
  pub groups : GroupsRead
  pub stand : GroupsStand

-- a name of at most 2^16 bytes
abbrev IsShort : List ℕ → Type 0
IsShort name = length name ≤ 2 ^ 16

-- the names of sections
abbrev names_of : {Item : Type 0} → List (SectionOf Item) → List (List ℕ)
names_of sections = map (λ section. section.name) sections

-- a type that is none of a group
abbrev IsOther : ℕ → Type 0
IsOther kind = kind ≢ 17

-- the types of sections
abbrev kinds_of : {Item : Type 0} → List (SectionOf Item) → List ℕ
kinds_of sections = map (λ section. section.kind) sections

-- names are short where those of sections are
short_sections : {Item : Type 0} (sections : List (SectionOf Item)) → All IsShort (names_of sections) → All (λ section. length section.name ≤ 2 ^ 16) sections
short_sections [] short = All-nil _
short_sections (s ∷ ss) short =
    All-cons (λ section. length section.name ≤ 2 ^ 16) s ss (All-head IsShort s.name (names_of ss) short) (short_sections ss (All-tail IsShort s.name (names_of ss) short))

-- a layout keeps the names of its sections
names_out : (shifts : List ℕ) (substitute : Form → Form) (sections : List LooseSection) → names_of (laid_out shifts (laid_sections substitute sections)) ≡ names_of sections
names_out shifts substitute [] = refl
names_out shifts substitute (s ∷ ss) = ap (λ (names : List (List ℕ)). s.name ∷ names) (names_out (drop (row_count (laid_section substitute s)) shifts) substitute ss)

names_settled : (symbols : SymbolMap) (sections : List LooseSection) → names_of (settled_sections symbols (planned symbols sections)) ≡ names_of sections
unfolding settled_sections planned laid_by
names_settled symbols sections = names_out _ _ sections

names_laid : LayoutsKeepSections → (symbols : SymbolMap) (sections : List LooseSection) (laid : LaidSections) → layout_of symbols sections ≡ Ok laid → names_of laid ≡ names_of sections
names_laid layouts symbols sections laid settles = ap (λ (all : LaidSections). names_of all) (layouts.settled symbols sections laid settles) ∙ names_settled symbols sections

-- and the groups
grouped_out : (shifts : List ℕ) (substitute : Form → Form) (sections : List LooseSection)
    → map (λ (section : SectionOf LaidItem). section.group) (laid_out shifts (laid_sections substitute sections)) ≡ map (λ (section : LooseSection). section.group) sections
grouped_out shifts substitute [] = refl
grouped_out shifts substitute (s ∷ ss) =
    ap (λ (groups : List (Option Group)). s.group ∷ groups) (grouped_out (drop (row_count (laid_section substitute s)) shifts) substitute ss)

groups_settled : (symbols : SymbolMap) (sections : List LooseSection) → groups_of (settled_sections symbols (planned symbols sections)) ≡ groups_of sections
unfolding settled_sections planned laid_by groups_of
groups_settled symbols sections = ap groups_among (grouped_out _ _ sections)

groups_laid : LayoutsKeepSections → (symbols : SymbolMap) (sections : List LooseSection) (laid : LaidSections) → layout_of symbols sections ≡ Ok laid → groups_of laid ≡ groups_of sections
groups_laid layouts symbols sections laid settles =
    ap (λ (all : LaidSections). groups_of all) (layouts.settled symbols sections laid settles) ∙ groups_settled symbols sections

-- and the types
kinds_out : (shifts : List ℕ) (substitute : Form → Form) (sections : List LooseSection) → kinds_of (laid_out shifts (laid_sections substitute sections)) ≡ kinds_of sections
kinds_out shifts substitute [] = refl
kinds_out shifts substitute (s ∷ ss) = ap (λ (kinds : List ℕ). s.kind ∷ kinds) (kinds_out (drop (row_count (laid_section substitute s)) shifts) substitute ss)

kinds_settled : (symbols : SymbolMap) (sections : List LooseSection) → kinds_of (settled_sections symbols (planned symbols sections)) ≡ kinds_of sections
unfolding settled_sections planned laid_by
kinds_settled symbols sections = kinds_out _ _ sections

kinds_laid : LayoutsKeepSections → (symbols : SymbolMap) (sections : List LooseSection) (laid : LaidSections) → layout_of symbols sections ≡ Ok laid → kinds_of laid ≡ kinds_of sections
kinds_laid layouts symbols sections laid settles = ap (λ (all : LaidSections). kinds_of all) (layouts.settled symbols sections laid settles) ∙ kinds_settled symbols sections

-- the types with a table: at most that of one more, which is none of a group
kinds_with_table : (before after : List ℕ) → (after ≡ before) ⊎ (after ≡ before ++ 1 ∷ []) → All IsOther before → All IsOther after
kinds_with_table before after (inl same) all = subst (All IsOther) (sym same) all
kinds_with_table before after (inr more) all =
    subst (All IsOther) (sym more) (All-push IsOther before 1 all (λ (is : 1 ≡ 17). absurd (omega (arith, is))))

-- so it is of each section where it is of all types
each_other : (sections : LaidSections) → All IsOther (kinds_of sections) → (number : ℕ) (section : SectionOf LaidItem) → slice_get sections number ≡ Some section → section.kind ≢ 17
each_other [] all number section there = absurd cc
each_other (s ∷ ss) all zero section there =
    subst (λ (held : SectionOf LaidItem). held.kind ≢ 17) (same_Some s section there) (All-head IsOther s.kind (kinds_of ss) all)
each_other (s ∷ ss) all (suc number) section there = each_other ss (All-tail IsOther s.kind (kinds_of ss) all) number section there

-- the names with a table: at most one more
with_table : (name : List ℕ) (before after : List (List ℕ)) → IsShort name → (after ≡ before) ⊎ (after ≡ before ++ name ∷ []) → All IsShort before
    → All IsShort after × (length after ≤ length before + 1)
with_table name before after own (inl same) short = (subst (All IsShort) (sym same) short, let long = ap length same in omega arith)
with_table name before after own (inr more) short =
    let long : length after ≡ length before + 1 = ap length more ∙ length-append before (name ∷ []) in
    (subst (All IsShort) (sym more) (All-push IsShort before name short own), omega arith)

-- the limits of symbols, as numbers
within_limits : (count size : ℕ) → (nat_le count (2 ^ 24) && nat_le size (2 ^ 31)) ≡ true → (count ≤ 2 ^ 24) × (size ≤ 2 ^ 31)
within_limits count size within = (grind (arith, nat_tests), grind (arith, nat_tests))

-- what statements place, with its tables and laid out, is a small source
small_source : SmallFacts → (whole : Placed) (with_frames tables : Tables) (laid : LaidSections) → IsSmall whole → framed whole ≡ Ok with_frames
    → line_table_placing.placed whole.lines with_frames ≡ Ok tables → layout_of tables.symbols tables.sections ≡ Ok laid
    → length tables.symbols.symbols ≤ 2 ^ 24 + 2 ^ 31 + 2 ^ 30 → IsSmallSource tables.symbols laid
small_source facts whole with_frames tables laid small frames lines settles few =
    let adds : AddsLittle (tables_of whole.table.symbols whole.sections) with_frames =
    facts.little (frames_of whole.procedures) (tables_of whole.table.symbols whole.sections) with_frames frames in
    let lines_add : line_table.AddsLittle with_frames tables = facts.lines_little whole.lines with_frames tables lines in
    let short : All IsShort (names_of whole.sections) = All-map IsShort (λ (section : LooseSection). section.name) whole.sections small.sections.named in
    let count : length (names_of whole.sections) ≡ length whole.sections = length-map whole.sections (λ (section : LooseSection). section.name) in
    let most = small.sections.few in
    let first = with_table (codes ".eh_frame") (names_of whole.sections) (names_of with_frames.sections) (omega arith) adds.sections short in
    let named = with_table (codes ".debug_line") (names_of with_frames.sections) (names_of tables.sections) (omega arith) lines_add.sections first.0 in
    let same : names_of laid ≡ names_of tables.sections = names_laid facts.layouts tables.symbols tables.sections laid settles in
    let laid_short : All IsShort (names_of laid) = subst (All IsShort) (sym same) named.0 in
    let laid_count : length (names_of laid) ≡ length laid = length-map laid (λ (section : SectionOf LaidItem). section.name) in
    let names_count : length (names_of laid) ≡ length (names_of tables.sections) = ap length same in
    let first_names = first.1 in
    let most_names = named.1 in
    let grouped : groups_of laid ≡ groups_of whole.sections =
    groups_laid facts.layouts tables.symbols tables.sections laid settles ∙ lines_add.groups ∙ adds.groups in
    let groups = ap length grouped in
    let limits = within_limits (length whole.table.symbols.symbols + length whole.table.symbols.files) (names_size whole.table.symbols) small.symbols in
    let symbols = limits.0 in
    let bytes = limits.1 in
    let files : length tables.symbols.files ≡ length whole.table.symbols.files = ap length (lines_add.files ∙ adds.files) in
    let size : names_size tables.symbols ≡ names_size whole.table.symbols = lines_add.size ∙ adds.size in
    record {
      section_count = omega arith;
      section_names = short_sections laid laid_short;
      signatures = subst (All HasShortSignature) (sym grouped) small.sections.signatures;
      symbol_count = omega arith;
      name_bytes = omega arith;
    }

-- what statements place, with its tables and laid out, has no section of the type of a group
other_kinds : SmallFacts → (whole : Placed) (with_frames tables : Tables) (laid : LaidSections) → IsSmall whole → framed whole ≡ Ok with_frames
    → line_table_placing.placed whole.lines with_frames ≡ Ok tables → layout_of tables.symbols tables.sections ≡ Ok laid → All IsOther (kinds_of laid)
other_kinds facts whole with_frames tables laid small frames lines settles =
    let adds : AddsLittle (tables_of whole.table.symbols whole.sections) with_frames =
    facts.little (frames_of whole.procedures) (tables_of whole.table.symbols whole.sections) with_frames frames in
    let lines_add : line_table.AddsLittle with_frames tables = facts.lines_little whole.lines with_frames tables lines in
    let own : All IsOther (kinds_of whole.sections) = All-map IsOther (λ (section : LooseSection). section.kind) whole.sections small.sections.kinds in
    let first = kinds_with_table (kinds_of whole.sections) (kinds_of with_frames.sections) adds.kinds own in
    let both = kinds_with_table (kinds_of with_frames.sections) (kinds_of tables.sections) lines_add.kinds first in
    subst (All IsOther) (sym (kinds_laid facts.layouts tables.symbols tables.sections laid settles)) both

-- one answer has one value
same_answer : {A E : Type 0} (answer : Result A E) (one other : A) → answer ≡ Ok one → answer ≡ Ok other → one ≡ other
same_answer answer one other is also = cc

-- the tables of what was placed
tabled_is : (whole : Placed) (with_frames tables : Tables) → framed whole ≡ Ok with_frames → line_table_placing.placed whole.lines with_frames ≡ Ok tables → tabled whole ≡ Ok tables
tabled_is whole with_frames tables frames lines = ap (lines_behind whole.lines) frames ∙ lines

-- where the program's own numbers fit, all of the object do, and its sections are found
readable : SmallFacts → (whole : Placed) (with_frames tables : Tables) (laid : LaidSections) → IsSmall whole → framed whole ≡ Ok with_frames
    → line_table_placing.placed whole.lines with_frames ≡ Ok tables → layout_of tables.symbols tables.sections ≡ Ok laid
    → length tables.symbols.symbols ≤ 2 ^ 24 + 2 ^ 31 + 2 ^ 30 → TablesFit (tabled whole) → IsReadable tables.symbols laid
readable facts whole with_frames tables laid small frames lines settles few fit =
    let of_tables : LayoutFits tables.symbols (layout_of tables.symbols tables.sections) = subst TablesFit (tabled_is whole with_frames tables frames lines) fit in
    let numbers : NumbersFit tables.symbols laid = subst (LayoutFits tables.symbols) settles of_tables in
    let all = facts.fit tables.symbols laid numbers (small_source facts whole with_frames tables laid small frames lines settles few) in
    let headers : AreGroupHeaders tables.symbols laid =
    (facts.stand tables.symbols laid all.0).0 (each_other laid (other_kinds facts whole with_frames tables laid small frames lines settles)) in
    record {
      fits = all.0;
      few = all.1;
      sections = facts.found tables.symbols laid all.0;
      groups = facts.groups tables.symbols laid all.0;
      groups_found = headers;
      members = (facts.stand tables.symbols laid all.0).1;
    }

-- what is said of the object of one layout is said of the one that it is made of
pub object_is_readable : SmallFacts → (flags : Flags) (handed : List TokenStatement) (object : List ℕ) (names : List (List ℕ)) (came : Step FollowedSource FaultAt) (f : FollowedSource)
    → ReadsBack flags handed object → came ≡ ended names f → place_all handed (nothing_placed flags.no_warn) ≡ Ok f.placed → StepFits flags came → ObjectIsReadable flags handed object
object_is_readable facts flags handed object names came f read is places fit made =
    let whole = f.placed in
    let end : TablesFit (tabled (with_made flags.scfi whole)) = subst (StepFits flags) is fit in
    let one : whole ≡ made.whole = same_answer _ whole made.whole places made.places in
    let other : read.statements_read.made.whole ≡ made.whole = same_answer _ read.statements_read.made.whole made.whole read.statements_read.made.places made.places in
    let framed_same : read.statements_read.made.framed ≡ made.framed =
    same_answer _ read.statements_read.made.framed made.framed read.statements_read.made.frames (ap (λ (w : Placed). framed (with_made flags.scfi w)) other ∙ made.frames) in
    let tables : read.statements_read.made.tables ≡ made.tables =
    same_answer _ read.statements_read.made.tables made.tables read.statements_read.made.lines
    (ap (λ (w : Placed). line_table_placing.placed w.lines read.statements_read.made.framed) other ∙ (ap (line_table_placing.placed made.whole.lines) framed_same ∙ made.lines)) in
    let full = with_made flags.scfi made.whole in
    let few = subst (λ (t : Tables). length t.symbols.symbols ≤ 2 ^ 24 + 2 ^ 31 + 2 ^ 30) tables read.statements_read.few in
    let small = facts.small handed flags.no_warn made.whole made.places in
    readable facts full made.framed made.tables made.laid (record { sections = small.sections; symbols = small.symbols }) made.frames made.lines made.settles few
    (subst (λ (w : Placed). TablesFit (tabled (with_made flags.scfi w))) one end)
