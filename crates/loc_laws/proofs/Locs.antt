-- The instructions behind each `.loc` read back in the line table of their object.
use Rattle.std.proofs.Common.{◌≡◌, ℕ, ◌+◌, ◌-◌, ◌<◌, ◌≤◌, inl, inr, Bool, true, false, List, [], ◌∷◌, ◌++◌, length, Option, None, Some, Result, Ok, Err, refl, sym, ap, ◌∙◌, subst, arith}
use Rattle.std.specs.Prelude.{slice_get}
use Rattle.std.proofs.lemmas.List.Elements.{All-append, All-weaker}
use Rattle.std.proofs.lemmas.Option.{none-some, same_Some}
use Rattle.asm_base.specs.Tokens.{SpelledToken}
use Rattle.asm_base.specs.Refusals.{◌>>=◌}
use Rattle.asm_base.specs.declared.causes.FragCause.{FragCause}
use Rattle.asm_base.specs.declared.places.Place.{Place}
use Rattle.asm_base.specs.declared.places.SectionPlace.{SectionPlace}
use Rattle.asm_base.specs.declared.positions.Pos.{Pos}
use Rattle.asm_lines.specs.NextStatements.{TokenStatement}
use Rattle.asm_frags.specs.Fields.{own_place}
use Rattle.asm_frags.specs.SectionOf.{SectionOf}
use Rattle.asm_frags.specs.Writing.{LooseSection, with_bytes, with_run}
use Rattle.asm_relax.specs.KeptSections.{kept_section, LayoutsKeepSections}
use Rattle.asm_relax.specs.Settling.{LaidItem, LaidSections, layout_of}
use Rattle.section_laws.specs.Within.{AreWithin}
use Rattle.elf_file.specs.Places.{PieceAt}
use Rattle.elf_object.specs.Image.{image_of}
use Rattle.elf_object.specs.Places.{section_offset}
use Rattle.asm_values.specs.State.{Placed, nothing_placed}
use Rattle.att_insns.specs.InsnTexts.{InsnText}
use Rattle.item_bytes.specs.declared.jumps.Condition.{Condition}
use Rattle.asm_place.specs.declared.place_faults.FaultAt.{FaultAt}
use Rattle.asm_place.specs.CodePlaces.{insn_in, insn_written, is_instruction, jump_in, code_fields, with_code, InsnStands, IsInsnPut}
use Rattle.asm_place.specs.Instructions.{behind_labels, instruction_of, instruction_written, Grows, IsPut, StandsAt, next_item, next_offset}
use Rattle.asm_place.specs.JumpPlaces.{items_so_far, JumpStands}
use Rattle.asm_place.specs.LinePlaces as placing
use Rattle.asm_place.specs.LinePlaces.{LinesFollow}
use Rattle.asm_place.specs.Placing.{place_tokens}
use Rattle.asm_place.specs.Sources.{pos_at, place, place_all}
use Rattle.cfi_directives.specs.declared.frames.Frame.{Frame}
use Rattle.line_directives.specs.declared.sequences.Sequence.{Sequence}
use Rattle.line_directives.specs.Meanings.{RowAt, rows_in, rows_of, rows_onto, last_row, RowsAreMeant, RowsAreMade}
use Rattle.line_directives.specs.Numbered.{under}
use Rattle.line_directives.specs.Order.{IsUpTo, RowsRise, IsInRange}
use Rattle.line_directives.specs.Sequences.{with_row_at}
use Rattle.line_directives.specs.Taking.{LineTable, no_lines, LineDirective, taken_from, table_of}
use Rattle.line_table.specs.Placing as line_table
use Rattle.line_table.specs.Sequences.{place_in, end_in}
use Rattle.line_laws.specs.PlacedLines.{at_begin, RowStands, RowsReady}
use Rattle.line_laws.specs.TableReads.{written_table, row_meant, LineTableReads, LineTablesRead}
use Rattle.piece_laws.specs.LaidTables.{place_address, PlacesRise}
use Rattle.place_laws.specs.Alignments.{RunsMoveNothing}
use Rattle.place_laws.specs.Ends.{items_in, AreFirst, LayoutsKeepItems}
use Rattle.table_pieces.specs.Pieces.{Tables}
use Rattle.readback_laws.specs.FramedTables.{IsFramedReady, FramedTablesReady}
use Rattle.readback_laws.specs.Instructions.{has_no_bits, JumpReadsBack}
use Rattle.readback_laws.specs.Origins.{FramesAreReady, Origin, IsReached, framed_of, with_worked_out}
use Rattle.readback_laws.specs.ReadsBack.{ReadsBack, StatementsReadBack}
use Rattle.x86_lookup.specs.BareInstructions.{Coded, BareCodesRead}
use Rattle.x86_table.specs.Reads.{InstructionLength}
use Rattle.loc_laws.specs.Locs.{IsInstruction, statement_address, first_address, BeginsAt, LocReadsBack, LocsReadBack}
use Rattle.loc_laws.proofs.Behind.{kind, bare_long, code_long, EndsBehind, plain_behind, item_behind}
use Rattle.loc_laws.proofs.Begins.{tokens_placed, get_set, first_before, address_behind, run_begins}
use Rattle.loc_laws.proofs.Ends.{spot_end, here_end, end_is, up_to_on, up_to_end, ends_grow, row_stands, row_stays, rise_from, rise_to, rise_on}
use Rattle.loc_laws.proofs.FirstFiles.{rows_have_file}
use Rattle.loc_laws.proofs.LastRows.{AreBefore, AreBehind, due_there}
use Rattle.loc_laws.proofs.TwoParts.{taken_appended, rows_appended}

-- what is known of the instructions of statements, of line tables and of objects
pub record LocFacts : Type 0 where
  pub begins : (no_warn : Bool) → AreWithin (nothing_placed no_warn).sections
  pub grows : (statements : List TokenStatement) (before placed : Placed) → place_all statements before ≡ Ok placed → Grows before.sections placed.sections
  pub follow : (statements : List TokenStatement) (before placed : Placed) → place_all statements before ≡ Ok placed → LinesFollow before placed
  pub keeps : (s : TokenStatement) (before placed : Placed) → is_instruction before.syntax (behind_labels s.tokens) ≡ true → place s before ≡ Ok placed
      → placed.lines ≡ before.lines
  pub bare : (front : List TokenStatement) (s : TokenStatement) (later : List TokenStatement) (before placed whole : Placed) (coded : Coded) → AreWithin before.sections
      → place_all front before ≡ Ok placed → place_all (front ++ s ∷ later) before ≡ Ok whole → instruction_of placed.syntax s ≡ Some coded
      → StandsAt whole.sections placed.current (next_item placed) (next_offset placed) coded.bytes
  pub coded : (front : List TokenStatement) (s : TokenStatement) (later : List TokenStatement) (before placed whole : Placed) (text : InsnText) → AreWithin before.sections
      → place_all front before ≡ Ok placed → place_all (front ++ s ∷ later) before ≡ Ok whole → insn_in placed.syntax s ≡ Some text → jump_in text ≡ None
      → InsnStands whole.sections (pos_at s.file s.line) s.tokens text placed
  pub jump : (front : List TokenStatement) (s : TokenStatement) (later : List TokenStatement) (before placed whole : Placed) (text : InsnText) (condition : Option Condition)
      → AreWithin before.sections → place_all front before ≡ Ok placed → place_all (front ++ s ∷ later) before ≡ Ok whole → insn_in placed.syntax s ≡ Some text
      → jump_in text ≡ Some condition → JumpStands whole.sections (pos_at s.file s.line) s.tokens text condition placed
  pub bare_put : (pos : Pos) (tokens : List SpelledToken) (before placed : Placed) (coded : Coded) → instruction_written before.syntax (behind_labels tokens) ≡ Some coded
      → place_tokens pos tokens before ≡ Ok placed → IsPut before.sections placed.sections before.current pos coded.bytes
  pub coded_put : (pos : Pos) (tokens : List SpelledToken) (before placed : Placed) (text : InsnText) → insn_written before.syntax (behind_labels tokens) ≡ Some text
      → jump_in text ≡ None → place_tokens pos tokens before ≡ Ok placed → IsInsnPut pos tokens text before placed
  pub keep : LayoutsKeepItems
  pub runs : RunsMoveNothing
  pub reads : BareCodesRead
  pub long : InstructionLength
  pub meant : RowsAreMeant
  pub made : RowsAreMade
  pub places : PlacesRise
  pub layouts : LayoutsKeepSections
  pub table : LineTablesRead
  pub framed : FramedTablesReady
  pub back : StatementsReadBack

-- STATEMENTS IN PARTS

same_Ok : {A E : Type 0} (x y : A) → ◌≡◌ {A = Result A E} (Ok x) (Ok y) → x ≡ y
same_Ok {A} {E} x y is = ap (λ (r : Result A E). elim r [ Ok made ↦ made | Err fault ↦ x ]) is

split_step : (r : Result Placed FaultAt) (xs ys : List TokenStatement) → ((x : Placed) → place_all (xs ++ ys) x ≡ (place_all xs x >>= place_all ys))
    → (r >>= place_all (xs ++ ys)) ≡ ((r >>= place_all xs) >>= place_all ys)
split_step (Ok x) xs ys later = later x
split_step (Err fault) xs ys later = refl

all_split : (xs ys : List TokenStatement) (placed : Placed) → place_all (xs ++ ys) placed ≡ (place_all xs placed >>= place_all ys)
unfolding place_all
all_split [] ys placed = refl
all_split (s ∷ xs) ys placed = split_step (place s placed) xs ys (all_split xs ys)

-- what a statement places, and the others behind it
record Steps (s : TokenStatement) (after : List TokenStatement) (placed whole : Placed) : Type 0 where
  next : Placed
  one : place s placed ≡ Ok next
  alone : place_all (s ∷ []) placed ≡ Ok next
  others : place_all after next ≡ Ok whole

step_of : (s : TokenStatement) (after : List TokenStatement) (placed whole : Placed) → place_all (s ∷ after) placed ≡ Ok whole → Steps s after placed whole
unfolding place_all
step_of s after placed whole is = by (place s placed) refl is
  where
    by : (r : Result Placed FaultAt) → place s placed ≡ r → (r >>= place_all after) ≡ Ok whole → Steps s after placed whole
    by (Ok next) made rest = record { next = next; one = made; alone = ap (λ (r : Result Placed FaultAt). r >>= place_all []) made; others = rest }
    by (Err fault) made rest = absurd (let none : ⊥ = cc in none)

-- AN INSTRUCTION THAT IS REACHED

module _ (facts : LocFacts) (no_warn : Bool) (worked_out : Option (List Frame)) (handed : List TokenStatement) (object : List ℕ)
    (origin : Origin no_warn worked_out handed object) (ready : FramesAreReady worked_out origin.whole) where
  abbrev whole : Placed
  whole = origin.whole

  abbrev empty : Placed
  empty = nothing_placed no_warn

  abbrev framed : Tables
  framed = origin.framed

  abbrev tables : Tables
  tables = origin.tables

  abbrev laid : LaidSections
  laid = origin.laid

  frames_ready : IsFramedReady whole framed tables laid
  frames_ready = facts.framed no_warn worked_out handed object origin ready

  back : ReadsBack no_warn worked_out handed object
  back = facts.back no_warn worked_out handed object origin ready

  -- what is read back is the same object
  same_whole : back.made.whole ≡ whole
  same_whole = same_Ok {E = FaultAt} back.made.whole whole (sym back.made.places ∙ origin.places)

  same_framed : back.made.framed ≡ framed
  same_framed =
      same_Ok {E = FragCause} back.made.framed framed
      (sym back.made.frames ∙ ap (λ (all : Placed). framed_of (with_worked_out worked_out all)) same_whole ∙ origin.frames)

  same_tables : back.made.tables ≡ tables
  same_tables =
      same_Ok {E = FragCause} back.made.tables tables
      (sym back.made.lines ∙ ap (λ (all : Placed). line_table.placed all.lines back.made.framed) same_whole
      ∙ ap (line_table.placed whole.lines) same_framed ∙ origin.lines)

  same_laid : back.made.laid ≡ laid
  same_laid =
      same_Ok back.made.laid laid
      (sym back.made.settles ∙ ap (λ (all : Tables). layout_of all.symbols all.sections) same_tables ∙ origin.settles)

  few : length tables.symbols.symbols ≤ own_place
  few =
      let count = back.few in
      let same : length back.made.tables.symbols.symbols ≡ length tables.symbols.symbols = ap (λ (all : Tables). length all.symbols.symbols) same_tables in
      omega (arith, count, same)

  module _ (s : TokenStatement) (placed : Placed) (sequence : Sequence) (reached : IsReached no_warn handed s placed) (insn : IsInstruction placed s)
      (filed : has_no_bits laid placed.current ≡ false) (has : under placed.current placed.lines.sequences ≡ Some sequence) where
    abbrev number : ℕ
    number = placed.current

    abbrev address : Place → ℕ
    address place = place_address laid (place_in number place)

    steps : Steps s reached.after placed whole
    steps =
        step_of s reached.after placed whole
        (sym (ap (λ (r : Result Placed FaultAt). r >>= place_all (s ∷ reached.after)) reached.places) ∙ sym (all_split reached.before (s ∷ reached.after) empty)
        ∙ ap (λ (all : List TokenStatement). place_all all empty) (sym reached.all) ∙ origin.places)

    abbrev next : Placed
    next = steps.next

    alone : place_all (reached.before ++ s ∷ []) empty ≡ Ok next
    alone = all_split reached.before (s ∷ []) empty ∙ ap (λ (r : Result Placed FaultAt). r >>= place_all (s ∷ [])) reached.places ∙ steps.alone

    grows : Grows placed.sections next.sections
    grows = facts.grows (s ∷ []) placed next steps.alone

    grows_after : Grows next.sections whole.sections
    grows_after = facts.grows reached.after next whole steps.others

    -- THE DIRECTIVES BEFORE IT AND BEHIND IT

    first : LinesFollow empty placed
    first = facts.follow reached.before empty placed reached.places

    last : LinesFollow next whole
    last = facts.follow reached.after next whole steps.others

    same_lines : next.lines ≡ placed.lines
    same_lines = facts.keeps s placed next insn steps.one

    abbrev directives : List LineDirective
    directives = first.directives ++ last.directives

    means : table_of directives ≡ Ok whole.lines
    means =
        taken_appended no_lines placed.lines whole.lines first.directives last.directives first.taken
        (ap (λ (lines : LineTable). taken_from lines last.directives) (sym same_lines) ∙ last.taken)

    -- the rows of a section behind the statement
    abbrev later_rows : ℕ → List RowAt
    later_rows section = rows_in section placed.lines.is_stmt placed.lines.isa last.directives

    both_rows : (section : ℕ) → rows_of section directives ≡ rows_of section first.directives ++ later_rows section
    both_rows section = rows_appended section no_lines placed.lines first.directives last.directives first.taken

    first_rise : (section : ℕ) → RowsRise at_begin (rows_of section first.directives) (end_in section placed.sections)
    first_rise section =
        subst (RowsRise at_begin (rows_of section first.directives)) (spot_end section placed.sections)
        (rise_from at_begin (placing.end_in empty.sections section) (placing.end_in placed.sections section) (rows_of section first.directives)
        (omega arith, omega arith) (first.rise section))

    later_rise : (section : ℕ) → RowsRise (end_in section next.sections) (later_rows section) (end_in section whole.sections)
    later_rise section =
        subst (λ (lines : LineTable). RowsRise (end_in section next.sections) (rows_in section lines.is_stmt lines.isa last.directives) (end_in section whole.sections)) same_lines
        (subst (λ (from : Place). RowsRise from (rows_in section next.lines.is_stmt next.lines.isa last.directives) (end_in section whole.sections)) (spot_end section next.sections)
        (subst (RowsRise (placing.end_in next.sections section) (rows_in section next.lines.is_stmt next.lines.isa last.directives)) (spot_end section whole.sections)
        (last.rise section)))

    rows_ready : RowsReady framed.sections directives
    rows_ready = record {
      ranges = All-append IsInRange first.directives last.directives first.fit last.fit;
      stand = All-append (RowStands framed.sections) first.directives last.directives
          (All-weaker (placing.RowStands placed.sections) (RowStands framed.sections)
          (λ directive stands. row_stays whole.sections framed.sections frames_ready.first directive
          (row_stays next.sections whole.sections grows_after directive (row_stands placed.sections next.sections grows directive stands))) first.directives first.stand)
          (All-weaker (placing.RowStands whole.sections) (RowStands framed.sections) (λ directive stands. row_stands whole.sections framed.sections frames_ready.first directive stands)
          last.directives last.stand);
      rise = λ section. subst (λ (rows : List RowAt). RowsRise at_begin rows (end_in section framed.sections)) (sym (both_rows section))
          (rise_on at_begin (end_in section placed.sections) (end_in section framed.sections) (rows_of section first.directives) (later_rows section) (first_rise section)
          (rise_from (end_in section placed.sections) (end_in section next.sections) (end_in section framed.sections) (later_rows section)
          (ends_grow placed.sections next.sections grows section)
          (rise_to (end_in section next.sections) (end_in section whole.sections) (end_in section framed.sections) (later_rows section) (later_rise section)
          (ends_grow whole.sections framed.sections frames_ready.first section))));
    }

    -- BEHIND THE INSTRUCTION

    -- a section that is there behind the statement is in the layout
    in_layout : (held : LooseSection) → slice_get next.sections number ≡ Some held → (kept : SectionOf LaidItem) × (slice_get laid number ≡ Some kept)
    in_layout held there =
        let one = grows_after.kept number held there in
        let two = frames_ready.first.kept number _ one.there in
        let three = frames_ready.later.kept number _ two.there in
        let own = facts.layouts.section tables.symbols tables.sections laid number _ origin.settles three.there in
        (kept_section tables.symbols own.0 _, own.1)

    jump_moves : (text : InsnText) → JumpReadsBack object back.made.tables.symbols back.made.laid s text placed
        → (size : ℕ) × (0 < size) × (address (record { item = items_so_far placed; offset = next_offset placed }) + size
        ≡ address (record { item = items_so_far placed + 1; offset = next_offset placed }))
    jump_moves text reads =
        let code = facts.long reads.reads.reads.code _ reads.reads.reads.reads in
        let some = code.0 in
        let ends = reads.reads.ends in
        let moves = reads.behind in
        let here_place : SectionPlace = place_in number (record { item = items_so_far placed; offset = next_offset placed }) in
        let behind_place : SectionPlace = place_in number (record { item = items_so_far placed + 1; offset = next_offset placed }) in
        let there : place_address back.made.laid here_place + reads.reads.size ≡ place_address back.made.laid behind_place = omega (arith, moves) in (
          reads.reads.size,
          omega (arith, some, ends),
          subst (λ (all : LaidSections). place_address all here_place + reads.reads.size ≡ place_address all behind_place) same_laid there,
        )

    coded_behind : (text : InsnText) (jump : Option (Option Condition)) → insn_in placed.syntax s ≡ Some text → jump_in text ≡ jump → EndsBehind laid placed next
    coded_behind text None is jump =
        let stands = (facts.coded reached.before s [] empty placed next text (facts.begins no_warn) reached.places alone is jump).stands in
        let kept = in_layout stands.section stands.found in
        plain_behind facts.places laid placed next grows kept.0 kept.1 _ stands.section stands.found
        (let some = code_long 1 _ _ stands.apart in omega (arith, some)) stands.within
    coded_behind text (Some condition) is jump =
        let stands = (facts.jump reached.before s [] empty placed next text condition (facts.begins no_warn) reached.places alone is jump).stands in
        let moves = jump_moves text (back.jumps s text condition placed reached is jump
        (ap (λ (all : LaidSections). has_no_bits all number) same_laid ∙ filed)) in
        item_behind facts.places laid placed next grows moves.0 stands.section _ stands.found stands.item_there moves.1 moves.2

    behind : EndsBehind laid placed next
    behind = elim (kind placed s insn) [
      | inl bare ↦
          (let stands = facts.bare reached.before s [] empty placed next bare.0 (facts.begins no_warn) reached.places alone bare.1 in
          let kept = in_layout stands.section stands.found in
          plain_behind facts.places laid placed next grows kept.0 kept.1 (length bare.0.bytes) stands.section stands.found
          (bare_long facts.reads facts.long placed s bare.0 bare.1) stands.within)
      | inr coded ↦ coded_behind coded.0 (jump_in coded.0) coded.1 refl
    ]

    rises : (one other : Place) → IsUpTo one other → address one ≤ address other
    rises one other up = facts.places.rise laid number one other up.0 up.1

    abbrev start : ℕ
    start = address (end_in number placed.sections)

    behind_next : start < address (end_in number next.sections)
    behind_next =
        let far = behind.further in
        let more = rises behind.place (end_in number next.sections) behind.up in
        omega (arith, far, more)

    behind_end : start < address (end_in number framed.sections)
    behind_end =
        let first = behind_next in
        let more = rises (end_in number next.sections) (end_in number framed.sections)
        (up_to_on (end_in number next.sections) (end_in number whole.sections) (end_in number framed.sections) (ends_grow next.sections whole.sections grows_after number)
        (ends_grow whole.sections framed.sections frames_ready.first number)) in
        omega (arith, first, more)

    are_before : (from : Place) (rows : List RowAt) → RowsRise from rows (end_in number placed.sections) → AreBefore address start rows
    are_before from [] rise = tt
    are_before from (row ∷ rows) rise =
        (rises row.0 (end_in number placed.sections) (up_to_end row.0 rows (end_in number placed.sections) rise.1), are_before row.0 rows rise.1)

    are_behind : (rows : List RowAt) → RowsRise (end_in number next.sections) rows (end_in number whole.sections) → AreBehind address start rows
    are_behind [] rise = tt
    are_behind (row ∷ rows) rise =
        let first = behind_next in
        let more = rises (end_in number next.sections) row.0 rise.0 in
        omega (arith, first, more)

    -- THE ROW

    here_is : statement_address laid placed ≡ start
    here_is = ap (place_address laid) (here_end placed)

    -- WHERE IT BEGINS

    abbrev pos : Pos
    pos = pos_at s.file s.line

    tokens : place_tokens pos s.tokens placed ≡ Ok next
    tokens = tokens_placed s placed next steps.one

    -- the items of a section behind the statement are the first ones in the layout
    items_first : (held : LooseSection) → slice_get next.sections number ≡ Some held → AreFirst held (items_in laid number)
    items_first held there =
        let one = grows_after.kept number held there in
        let two = frames_ready.first.kept number _ one.there in
        let three = frames_ready.later.kept number _ two.there in
        first_before held _ one _ (first_before _ _ two _ (first_before _ _ three _
        (facts.keep tables.symbols tables.sections laid number _ origin.settles three.there)))

    abbrev section_at : ℕ
    section_at = section_offset tables.symbols laid number

    -- the place of a label in front of it
    label_place : section_at + address_behind laid placed (items_so_far placed) ≡ section_at + statement_address laid placed
    label_place = ap (λ (at : ℕ). section_at + at) (sym (here_is ∙ ap address (end_is placed)))

    plain_place : (section : LooseSection) → slice_get placed.sections number ≡ Some section → AreFirst (with_run pos section) (items_in laid number)
        → section_at + address_behind laid placed (next_item placed) ≡ section_at + statement_address laid placed
    plain_place section there first = ap (λ (at : ℕ). section_at + at) (run_begins facts.runs pos laid placed section there first) ∙ label_place

    bare_place : (coded : Coded) → instruction_of placed.syntax s ≡ Some coded
        → section_at + address_behind laid placed (next_item placed) ≡ section_at + statement_address laid placed
    bare_place coded is =
        let put = facts.bare_put pos s.tokens placed next coded is tokens in
        let new : LooseSection = with_bytes pos coded.bytes put.section in
        let first = items_first new
        (ap (λ (all : List LooseSection). slice_get all number) put.put ∙ get_set placed.sections number put.section new put.there) in
        plain_place put.section put.there (record { each = first.each })

    coded_place : (text : InsnText) → insn_in placed.syntax s ≡ Some text → jump_in text ≡ None
        → section_at + address_behind laid placed (next_item placed) ≡ section_at + statement_address laid placed
    coded_place text is jump =
        let insn = facts.coded_put pos s.tokens placed next text is jump tokens in
        let put = insn.put in
        let new : LooseSection = with_code pos number insn.coded.made.bytes (code_fields text insn.coded.forms insn.coded.made) put.section in
        let first = items_first new
        (ap (λ (all : List LooseSection). slice_get all number) put.put ∙ get_set placed.sections number put.section new put.there) in
        plain_place put.section put.there (record { each = first.each })

    begins_at : BeginsAt tables.symbols laid s placed (section_at + statement_address laid placed)
    begins_at = record {
      bare = bare_place;
      coded = coded_place;
      jump = λ text condition is jump. label_place;
    }

    -- THE ROWS BEFORE IT

    -- the rows of the section before the statement
    record RowsBefore : Type 0 where
      row : RowAt
      rows : List RowAt
      meant : rows_of number first.directives ≡ row ∷ rows
      start_is : sequence.start ≡ row.0
      last_is : sequence.row ≡ last_row row.1 rows

    rows_before_it : RowsBefore
    rows_before_it = by (rows_of number first.directives) refl (sym has ∙ facts.meant first.directives placed.lines number first.taken)
      where
        by : (rows : List RowAt) → rows_of number first.directives ≡ rows → Some sequence ≡ rows_onto None (rows_of number first.directives) → RowsBefore
        by [] meant same = absurd (none-some sequence (sym (same ∙ ap (rows_onto None) meant)))
        by (row ∷ rows) meant same =
            let made = same_Some sequence _ (same ∙ ap (rows_onto None) meant ∙ facts.made (with_row_at row.0 row.1 None) rows) in
            record {
              row = row;
              rows = rows;
              meant = meant;
              start_is = ap (λ (s : Sequence). s.start) made;
              last_is = ap (λ (s : Sequence). s.row) made;
            }

    abbrev had : RowsBefore
    had = rows_before_it

    all_rows : rows_of number directives ≡ had.row ∷ (had.rows ++ later_rows number)
    all_rows = both_rows number ∙ ap (λ (rows : List RowAt). rows ++ later_rows number) had.meant

    had_rise : RowsRise at_begin (had.row ∷ had.rows) (end_in number placed.sections)
    had_rise = subst (λ (rows : List RowAt). RowsRise at_begin rows (end_in number placed.sections)) had.meant (first_rise number)

    starts : address had.row.0 ≤ start
    starts = rises had.row.0 (end_in number placed.sections) (up_to_end had.row.0 had.rows (end_in number placed.sections) had_rise.1)

    first_is : first_address laid number sequence ≡ address had.row.0
    first_is = ap address had.start_is

    pos_there : (pos : Pos) × (whole.lines.first ≡ Some pos)
    pos_there = rows_have_file number directives whole.lines means (λ none. let never : had.row ∷ (had.rows ++ later_rows number) ≡ [] = sym all_rows ∙ none in absurd cc)

    table : LineTableReads (image_of tables.symbols laid) tables.symbols laid framed.sections directives whole.lines
    table =
        facts.table pos_there.0 directives whole.lines framed tables laid means pos_there.1 frames_ready.ready rows_ready origin.lines few origin.settles frames_ready.low

    due : (distance : ℕ) → distance ≡ start - address had.row.0
        → row_meant laid number (end_in number framed.sections) (had.row ∷ (had.rows ++ later_rows number)) distance ≡ Some sequence.row
    due distance is =
        ap (row_meant laid number (end_in number framed.sections) (had.row ∷ (had.rows ++ later_rows number))) is
        ∙ due_there address start had.row had.rows (later_rows number) (address (end_in number framed.sections)) starts behind_end
        (are_before had.row.0 had.rows had_rise.1) (are_behind (later_rows number) (later_rise number))
        ∙ ap Some (sym had.last_is)

    pub loc_reads : LocReadsBack object tables.symbols laid whole.lines s placed sequence
    loc_reads =
        let reads = table.each number had.row (had.rows ++ later_rows number) all_rows in
        let distance : ℕ = statement_address laid placed - first_address laid number sequence in
        let here = here_is in
        let first = first_is in
        let above = starts in
        record {
          number = table.number;
          section = table.section;
          table = written_table whole.lines table.sequences;
          stands = subst (λ (file : List ℕ). PieceAt file (section_offset tables.symbols laid table.number) (written_table whole.lines table.sequences)) (sym origin.image) table.stands;
          whole = table.whole;
          begins = begins_at;
          behind = omega (arith, here, first, above);
          row = reads.reads distance ∙ due distance (omega (arith, here, first));
        }

-- so it is with each instruction that is reached behind a `.loc`
pub locs_read_back : LocFacts → LocsReadBack
locs_read_back facts no_warn worked_out handed object origin ready s placed sequence reached insn filed has =
    loc_reads facts no_warn worked_out handed object origin ready s placed sequence reached insn filed has
