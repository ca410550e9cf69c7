-- The places of the labels that a table brings stand in its sections.
use Rattle.std.proofs.Common.{◌≡◌, ℕ, suc, ◌+◌, ◌-◌, drop, List, [], ◌∷◌, Option, None, Some, Ok, refl, sym, ap, subst, arith}
use Rattle.std.specs.Prelude.{All, IsSomeAnd}
use Rattle.std.specs.List.{slice_get}
use Rattle.std.proofs.lemmas.List.Elements.{All-nil, All-head, All-tail, All-weaker}
use Rattle.asm_base.specs.declared.places.Place.{Place}
use Rattle.asm_base.specs.declared.positions.Pos.{Pos}
use Rattle.asm_frags.specs.Writing.{LooseSection}
use Rattle.line_directives.specs.declared.sequences.Sequence.{Sequence}
use Rattle.line_directives.specs.Meanings.{RowAt, rows_of}
use Rattle.line_directives.specs.Numbered.{under}
use Rattle.line_directives.specs.Taking.{LineTable, LineDirective, table_of}
use Rattle.line_rows.specs.declared.sections.Gap.{Gap}
use Rattle.line_rows.specs.Sections.{first_made}
use Rattle.table_pieces.specs.declared.ends.SectionEnd.{SectionEnd}
use Rattle.table_pieces.specs.Ends.{behind_pieces}
use Rattle.table_pieces.specs.Pieces.{Piece, Tables}
use Rattle.table_pieces.specs.Ready.{SectionsKeepPlaces}
use Rattle.table_pieces.specs.Standing.{HasEnd, AllExtend}
use Rattle.table_pieces.specs.StandingPlaces.{HoldsItems, GetsStanding, AllPlacesStand, PiecesBringStanding}
use Rattle.line_table.specs.FoundTables.{TableStands, IsPlaced}
use Rattle.line_table.specs.Placing.{nothing_put, unit_pieces, table_put}
use Rattle.line_table.specs.Sequences.{distance_in, end_in, gap_pieces, stop_pieces, sequence_pieces, sequences_from}
use Rattle.line_table.specs.StandingLines.{RowPlacesStand, LabelsStand}
use Rattle.line_table.proofs.PieceFacts.{Extending, Finding}
use Rattle.line_table.proofs.RowPlaces.{Meaning, sequence_of, of_sequences, OfGap, last_is, gaps_are}
use Rattle.line_table.proofs.SectionLemmas.{end_there}
use Rattle.line_table.proofs.TableLemmas.{nothing_at, is_placed, first_there, first_symbols}

-- what is known of pieces, of directives, and of sections and labels that stand
pub record StandingFacts : Type 0 where
  pub extending : Extending
  pub finding : Finding
  pub standing : PiecesBringStanding
  pub keeping : SectionsKeepPlaces
  pub meaning : Meaning

module _ (sections : List LooseSection) where
  -- a place of the section of this number stands there
  abbrev StandsIn : ℕ → Place → Type 0
  StandsIn section place = HoldsItems sections section place.item

  -- the places of a sequence, and the end of its section, stand there
  record SequenceStands (section : ℕ) (stop : Place) (sequence : Sequence) : Type 0 where
    pub start : StandsIn section sequence.start
    pub last : StandsIn section sequence.last
    pub gaps : All (OfGap (StandsIn section)) sequence.rows.gaps
    pub end : StandsIn section stop

  gaps_stand : (section from : ℕ) (gaps : List Gap) (bytes : List ℕ) (pieces : List Piece) → All (OfGap (StandsIn section)) gaps → AllPlacesStand sections pieces
      → AllPlacesStand sections (gap_pieces section from gaps bytes pieces)
  gaps_stand section from [] bytes pieces all rest = (tt, rest)
  gaps_stand section from (gap ∷ gaps) bytes pieces all rest =
      let own = All-head (OfGap (StandsIn section)) gap gaps all in
      (tt, ((own.1, own.0), gaps_stand section gap.at gaps (drop (gap.at - from) bytes) pieces (All-tail (OfGap (StandsIn section)) gap gaps all) rest))

  sequence_stands : (section : ℕ) (end : Place) (sequence : Sequence) (pieces : List Piece) → SequenceStands section end sequence → AllPlacesStand sections pieces
      → AllPlacesStand sections (sequence_pieces section end sequence pieces)
  sequence_stands section end sequence pieces stands rest =
      (tt, (stands.start, gaps_stand section 0 sequence.rows.gaps sequence.rows.bytes (stop_pieces (distance_in section sequence.last end) pieces) stands.gaps (tt, ((stands.end, stands.last), (tt, rest)))))

  -- the sequences of all sections from this number on stand, with the ends that sections had
  abbrev SequencesStand : List LooseSection → ℕ → List (Option Sequence) → Type 0
  SequencesStand first number sequences = (more : ℕ) (sequence : Sequence) → under more sequences ≡ Some sequence
      → SequenceStands (number + more) (end_in (number + more) first) sequence

  later_stand : (first : List LooseSection) (number : ℕ) (found : Option Sequence) (sequences : List (Option Sequence)) → SequencesStand first number (found ∷ sequences)
      → SequencesStand first (number + 1) sequences
  later_stand first number found sequences stand more sequence is =
      subst (λ (n : ℕ). SequenceStands n (end_in n first) sequence) (omega arith) (stand (suc more) sequence is)

  sequences_stand : (first : List LooseSection) (number : ℕ) (sequences : List (Option Sequence)) → SequencesStand first number sequences
      → AllPlacesStand sections (sequences_from first number sequences)
  sequences_stand first number [] stand = tt
  sequences_stand first number (None ∷ sequences) stand =
      sequences_stand first (number + 1) sequences (later_stand first number None sequences stand)
  sequences_stand first number (Some sequence ∷ sequences) stand =
      sequence_stands number (end_in number first) sequence (sequences_from first (number + 1) sequences)
      (subst (λ (n : ℕ). SequenceStands n (end_in n first) sequence) (omega arith) (stand 0 sequence refl))
      (sequences_stand first (number + 1) sequences (later_stand first number (Some sequence) sequences stand))

  -- the end that is counted stands
  reached : (section : ℕ) (end : SectionEnd) (found : Option LooseSection) → slice_get sections section ≡ found → IsSomeAnd found (HasEnd end) → HoldsItems sections section end.items
  reached section end None is has = absurd has
  reached section end (Some held) is has = record { held = held; there = is; enough = let items = has.items in omega (arith, items) }

-- the end of a section that is there stands
end_stands : (sections : List LooseSection) (section : ℕ) (held : LooseSection) → slice_get sections section ≡ Some held → HoldsItems sections section (end_in section sections).item
end_stands sections section held is =
    record { held = held; there = is; enough = let items = ap (λ (end : SectionEnd). end.items) (end_there section sections held is) in omega (arith, items) }

some_weaker : {X : Type 0} (P Q : X → Type 0) (o : Option X) → ((x : X) → P x → Q x) → IsSomeAnd o P → IsSomeAnd o Q
some_weaker P Q None make p = absurd p
some_weaker P Q (Some x) make p = make x p

module _ (facts : StandingFacts) (directives : List LineDirective) (lines : LineTable) (is : table_of directives ≡ Ok lines) where
  module _ (pos : Pos) (tables after : Tables) (stand : RowPlacesStand tables.sections directives) (put : IsPlaced pos lines tables after) where
    grown : (number items : ℕ) → HoldsItems tables.sections number items → HoldsItems after.sections number items
    grown number items has = facts.keeping.items tables.sections after.sections number items put.grows has

    first_grows : AllExtend put.first.sections after.sections
    first_grows =
        subst (λ (t : Tables). AllExtend put.first.sections t.sections) (sym put.put)
        (facts.extending.extensions.all put.section put.first.sections (table_put put.section pos lines put.first).sections
        (facts.extending.pieces put.section pos (unit_pieces put.section put.first.sections lines) put.first))

    -- the rows of a section as they are made stand
    made_stands : (section : ℕ) (row : RowAt) (rows : List RowAt) → rows_of section directives ≡ row ∷ rows
        → SequenceStands after.sections section (end_in section put.first.sections) (sequence_of row rows)
    made_stands section row rows all =
        let P : Place → Type 0 = λ (place : Place). HoldsItems after.sections section place.item in
        let Before : RowAt → Type 0 = λ (row : RowAt). HoldsItems tables.sections section row.0.item in
        let each : All Before (row ∷ rows) = subst (All Before) all (stand section) in
        let own : Before row = All-head Before row rows each in
        let later : All (λ (row : RowAt). P row.0) rows = rows_grow rows (All-tail Before row rows each) in
        record {
          start = grown section row.0.item own;
          last = last_is P row.0 rows (grown section row.0.item own) later;
          gaps = gaps_are P row.0 rows (first_made row.1) (grown section row.0.item own) later (All-nil (OfGap P));
          end = facts.keeping.items put.first.sections after.sections section (end_in section put.first.sections).item first_grows
              (end_stands put.first.sections section own.held (first_there put.section tables put.first put.begins section own.held own.there));
        }
      where
        rows_grow : (rows : List RowAt) → All (λ (row : RowAt). HoldsItems tables.sections section row.0.item) rows
            → All (λ (row : RowAt). HoldsItems after.sections section row.0.item) rows
        rows_grow rows all =
            All-weaker (λ (row : RowAt). HoldsItems tables.sections section row.0.item) (λ (row : RowAt). HoldsItems after.sections section row.0.item)
            (λ row has. grown section row.0.item has) rows all

    all_stand : SequencesStand after.sections put.first.sections 0 lines.sequences
    all_stand section sequence there =
        subst (λ (n : ℕ). SequenceStands after.sections n (end_in n put.first.sections) sequence) (omega arith)
        (of_sequences facts.meaning (SequenceStands after.sections section (end_in section put.first.sections)) directives lines section sequence is
        (λ row rows all. made_stands section row rows all) there)

    pieces_stand : AllPlacesStand after.sections (unit_pieces put.section put.first.sections lines)
    pieces_stand =
        let end : SectionEnd = behind_pieces (unit_pieces put.section put.first.sections lines) nothing_put in
        let stop : HoldsItems after.sections put.section end.items =
        reached after.sections put.section end (slice_get after.sections put.section) refl
        (some_weaker (λ held. TableStands held put.section pos lines put.first) (HasEnd end) (slice_get after.sections put.section)
        (λ held stands. stands.ends) put.stands) in
        ((stop, tt), (tt, sequences_stand after.sections put.first.sections 0 lines.sequences all_stand))

    labels_by : GetsStanding after.sections tables.symbols after.symbols
    labels_by =
        subst (λ map. GetsStanding after.sections map after.symbols) (first_symbols put.section tables put.first put.begins)
        (subst (λ (t : Tables). GetsStanding after.sections put.first.symbols t.symbols) (sym put.put)
        (facts.standing.pieces after.sections put.section pos (unit_pieces put.section put.first.sections lines) put.first pieces_stand))

pub labels_stand : StandingFacts → LabelsStand
labels_stand facts directives lines tables after low is stand done = by lines.first refl
  where
    by : (first : Option Pos) → lines.first ≡ first → GetsStanding after.sections tables.symbols after.symbols
    by None first =
        subst (λ (t : Tables). GetsStanding t.sections tables.symbols t.symbols) (nothing_at (record { file = 0; line = 0 }) lines tables after first done)
        (facts.standing.same tables.sections tables.symbols)
    by (Some pos) first =
        labels_by facts directives lines is pos tables after stand (is_placed facts.extending facts.finding pos lines tables after low first done)
