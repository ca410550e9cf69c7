-- The whole table is found in the end.
use Rattle.std.proofs.Common.{◌≡◌, ℕ, ◌<◌, ◌≤◌, inl, inr, Bool, true, false, List, [], ◌∷◌, ◌++◌, length, Option, None, Some, Ok, Err, if◌then◌else◌, get_or, refl, sym, ap, subst, ◌∙◌, zero, suc, ◌==◌, eq-eqb}
use Rattle.std.specs.Prelude.{All, IsSomeAnd, codes}
use Rattle.std.specs.List.{slice_get}
use Rattle.std.specs.Option.{option_map_or}
use Rattle.std.proofs.lemmas.Bool.{eqb-true}
use Rattle.std.proofs.lemmas.List.Elements.{All-nil, All-cons, All-append}
use Rattle.std.proofs.lemmas.Option.{slice_get-get_or, slice_get_within, get_or_from_slice_get}
use Rattle.asm_base.specs.declared.positions.Pos.{Pos}
use Rattle.asm_base.specs.declared.causes.FragCause.TheVariants.{BadSection}
use Rattle.asm_frags.specs.declared.fields.Field.{Field}
use Rattle.asm_frags.specs.PlainBytes.{field_end}
use Rattle.asm_frags.specs.SectionOf.{section_number}
use Rattle.asm_frags.specs.Writing.{LooseItem, LooseSection, ends_in_run, takes_zeros_alone}
use Rattle.cfi_directives.specs.declared.frames.Frame.{Frame}
use Rattle.asm_base.specs.declared.places.SectionPlace.{SectionPlace}
use Rattle.table_pieces.specs.declared.ends.SectionEnd.{SectionEnd}
use Rattle.table_pieces.specs.Pieces.{Piece, Tables, tables_of, piece_put, Takes}
use Rattle.table_pieces.specs.Ends.{behind_piece, behind_pieces, end_place, run_end, no_end, end_of}
use Rattle.table_pieces.specs.Standing.{Extends, OneExtends}
use Rattle.section_laws.specs.Within.{IsWithin}
use Rattle.table_pieces.specs.Found.{IsReadyAt, IsReady, PiecesStand}
use Rattle.eh_frame.specs.Entries.{entry_pieces}
use Rattle.eh_frame.specs.Commons.{head_piece, rest_pieces, common_pieces}
use Rattle.eh_frame.specs.Placing.{Putting, padded_log, place_of, common_put, common_place, frame_put, entries_put, common_begun, table_put, new_table, placed_there, placed_in, placed}
use Rattle.eh_frame.specs.FoundTables.{CommonStands, EntryStands, StandsWith, EntriesStand, TableStands, IsPlaced}
use Rattle.eh_frame.proofs.PieceFacts.{Extending, Finding}
use Rattle.eh_frame.proofs.TableSteps.{ready, entries_extend, table_extends}

-- the end of a section that is ready, where its last item is a run
end_by : (found : Option LooseSection) (end : SectionEnd) → IsSomeAnd found (IsReadyAt end) → end.in_run ≡ true → option_map_or run_end found no_end ≡ end
end_by None end ready run = absurd ready
end_by (Some held) end ready run =
    ap (λ (items : ℕ). record { items = items; bytes = length held.bytes; in_run = true }) ready.reaches.items
    ∙ ap (λ (bytes : ℕ). record { items = end.items; bytes = bytes; in_run = true }) ready.reaches.bytes
    ∙ ap (λ (in_run : Bool). record { items = end.items; bytes = end.bytes; in_run = in_run }) (sym run)

pub end_is : (section : ℕ) (sections : List LooseSection) (end : SectionEnd) → IsReady section sections end → end.in_run ≡ true → end_of section sections ≡ end
unfolding end_of
end_is section sections end ready run = end_by (slice_get sections section) end ready run

end_there : (section : ℕ) (sections : List LooseSection) (held : LooseSection) → slice_get sections section ≡ Some held → end_of section sections ≡ run_end held
unfolding end_of
end_there section sections held is = ap (λ found. option_map_or run_end found no_end) is

both_made : {X : Type 0} (P Q R : X → Type 0) (o : Option X) → ((x : X) → P x → Q x → R x) → IsSomeAnd o P → IsSomeAnd o Q → IsSomeAnd o R
both_made P Q R None make p q = absurd p
both_made P Q R (Some x) make p q = make x p q

-- the section stays within its bytes
within_of : (section : ℕ) (sections : List LooseSection) (end : SectionEnd) → IsReady section sections end → IsSomeAnd (slice_get sections section) IsWithin
within_of section sections end = by (slice_get sections section)
  where
    by : (found : Option LooseSection) → IsSomeAnd found (IsReadyAt end) → IsSomeAnd found IsWithin
    by None ready = absurd ready
    by (Some held) ready = ready.low

module _ (extending : Extending) (finding : Finding) where
  nowhere : Pos
  nowhere = record { file = 0; line = 0 }

  common_found : (section : ℕ) (frame : Frame) (found : Option SectionPlace) (putting : Putting) (last : List LooseSection) → IsReady section putting.tables.sections putting.end
      → OneExtends section (common_put section frame found putting).tables.sections last
      → IsSomeAnd (slice_get last section) (λ held. CommonStands held section frame found putting)
  common_found section frame (Some place) putting last is_ready extends = finding.pieces section nowhere [] putting.tables putting.end last is_ready extends
  common_found section frame None putting last is_ready extends = finding.pieces section frame.pos (common_pieces frame) putting.tables putting.end last is_ready extends

  common_ready : (section : ℕ) (frame : Frame) (found : Option SectionPlace) (putting : Putting) → IsReady section putting.tables.sections putting.end
      → IsReady section (common_put section frame found putting).tables.sections (common_put section frame found putting).end
  common_ready section frame (Some place) putting is_ready = is_ready
  common_ready section frame None putting is_ready = finding.ready section frame.pos (common_pieces frame) putting.tables putting.end is_ready

  -- the pieces of the FDE of a procedure
  abbrev pieces_of : ℕ → ℕ → Frame → Putting → List Piece
  pieces_of section log frame putting = entry_pieces section (ready section frame putting).end (common_place section frame putting) log frame

  frame_ready : (section log : ℕ) (frame : Frame) (putting : Putting) → IsReady section putting.tables.sections putting.end
      → IsReady section (frame_put section log frame putting).tables.sections (frame_put section log frame putting).end
  frame_ready section log frame putting is_ready =
      finding.ready section frame.pos (pieces_of section log frame putting) (ready section frame putting).tables (ready section frame putting).end
      (common_ready section frame (place_of frame putting.commons) putting is_ready)

  entries_found : (section : ℕ) (frames : List Frame) (putting : Putting) (last : List LooseSection) → IsReady section putting.tables.sections putting.end
      → OneExtends section (entries_put section frames putting).tables.sections last → IsSomeAnd (slice_get last section) (λ held. EntriesStand held section frames putting)
  entries_found section [] putting last is_ready extends = finding.pieces section nowhere [] putting.tables putting.end last is_ready extends
  entries_found section (frame ∷ frames) putting last is_ready extends =
      let log : ℕ = padded_log frames in
      let found : Option SectionPlace = place_of frame putting.commons in
      let one : Putting = ready section frame putting in
      let next : Putting = frame_put section log frame putting in
      let pieces : List Piece = pieces_of section log frame putting in
      let behind : OneExtends section next.tables.sections last =
      extending.extensions.on section next.tables.sections (entries_put section frames next).tables.sections last (entries_extend extending section frames next) extends in
      let from_one : OneExtends section one.tables.sections last =
      extending.extensions.on section one.tables.sections next.tables.sections last (extending.pieces section frame.pos pieces one.tables) behind in
      both_made (λ held. StandsWith held section log frame putting) (λ held. EntriesStand held section frames next)
      (λ held. EntriesStand held section (frame ∷ frames) putting) (slice_get last section) (λ held first others. (first, others))
      (both_made (λ held. CommonStands held section frame found putting) (λ held. EntryStands held section log (common_place section frame putting) frame one)
      (λ held. StandsWith held section log frame putting) (slice_get last section) (λ held common entry. record { common = common; entry = entry })
      (common_found section frame found putting last is_ready from_one)
      (finding.pieces section frame.pos pieces one.tables one.end last (common_ready section frame found putting is_ready) behind))
      (entries_found section frames next last (frame_ready section log frame putting is_ready) extends)

  entries_within : (section : ℕ) (frames : List Frame) (putting : Putting) → IsReady section putting.tables.sections putting.end
      → IsSomeAnd (slice_get (entries_put section frames putting).tables.sections section) IsWithin
  entries_within section [] putting is_ready = within_of section putting.tables.sections putting.end is_ready
  entries_within section (frame ∷ frames) putting is_ready =
      entries_within section frames (frame_put section (padded_log frames) frame putting) (frame_ready section (padded_log frames) frame putting is_ready)

  pub table_found : (section : ℕ) (first : Frame) (frames : List Frame) (tables : Tables) (held : LooseSection) → slice_get tables.sections section ≡ Some held → IsWithin held
      → IsSomeAnd (slice_get (table_put section first frames tables).sections section) (λ held. TableStands held section first frames tables × IsWithin held)
  table_found section first frames tables held is low =
      let start : SectionEnd = record { items = length held.items; bytes = length held.bytes; in_run = ends_in_run held.items } in
      let is_ready : IsReady section tables.sections start =
      subst (λ (found : Option LooseSection). IsSomeAnd found (IsReadyAt start)) (sym is) (record { reaches = record { items = refl; bytes = refl; in_run = refl }; low = low }) in
      let begun : Putting = common_begun section first tables in
      let put : Tables = piece_put section first.pos (head_piece first) tables in
      let puts : IsReady section put.sections (behind_piece (head_piece first) start) = finding.ready section first.pos (head_piece first ∷ []) tables start is_ready in
      let ended : end_of section put.sections ≡ behind_piece (head_piece first) start = end_is section put.sections (behind_piece (head_piece first) start) puts refl in
      let end_same : behind_pieces (common_pieces first) start ≡ begun.end = ap (behind_pieces (rest_pieces first)) (sym ended) in
      let began : end_of section tables.sections ≡ run_end held = end_there section tables.sections held is in
      let place_same : end_place section start ≡ end_place section (end_of section tables.sections) = ap (end_place section) (sym began) in
      let all_ready : IsReady section begun.tables.sections begun.end =
      subst (IsReady section begun.tables.sections) end_same (finding.ready section first.pos (common_pieces first) tables start is_ready) in
      let all : List LooseSection = (table_put section first frames tables).sections in
      both_made (λ held. PiecesStand held section first.pos start tables (common_pieces first))
      (λ held. EntriesStand held section frames begun × IsWithin held)
      (λ held. TableStands held section first frames tables × IsWithin held) (slice_get all section)
      (λ last common others. (
        record { start = start; place = place_same; end = end_same; common = common; entries = others.0 },
        others.1,
      ))
      (finding.pieces section first.pos (common_pieces first) tables start all is_ready (entries_extend extending section frames begun))
      (both_made (λ held. EntriesStand held section frames begun) IsWithin (λ held. EntriesStand held section frames begun × IsWithin held) (slice_get all section)
      (λ last entries within. (entries, within))
      (entries_found section frames begun all all_ready (extending.extensions.same section all))
      (entries_within section frames begun all_ready))

get_last : (xs : List LooseSection) (x : LooseSection) → slice_get (xs ++ x ∷ []) (length xs) ≡ Some x
get_last [] x = refl
get_last (y ∷ xs) x = get_last xs x

pub new_low : IsWithin new_table
new_low = record {
  items = All-nil (λ (item : LooseItem). item.offset ≤ 0);
  fields = All-nil (λ (field : Field). field_end field ≤ 0);
  apart = tt;
  counted = All-nil _;
}

pub get_first : (xs ys : List LooseSection) (i : ℕ) (x : LooseSection) → slice_get xs i ≡ Some x → slice_get (xs ++ ys) i ≡ Some x
get_first [] ys i x is = absurd (let none : ⊥ = cc in none)
get_first (y ∷ xs) ys zero x is = is
get_first (y ∷ xs) ys (suc i) x is = get_first xs ys i x is

-- the first and the second of what holds of a section
parts : {X : Type 0} (P Q : X → Type 0) (o : Option X) → IsSomeAnd o (λ x. P x × Q x) → IsSomeAnd o P × IsSomeAnd o Q
parts P Q None both = absurd both
parts P Q (Some x) both = both

-- all sections stay within their bytes where one is extended that does
all_within : (section : ℕ) (before after : List LooseSection) → All IsWithin before → OneExtends section before after
    → IsSomeAnd (slice_get after section) IsWithin → All IsWithin after
all_within section before after low extends one = λ k d within. by k d within (k == section) refl
  where
    of_found : (k : ℕ) (d : LooseSection) (found : Option LooseSection) → slice_get after k ≡ found → IsSomeAnd found IsWithin → IsWithin (get_or after k d)
    of_found k d None is is_within = absurd is_within
    of_found k d (Some held) is is_within = subst IsWithin (sym (get_or_from_slice_get after k held d is)) is_within

    by : (k : ℕ) (d : LooseSection) → k < length after → (same : Bool) → (k == section) ≡ same → IsWithin (get_or after k d)
    by k d within true is =
        of_found k d (slice_get after k) refl
        (subst (λ (n : ℕ). IsSomeAnd (slice_get after n) IsWithin) (sym (eqb-true k section is)) one)
    by k d within false is =
        let inside : k < length before = subst (λ (n : ℕ). k < n) extends.count within in
        let there : slice_get before k ≡ Some (get_or before k d) = slice_get-get_or before k d inside in
        subst IsWithin (sym (get_or_from_slice_get after k (get_or before k d) d (extends.others k (λ same. absurd (let none : ⊥ = cc (is, eq-eqb k section same) in none)) ∙ there)))
        (low k d inside)

takes_at : (section : ℕ) (sections : List LooseSection) (held : LooseSection) → slice_get sections section ≡ Some held → takes_zeros_alone held ≡ false → Takes section sections
takes_at section sections held there filled = record {
  within = slice_get_within sections section held there;
  filled = subst (λ (found : Option LooseSection). IsSomeAnd found (λ held. takes_zeros_alone held ≡ false)) (sym there) filled;
}

module _ (extending : Extending) (finding : Finding) (frame : Frame) (frames : List Frame) (tables after : Tables) (low : All IsWithin tables.sections) where
  -- where it takes more than zeros, the section that is there
  found_by : (section : ℕ) (held : LooseSection) (zeros : Bool) → section_number (codes ".eh_frame") tables.sections ≡ Some section
      → slice_get tables.sections section ≡ Some held → takes_zeros_alone held ≡ zeros
      → (if zeros then Err BadSection else Ok (table_put section frame (frame ∷ frames) tables)) ≡ Ok after → IsPlaced frame frames tables after
  found_by section held true named there zeros is = absurd (let none : ⊥ = cc in none)
  found_by section held false named there zeros is =
      let takes : Takes section tables.sections = takes_at section tables.sections held there zeros in
      let made : after ≡ table_put section frame (frame ∷ frames) tables = cc in
      let within : section < length tables.sections = slice_get_within tables.sections section held there in
      let all : List LooseSection = (table_put section frame (frame ∷ frames) tables).sections in
      let found = parts (λ held. TableStands held section frame (frame ∷ frames) tables) IsWithin (slice_get all section)
      (table_found extending finding section frame (frame ∷ frames) tables held there
      (subst IsWithin (get_or_from_slice_get tables.sections section held held there) (low section held within))) in
      let extends : OneExtends section tables.sections all = table_extends extending section frame (frame ∷ frames) tables in
      record {
        section = section;
        first = tables;
        begins = inl (named, refl);
        takes = takes;
        put = made;
        stands = subst (λ (after : Tables). IsSomeAnd (slice_get after.sections section) (λ held. TableStands held section frame (frame ∷ frames) tables)) (sym made) found.0;
        within = subst (λ (after : Tables). All IsWithin after.sections) (sym made) (all_within section tables.sections all low extends found.1);
        grows = subst (λ (after : Tables). (number : ℕ) (held : LooseSection) → slice_get tables.sections number ≡ Some held
            → (now : LooseSection) × (slice_get after.sections number ≡ Some now) × Extends held now) (sym made) (extending.extensions.all section tables.sections all extends);
      }

  in_section : (section : ℕ) (found : Option LooseSection) → section_number (codes ".eh_frame") tables.sections ≡ Some section
      → slice_get tables.sections section ≡ found → placed_there section found frame (frame ∷ frames) tables ≡ Ok after → IsPlaced frame frames tables after
  in_section section None named there is = absurd (let none : ⊥ = cc in none)
  in_section section (Some held) named there is = found_by section held (takes_zeros_alone held) named there refl is

  by_number : (found : Option ℕ) → section_number (codes ".eh_frame") tables.sections ≡ found
      → placed_in found frame (frame ∷ frames) tables ≡ Ok after → IsPlaced frame frames tables after
  by_number (Some section) named is = in_section section (slice_get tables.sections section) named refl is
  by_number None named is =
      let first : Tables = tables_of tables.symbols (tables.sections ++ new_table ∷ []) in
      let made : after ≡ table_put (length tables.sections) frame (frame ∷ frames) first = cc in
      let section : ℕ = length tables.sections in
      let all : List LooseSection = (table_put section frame (frame ∷ frames) first).sections in
      let found = parts (λ held. TableStands held section frame (frame ∷ frames) first) IsWithin (slice_get all section)
      (table_found extending finding section frame (frame ∷ frames) first new_table (get_last tables.sections new_table) new_low) in
      let extends : OneExtends section first.sections all = table_extends extending section frame (frame ∷ frames) first in
      let low_first : All IsWithin first.sections =
      All-append IsWithin tables.sections (new_table ∷ []) low (All-cons IsWithin new_table [] new_low (All-nil IsWithin)) in
      record {
        section = section;
        first = first;
        begins = inr (named, refl, refl);
        takes = takes_at (length tables.sections) first.sections new_table (get_last tables.sections new_table) refl;
        put = made;
        stands = subst (λ (after : Tables). IsSomeAnd (slice_get after.sections section) (λ held. TableStands held section frame (frame ∷ frames) first)) (sym made) found.0;
        within = subst (λ (after : Tables). All IsWithin after.sections) (sym made) (all_within section first.sections all low_first extends found.1);
        grows = subst (λ (after : Tables). (number : ℕ) (held : LooseSection) → slice_get tables.sections number ≡ Some held
            → (now : LooseSection) × (slice_get after.sections number ≡ Some now) × Extends held now) (sym made)
            (λ number held there. extending.extensions.all section first.sections all extends number held (get_first tables.sections (new_table ∷ []) number held there));
      }

  pub is_placed : placed (frame ∷ frames) tables ≡ Ok after → IsPlaced frame frames tables after
  unfolding placed
  is_placed is = by_number (section_number (codes ".eh_frame") tables.sections) refl is
