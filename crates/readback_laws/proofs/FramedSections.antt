-- What was placed stands in the sections with the tables where it stood before.
use Rattle.std.proofs.Common.{◌≡◌, ℕ, ◌+◌, ◌-◌, ◌≤◌, inr, Bool, List, [], ◌∷◌, ◌++◌, All, Option, Some, Ok, length, take, drop, refl, sym, ap, ◌∙◌, subst, arith, append_assoc, append-nil, length-append, length-drop}
use Rattle.std.specs.Prelude.{map, slice_get, slice_range}
use Rattle.std.proofs.lemmas.List.{take-append-le, drop-append-le}
use Rattle.std.proofs.lemmas.List.Elements.{All-nil, All-append, All-weaker}
use Rattle.std.proofs.lemmas.Option.{slice_get_within}
use Rattle.asm_base.specs.declared.positions.Pos.{Pos}
use Rattle.asm_frags.specs.declared.fields.Field.{Field}
use Rattle.asm_frags.specs.declared.flags.SectionFlags.{SectionFlags}
use Rattle.asm_frags.specs.declared.groups.Group.{Group}
use Rattle.asm_frags.specs.PlainBytes.{IsBeside}
use Rattle.asm_frags.specs.Writing.{LooseItem, LooseSection}
use Rattle.cfi_directives.specs.declared.frames.Frame.{Frame}
use Rattle.cfi_directives.specs.Procedures.{frames_of}
use Rattle.table_pieces.specs.Pieces.{Tables, tables_of}
use Rattle.eh_frame.specs.Placing.{placed}
use Rattle.table_pieces.specs.Standing.{AllExtend, Extends}
use Rattle.eh_frame.specs.FoundTables.{IsPlaced}
use Rattle.eh_frame.specs.StandingFrames.{LabelsStand}
use Rattle.line_table.specs.Additions.{OthersStay}
use Rattle.line_table.specs.Placing as line_table
use Rattle.line_table.specs.StandingLines as line_labels
use Rattle.item_bytes.specs.declared.jumps.Condition.{Condition}
use Rattle.asm_lines.specs.NextStatements.{TokenStatement}
use Rattle.asm_values.specs.State.{Placed, nothing_placed}
use Rattle.asm_place.specs.Sources.{place_all}
use Rattle.section_laws.specs.Within.{AreWithin}
use Rattle.asm_place.specs.Instructions.{with_more, IsContinued, Grows, StandsAt}
use Rattle.asm_place.specs.CodePlaces.{FieldInCode, blanked, field_in, CodeStandsAt}
use Rattle.asm_place.specs.JumpPlaces.{JumpStandsAt}
use Rattle.readback_laws.specs.Origins.{framed_of}
use Rattle.readback_laws.proofs.Lists.{get_append}
use Rattle.readback_laws.proofs.StandingRows.{RowsStand}

-- what is known of frame tables and line tables: all that was in the sections stays, and the places of their labels stand, where those of rows do
pub record TableFacts : Type 0 where
  pub put : (frame : Frame) (frames : List Frame) (tables after : Tables) → AreWithin tables.sections → placed (frame ∷ frames) tables ≡ Ok after
      → IsPlaced frame frames tables after
  pub labels : LabelsStand
  pub others : OthersStay
  pub line_labels : line_labels.LabelsStand
  pub rows : (statements : List TokenStatement) (no_warn : Bool) (whole : Placed) → place_all statements (nothing_placed no_warn) ≡ Ok whole
      → RowsStand whole.sections whole.lines

-- what was placed comes to these tables: its frame table, and its line table behind that
pub record ComesTo (whole : Placed) (tables : Tables) : Type 0 where
  pub framed : Tables
  pub frames : framed_of whole ≡ Ok framed
  pub lines : line_table.placed whole.lines framed ≡ Ok tables

-- the sections with the tables continue those that were placed, and what is in them stands within their bytes
pub record IsFramed (before after : List LooseSection) : Type 0 where
  pub grows : Grows before after
  pub within : AreWithin after

-- THE SECTIONS

-- a section that is extended is continued
extended : (held now : LooseSection) (bytes : List ℕ) (fields : List Field) (items : List LooseItem) → now.name ≡ held.name → now.flags ≡ held.flags → now.kind ≡ held.kind
    → now.entry_size ≡ held.entry_size → now.group ≡ held.group → now.bytes ≡ held.bytes ++ bytes → now.fields ≡ held.fields ++ fields → now.items ≡ held.items ++ items
    → now ≡ with_more held bytes fields items
extended held now bytes fields items name flags kind entry_size group all_bytes all_fields all_items =
    ap (λ (x : List ℕ). record now { name = x }) name
    ∙ ap (λ (x : SectionFlags). record now { name = held.name; flags = x }) flags
    ∙ ap (λ (x : ℕ). record now { name = held.name; flags = held.flags; kind = x }) kind
    ∙ ap (λ (x : ℕ). record now { name = held.name; flags = held.flags; kind = held.kind; entry_size = x }) entry_size
    ∙ ap (λ (x : Option Group). record now { name = held.name; flags = held.flags; kind = held.kind; entry_size = held.entry_size; group = x }) group
    ∙ ap (λ (x : List ℕ). record held { bytes = x; fields = now.fields; items = now.items }) all_bytes
    ∙ ap (λ (x : List Field). record held { bytes = held.bytes ++ bytes; fields = x; items = now.items }) all_fields
    ∙ ap (λ (x : List LooseItem). record held { bytes = held.bytes ++ bytes; fields = held.fields ++ fields; items = x }) all_items

continued : (held : LooseSection) (later : Option LooseSection) (now : LooseSection) → later ≡ Some now → Extends held now → IsContinued held later
continued held later now is more = record {
  bytes = more.bytes;
  fields = more.fields;
  items = more.items;
  there = is ∙ ap Some (extended held now more.bytes more.fields more.items more.name more.flags more.kind more.entry_size more.group more.all_bytes more.all_fields more.all_items);
  fields_behind = more.fields_behind;
  items_behind = more.items_behind;
}

continued_not : (section : LooseSection) → IsContinued section (Some section)
continued_not section = record {
  bytes = [];
  fields = [];
  items = [];
  there = ap Some (extended section section [] [] [] refl refl refl refl refl (sym (append-nil section.bytes)) (sym (append-nil section.fields)) (sym (append-nil section.items)));
  fields_behind = All-nil _;
  items_behind = All-nil _;
}

not_grown : (before after : List LooseSection) → before ≡ after → Grows before after
not_grown before after same =
    subst (λ (sections : List LooseSection). Grows before sections) same
    (record {
      kept = λ number section there. subst (IsContinued section) (sym there) (continued_not section);
    })

-- all sections that are extended are continued
pub all_continued : (before after : List LooseSection) → AllExtend before after → Grows before after
all_continued before after extend = record {
  kept = λ number section there.
      let now = extend number section there in
      continued section (slice_get after number) now.0 now.1 now.2;
}

-- a section that is continued twice is continued
continued_on : (section : LooseSection) (found last : Option LooseSection) → IsContinued section found → ((s : LooseSection) → found ≡ Some s → IsContinued s last)
    → IsContinued section last
continued_on section found last one later =
    let between = with_more section one.bytes one.fields one.items in
    let two = later between one.there in
    let longer = length-append section.bytes one.bytes in
    record {
      bytes = one.bytes ++ two.bytes;
      fields = one.fields ++ two.fields;
      items = one.items ++ two.items;
      there = two.there ∙ ap Some (extended section (with_more between two.bytes two.fields two.items) (one.bytes ++ two.bytes) (one.fields ++ two.fields)
          (one.items ++ two.items) refl refl refl refl refl (append_assoc section.bytes one.bytes two.bytes)
          (append_assoc section.fields one.fields two.fields) (append_assoc section.items one.items two.items));
      fields_behind = All-append (λ (field : Field). length section.bytes ≤ field.offset) one.fields two.fields one.fields_behind
          (All-weaker (λ (field : Field). length (section.bytes ++ one.bytes) ≤ field.offset) (λ (field : Field). length section.bytes ≤ field.offset)
          (λ field behind. omega (arith, longer, behind)) two.fields two.fields_behind);
      items_behind = All-append (λ (item : LooseItem). length section.bytes ≤ item.offset) one.items two.items one.items_behind
          (All-weaker (λ (item : LooseItem). length (section.bytes ++ one.bytes) ≤ item.offset) (λ (item : LooseItem). length section.bytes ≤ item.offset)
          (λ item behind. omega (arith, longer, behind)) two.items two.items_behind);
    }

-- so what grows twice grows
grown_on : (before between after : List LooseSection) → Grows before between → Grows between after → Grows before after
grown_on before between after first later = record {
  kept = λ number section there. continued_on section _ _ (first.kept number section there) (λ s is. later.kept number s is);
}

-- the sections with the frame table
pub framed_by : TableFacts → (frames : List Frame) (tables after : Tables) → AreWithin tables.sections → placed frames tables ≡ Ok after → IsFramed tables.sections after.sections
unfolding placed
framed_by facts [] tables after within is =
    let same : tables ≡ after = cc in
    record {
      grows = not_grown tables.sections after.sections (ap (λ (t : Tables). t.sections) same);
      within = subst (λ (t : Tables). AreWithin t.sections) same within;
    }
framed_by facts (frame ∷ frames) tables after within is =
    let put = facts.put frame frames tables after within is in
    record { grows = all_continued tables.sections after.sections put.grows; within = put.within }

-- the sections with the tables of what was placed
pub is_framed : TableFacts → (whole : Placed) (tables : Tables) → AreWithin whole.sections → ComesTo whole tables → IsFramed whole.sections tables.sections
is_framed facts whole tables within is =
    let framed = is.framed in
    let first = framed_by facts (frames_of whole.procedures) (tables_of whole.table.symbols whole.sections) framed within is.frames in
    let stays = facts.others.stays whole.lines framed tables is.lines in
    record {
      grows = grown_on whole.sections framed.sections tables.sections first.grows (all_continued framed.sections tables.sections stays.grows);
      within = facts.others.within whole.lines framed tables is.lines first.within;
    }

-- WHAT STANDS IN A SECTION

range_more : (xs ys : List ℕ) (from to : ℕ) → from ≤ to → to ≤ length xs → slice_range (xs ++ ys) from to ≡ slice_range xs from to
range_more xs ys from to up within =
    let inside : from ≤ length xs = omega (arith, up, within) in
    let long : to - from ≤ length (drop from xs) = omega (arith, within, length-drop from xs) in
    ap (λ (zs : List ℕ). take (to - from) zs) (drop-append-le from xs ys inside) ∙ take-append-le (to - from) (drop from xs) ys long

-- the first items stay
first_more : (P : LooseItem → Type 0) (count : ℕ) (xs ys : List LooseItem) → count ≤ length xs → All P (take count xs) → All P (take count (xs ++ ys))
first_more P count xs ys few all = subst (All P) (sym (take-append-le count xs ys few)) all

-- and more are behind the others
others_more : (P : LooseItem → Type 0) (count : ℕ) (xs ys : List LooseItem) → count ≤ length xs → All P (drop count xs) → All P ys → All P (drop count (xs ++ ys))
others_more P count xs ys few all more = subst (All P) (sym (drop-append-le count xs ys few)) (All-append P (drop count xs) ys all more)

-- plain bytes stand where they stood
pub bytes_stay : (before after : List LooseSection) (n item offset : ℕ) (bytes : List ℕ) → Grows before after → StandsAt before n item offset bytes
    → StandsAt after n item offset bytes
bytes_stay before after n item offset bytes grows stands =
    let few = stands.enough in
    let section = stands.section in
    let more = grows.kept n section stands.found in
    let within = stands.within in
    record {
      section = with_more section more.bytes more.fields more.items;
      found = more.there;
      takes_bytes = stands.takes_bytes;
      enough = omega (arith, few, length-append section.items more.items);
      within = omega (arith, within, length-append section.bytes more.bytes);
      there = range_more section.bytes more.bytes offset (offset + length bytes) (omega arith) within ∙ stands.there;
      free = All-append (IsBeside offset (offset + length bytes)) section.fields more.fields stands.free
          (All-weaker (λ (field : Field). length section.bytes ≤ field.offset) (IsBeside offset (offset + length bytes))
          (λ field behind. inr (omega (arith, within, behind))) more.fields more.fields_behind);
      before = first_more (λ i. i.offset ≤ offset) item section.items more.items few stands.before;
      behind = others_more (λ i. offset + length bytes ≤ i.offset) item section.items more.items few stands.behind
          (All-weaker (λ (i : LooseItem). length section.bytes ≤ i.offset) (λ (i : LooseItem). offset + length bytes ≤ i.offset)
          (λ i behind. omega (arith, within, behind)) more.items more.items_behind);
    }

-- so do those of an instruction with its fields
pub code_stays : (before after : List LooseSection) (n item offset : ℕ) (pos : Pos) (bytes : List ℕ) (fields : List FieldInCode) → Grows before after
    → CodeStandsAt before n item offset pos bytes fields → CodeStandsAt after n item offset pos bytes fields
code_stays before after n item offset pos bytes fields grows stands =
    let few = stands.enough in
    let within = stands.within in
    let section = stands.section in
    let more = grows.kept n section stands.found in
    let at = stands.bytes_there in
    let among = stands.fields_there in
    record {
      apart = stands.apart;
      within = omega (arith, within, length-append section.bytes more.bytes);
      enough = omega (arith, few, length-append section.items more.items);
      section = with_more section more.bytes more.fields more.items;
      found = more.there;
      bytes_there = record {
        front = at.front;
        rest = at.rest ++ more.bytes;
        long = at.long;
        there = ap (λ (xs : List ℕ). xs ++ more.bytes) at.there ∙ append_assoc at.front (blanked bytes fields ++ at.rest) more.bytes
            ∙ ap (λ (xs : List ℕ). at.front ++ xs) (append_assoc (blanked bytes fields) at.rest more.bytes);
      };
      fields_there = record {
        earlier = among.earlier;
        others = among.others ++ more.fields;
        there = ap (λ (xs : List Field). xs ++ more.fields) among.there ∙ append_assoc among.earlier (map (field_in pos n item offset) fields ++ among.others) more.fields
            ∙ ap (λ (xs : List Field). among.earlier ++ xs) (append_assoc (map (field_in pos n item offset) fields) among.others more.fields);
        before = among.before;
        behind = All-append (λ (field : Field). offset + length bytes ≤ field.offset) among.others more.fields among.behind
            (All-weaker (λ (field : Field). length section.bytes ≤ field.offset) (λ (field : Field). offset + length bytes ≤ field.offset)
            (λ field behind. omega (arith, within, behind)) more.fields more.fields_behind);
      };
      items_before = first_more (λ i. i.offset ≤ offset) item section.items more.items few stands.items_before;
      items_behind = others_more (λ i. offset + length bytes ≤ i.offset) item section.items more.items few stands.items_behind
          (All-weaker (λ (i : LooseItem). length section.bytes ≤ i.offset) (λ (i : LooseItem). offset + length bytes ≤ i.offset)
          (λ i behind. omega (arith, within, behind)) more.items more.items_behind);
    }

-- and the item of a jump
pub jump_stays : (before after : List LooseSection) (n item offset : ℕ) (pos : Pos) (condition : Option Condition) (field : Field) → Grows before after
    → JumpStandsAt before n item offset pos condition field → JumpStandsAt after n item offset pos condition field
jump_stays before after n item offset pos condition field grows stands =
    let section = stands.section in
    let more = grows.kept n section stands.found in
    let some = slice_get_within section.items item _ stands.item_there in
    let within = stands.within in
    record {
      section = with_more section more.bytes more.fields more.items;
      found = more.there;
      index = stands.index;
      field_there = get_append section.fields more.fields stands.index field stands.field_there;
      item_there = get_append section.items more.items item _ stands.item_there;
      within = omega (arith, within, length-append section.bytes more.bytes);
      before = first_more (λ i. i.offset ≤ offset) item section.items more.items (omega (arith, some)) stands.before;
    }
