-- Each piece of a table stands in the file, as the layout makes it.
use Rattle.std.proofs.Common.{◌≡◌, ℕ, suc, ◌+◌, ◌^◌, ◌<◌, ◌≤◌, ◌%◌, inl, inr, true, false, List, IfSome, Option, Some, length, refl, sym, ap, ◌∙◌, subst, arith}
use Rattle.std.specs.Prelude.{slice_get, unwrap_or}
use Rattle.std.proofs.lemmas.Option.{slice_get_within}
use Rattle.asm_base.specs.declared.positions.Pos.{Pos}
use Rattle.asm_expr.specs.Forms.{Form, wrapped}
use Rattle.asm_symbols.specs.SymbolMap.{SymbolMap}
use Rattle.asm_frags.specs.declared.fields.Field.{Field}
use Rattle.asm_frags.specs.declared.fields.FieldSize.{FieldSize}
use Rattle.asm_frags.specs.declared.fields.FieldSize.TheVariants.{Four, Eight}
use Rattle.asm_frags.specs.Fields.{width, low_bytes}
use Rattle.asm_frags.specs.PlainBytes.{field_end}
use Rattle.asm_frags.specs.Substituting.{substituted_field}
use Rattle.assigned_forms.specs.Linked.{linked}
use Rattle.item_contents.specs.declared.contents.Content.{Content}
use Rattle.item_contents.specs.declared.contents.Content.TheVariants.{Run, Align, Growing}
use Rattle.item_contents.specs.declared.kinds.Growth.{Growth}
use Rattle.item_contents.specs.declared.kinds.Growth.TheVariants as growth
use Rattle.item_contents.specs.Contents.{top_of, level_size, grown_bytes, MayHave, bytes_of}
use Rattle.item_contents.specs.ItemParts.{zeros_up_to}
use Rattle.asm_relax.specs.FieldValues.{field_address, held_value}
use Rattle.asm_relax.specs.ItemValues.{HasRoom}
use Rattle.asm_relax.specs.Settling.{LaidItem}
use Rattle.elf_file.specs.Places.{PieceAt}
use Rattle.elf_object.specs.Contents.{value_or_zero, item_bytes}
use Rattle.elf_object.specs.Places.{moved}
use Rattle.asm_base.specs.declared.places.SectionPlace.{SectionPlace}
use Rattle.table_pieces.specs.declared.ends.SectionEnd.{SectionEnd}
use Rattle.table_pieces.specs.declared.marks.Distance.{Distance}
use Rattle.table_pieces.specs.declared.marks.Mark.{Mark}
use Rattle.table_pieces.specs.declared.marks.Mark.TheVariants.{Here, At}
use Rattle.table_pieces.specs.Ends.{behind_plain, behind_item, behind_piece, end_place}
use Rattle.table_pieces.specs.Found.{PlainAt, ItemAt, GrownAt, RunAt, FieldBehind, NumberAt, field_behind, number_field, grown_field, item_at, PieceStands}
use Rattle.table_pieces.specs.Labels.{PlacesAreLabels}
use Rattle.table_pieces.specs.Made.{Made, piece_bytes, mark_address, IsSpan, IsMade}
use Rattle.table_pieces.specs.Marks.{with_label, with_marks, distance_form, address_form}
use Rattle.table_pieces.specs.Pieces as put
use Rattle.table_pieces.specs.Pieces.{Piece, plain, number, pointer, advance, leb128, padding, from_here, Tables, piece_put}
use Rattle.table_pieces.specs.StandingPlaces.{HoldsItems, MarkStands}
use Rattle.piece_laws.specs.HeldDistances.{NamesStay, laid_mark}
use Rattle.piece_laws.specs.LaidTables.{place_address, StandsTo}
use Rattle.piece_laws.specs.PiecesInFile.{IsNear, IsForward, Fits}
use Rattle.piece_laws.proofs.MarkSymbols.{has_distance, has_address}
use Rattle.piece_laws.proofs.Parts.{bytes_long, four_bytes}
use Rattle.piece_laws.proofs.SectionInFile as section_in_file
use Rattle.piece_laws.proofs.Lists.{all_there}
use Rattle.piece_laws.proofs.TableSections.{PieceFacts, TableSection, image, base, kept, at_end}
use Rattle.piece_laws.proofs.GrownRoom.{HoldsNumber, grown_room}

module _ (facts : PieceFacts) (t : TableSection) where
  -- what the layout makes of a piece behind an end, where it stands in the file, and how far the end moves
  pub record OneMade (piece : Piece) (end : SectionEnd) : Type 0 where
    pub made : Made
    pub is_made : IsMade (place_address t.laid) (at_end facts t end) piece made
    pub stands : PieceAt (image facts t) (base facts t + at_end facts t end) (piece_bytes piece made)
    pub reach : at_end facts t (behind_piece piece end) ≡ at_end facts t end + length (piece_bytes piece made)

  pub run_is : (pos : Pos) (end : SectionEnd) (count : ℕ) → RunAt t.held pos end count → moved (kept facts t).items count end.bytes ≡ at_end facts t end
  run_is = section_in_file.run_moves facts.file t.symbols t.sections t.laid t.number t.held t.is t.found t.takes t.low

  pub run_enough : (pos : Pos) (end : SectionEnd) (count : ℕ) → end.items ≤ length t.held.items → RunAt t.held pos end count → count ≤ length t.held.items
  run_enough pos end count enough (inl same) = omega (arith, enough, same)
  run_enough pos end count enough (inr (next, item)) =
      let some = slice_get_within t.held.items end.items (item_at pos end Run) item.there in omega (arith, some, next)

  field_stays : (size : FieldSize) (pos : Pos) (end : SectionEnd) (form : Form) → StandsTo t.held end → FieldBehind size t.held t.number pos end form
      → StandsTo t.held (behind_plain (width size) end)
  field_stays size pos end form stands at = record {
    items = run_enough pos end (behind_plain (width size) end).items stands.items at.run;
    bytes = all_there (λ (field : Field). field_end field ≤ length t.held.bytes) t.held.fields at.index (field_behind size t.number pos end form) at.field.there t.low.fields;
  }

  grown_stays : (kind : Growth) (pos : Pos) (end : SectionEnd) (form : Form) → StandsTo t.held end → GrownAt kind t.held t.number pos end form
      → StandsTo t.held (behind_item end)
  grown_stays kind pos end form stands at =
      record { items = (let some = slice_get_within t.held.items end.items _ at.item.there in omega (arith, some)); bytes = stands.bytes }

  -- it has those up to the end behind a piece
  pub piece_stays : (map : SymbolMap) (pos : Pos) (end : SectionEnd) (piece : Piece) → StandsTo t.held end → PieceStands t.held t.number pos map end piece
      → StandsTo t.held (behind_piece piece end)
  piece_stays map pos end (plain bytes) stands at = record { items = run_enough pos end (behind_plain (length bytes) end).items stands.items at.0; bytes = at.1.within }
  piece_stays map pos end (number distance) stands at = field_stays Four pos end (distance_form map distance) stands at
  piece_stays map pos end (pointer place) stands at = field_stays Four pos end (distance_form map (from_here place)) stands at
  piece_stays map pos end (put.address place) stands at = field_stays Eight pos end (address_form map place) stands at
  piece_stays map pos end (put.field size form) stands at = field_stays size pos end form stands at
  piece_stays map pos end (advance distance) stands at = grown_stays growth.Advance pos end (distance_form map distance) stands at
  piece_stays map pos end (leb128 distance) stands at = grown_stays (growth.Leb128 false) pos end (distance_form map distance) stands at
  piece_stays map pos end (padding log) stands at =
      record { items = (let some = slice_get_within t.held.items end.items _ at.there in omega (arith, some)); bytes = stands.bytes }

  -- the end behind plain bytes, or a field, is as many bytes on
  pub plain_reach : (pos : Pos) (end : SectionEnd) (count : ℕ) → RunAt t.held pos end (behind_plain count end).items
      → at_end facts t (behind_plain count end) ≡ at_end facts t end + count
  plain_reach pos end count run = let place = run_is pos end (behind_plain count end).items run in omega (arith, place)

  pub plain_made : (pos : Pos) (end : SectionEnd) (bytes : List ℕ) → RunAt t.held pos end (behind_plain (length bytes) end).items
      → PlainAt t.held (behind_plain (length bytes) end).items end.bytes bytes → OneMade (plain bytes) end
  plain_made pos end bytes run at =
      let place = run_is pos end (behind_plain (length bytes) end).items run in
      record {
        made = record { size = 0; value = 0 };
        is_made = tt;
        stands = subst (λ (n : ℕ). PieceAt (image facts t) (base facts t + n) bytes) place
            (section_in_file.plain_stands facts.file t.symbols t.sections t.laid t.number t.held t.is t.found t.takes t.low
            (behind_plain (length bytes) end).items end.bytes bytes at);
        reach = omega (arith, place);
      }

  -- where a field stands, and its bytes
  pub field_made : (size : FieldSize) (pos : Pos) (end : SectionEnd) (form : Form) (value : ℕ) (at : FieldBehind size t.held t.number pos end form)
      → unwrap_or (held_value t.symbols t.laid (substituted_field (linked t.symbols) (field_behind size t.number pos end form))) 0 ≡ value
      → PieceAt (image facts t) (base facts t + at_end facts t end) (low_bytes size value)
      × (at_end facts t (behind_plain (width size) end) ≡ at_end facts t end + length (low_bytes size value))
  field_made size pos end form value at is =
      let field = field_behind size t.number pos end form in
      let place = run_is pos end (behind_plain (width size) end).items at.run in
      let long = bytes_long size value in (
        subst (λ (n : ℕ). PieceAt (image facts t) (base facts t + n) (low_bytes size value)) place
            (subst (λ (v : ℕ). PieceAt (image facts t) (base facts t + moved (kept facts t).items (behind_plain (width size) end).items end.bytes) (low_bytes size v)) is
            (section_in_file.field_stands facts.file t.symbols t.sections t.laid t.number t.held t.is t.found t.takes t.low at.index field at.field)),
        omega (arith, place, long),
      )

  -- a field is told as the end that it stands behind
  own_is : (pos : Pos) (end : SectionEnd) (form : Form) → end.items ≤ length t.held.items → RunAt t.held pos end (behind_plain 4 end).items
      → wrapped (field_address t.laid (number_field t.number pos end form)) ≡ wrapped (at_end facts t end)
  own_is pos end form enough run =
      let count = (behind_plain 4 end).items in
      let own : SectionEnd = record { items = count; bytes = end.bytes; in_run = true } in
      let told = t.told (end_place t.number own) (record { held = t.held; there = t.found; enough = run_enough pos end count enough run }) in
      let address = section_in_file.end_address facts.file t.symbols t.sections t.laid t.number t.held t.is t.found t.takes t.low own in
      let place = run_is pos end count run in
      omega (arith, told, address, place)

  -- a mark of a field is told as its address
  mark_is : (field : Field) (here : ℕ) (mark : Mark) → wrapped (field_address t.laid field) ≡ wrapped here → MarkStands t.sections mark
      → wrapped (laid_mark t.laid field mark) ≡ wrapped (mark_address (place_address t.laid) here mark)
  mark_is field here Here own stands = own
  mark_is field here (At at) own stands = let told = t.told at stands in omega (arith, told)

  number_made : (map : SymbolMap) (pos : Pos) (end : SectionEnd) (distance : Distance) → end.items ≤ length t.held.items → PlacesAreLabels map
      → NamesStay (with_marks map distance) t.symbols → IsNear t.sections t.laid t.number distance → NumberAt t.held t.number pos end (distance_form map distance) → OneMade (number distance) end
  number_made map pos end distance enough known stays near at =
      let form = distance_form map distance in
      let field = number_field t.number pos end form in
      let own = own_is pos end form enough at.run in
      let has = has_distance facts.labels map t.symbols field distance known stays t.few refl near.plus in
      let got = facts.held t.symbols t.laid field distance has (record { one = near.one; plain = refl; bare = refl }) in
      let made = field_made Four pos end form got.0 at (ap (λ (v : Option ℕ). unwrap_or v 0) got.1) in
      let to = mark_is field (at_end facts t end) distance.to own near.to in
      let from = mark_is field (at_end facts t end) distance.from own near.from in
      let all = got.2.leads in
      record {
        made = record { size = 0; value = got.0 };
        is_made = record { within = got.2.within; spans = omega (arith, to, from, all) };
        stands = made.0;
        reach = made.1;
      }

  pointer_made : (map : SymbolMap) (pos : Pos) (end : SectionEnd) (place : SectionPlace) → NumberAt t.held t.number pos end (distance_form map (from_here place)) → OneMade (pointer place) end
  pointer_made map pos end place at =
      let form = distance_form map (from_here place) in
      let value = unwrap_or (held_value t.symbols t.laid (substituted_field (linked t.symbols) (number_field t.number pos end form))) 0 in
      let made = field_made Four pos end form value at refl in
      let low = bytes_long Four (value % 2 ^ 32) in
      let long = bytes_long Four value in
      let reach = made.1 in
      record {
        made = record { size = 0; value = value % 2 ^ 32 };
        is_made = omega arith;
        stands = subst (PieceAt (image facts t) (base facts t + at_end facts t end)) (sym (four_bytes value)) made.0;
        reach = omega (arith, reach, low, long);
      }

  address_made : (map : SymbolMap) (pos : Pos) (end : SectionEnd) (place : SectionPlace) → PlacesAreLabels map → NamesStay (with_label map place) t.symbols
      → FieldBehind Eight t.held t.number pos end (address_form map place) → OneMade (put.address place) end
  address_made map pos end place known stays at =
      let form = address_form map place in
      let field = field_behind Eight t.number pos end form in
      let left = facts.linked t.symbols t.laid field place (has_address facts.labels map t.symbols field place known stays t.few refl) refl in
      let made = field_made Eight pos end form 0 at (ap (λ (v : Option ℕ). unwrap_or v 0) left.1) in
      record {
        made = record { size = 0; value = 0 };
        is_made = refl;
        stands = made.0;
        reach = made.1;
      }

  form_made : (size : FieldSize) (pos : Pos) (end : SectionEnd) (form : Form) → FieldBehind size t.held t.number pos end form → OneMade (put.field size form) end
  form_made size pos end form at =
      let value = unwrap_or (held_value t.symbols t.laid (substituted_field (linked t.symbols) (field_behind size t.number pos end form))) 0 in
      let made = field_made size pos end form value at refl in
      record { made = record { size = 0; value = value }; is_made = tt; stands = made.0; reach = made.1 }

  -- where an item stands, and how far the end moves behind it
  item_made : (pos : Pos) (end : SectionEnd) (content : Content) (value : ℕ) (bytes : ℕ → List ℕ) → (at : ItemAt t.held end.items (item_at pos end content))
      → ((size : ℕ) → item_bytes t.symbols t.laid (kept facts t) content size ≡ bytes size) → ((size : ℕ) → bytes_of content size value ≡ bytes size)
      → (found : LaidItem) × (slice_get (kept facts t).items end.items ≡ Some found) × (found.content ≡ content) × MayHave content found.size
      × PieceAt (image facts t) (base facts t + at_end facts t end) (bytes found.size)
      × (at_end facts t (behind_item end) ≡ at_end facts t end + length (bytes found.size)) × (end.items + 1 ≤ length t.held.items)
  item_made pos end content value bytes at same known =
      let there = section_in_file.laid_there facts.file t.symbols t.sections t.laid t.number t.held t.is t.found t.takes t.low end.items (item_at pos end content) at in
      let next = there.next in
      let one : end.items + 1 ≡ suc end.items = omega arith in
      let moves : at_end facts t (behind_item end) ≡ moved (kept facts t).items (suc end.items) end.bytes =
      ap (λ (n : ℕ). moved (kept facts t).items n end.bytes) one in
      let long : length (bytes there.found.size) ≡ there.found.size =
      sym (ap length (known there.found.size)) ∙ facts.sized content there.found.size value there.may in
      let some = slice_get_within t.held.items end.items (item_at pos end content) at.there in (
        there.found,
        there.there,
        there.content,
        there.may,
        subst (PieceAt (image facts t) (base facts t + at_end facts t end)) (same there.found.size) there.stands,
        omega (arith, moves, next, long),
        omega (arith, some),
      )

  padding_made : (pos : Pos) (end : SectionEnd) (log : ℕ) → ItemAt t.held end.items (item_at pos end (Align (zeros_up_to log))) → OneMade (padding log) end
  padding_made pos end log at =
      let made = item_made pos end (Align (zeros_up_to log)) 0 (λ size. piece_bytes (padding log) (record { size = size; value = 0 })) at (λ size. refl) (λ size. refl) in
      record {
        made = record { size = made.0.size; value = 0 };
        is_made = tt;
        stands = made.4;
        reach = made.5;
      }

  -- a distance that leads forward is less than 2^32
  forward : (value at origin to from : ℕ) → value < 2 ^ 64 → wrapped (value + origin) ≡ wrapped (at + 0) → at ≡ wrapped to → origin ≡ wrapped from → from ≤ to → to < 2 ^ 32
      → value < 2 ^ 32
  forward value at origin to from within leads at_is origin_is rises low = omega (arith, within, leads, at_is, origin_is, rises, low)

  -- what the layout makes of an item that grows with a distance behind an end, where it stands in the file, and how far the end moves
  record OneGrown (kind : Growth) (distance : Distance) (end : SectionEnd) : Type 0 where
    made : Made
    span : IsSpan (place_address t.laid) (at_end facts t end) distance made.value
    small : made.value < 2 ^ 32
    level : ℕ
    within : level ≤ top_of kind
    size : made.size ≡ level_size kind level
    holds : HasRoom kind level made.value
    stands : PieceAt (image facts t) (base facts t + at_end facts t end) (grown_bytes kind made.size made.value)
    reach : at_end facts t (behind_item end) ≡ at_end facts t end + length (grown_bytes kind made.size made.value)

  module _ (kind : Growth) (role : HoldsNumber kind) (map : SymbolMap) (pos : Pos) (end : SectionEnd) where
    between_made : (to from : SectionPlace) → (let span : Distance = record { to = At to; from = At from; plus = 0 } in
        PlacesAreLabels map → NamesStay (with_marks map span) t.symbols → to.section ≡ from.section → HoldsItems t.sections to.section to.place.item
        → HoldsItems t.sections from.section from.place.item → place_address t.laid from ≤ place_address t.laid to → place_address t.laid to < 2 ^ 32
        → GrownAt kind t.held t.number pos end (distance_form map span) → OneGrown kind span end)
    between_made to from known stays one to_stands from_stands rises low at =
        let span : Distance = record { to = At to; from = At from; plus = 0 } in
        let form = distance_form map span in
        let field = grown_field kind t.number pos end form in
        let has = has_distance facts.labels map t.symbols field span known stays t.few refl (omega arith) in
        let got = facts.held t.symbols t.laid field span has (record { one = one; plain = role.plain; bare = role.bare }) in
        let value = got.0 in
        let content = Growing (record { kind = kind; field = at.index }) in
        let held_is : value_or_zero t.symbols t.laid (slice_get (kept facts t).fields at.index) ≡ value =
        ap (value_or_zero t.symbols t.laid)
        (section_in_file.field_there facts.file t.symbols t.sections t.laid t.number t.held t.is t.found t.takes t.low at.index field at.field)
        ∙ ap (λ (v : Option ℕ). unwrap_or v 0) got.1 in
        let made = item_made pos end content value (λ size. grown_bytes kind size value) at.item
        (λ size. ap (λ v. bytes_of content size v) held_is) (λ size. refl) in
        let room = grown_room facts t pos end kind form at.index made.0 role (facts.expanded t.symbols field span has) (facts.apart t.symbols field to from 0 has) made.6 made.1
        made.2 at.field in
        let to_told = t.told to to_stands in
        let from_told = t.told from from_stands in
        let all = got.2.leads in
        record {
          made = record { size = made.0.size; value = value };
          span = record { within = got.2.within; spans = omega (arith, all, to_told, from_told) };
          small = forward value _ _ (place_address t.laid to) (place_address t.laid from) got.2.within all to_told from_told rises low;
          level = room.level;
          within = room.within;
          size = room.sized;
          holds = subst (λ (v : Option ℕ). IfSome v (HasRoom kind room.level)) got.1 room.room;
          stands = made.4;
          reach = made.5;
        }

    grown_made : (distance : Distance) → PlacesAreLabels map → NamesStay (with_marks map distance) t.symbols → IsForward t.sections t.laid t.number distance
        → GrownAt kind t.held t.number pos end (distance_form map distance) → OneGrown kind distance end
    grown_made distance known stays near at =
        let same = near.is_it in
        subst (λ (d : Distance). OneGrown kind d end) (sym same)
        (between_made near.to near.from known (subst (λ (d : Distance). NamesStay (with_marks map d) t.symbols) same stays) near.section near.to_stands near.from_stands
        near.rises near.low (subst (λ (d : Distance). GrownAt kind t.held t.number pos end (distance_form map d)) same at))

  advance_made : (map : SymbolMap) (pos : Pos) (end : SectionEnd) (distance : Distance) → PlacesAreLabels map → NamesStay (with_marks map distance) t.symbols
      → IsForward t.sections t.laid t.number distance → GrownAt growth.Advance t.held t.number pos end (distance_form map distance) → OneMade (advance distance) end
  advance_made map pos end distance known stays near at =
      let grown = grown_made growth.Advance (record { plain = refl; bare = refl; behind = refl }) map pos end distance known stays near at in
      record {
        made = grown.made;
        is_made = record { span = grown.span; level = grown.level; within = grown.within; size = grown.size; holds = grown.holds grown.small };
        stands = grown.stands;
        reach = grown.reach;
      }

  leb128_made : (map : SymbolMap) (pos : Pos) (end : SectionEnd) (distance : Distance) → PlacesAreLabels map → NamesStay (with_marks map distance) t.symbols
      → IsForward t.sections t.laid t.number distance → GrownAt (growth.Leb128 false) t.held t.number pos end (distance_form map distance) → OneMade (leb128 distance) end
  leb128_made map pos end distance known stays near at =
      let grown = grown_made (growth.Leb128 false) (record { plain = refl; bare = refl; behind = refl }) map pos end distance known stays near at in
      record {
        made = grown.made;
        is_made = record { span = grown.span; level = grown.level; within = grown.within; size = grown.size; holds = grown.holds };
        stands = grown.stands;
        reach = grown.reach;
      }

  -- a piece that is put into the map and the section of a table is made by the layout
  pub piece_made : (tables : Tables) (pos : Pos) (end : SectionEnd) (piece : Piece) → end.items ≤ length t.held.items → PlacesAreLabels tables.symbols
      → NamesStay (piece_put t.number pos piece tables).symbols t.symbols → Fits t.sections t.laid t.number piece → PieceStands t.held t.number pos tables.symbols end piece → OneMade piece end
  piece_made tables pos end (plain bytes) enough known stays fits at = plain_made pos end bytes at.0 at.1
  piece_made tables pos end (number distance) enough known stays fits at = number_made tables.symbols pos end distance enough known stays fits at
  piece_made tables pos end (pointer place) enough known stays fits at = pointer_made tables.symbols pos end place at
  piece_made tables pos end (put.address place) enough known stays fits at = address_made tables.symbols pos end place known stays at
  piece_made tables pos end (put.field size form) enough known stays fits at = form_made size pos end form at
  piece_made tables pos end (advance distance) enough known stays fits at = advance_made tables.symbols pos end distance known stays fits at
  piece_made tables pos end (leb128 distance) enough known stays fits at = leb128_made tables.symbols pos end distance known stays fits at
  piece_made tables pos end (padding log) enough known stays fits at = padding_made pos end log at
