-- Each piece is found in the end where it was put.
use Rattle.std.proofs.Common.{◌≡◌, ℕ, ◌+◌, ◌-◌, ◌≤◌, Bool, true, false, List, [], ◌∷◌, ◌++◌, length, take, drop, replicate, if◌then◌else◌, Option, None, Some, inl, inr, refl, sym, ap, subst, ◌∙◌, arith, length-append}
use Rattle.std.specs.Prelude.{All, IsSomeAnd, slice_range}
use Rattle.std.specs.List.{slice_get}
use Rattle.std.proofs.Math.Seq.{take-append_seam, drop-append_seam}
use Rattle.std.proofs.lemmas.List.{append_assoc, length-replicate}
use Rattle.std.proofs.lemmas.List.Elements.{All-nil, All-cons, All-append}
use Rattle.asm_base.specs.declared.positions.Pos.{Pos}
use Rattle.asm_expr.specs.Forms.{Form}
use Rattle.asm_frags.specs.declared.fields.Field.{Field}
use Rattle.asm_frags.specs.declared.fields.FieldSize.{FieldSize}
use Rattle.asm_frags.specs.declared.fields.FieldSize.TheVariants.{Four, Eight}
use Rattle.asm_frags.specs.Addresses.{changed_there, changed_at}
use Rattle.asm_frags.specs.Fields.{width, data_role}
use Rattle.asm_frags.specs.PlainBytes.{field_end, IsBeside}
use Rattle.asm_frags.specs.Writing.{LooseItem, LooseSection, ends_in_run, new_item, item_behind, with_item, with_bytes, with_field, with_growing}
use Rattle.asm_symbols.specs.SymbolMap.{SymbolMap}
use Rattle.item_contents.specs.declared.contents.Content.TheVariants.{Run, Align, Growing}
use Rattle.item_contents.specs.declared.kinds.Growth.{Growth}
use Rattle.item_contents.specs.declared.kinds.Growth.TheVariants as growth
use Rattle.item_contents.specs.ItemParts.{zeros_up_to}
use Rattle.table_pieces.specs.declared.ends.SectionEnd.{SectionEnd}
use Rattle.table_pieces.specs.Marks.{distance_form, address_form}
use Rattle.table_pieces.specs.Pieces as piece
use Rattle.table_pieces.specs.Pieces.{Piece, from_here, Tables, piece_put, pieces_put}
use Rattle.table_pieces.specs.Ends.{behind_plain, behind_item, behind_piece, behind_pieces}
use Rattle.table_pieces.specs.Standing.{Extends, OneExtends, HasEnd}
use Rattle.section_laws.specs.Within.{AreBetween, IsWithin, PutsStayWithin}
use Rattle.table_pieces.specs.Found.{IsReadyAt, IsReady, PlainAt, FieldAt, ItemAt, GrownAt, RunAt, FieldBehind, field_behind, grown_field, item_at, PieceStands, PiecesStand}
use Rattle.table_pieces.proofs.ExtendLemmas.{set_there, one_on, pieces_extend}
use Rattle.table_pieces.proofs.EndLemmas.{run_if, run_reaches, item_reaches}

get_seam : {X : Type 0} (xs : List X) (x : X) (ys : List X) → slice_get ((xs ++ x ∷ []) ++ ys) (length xs) ≡ Some x
get_seam [] x ys = refl
get_seam (y ∷ xs) x ys = get_seam xs x ys

-- WHAT IS FOUND OF ONE PIECE

-- the items that were there stand before what was put, and those behind it stand behind
items_between : (now last : LooseSection) (count from to : ℕ) → Extends now last → length now.items ≡ count → All (λ item. item.offset ≤ from) now.items
    → to ≤ length now.bytes → AreBetween last.items count from to
items_between now last count from to extends counted low far =
    let split : last.items ≡ now.items ++ extends.items = extends.all_items in
    let before : take count last.items ≡ now.items = ap (λ items. take count items) split ∙ ap (λ n. take n (now.items ++ extends.items)) (sym counted) ∙ take-append_seam now.items extends.items in
    let behind : drop count last.items ≡ extends.items = ap (λ items. drop count items) split ∙ ap (λ n. drop n (now.items ++ extends.items)) (sym counted) ∙ drop-append_seam now.items extends.items in
    record {
      enough = omega (arith, counted, ap length split, length-append now.items extends.items);
      before = subst (All (λ (item : LooseItem). item.offset ≤ from)) (sym before) low;
      after = subst (All (λ (item : LooseItem). to ≤ item.offset)) (sym behind) (λ k d within. let past = extends.items_behind k d within in omega (arith, far, past));
    }

bytes_there : (before bytes after : List ℕ) → slice_range ((before ++ bytes) ++ after) (length before) (length before + length bytes) ≡ bytes
bytes_there before bytes after =
    let count : length before + length bytes - length before ≡ length bytes = omega arith in
    ap (λ n. take n (drop (length before) ((before ++ bytes) ++ after))) count
    ∙ ap (λ all. take (length bytes) (drop (length before) all)) (append_assoc before bytes after)
    ∙ ap (λ rest. take (length bytes) rest) (drop-append_seam before (bytes ++ after))
    ∙ take-append_seam bytes after

plain_found : (held now last : LooseSection) (bytes : List ℕ) (count from : ℕ) → IsWithin held → now.bytes ≡ held.bytes ++ bytes → now.fields ≡ held.fields
    → All (λ item. item.offset ≤ length held.bytes) now.items → length now.items ≡ count → length held.bytes ≡ from → Extends now last → PlainAt last count from bytes
plain_found held now last bytes count from low more same items counted at extends =
    let all : last.bytes ≡ (held.bytes ++ bytes) ++ extends.bytes = extends.all_bytes ∙ ap (λ bytes. bytes ++ extends.bytes) more in
    let long : length now.bytes ≡ from + length bytes = ap length more ∙ length-append held.bytes bytes ∙ ap (λ n. n + length bytes) at in
    let total : length last.bytes ≡ length now.bytes + length extends.bytes = ap length extends.all_bytes ∙ length-append now.bytes extends.bytes in
    record {
      there = ap (λ n. slice_range last.bytes n (n + length bytes)) (sym at)
          ∙ ap (λ all. slice_range all (length held.bytes) (length held.bytes + length bytes)) all ∙ bytes_there held.bytes bytes extends.bytes;
      within = omega (arith, long, total);
      apart = subst (All (IsBeside from (from + length bytes))) (sym (extends.all_fields ∙ ap (λ fields. fields ++ extends.fields) same))
          (All-append (IsBeside from (from + length bytes)) held.fields extends.fields
          (λ k d within. inl (let before = low.fields k d within in omega (arith, before, at)))
          (λ k d within. inr (let past = extends.fields_behind k d within in omega (arith, past, long))));
      between = items_between now last count from (from + length bytes) extends counted
          (λ k d within. let before = items k d within in omega (arith, before, at)) (omega (arith, long));
    }

field_found : (held now last : LooseSection) (field : Field) → now.fields ≡ held.fields ++ field ∷ [] → All (λ item. item.offset ≤ field.offset) now.items
    → length now.items ≡ field.item → field_end field ≤ length now.bytes → Extends now last → FieldAt last (length held.fields) field
field_found held now last field more items counted far extends = record {
  there = ap (λ fields. slice_get fields (length held.fields)) (extends.all_fields ∙ ap (λ fields. fields ++ extends.fields) more)
      ∙ get_seam held.fields field extends.fields;
  between = items_between now last field.item field.offset (field_end field) extends counted items far;
}

item_found : (held now last : LooseSection) (item : LooseItem) (index : ℕ) → IsWithin held → now.items ≡ held.items ++ item ∷ [] → item.offset ≡ length held.bytes
    → length held.items ≡ index → length held.bytes ≤ length now.bytes → Extends now last → ItemAt last index item
item_found held now last item index low more at counted longer extends =
    let all : last.items ≡ (held.items ++ item ∷ []) ++ extends.items = extends.all_items ∙ ap (λ items. items ++ extends.items) more in
    let total : length last.bytes ≡ length now.bytes + length extends.bytes = ap length extends.all_bytes ∙ length-append now.bytes extends.bytes in
    let before : take index last.items ≡ held.items =
    ap (λ items. take index items) (all ∙ append_assoc held.items (item ∷ []) extends.items) ∙ ap (λ n. take n (held.items ++ (item ∷ extends.items))) (sym counted)
    ∙ take-append_seam held.items (item ∷ extends.items) in
    record {
      there = ap (λ n. slice_get last.items n) (sym counted) ∙ ap (λ items. slice_get items (length held.items)) all ∙ get_seam held.items item extends.items;
      within = omega (arith, at, longer, total);
      first = subst (All (λ (other : LooseItem). other.offset ≤ item.offset)) (sym before) (λ k d within. let low = low.items k d within in omega (arith, low, at));
    }

-- the run of plain bytes that are put
run_found : (in_run : Bool) (pos : Pos) (end : SectionEnd) (held now last : LooseSection) → IsWithin held → HasEnd end held → now.items ≡ (run_if in_run pos held).items
    → length held.bytes ≤ length now.bytes → Extends now last → RunAt last pos end (if in_run then end.items else end.items + 1)
run_found true pos end held now last low has items longer extends = inl refl
run_found false pos end held now last low has items longer extends =
    inr (
      refl,
      subst (λ (bytes : ℕ). ItemAt last end.items (item_at pos (record { items = end.items; bytes = bytes; in_run = end.in_run }) Run)) has.bytes
          (item_found held now last (item_behind (length held.bytes) (new_item pos Run)) end.items low items refl has.items longer extends),
    )

-- the same where the section's last item tells whether a run is new
run_at : (pos : Pos) (end : SectionEnd) (held now last : LooseSection) → IsReadyAt end held → now.items ≡ (run_if (ends_in_run held.items) pos held).items
    → length held.bytes ≤ length now.bytes → Extends now last → RunAt last pos end (if end.in_run then end.items else end.items + 1)
run_at pos end held now last ready items longer extends =
    run_found end.in_run pos end held now last ready.low ready.reaches (items ∙ ap (λ (in_run : Bool). (run_if in_run pos held).items) ready.reaches.in_run) longer extends

-- WHAT ONE PIECE MAKES OF ITS SECTION

run_low : (in_run : Bool) (pos : Pos) (held : LooseSection) → All (λ item. item.offset ≤ length held.bytes) held.items
    → All (λ item. item.offset ≤ length held.bytes) (run_if in_run pos held).items
run_low true pos held low = low
run_low false pos held low =
    All-append (λ (item : LooseItem). item.offset ≤ length held.bytes) held.items (item_behind (length held.bytes) (new_item pos Run) ∷ []) low
    (All-cons (λ (item : LooseItem). item.offset ≤ length held.bytes) (item_behind (length held.bytes) (new_item pos Run)) []
    (let same : length held.bytes ≤ length held.bytes = omega arith in same) (All-nil (λ (item : LooseItem). item.offset ≤ length held.bytes)))

run_fields : (in_run : Bool) (pos : Pos) (held : LooseSection) → (run_if in_run pos held).fields ≡ held.fields
run_fields true pos held = refl
run_fields false pos held = refl

-- a change of a section keeps it ready, and what it puts is found in the end
record Puts (map : SymbolMap) (section : ℕ) (pos : Pos) (put : Piece) (end : SectionEnd) (now : LooseSection) : Type 0 where
  ready : IsReadyAt (behind_piece put end) now
  found : (last : LooseSection) → Extends now last → PieceStands last section pos map end put

plain_puts : PutsStayWithin → (map : SymbolMap) (section : ℕ) (pos : Pos) (bytes : List ℕ) (end : SectionEnd) (held : LooseSection) → IsReadyAt end held
    → Puts map section pos (piece.plain bytes) end (with_bytes pos bytes held)
plain_puts law map section pos bytes end held ready =
    let now : LooseSection = with_bytes pos bytes held in
    let reached : HasEnd (behind_plain (length bytes) end) now = run_reaches pos held now bytes (length bytes) end ready.reaches refl refl refl in
    let items : All (λ item. item.offset ≤ length held.bytes) now.items = run_low (ends_in_run held.items) pos held ready.low.items in
    record {
      ready = record {
        reaches = reached;
        low = law.bytes pos bytes held ready.low;
      };
      found = λ last extends. (
        run_at pos end held now last ready refl (let long = length-append held.bytes bytes in omega (arith, long)) extends,
        plain_found held now last bytes (behind_plain (length bytes) end).items end.bytes ready.low refl
            (run_fields (ends_in_run held.items) pos held) items reached.items ready.reaches.bytes extends,
      );
    }

field_puts : PutsStayWithin → (section : ℕ) (pos : Pos) (size : FieldSize) (form : Form) (end : SectionEnd) (held : LooseSection) → IsReadyAt end held
    → IsReadyAt (behind_plain (width size) end) (with_field pos section size data_role form held)
    × ((last : LooseSection) → Extends (with_field pos section size data_role form held) last → FieldBehind size last section pos end form)
field_puts law section pos size form end held ready =
    let now : LooseSection = with_field pos section size data_role form held in
    let reached : HasEnd (behind_plain (width size) end) now =
    run_reaches pos held now (replicate (width size) 0) (width size) end ready.reaches (length-replicate (width size) 0) refl refl in
    let items : All (λ item. item.offset ≤ length held.bytes) now.items = run_low (ends_in_run held.items) pos held ready.low.items in
    let long : length now.bytes ≡ length held.bytes + width size =
    length-append held.bytes (replicate (width size) 0) ∙ ap (λ (n : ℕ). length held.bytes + n) (length-replicate (width size) 0) in
    let made : Field = record {
      pos = pos;
      item = length now.items;
      offset = length held.bytes;
      section = section;
      size = size;
      role = data_role;
      in_item = false;
      form = form;
    } in
    let same : made ≡ field_behind size section pos end form =
    ap (λ (item : ℕ). record { pos = pos; item = item; offset = length held.bytes; section = section; size = size; role = data_role; in_item = false; form = form }) reached.items
    ∙ ap (λ (offset : ℕ). record { pos = pos; item = (behind_plain (width size) end).items; offset = offset; section = section; size = size; role = data_role; in_item = false; form = form }) ready.reaches.bytes in (
      record {
        reaches = reached;
        low = law.field pos section size data_role form held ready.low;
      },
      λ last extends. record {
        run = run_at pos end held now last ready refl (omega (arith, long)) extends;
        index = length held.fields;
        field = subst (FieldAt last (length held.fields)) same (field_found held now last made refl items refl (omega (arith, long)) extends);
      },
    )

grown_puts : PutsStayWithin → (section : ℕ) (pos : Pos) (kind : Growth) (form : Form) (end : SectionEnd) (held : LooseSection) → IsReadyAt end held
    → IsReadyAt (behind_item end) (with_growing pos section kind None form held)
    × ((last : LooseSection) → Extends (with_growing pos section kind None form held) last → GrownAt kind last section pos end form)
grown_puts law section pos kind form end held ready =
    let now : LooseSection = with_growing pos section kind None form held in
    let item : LooseItem = new_item pos (Growing (record { kind = kind; field = length held.fields })) in
    let grown : HasEnd (behind_item end) (with_item item held) = item_reaches held item end ready.reaches refl in
    let reached : HasEnd (behind_item end) now = record { items = grown.items; bytes = grown.bytes; in_run = grown.in_run } in
    let made : Field = grown_field kind section pos (record { items = length held.items; bytes = length held.bytes; in_run = false }) form in
    let same : made ≡ grown_field kind section pos end form =
    ap (λ (items : ℕ). grown_field kind section pos (record { items = items; bytes = length held.bytes; in_run = false }) form) ready.reaches.items
    ∙ ap (λ (bytes : ℕ). grown_field kind section pos (record { items = end.items; bytes = bytes; in_run = false }) form) ready.reaches.bytes in (
      record {
        reaches = reached;
        low = law.growing pos section kind None form held ready.low;
      },
      λ last extends. record {
        index = length held.fields;
        field = ap (λ fields. slice_get fields (length held.fields)) extends.all_fields ∙ get_seam held.fields made extends.fields ∙ ap Some same;
        item = subst (λ (bytes : ℕ). ItemAt last end.items (item_at pos (record { items = end.items; bytes = bytes; in_run = end.in_run }) (Growing (record { kind = kind; field = length held.fields })))) ready.reaches.bytes
            (item_found held now last (item_behind (length held.bytes) item) end.items ready.low refl refl ready.reaches.items (omega arith) extends);
      },
    )

padding_puts : PutsStayWithin → (pos : Pos) (log : ℕ) (end : SectionEnd) (held : LooseSection) → IsReadyAt end held
    → IsReadyAt (behind_item end) (with_item (new_item pos (Align (zeros_up_to log))) held)
    × ((last : LooseSection) → Extends (with_item (new_item pos (Align (zeros_up_to log))) held) last → ItemAt last end.items (item_at pos end (Align (zeros_up_to log))))
padding_puts law pos log end held ready =
    let item : LooseItem = new_item pos (Align (zeros_up_to log)) in (
      record {
        reaches = item_reaches held item end ready.reaches refl;
        low = law.item item held ready.low;
      },
      λ last extends. subst (λ (bytes : ℕ). ItemAt last end.items (item_at pos (record { items = end.items; bytes = bytes; in_run = end.in_run }) (Align (zeros_up_to log)))) ready.reaches.bytes
          (item_found held (with_item item held) last (item_behind (length held.bytes) item) end.items ready.low refl refl ready.reaches.items (omega arith) extends),
    )

-- ALL PIECES

and_both : {X : Type 0} (P Q : X → Type 0) (o : Option X) → IsSomeAnd o P → IsSomeAnd o Q → IsSomeAnd o (λ x. P x × Q x)
and_both P Q None p q = absurd p
and_both P Q (Some x) p q = (p, q)

-- a change that keeps a section ready, of the section of this number
changed_puts : (map : SymbolMap) (section : ℕ) (pos : Pos) (put : Piece) (sections : List LooseSection) (end : SectionEnd) (change : LooseSection → LooseSection)
    → ((held : LooseSection) → IsReadyAt end held → Puts map section pos put end (change held)) → IsReady section sections end
    → IsReady section (changed_at change sections section) (behind_piece put end)
    × ((last : List LooseSection) → OneExtends section (changed_at change sections section) last
    → IsSomeAnd (slice_get last section) (λ held. PieceStands held section pos map end put))
changed_puts map section pos put sections end change step = by (slice_get sections section) refl
  where
    by : (found : Option LooseSection) → slice_get sections section ≡ found → IsSomeAnd found (IsReadyAt end)
        → IsReady section (changed_there change sections section found) (behind_piece put end)
        × ((last : List LooseSection) → OneExtends section (changed_there change sections section found) last
        → IsSomeAnd (slice_get last section) (λ held. PieceStands held section pos map end put))
    by None is ready = absurd ready
    by (Some held) is ready =
        let there : slice_get (changed_there change sections section (Some held)) section ≡ Some (change held) = set_there sections section (change held) held is in (
          subst (λ (found : Option LooseSection). IsSomeAnd found (IsReadyAt (behind_piece put end))) (sym there) (step held ready).ready,
          λ last extends. in_last last (extends.there (change held) there),
        )
      where
        in_last : (last : List LooseSection) → (now : LooseSection) × (slice_get last section ≡ Some now) × Extends (change held) now
            → IsSomeAnd (slice_get last section) (λ held. PieceStands held section pos map end put)
        in_last last (now, at, extends) =
            subst (λ (found : Option LooseSection). IsSomeAnd found (λ held. PieceStands held section pos map end put)) (sym at) ((step held ready).found now extends)

pub piece_puts : PutsStayWithin → (section : ℕ) (pos : Pos) (put : Piece) (tables : Tables) (end : SectionEnd) → IsReady section tables.sections end
    → IsReady section (piece_put section pos put tables).sections (behind_piece put end)
    × ((last : List LooseSection) → OneExtends section (piece_put section pos put tables).sections last
    → IsSomeAnd (slice_get last section) (λ held. PieceStands held section pos tables.symbols end put))
piece_puts law section pos (piece.plain bytes) tables end =
    changed_puts tables.symbols section pos (piece.plain bytes) tables.sections end (with_bytes pos bytes) (λ held. plain_puts law tables.symbols section pos bytes end held)
piece_puts law section pos (piece.number distance) tables end =
    changed_puts tables.symbols section pos (piece.number distance) tables.sections end (with_field pos section Four data_role (distance_form tables.symbols distance))
    (λ held ready. let puts = field_puts law section pos Four (distance_form tables.symbols distance) end held ready in
    record { ready = puts.0; found = puts.1 })
piece_puts law section pos (piece.pointer place) tables end =
    changed_puts tables.symbols section pos (piece.pointer place) tables.sections end (with_field pos section Four data_role (distance_form tables.symbols (from_here place)))
    (λ held ready. let puts = field_puts law section pos Four (distance_form tables.symbols (from_here place)) end held ready in
    record { ready = puts.0; found = puts.1 })
piece_puts law section pos (piece.address place) tables end =
    changed_puts tables.symbols section pos (piece.address place) tables.sections end (with_field pos section Eight data_role (address_form tables.symbols place))
    (λ held ready. let puts = field_puts law section pos Eight (address_form tables.symbols place) end held ready in
    record { ready = puts.0; found = puts.1 })
piece_puts law section pos (piece.field size form) tables end =
    changed_puts tables.symbols section pos (piece.field size form) tables.sections end (with_field pos section size data_role form)
    (λ held ready. let puts = field_puts law section pos size form end held ready in record { ready = puts.0; found = puts.1 })
piece_puts law section pos (piece.advance distance) tables end =
    changed_puts tables.symbols section pos (piece.advance distance) tables.sections end (with_growing pos section growth.Advance None (distance_form tables.symbols distance))
    (λ held ready. let puts = grown_puts law section pos growth.Advance (distance_form tables.symbols distance) end held ready in record { ready = puts.0; found = puts.1 })
piece_puts law section pos (piece.leb128 distance) tables end =
    changed_puts tables.symbols section pos (piece.leb128 distance) tables.sections end
    (with_growing pos section (growth.Leb128 false) None (distance_form tables.symbols distance))
    (λ held ready. let puts = grown_puts law section pos (growth.Leb128 false) (distance_form tables.symbols distance) end held ready in
    record { ready = puts.0; found = puts.1 })
piece_puts law section pos (piece.padding log) tables end =
    changed_puts tables.symbols section pos (piece.padding log) tables.sections end (with_item (new_item pos (Align (zeros_up_to log))))
    (λ held ready. let puts = padding_puts law pos log end held ready in record { ready = puts.0; found = puts.1 })

still_there : (section : ℕ) (sections last : List LooseSection) (end : SectionEnd) → IsReady section sections end → OneExtends section sections last
    → IsSomeAnd (slice_get last section) (λ held. Unit {0})
still_there section sections last end ready extends = by (slice_get sections section) refl ready
  where
    by : (found : Option LooseSection) → slice_get sections section ≡ found → IsSomeAnd found (IsReadyAt end) → IsSomeAnd (slice_get last section) (λ held. Unit {0})
    by None is ready = absurd ready
    by (Some held) is ready = at (extends.there held is)
      where
        at : (now : LooseSection) × (slice_get last section ≡ Some now) × Extends held now → IsSomeAnd (slice_get last section) (λ held. Unit {0})
        at (now, there, more) = subst (λ (found : Option LooseSection). IsSomeAnd found (λ held. Unit {0})) (sym there) tt

pub pieces_ready : PutsStayWithin → (section : ℕ) (pos : Pos) (pieces : List Piece) (tables : Tables) (end : SectionEnd) → IsReady section tables.sections end
    → IsReady section (pieces_put section pos pieces tables).sections (behind_pieces pieces end)
pieces_ready law section pos [] tables end ready = ready
pieces_ready law section pos (put ∷ pieces) tables end ready =
    pieces_ready law section pos pieces (piece_put section pos put tables) (behind_piece put end) (piece_puts law section pos put tables end ready).0

pub pieces_found : PutsStayWithin → (section : ℕ) (pos : Pos) (pieces : List Piece) (tables : Tables) (end : SectionEnd) (last : List LooseSection) → IsReady section tables.sections end
    → OneExtends section (pieces_put section pos pieces tables).sections last
    → IsSomeAnd (slice_get last section) (λ held. PiecesStand held section pos end tables pieces)
pieces_found law section pos [] tables end last ready extends = still_there section tables.sections last end ready extends
pieces_found law section pos (put ∷ pieces) tables end last ready extends =
    let puts = piece_puts law section pos put tables end ready in
    and_both (λ held. PieceStands held section pos tables.symbols end put)
    (λ held. PiecesStand held section pos (behind_piece put end) (piece_put section pos put tables) pieces) (slice_get last section)
    (puts.1 last (one_on section (piece_put section pos put tables).sections (pieces_put section pos pieces (piece_put section pos put tables)).sections last
    (pieces_extend section pos pieces (piece_put section pos put tables)) extends))
    (pieces_found law section pos pieces (piece_put section pos put tables) (behind_piece put end) last puts.0 extends)
