-- The end that is counted is the end of the section.
use Rattle.std.proofs.Common.{◌≡◌, ℕ, ◌+◌, Bool, true, false, List, [], ◌∷◌, ◌++◌, length, Option, None, Some, if◌then◌else◌, replicate, refl, sym, ap, subst, ◌∙◌, arith, length-append}
use Rattle.std.specs.Prelude.{IsSomeAnd}
use Rattle.std.specs.List.{slice_get}
use Rattle.std.proofs.lemmas.List.{length-replicate}
use Rattle.asm_base.specs.declared.positions.Pos.{Pos}
use Rattle.asm_expr.specs.Forms.{Form}
use Rattle.asm_frags.specs.declared.fields.FieldSize.TheVariants.{Four, Eight}
use Rattle.asm_frags.specs.Addresses.{changed_there, changed_at}
use Rattle.asm_frags.specs.Fields.{width, data_role}
use Rattle.asm_frags.specs.Writing.{LooseItem, LooseSection, ends_in_run, new_item, item_behind, with_item, with_run, with_bytes, with_field, with_growing, takes_zeros_alone}
use Rattle.item_contents.specs.declared.contents.Content.TheVariants.{Run, Align, Growing}
use Rattle.item_contents.specs.declared.kinds.Growth.{Growth}
use Rattle.item_contents.specs.declared.kinds.Growth.TheVariants as growth
use Rattle.item_contents.specs.Contents.{is_run}
use Rattle.item_contents.specs.ItemParts.{zeros_up_to}
use Rattle.table_pieces.specs.declared.ends.SectionEnd.{SectionEnd}
use Rattle.table_pieces.specs.Marks.{distance_form, address_form}
use Rattle.table_pieces.specs.Pieces as put
use Rattle.table_pieces.specs.Pieces.{Piece, plain, number, pointer, advance, leb128, padding, from_here, Tables, piece_put, pieces_put, Takes}
use Rattle.table_pieces.specs.Ends.{behind_plain, behind_item, behind_piece, behind_pieces, end_of}
use Rattle.table_pieces.specs.Standing.{HasEnd, Reaches}
use Rattle.table_pieces.proofs.ExtendLemmas.{set_there}

-- whether the last item is a run
last_run : (items : List LooseItem) (item : LooseItem) → ends_in_run (items ++ item ∷ []) ≡ is_run item.content
last_run [] item = refl
last_run (one ∷ []) item = refl
last_run (one ∷ two ∷ items) item = last_run (two ∷ items) item

abbrev pub run_if : Bool → Pos → LooseSection → LooseSection
run_if in_run pos held = if in_run then held else with_item (new_item pos Run) held

-- the items of a section with a run last
pub run_items : (in_run : Bool) (pos : Pos) (held : LooseSection) → ends_in_run held.items ≡ in_run
    → (length (run_if in_run pos held).items ≡ (if in_run then length held.items else length held.items + 1)) × (ends_in_run (run_if in_run pos held).items ≡ true)
run_items true pos held is = (refl, is)
run_items false pos held is =
    (length-append held.items (item_behind (length held.bytes) (new_item pos Run) ∷ []), last_run held.items (item_behind (length held.bytes) (new_item pos Run)))

-- a section with a run last and so many bytes more
pub run_reaches : (pos : Pos) (held after : LooseSection) (more : List ℕ) (count : ℕ) (end : SectionEnd) → HasEnd end held → length more ≡ count
    → after.items ≡ (with_run pos held).items → after.bytes ≡ held.bytes ++ more → HasEnd (behind_plain count end) after
run_reaches pos held after more count end has counted items bytes =
    let run = run_items (ends_in_run held.items) pos held refl in
    record {
      items = ap length items ∙ run.0 ∙ ap (λ (in_run : Bool). if in_run then length held.items else length held.items + 1) has.in_run
          ∙ ap (λ (n : ℕ). if end.in_run then n else n + 1) has.items;
      bytes = ap length bytes ∙ length-append held.bytes more ∙ (let both : length held.bytes + length more ≡ end.bytes + count = omega (arith, has.bytes, counted) in both);
      in_run = ap ends_in_run items ∙ run.1;
    }

-- a section with an item more that is no run
pub item_reaches : (held : LooseSection) (item : LooseItem) (end : SectionEnd) → HasEnd end held → is_run item.content ≡ false → HasEnd (behind_item end) (with_item item held)
item_reaches held item end has other = record {
  items = length-append held.items (item_behind (length held.bytes) item ∷ []) ∙ ap (λ (n : ℕ). n + 1) has.items;
  bytes = has.bytes;
  in_run = last_run held.items (item_behind (length held.bytes) item) ∙ other;
}

-- a change of the section of this number
changed_reaches : (section : ℕ) (sections : List LooseSection) (change : LooseSection → LooseSection) (before after : SectionEnd)
    → ((held : LooseSection) → HasEnd before held → HasEnd after (change held)) → Reaches section sections before → Reaches section (changed_at change sections section) after
changed_reaches section sections change before after step = by (slice_get sections section) refl
  where
    by : (found : Option LooseSection) → slice_get sections section ≡ found → IsSomeAnd found (HasEnd before)
        → Reaches section (changed_there change sections section found) after
    by None is has = absurd has
    by (Some held) is has =
        subst (λ (found : Option LooseSection). IsSomeAnd found (HasEnd after)) (sym (set_there sections section (change held) held is)) (step held has)

-- a section with an item more that grows
grown_reaches : (pos : Pos) (section : ℕ) (kind : Growth) (form : Form) (held : LooseSection) (end : SectionEnd) → HasEnd end held
    → HasEnd (behind_item end) (with_growing pos section kind None form held)
grown_reaches pos section kind form held end has =
    let is = item_reaches held (new_item pos (Growing (record { kind = kind; field = length held.fields }))) end has refl in
    record { items = is.items; bytes = is.bytes; in_run = is.in_run }

pub piece_reaches : (section : ℕ) (pos : Pos) (piece : Piece) (tables : Tables) (end : SectionEnd) → Reaches section tables.sections end
    → Reaches section (piece_put section pos piece tables).sections (behind_piece piece end)
piece_reaches section pos (plain bytes) tables end =
    changed_reaches section tables.sections (with_bytes pos bytes) end (behind_plain (length bytes) end)
    (λ held has. run_reaches pos held (with_bytes pos bytes held) bytes (length bytes) end has refl refl refl)
piece_reaches section pos (number distance) tables end =
    changed_reaches section tables.sections (with_field pos section Four data_role (distance_form tables.symbols distance)) end (behind_plain 4 end)
    (λ held has. run_reaches pos held (with_field pos section Four data_role (distance_form tables.symbols distance) held) (replicate 4 0) 4 end has refl refl refl)
piece_reaches section pos (pointer place) tables end =
    changed_reaches section tables.sections (with_field pos section Four data_role (distance_form tables.symbols (from_here place))) end (behind_plain 4 end)
    (λ held has. run_reaches pos held (with_field pos section Four data_role (distance_form tables.symbols (from_here place)) held) (replicate 4 0) 4 end has refl refl refl)
piece_reaches section pos (put.address place) tables end =
    changed_reaches section tables.sections (with_field pos section Eight data_role (address_form tables.symbols place)) end (behind_plain 8 end)
    (λ held has. run_reaches pos held (with_field pos section Eight data_role (address_form tables.symbols place) held) (replicate 8 0) 8 end has refl refl refl)
piece_reaches section pos (put.field size form) tables end =
    changed_reaches section tables.sections (with_field pos section size data_role form) end (behind_plain (width size) end)
    (λ held has. run_reaches pos held (with_field pos section size data_role form held) (replicate (width size) 0) (width size) end has (length-replicate (width size) 0) refl refl)
piece_reaches section pos (advance distance) tables end =
    changed_reaches section tables.sections (with_growing pos section growth.Advance None (distance_form tables.symbols distance)) end (behind_item end)
    (λ held has. grown_reaches pos section growth.Advance (distance_form tables.symbols distance) held end has)
piece_reaches section pos (leb128 distance) tables end =
    changed_reaches section tables.sections (with_growing pos section (growth.Leb128 false) None (distance_form tables.symbols distance)) end (behind_item end)
    (λ held has. grown_reaches pos section (growth.Leb128 false) (distance_form tables.symbols distance) held end has)
piece_reaches section pos (padding log) tables end =
    changed_reaches section tables.sections (with_item (new_item pos (Align (zeros_up_to log)))) end (behind_item end)
    (λ held has. item_reaches held (new_item pos (Align (zeros_up_to log))) end has refl)

pub pieces_reach : (section : ℕ) (pos : Pos) (pieces : List Piece) (tables : Tables) (end : SectionEnd) → Reaches section tables.sections end
    → Reaches section (pieces_put section pos pieces tables).sections (behind_pieces pieces end)
pieces_reach section pos [] tables end reaches = reaches
pieces_reach section pos (piece ∷ pieces) tables end reaches =
    pieces_reach section pos pieces (piece_put section pos piece tables) (behind_piece piece end) (piece_reaches section pos piece tables end reaches)

-- behind plain bytes the end is that of a run
pub plain_reaches : (section : ℕ) (pos : Pos) (bytes : List ℕ) (tables : Tables) → Takes section tables.sections
    → Reaches section (piece_put section pos (plain bytes) tables).sections (end_of section (piece_put section pos (plain bytes) tables).sections)
unfolding end_of
plain_reaches section pos bytes tables takes = by (slice_get tables.sections section) refl takes.filled
  where
    by : (found : Option LooseSection) → slice_get tables.sections section ≡ found → IsSomeAnd found (λ held. takes_zeros_alone held ≡ false)
        → Reaches section (changed_there (with_bytes pos bytes) tables.sections section found) (end_of section (changed_there (with_bytes pos bytes) tables.sections section found))
    by None is filled = absurd filled
    by (Some held) is filled = rw (set_there tables.sections section (with_bytes pos bytes held) held is) (record {
      items = refl;
      bytes = refl;
      in_run = (run_items (ends_in_run held.items) pos held refl).1;
    })
