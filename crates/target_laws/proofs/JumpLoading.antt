-- The bytes of a direct jump where they are loaded.
use Rattle.std.proofs.Common.{◌≡◌, ℕ, ◌+◌, ◌^◌, ◌<◌, ◌≤◌, ◌⊎◌, inl, inr, not, Bool, true, List, [], ◌∷◌, ◌++◌, All, Option, Some, None, take, drop, length, get_or, refl, sym, ap, ◌∙◌, subst, arith, length-append, length-drop, take-append-drop}
use Rattle.std.specs.Prelude.{◌==◌, slice_get, option_map, unwrap_or, IfSome}
use Rattle.std.specs.Option.{option_map_or}
use Rattle.std.proofs.lemmas.List.{length-take}
use Rattle.std.proofs.lemmas.Option.{none-some, same_Some, slice_get-map, unwrap_or-slice_get}
use Rattle.asm_base.specs.Tokens.{SpelledToken}
use Rattle.asm_base.specs.declared.positions.Pos.{Pos}
use Rattle.asm_expr.specs.Forms.{Form}
use Rattle.asm_symbols.specs.SymbolMap.{SymbolMap}
use Rattle.asm_frags.specs.declared.fields.Field.{Field}
use Rattle.asm_frags.specs.declared.fields.FieldSize.TheVariants.{Four}
use Rattle.asm_frags.specs.Addresses.{item_laid_at}
use Rattle.asm_frags.specs.Fields.{growth_role}
use Rattle.asm_frags.specs.SectionOf.{SectionOf}
use Rattle.asm_frags.specs.Substituting.{substituted_field, laid_item}
use Rattle.asm_frags.specs.Writing.{LooseItem, LooseSection, new_item, item_behind, with_growing}
use Rattle.assigned_forms.specs.Linked.{linked}
use Rattle.item_bytes.specs.declared.jumps.Condition.{Condition}
use Rattle.item_bytes.specs.Jumps.{jump_bytes, jump_distance}
use Rattle.item_bytes.specs.Levels.{IsSignedWithin}
use Rattle.item_contents.specs.declared.contents.Content.TheVariants.{Growing}
use Rattle.item_contents.specs.declared.kinds.Growth.TheVariants.{Jump}
use Rattle.item_contents.specs.Contents.{level_size}
use Rattle.section_laws.specs.Within.{CountsItems, IsWithin}
use Rattle.asm_relax.specs.FieldValues.{held_value}
use Rattle.asm_relax.specs.ItemValues.{HasRoom}
use Rattle.asm_relax.specs.KeptSections.{kept_section, kept_items, LayoutsKeepSections}
use Rattle.asm_relax.specs.Placing.{placed_section}
use Rattle.asm_relax.specs.RangeChecks.{whole_size}
use Rattle.asm_relax.specs.Settling.{LaidItem, LaidSections}
use Rattle.elf_file.specs.Places.{PieceAt}
use Rattle.elf_object.specs.Contents.{value_or_zero, item_bytes}
use Rattle.elf_object.specs.Image.{image_of}
use Rattle.elf_object.specs.Places.{section_offset, moved, IsFiled, ItemsStand, PlacesAreAddresses}
use Rattle.elf_object.specs.Relocations.{field_relocation}
use Rattle.att_insns.specs.InsnTexts.{InsnText}
use Rattle.asm_values.specs.State.{Placed}
use Rattle.asm_place.specs.Instructions.{with_more, next_offset, IsContinued}
use Rattle.asm_place.specs.JumpPlaces.{jump_form, items_so_far, jump_field}
use Rattle.place_laws.specs.Ends.{end_in, items_in, place_in, size_at, EndsMove}
use Rattle.place_laws.specs.Jumps.{laid_jump_field}
use Rattle.place_laws.specs.Statements.{IsLaidLater, PlacesAreInside}
use Rattle.loaded_laws.specs.Beside.{RelocationsBeside, ValuesAreAlone, LayoutsKeepCounts}
use Rattle.step_readings.specs.Jumps.{LoadedJumpsAreJumps}
use Rattle.target_laws.specs.Jumps.{jump_place, jump_length, IsJumpLoaded, JumpBytesStand, LoadedJumpsStand}
use Rattle.target_laws.proofs.Elements.{get_set, All-there, take_fewer, get_first, get_last, get_after, get_within, get_drop, get_take, begins_with, drop_bytes, take_bytes}
use Rattle.target_laws.proofs.ItemBytes.{placed_at, all_alone}
use Rattle.target_laws.proofs.JumpBytes.{JumpCodes, length_is, value_held, not_short, near_long, held_low, layout_fine}

-- what is known of layouts and of the bytes of jumps
pub record Given : Type 0 where
  pub layouts : LayoutsKeepSections
  pub counts : LayoutsKeepCounts
  pub addresses : PlacesAreAddresses
  pub inside : PlacesAreInside
  pub moves : EndsMove
  pub relocations : RelocationsBeside
  pub values : ValuesAreAlone
  pub items : ItemsStand
  pub loaded : LoadedJumpsAreJumps
  pub codes : JumpCodes

module _ (given : Given) (symbols : SymbolMap) (laid : LaidSections) (pos : Pos) (tokens : List SpelledToken) (text : InsnText) (condition : Option Condition)
    (before placed : Placed) (code : List ℕ) (is : IsJumpLoaded symbols laid pos tokens text condition before placed code) where
  abbrev n : ℕ
  n = before.current

  abbrev first : LooseSection
  first = is.put.section

  abbrev form : Form
  form = jump_form is.put.jump.forms

  abbrev new : LooseSection
  new = with_growing pos n (Jump condition) text.displacement.suffix form first

  abbrev index : ℕ
  index = length first.items

  abbrev offset : ℕ
  offset = length first.bytes

  abbrev number : ℕ
  number = length first.fields

  placed_there : slice_get placed.sections n ≡ Some new
  placed_there = ap (λ (all : List LooseSection). slice_get all n) is.put.put ∙ get_set before.sections n first new is.put.there

  more : IsContinued new (slice_get is.later.later n)
  more = is.later.grows.kept n new placed_there

  abbrev whole : LooseSection
  whole = with_more new more.bytes more.fields more.items

  whole_within : IsWithin whole
  whole_within = All-there IsWithin is.later.later n whole more.there is.later.within

  abbrev item_put : LooseItem
  item_put = item_behind offset (new_item pos (Growing (record { kind = Jump condition; field = number })))

  -- the field that is put
  abbrev field_put : Field
  field_put = record {
    pos = pos;
    item = length first.items + 1;
    offset = length first.bytes;
    section = n;
    size = Four;
    role = growth_role (Jump condition) text.displacement.suffix;
    in_item = true;
    form = form;
  }

  so_far : items_so_far before ≡ index
  so_far = ap (λ f. option_map_or (λ (s : LooseSection). length s.items) f 0) is.put.there

  offset_is : next_offset before ≡ offset
  offset_is = ap (λ f. option_map_or (λ (s : LooseSection). length s.bytes) f 0) is.put.there

  pub field_is : jump_field pos text form before ≡ field_put
  field_is =
      ap (λ k. record (jump_field pos text form before) { item = k + 1 }) so_far
      ∙ ap (λ k. record (jump_field pos text form before) { item = length first.items + 1; offset = k }) offset_is

  item_there : slice_get whole.items index ≡ Some item_put
  item_there = get_first (first.items ++ item_put ∷ []) more.items index item_put (get_last first.items item_put)

  field_there : slice_get whole.fields number ≡ Some field_put
  field_there = get_first (first.fields ++ field_put ∷ []) more.fields number field_put (get_last first.fields field_put)

  -- IN THE LAYOUT

  abbrev kept : SectionOf LaidItem
  kept = is.later.kept

  got_kept : (own : List ℕ) × (slice_get laid n ≡ Some (kept_section symbols own whole))
  got_kept = given.layouts.section symbols is.later.later laid n whole is.later.is more.there

  kept_is : kept ≡ kept_section symbols got_kept.0 whole
  kept_is = same_Some kept (kept_section symbols got_kept.0 whole) (sym is.later.there ∙ got_kept.1)

  got_item : (address : ℕ) × (size : ℕ) × (slice_get (kept_items got_kept.0 whole.items) index ≡ Some (item_laid_at address size (laid_item item_put)))
  got_item = given.layouts.item whole.items got_kept.0 index item_put item_there

  abbrev size : ℕ
  size = got_item.1

  abbrev one : LaidItem
  one = item_laid_at got_item.0 got_item.1 (laid_item item_put)

  item_kept : slice_get kept.items index ≡ Some one
  item_kept = ap (λ (s : SectionOf LaidItem). slice_get s.items index) kept_is ∙ got_item.2

  abbrev own : Field
  own = substituted_field (linked symbols) field_put

  field_kept : slice_get kept.fields number ≡ Some own
  field_kept =
      ap (λ (s : SectionOf LaidItem). slice_get s.fields number) kept_is ∙ slice_get-map (substituted_field (linked symbols)) whole.fields number
      ∙ ap (option_map (substituted_field (linked symbols))) field_there

  pub own_is : laid_jump_field symbols pos tokens text condition before placed is.put ≡ own
  own_is = ap (substituted_field (linked symbols)) field_is

  items_are : items_in laid n ≡ kept.items
  items_are = ap (λ found. option_map_or (λ (s : SectionOf LaidItem). s.items) found []) is.later.there

  size_is : jump_length laid before ≡ size
  size_is =
      ap (λ (items : List LaidItem). size_at items (items_so_far before)) items_are ∙ ap (size_at kept.items) so_far
      ∙ ap (λ found. option_map_or (λ (i : LaidItem). i.size) found 0) item_kept

  abbrev at : ℕ
  at = moved kept.items index offset

  place_is : jump_place laid before ≡ at
  place_is =
      ap (λ found. option_map_or (end_in (items_in laid n)) found 0) is.put.there
      ∙ ap (λ (items : List LaidItem). end_in items first) items_are

  laid_placed : placed_section kept ≡ kept
  laid_placed = given.layouts.placed symbols is.later.later laid n kept is.later.is is.later.there

  address_is : got_item.0 ≡ at
  address_is = placed_at kept.items 0 index one (ap (λ (s : SectionOf LaidItem). slice_get s.items index) laid_placed ∙ item_kept)

  counted : All (CountsItems kept.fields kept.items) kept.fields
  counted = given.counts.counted symbols is.later.later laid n whole kept is.later.is more.there is.later.there whole_within

  own_counts : CountsItems kept.fields kept.items own
  own_counts = All-there (CountsItems kept.fields kept.items) kept.fields number own field_kept counted

  -- IN THE OBJECT

  abbrev value : ℕ
  value = unwrap_or (held_value symbols laid own) 0

  abbrev near : Bool
  near = not (size == 2)

  abbrev bytes : List ℕ
  bytes = jump_bytes condition near value

  filed : IsFiled laid n kept
  filed = record {
    found = is.later.there;
    takes_bytes = is.later.takes_bytes;
    laid = laid_placed;
    sized = given.layouts.sized symbols is.later.later laid n kept is.later.is is.later.there;
  }

  piece : PieceAt (image_of symbols laid) (section_offset symbols laid n + at) bytes
  piece =
      let long : length kept.bytes ≡ length (first.bytes ++ more.bytes) = ap (λ (s : SectionOf LaidItem). length s.bytes) kept_is in
      let count = length-append first.bytes more.bytes in
      let there = given.items symbols laid n index kept one filed item_kept (omega (arith, long, count))
      (take_fewer (λ (i : LaidItem). i.offset ≤ offset) kept.items index (index + 1) (omega arith) own_counts.between.before) in
      let holds_value = ap (value_or_zero symbols laid) field_kept in
      subst (λ v. PieceAt (image_of symbols laid) (section_offset symbols laid n + at) (jump_bytes condition near v)) holds_value
      (subst (λ a. PieceAt (image_of symbols laid) (section_offset symbols laid n + a) (item_bytes symbols laid kept one.content size)) address_is there)

  -- it has room
  sized : size ≡ level_size (Jump condition) is.room.level
  sized = sym size_is ∙ is.room.sized

  long : length bytes ≡ size
  long = length_is given.codes condition size is.room.level value sized

  ends : at + size ≤ whole_size kept
  ends =
      let later : IsLaidLater placed.sections laid = record { symbols = symbols; later = is.later.later; grows = is.later.grows; is = is.later.is } in
      let within = (given.inside placed.sections laid n new kept later placed_there is.later.there).inside in
      let there : place_in laid n placed.sections ≡ end_in kept.items new =
      ap (λ found. option_map_or (end_in (items_in laid n)) found 0) placed_there ∙ ap (λ (items : List LaidItem). end_in items new) items_are in
      let moves = given.moves.growing pos n (Jump condition) text.displacement.suffix form first kept.items in
      let of : size_at kept.items index ≡ size = ap (λ found. option_map_or (λ (i : LaidItem). i.size) found 0) item_kept in
      omega (arith, within, there, moves, of)

  -- LOADED

  -- a byte that a linker leaves alone
  loaded_byte : (k : ℕ) → k < size → (field_relocation symbols laid n kept own ≡ None) ⊎ (k + 4 < size) → slice_get code (at + k) ≡ slice_get bytes k
  loaded_byte k few free =
      let low = given.counts.low symbols is.later.later laid n whole kept is.later.is more.there is.later.there whole_within in
      let alone = all_alone given.addresses symbols laid n kept laid_placed index k one item_kept few (Jump condition) number refl own field_kept free counted low is.later.relocated in
      let beside = given.relocations symbols laid n (at + k) kept alone in
      let end = ends in
      let count = long in
      let front = piece.long in
      let place : section_offset symbols laid n + (at + k) ≡ length piece.front + k = omega (arith, front) in
      is.later.loaded.same (at + k) (omega (arith, few, end)) beside
      ∙ ap (λ (xs : List ℕ). slice_get xs (section_offset symbols laid n + (at + k))) piece.whole
      ∙ ap (slice_get (piece.front ++ (bytes ++ piece.rest))) place ∙ get_after piece.front (bytes ++ piece.rest) k
      ∙ get_within bytes piece.rest k (omega (arith, few, count))

  code_long : at + size ≤ length code
  code_long = let all = is.later.loaded.long in let end = ends in omega (arith, all, end)

  abbrev Stands : Option ℕ → Type 0
  Stands held = JumpBytesStand condition held code at size

  -- with a value the bytes are those of the object
  with_value : (found : ℕ) → held_value symbols laid own ≡ Some found → Stands (Some found)
  with_value found held =
      let free = given.values symbols laid n found kept own held in
      let count = long in
      let all = code_long in
      let same : value ≡ found = ap (λ v. unwrap_or v 0) held in
      let room : HasRoom (Jump condition) is.room.level found =
      subst (λ v. IfSome v (HasRoom (Jump condition) is.room.level)) (ap (held_value symbols laid) own_is ∙ held) is.room.room in
      let fits : IsSignedWithin (2 ^ 31) found =
      subst (λ v. IfSome v (IsSignedWithin (2 ^ 31))) (ap (held_value symbols laid) own_is ∙ held)
      (is.room.near (layout_fine symbols is.later.later laid is.later.is) (record { size = refl; kind = refl })) in
      let whole_value = value_held given.codes condition size is.room.level found (held_low symbols laid own found refl held) fits sized room in
      record {
        near = near;
        distance = value;
        rest = drop (at + length bytes) code;
        stand = begins_with code bytes at (omega (arith, count, all)) (λ k few. loaded_byte k (omega (arith, few, count)) (inl free));
        long = count;
        value = λ other is_other.
            ap (λ v. jump_distance near (jump_bytes condition near v)) same ∙ whole_value ∙ same_Some found other is_other;
      }

  -- so it is before the four bytes of a near jump
  near_byte : (there : List ℕ) → length there ≡ size → near ≡ true → (k : ℕ) → k + 4 < length there → there ≡ take size (drop at code)
      → get_or (jump_bytes condition true value) k 0 ≡ get_or there k 0
  near_byte there count is_near k few there_is =
      let small : k + 4 < size = omega (arith, few, count) in
      let same : slice_get bytes k ≡ slice_get there k =
      sym (loaded_byte k (omega (arith, small)) (inr small)) ∙ sym (get_drop code at k) ∙ sym (get_take (drop at code) size k (omega (arith, small)))
      ∙ ap (λ (xs : List ℕ). slice_get xs k) (sym there_is) in
      ap (λ b. get_or (jump_bytes condition b value) k 0) (sym is_near)
      ∙ sym (unwrap_or-slice_get bytes k 0) ∙ ap (λ v. unwrap_or v 0) same ∙ unwrap_or-slice_get there k 0

  -- the bytes of a near jump over some distance
  near_stands : (distance : ℕ) (there : List ℕ) → jump_bytes condition true distance ≡ there → length there ≡ size → there ≡ take size (drop at code) → Stands None
  near_stands distance there same count there_is = record {
    near = true;
    distance = distance;
    rest = drop size (drop at code);
    stand = sym (take-append-drop size (drop at code)) ∙ ap (λ (xs : List ℕ). xs ++ drop size (drop at code)) (sym (same ∙ there_is));
    long = ap (λ (xs : List ℕ). length xs) same ∙ count;
    value = λ found is_found. absurd (none-some found is_found);
  }

  -- without one they are those of a near jump over any distance
  without_value : held_value symbols laid own ≡ None → Stands None
  without_value none =
      let level = is.room.linked (ap (held_value symbols laid) own_is ∙ none) condition refl in
      let one_level : size ≡ level_size (Jump condition) 1 = sized ∙ ap (level_size (Jump condition)) level in
      let is_near : near ≡ true = not_short condition size 0 one_level in
      let five = near_long condition size one_level in
      let count = long in
      let all = code_long in
      let there = take size (drop at code) in
      let dropped = length-drop at code in
      let there_long : length there ≡ size = length-take size (drop at code) ∙ (omega (arith, dropped, all)) in
      let true_long : length (jump_bytes condition true value) ≡ size = ap (λ b. length (jump_bytes condition b value)) (sym is_near) ∙ count in
      let other = given.loaded condition value there (there_long ∙ sym true_long)
      (take_bytes (drop at code) size (drop_bytes code at is.later.loaded.bytes))
      (λ k few. near_byte there there_long is_near k few refl) in
      near_stands other.0 there other.1 there_long refl

  stands : Stands (held_value symbols laid own)
  stands = by (held_value symbols laid own) refl
    where
      by : (held : Option ℕ) → held_value symbols laid own ≡ held → Stands held
      by None none = without_value none
      by (Some found) held = with_value found held

  pub jump_stands : JumpBytesStand condition (held_value symbols laid (laid_jump_field symbols pos tokens text condition before placed is.put)) code (jump_place laid before)
      (jump_length laid before)
  jump_stands =
      subst (λ s. JumpBytesStand condition (held_value symbols laid (laid_jump_field symbols pos tokens text condition before placed is.put)) code (jump_place laid before) s) (sym size_is)
      (subst (λ p. JumpBytesStand condition (held_value symbols laid (laid_jump_field symbols pos tokens text condition before placed is.put)) code p size) (sym place_is)
      (subst (λ f. JumpBytesStand condition (held_value symbols laid f) code at size) (sym own_is) stands))

pub loaded_jumps_stand : Given → LoadedJumpsStand
loaded_jumps_stand given symbols laid pos tokens text condition before placed code is = jump_stands given symbols laid pos tokens text condition before placed code is
