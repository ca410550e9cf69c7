-- Where plain bytes, values of fields and the bytes of items stand in their section.
use Rattle.std.proofs.Common.{◌≡◌, ℕ, zero, suc, ◌+◌, ◌-◌, ◌<◌, ◌≤◌, inl, inr, max, nat_le, List, [], ◌∷◌, ◌++◌, All, Some, length, take, drop, refl, sym, ap, ◌∙◌, arith, append_assoc, length-append, length-drop}
use Rattle.std.specs.Prelude.{slice_get, slice_range, unwrap_or}
use Rattle.std.proofs.Math.Nat.{max-eq_left, max-eq_right}
use Rattle.std.proofs.Math.Seq.{take-add, take-append_seam}
use Rattle.std.proofs.lemmas.List.{drop-drop, drop_at, length-take-le}
use Rattle.std.proofs.lemmas.List.Elements.{All-head, All-tail}
use Rattle.std.proofs.lemmas.List.Folds.{drop_split}
use Rattle.asm_frags.specs.declared.fields.Field.{Field}
use Rattle.asm_frags.specs.declared.items.Frag.{Frag}
use Rattle.asm_frags.specs.Addresses.{item_laid_at}
use Rattle.item_contents.specs.declared.contents.Content.{Content}
use Rattle.item_contents.specs.Contents.{MayHave}
use Rattle.asm_frags.specs.PlainBytes.{covered, field_end, IsBeside, FieldsStand}
use Rattle.asm_symbols.specs.SymbolMap.{SymbolMap}
use Rattle.asm_relax.specs.FieldValues.{held_value}
use Rattle.asm_relax.specs.Layout.{AreSized}
use Rattle.asm_relax.specs.Placing.{placed_from, shift_of}
use Rattle.asm_relax.specs.Settling.{LaidItem, LaidSections}
use Rattle.elf_object.specs.Contents.{field_bytes, fits_behind, filled, reached, interleaved}
use Rattle.elf_file.specs.Places.{PieceAt}
use Rattle.elf_object.specs.Places.{IsBetween}
use Rattle.elf_object.proofs.FieldLemmas.{filled_one}
use Rattle.elf_object.proofs.ItemBytes.{one_of, both_true, le_from, held_length}

length-slice : (bytes : List ℕ) (from to : ℕ) → from ≤ to → to ≤ length bytes → length (slice_range bytes from to) ≡ to - from
length-slice bytes from to order inside =
    let left = length-drop from bytes in
    length-take-le (to - from) (drop from bytes) (omega arith)

-- bytes from one offset to another, by an offset between
slice_split : (bytes : List ℕ) (from at to : ℕ) → from ≤ at → at ≤ to → slice_range bytes from to ≡ slice_range bytes from at ++ slice_range bytes at to
slice_split bytes from at to first second =
    let long : to - from ≡ (at - from) + (to - at) = omega arith in
    let place : from + (at - from) ≡ at = omega arith in
    ap (λ n. take n (drop from bytes)) long ∙ take-add (at - from) (to - at) (drop from bytes)
    ∙ ap (λ (xs : List ℕ). slice_range bytes from at ++ take (to - at) xs) (drop-drop (at - from) from bytes ∙ ap (λ n. drop n bytes) place)

-- what stands at an offset is the bytes from there on
pub piece_is : (bytes : List ℕ) (at : ℕ) (piece : List ℕ) → PieceAt bytes at piece → slice_range bytes at (at + length piece) ≡ piece
piece_is bytes at piece there =
    let long : (at + length piece) - at ≡ length piece = omega arith in
    ap (λ n. take n (drop at bytes)) long ∙ ap (λ (xs : List ℕ). take (length piece) xs) (ap (drop at) there.whole ∙ drop_at there.front (piece ++ there.rest) at there.long)
    ∙ take-append_seam piece there.rest

take_least : (n : ℕ) (xs : List ℕ) → length (take n xs) ≤ length xs
take_least zero xs = omega arith
take_least (suc n) [] = omega arith
take_least (suc n) (x ∷ xs) = let rest = take_least n xs in omega arith

-- bytes that stand at an offset of the list end within it
pub inside : (bytes : List ℕ) (at : ℕ) (piece : List ℕ) → at ≤ length bytes → slice_range bytes at (at + length piece) ≡ piece → at + length piece ≤ length bytes
inside bytes at piece begins is =
    let left = length-drop at bytes in
    let taken = take_least ((at + length piece) - at) (drop at bytes) in
    let same : length (slice_range bytes at (at + length piece)) ≡ length piece = ap length is in
    omega arith

-- and where there are any, they begin within it
pub begins_inside : (bytes : List ℕ) (at : ℕ) (piece : List ℕ) → 0 < length piece → slice_range bytes at (at + length piece) ≡ piece → at ≤ length bytes
begins_inside bytes at piece some is =
    let left = length-drop at bytes in
    let taken = take_least ((at + length piece) - at) (drop at bytes) in
    let same : length (slice_range bytes at (at + length piece)) ≡ length piece = ap length is in
    omega arith

-- a piece stands where the front before it ends
behind_front : (bytes front piece rest : List ℕ) (at : ℕ) → bytes ≡ front ++ (piece ++ rest) → length front ≡ at → PieceAt bytes at piece
behind_front bytes front piece rest at e long = record { front = front; rest = rest; long = long; whole = e }

-- the bytes from one offset to another stand behind those before them
cut : (bytes whole front : List ℕ) (at offset to : ℕ) → whole ≡ front ++ drop at bytes → length front ≡ at → at ≤ offset → offset ≤ to → to ≤ length bytes
    → PieceAt whole offset (slice_range bytes offset to)
cut bytes whole front at offset to is long first second within =
    let rest : drop at bytes ≡ slice_range bytes at offset ++ (slice_range bytes offset to ++ drop to bytes) =
    drop_split bytes at offset first ∙ ap (λ (xs : List ℕ). slice_range bytes at offset ++ xs) (drop_split bytes offset to second) in
    let before = length-slice bytes at offset first (omega arith) in
    behind_front whole (front ++ slice_range bytes at offset) (slice_range bytes offset to) (drop to bytes) offset
    (is ∙ ap (λ (xs : List ℕ). front ++ xs) rest ∙ sym (append_assoc front (slice_range bytes at offset) (slice_range bytes offset to ++ drop to bytes)))
    (omega (arith, length-append front (slice_range bytes at offset)))

module _ (symbols : SymbolMap) (laid : LaidSections) (bytes : List ℕ) where
  value_long : (field : Field) → length (field_bytes symbols laid field) ≡ covered field
  value_long field = held_length field (unwrap_or (held_value symbols laid field) 0)

  -- behind a field that fits stands what is left
  past : (field : Field) (rest front whole : List ℕ) (at : ℕ) → at ≤ field.offset → field_end field ≤ length bytes → length front ≡ at
      → whole ≡ front ++ (slice_range bytes at field.offset ++ (field_bytes symbols laid field ++ rest))
      → (whole ≡ ((front ++ slice_range bytes at field.offset) ++ field_bytes symbols laid field) ++ rest)
      × (length ((front ++ slice_range bytes at field.offset) ++ field_bytes symbols laid field) ≡ field_end field)
  past field rest front whole at behind within long is =
      let before = slice_range bytes at field.offset in
      let value = field_bytes symbols laid field in
      let first = length-slice bytes at field.offset behind (omega arith) in
      let second = value_long field in (
        is ∙ sym (append_assoc front before (value ++ rest)) ∙ sym (append_assoc (front ++ before) value rest),
        omega (arith, length-append (front ++ before) value, length-append front before),
      )

  -- plain bytes that end before a field stand before it
  by_side : (field : Field) (rest front whole : List ℕ) (at offset to : ℕ) → field_end field ≤ length bytes
      → whole ≡ front ++ (slice_range bytes at field.offset ++ (field_bytes symbols laid field ++ rest)) → length front ≡ at → at ≤ offset → offset ≤ to
      → IsBeside offset to field → (field_end field ≤ offset → PieceAt whole offset (slice_range bytes offset to)) → PieceAt whole offset (slice_range bytes offset to)
  by_side field rest front whole at offset to end made long first second (inl ends) later = later ends
  by_side field rest front whole at offset to end made long first second (inr begins) later =
      let behind = field_bytes symbols laid field ++ rest in
      let a = slice_range bytes at offset in
      let b = slice_range bytes offset to in
      let c = slice_range bytes to field.offset in
      let low : offset ≤ field.offset = omega arith in
      let parts : slice_range bytes at field.offset ≡ a ++ (b ++ c) =
      slice_split bytes at offset field.offset first low ∙ ap (λ (xs : List ℕ). a ++ xs) (slice_split bytes offset to field.offset second begins) in
      let inner : (a ++ (b ++ c)) ++ behind ≡ a ++ (b ++ (c ++ behind)) = append_assoc a (b ++ c) behind ∙ ap (λ (xs : List ℕ). a ++ xs) (append_assoc b c behind) in
      let before = length-slice bytes at offset first (omega arith) in
      behind_front whole (front ++ a) b (c ++ behind) offset
      (made ∙ ap (λ (xs : List ℕ). front ++ (xs ++ behind)) parts ∙ ap (λ (xs : List ℕ). front ++ xs) inner ∙ sym (append_assoc front a (b ++ (c ++ behind))))
      (omega (arith, length-append front a))

  -- plain bytes beside all fields stand as they were written
  pub plain_stands : (fields : List Field) (at offset to : ℕ) (front whole : List ℕ) → whole ≡ front ++ filled symbols laid bytes at fields → length front ≡ at
      → at ≤ offset → offset ≤ to → to ≤ length bytes → All (IsBeside offset to) fields → PieceAt whole offset (slice_range bytes offset to)
  unfolding filled
  plain_stands [] at offset to front whole is long first second within beside = cut bytes whole front at offset to is long first second within
  plain_stands (field ∷ fields) at offset to front whole is long first second within beside =
      let before = slice_range bytes at field.offset in
      let value = field_bytes symbols laid field in
      let rest = filled symbols laid bytes (field_end field) fields in
      one_of (λ (made : List ℕ). whole ≡ front ++ made → PieceAt whole offset (slice_range bytes offset to)) (fits_behind bytes at field) (before ++ (value ++ rest)) (drop at bytes)
      (λ fits made.
      let (behind, inner) = both_true (nat_le at field.offset) (nat_le (field_end field) (length bytes)) fits in
      let from : at ≤ field.offset = le_from at field.offset behind in
      let end : field_end field ≤ length bytes = le_from (field_end field) (length bytes) inner in
      let next = past field rest front whole at from end long made in
      by_side field rest front whole at offset to end made long first second (All-head (IsBeside offset to) field fields beside) (λ ends.
      plain_stands fields (field_end field) offset to ((front ++ before) ++ value) whole next.0 next.1 ends second within (All-tail (IsBeside offset to) field fields beside)))
      (λ none made. cut bytes whole front at offset to made long first second within)
      is

  -- the value of a field stands at its offset
  pub value_stands : (fields : List Field) (index at : ℕ) (field : Field) (front whole : List ℕ) → whole ≡ front ++ filled symbols laid bytes at fields → length front ≡ at
      → FieldsStand bytes at fields → slice_get fields index ≡ Some field → PieceAt whole field.offset (field_bytes symbols laid field)
  value_stands [] index at field front whole is long stand there = absurd cc
  value_stands (one ∷ fields) zero at field front whole is long stand there =
      let same : one ≡ field = cc in
      let rest = filled symbols laid bytes (field_end one) fields in
      let before = slice_range bytes at one.offset in
      let value = field_bytes symbols laid one in
      let inner = stand.1.within in
      let first = length-slice bytes at one.offset stand.0 (omega arith) in
      rw (← same)
      (behind_front whole (front ++ before) value rest one.offset
      (is ∙ ap (λ (xs : List ℕ). front ++ xs) (filled_one symbols laid bytes one fields at stand.0 stand.1) ∙ sym (append_assoc front before (value ++ rest)))
      (omega (arith, length-append front before)))
  value_stands (one ∷ fields) (suc index) at field front whole is long stand there =
      let next = past one (filled symbols laid bytes (field_end one) fields) front whole at stand.0 stand.1.within long
      (is ∙ ap (λ (xs : List ℕ). front ++ xs) (filled_one symbols laid bytes one fields at stand.0 stand.1)) in
      value_stands fields index (field_end one) field ((front ++ slice_range bytes at one.offset) ++ field_bytes symbols laid one) whole next.0 next.1 stand.2 there

-- the first of these items, if there is one, stands behind so many plain bytes
abbrev Begin : ℕ → List LaidItem → Type 0
Begin offset [] = Unit {0}
Begin offset (item ∷ items) = offset ≤ item.offset

all_begin : (offset : ℕ) (items : List LaidItem) → All (λ item. offset ≤ item.offset) items → Begin offset items
all_begin offset [] all = tt
all_begin offset (item ∷ items) all = All-head (λ item. offset ≤ item.offset) item items all

module _ (held : Content → ℕ → List ℕ) (held_sized : (content : Content) (size : ℕ) → MayHave content size → length (held content size) ≡ size) where
  -- up to the first item stand plain bytes
  plain_front : (bytes : List ℕ) (items : List LaidItem) (from offset shift : ℕ) → from ≤ offset → Begin offset items
      → interleaved held bytes from (placed_from shift items) ≡ slice_range bytes from offset ++ interleaved held bytes offset (placed_from shift items)
  unfolding interleaved placed_from
  plain_front bytes [] from offset shift order begins = drop_split bytes from offset order
  plain_front bytes (item ∷ items) from offset shift order begins =
      let low : from ≤ item.offset = omega arith in
      let one : reached from item ≡ item.offset = max-eq_right low in
      let other : reached offset item ≡ item.offset = max-eq_right begins in
      let rest = held item.content item.size ++ interleaved held bytes item.offset (placed_from (shift + item.size) items) in
      let left : interleaved held bytes from (placed_from shift (item ∷ items)) ≡ slice_range bytes from item.offset ++ rest =
      ap (λ n. slice_range bytes from n ++ (held item.content item.size ++ interleaved held bytes n (placed_from (shift + item.size) items))) one in
      let right : interleaved held bytes offset (placed_from shift (item ∷ items)) ≡ slice_range bytes offset item.offset ++ rest =
      ap (λ n. slice_range bytes offset n ++ (held item.content item.size ++ interleaved held bytes n (placed_from (shift + item.size) items))) other in
      left ∙ ap (λ (xs : List ℕ). xs ++ rest) (slice_split bytes from offset item.offset order begins) ∙ append_assoc (slice_range bytes from offset) (slice_range bytes offset item.offset) rest
      ∙ ap (λ (xs : List ℕ). slice_range bytes from offset ++ xs) (sym right)

  module _ {Goal : Type 0} (bytes whole : List ℕ) (offset : ℕ) (within : offset ≤ length bytes) where
    -- behind the plain bytes of this offset and the items before it stands what is left
    behind_items : (items : List LaidItem) (count from shift : ℕ) (front : List ℕ) → whole ≡ front ++ interleaved held bytes from (placed_from shift items) → length front ≡ from + shift
        → from ≤ offset → AreSized items → All (λ item. item.offset ≤ offset) (take count items) → Begin offset (drop count items)
        → ((before : List ℕ) → whole ≡ before ++ interleaved held bytes offset (placed_from (shift_of count shift items) (drop count items))
        → length before ≡ offset + shift_of count shift items → Goal) → Goal
    unfolding interleaved placed_from
    behind_items items zero from shift front is long order sized before begins go =
        let space = length-slice bytes from offset order within in
        go (front ++ slice_range bytes from offset)
        (is ∙ ap (λ (xs : List ℕ). front ++ xs) (plain_front bytes items from offset shift order begins)
        ∙ sym (append_assoc front (slice_range bytes from offset) (interleaved held bytes offset (placed_from shift items))))
        (omega (arith, length-append front (slice_range bytes from offset)))
    behind_items [] (suc count) from shift front is long order sized before begins go =
        let space = length-slice bytes from offset order within in
        go (front ++ slice_range bytes from offset)
        (is ∙ ap (λ (xs : List ℕ). front ++ xs) (drop_split bytes from offset order)
        ∙ sym (append_assoc front (slice_range bytes from offset) (drop offset bytes)))
        (omega (arith, length-append front (slice_range bytes from offset)))
    behind_items (item ∷ items) (suc count) from shift front is long order sized before begins go =
        let upto = reached from item in
        let own = held item.content item.size in
        let plain = slice_range bytes from upto in
        let rest = interleaved held bytes upto (placed_from (shift + item.size) items) in
        let low : from ≤ upto = low_of from item.offset in
        let high : upto ≤ offset = high_of from item.offset offset order (All-head (λ item. item.offset ≤ offset) item (take count items) before) in
        let first = length-slice bytes from upto low (omega arith) in
        let second = held_sized item.content item.size (All-head (λ item. MayHave item.content item.size) item items sized) in
        behind_items items count upto (shift + item.size) ((front ++ plain) ++ own)
        (is ∙ sym (append_assoc front plain (own ++ rest)) ∙ sym (append_assoc (front ++ plain) own rest))
        (omega (arith, length-append (front ++ plain) own, length-append front plain)) high
        (All-tail (λ item. MayHave item.content item.size) item items sized) (All-tail (λ item. item.offset ≤ offset) item (take count items) before) begins go
      where
        low_of : (a b : ℕ) → a ≤ max a b
        low_of a b = omega arith

        high_of : (a b c : ℕ) → a ≤ c → b ≤ c → max a b ≤ c
        high_of a b c first second = omega arith

  begin_low : (low high : ℕ) (items : List LaidItem) → low ≤ high → Begin high items → Begin low items
  begin_low low high [] order begins = tt
  begin_low low high (item ∷ items) order begins = omega arith

  -- plain bytes that no item parts stand behind the items before them
  pub bytes_between : (bytes : List ℕ) (items : List LaidItem) (count offset to : ℕ) → offset ≤ to → to ≤ length bytes → AreSized items → IsBetween items count offset to
      → PieceAt (interleaved held bytes 0 (placed_from 0 items)) (offset + shift_of count 0 items) (slice_range bytes offset to)
  bytes_between bytes items count offset to order within sized between =
      let whole = interleaved held bytes 0 (placed_from 0 items) in
      let left = drop count items in
      let moved = shift_of count 0 items in
      behind_items bytes whole offset (omega arith) items count 0 0 [] refl refl (omega arith) sized between.before
      (begin_low offset to left order (all_begin to left between.behind))
      (λ before is long. behind_front whole before (slice_range bytes offset to) (interleaved held bytes to (placed_from moved left)) (offset + moved)
      (is ∙ ap (λ (xs : List ℕ). before ++ xs) (plain_front bytes left offset to moved order (all_begin to left between.behind))) long)

  -- the item of an index begins what is left behind those before it
  drop_at_item : (items : List LaidItem) (index : ℕ) (item : LaidItem) → slice_get items index ≡ Some item → drop index items ≡ item ∷ drop (suc index) items
  drop_at_item [] index item there = absurd cc
  drop_at_item (one ∷ items) zero item there = let same : one ≡ item = cc in ap (λ x. x ∷ items) same
  drop_at_item (one ∷ items) (suc index) item there = drop_at_item items index item there

  -- the bytes of an item stand at its address
  pub item_stands : (bytes : List ℕ) (items : List LaidItem) (index : ℕ) (item : LaidItem) → slice_get items index ≡ Some item → item.offset ≤ length bytes
      → AreSized items → All (λ other. other.offset ≤ item.offset) (take index items)
      → PieceAt (interleaved held bytes 0 (placed_from 0 items)) (item.offset + shift_of index 0 items) (held item.content item.size)
  unfolding interleaved placed_from
  item_stands bytes items index item there within sized before =
      let whole = interleaved held bytes 0 (placed_from 0 items) in
      let left = drop (suc index) items in
      let shift = shift_of index 0 items in
      let address = item.offset + shift in
      let head = drop_at_item items index item there in
      let upto : reached item.offset item ≡ item.offset = max-eq_left (omega arith) in
      let none : item.offset - item.offset ≡ 0 = omega arith in
      let own = held item.content item.size in
      let rest = interleaved held bytes item.offset (placed_from (shift + item.size) left) in
      let first : interleaved held bytes item.offset (placed_from shift (item ∷ left)) ≡ own ++ rest =
      ap (λ n. slice_range bytes item.offset n ++ (own ++ interleaved held bytes n (placed_from (shift + item.size) left))) upto
      ∙ ap (λ n. take n (drop item.offset bytes) ++ (own ++ rest)) none in
      behind_items bytes whole item.offset within items index 0 0 [] refl refl (omega arith) sized before
      (rw head (omega arith))
      (λ front is long. behind_front whole front own rest address
      (is ∙ ap (λ (xs : List LaidItem). front ++ interleaved held bytes item.offset (placed_from shift xs)) head ∙ ap (λ (xs : List ℕ). front ++ xs) first) long)

-- a laid out item has the address behind its plain bytes and the items before it
pub placed_get : {P : Type 0} (items : List (Frag P ℕ)) (index shift : ℕ) (item : Frag P ℕ) → slice_get items index ≡ Some item
    → slice_get (placed_from shift items) index ≡ Some (item_laid_at (item.offset + shift_of index shift items) item.size item)
unfolding placed_from
placed_get [] index shift item there = absurd cc
placed_get (one ∷ items) zero shift item there = let same : one ≡ item = cc in rw same
placed_get (one ∷ items) (suc index) shift item there = placed_get items index (shift + one.size) item there
