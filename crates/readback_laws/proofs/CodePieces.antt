-- The bytes of an instruction with operands stand in the object, with the values of its fields.
use Rattle.std.proofs.Common.{◌≡◌, ℕ, ◌+◌, ◌-◌, ◌≤◌, inl, inr, true, false, List, [], ◌∷◌, ◌++◌, All, Some, length, map, take, drop, refl, sym, ap, ◌∙◌, subst, arith, append_assoc, length-append, length-drop}
use Rattle.std.specs.Prelude.{◌==◌, slice_get, slice_range, option_map, Ok}
use Rattle.std.specs.Option.{option_map_or}
use Rattle.std.proofs.Math.Seq.{take-append_seam}
use Rattle.std.proofs.lemmas.List.{drop_at, length-replicate, length-take}
use Rattle.std.proofs.lemmas.List.Elements.{All-nil, All-cons, All-append, All-weaker}
use Rattle.std.proofs.lemmas.Option.{slice_get-map}
use Rattle.asm_base.specs.declared.positions.Pos.{Pos}
use Rattle.asm_symbols.specs.SymbolMap.{SymbolMap}
use Rattle.asm_frags.specs.declared.fields.Field.{Field}
use Rattle.asm_frags.specs.Fields.{width, holds, low_bytes}
use Rattle.asm_frags.specs.PlainBytes.{field_end, IsBeside, FieldsStand}
use Rattle.asm_frags.specs.SectionOf.{SectionOf}
use Rattle.asm_frags.specs.Substituting.{substituted_field}
use Rattle.asm_frags.specs.Writing.{LooseSection}
use Rattle.assigned_forms.specs.Linked.{linked}
use Rattle.asm_relax.specs.KeptSections.{kept_section}
use Rattle.asm_relax.specs.Settling.{LaidItem, LaidSections, layout_of}
use Rattle.elf_file.specs.Places.{PieceAt}
use Rattle.elf_object.specs.Image.{image_of}
use Rattle.elf_object.specs.Places.{section_offset, moved, IsBetween, IsFiled}
use Rattle.asm_place.specs.CodePlaces.{FieldInCode, with_held, zeros_in, AreApart, field_in, CodeStandsAt}
use Rattle.readback_laws.specs.Instructions.{file_place, final_value}
use Rattle.readback_laws.proofs.CodeValues.{low_length}
use Rattle.readback_laws.proofs.HeldFields.{field_held}
use Rattle.readback_laws.proofs.SettledObjects.{AreSettled}

-- so many bytes lie between two places
slice_long : (bytes : List ℕ) (from to : ℕ) → from ≤ to → to ≤ length bytes → length (slice_range bytes from to) ≡ to - from
slice_long bytes from to up within = length-take (to - from) (drop from bytes) ∙ (let long = length-drop from bytes in omega arith)

-- fields that are apart begin within the bytes,
apart_inside : (from end : ℕ) (fields : List FieldInCode) → AreApart from end fields → from ≤ end
apart_inside from end [] apart = apart
apart_inside from end (field ∷ fields) apart = let later = apart_inside (field.at + width field.size) end fields apart.1 in omega (arith, later, apart.0)

-- and what is apart from a place on is so from one before it
apart_before : (from earlier end : ℕ) (fields : List FieldInCode) → earlier ≤ from → AreApart from end fields → AreApart earlier end fields
apart_before from earlier end [] less apart = omega (arith, less, apart)
apart_before from earlier end (field ∷ fields) less apart = (omega (arith, less, apart.0), apart.1)

-- a piece, and one that begins where it ends, are one
pieces_join : (bytes one other : List ℕ) (at : ℕ) → PieceAt bytes at one → PieceAt bytes (at + length one) other → PieceAt bytes at (one ++ other)
pieces_join bytes one other at first last =
    let long : length (first.front ++ one) ≡ at + length one = length-append first.front one ∙ ap (λ n. n + length one) first.long in
    let rest : first.rest ≡ other ++ last.rest =
    sym (drop_at (first.front ++ one) first.rest (at + length one) long)
    ∙ (ap (drop (at + length one)) (append_assoc first.front one first.rest ∙ sym first.whole ∙ last.whole) ∙ drop_at last.front (other ++ last.rest)
    (at + length one) last.long) in
    record {
      front = first.front;
      rest = last.rest;
      long = first.long;
      whole = first.whole ∙ ap (λ (xs : List ℕ). first.front ++ (one ++ xs)) rest ∙ ap (λ (xs : List ℕ). first.front ++ xs)
          (sym (append_assoc one other last.rest));
    }

-- the bytes in the middle
middle : (front bytes more : List ℕ) (at : ℕ) → length front ≡ at → slice_range (front ++ (bytes ++ more)) at (at + length bytes) ≡ bytes
middle front bytes more at long =
    let count : at + length bytes - at ≡ length bytes = omega arith in
    ap (λ n. take n (drop at (front ++ (bytes ++ more)))) count
    ∙ (ap (take (length bytes)) (drop_at front (bytes ++ more) at long) ∙ take-append_seam bytes more)

-- the element behind others
get_behind : {X : Type 0} (xs : List X) (x : X) (ys : List X) → slice_get (xs ++ (x ∷ ys)) (length xs) ≡ Some x
get_behind [] x ys = refl
get_behind (y ∷ xs) x ys = get_behind xs x ys

module _ (settled : AreSettled) (symbols : SymbolMap) (sections : List LooseSection) (laid : LaidSections) (n item offset : ℕ) (pos : Pos) (code : List ℕ) (all : List FieldInCode)
    (is : layout_of symbols sections ≡ Ok laid) (stands : CodeStandsAt sections n item offset pos code all)
    (stand : FieldsStand stands.section.bytes 0 stands.section.fields)
    (takes : (stands.section.kind == 8) ≡ false) where
  abbrev section : LooseSection
  section = stands.section

  -- how far its rows are moved
  abbrev own : List ℕ
  own = (settled.layouts.section symbols sections laid n section is stands.found).0

  -- the section as it is laid out
  abbrev kept : SectionOf LaidItem
  kept = kept_section symbols own section

  found : slice_get laid n ≡ Some kept
  found = (settled.layouts.section symbols sections laid n section is stands.found).1

  filed : IsFiled laid n kept
  filed = record {
    found = found;
    takes_bytes = takes;
    laid = settled.layouts.placed symbols sections laid n kept is found;
    sized = settled.layouts.sized symbols sections laid n kept is found;
  }

  -- the place of a plain byte in the file
  abbrev file_at : ℕ → ℕ
  file_at at = section_offset symbols laid n + moved kept.items item at

  abbrev image : List ℕ
  image = image_of symbols laid

  abbrev place : FieldInCode → Field
  place field = field_in pos n item offset field

  -- the bytes of a field with its value
  abbrev valued : FieldInCode → List ℕ
  valued field = low_bytes field.size (final_value symbols laid (place field))

  between : (from to : ℕ) → offset ≤ from → to ≤ offset + length code → IsBetween kept.items item from to
  between from to up within = record {
    before = All-weaker (λ (i : LaidItem). i.offset ≤ offset) (λ (i : LaidItem). i.offset ≤ from) (λ i low. omega (arith, low, up)) _
        (settled.layouts.first offset item section.items own stands.items_before);
    behind = All-weaker (λ (i : LaidItem). offset + length code ≤ i.offset) (λ (i : LaidItem). to ≤ i.offset) (λ i high. omega (arith, high, within)) _
        (settled.layouts.others (offset + length code) item section.items own stands.items_behind);
  }

  -- plain bytes beside all fields
  plain_there : (front more bytes : List ℕ) (from : ℕ) → offset ≤ from → from + length bytes ≤ offset + length code → length front ≡ from
      → section.bytes ≡ front ++ (bytes ++ more)
      → All (IsBeside from (from + length bytes)) section.fields → PieceAt image (file_at from) bytes
  plain_there front more bytes from up within long there free =
      let whole : length section.bytes ≡ from + length (bytes ++ more) = ap (λ (xs : List ℕ). length xs) there ∙ length-append front (bytes ++ more) ∙ ap
      (λ k. k + length (bytes ++ more)) long in
      settled.bytes symbols laid n item from kept bytes filed (omega (arith, whole))
      (ap (λ (xs : List ℕ). slice_range xs from (from + length bytes)) there ∙ middle front bytes more from long)
      (settled.layouts.beside symbols from (from + length bytes) section.fields free) (between from (from + length bytes) up within)

  -- a field of the instruction is there
  field_got : (earlier more : List Field) (field : FieldInCode) → section.fields ≡ earlier ++ (place field ∷ more)
      → slice_get (map (substituted_field (linked symbols)) section.fields) (length earlier) ≡ Some (substituted_field (linked symbols) (place field))
  field_got earlier more field there =
      let substituted = substituted_field (linked symbols) in
      slice_get-map substituted section.fields (length earlier)
      ∙ ap (option_map substituted) (ap (λ (fs : List Field). slice_get fs (length earlier)) there ∙ get_behind earlier (place field) more)

  -- with its value
  field_there : (earlier more : List Field) (field : FieldInCode) → field.at + width field.size ≤ length code
      → section.fields ≡ earlier ++ (place field ∷ more)
      → PieceAt image (file_at (offset + field.at)) (valued field)
  field_there earlier more field within there =
      settled.values symbols laid n (length earlier) kept (substituted_field (linked symbols) (place field)) filed
      (settled.layouts.stand symbols section.bytes 0 section.fields stand)
      (field_got earlier more field there)
      (between (offset + field.at) (offset + field.at + width field.size) (omega arith) (omega (arith, within)))

  -- the field holds its final value
  abbrev pub Holds : FieldInCode → Type 0
  Holds field = holds field.role.kind field.size (final_value symbols laid (place field)) ≡ true

  fields_hold : (earlier : List Field) (fields : List FieldInCode) → section.fields ≡ earlier ++ (map place fields ++ stands.fields_there.others)
      → All Holds fields
  fields_hold earlier [] there = All-nil Holds
  fields_hold earlier (field ∷ fields) there =
      All-cons Holds field fields
      (field_held symbols sections laid n (length earlier) kept (place field) is found
      (field_got earlier (map place fields ++ stands.fields_there.others) field there))
      (fields_hold (earlier ++ place field ∷ []) fields
      (there ∙ sym (append_assoc earlier (place field ∷ []) (map place fields ++ stands.fields_there.others))))

  pub all_hold : All Holds all
  all_hold = fields_hold stands.fields_there.earlier all stands.fields_there.there

  later_fields : (from : ℕ) (fields : List FieldInCode) → AreApart from (length code) fields → All (λ field. offset + from ≤ field.offset) (map place fields)
  later_fields from [] apart = All-nil _
  later_fields from (field ∷ fields) apart =
      All-cons (λ (f : Field). offset + from ≤ f.offset) (place field) (map place fields) (omega (arith, apart.0))
      (later_fields from fields (apart_before (field.at + width field.size) from (length code) fields (omega (arith, apart.0)) apart.1))

  -- the fields of the section stand beside what stands between two fields of the instruction
  beside : (from to : ℕ) (earlier : List Field) (fields : List FieldInCode) → section.fields ≡ earlier ++ (map place fields ++ stands.fields_there.others)
      → All (λ field. field_end field ≤ from) earlier → All (λ field. to ≤ field.offset) (map place fields) → to ≤ offset + length code
      → All (IsBeside from to) section.fields
  beside from to earlier fields are ends begin within =
      subst (All (IsBeside from to)) (sym are)
      (All-append (IsBeside from to) earlier (map place fields ++ stands.fields_there.others)
      (All-weaker (λ (f : Field). field_end f ≤ from) (IsBeside from to) (λ f e. inl e) earlier ends)
      (All-append (IsBeside from to) (map place fields) stands.fields_there.others
      (All-weaker (λ (f : Field). to ≤ f.offset) (IsBeside from to) (λ f b. inr b) (map place fields) begin)
      (All-weaker (λ (f : Field). offset + length code ≤ f.offset) (IsBeside from to)
      (λ f b. inr (omega (arith, b, within))) stands.fields_there.others stands.fields_there.behind)))

  -- what stands from a place of the instruction on
  from_there : (from : ℕ) (fields : List FieldInCode) (front : List ℕ) (earlier : List Field) → AreApart from (length code) fields
      → length front ≡ offset + from
      → section.bytes ≡ front ++ (with_held zeros_in code from fields ++ stands.bytes_there.rest)
      → section.fields ≡ earlier ++ (map place fields ++ stands.fields_there.others)
      → All (λ field. field_end field ≤ offset + from) earlier → PieceAt image (file_at (offset + from)) (with_held valued code from fields)
  from_there from [] front earlier apart long there are ends =
      let rest = drop from code in
      let count = length-drop from code in
      plain_there front stands.bytes_there.rest rest (offset + from) (omega arith) (omega (arith, count, apart)) long there
      (beside (offset + from) (offset + from + length rest) earlier [] are ends (All-nil _) (omega (arith, count, apart)))
  from_there from (field ∷ fields) front earlier apart long there are ends =
      let next = field.at + width field.size in
      let inside = apart_inside next (length code) fields apart.1 in
      let slice = slice_range code from field.at in
      let count = slice_long code from field.at apart.0 (omega (arith, inside)) in
      let later = with_held zeros_in code next fields in
      let tail = with_held valued code next fields in
      let zeros : List ℕ = zeros_in field in
      let size : length zeros ≡ width field.size = length-replicate {A = ℕ} (width field.size) 0 in
      let value_size : length (valued field) ≡ width field.size = low_length field.size (final_value symbols laid (place field)) in
      let split : section.bytes ≡ front ++ (slice ++ ((zeros ++ later) ++ stands.bytes_there.rest)) = there ∙ ap (λ (xs : List ℕ). front ++ xs)
      (append_assoc slice (zeros ++ later) stands.bytes_there.rest) in
      let stop : offset + from + length slice ≡ offset + field.at = omega (arith, count, apart.0) in
      let first : PieceAt image (file_at (offset + from)) slice =
      plain_there front ((zeros ++ later) ++ stands.bytes_there.rest) slice (offset + from) (omega arith) (omega (arith, stop, inside)) long split
      (beside (offset + from) (offset + from + length slice) earlier (field ∷ fields) are ends
      (subst (λ k. All (λ (f : Field). k ≤ f.offset) (map place (field ∷ fields))) (sym stop) (later_fields field.at (field ∷ fields) (omega arith, apart.1)))
      (omega (arith, stop, inside))) in
      let second : PieceAt image (file_at (offset + field.at)) (valued field) = field_there earlier
      (map place fields ++ stands.fields_there.others) field inside are in
      let front_long : length (front ++ (slice ++ zeros)) ≡ offset + next =
      (let one = length-append front (slice ++ zeros) in let two = length-append slice zeros in omega (arith, one, two, long, stop, size)) in
      let front_there : section.bytes ≡ (front ++ (slice ++ zeros)) ++ (later ++ stands.bytes_there.rest) =
      split ∙ ap (λ (xs : List ℕ). front ++ (slice ++ xs)) (append_assoc zeros later stands.bytes_there.rest)
      ∙ ap (λ (xs : List ℕ). front ++ xs) (sym (append_assoc slice zeros (later ++ stands.bytes_there.rest))) ∙ sym
      (append_assoc front (slice ++ zeros) (later ++ stands.bytes_there.rest)) in
      let third : PieceAt image (file_at (offset + next)) tail =
      from_there next fields (front ++ (slice ++ zeros)) (earlier ++ place field ∷ []) apart.1 front_long front_there
      (are ∙ sym (append_assoc earlier (place field ∷ []) (map place fields ++ stands.fields_there.others)))
      (All-append (λ (f : Field). field_end f ≤ offset + next) earlier (place field ∷ [])
      (All-weaker (λ (f : Field). field_end f ≤ offset + from) (λ (f : Field). field_end f ≤ offset + next) (λ f e. omega (arith, e, apart.0)) earlier ends)
      (All-cons (λ (f : Field). field_end f ≤ offset + next) (place field) [] (omega arith) (All-nil _))) in
      let at_field : file_at (offset + field.at) ≡ file_at (offset + from) + length slice = omega (arith, stop) in
      let at_next : file_at (offset + next) ≡ file_at (offset + field.at) + length (valued field) = omega (arith, value_size) in
      pieces_join image slice (valued field ++ tail) (file_at (offset + from)) first
      (subst (λ k. PieceAt image k (valued field ++ tail)) at_field
      (pieces_join image (valued field) tail (file_at (offset + field.at)) second (subst (λ k. PieceAt image k tail) at_next third)))

  -- the bytes of the instruction with its final values
  pub code_there : PieceAt image (file_place symbols laid n item offset) (with_held valued code 0 all)
  code_there =
      let start : offset + 0 ≡ offset = omega arith in
      let place_is : file_at (offset + 0) ≡ file_place symbols laid n item offset =
      ap file_at start ∙ ap (λ f. section_offset symbols laid n + option_map_or (λ (s : SectionOf LaidItem). moved s.items item offset) f 0) (sym found) in
      subst (λ k. PieceAt image k (with_held valued code 0 all)) place_is
      (from_there 0 all stands.bytes_there.front stands.fields_there.earlier (apart_before 1 0 (length code) all (omega arith) stands.apart)
      (stands.bytes_there.long ∙ sym start) stands.bytes_there.there stands.fields_there.there
      (subst (λ k. All (λ (f : Field). field_end f ≤ k) stands.fields_there.earlier) (sym start) stands.fields_there.before))
