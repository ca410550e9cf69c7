-- Plain bytes and fields over them stay sound where more come.
use Rattle.std.proofs.Common.{◌≡◌, ℕ, zero, suc, ◌+◌, ◌-◌, ◌^◌, ◌≤◌, List, [], ◌∷◌, ◌++◌, length, take, drop, replicate, refl, sym, ap, ◌∙◌, arith, length-append, length-drop}
use Rattle.std.specs.Prelude.{slice_range}
use Rattle.std.proofs.lemmas.List.{take-append-le, drop-append-le, append-nil}
use Rattle.std.proofs.lemmas.List.Elements.{All-append}
use Rattle.std.proofs.Math.Seq.{drop-append_seam}
use Rattle.asm_frags.specs.declared.fields.Field.{Field}
use Rattle.asm_frags.specs.declared.items.Frag.{Frag}
use Rattle.asm_frags.specs.PlainBytes.{covered, field_end, IsBlank, FieldsStand, AreBytes}
use Rattle.asm_frags.specs.SoundItems.{AreBehind}

range-more : (xs ys : List ℕ) (from to : ℕ) → from ≤ to → to ≤ length xs → slice_range (xs ++ ys) from to ≡ slice_range xs from to
range-more xs ys from to up within =
    let inside : from ≤ length xs = omega arith in
    let long : to - from ≤ length (drop from xs) = omega (arith, length-drop from xs) in
    ap (λ (zs : List ℕ). take (to - from) zs) (drop-append-le from xs ys inside) ∙ take-append-le (to - from) (drop from xs) ys long

blank-more : (bytes more : List ℕ) (field : Field) → IsBlank bytes field → IsBlank (bytes ++ more) field
blank-more bytes more field blank = record {
  within = let fits = blank.within in omega (arith, length-append bytes more);
  zeros = range-more bytes more field.offset (field_end field) (omega arith) blank.within ∙ blank.zeros;
}

stand-more : (bytes more : List ℕ) (from : ℕ) (fields : List Field) → FieldsStand bytes from fields → FieldsStand (bytes ++ more) from fields
stand-more bytes more from [] stand = tt
stand-more bytes more from (field ∷ fields) stand = (stand.0, blank-more bytes more field stand.1, stand-more bytes more (field_end field) fields stand.2)

whole : (count : ℕ) → take {A = ℕ} count (replicate count 0) ≡ replicate count 0
whole zero = refl
whole (suc count) = ap (λ (zs : List ℕ). 0 ∷ zs) (whole count)

size_known : (count : ℕ) → length {A = ℕ} (replicate count 0) ≡ count
size_known zero = refl
size_known (suc count) = ap suc (size_known count)

-- zeros behind the bytes, from there on
zeros-behind : (bytes : List ℕ) (count : ℕ) → slice_range (bytes ++ replicate count 0) (length bytes) (length bytes + count) ≡ replicate count 0
zeros-behind bytes count =
    let behind : length bytes + count - length bytes ≡ count = omega arith in
    ap (λ (n : ℕ). take n (drop (length bytes) (bytes ++ replicate count 0))) behind
    ∙ ap (λ (zs : List ℕ). take count zs) (drop-append_seam bytes (replicate count 0)) ∙ whole count

blank-new : (bytes : List ℕ) (field : Field) → field.offset ≡ length bytes → IsBlank (bytes ++ replicate (covered field) 0) field
blank-new bytes field behind = record {
  within = let known = size_known (covered field) in omega (arith, length-append bytes (replicate (covered field) 0));
  zeros = ap (λ (n : ℕ). slice_range (bytes ++ replicate (covered field) 0) n (n + covered field)) behind ∙ zeros-behind bytes (covered field);
}

stand-field : (bytes : List ℕ) (from : ℕ) (fields : List Field) (field : Field) → field.offset ≡ length bytes → from ≤ length bytes → FieldsStand bytes from fields
    → FieldsStand (bytes ++ replicate (covered field) 0) from (fields ++ field ∷ [])
stand-field bytes from [] field behind before stand = (rw behind before, blank-new bytes field behind, tt)
stand-field bytes from (first ∷ fields) field behind before stand =
    (stand.0, blank-more bytes (replicate (covered field) 0) first stand.1, stand-field bytes (field_end first) fields field behind stand.1.within stand.2)

-- bytes more
pub bytes_more : (bytes more all : List ℕ) (fields : List Field) → AreBytes bytes fields → length bytes + length more ≤ 2 ^ 33 → all ≡ bytes ++ more → AreBytes all fields
bytes_more bytes more all fields held small is = rw is (record {
  small = omega (arith, length-append bytes more);
  stand = stand-more bytes more 0 fields held.stand;
})

-- zeros more, with a field over them
pub field_more : (bytes all : List ℕ) (fields every : List Field) (field : Field) → AreBytes bytes fields → length bytes + covered field ≤ 2 ^ 33
    → field.offset ≡ length bytes → all ≡ bytes ++ replicate (covered field) 0 → every ≡ fields ++ field ∷ [] → AreBytes all every
field_more bytes all fields every field held small behind is put = rw (is, put) (record {
  small = let known = size_known (covered field) in omega (arith, length-append bytes (replicate (covered field) 0));
  stand = stand-field bytes 0 fields field behind (omega arith) held.stand;
})

-- items stand behind no more bytes than before
pub behind_more : {P Address : Type 0} (bytes more : List ℕ) (items : List (Frag P Address)) → AreBehind (length bytes) items → AreBehind (length (bytes ++ more)) items
behind_more bytes more items sound k d within = let behind = sound k d within in omega (arith, length-append bytes more)

-- bytes more, behind all items
pub bytes_put_last : {P Address : Type 0} (bytes more all : List ℕ) (fields : List Field) (items : List (Frag P Address)) → AreBytes bytes fields → AreBehind (length bytes) items
    → length bytes + length more ≤ 2 ^ 33 → all ≡ bytes ++ more → AreBytes all fields × AreBehind (length all) items
bytes_put_last bytes more all fields items sound behind small is =
    (bytes_more bytes more all fields sound small is, rw is (behind_more bytes more items behind))

-- zeros more with a field over them, behind all items
pub field_put_last : {P Address : Type 0} (bytes all : List ℕ) (fields every : List Field) (field : Field) (items : List (Frag P Address)) → AreBytes bytes fields
    → AreBehind (length bytes) items → length bytes + covered field ≤ 2 ^ 33 → field.offset ≡ length bytes → all ≡ bytes ++ replicate (covered field) 0
    → every ≡ fields ++ field ∷ [] → AreBytes all every × AreBehind (length all) items
field_put_last bytes all fields every field items sound behind small at is put =
    (field_more bytes all fields every field sound small at is put, rw is (behind_more bytes (replicate (covered field) 0) items behind))

one-behind : {P Address : Type 0} (bytes : ℕ) (item : Frag P Address) → item.offset ≡ bytes → AreBehind bytes (item ∷ [])
one-behind bytes item behind zero d within = omega (arith, behind)
one-behind bytes item behind (suc k) d within = absurd (omega arith)

-- an item more, behind all bytes
pub behind_last : {P Address : Type 0} (bytes : ℕ) (items all : List (Frag P Address)) (item : Frag P Address) → AreBehind bytes items → item.offset ≡ bytes
    → all ≡ items ++ item ∷ [] → AreBehind bytes all
behind_last bytes items all item sound behind is = rw is (All-append (λ item. item.offset ≤ bytes) items (item ∷ []) sound (one-behind bytes item behind))

-- an item more that grows, behind all bytes, with a field over none of them
pub growing_put_last : {P Address : Type 0} (bytes : List ℕ) (fields every : List Field) (field : Field) (items all : List (Frag P Address)) (item : Frag P Address) → AreBytes bytes fields
    → AreBehind (length bytes) items → field.offset ≡ length bytes → every ≡ fields ++ field ∷ [] → item.offset ≡ length bytes → all ≡ items ++ item ∷ [] → covered field ≡ 0
    → AreBytes bytes every × AreBehind (length bytes) all
growing_put_last bytes fields every field items all item sound behind at put new is none =
    let nothing : bytes ≡ bytes ++ replicate (covered field) 0 = rw none (sym (append-nil bytes)) in (
      field_more bytes bytes fields every field sound (let small = sound.small in omega arith) at nothing put,
      behind_last (length bytes) items all item behind new is,
    )
