-- What is decoded is what the bytes begin with.
use Rattle.std.proofs.Common.{◌≡◌, ℕ, ◌+◌, ◌*◌, ◌-◌, ◌/◌, ◌%◌, ◌==◌, ◌&&◌, List, [], ◌∷◌, length, Bool, true, false, if◌then◌else◌, Option, Some, None, refl, sym, ap, ◌∙◌, inl, inr, suc, slice_get, take, drop, ◌++◌}
use Rattle.std.proofs.lemmas.Bool.{and_parts, cases_Bool, eqb-true}
use Rattle.std.proofs.lemmas.List.{take-append-drop}
use Rattle.std.specs.Str.{bytes_eq}
use Rattle.x86_insn.specs.declared.insns.Index.TheVariants as index
use Rattle.x86_table.specs.declared.forms.Shape.{Shape}
use Rattle.x86_table.specs.declared.forms.Shape.TheVariants as shape
use Rattle.x86_table.specs.declared.forms.Row.{Row}
use Rattle.x86_table.specs.Rows.{the_rows}
use Rattle.x86_table.specs.Fields.{Fields}
use Rattle.x86_table.specs.Bytes.{bytes_of}
use Rattle.x86_table.specs.Fits.{fits}
use Rattle.x86_table.specs.Reads.{meaning, is_known, is_known_place}
use Rattle.x86_decode.specs.Heads.{Head, head_of, map_in, past_escapes}
use Rattle.x86_decode.specs.Places.{long_displaced, displaced, width_of, index_in, Placed, rip_placed, bare_placed, based_placed, sib_placed, memory_placed, place_in}
use Rattle.x86_decode.specs.FieldReadings.{rex_value, shaped, fields_in}
use Rattle.x86_decode.specs.Admitting.{admits}
use Rattle.x86_decode.specs.Decoding.{Front, shown_if, first_row, by_row, by_opcode, decoded, Begins}

abbrev Known : Placed → Type 0
Known p = is_known_place p.place ≡ true

known_if : (c : Bool) (a b : Placed) → Known a → Known b → Known (if c then a else b)
known_if true a b f g = f
known_if false a b f g = g

known_sib : (x b mode : ℕ) (bytes : List ℕ) → Known (sib_placed x b mode bytes)
known_sib x b mode [] = refl
known_sib x b mode (s ∷ bytes) = known_if ((mode == 0) && (s % 8 == 5)) (bare_placed (index_in x s) (long_displaced bytes))
    (based_placed (s % 8 + 8 * b) (index_in x s) true (width_of mode) (displaced (width_of mode) bytes)) refl refl

known_memory : (x b mode low : ℕ) (bytes : List ℕ) → Known (memory_placed x b mode low bytes)
known_memory x b mode low bytes = known_if (low == 4) (sib_placed x b mode bytes) (if (mode == 0) && (low == 5) then rip_placed (long_displaced bytes)
    else based_placed (low + 8 * b) index.Absent false (width_of mode) (displaced (width_of mode) bytes)) (known_sib x b mode bytes)
    (known_if ((mode == 0) && (low == 5)) (rip_placed (long_displaced bytes)) (based_placed (low + 8 * b) index.Absent false (width_of mode) (displaced (width_of mode) bytes)) refl refl)

known_place : (x b : ℕ) (bytes : List ℕ) → Known (place_in x b bytes)
unfolding place_in
known_place x b [] = refl
known_place x b (m ∷ bytes) = known_if (m / 64 == 3) _ (memory_placed x b (m / 64) (m % 8) bytes) refl (known_memory x b (m / 64) (m % 8) bytes)

known_shaped : (m : Shape) (above rex : ℕ) (bytes : List ℕ) → is_known_place (shaped m above rex bytes).place ≡ true
known_shaped shape.Plain above rex bytes = refl
known_shaped shape.Low above rex bytes = refl
known_shaped shape.LowNotFirst above rex bytes = refl
known_shaped (shape.Fixed b) above rex bytes = refl
known_shaped (shape.Digit d m) above rex bytes = known_place (rex / 2 % 2) (rex % 2) bytes
known_shaped (shape.Slash m) above rex bytes = known_place (rex / 2 % 2) (rex % 2) bytes

pub place_known : (r : Row) (h : Head) (o : ℕ) (bytes : List ℕ) → is_known_place (fields_in r h o bytes).place ≡ true
unfolding fields_in
place_known r h o bytes = known_shaped r.shape (o - r.code) (rex_value h.rex) bytes

pub held_known : (r : Row) (h : Head) (o : ℕ) (bytes : List ℕ) → is_known (fields_in r h o bytes).held ≡ true
unfolding fields_in
held_known r h o bytes = refl

bytes_are : (xs ys : List ℕ) → bytes_eq xs ys ≡ true → xs ≡ ys
bytes_are [] [] h = refl
bytes_are [] (y ∷ ys) h = cc
bytes_are (x ∷ xs) [] h = cc
bytes_are (x ∷ xs) (y ∷ ys) h =
    let p = and_parts (x == y) (bytes_eq xs ys) h in
    let e = eqb-true x y p.0 in
    let rest = bytes_are xs ys p.1 in
    rw (e, rest) refl

some_is : {A : Type 0} {m n : A} → Some m ≡ Some n → m ≡ n
some_is h = cc

parted : (n : ℕ) (xs own : List ℕ) → own ≡ take n xs → xs ≡ own ++ drop n xs
parted n xs own e = sym (ap (λ (front : List ℕ). front ++ drop n xs) e ∙ take-append-drop n xs)

-- the row stands in the table
pub stands_there : (p : Row → Bool) (rows : List Row) (r : Row) → first_row p rows ≡ Some r → (i : ℕ) × (slice_get rows i ≡ Some r)
stands_there p [] r h = cc
stands_there p (s ∷ rows) r h = elim (cases_Bool (p s)) [
  | inl t ↦ let same : Some s ≡ Some r = rw t at h in (0, same)
  | inr f ↦ let later : first_row p rows ≡ Some r = rw f at h in let rest = stands_there p rows r later in (suc rest.0, rest.1)
]

front_reads : (bytes : List ℕ) (r : Row) (p : Fields) (i : ℕ) (d : Front) → slice_get the_rows i ≡ Some r → is_known p.held ≡ true → is_known_place p.place ≡ true
    → shown_if bytes r p ≡ Some d → Begins bytes d
front_reads bytes r p i d e kh kp h = checked (fits r p && bytes_eq (bytes_of r p) (take (length (bytes_of r p)) bytes)) refl h
  where
    checked : (c : Bool) → (fits r p && bytes_eq (bytes_of r p) (take (length (bytes_of r p)) bytes)) ≡ c
        → (if c then Some (record { insn = meaning r p; len = length (bytes_of r p) }) else None) ≡ Some d → Begins bytes d
    checked false t h = cc
    checked true t h =
        let q = and_parts (fits r p) (bytes_eq (bytes_of r p) (take (length (bytes_of r p)) bytes)) t in
        let same : record { insn = meaning r p; len = length (bytes_of r p) } ≡ d = some_is h in
        let front = bytes_are (bytes_of r p) (take (length (bytes_of r p)) bytes) q.1 in
        rw (← same) (record {
          own = bytes_of r p;
          more = drop (length (bytes_of r p)) bytes;
          parted = parted (length (bytes_of r p)) bytes (bytes_of r p) front;
          counted = refl;
          reads = (i, r, p, record { found = e; fit = q.0; held_known = kh; place_known = kp; bytes_are = refl; insn_is = refl });
        })

row_reads : (bytes : List ℕ) (h : Head) (o : ℕ) (tail : List ℕ) (p : Row → Bool) (d : Front) (found : Option Row) → first_row p the_rows ≡ found
    → by_row bytes h o tail found ≡ Some d → Begins bytes d
row_reads bytes h o tail p d None f e = cc
row_reads bytes h o tail p d (Some r) f e =
    let there = stands_there p the_rows r f in
    front_reads bytes r (fields_in r h o tail) there.0 d there.1 (held_known r h o tail) (place_known r h o tail) e

opcode_reads : (bytes : List ℕ) (h : Head) (rest : List ℕ) (d : Front) → by_opcode bytes h (map_in h.rest) rest ≡ Some d → Begins bytes d
opcode_reads bytes h [] d e = cc
opcode_reads bytes h (o ∷ tail) d e = row_reads bytes h o tail (admits (map_in h.rest) h o tail) d _ refl e

pub decoded_begins : (bytes : List ℕ) (d : Front) → decoded bytes ≡ Some d → Begins bytes d
unfolding decoded
decoded_begins bytes d e = opcode_reads bytes (head_of bytes) (past_escapes (map_in (head_of bytes).rest) (head_of bytes).rest) d e
