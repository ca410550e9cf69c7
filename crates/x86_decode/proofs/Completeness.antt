-- All that reads is decoded.
use Rattle.std.proofs.Common.{◌≡◌, ◌<◌, ℕ, ◌+◌, ◌%◌, List, [], ◌∷◌, ◌++◌, length, Bool, true, false, Some, refl, arith, ap, ◌∙◌, inl, inr, eq-eqb, zero, suc, slice_get, take}
use Rattle.std.proofs.lemmas.Bool.{and_from, cases_Bool}
use Rattle.std.specs.Str.{bytes_eq}
use Rattle.x86_insn.specs.Views.{View}
use Rattle.x86_table.specs.declared.forms.Map.{Map}
use Rattle.x86_table.specs.declared.forms.Row.{Row}
use Rattle.x86_table.specs.Rows.{the_rows}
use Rattle.x86_table.specs.Fields.{Fields}
use Rattle.x86_table.specs.Bytes.{bytes_of}
use Rattle.x86_table.specs.Fits.{fits}
use Rattle.x86_table.specs.Reads.{ReadsRow, Reads, meaning}
use Rattle.x86_table.specs.Leads.{HeadsTellRows}
use Rattle.x86_decode.specs.Heads.{Head}
use Rattle.x86_decode.specs.Admitting.{admits}
use Rattle.x86_decode.specs.Decoding.{Front, shown_if, first_row, decoded, Begins}
use Rattle.x86_decode.proofs.FieldFacts.{TableLaws, fit_of}
use Rattle.x86_decode.proofs.HeadBytes.{behind_opcode, head_with, head_read, map_read}
use Rattle.x86_decode.proofs.FieldsBack.{fields_read}
use Rattle.x86_decode.proofs.SharedHeads.{admit_one}
use Rattle.x86_decode.proofs.OwnRows.{own_admits}

-- the one row that passes is the first one
alone : (p : Row → Bool) (rows : List Row) (i : ℕ) (r : Row) → slice_get rows i ≡ Some r → p r ≡ true
    → ((j : ℕ) (s : Row) → j < i → slice_get rows j ≡ Some s → p s ≡ false) → first_row p rows ≡ Some r
alone p [] i r e f g = cc
alone p (s ∷ rows) zero r e f g = let same : s ≡ r = cc in rw (same, f) refl
alone p (s ∷ rows) (suc i) r e f g =
    let rest = alone p rows i r e f (λ j t l q. g (suc j) t (omega arith) q) in
    rw (g 0 s (omega arith) refl, rest) refl

-- another row does not admit the head
other_row : HeadsTellRows → (m : Map) (h : Head) (o : ℕ) (tail : List ℕ) (r s : Row) (i j : ℕ) → slice_get the_rows i ≡ Some r → slice_get the_rows j ≡ Some s → j < i
    → admits m h o tail r ≡ true → admits m h o tail s ≡ false
other_row tell m h o tail r s i j e f l a = elim (cases_Bool (admits m h o tail s)) [
  | inl b ↦ let same = tell i j r s e f (admit_one m h o tail r s a b) (admit_one m h o tail s r b a) in absurd (omega arith)
  | inr b ↦ b
]

pub found : HeadsTellRows → (m : Map) (h : Head) (o : ℕ) (tail : List ℕ) (r : Row) (i : ℕ) → slice_get the_rows i ≡ Some r → admits m h o tail r ≡ true
    → first_row (admits m h o tail) the_rows ≡ Some r
found tell m h o tail r i e a = alone (admits m h o tail) the_rows i r e a (λ j s l f. other_row tell m h o tail r s i j e f l a)

bytes_same : (xs : List ℕ) → bytes_eq xs xs ≡ true
bytes_same [] = refl
bytes_same (x ∷ xs) = and_from _ _ (eq-eqb x x refl) (bytes_same xs)

take_front : (xs ys : List ℕ) → take (length xs) (xs ++ ys) ≡ xs
take_front [] ys = refl
take_front (x ∷ xs) ys = ap (λ rest. x ∷ rest) (take_front xs ys)

shown : (r : Row) (p : Fields) (more : List ℕ) → fits r p ≡ true
    → shown_if (bytes_of r p ++ more) r p ≡ Some (record { insn = meaning r p; len = length (bytes_of r p) })
shown r p more f = rw (f, take_front (bytes_of r p) more, bytes_same (bytes_of r p)) refl

-- the bytes of a row and fields that fit it
row_decoded : TableLaws → (i : ℕ) (r : Row) (p : Fields) (more : List ℕ) (x : List ℕ) (insn : View) → ReadsRow x insn i r p
    → decoded (bytes_of r p ++ more) ≡ Some (record { insn = meaning r p; len = length (bytes_of r p) })
unfolding decoded
row_decoded laws i r p more x insn reads =
    let f = fit_of laws i r p reads.found reads.fit in
    let tail : List ℕ = behind_opcode r p ++ more in
    let h : Head = head_with r p tail in
    let m = map_read r.map (r.code + p.low % 8) tail f.leads.opcode in
    let row = found laws.tell r.map h (r.code + p.low % 8) tail r i reads.found (own_admits r p tail more f) in
    rw (head_read r p more f.leads, m.same, m.past, row, fields_read r p more f reads.held_known reads.place_known) (shown r p more reads.fit)

pub found_begins : TableLaws → (bytes : List ℕ) (front : Front) → Begins bytes front → decoded bytes ≡ Some front
found_begins laws bytes front b = known b.reads
  where
    known : Reads b.own front.insn → decoded bytes ≡ Some front
    known (i, r, p, reads) =
        let all : bytes ≡ bytes_of r p ++ b.more = b.parted ∙ ap (λ (own : List ℕ). own ++ b.more) reads.bytes_are in
        let len : front.len ≡ length (bytes_of r p) = b.counted ∙ ap length reads.bytes_are in
        rw (all, row_decoded laws i r p b.more b.own front.insn reads) (rw (← len, ← reads.insn_is) refl)
