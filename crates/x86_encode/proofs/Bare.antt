-- Instructions without operands: the table has one row for each name and size.
use Rattle.std.proofs.Common.{◌≡◌, ◌==◌, ◌&&◌, ◌∷◌, ◌∙◌, if◌then◌else◌, Bool, List, None, Option, Some, [], ap, eq-eqb, false, not, option_map, refl, slice_get, subst, suc, sym, true, zero, ℕ, Ok}
use Rattle.std.proofs.lemmas.Bool.{and_from, and_parts, and_right, both_ways, eqb-true, not-true}
use Rattle.x86_insn.specs.declared.insns.Prefix.{Prefix}
use Rattle.x86_insn.specs.declared.insns.Prefix.TheVariants as prefix
use Rattle.x86_insn.specs.declared.amounts.Values.{Values}
use Rattle.x86_table.specs.declared.forms.Row.{Row}
use Rattle.x86_table.specs.declared.forms.Immediate.{Immediate}
use Rattle.x86_table.specs.declared.forms.Pattern.{Pattern}
use Rattle.x86_table.specs.declared.forms.Shape.{Shape}
use Rattle.x86_table.specs.declared.forms.Immediate.TheVariants as immediate
use Rattle.x86_table.specs.declared.forms.Pattern.TheVariants as pattern
use Rattle.x86_table.specs.declared.forms.Shape.TheVariants as shape
use Rattle.x86_insn.specs.Views.{Seen, absent, View}
use Rattle.x86_table.specs.Bytes.{bytes_of, rex_bits, rex_byte}
use Rattle.x86_table.specs.Fields.{Fields}
use Rattle.x86_table.specs.Fits.{fields_fit, fits}
use Rattle.x86_table.specs.Reads.{shown}
use Rattle.x86_table.specs.Rows.{the_rows}
use Rattle.x86_table.specs.declared.mnemonics.integers.TheConstants.{MOV, MOVABS}
use Rattle.x86_parts.specs.Building.{is_held, is_low, is_reg, is_rm, chosen, pick, low_of, reg_of, rm_operand, held_in, wants_one, without_rex, built, same_operand, shows, takes}
use Rattle.x86_parts.specs.Codes.{named, meant, normal}
use Rattle.x86_parts.specs.Filling.{Coding}
use Rattle.x86_lookup.specs.Keys.{has_bit}
use Rattle.x86_parts.specs.Keys.{sorts, admits}
use Rattle.x86_encode.specs.Encoding.{RowAt, RowCoding, coding_by, coding_of, coding_at, encoding_by, encoding_of, ordered_coding, shortest_row}
use Rattle.x86_encode.specs.EncodingLaws.{is_absent, is_bare, no_fields, IsBareAs}
use Rattle.x86_encode.proofs.Best.{some_is}
use Rattle.x86_encode.proofs.Coded.{coding_plain}
use Rattle.x86_encode.proofs.Complete.{taken}
use Rattle.x86_encode.proofs.Keyed.{admitted}
use Rattle.x86_encode.proofs.Shortest.{Least, found_at, least_row}

-- THE TABLE

-- the two have one name and size
abbrev pub same_head : Row → Row → Bool
same_head r s = (r.name.0 == s.name.0) && (r.size == s.size)

-- of rows without operands none has the name and size
abbrev pub none_like : Row → List Row → Bool
none_like r [] = true
none_like r (s ∷ rows) = not (same_head r s && is_bare s) && none_like r rows

-- the same of a row, if it has no operands
abbrev pub apart_if : Bool → Row → List Row → Bool
apart_if true r rows = none_like r rows
apart_if false r rows = true

-- no two rows without operands have one name and size
abbrev pub all_apart : List Row → Bool
all_apart [] = true
all_apart (r ∷ rows) = apart_if (is_bare r) r rows && all_apart rows

apart : all_apart the_rows ≡ true
unfolding the_rows
apart = refl

-- a row shows no operands only where it has none, and its fields fit it then
abbrev pub bare_fits : Bool → Row → Bool
bare_fits true r = (reg_of r.shape absent == 0) && fits r no_fields
bare_fits false r = not (has_bit (sorts r.shape r.first) 0 && (has_bit (sorts r.shape r.second) 0 && has_bit (sorts r.shape r.third) 0))

-- the same of each of these rows
abbrev pub all_bare_fit : List Row → Bool
all_bare_fit [] = true
all_bare_fit (r ∷ rows) = bare_fits (is_bare r) r && all_bare_fit rows

bare_fit : all_bare_fit the_rows ≡ true
unfolding the_rows fits fields_fit bytes_of rex_bits rex_byte
bare_fit = refl

bare_fit_in : (rows : List Row) (i : ℕ) (r : Row) → all_bare_fit rows ≡ true → slice_get rows i ≡ Some r → bare_fits (is_bare r) r ≡ true
bare_fit_in [] i r a h = cc
bare_fit_in (x ∷ rows) zero r a h = subst (λ (y : Row). bare_fits (is_bare y) y ≡ true) (some_is h) (and_parts (bare_fits (is_bare x) x) (all_bare_fit rows) a).0
bare_fit_in (x ∷ rows) (suc i) r a h = bare_fit_in rows i r (and_parts (bare_fits (is_bare x) x) (all_bare_fit rows) a).1 h

bare_fit_at : (i : ℕ) (r : Row) → slice_get the_rows i ≡ Some r → bare_fits (is_bare r) r ≡ true
bare_fit_at i r h = bare_fit_in the_rows i r bare_fit h

-- ONE ROW

not_like : (r : Row) (rows : List Row) (j : ℕ) (s : Row) → none_like r rows ≡ true → slice_get rows j ≡ Some s → same_head r s ≡ true
    → is_bare s ≡ true → ⊥
not_like r [] j s a h e b = cc
not_like r (x ∷ rows) zero s a h e b =
    let k : not (same_head r s && is_bare s) ≡ true = subst (λ (y : Row). not (same_head r y && is_bare y) ≡ true) (some_is h) (and_parts (not (same_head r x && is_bare x)) (none_like r rows) a).0 in
    both_ways (same_head r s && is_bare s) (not-true _ k) (and_from _ _ e b)
not_like r (x ∷ rows) (suc j) s a h e b = not_like r rows j s (and_parts (not (same_head r x && is_bare x)) (none_like r rows) a).1 h e b

apart_of : (t : Bool) (r : Row) (rows : List Row) → t ≡ true → apart_if t r rows ≡ true → none_like r rows ≡ true
apart_of true r rows e h = h
apart_of false r rows e h = cc

turned_head : (r s : Row) → same_head r s ≡ true → same_head s r ≡ true
turned_head r s h =
    let p = and_parts (r.name.0 == s.name.0) (r.size == s.size) h in
    and_from _ _ (eq-eqb _ _ (sym (eqb-true r.name.0 s.name.0 p.0))) (eq-eqb _ _ (sym (eqb-true r.size s.size p.1)))

one_row : (rows : List Row) (i j : ℕ) (r s : Row) → all_apart rows ≡ true → slice_get rows i ≡ Some r → slice_get rows j ≡ Some s
    → is_bare r ≡ true → is_bare s ≡ true → same_head r s ≡ true → r ≡ s
one_row [] i j r s a e f b d h = cc
one_row (x ∷ rows) zero zero r s a e f b d h = some_is (sym e ∙ f)
one_row (x ∷ rows) zero (suc j) r s a e f b d h =
    let p = and_parts (apart_if (is_bare x) x rows) (all_apart rows) a in
    let k : none_like r rows ≡ true = apart_of (is_bare r) r rows b (subst (λ (y : Row). apart_if (is_bare y) y rows ≡ true) (some_is e) p.0) in
    absurd (not_like r rows j s k f h d)
one_row (x ∷ rows) (suc i) zero r s a e f b d h =
    let p = and_parts (apart_if (is_bare x) x rows) (all_apart rows) a in
    let k : none_like s rows ≡ true = apart_of (is_bare s) s rows d (subst (λ (y : Row). apart_if (is_bare y) y rows ≡ true) (some_is f) p.0) in
    absurd (not_like s rows i r k e (turned_head r s h) b)
one_row (x ∷ rows) (suc i) (suc j) r s a e f b d h = one_row rows i j r s (and_parts (apart_if (is_bare x) x rows) (all_apart rows) a).1 e f b d h

-- WHAT A ROW MAKES OF NO OPERANDS

normal_absent : (i : Immediate) (q : Pattern) → normal i q absent ≡ absent
normal_absent i pattern.Absent = refl
normal_absent i (pattern.RegMem c n) = refl
normal_absent i (pattern.Reg c) = refl
normal_absent i (pattern.Low c) = refl
normal_absent i (pattern.Accumulator c) = refl
normal_absent i pattern.Cl = refl
normal_absent i pattern.One = refl
normal_absent i pattern.Immediate = refl
normal_absent i pattern.Target = refl

chosen_absent : (a b c : Bool) → chosen a b c absent absent absent ≡ absent
chosen_absent true b c = refl
chosen_absent false true c = refl
chosen_absent false false true = refl
chosen_absent false false false = refl

rm_absent : (m : Shape) → rm_operand m absent ≡ absent
rm_absent shape.Plain = refl
rm_absent shape.Low = refl
rm_absent shape.LowNotFirst = refl
rm_absent (shape.Fixed b) = refl
rm_absent (shape.Digit d m) = refl
rm_absent (shape.Slash m) = refl

low_absent : (m : Shape) → low_of m absent ≡ 0
low_absent shape.Plain = refl
low_absent shape.Low = refl
low_absent shape.LowNotFirst = refl
low_absent (shape.Fixed b) = refl
low_absent (shape.Digit d m) = refl
low_absent (shape.Slash m) = refl

held_absent : (i : Immediate) → held_in i absent ≡ Some 0
held_absent immediate.Absent = refl
held_absent immediate.Byte = refl
held_absent immediate.Count = refl
held_absent immediate.Sext16 = refl
held_absent immediate.Sext32 = refl
held_absent immediate.Sext64 = refl
held_absent immediate.Word = refl
held_absent immediate.Long = refl
held_absent immediate.LongSext = refl
held_absent immediate.Quad = refl
held_absent immediate.Rel8 = refl
held_absent immediate.Short = refl
held_absent immediate.Rel32 = refl

shown_absent : (rex : Bool) (len : ℕ) (p : Fields) (q : Pattern) → is_absent q ≡ true → shown rex len p q ≡ absent
shown_absent rex len p pattern.Absent h = refl
shown_absent rex len p (pattern.RegMem c n) h = cc
shown_absent rex len p (pattern.Reg c) h = cc
shown_absent rex len p (pattern.Low c) h = cc
shown_absent rex len p (pattern.Accumulator c) h = cc
shown_absent rex len p pattern.Cl h = cc
shown_absent rex len p pattern.One h = cc
shown_absent rex len p pattern.Immediate h = cc
shown_absent rex len p pattern.Target h = cc

-- the instruction without operands of a row
abbrev bare_view : Row → View
bare_view r = record { name = r.name; size = r.size; «prefix» = prefix.Absent; first = absent; second = absent; third = absent }

pick_absent : (f : Pattern → Bool) (r : Row) → pick f r (bare_view r) ≡ absent
unfolding pick
pick_absent f r = rw (normal_absent r.immediate r.first, normal_absent r.immediate r.second, normal_absent r.immediate r.third) (chosen_absent (f r.first) (f r.second) (f r.third))

wants_absent : (r : Row) → wants_one r (bare_view r) ≡ false
wants_absent r = rw (normal_absent r.immediate r.first, normal_absent r.immediate r.second, normal_absent r.immediate r.third) refl

core_bare : (r : Row) → reg_of r.shape absent ≡ 0 → without_rex r (bare_view r) ≡ no_fields
unfolding without_rex
core_bare r h = rw (pick_absent is_rm r, pick_absent is_reg r, pick_absent is_low r, pick_absent is_held r, rm_absent r.shape, h, low_absent r.shape, held_absent r.immediate) refl

built_bare : (r : Row) → reg_of r.shape absent ≡ 0 → built r (bare_view r) ≡ no_fields
unfolding built
built_bare r h = rw (core_bare r h, wants_absent r, and_right (rex_bits r no_fields == 0) false refl) refl

same_absent : (i : Immediate) (rex : Bool) (len : ℕ) (p : Fields) (q : Pattern) → is_absent q ≡ true
    → same_operand (normal i q absent) (shown rex len p q) ≡ true
same_absent i rex len p q h = rw (normal_absent i q, shown_absent rex len p q h) refl

-- the row takes it
takes_bare : (r : Row) → is_bare r ≡ true → bare_fits true r ≡ true → takes r (bare_view r) ≡ true
unfolding takes shows
takes_bare r b h =
    let k = and_parts (reg_of r.shape absent == 0) (fits r no_fields) h in
    let e = built_bare r (eqb-true _ _ k.0) in
    let p = and_parts (is_absent r.first) (is_absent r.second && is_absent r.third) b in
    let q = and_parts (is_absent r.second) (is_absent r.third) p.1 in
    rw e (and_from _ _ k.1 (and_from _ _ (eq-eqb r.name.0 r.name.0 refl) (and_from _ _ (eq-eqb r.size r.size refl) (and_from _ _ (same_absent r.immediate _ _ no_fields r.first p.0)
    (and_from _ _ (same_absent r.immediate _ _ no_fields r.second q.0) (same_absent r.immediate _ _ no_fields r.third q.1))))))

-- a row that takes it has no operands
bare_by : (b : Bool) (s : Row) → bare_fits b s ≡ true
    → (has_bit (sorts s.shape s.first) 0 && (has_bit (sorts s.shape s.second) 0 && has_bit (sorts s.shape s.third) 0)) ≡ true → b ≡ true
bare_by true s h k = refl
bare_by false s h k = absurd (both_ways _ (not-true _ h) k)

takes_only : (r s : Row) (j : ℕ) → slice_get the_rows j ≡ Some s → takes s (bare_view r) ≡ true → (is_bare s ≡ true) × (same_head r s ≡ true)
unfolding admits
takes_only r s j f t =
    let x = has_bit (sorts s.shape s.first) 0 in
    let y = has_bit (sorts s.shape s.second) 0 in
    let z = has_bit (sorts s.shape s.third) 0 in
    let a = and_parts (r.size == s.size) (x && (y && (z && true))) (admitted s (bare_view r) t) in
    let b = and_parts x (y && (z && true)) a.1 in
    let c = and_parts y (z && true) b.1 in
    let d = and_parts z true c.1 in
    let m = (taken s (bare_view r) t).1 in
    (bare_by (is_bare s) s (bare_fit_at j s f) (and_from x (y && z) b.0 (and_from y z c.0 d.0)), and_from (r.name.0 == s.name.0) (r.size == s.size) (eq-eqb r.name.0 s.name.0 m.name) (eq-eqb r.size s.size m.size))

-- THE ENCODING

row_by : (i : ℕ) (r : Row) (o : Option RowAt) → slice_get the_rows i ≡ Some r → is_bare r ≡ true → Least (bare_view r) 0 the_rows o
    → (n : ℕ) × (o ≡ Some (record { row = n; r = r }))
row_by i r None e b k = absurd (k i r e (takes_bare r b (subst (λ (t : Bool). bare_fits t r ≡ true) b (bare_fit_at i r e))))
row_by i r (Some y) e b k =
    let f = found_at (bare_view r) y k in
    let w = takes_only r y.r y.row f k.taken in
    let same : r ≡ y.r = one_row the_rows i y.row r y.r apart e f b w.0 w.1 in
    (y.row, ap (λ (s : Row). Some (record { row = y.row; r = s })) (sym same))

bare_coding : Row → Coding
bare_coding r = record { bytes = bytes_of r no_fields; displacement = None; immediate = None }

coding_bare : (r : Row) → reg_of r.shape absent ≡ 0 → coding_by (bare_view r) r ≡ bare_coding r
unfolding coding_by bare_coding
coding_bare r h = rw (built_bare r h) refl

made_bare : (i : ℕ) (r : Row) → slice_get the_rows i ≡ Some r → is_bare r ≡ true
    → (n : ℕ) × (ordered_coding (bare_view r) ≡ Some (record { row = n; coding = bare_coding r }))
made_bare i r e b =
    let w = row_by i r (shortest_row (bare_view r)) e b (least_row (bare_view r)) in
    let h : reg_of r.shape absent ≡ 0 = eqb-true _ _ (and_parts (reg_of r.shape absent == 0) (fits r no_fields) (subst (λ (t : Bool). bare_fits t r ≡ true) b (bare_fit_at i r e))).0 in
    (w.0, ap (λ (o : Option RowAt). option_map (coding_at (bare_view r)) o) w.1 ∙ ap (λ (c : Coding). Some (record { row = w.0; coding = c })) (coding_bare r h))

-- an instruction by what a view of it says
abbrev view_with : ℕ → ℕ → Prefix → Seen → Seen → Seen → View
view_with name size word first second third = record { name = record { 0 = name }; size = size; «prefix» = word; first = first; second = second; third = third }

view_with_is : (a b c d : ℕ) (p q : Prefix) (x y z u v w : Seen) → a ≡ b → c ≡ d → p ≡ q → x ≡ u → y ≡ v → z ≡ w
    → view_with a c p x y z ≡ view_with b d q u v w
view_with_is a b c d p q x y z u v w e f g h i j = rw (e, f, g, h, i, j) refl

view_is : (r : Row) (insn : View) → IsBareAs r insn → insn ≡ bare_view r
view_is r insn h = view_with_is insn.name.0 r.name.0 insn.size r.size insn.«prefix» prefix.Absent insn.first insn.second insn.third absent absent absent h.name h.size h.words h.first h.second h.third

meant_bare : (r : Row) → meant (bare_view r) ≡ bare_view r
meant_bare r =
    let h : ((r.name.0 == MOV) && ((r.size == 64) && false)) ≡ false = and_right (r.name.0 == MOV) ((r.size == 64) && false) (and_right (r.size == 64) false refl) in
    ap (λ (b : Bool). named (record { 0 = if b then MOVABS else r.name.0 }) (bare_view r)) h

pub bare_encoding : (shape : Values → View) (values : Values) (i : ℕ) (r : Row) → slice_get the_rows i ≡ Some r → is_bare r ≡ true
    → IsBareAs r (shape values)
    → encoding_of shape values ≡ Ok (record { bytes = bytes_of r no_fields; displacement = None; immediate = None })
unfolding encoding_of bare_coding
bare_encoding shape values i r e b h =
    let v : meant (shape values) ≡ bare_view r = ap meant (view_is r (shape values) h) ∙ meant_bare r in
    let k = made_bare i r e b in
    let c : coding_of (bare_view r) ≡ Some (record { row = k.0; coding = bare_coding r }) = coding_plain (bare_view r) (and_right _ false refl) (and_right _ false refl) ∙ k.1 in
    ap (λ (x : View). encoding_by shape values (coding_of x)) v ∙ ap (λ (x : Option RowCoding). encoding_by shape values x) c
