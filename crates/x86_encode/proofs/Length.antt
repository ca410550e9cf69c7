-- How many bytes parts have.
use Rattle.std.proofs.Common.{◌≡◌, ◌<◌, ◌≤◌, ◌+◌, ◌*◌, ◌%◌, ◌||◌, ◌∷◌, ◌++◌, Bool, List, None, Option, Some, ap, arith, false, length, nat_lt, refl, true, ℕ}
use Rattle.std.proofs.lemmas.Bool.{lt-ltb}
use Rattle.std.proofs.Math.ListN.{length-append}
use Rattle.x86_insn.specs.declared.insns.Index.{Index}
use Rattle.x86_table.specs.declared.forms.Row.{Row}
use Rattle.x86_table.specs.declared.forms.Immediate.{Immediate}
use Rattle.x86_table.specs.declared.forms.Shape.{Shape}
use Rattle.x86_table.specs.declared.parts.Width.{Width}
use Rattle.x86_table.specs.declared.forms.Immediate.TheVariants as immediate
use Rattle.x86_table.specs.declared.forms.Shape.TheVariants as shape
use Rattle.x86_table.specs.declared.parts.Width.TheVariants as width
use Rattle.x86_table.specs.Bytes.{opt, first_byte, size_byte, repeat_byte, lock_byte, bit, rex_bits, rex_byte, escape_byte, second_escape, displacement_bytes, based_sib, place_bytes, modrm_bytes, immediate_bytes, bytes_of}
use Rattle.x86_table.specs.Fields.{Location, nowhere, direct, from_rip, bare, based, Fields}
use Rattle.x86_parts.specs.Keys.{count, width_length, sib_length, place_length, modrm_length, immediate_length, length_by, modrm_least, least_length}

opt_length : (o : Option ℕ) (xs : List ℕ) → length (opt o ++ xs) ≡ count o + length xs
opt_length None xs = omega arith
opt_length (Some b) xs = omega arith

width_is : (w : Width) (d : Option ℕ) → length (displacement_bytes w d) ≡ width_length w
width_is width.Absent d = refl
width_is width.Byte d = refl
width_is width.Long d = refl

sib_is : (s : Bool) (i : Index) (b : ℕ) → 1 + length (based_sib s i b) ≡ sib_length s
sib_is true i b = refl
sib_is false i b = refl

place_is : (reg : ℕ) (p : Location) → length (place_bytes reg p) ≡ place_length p
place_is reg nowhere = refl
place_is reg (direct n) = refl
place_is reg (from_rip d) = refl
place_is reg (bare i d) = refl
place_is reg (based b i s w d) = omega (arith, length-append (based_sib s i b) (displacement_bytes w d), width_is w d, sib_is s i b)

modrm_is : (m : Shape) (reg : ℕ) (p : Location) → length (modrm_bytes m reg p) ≡ modrm_length m p
modrm_is shape.Plain reg p = refl
modrm_is shape.Low reg p = refl
modrm_is shape.LowNotFirst reg p = refl
modrm_is (shape.Fixed b) reg p = refl
modrm_is (shape.Digit d m) reg p = place_is reg p
modrm_is (shape.Slash m) reg p = place_is reg p

pub immediate_is : (i : Immediate) (v : Option ℕ) → length (immediate_bytes i v) ≡ immediate_length i
immediate_is immediate.Absent v = refl
immediate_is immediate.Byte v = refl
immediate_is immediate.Count v = refl
immediate_is immediate.Sext16 v = refl
immediate_is immediate.Sext32 v = refl
immediate_is immediate.Sext64 v = refl
immediate_is immediate.Word v = refl
immediate_is immediate.Long v = refl
immediate_is immediate.LongSext v = refl
immediate_is immediate.Quad v = refl
immediate_is immediate.Rel8 v = refl
immediate_is immediate.Short v = refl
immediate_is immediate.Rel32 v = refl

-- THE LAW OF THE LENGTH

pub length_is : (r : Row) (p : Fields) → length (bytes_of r p) ≡ length_by r p
unfolding bytes_of length_by
length_is r p =
    let m = modrm_bytes r.shape (p.reg % 8) p.place in
    let i = immediate_bytes r.immediate p.held in
    let t : List ℕ = (r.code + p.low % 8) ∷ (m ++ i) in
    let a7 = opt_length (second_escape r.map) t in
    let x7 : List ℕ = opt (second_escape r.map) ++ t in
    let a6 = opt_length (escape_byte r.map) x7 in
    let x6 : List ℕ = opt (escape_byte r.map) ++ x7 in
    let a5 = opt_length (rex_byte (rex_bits r p) p.bare_rex) x6 in
    let x5 : List ℕ = opt (rex_byte (rex_bits r p) p.bare_rex) ++ x6 in
    let a4 = opt_length (lock_byte p.«prefix») x5 in
    let x4 : List ℕ = opt (lock_byte p.«prefix») ++ x5 in
    let a3 = opt_length (repeat_byte r.lead.repeat p.«prefix») x4 in
    let x3 : List ℕ = opt (repeat_byte r.lead.repeat p.«prefix») ++ x4 in
    let a2 = opt_length (size_byte r.lead.operand_size) x3 in
    let x2 : List ℕ = opt (size_byte r.lead.operand_size) ++ x3 in
    let a1 = opt_length (first_byte p.segment p.«prefix») x2 in
    omega (arith, length-append m i, modrm_is r.shape (p.reg % 8) p.place, immediate_is r.immediate p.held, a1, a2, a3, a4, a5, a6, a7)

-- REX

pub rex_more : (w : Bool) (bits : ℕ) (pl : Bool) → w ≡ true → 8 * bit w ≤ bits → 0 + bit w ≡ count (rex_byte bits pl)
unfolding rex_byte
rex_more w bits pl e le = let k : bit w ≡ 1 = ap bit e in let t : nat_lt 0 bits ≡ true = lt-ltb 0 bits (omega arith) in rw (t, e) refl

rex_count : (bits : ℕ) (pl : Bool) (h : Bool) → (nat_lt 0 bits || pl) ≡ h → count (rex_byte bits pl) ≡ bit h
unfolding rex_byte
rex_count bits pl true e = rw e refl
rex_count bits pl false e = rw e refl

pub rex_none : (w : Bool) (bits : ℕ) (pl h : Bool) → w ≡ false → (nat_lt 0 bits || pl) ≡ h → bit h + bit w ≡ count (rex_byte bits pl)
rex_none w bits pl h e k = let a = rex_count bits pl h k in let b : bit w ≡ 0 = ap bit e in omega arith

-- NO BYTES BY A ROW ARE FEWER

rex_least : (w : Bool) (bits : ℕ) (pl : Bool) → 8 * bit w ≤ bits → bit w ≤ count (rex_byte bits pl)
unfolding rex_byte
rex_least false bits pl le = omega arith
rex_least true bits pl le = let t : nat_lt 0 bits ≡ true = lt-ltb 0 bits (omega arith) in rw t (omega arith)

place_least : (p : Location) → 1 ≤ place_length p
place_least nowhere = omega arith
place_least (direct n) = omega arith
place_least (from_rip d) = omega arith
place_least (bare i d) = omega arith
place_least (based b i true w d) = omega arith
place_least (based b i false w d) = omega arith

modrm_at_least : (m : Shape) (p : Location) → modrm_least m ≤ modrm_length m p
modrm_at_least shape.Plain p = omega arith
modrm_at_least shape.Low p = omega arith
modrm_at_least shape.LowNotFirst p = omega arith
modrm_at_least (shape.Fixed b) p = omega arith
modrm_at_least (shape.Digit d m) p = place_least p
modrm_at_least (shape.Slash m) p = place_least p

pub bits_least : (r : Row) (p : Fields) → 8 * bit r.lead.wide ≤ rex_bits r p
unfolding rex_bits
bits_least r p = omega arith

pub at_least : (r : Row) (p : Fields) → least_length r ≤ length_by r p
unfolding length_by
at_least r p =
    let a = rex_least r.lead.wide (rex_bits r p) p.bare_rex (bits_least r p) in
    let b = modrm_at_least r.shape p.place in
    omega arith

count_below : (o : Option ℕ) → count o < 2
count_below None = omega arith
count_below (Some b) = omega arith

bit_below : (b : Bool) → bit b < 2
bit_below true = omega arith
bit_below false = omega arith

immediate_below : (i : Immediate) → immediate_length i < 9
immediate_below immediate.Absent = omega arith
immediate_below immediate.Byte = omega arith
immediate_below immediate.Count = omega arith
immediate_below immediate.Sext16 = omega arith
immediate_below immediate.Sext32 = omega arith
immediate_below immediate.Sext64 = omega arith
immediate_below immediate.Word = omega arith
immediate_below immediate.Long = omega arith
immediate_below immediate.LongSext = omega arith
immediate_below immediate.Quad = omega arith
immediate_below immediate.Rel8 = omega arith
immediate_below immediate.Short = omega arith
immediate_below immediate.Rel32 = omega arith

modrm_below : (m : Shape) → modrm_least m < 2
modrm_below shape.Plain = omega arith
modrm_below shape.Low = omega arith
modrm_below shape.LowNotFirst = omega arith
modrm_below (shape.Fixed b) = omega arith
modrm_below (shape.Digit d m) = omega arith
modrm_below (shape.Slash m) = omega arith

pub least_small : (r : Row) → least_length r < 20
least_small r =
    let a = count_below (size_byte r.lead.operand_size) in
    let b = count_below (escape_byte r.map) in
    let c = count_below (second_escape r.map) in
    let d = immediate_below r.immediate in
    let e = bit_below r.lead.wide in
    let f = modrm_below r.shape in
    omega arith
