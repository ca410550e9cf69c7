-- What a row shows of fields that fit it can be printed.
use Rattle.std.proofs.Common.{◌≡◌, ℕ, ◌+◌, ◌-◌, ◌%◌, ◌^◌, ◌<◌, ◌≤◌, ◌==◌, ◌&&◌, ◌||◌, not, nat_lt, nat_le, Bool, true, false, cond, Option, None, Some, length, refl, subst, arith}
use Rattle.std.proofs.lemmas.Bool.{and_parts, eqb-true, ltb-true}
use Rattle.std.proofs.lemmas.Bool.Decides.{nat_tests}
use Rattle.std.specs.List.{list_all}
use Rattle.x86_insn.specs.declared.registers.Class.{Class}
use Rattle.x86_insn.specs.declared.registers.Class.TheVariants as class
use Rattle.x86_insn.specs.declared.insns.Segment.{Segment}
use Rattle.x86_insn.specs.declared.insns.Index.{Index}
use Rattle.x86_insn.specs.declared.insns.Index.TheVariants as index
use Rattle.x86_table.specs.declared.forms.Immediate.{Immediate}
use Rattle.x86_table.specs.declared.forms.Immediate.TheVariants as held
use Rattle.x86_table.specs.declared.forms.Pattern.{Pattern}
use Rattle.x86_table.specs.declared.forms.Pattern.TheVariants as pattern
use Rattle.x86_table.specs.declared.forms.Shape.{Shape}
use Rattle.x86_table.specs.declared.forms.Shape.TheVariants as shape
use Rattle.x86_table.specs.declared.forms.Row.{Row}
use Rattle.x86_table.specs.declared.parts.Width.{Width}
use Rattle.x86_table.specs.declared.parts.Width.TheVariants as width
use Rattle.x86_table.specs.Rows.{the_rows}
use Rattle.x86_insn.specs.Views.{Seen}
use Rattle.x86_table.specs.Bytes.{bytes_of, has_rex}
use Rattle.x86_table.specs.Fields.{Fields, Location, nowhere, direct, from_rip, bare, based}
use Rattle.x86_table.specs.Fits.{fits, fields_fit, prefix_fits, segment_fits, reg_fits, low_fits, place_fits, some_place_fits, rm_fits, is_nowhere, immediate_fits, rex_fits, long_fits, displacement_fits, index_fits, sib_fits, mode_fits, is_middle}
use Rattle.x86_table.specs.Reads.{change_places, class_shown, place_shown, shown, from_start, meaning}
use Rattle.att_texts.specs.Numbers.{value_of}
use Rattle.att_texts.specs.Printable.{IsNumbered, IsIndexed, IsPrintable, IsTargetOf, is_high, is_low, has_low}
use Rattle.att_texts.specs.TextLaws.{FieldsPrint, InstructionsPrint}

-- numbers
signed : (a b c v : ℕ) → a ≤ 2 ^ 64 → c ≤ 2 ^ 64 → (nat_lt v a || nat_le b v && nat_lt v c) ≡ true → v < 2 ^ 64
signed a b c v low high is = by (nat_lt v a) refl
  where
    by : (t : Bool) → nat_lt v a ≡ t → v < 2 ^ 64
    by true less = let below = ltb-true v a less in omega (arith, below, low)
    by false less =
        let rest : (nat_le b v && nat_lt v c) ≡ true = rw less at is in
        let below = ltb-true v c (and_parts (nat_le b v) (nat_lt v c) rest).1 in
        omega (arith, below, high)

immediate_small : (i : Immediate) (v : Option ℕ) → immediate_fits i v ≡ true → value_of v < 2 ^ 64
immediate_small i None is = omega arith
immediate_small held.Absent (Some v) is = let zero_is = eqb-true v 0 is in omega (arith, zero_is)
immediate_small held.Byte (Some v) is = let below = ltb-true v 256 is in omega (arith, below)
immediate_small held.Count (Some v) is = let below = ltb-true v 256 is in omega (arith, below)
immediate_small held.Sext16 (Some v) is = signed (2 ^ 7) (2 ^ 16 - 2 ^ 7) (2 ^ 16) v (omega arith) (omega arith) is
immediate_small held.Sext32 (Some v) is = signed (2 ^ 7) (2 ^ 32 - 2 ^ 7) (2 ^ 32) v (omega arith) (omega arith) is
immediate_small held.Sext64 (Some v) is = signed (2 ^ 7) (2 ^ 64 - 2 ^ 7) (2 ^ 64) v (omega arith) (omega arith) is
immediate_small held.Word (Some v) is = let below = ltb-true v (2 ^ 16) is in omega (arith, below)
immediate_small held.Long (Some v) is = let below = ltb-true v (2 ^ 32) is in omega (arith, below)
immediate_small held.LongSext (Some v) is = signed (2 ^ 31) (2 ^ 64 - 2 ^ 31) (2 ^ 64) v (omega arith) (omega arith) is
immediate_small held.Quad (Some v) is = ltb-true v (2 ^ 64) is
immediate_small held.Rel8 (Some v) is = signed (2 ^ 7) (2 ^ 64 - 2 ^ 7) (2 ^ 64) v (omega arith) (omega arith) is
immediate_small held.Short (Some v) is = signed (2 ^ 7) (2 ^ 64 - 2 ^ 7) (2 ^ 64) v (omega arith) (omega arith) is
immediate_small held.Rel32 (Some v) is = signed (2 ^ 31) (2 ^ 64 - 2 ^ 31) (2 ^ 64) v (omega arith) (omega arith) is

long_small : (v : Option ℕ) → long_fits v ≡ true → value_of v < 2 ^ 64
long_small None is = omega arith
long_small (Some v) is = signed (2 ^ 31) (2 ^ 64 - 2 ^ 31) (2 ^ 64) v (omega arith) (omega arith) is

displacement_small : (w : Width) (v : Option ℕ) → displacement_fits w v ≡ true → value_of v < 2 ^ 64
displacement_small w None is = omega arith
displacement_small width.Absent (Some v) is = let zero_is = eqb-true v 0 is in omega (arith, zero_is)
displacement_small width.Byte (Some v) is = signed (2 ^ 7) (2 ^ 64 - 2 ^ 7) (2 ^ 64) v (omega arith) (omega arith) is
displacement_small width.Long (Some v) is = long_small (Some v) is

start_small : (len : ℕ) (v : Option ℕ) → value_of (from_start len v) < 2 ^ 64
start_small len None = omega arith
start_small len (Some v) = omega arith

-- registers
numbered : (rex : Bool) (c : Class) (n : ℕ) → n < 16 → not (is_high c) ≡ true → IsNumbered (class_shown rex c n) n
numbered true class.Byte n low is = low
numbered true class.High n low is = absurd cc
numbered true class.Word n low is = low
numbered true class.Long n low is = low
numbered true class.Quad n low is = low
numbered true class.Xmm n low is = low
numbered false class.Byte n low is = by (is_middle n) refl
  where
    by : (b : Bool) → is_middle n ≡ b → IsNumbered (cond b class.High class.Byte) n
    by true middle =
        let parts = and_parts (nat_le 4 n) (nat_lt n 8) middle in
        let from : 4 ≤ n = let test = parts.0 in grind (arith, nat_tests) in
        (from, ltb-true n 8 parts.1)
    by false middle = low
numbered false class.High n low is = absurd cc
numbered false class.Word n low is = low
numbered false class.Long n low is = low
numbered false class.Quad n low is = low
numbered false class.Xmm n low is = low

register_small : (s : Shape) (n : ℕ) → reg_fits s n ≡ true → n < 16
register_small shape.Plain n is = let zero_is = eqb-true n 0 is in omega (arith, zero_is)
register_small shape.Low n is = let zero_is = eqb-true n 0 is in omega (arith, zero_is)
register_small shape.LowNotFirst n is = let zero_is = eqb-true n 0 is in omega (arith, zero_is)
register_small (shape.Fixed b) n is = let zero_is = eqb-true n 0 is in omega (arith, zero_is)
register_small (shape.Digit d m) n is =
    let parts = and_parts (n == d) (nat_lt d 8) is in
    let same = eqb-true n d parts.0 in
    let below = ltb-true d 8 parts.1 in
    omega (arith, same, below)
register_small (shape.Slash m) n is = ltb-true n 16 is

low_small : (s : Shape) (n : ℕ) → low_fits s n ≡ true → n < 16
low_small shape.Plain n is = let zero_is = eqb-true n 0 is in omega (arith, zero_is)
low_small shape.Low n is = ltb-true n 16 is
low_small shape.LowNotFirst n is = ltb-true n 16 (and_parts (nat_lt n 16) (not (n == 0)) is).0
low_small (shape.Fixed b) n is = let zero_is = eqb-true n 0 is in omega (arith, zero_is)
low_small (shape.Digit d m) n is = let zero_is = eqb-true n 0 is in omega (arith, zero_is)
low_small (shape.Slash m) n is = let zero_is = eqb-true n 0 is in omega (arith, zero_is)

-- memory
indexed : (i : Index) → index_fits i ≡ true → IsIndexed i
indexed index.Absent is = tt
indexed (index.By n s) is =
    let parts = and_parts (nat_lt n 16) (not (n == 4) && nat_lt s 4) is in
    let rest = and_parts (not (n == 4)) (nat_lt s 4) parts.1 in
    (ltb-true n 16 parts.0, ((λ same. (let test : not (4 == 4) ≡ true = subst (λ (m : ℕ). not (m == 4) ≡ true) same rest.0 in cc)), ltb-true s 4 rest.1))

located : (rex branch : Bool) (c : Class) (len : ℕ) (s : Option Segment) (place : Location) → some_place_fits place ≡ true → not (is_high c) ≡ true
    → IsPrintable branch (place_shown rex c len s place)
located rex branch c len s nowhere is low = tt
located rex branch c len s (direct n) is low = numbered rex c n (ltb-true n 16 is) low
located rex branch c len s (from_rip d) is low = (start_small len d, tt)
located rex branch c len s (bare i d) is low =
    let parts = and_parts (index_fits i) (long_fits d) is in
    (long_small d parts.1, indexed i parts.0)
located rex branch c len s (based b i sb w d) is low =
    let one = and_parts (nat_lt b 16) (index_fits i && (sib_fits sb i b && (mode_fits w b && displacement_fits w d))) is in
    let two = and_parts (index_fits i) (sib_fits sb i b && (mode_fits w b && displacement_fits w d)) one.1 in
    let three = and_parts (sib_fits sb i b) (mode_fits w b && displacement_fits w d) two.1 in
    let four = and_parts (mode_fits w b) (displacement_fits w d) three.1 in
    (displacement_small w d four.1, (ltb-true b 16 one.0, indexed i two.0))

none_located : (rex branch : Bool) (c : Class) (len : ℕ) (s : Option Segment) (place : Location) → is_nowhere place ≡ true → IsPrintable branch (place_shown rex c len s place)
none_located rex branch c len s nowhere is = tt
none_located rex branch c len s (direct n) is = absurd cc
none_located rex branch c len s (from_rip d) is = absurd cc
none_located rex branch c len s (bare i d) is = absurd cc
none_located rex branch c len s (based b i sb w d) is = absurd cc

placed : (rex branch : Bool) (c : Class) (len : ℕ) (s : Option Segment) (sh : Shape) (place : Location) → place_fits sh place ≡ true → not (is_high c) ≡ true
    → IsPrintable branch (place_shown rex c len s place)
placed rex branch c len s shape.Plain place is low = none_located rex branch c len s place is
placed rex branch c len s shape.Low place is low = none_located rex branch c len s place is
placed rex branch c len s shape.LowNotFirst place is low = none_located rex branch c len s place is
placed rex branch c len s (shape.Fixed b) place is low = none_located rex branch c len s place is
placed rex branch c len s (shape.Digit d m) place is low = located rex branch c len s place (and_parts (some_place_fits place) (rm_fits m place) is).0 low
placed rex branch c len s (shape.Slash m) place is low = located rex branch c len s place (and_parts (some_place_fits place) (rm_fits m place) is).0 low

record Parts (r : Row) (p : Fields) : Type 0 where
  pub reg : reg_fits r.shape p.reg ≡ true
  pub low : low_fits r.shape p.low ≡ true
  pub place : place_fits r.shape p.place ≡ true
  pub held : immediate_fits r.immediate p.held ≡ true

parts_of : (r : Row) (p : Fields) → fits r p ≡ true → Parts r p
unfolding fits fields_fit
parts_of r p is =
    let all = (and_parts (fields_fit r p) (nat_le (length (bytes_of r p)) 15) is).0 in
    let a = and_parts (prefix_fits r.lead.repeat r.words p.«prefix» p.segment p.place) _ all in
    let b = and_parts (segment_fits p.segment p.place) _ a.1 in
    let c = and_parts (reg_fits r.shape p.reg) _ b.1 in
    let d = and_parts (low_fits r.shape p.low) _ c.1 in
    let e = and_parts (place_fits r.shape p.place) _ d.1 in
    let f = and_parts (immediate_fits r.immediate p.held) (rex_fits r p) e.1 in
    record { reg = c.0; low = d.0; place = e.0; held = f.0 }

pub fields_print : FieldsPrint
fields_print r p pattern.Absent rex branch len is low target = tt
fields_print r p (pattern.RegMem c n) rex branch len is low target = placed rex branch c len p.segment r.shape p.place (parts_of r p is).place low
fields_print r p (pattern.Reg c) rex branch len is low target = numbered rex c p.reg (register_small r.shape p.reg (parts_of r p is).reg) low
fields_print r p (pattern.Low c) rex branch len is low target = numbered rex c p.low (low_small r.shape p.low (parts_of r p is).low) low
fields_print r p (pattern.Accumulator c) rex branch len is low target = numbered true c 0 (omega arith) low
fields_print r p pattern.Cl rex branch len is low target = omega arith
fields_print r p pattern.One rex branch len is low target = omega arith
fields_print r p pattern.Immediate rex branch len is low target = immediate_small r.immediate p.held (parts_of r p is).held
fields_print r p pattern.Target rex branch len is low target = (start_small len p.held, target refl)

-- an operand of a branch, if that is so
chosen : (branch b : Bool) (one other : Seen) → IsPrintable branch one → IsPrintable branch other → IsPrintable branch (cond b one other)
chosen branch true one other this that = this
chosen branch false one other this that = that

pub instructions_print : InstructionsPrint
unfolding meaning
instructions_print r p branch is low first second third =
    let rex = has_rex r p in
    let len = length (bytes_of r p) in
    let a = and_parts (is_low r.first) (is_low r.second && is_low r.third) low in
    let b = and_parts (is_low r.second) (is_low r.third) a.1 in
    let one = fields_print r p r.first rex branch len is a.0 first in
    let other = fields_print r p r.second rex branch len is b.0 second in
    let changed = change_places r (shown rex len p r.first) (shown rex len p r.second) in
    record {
      first = chosen branch changed (shown rex len p r.second) (shown rex len p r.first) other one;
      second = chosen branch changed (shown rex len p r.first) (shown rex len p r.second) one other;
      third = fields_print r p r.third rex branch len is b.1 third;
    }

pub rows_low : list_all has_low the_rows ≡ true
unfolding the_rows
rows_low = refl
