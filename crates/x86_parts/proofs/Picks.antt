-- The operands of roles, before they are made normal.
use Rattle.std.proofs.Common.{◌≡◌, ◌+◌, ◌*◌, ◌/◌, ◌==◌, ◌&&◌, Bool, Option, refl, true, ℕ}
use Rattle.x86_insn.specs.declared.insns.Segment.{Segment}
use Rattle.x86_table.specs.declared.forms.Row.{Row}
use Rattle.x86_table.specs.declared.forms.Immediate.{Immediate}
use Rattle.x86_table.specs.declared.forms.Pattern.{Pattern}
use Rattle.x86_table.specs.declared.forms.Pattern.TheVariants as pattern
use Rattle.x86_insn.specs.Views.{Seen, View}
use Rattle.x86_table.specs.Bytes.{bit, place_x, place_b, rex_bits}
use Rattle.x86_table.specs.Fields.{Location}
use Rattle.x86_parts.specs.Building.{is_rm, is_reg, is_low, is_held, pick, segment_of, reg_of, rm_operand, low_of, held_in, place_of, wants_one, without_rex, built}
use Rattle.x86_parts.specs.Codes.{plain_memory, normal}

pub rm_plain : (i : Immediate) (q : Pattern) (o : Seen) → is_rm q ≡ true → plain_memory o ≡ normal i q o
rm_plain i pattern.Absent o h = cc
rm_plain i (pattern.RegMem c n) o h = refl
rm_plain i (pattern.Reg c) o h = cc
rm_plain i (pattern.Low c) o h = cc
rm_plain i (pattern.Accumulator c) o h = cc
rm_plain i pattern.Cl o h = cc
rm_plain i pattern.One o h = cc
rm_plain i pattern.Immediate o h = cc
rm_plain i pattern.Target o h = cc

pub reg_plain : (i : Immediate) (q : Pattern) (o : Seen) → is_reg q ≡ true → o ≡ normal i q o
reg_plain i pattern.Absent o h = cc
reg_plain i (pattern.RegMem c n) o h = cc
reg_plain i (pattern.Reg c) o h = refl
reg_plain i (pattern.Low c) o h = cc
reg_plain i (pattern.Accumulator c) o h = cc
reg_plain i pattern.Cl o h = cc
reg_plain i pattern.One o h = cc
reg_plain i pattern.Immediate o h = cc
reg_plain i pattern.Target o h = cc

pub low_plain : (i : Immediate) (q : Pattern) (o : Seen) → is_low q ≡ true → o ≡ normal i q o
low_plain i pattern.Absent o h = cc
low_plain i (pattern.RegMem c n) o h = cc
low_plain i (pattern.Reg c) o h = cc
low_plain i (pattern.Low c) o h = refl
low_plain i (pattern.Accumulator c) o h = cc
low_plain i pattern.Cl o h = cc
low_plain i pattern.One o h = cc
low_plain i pattern.Immediate o h = cc
low_plain i pattern.Target o h = cc

-- the fields by their parts
pub built_from : (r : Row) (n : View) (s : Option Segment) (reg low b : ℕ) (pl : Location) (im : Option ℕ) (w : Bool) → s ≡ segment_of (rm_operand r.shape (pick is_rm r n))
    → reg ≡ reg_of r.shape (pick is_reg r n) → low ≡ low_of r.shape (pick is_low r n) → pl ≡ place_of (rm_operand r.shape (pick is_rm r n)) → im ≡ held_in r.immediate (pick is_held r n)
    → b ≡ 8 * bit r.lead.wide + 4 * (reg / 8) + 2 * place_x pl + (place_b pl + low / 8) → w ≡ ((b == 0) && wants_one r n)
    → record { «prefix» = n.«prefix»; segment = s; bare_rex = w; reg = reg; low = low; place = pl; held = im } ≡ built r n
unfolding built without_rex rex_bits
built_from r n s reg low b pl im w e f g h i j k = rw (k, j, e, f, g, h, i) refl
