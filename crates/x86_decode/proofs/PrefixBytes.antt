-- The bytes before an opcode tell the segment, the prefix word and the bits of REX.
use Rattle.std.proofs.Common.{◌≡◌, ◌<◌, ℕ, ◌+◌, ◌==◌, ◌||◌, Bool, true, false, not, Option, Some, None, refl, arith, zero, suc}
use Rattle.std.proofs.lemmas.Bool.{eqb-true, lt-ltb, and_parts}
use Rattle.x86_insn.specs.declared.insns.Prefix.{Prefix}
use Rattle.x86_insn.specs.declared.insns.Prefix.TheVariants as prefix
use Rattle.x86_insn.specs.declared.insns.Segment.{Segment}
use Rattle.x86_insn.specs.declared.insns.Segment.TheVariants as segment
use Rattle.x86_table.specs.declared.forms.Repeat.{Repeat}
use Rattle.x86_table.specs.declared.forms.Repeat.TheVariants as repeat
use Rattle.x86_table.specs.declared.forms.Words.{Words}
use Rattle.x86_table.specs.declared.forms.Words.TheVariants as words
use Rattle.x86_table.specs.Fields.{Location}
use Rattle.x86_table.specs.Bytes.{first_byte, repeat_byte, lock_byte, rex_byte}
use Rattle.x86_table.specs.Fits.{prefix_fits}
use Rattle.x86_decode.specs.FieldReadings.{rex_value, is_bare, segment_in, prefix_in}
use Rattle.x86_decode.proofs.HeadBytes.{apart}

rex_above : (m : ℕ) (a : Bool) → rex_byte (suc m) a ≡ Some (64 + suc m)
unfolding rex_byte
rex_above m a = rw (lt-ltb 0 (suc m) (omega arith)) refl

pub rex_read : (bits : ℕ) (a : Bool) → bits < 16 → rex_value (rex_byte bits a) ≡ bits
unfolding rex_byte
rex_read zero true l = refl
rex_read zero false l = refl
rex_read (suc m) a l = rw (rex_above m a) (omega arith)

pub bare_rex_read : (bits : ℕ) (a : Bool) → bits < 16 → (not a || (bits == 0)) ≡ true → is_bare (rex_byte bits a) ≡ a
unfolding rex_byte
bare_rex_read zero true l h = refl
bare_rex_read zero false l h = refl
bare_rex_read (suc m) true l h = let e = eqb-true (suc m) 0 h in absurd (omega arith)
bare_rex_read (suc m) false l h = rw (rex_above m false) (apart (64 + suc m) 64 (λ e. omega arith))

pub segment_read : (s : Option Segment) (q : Prefix) → segment_in (first_byte s q) ≡ s
segment_read (Some segment.Fs) q = refl
segment_read (Some segment.Gs) q = refl
segment_read None prefix.Absent = refl
segment_read None prefix.Lock = refl
segment_read None prefix.Rep = refl
segment_read None prefix.Repe = refl
segment_read None prefix.Repne = refl
segment_read None prefix.Notrack = refl

-- a word of a repeat, before a row without a byte of its own
pub word_read : (e : Repeat) (a : Words) (q : Prefix) (s : Option Segment) (l : Location) → prefix_fits e a q s l ≡ true
    → prefix_in e a (first_byte s q) (repeat_byte e q) (lock_byte q) ≡ q
word_read e a prefix.Lock (Some segment.Fs) l h = refl
word_read e a prefix.Lock (Some segment.Gs) l h = refl
word_read e a prefix.Lock None l h = refl
word_read e a prefix.Notrack None l h = refl
word_read e words.Absent prefix.Notrack (Some s) l h = cc
word_read e words.Lock prefix.Notrack (Some s) l h = cc
word_read e words.Rep prefix.Notrack (Some s) l h = cc
word_read e words.Repe prefix.Notrack (Some s) l h = cc
word_read e words.Notrack prefix.Notrack (Some s) l h = cc
word_read repeat.Absent a prefix.Absent (Some segment.Fs) l h = refl
word_read repeat.Absent a prefix.Absent (Some segment.Gs) l h = refl
word_read repeat.Absent a prefix.Absent None l h = refl
word_read repeat.F2 a prefix.Absent (Some segment.Fs) l h = refl
word_read repeat.F2 a prefix.Absent (Some segment.Gs) l h = refl
word_read repeat.F2 a prefix.Absent None l h = refl
word_read repeat.F3 a prefix.Absent (Some segment.Fs) l h = refl
word_read repeat.F3 a prefix.Absent (Some segment.Gs) l h = refl
word_read repeat.F3 a prefix.Absent None l h = refl
word_read repeat.Absent words.Rep prefix.Rep (Some segment.Fs) l h = refl
word_read repeat.Absent words.Rep prefix.Rep (Some segment.Gs) l h = refl
word_read repeat.Absent words.Rep prefix.Rep None l h = refl
word_read repeat.Absent words.Absent prefix.Rep s l h = cc
word_read repeat.Absent words.Lock prefix.Rep s l h = cc
word_read repeat.Absent words.Repe prefix.Rep s l h = cc
word_read repeat.Absent words.Notrack prefix.Rep s l h = cc
word_read repeat.Absent words.Repe prefix.Repe (Some segment.Fs) l h = refl
word_read repeat.Absent words.Repe prefix.Repe (Some segment.Gs) l h = refl
word_read repeat.Absent words.Repe prefix.Repe None l h = refl
word_read repeat.Absent words.Absent prefix.Repe s l h = cc
word_read repeat.Absent words.Lock prefix.Repe s l h = cc
word_read repeat.Absent words.Rep prefix.Repe s l h = cc
word_read repeat.Absent words.Notrack prefix.Repe s l h = cc
word_read repeat.Absent a prefix.Repne (Some segment.Fs) l h = refl
word_read repeat.Absent a prefix.Repne (Some segment.Gs) l h = refl
word_read repeat.Absent a prefix.Repne None l h = refl
word_read repeat.F2 a prefix.Rep s l h = let p = and_parts _ false h in cc
word_read repeat.F2 a prefix.Repe s l h = let p = and_parts _ false h in cc
word_read repeat.F2 a prefix.Repne s l h = let p = and_parts _ false h in cc
word_read repeat.F3 a prefix.Rep s l h = let p = and_parts _ false h in cc
word_read repeat.F3 a prefix.Repe s l h = let p = and_parts _ false h in cc
word_read repeat.F3 a prefix.Repne s l h = let p = and_parts _ false h in cc
