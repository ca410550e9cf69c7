-- A row whose key does not admit an instruction codes nothing.
use Rattle.std.proofs.Common.{◌≡◌, ◌+◌, ◌==◌, ◌∙◌, if◌then◌else◌, Bool, None, Option, Some, ap, eq-eqb, false, inl, inr, length, map, refl, slice_get, subst, sym, true, ℕ}
use Rattle.std.proofs.lemmas.Bool.{both_ways, and_parts, and_from, cases_Bool}
use Rattle.std.proofs.lemmas.Option.{slice_get-map}
use Rattle.x86_insn.specs.declared.registers.Class.{Class}
use Rattle.x86_insn.specs.declared.insns.Segment.{Segment}
use Rattle.x86_insn.specs.declared.insns.Prefix.{Prefix}
use Rattle.x86_table.specs.declared.forms.Row.{Row}
use Rattle.x86_table.specs.declared.forms.Immediate.{Immediate}
use Rattle.x86_table.specs.declared.forms.Repeat.{Repeat}
use Rattle.x86_table.specs.declared.forms.Shape.{Shape}
use Rattle.x86_table.specs.declared.forms.Pattern.{Pattern}
use Rattle.x86_table.specs.declared.forms.Words.{Words}
use Rattle.x86_insn.specs.declared.registers.Class.TheVariants as class
use Rattle.x86_table.specs.declared.forms.Pattern.TheVariants as pattern
use Rattle.x86_insn.specs.declared.insns.Prefix.TheVariants as prefix
use Rattle.x86_table.specs.declared.forms.Shape.TheVariants as shape
use Rattle.x86_table.specs.declared.forms.Words.TheVariants as words
use Rattle.x86_insn.specs.Views.{Seen, absent, register, immediate as shown_immediate, memory, target, View}
use Rattle.x86_table.specs.Bytes.{has_rex, bytes_of}
use Rattle.x86_table.specs.Fields.{Location, nowhere, direct, from_rip, bare, based, Fields}
use Rattle.x86_table.specs.Fits.{some_place_fits, is_memory, rm_fits, is_nowhere, place_fits, is_middle, is_no_segment, takes_none, may_rep, may_repe, may_repne, may_lock, may_notrack, prefix_fits}
use Rattle.x86_table.specs.Reads.{register_shown, from_start, place_shown, shown}
use Rattle.x86_table.specs.Rows.{the_rows}
use Rattle.x86_parts.specs.Building.{built, takes}
use Rattle.x86_parts.specs.Codes.{plain_immediate, plain_target, plain_memory, normal}
use Rattle.x86_lookup.specs.Keys.{the_keys, either, register_sort, register_sorts, first_sort, has_bit}
use Rattle.x86_parts.specs.Keys.{immediate_sort, sort, place_sorts, sorts, words_of, key_of, has_word, admits}
use Rattle.x86_encode.proofs.Complete.{taken}
use Rattle.x86_encode.proofs.Fitted.{fit_of}

at_sort : (k a b : ℕ) → a ≡ b → has_bit k b ≡ true → has_bit k a ≡ true
at_sort k a b e h = rw e h

two : (k x y z : ℕ) (a b : Bool) → has_bit k x ≡ true → has_bit k y ≡ true → has_bit k z ≡ true → has_bit k (either a b x y z) ≡ true
two k x y z true b h i j = h
two k x y z false true h i j = i
two k x y z false false h i j = j

-- a register of the class
reg_has : (c : Class) (n : ℕ) → has_bit (register_sorts c) (register_sort c n) ≡ true
reg_has class.Byte n = two 386 7 8 1 (n == 0) (n == 1) refl refl refl
reg_has class.High n = two 386 7 8 1 (n == 0) (n == 1) refl refl refl
reg_has class.Word n = two 520 9 3 3 (n == 0) false refl refl refl
reg_has class.Long n = two 1040 10 4 4 (n == 0) false refl refl refl
reg_has class.Quad n = two 2080 11 5 5 (n == 0) false refl refl refl
reg_has class.Xmm n = two 68 2 6 6 (n == 0) false refl refl refl

any_has : (c : Class) (n : ℕ) → has_bit (4096 + register_sorts c) (register_sort c n) ≡ true
any_has class.Byte n = two 4482 7 8 1 (n == 0) (n == 1) refl refl refl
any_has class.High n = two 4482 7 8 1 (n == 0) (n == 1) refl refl refl
any_has class.Word n = two 4616 9 3 3 (n == 0) false refl refl refl
any_has class.Long n = two 5136 10 4 4 (n == 0) false refl refl refl
any_has class.Quad n = two 6176 11 5 5 (n == 0) false refl refl refl
any_has class.Xmm n = two 4164 2 6 6 (n == 0) false refl refl refl

-- ah, ch, dh, bh are among the bytes
high : (k n : ℕ) (b : Bool) → has_bit k (register_sort class.Byte n) ≡ true → has_bit k (register_sort (if b then class.High else class.Byte) n) ≡ true
high k n true h = h
high k n false h = h

shown_register : (k : ℕ) (rex : Bool) (c : Class) (n : ℕ) → has_bit k (register_sort c n) ≡ true → has_bit k (sort (register_shown rex c n)) ≡ true
shown_register k true c n h = h
shown_register k false class.Byte n h = high k n (is_middle n) h
shown_register k false class.High n h = h
shown_register k false class.Word n h = h
shown_register k false class.Long n h = h
shown_register k false class.Quad n h = h
shown_register k false class.Xmm n h = h

any_memory : (c : Class) → has_bit (4096 + register_sorts c) 12 ≡ true
any_memory class.Byte = refl
any_memory class.High = refl
any_memory class.Word = refl
any_memory class.Long = refl
any_memory class.Quad = refl
any_memory class.Xmm = refl

-- what a place shows
some_place_has : (rex : Bool) (c : Class) (len : ℕ) (s : Option Segment) (p : Location) → some_place_fits p ≡ true → has_bit (4096 + register_sorts c) (sort (place_shown rex c len s p)) ≡ true
some_place_has rex c len s nowhere h = cc
some_place_has rex c len s (direct n) h = shown_register (4096 + register_sorts c) rex c n (any_has c n)
some_place_has rex c len s (from_rip d) h = any_memory c
some_place_has rex c len s (bare x d) h = any_memory c
some_place_has rex c len s (based b x sb w d) h = any_memory c

no_place_has : (rex : Bool) (c : Class) (len : ℕ) (s : Option Segment) (p : Location) → is_nowhere p ≡ true → has_bit 1 (sort (place_shown rex c len s p)) ≡ true
no_place_has rex c len s nowhere h = refl
no_place_has rex c len s (direct n) h = cc
no_place_has rex c len s (from_rip d) h = cc
no_place_has rex c len s (bare x d) h = cc
no_place_has rex c len s (based b x sb w d) h = cc

e_has : (m : Shape) (rex : Bool) (c : Class) (len : ℕ) (s : Option Segment) (p : Location) → place_fits m p ≡ true → has_bit (place_sorts m c) (sort (place_shown rex c len s p)) ≡ true
e_has shape.Plain rex c len s p h = no_place_has rex c len s p h
e_has shape.Low rex c len s p h = no_place_has rex c len s p h
e_has shape.LowNotFirst rex c len s p h = no_place_has rex c len s p h
e_has (shape.Fixed b) rex c len s p h = no_place_has rex c len s p h
e_has (shape.Digit d m) rex c len s p h = some_place_has rex c len s p (and_parts (some_place_fits p) (rm_fits m p) h).0
e_has (shape.Slash m) rex c len s p h = some_place_has rex c len s p (and_parts (some_place_fits p) (rm_fits m p) h).0

first_has : (c : Class) → has_bit (first_sort c) (register_sort c 0) ≡ true
first_has class.Byte = refl
first_has class.High = refl
first_has class.Word = refl
first_has class.Long = refl
first_has class.Quad = refl
first_has class.Xmm = refl

plain_sort : (o : Seen) → sort (plain_memory o) ≡ sort o
plain_sort absent = refl
plain_sort (register r) = refl
plain_sort (shown_immediate v) = refl
plain_sort (memory a m) = refl
plain_sort (target v) = refl

imm_in : (v : Option ℕ) → has_bit 40960 (immediate_sort v) ≡ true
imm_in None = refl
imm_in (Some v) = two 40960 15 13 13 (v == 1) false refl refl refl

imm_has : (i : Immediate) (o : Seen) (v : Option ℕ) → plain_immediate i o ≡ shown_immediate v → has_bit 40960 (sort o) ≡ true
imm_has i absent v e = cc
imm_has i (register r) v e = cc
imm_has i (shown_immediate w) v e = imm_in w
imm_has i (memory a m) v e = cc
imm_has i (target w) v e = cc

target_has : (o : Seen) (v : Option ℕ) → plain_target o ≡ target v → has_bit 16384 (sort o) ≡ true
target_has absent v e = cc
target_has (register r) v e = cc
target_has (shown_immediate w) v e = cc
target_has (memory a m) v e = cc
target_has (target w) v e = refl

-- the shape of an operand that a row shows is among the row's
slot : (i : Immediate) (m : Shape) (rex : Bool) (len : ℕ) (p : Fields) (q : Pattern) (o : Seen) → place_fits m p.place ≡ true → normal i q o ≡ shown rex len p q → has_bit (sorts m q) (sort o) ≡ true
slot i m rex len p pattern.Absent o h e = at_sort 1 (sort o) 0 (ap sort e) refl
slot i m rex len p (pattern.RegMem c n) o h e =
    at_sort (place_sorts m c) (sort o) (sort (place_shown rex c len p.segment p.place)) (sym (plain_sort o) ∙ ap sort e) (e_has m rex c len p.segment p.place h)
slot i m rex len p (pattern.Reg c) o h e = at_sort (register_sorts c) (sort o) (sort (register_shown rex c p.reg)) (ap sort e) (shown_register (register_sorts c) rex c p.reg (reg_has c p.reg))
slot i m rex len p (pattern.Low c) o h e = at_sort (register_sorts c) (sort o) (sort (register_shown rex c p.low)) (ap sort e) (shown_register (register_sorts c) rex c p.low (reg_has c p.low))
slot i m rex len p (pattern.Accumulator c) o h e = at_sort (first_sort c) (sort o) (register_sort c 0) (ap sort e) (first_has c)
slot i m rex len p pattern.Cl o h e = at_sort 256 (sort o) 8 (ap sort e) refl
slot i m rex len p pattern.One o h e = at_sort 32768 (sort o) 15 (ap sort e) refl
slot i m rex len p pattern.Immediate o h e = imm_has i o p.held e
slot i m rex len p pattern.Target o h e = target_has o (from_start len p.held) e

lock_word : (a : Words) → may_lock a ≡ true → has_bit (words_of a) 0 ≡ true
lock_word words.Absent h = cc
lock_word words.Lock h = refl
lock_word words.Rep h = cc
lock_word words.Repe h = cc
lock_word words.Notrack h = cc

rep_word : (a : Words) → may_rep a ≡ true → has_bit (words_of a) 1 ≡ true
rep_word words.Absent h = cc
rep_word words.Lock h = cc
rep_word words.Rep h = refl
rep_word words.Repe h = cc
rep_word words.Notrack h = cc

repe_word : (a : Words) → may_repe a ≡ true → has_bit (words_of a) 2 ≡ true
repe_word words.Absent h = cc
repe_word words.Lock h = cc
repe_word words.Rep h = cc
repe_word words.Repe h = refl
repe_word words.Notrack h = cc

repne_word : (a : Words) → may_repne a ≡ true → has_bit (words_of a) 2 ≡ true
repne_word words.Absent h = cc
repne_word words.Lock h = cc
repne_word words.Rep h = cc
repne_word words.Repe h = refl
repne_word words.Notrack h = cc

notrack_word : (a : Words) → may_notrack a ≡ true → has_bit (words_of a) 3 ≡ true
notrack_word words.Absent h = cc
notrack_word words.Lock h = cc
notrack_word words.Rep h = cc
notrack_word words.Repe h = cc
notrack_word words.Notrack h = refl

word_has : (e : Repeat) (a : Words) (q : Prefix) (s : Option Segment) (p : Location) → prefix_fits e a q s p ≡ true → has_word (words_of a) q ≡ true
word_has e a prefix.Absent s p h = refl
word_has e a prefix.Lock s p h = lock_word a (and_parts (may_lock a) (is_memory p) h).0
word_has e a prefix.Rep s p h = rep_word a (and_parts (may_rep a) (takes_none e) h).0
word_has e a prefix.Repe s p h = repe_word a (and_parts (may_repe a) (takes_none e) h).0
word_has e a prefix.Repne s p h = repne_word a (and_parts (may_repne a) (takes_none e) h).0
word_has e a prefix.Notrack s p h = notrack_word a (and_parts (may_notrack a) (is_no_segment s) h).0

-- THE LAW OF THE KEY

pub admitted : (r : Row) (insn : View) → takes r insn ≡ true → admits (key_of r) insn ≡ true
unfolding admits
admitted r insn t =
    let k = taken r insn t in
    let p = built r insn in
    let f = fit_of r p k.0 in
    let m = k.1 in
    let words : has_word (words_of r.words) insn.«prefix» ≡ true = subst (λ (x : Prefix). has_word (words_of r.words) x ≡ true) (sym m.words) (word_has r.lead.repeat r.words p.«prefix» p.segment p.place f.words) in
    and_from _ _ (eq-eqb _ _ m.size) (and_from _ _ (slot r.immediate r.shape (has_rex r p) (length (bytes_of r p)) p r.first insn.first f.place m.first)
    (and_from _ _ (slot r.immediate r.shape (has_rex r p) (length (bytes_of r p)) p r.second insn.second f.place m.second)
    (and_from _ _ (slot r.immediate r.shape (has_rex r p) (length (bytes_of r p)) p r.third insn.third f.place m.third) words)))

pub passed : (r : Row) (insn : View) → admits (key_of r) insn ≡ false → takes r insn ≡ false
passed r insn h = elim (cases_Bool (takes r insn)) [
  | inl e ↦ absurd (both_ways (admits (key_of r) insn) h (admitted r insn e))
  | inr e ↦ e
]

-- each key is its row's
pub keyed : map key_of the_rows ≡ the_keys
unfolding the_rows the_keys
keyed = refl

pub key_at : (i : ℕ) (r : Row) → slice_get the_rows i ≡ Some r → slice_get the_keys i ≡ Some (key_of r)
key_at i r h = rw (← keyed, slice_get-map key_of the_rows i, h) refl

pub as_many : length the_keys ≡ length the_rows
unfolding the_rows the_keys
as_many = refl
