-- The row of bytes that read admits their head.
use Rattle.std.proofs.Common.{◌≡◌, ◌<◌, ℕ, ◌+◌, ◌-◌, ◌*◌, ◌/◌, ◌%◌, ◌==◌, ◌||◌, nat_lt, List, ◌++◌, Bool, true, false, not, Option, is_some, refl, arith, sym, ◌∙◌, eq-eqb, append_assoc}
use Rattle.std.proofs.lemmas.Bool.{eqb-true, eqb-false, not-true, ltb-true, lt-ltb, le-leb, ltb-false, and_parts, and_from}
use Rattle.x86_insn.specs.declared.insns.Prefix.{Prefix}
use Rattle.x86_insn.specs.declared.insns.Prefix.TheVariants as prefix
use Rattle.x86_insn.specs.declared.insns.Segment.{Segment}
use Rattle.x86_table.specs.declared.forms.Repeat.{Repeat}
use Rattle.x86_table.specs.declared.forms.Repeat.TheVariants as repeat
use Rattle.x86_table.specs.declared.forms.Rm.{Rm}
use Rattle.x86_table.specs.declared.forms.Rm.TheVariants as rm
use Rattle.x86_table.specs.declared.forms.Words.{Words}
use Rattle.x86_table.specs.declared.forms.Words.TheVariants as words
use Rattle.x86_table.specs.declared.forms.Shape.{Shape}
use Rattle.x86_table.specs.declared.forms.Shape.TheVariants as shape
use Rattle.x86_table.specs.declared.forms.Row.{Row}
use Rattle.x86_table.specs.Fields.{Location, Fields}
use Rattle.x86_table.specs.Bytes.{bit, size_byte, repeat_byte, rex_bits, mod_of, rm_of, modrm_bytes, immediate_bytes}
use Rattle.x86_table.specs.Fits.{reg_fits, low_fits, place_fits, some_place_fits, rm_fits, is_memory, may_rep, may_repe, may_repne, prefix_fits}
use Rattle.x86_table.specs.Heads.{map_number, span}
use Rattle.x86_decode.specs.Admitting.{takes_mode, takes_tail, takes_repeat, admits}
use Rattle.x86_decode.proofs.FieldFacts.{Fit, mod_of_place, digit_of, no_bits}
use Rattle.x86_decode.proofs.HeadBytes.{apart, behind_opcode, head_with}
use Rattle.x86_decode.proofs.PrefixBytes.{rex_read}
use Rattle.x86_decode.proofs.FieldsBack.{IsRex, is_rex, one_bit}

sized : (b : Bool) → (bit b == bit (is_some (size_byte b))) ≡ true
sized true = refl
sized false = refl

of_rep : (a : Words) → may_rep a ≡ true → (may_rep a || may_repe a) ≡ true
of_rep a h = rw h refl

of_repe : (a : Words) → may_repe a ≡ true → (may_rep a || may_repe a) ≡ true
of_repe words.Absent h = cc
of_repe words.Lock h = cc
of_repe words.Rep h = cc
of_repe words.Repe h = refl
of_repe words.Notrack h = cc

-- the row takes its own repeat byte, or that of a word that may stand before it
repeat_taken : (e : Repeat) (a : Words) (q : Prefix) (s : Option Segment) (l : Location) → prefix_fits e a q s l ≡ true → takes_repeat e a (repeat_byte e q) ≡ true
repeat_taken repeat.F2 a q s l h = refl
repeat_taken repeat.F3 a q s l h = refl
repeat_taken repeat.Absent a prefix.Absent s l h = refl
repeat_taken repeat.Absent a prefix.Lock s l h = refl
repeat_taken repeat.Absent a prefix.Rep s l h = of_rep a (and_parts (may_rep a) true h).0
repeat_taken repeat.Absent a prefix.Repe s l h = of_repe a (and_parts (may_repe a) true h).0
repeat_taken repeat.Absent a prefix.Repne s l h = (and_parts (may_repne a) true h).0
repeat_taken repeat.Absent a prefix.Notrack s l h = refl

mode_taken : (n : Rm) (p : Location) (reg : ℕ) → some_place_fits p ≡ true → rm_fits n p ≡ true → reg < 8 → takes_mode n (64 * mod_of p + 8 * reg + rm_of p) ≡ true
mode_taken rm.Any p reg f g l = refl
mode_taken rm.Memory p reg f g l =
    let m = mod_of_place p f in
    let k = m.rm_below in
    let low = ltb-true (mod_of p) 3 (sym m.memory ∙ g) in
    lt-ltb (64 * mod_of p + 8 * reg + rm_of p) 192 (omega arith)
mode_taken rm.Register p reg f g l =
    let m = mod_of_place p f in
    let high = ltb-false (mod_of p) 3 (sym m.memory ∙ not-true (is_memory p) g) in
    le-leb 192 (64 * mod_of p + 8 * reg + rm_of p) (omega arith)

digit_taken : (m reg k d : ℕ) → k < 8 → d < 8 → reg ≡ d → (64 * m + 8 * (reg % 8) + k) / 8 % 8 ≡ d
digit_taken m reg k d l f e = omega arith

own_tail : (m : Shape) (p : Fields) (v : ℕ) (xs : List ℕ) → reg_fits m p.reg ≡ true → low_fits m p.low ≡ true → place_fits m p.place ≡ true → IsRex p v
    → takes_tail m (p.low % 8) (v % 2) (modrm_bytes m (p.reg % 8) p.place ++ xs) ≡ true
own_tail shape.Plain p v xs g l f x = let z = no_bits p.place f in let w = eqb-true p.low 0 l in let e = x.b in eq-eqb (v % 2) 0 (omega arith)
own_tail shape.Low p v xs g l f x = refl
own_tail shape.LowNotFirst p v xs g l f x =
    let z = no_bits p.place f in
    let e = x.b in
    let q = and_parts (nat_lt p.low 16) (not (p.low == 0)) l in
    let below = ltb-true p.low 16 q.0 in
    let some = eqb-false p.low 0 (not-true (p.low == 0) q.1) in
    rw (apart (p.low % 8 + v % 2) 0 (λ s. some (omega arith))) refl
own_tail (shape.Fixed b) p v xs g l f x = eq-eqb b b refl
own_tail (shape.Digit d n) p v xs g l f x =
    let q = and_parts (some_place_fits p.place) (rm_fits n p.place) f in
    let m = mod_of_place p.place q.0 in
    let dd = digit_of d p.reg g in
    and_from _ _ (eq-eqb _ _ (digit_taken (mod_of p.place) p.reg (rm_of p.place) d m.rm_below dd.1 dd.0)) (mode_taken n p.place (p.reg % 8) q.0 q.1 (omega arith))
own_tail (shape.Slash n) p v xs g l f x =
    let q = and_parts (some_place_fits p.place) (rm_fits n p.place) f in
    mode_taken n p.place (p.reg % 8) q.0 q.1 (omega arith)

own_wide : (r : Row) (p : Fields) → Fit r p → bit r.lead.wide ≡ rex_bits r p / 8
unfolding rex_bits
own_wide r p f =
    let g = f.narrow.reg in
    let s = f.narrow.b in
    let x = f.narrow.x in
    let w = one_bit r.lead.wide in
    omega arith

-- the row of the bytes admits their head
pub own_admits : (r : Row) (p : Fields) (xs more : List ℕ) → Fit r p → admits r.map (head_with r p xs) (r.code + p.low % 8) (behind_opcode r p ++ more) r ≡ true
unfolding admits behind_opcode
own_admits r p xs more f =
    let below = f.bits in
    let low = f.narrow.in_opcode in
    let above : r.code + p.low % 8 - r.code ≡ p.low % 8 = omega arith in
    rw (above, rex_read (rex_bits r p) p.bare_rex below, append_assoc)
    (and_from _ _ (and_from _ _ (eq-eqb (map_number r.map) (map_number r.map) refl) (and_from _ _ (le-leb r.code (r.code + p.low % 8) (omega arith)) (lt-ltb (r.code + p.low % 8) (r.code + span r.shape) (omega arith))))
    (and_from _ _ (sized r.lead.operand_size) (and_from _ _ (eq-eqb _ _ (own_wide r p f))
    (and_from _ _ (repeat_taken r.lead.repeat r.words p.«prefix» p.segment p.place f.words)
    (own_tail r.shape p (rex_bits r p) (immediate_bytes r.immediate p.held ++ more) f.reg f.low f.place (is_rex r p f))))))
