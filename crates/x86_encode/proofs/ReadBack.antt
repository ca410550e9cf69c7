-- Bytes that mean an instruction are those that read as it.
use Rattle.std.proofs.Common.{◌≡◌, ◌<◌, ◌≤◌, ◌-◌, ◌/◌, ◌^◌, ◌==◌, ◌&&◌, ◌∙◌, if◌then◌else◌, Bool, List, None, Option, Some, ap, arith, false, inl, inr, length, nat_le, nat_lt, refl, subst, sym, true, ℕ}
use Rattle.std.proofs.lemmas.Bool.{eqb-true, ltb-true, le-leb, and_parts, or_cases}
use Rattle.x86_insn.specs.declared.insns.Base.{Base}
use Rattle.x86_insn.specs.declared.insns.Index.{Index}
use Rattle.x86_insn.specs.declared.insns.Prefix.{Prefix}
use Rattle.x86_table.specs.declared.forms.Row.{Row}
use Rattle.x86_table.specs.declared.forms.Immediate.{Immediate}
use Rattle.x86_table.specs.declared.forms.Shape.{Shape}
use Rattle.x86_table.specs.declared.forms.Pattern.{Pattern}
use Rattle.x86_insn.specs.declared.insns.Base.TheVariants as base
use Rattle.x86_table.specs.declared.forms.Immediate.TheVariants as immediate
use Rattle.x86_table.specs.declared.forms.Pattern.TheVariants as pattern
use Rattle.x86_table.specs.declared.forms.Shape.TheVariants as shape
use Rattle.x86_table.specs.declared.mnemonics.integers.TheConstants.{XCHG}
use Rattle.x86_insn.specs.Views.{Seen, absent, register, immediate as shown_immediate, memory, target, View, displaced}
use Rattle.x86_table.specs.Bytes.{has_rex, bytes_of}
use Rattle.x86_table.specs.Fields.{Location, nowhere, direct, from_rip, bare, based, Fields}
use Rattle.x86_table.specs.Fits.{is_signed, immediate_fits}
use Rattle.x86_table.specs.Reads.{shown, is_register, is_accumulator, change_places, meaning, is_known, is_known_place, ReadsRow}
use Rattle.x86_parts.specs.Building.{is_rm, is_held, chosen, pick, held_of, rm_operand, held_in, place_at, place_of}
use Rattle.x86_parts.specs.Codes.{last_of, reduced, reduced_if, plain_immediate, plain_target, plain_memory, normal, Means, OrderedRow}
use Rattle.x86_encode.specs.Exchanges.{turned, turned_if, exchanges, Codes}
use Rattle.x86_parts.specs.Filling.{exact}
use Rattle.x86_encode.specs.Readings.{is_valued, all_valued, in_row, ReadsBack}
use Rattle.x86_encode.proofs.Best.{shaped_at}
use Rattle.x86_encode.proofs.Fitted.{fit_of}
use Rattle.x86_encode.proofs.Least.{least}
use Rattle.x86_encode.proofs.Roles.{roles}

-- WHERE OPERANDS ARE EXCHANGED

-- what is so of a number and of no operand is so of a number modulo the operand size
either_way : (test : Seen → Bool) (x : Bool) (last v : ℕ) (t u : Bool) → test absent ≡ x → ((w : ℕ) → test (shown_immediate (Some w)) ≡ x)
    → test (if t then shown_immediate (Some v) else (if u then shown_immediate (Some (v - (2 ^ 64 - 1 - last))) else absent)) ≡ x
either_way test x last v true u a n = n v
either_way test x last v false true a n = n (v - (2 ^ 64 - 1 - last))
either_way test x last v false false a n = a

of_reduced : (test : Seen → Bool) (x : Bool) (last v : ℕ) → test absent ≡ x → ((w : ℕ) → test (shown_immediate (Some w)) ≡ x) → test (reduced last v) ≡ x
of_reduced test x last v a n = either_way test x last v (nat_le v last) (nat_le (2 ^ 64 - 1 - last / 2) v) a n

register_immediate : (i : Immediate) (o : Seen) → is_register (plain_immediate i o) ≡ is_register o
register_immediate i absent = refl
register_immediate i (register r) = refl
register_immediate i (shown_immediate None) = refl
register_immediate i (shown_immediate (Some v)) = of_reduced is_register false (last_of i) v refl (λ w. refl)
register_immediate i (memory a d) = refl
register_immediate i (target v) = refl

register_memory : (o : Seen) → is_register (plain_memory o) ≡ is_register o
register_memory absent = refl
register_memory (register r) = refl
register_memory (shown_immediate v) = refl
register_memory (memory a d) = refl
register_memory (target v) = refl

register_target : (o : Seen) → is_register (plain_target o) ≡ is_register o
register_target absent = refl
register_target (register r) = refl
register_target (shown_immediate v) = refl
register_target (memory a d) = refl
register_target (target v) = refl

register_normal : (i : Immediate) (q : Pattern) (o : Seen) → is_register (normal i q o) ≡ is_register o
register_normal i pattern.Absent o = refl
register_normal i (pattern.RegMem c m) o = register_memory o
register_normal i (pattern.Reg c) o = refl
register_normal i (pattern.Low c) o = refl
register_normal i (pattern.Accumulator c) o = refl
register_normal i pattern.Cl o = refl
register_normal i pattern.One o = refl
register_normal i pattern.Immediate o = register_immediate i o
register_normal i pattern.Target o = register_target o

accumulator_immediate : (i : Immediate) (o : Seen) → is_accumulator (plain_immediate i o) ≡ is_accumulator o
accumulator_immediate i absent = refl
accumulator_immediate i (register r) = refl
accumulator_immediate i (shown_immediate None) = refl
accumulator_immediate i (shown_immediate (Some v)) = of_reduced is_accumulator false (last_of i) v refl (λ w. refl)
accumulator_immediate i (memory a d) = refl
accumulator_immediate i (target v) = refl

accumulator_memory : (o : Seen) → is_accumulator (plain_memory o) ≡ is_accumulator o
accumulator_memory absent = refl
accumulator_memory (register r) = refl
accumulator_memory (shown_immediate v) = refl
accumulator_memory (memory a d) = refl
accumulator_memory (target v) = refl

accumulator_target : (o : Seen) → is_accumulator (plain_target o) ≡ is_accumulator o
accumulator_target absent = refl
accumulator_target (register r) = refl
accumulator_target (shown_immediate v) = refl
accumulator_target (memory a d) = refl
accumulator_target (target v) = refl

accumulator_normal : (i : Immediate) (q : Pattern) (o : Seen) → is_accumulator (normal i q o) ≡ is_accumulator o
accumulator_normal i pattern.Absent o = refl
accumulator_normal i (pattern.RegMem c m) o = accumulator_memory o
accumulator_normal i (pattern.Reg c) o = refl
accumulator_normal i (pattern.Low c) o = refl
accumulator_normal i (pattern.Accumulator c) o = refl
accumulator_normal i pattern.Cl o = refl
accumulator_normal i pattern.One o = refl
accumulator_normal i pattern.Immediate o = accumulator_immediate i o
accumulator_normal i pattern.Target o = accumulator_target o

order_read : (r : Row) (p : Fields) (insn : View) → Means r p insn → exchanges insn ≡ change_places r (shown (has_rex r p) (length (bytes_of r p)) p r.first) (shown (has_rex r p) (length (bytes_of r p)) p r.second)
order_read r p insn m =
    let one = shown (has_rex r p) (length (bytes_of r p)) p r.first in
    let other = shown (has_rex r p) (length (bytes_of r p)) p r.second in
    let a : is_register insn.first ≡ is_register one = sym (register_normal r.immediate r.first insn.first) ∙ ap is_register m.first in
    let b : is_accumulator insn.second ≡ is_accumulator other = sym (accumulator_normal r.immediate r.second insn.second) ∙ ap is_accumulator m.second in
    ap (λ (x : ℕ). (x == XCHG) && (is_register insn.first && is_accumulator insn.second)) m.name
    ∙ ap (λ (x : Bool). (r.name.0 == XCHG) && (x && is_accumulator insn.second)) a
    ∙ ap (λ (x : Bool). (r.name.0 == XCHG) && (is_register one && x)) b

pub exchanges_read : (bytes : List ℕ) (insn : View) (i : ℕ) (r : Row) (p : Fields) → OrderedRow bytes insn i r p
    → exchanges insn ≡ change_places r (shown (has_rex r p) (length bytes) p r.first) (shown (has_rex r p) (length bytes) p r.second)
exchanges_read bytes insn i r p c =
    order_read r p insn c.means ∙ ap (λ (y : List ℕ). change_places r (shown (has_rex r p) (length y) p r.first) (shown (has_rex r p) (length y) p r.second)) (sym c.bytes_are)

-- OPERANDS OF WHICH ALL VALUES ARE KNOWN

same_displaced : (b : Base) (d : Option ℕ) → is_known (displaced b d) ≡ true → displaced b d ≡ d
same_displaced base.Absent d h = refl
same_displaced base.Rip d h = cc
same_displaced (base.Of n) d h = refl

plain_valued : (o : Seen) → is_valued o ≡ true → plain_memory o ≡ o
plain_valued absent h = refl
plain_valued (register r) h = refl
plain_valued (shown_immediate v) h = refl
plain_valued (memory a d) h = ap (λ (x : Option ℕ). memory a x) (same_displaced a.base d h)
plain_valued (target v) h = cc

target_valued : (o : Seen) → is_valued o ≡ true → plain_target o ≡ o
target_valued absent h = refl
target_valued (register r) h = refl
target_valued (shown_immediate v) h = refl
target_valued (memory a d) h = refl
target_valued (target v) h = cc

exact_normal : (i : Immediate) (q : Pattern) (o : Seen) → is_valued o ≡ true → exact i q o ≡ normal i q o
exact_normal i pattern.Absent o h = refl
exact_normal i (pattern.RegMem c m) o h = sym (plain_valued o h)
exact_normal i (pattern.Reg c) o h = refl
exact_normal i (pattern.Low c) o h = refl
exact_normal i (pattern.Accumulator c) o h = refl
exact_normal i pattern.Cl o h = refl
exact_normal i pattern.One o h = refl
exact_normal i pattern.Immediate o h = refl
exact_normal i pattern.Target o h = sym (target_valued o h)

-- the value of what stands beside no branch is known
held_plain : (o : Seen) → is_valued o ≡ true → is_known (held_of o) ≡ true
held_plain absent h = refl
held_plain (register r) h = refl
held_plain (shown_immediate v) h = h
held_plain (memory a d) h = refl
held_plain (target v) h = cc

held_reduced : (i : Immediate) (o : Seen) → is_valued o ≡ true → is_known (held_of (plain_immediate i o)) ≡ true
held_reduced i absent h = refl
held_reduced i (register r) h = refl
held_reduced i (shown_immediate None) h = cc
held_reduced i (shown_immediate (Some v)) h = of_reduced (λ (o : Seen). is_known (held_of o)) true (last_of i) v refl (λ w. refl)
held_reduced i (memory a d) h = refl
held_reduced i (target v) h = cc

held_valued : (i : Immediate) (q : Pattern) (o : Seen) → is_valued o ≡ true → is_known (held_of (normal i q o)) ≡ true
held_valued i pattern.Absent o h = held_plain o h
held_valued i (pattern.RegMem c m) o h = subst (λ (x : Seen). is_known (held_of x) ≡ true) (sym (plain_valued o h)) (held_plain o h)
held_valued i (pattern.Reg c) o h = held_plain o h
held_valued i (pattern.Low c) o h = held_plain o h
held_valued i (pattern.Accumulator c) o h = held_plain o h
held_valued i pattern.Cl o h = held_plain o h
held_valued i pattern.One o h = held_plain o h
held_valued i pattern.Immediate o h = held_reduced i o h
held_valued i pattern.Target o h = subst (λ (x : Seen). is_known (held_of x) ≡ true) (sym (target_valued o h)) (held_plain o h)

at_known : (b : Base) (i : Index) (d : Option ℕ) → is_known (displaced b d) ≡ true → is_known_place (place_at b i d) ≡ true
at_known base.Absent i None h = cc
at_known base.Absent i (Some v) h = refl
at_known base.Rip i d h = cc
at_known (base.Of n) i None h = cc
at_known (base.Of n) i (Some v) h = refl

place_plain : (o : Seen) → is_valued o ≡ true → is_known_place (place_of o) ≡ true
place_plain absent h = refl
place_plain (register r) h = refl
place_plain (shown_immediate v) h = refl
place_plain (memory a d) h = at_known a.base a.index d h
place_plain (target v) h = cc

place_reduced : (i : Immediate) (o : Seen) → is_valued o ≡ true → is_known_place (place_of (plain_immediate i o)) ≡ true
place_reduced i absent h = refl
place_reduced i (register r) h = refl
place_reduced i (shown_immediate None) h = cc
place_reduced i (shown_immediate (Some v)) h = of_reduced (λ (o : Seen). is_known_place (place_of o)) true (last_of i) v refl (λ w. refl)
place_reduced i (memory a d) h = at_known a.base a.index d h
place_reduced i (target v) h = cc

place_valued : (i : Immediate) (q : Pattern) (o : Seen) → is_valued o ≡ true → is_known_place (place_of (normal i q o)) ≡ true
place_valued i pattern.Absent o h = place_plain o h
place_valued i (pattern.RegMem c m) o h = subst (λ (x : Seen). is_known_place (place_of x) ≡ true) (sym (plain_valued o h)) (place_plain o h)
place_valued i (pattern.Reg c) o h = place_plain o h
place_valued i (pattern.Low c) o h = place_plain o h
place_valued i (pattern.Accumulator c) o h = place_plain o h
place_valued i pattern.Cl o h = place_plain o h
place_valued i pattern.One o h = place_plain o h
place_valued i pattern.Immediate o h = place_reduced i o h
place_valued i pattern.Target o h = subst (λ (x : Seen). is_known_place (place_of x) ≡ true) (sym (target_valued o h)) (place_plain o h)

-- what is so of each of three and of none is so of the one that is chosen
chosen_so : (test : Seen → Bool) (a b c : Bool) (x y z : Seen) → test absent ≡ true → test x ≡ true → test y ≡ true → test z ≡ true → test (chosen a b c x y z) ≡ true
chosen_so test true b c x y z n f s t = f
chosen_so test false true c x y z n f s t = s
chosen_so test false false true x y z n f s t = t
chosen_so test false false false x y z n f s t = n

picked_so : (test : Seen → Bool) (f : Pattern → Bool) (r : Row) (insn : View) → test absent ≡ true → ((i : Immediate) (q : Pattern) (o : Seen) → is_valued o ≡ true → test (normal i q o) ≡ true)
    → all_valued insn ≡ true → test (pick f r insn) ≡ true
unfolding pick
picked_so test f r insn n k h =
    let p = and_parts (is_valued insn.first) (is_valued insn.second && is_valued insn.third) h in
    let q = and_parts (is_valued insn.second) (is_valued insn.third) p.1 in
    chosen_so test (f r.first) (f r.second) (f r.third) _ _ _ n (k r.immediate r.first insn.first p.0) (k r.immediate r.second insn.second q.0) (k r.immediate r.third insn.third q.1)

held_so : (i : Immediate) (o : Seen) → is_known (held_of o) ≡ true → is_known (held_in i o) ≡ true
held_so immediate.Absent o h = refl
held_so immediate.Byte o h = h
held_so immediate.Count o h = h
held_so immediate.Sext16 o h = h
held_so immediate.Sext32 o h = h
held_so immediate.Sext64 o h = h
held_so immediate.Word o h = h
held_so immediate.Long o h = h
held_so immediate.LongSext o h = h
held_so immediate.Quad o h = h
held_so immediate.Rel8 o h = h
held_so immediate.Short o h = h
held_so immediate.Rel32 o h = h

place_so : (m : Shape) (o : Seen) → is_known_place (place_of o) ≡ true → is_known_place (place_of (rm_operand m o)) ≡ true
place_so shape.Plain o h = refl
place_so shape.Low o h = refl
place_so shape.LowNotFirst o h = refl
place_so (shape.Fixed b) o h = refl
place_so (shape.Digit d m) o h = h
place_so (shape.Slash m) o h = h

least_known : (p : Location) → is_known_place (least p) ≡ is_known_place p
least_known nowhere = refl
least_known (direct n) = refl
least_known (from_rip d) = refl
least_known (bare i d) = refl
least_known (based b i s w None) = refl
least_known (based b i s w (Some v)) = refl

-- the values in the fields are known
fields_known : (bytes : List ℕ) (insn : View) (i : ℕ) (r : Row) (p : Fields) → all_valued insn ≡ true → OrderedRow bytes insn i r p → (is_known p.held ≡ true) × (is_known_place p.place ≡ true)
fields_known bytes insn i r p h c =
    let k = roles r insn p (shaped_at i r c.found) (fit_of r p c.fit) c.means in
    let a = held_so r.immediate (pick is_held r insn) (picked_so (λ (o : Seen). is_known (held_of o)) is_held r insn refl held_valued h) in
    let b = place_so r.shape (pick is_rm r insn) (picked_so (λ (o : Seen). is_known_place (place_of o)) is_rm r insn refl place_valued h) in
    (subst (λ (d : Option ℕ). is_known d ≡ true) k.held a, sym (least_known p.place) ∙ subst (λ (x : Location). is_known_place x ≡ true) k.place b)

-- THE INSTRUCTION THAT IS READ

-- an instruction of its parts
abbrev view_by : ℕ → ℕ → Prefix → Seen → Seen → Seen → View
view_by n s w a b c = record { name = record { 0 = n }; size = s; «prefix» = w; first = a; second = b; third = c }

same_view : (n m s t : ℕ) (w x : Prefix) (a b c d e f : Seen) → n ≡ m → s ≡ t → w ≡ x → a ≡ d → b ≡ e → c ≡ f → view_by n s w a b c ≡ view_by m t x d e f
same_view n m s t w x a b c d e f g h i j k l = rw (g, h, i, j, k, l) refl

-- what a row shows of fields, in its order
abbrev in_order : Row → Fields → View
in_order r p = view_by r.name.0 r.size p.«prefix» (shown (has_rex r p) (length (bytes_of r p)) p r.first) (shown (has_rex r p) (length (bytes_of r p)) p r.second) (shown (has_rex r p) (length (bytes_of r p)) p r.third)

meaning_is : (r : Row) (p : Fields) (t : Bool) → change_places r (in_order r p).first (in_order r p).second ≡ t → meaning r p ≡ turned_if t (in_order r p)
unfolding meaning
meaning_is r p true h = rw h refl
meaning_is r p false h = rw h refl

all_parts : (insn : View) → all_valued insn ≡ true → (is_valued insn.first ≡ true) × ((is_valued insn.second ≡ true) × (is_valued insn.third ≡ true))
all_parts insn h =
    let p = and_parts (is_valued insn.first) (is_valued insn.second && is_valued insn.third) h in
    (p.0, and_parts (is_valued insn.second) (is_valued insn.third) p.1)

shown_is : (r : Row) (p : Fields) (insn : View) → all_valued insn ≡ true → Means r p insn → in_row r insn ≡ in_order r p
shown_is r p insn h m =
    let v = all_parts insn h in
    same_view insn.name.0 r.name.0 insn.size r.size insn.«prefix» p.«prefix» _ _ _ _ _ _ m.name m.size m.words
    (exact_normal r.immediate r.first insn.first v.0 ∙ m.first) (exact_normal r.immediate r.second insn.second v.1.0 ∙ m.second) (exact_normal r.immediate r.third insn.third v.1.1 ∙ m.third)

turned_valued : (t : Bool) (insn : View) → all_valued insn ≡ true → all_valued (turned_if t insn) ≡ true
turned_valued true insn h = let v = all_parts insn h in rw (v.0, v.1.0, v.1.1) refl
turned_valued false insn h = h

pub codes_read : (bytes : List ℕ) (insn : View) (i : ℕ) → all_valued insn ≡ true → Codes bytes insn i → ReadsBack bytes insn i
codes_read bytes insn i h (t, e, (r, p, c)) =
    let v = turned_valued t insn h in
    let k = fields_known bytes (turned_if t insn) i r p v c in
    let order : change_places r (in_order r p).first (in_order r p).second ≡ t = sym (order_read r p (turned_if t insn) c.means) ∙ e in
    record {
      r = r;
      p = p;
      exchanged = t;
      order = e;
      reads = record {
        found = c.found;
        fit = c.fit;
        held_known = k.0;
        place_known = k.1;
        bytes_are = c.bytes_are;
        insn_is = ap (turned_if t) (shown_is r p (turned_if t insn) v c.means) ∙ sym (meaning_is r p t order);
      };
    }

-- THE INSTRUCTION THAT IS MEANT, ITS IMMEDIATE MODULO THE OPERAND SIZE

immediate_register : (i : Immediate) (o : Seen) → is_register o ≡ true → plain_immediate i o ≡ o
immediate_register i absent h = cc
immediate_register i (register r) h = refl
immediate_register i (shown_immediate v) h = cc
immediate_register i (memory a d) h = cc
immediate_register i (target v) h = cc

exact_register : (i : Immediate) (q : Pattern) (o : Seen) → is_register o ≡ true → exact i q o ≡ o
exact_register i pattern.Absent o h = refl
exact_register i (pattern.RegMem c m) o h = refl
exact_register i (pattern.Reg c) o h = refl
exact_register i (pattern.Low c) o h = refl
exact_register i (pattern.Accumulator c) o h = refl
exact_register i pattern.Cl o h = refl
exact_register i pattern.One o h = refl
exact_register i pattern.Immediate o h = immediate_register i o h
exact_register i pattern.Target o h = refl

register_exact : (i : Immediate) (q : Pattern) (o : Seen) → is_register (exact i q o) ≡ is_register o
register_exact i pattern.Absent o = refl
register_exact i (pattern.RegMem c m) o = refl
register_exact i (pattern.Reg c) o = refl
register_exact i (pattern.Low c) o = refl
register_exact i (pattern.Accumulator c) o = refl
register_exact i pattern.Cl o = refl
register_exact i pattern.One o = refl
register_exact i pattern.Immediate o = register_immediate i o
register_exact i pattern.Target o = refl

accumulator_register : (o : Seen) → is_accumulator o ≡ true → is_register o ≡ true
accumulator_register absent h = cc
accumulator_register (register r) h = refl
accumulator_register (shown_immediate v) h = cc
accumulator_register (memory a d) h = cc
accumulator_register (target v) h = cc

-- operands that are exchanged are registers
both_registers : (insn : View) → exchanges insn ≡ true → (is_register insn.first ≡ true) × (is_register insn.second ≡ true)
both_registers insn h =
    let p = and_parts (insn.name.0 == XCHG) (is_register insn.first && is_accumulator insn.second) h in
    let q = and_parts (is_register insn.first) (is_accumulator insn.second) p.1 in
    (q.0, accumulator_register insn.second q.1)

-- a row shows two registers alike in both orders
turned_row : (r : Row) (insn : View) → is_register insn.first ≡ true → is_register insn.second ≡ true → in_row r (turned insn) ≡ turned (in_row r insn)
turned_row r insn f s =
    same_view insn.name.0 insn.name.0 insn.size insn.size insn.«prefix» insn.«prefix» _ _ _ _ _ _ refl refl refl
    (exact_register r.immediate r.first insn.second s ∙ sym (exact_register r.immediate r.second insn.second s))
    (exact_register r.immediate r.second insn.first f ∙ sym (exact_register r.immediate r.first insn.first f)) refl

-- what reads as the instruction in one order is the instruction in the row's order
own_order : (r : Row) (p : Fields) (insn : View) (t c : Bool) → exchanges (turned_if t insn) ≡ t → exchanges (in_order r p) ≡ c
    → turned_if t (in_row r (turned_if t insn)) ≡ turned_if c (in_order r p) → in_row r (turned_if c insn) ≡ in_order r p
own_order r p insn true true e f h = ap turned h
own_order r p insn false false e f h = h
own_order r p insn true false e f h =
    let k = both_registers (turned insn) e in
    sym (ap turned (turned_row r insn k.1 k.0)) ∙ h
own_order r p insn false true e f h =
    let k = both_registers (in_order r p) f in
    let one : is_register insn.first ≡ true = sym (register_exact r.immediate r.first insn.first) ∙ ap (λ (x : View). is_register x.first) h ∙ k.1 in
    let other : is_register insn.second ≡ true = sym (register_exact r.immediate r.second insn.second) ∙ ap (λ (x : View). is_register x.second) h ∙ k.0 in
    turned_row r insn one other ∙ ap turned h

means_shown : (r : Row) (p : Fields) (insn : View) → all_valued insn ≡ true → in_row r insn ≡ in_order r p → Means r p insn
means_shown r p insn h e =
    let v = all_parts insn h in
    record {
      name = ap (λ (x : View). x.name.0) e;
      size = ap (λ (x : View). x.size) e;
      words = ap (λ (x : View). x.«prefix») e;
      first = sym (exact_normal r.immediate r.first insn.first v.0) ∙ ap (λ (x : View). x.first) e;
      second = sym (exact_normal r.immediate r.second insn.second v.1.0) ∙ ap (λ (x : View). x.second) e;
      third = sym (exact_normal r.immediate r.third insn.third v.1.1) ∙ ap (λ (x : View). x.third) e;
    }

pub readings_code : (bytes : List ℕ) (insn : View) (i : ℕ) → all_valued insn ≡ true → ReadsBack bytes insn i → Codes bytes insn i
readings_code bytes insn i h b =
    let r = b.r in
    let p = b.p in
    let t = change_places r (in_order r p).first (in_order r p).second in
    let e = own_order r p insn b.exchanged t b.order refl (b.reads.insn_is ∙ meaning_is r p t refl) in
    let m = means_shown r p (turned_if t insn) (turned_valued t insn h) e in
    (t, order_read r p (turned_if t insn) m, (r, p, record { found = b.reads.found; fit = b.reads.fit; means = m; bytes_are = b.reads.bytes_are }))

-- THE INSTRUCTION THAT IS SHOWN

signed_under : (k n v : ℕ) → 2 ^ (k - 1) ≤ 2 ^ n → is_signed k n v ≡ true → v < 2 ^ n
signed_under k n v l h = elim (or_cases (nat_lt v (2 ^ (k - 1))) (nat_le (2 ^ n - 2 ^ (k - 1)) v && nat_lt v (2 ^ n)) h) [
  | inl e ↦ (let a = ltb-true v (2 ^ (k - 1)) e in omega arith)
  | inr e ↦ ltb-true v (2 ^ n) (and_parts _ _ e).1
]

-- what an immediate holds is not above its last number
under_last : (i : Immediate) (v : ℕ) → immediate_fits i (Some v) ≡ true → v ≤ last_of i
under_last immediate.Absent v h = (let a = eqb-true v 0 h in omega arith)
under_last immediate.Byte v h = (let a = ltb-true v (2 ^ 8) h in omega arith)
under_last immediate.Count v h = (let a = ltb-true v (2 ^ 8) h in omega arith)
under_last immediate.Sext16 v h = (let a = signed_under 8 16 v (omega arith) h in omega arith)
under_last immediate.Sext32 v h = (let a = signed_under 8 32 v (omega arith) h in omega arith)
under_last immediate.Sext64 v h = (let a = signed_under 8 64 v (omega arith) h in omega arith)
under_last immediate.Word v h = (let a = ltb-true v (2 ^ 16) h in omega arith)
under_last immediate.Long v h = (let a = ltb-true v (2 ^ 32) h in omega arith)
under_last immediate.LongSext v h = (let a = signed_under 32 64 v (omega arith) h in omega arith)
under_last immediate.Quad v h = (let a = ltb-true v (2 ^ 64) h in omega arith)
under_last immediate.Rel8 v h = (let a = signed_under 8 64 v (omega arith) h in omega arith)
under_last immediate.Short v h = (let a = signed_under 8 64 v (omega arith) h in omega arith)
under_last immediate.Rel32 v h = (let a = signed_under 32 64 v (omega arith) h in omega arith)

held_again : (i : Immediate) (d : Option ℕ) → immediate_fits i d ≡ true → is_known d ≡ true → reduced_if (last_of i) d ≡ shown_immediate d
held_again i None f h = cc
held_again i (Some v) f h = (let k = le-leb v (last_of i) (under_last i v f) in rw k refl)

shown_again : (rex : Bool) (n : ℕ) (i : Immediate) (p : Fields) (q : Pattern) → immediate_fits i p.held ≡ true → is_valued (shown rex n p q) ≡ true → normal i q (shown rex n p q) ≡ shown rex n p q
shown_again rex n i p pattern.Absent f h = refl
shown_again rex n i p (pattern.RegMem c m) f h = plain_valued (shown rex n p (pattern.RegMem c m)) h
shown_again rex n i p (pattern.Reg c) f h = refl
shown_again rex n i p (pattern.Low c) f h = refl
shown_again rex n i p (pattern.Accumulator c) f h = refl
shown_again rex n i p pattern.Cl f h = refl
shown_again rex n i p pattern.One f h = refl
shown_again rex n i p pattern.Immediate f h = held_again i p.held f h
shown_again rex n i p pattern.Target f h = cc

back_valued : (t : Bool) (insn : View) → all_valued (turned_if t insn) ≡ true → all_valued insn ≡ true
back_valued true insn h = let v = all_parts (turned_if true insn) h in rw (v.0, v.1.0, v.1.1) refl
back_valued false insn h = h

means_order : (r : Row) (p : Fields) → immediate_fits r.immediate p.held ≡ true → all_valued (in_order r p) ≡ true → Means r p (in_order r p)
means_order r p f h =
    let v = all_parts (in_order r p) h in
    record {
      name = refl;
      size = refl;
      words = refl;
      first = shown_again (has_rex r p) (length (bytes_of r p)) r.immediate p r.first f v.0;
      second = shown_again (has_rex r p) (length (bytes_of r p)) r.immediate p r.second f v.1.0;
      third = shown_again (has_rex r p) (length (bytes_of r p)) r.immediate p r.third f v.1.1;
    }

turned_twice : (t : Bool) (insn : View) → turned_if t (turned_if t insn) ≡ insn
turned_twice true insn = refl
turned_twice false insn = refl

pub exact_readings_code : (bytes : List ℕ) (insn : View) (i : ℕ) (r : Row) (p : Fields) → all_valued insn ≡ true → ReadsRow bytes insn i r p → Codes bytes insn i
exact_readings_code bytes insn i r p h c =
    let u = in_order r p in
    let t = change_places r u.first u.second in
    let e : insn ≡ turned_if t u = c.insn_is ∙ meaning_is r p t refl in
    let v : all_valued u ≡ true = back_valued t u (subst (λ (x : View). all_valued x ≡ true) e h) in
    let m = means_order r p (fit_of r p c.fit).held v in
    let same : turned_if t insn ≡ u = ap (turned_if t) e ∙ turned_twice t u in (
      t,
      ap exchanges same,
      (r, p, record { found = c.found; fit = c.fit; means = subst (λ (x : View). Means r p x) (sym same) m; bytes_are = c.bytes_are }),
    )
