-- Each written instruction reads back, whatever follows it.
use Rattle.std.proofs.Common.{◌≡◌, ℕ, zero, suc, ◌+◌, ◌-◌, ◌*◌, ◌/◌, ◌%◌, ◌^◌, ◌<◌, ◌≤◌, ℤ, pos, negsuc, ◌*ℤ◌, neg_ℤ, Bool, true, false, ◌==◌, List, [], ◌∷◌, ◌++◌, Option, None, Some, nat_le, nat_lt, int_lt, int_le, ◌&&◌, if◌then◌else◌, refl, ◌∙◌, ap, subst, arith}
use Rattle.std.specs.Option.{option_map, option_and_then}
use Rattle.leb128.specs.Digits.{uleb_bytes, sleb_bytes}
use Rattle.leb128.specs.Numbers.{IsSigned64, NumbersReadBack}
use Rattle.leb128.specs.Reading.{uleb, uleb_above}
use Rattle.cfi_rows.specs.declared.rows.CfiOp.{CfiOp}
use Rattle.cfi_rows.specs.declared.rows.CfiOp.TheVariants.{DefCfa, DefCfaRegister, DefCfaOffset, Set, Restore, Remember, RestoreState}
use Rattle.cfi_rows.specs.declared.rows.Rule.{Rule}
use Rattle.cfi_rows.specs.declared.rows.Rule.TheVariants.{Unspecified, Undefined, SameValue, Offset, ValueOffset, Register}
use Rattle.cfi_rows.specs.declared.rows.Insn.TheVariants.{Nop, Advance, Op}
use Rattle.cfi_rows.specs.Instructions.{next, extended, nop_or_advance, register_rule, state_or_cfa, signed_or_value, small, register_of, within, plain_of, times, factored_of, times_signed, factored_signed_of, one}
use Rattle.cfi_entries.specs.Written.{slots, cfa_offset, rule_offset, rule_written, of_register, written}
use Rattle.cfi_entries.specs.Lines.{inside, in_byte, in_two, in_four, advance_bytes}
use Rattle.cfi_entries.proofs.Comparisons.{is_below}

-- a number in one byte
uleb_one : (byte : ℕ) (rest : List ℕ) → byte < 128 → uleb (byte ∷ rest) ≡ Some (byte, rest)
uleb_one byte rest small = ap (λ b. if b then Some (byte, rest) else option_and_then (uleb_above byte) (uleb rest)) (is_below byte 128 small)

register_read : (register : ℕ) (tail : List ℕ) → register < 64 → register_of (register ∷ tail) ≡ Some (register, tail)
register_read register tail fits =
    ap (option_and_then small) (uleb_one register tail (omega arith))
    ∙ ap (λ b. if b then Some (register, tail) else None) (is_below register 64 fits)

plain_read : (numbers : NumbersReadBack) (number : ℕ) (tail : List ℕ) → number < 2 ^ 63 → plain_of (uleb_bytes number ++ tail) ≡ Some (pos number, tail)
plain_read numbers number tail fits =
    ap (option_and_then within) (numbers.unsigned number tail (omega (arith, fits)))
    ∙ ap (λ b. if b then Some (pos number, tail) else None) (is_below number (2 ^ 63) fits)

factored_read : (numbers : NumbersReadBack) (number : ℕ) (offset : ℤ) (tail : List ℕ) → number ≤ 2 ^ 60 → pos number *ℤ neg_ℤ (pos 8) ≡ offset
    → factored_of (uleb_bytes number ++ tail) ≡ Some (offset, tail)
factored_read numbers number offset tail fits is =
    ap (option_and_then times) (numbers.unsigned number tail (omega (arith, fits)))
    ∙ ap (λ b. if b then Some (pos number *ℤ neg_ℤ (pos 8), tail) else None) (let near : nat_le number (2 ^ 60) ≡ true = grind arith in near)
    ∙ ap (λ z. Some (z, tail)) is

scaled_read : (numbers : NumbersReadBack) (number offset : ℤ) (tail : List ℕ) → IsSigned64 number
    → (int_lt (neg_ℤ (pos (2 ^ 60))) number && int_le number (pos (2 ^ 60))) ≡ true → number *ℤ neg_ℤ (pos 8) ≡ offset
    → factored_signed_of (sleb_bytes number ++ tail) ≡ Some (offset, tail)
scaled_read numbers number offset tail short near is =
    ap (option_and_then times_signed) (numbers.signed number tail short)
    ∙ ap (λ b. if b then Some (number *ℤ neg_ℤ (pos 8), tail) else None) near
    ∙ ap (λ z. Some (z, tail)) is

scaled_up : (numbers : NumbersReadBack) (number : ℕ) (offset : ℤ) (tail : List ℕ) → number ≤ 2 ^ 60 → pos number *ℤ neg_ℤ (pos 8) ≡ offset
    → factored_signed_of (sleb_bytes (pos number) ++ tail) ≡ Some (offset, tail)
scaled_up numbers number offset tail fits is =
    scaled_read numbers (pos number) offset tail (omega arith)
    (let near : (int_lt (neg_ℤ (pos (2 ^ 60))) (pos number) && int_le (pos number) (pos (2 ^ 60))) ≡ true = grind arith in near) is

scaled_down : (numbers : NumbersReadBack) (number : ℕ) (offset : ℤ) (tail : List ℕ) → number < 2 ^ 60 → neg_ℤ (pos number) *ℤ neg_ℤ (pos 8) ≡ offset
    → factored_signed_of (sleb_bytes (neg_ℤ (pos number)) ++ tail) ≡ Some (offset, tail)
scaled_down numbers zero offset tail fits is = scaled_up numbers 0 offset tail (omega arith) is
scaled_down numbers (suc number) offset tail fits is =
    scaled_read numbers (negsuc number) offset tail (omega arith)
    (let near : (int_lt (neg_ℤ (pos (2 ^ 60))) (negsuc number) && int_le (negsuc number) (pos (2 ^ 60))) ≡ true = grind arith in near) is

-- the first byte tells which
next_advance : (distance : ℕ) (rest : List ℕ) → distance < 64 → next ((64 + distance) ∷ rest) ≡ Some (Advance distance, rest)
next_advance distance rest fits = grind arith

next_offset : (register : ℕ) (rest : List ℕ) → register < 64 → next ((128 + register) ∷ rest) ≡ one (λ z. Op (Set register (Offset z))) factored_of rest
next_offset register rest fits = grind arith

next_restore : (register : ℕ) (rest : List ℕ) → register < 64 → next ((192 + register) ∷ rest) ≡ Some (Op (Restore register), rest)
next_restore register rest fits = grind arith

pub inside_reads : (distance : ℕ) (tail : List ℕ) → distance < 64 → next (advance_bytes inside distance ++ tail) ≡ Some (Advance distance, tail)
inside_reads distance tail fits = next_advance distance tail fits

pub in_byte_reads : (distance : ℕ) (tail : List ℕ) → next (advance_bytes in_byte distance ++ tail) ≡ Some (Advance distance, tail)
unfolding extended nop_or_advance
in_byte_reads distance tail = refl

pub in_two_reads : (distance : ℕ) (tail : List ℕ) → next (advance_bytes in_two distance ++ tail) ≡ Some (Advance distance, tail)
unfolding extended nop_or_advance
in_two_reads distance tail =
    ap (λ n. Some (Advance n, tail)) (let same : distance % 256 + distance / 256 * 256 ≡ distance = omega arith in same)

pub in_four_reads : (distance : ℕ) (tail : List ℕ) → next (advance_bytes in_four distance ++ tail) ≡ Some (Advance distance, tail)
unfolding extended nop_or_advance
in_four_reads distance tail =
    ap (λ n. Some (Advance n, tail))
    (let same : distance % 256 + distance / 256 % 256 * 256 + distance / 65536 % 256 * 65536 + distance / 16777216 * 16777216 ≡ distance = omega arith in same)

pub nop_reads : (tail : List ℕ) → next (0 ∷ tail) ≡ Some (Nop, tail)
unfolding extended nop_or_advance
nop_reads tail = refl

-- the bytes, if there are any, read as the instruction
abbrev Reads : CfiOp → Option (List ℕ) → Type 0
Reads op None = Unit {0}
Reads op (Some bytes) = (tail : List ℕ) → next (bytes ++ tail) ≡ Some (Op op, tail)

reads_if : (op : CfiOp) (b : Bool) (due : Option (List ℕ)) → (b ≡ true → Reads op due) → Reads op (if b then due else None)
reads_if op true due given = given refl
reads_if op false due given = tt

register_reads : (op : CfiOp) (number : ℕ) (due : Option (List ℕ)) → (number < 64 → Reads op due) → Reads op (of_register number due)
register_reads op number due given =
    reads_if op (nat_lt number 64) due (λ is. given (let fits : number < 64 = grind arith in fits))

slots_read : (op : CfiOp) (make : ℕ → List ℕ) (most distance : ℕ)
    → ((number : ℕ) → distance ≡ 8 * number → distance ≤ most → (tail : List ℕ) → next (make number ++ tail) ≡ Some (Op op, tail))
    → Reads op (option_map make (slots most distance))
slots_read op make most distance given = by (nat_le distance most && (distance % 8 == 0)) refl
  where
    by : (b : Bool) → (nat_le distance most && (distance % 8 == 0)) ≡ b → Reads op (option_map make (if b then Some (distance / 8) else None))
    by true is = given (distance / 8) (let whole : distance ≡ 8 * (distance / 8) = grind arith in whole) (let near : distance ≤ most = grind arith in near)
    by false is = tt

-- the offsets over -8
below_is : (distance number : ℕ) → distance + 1 ≡ 8 * number → pos number *ℤ neg_ℤ (pos 8) ≡ negsuc distance
below_is distance number whole = grind arith

above_is : (distance number : ℕ) → distance + 1 ≡ 8 * number → neg_ℤ (pos number) *ℤ neg_ℤ (pos 8) ≡ pos (suc distance)
above_is distance number whole = grind arith

def_cfa_reads : (numbers : NumbersReadBack) (register : ℕ) (offset : ℤ) → register < 64 → Reads (DefCfa register offset) (cfa_offset (0x0c ∷ register ∷ []) (0x12 ∷ register ∷ []) offset)
unfolding extended state_or_cfa signed_or_value
def_cfa_reads numbers register (pos offset) fits =
    reads_if (DefCfa register (pos offset)) (nat_lt offset (2 ^ 63)) (Some (0x0c ∷ register ∷ uleb_bytes offset)) (λ is tail.
    ap (option_and_then (λ a. one (λ z. Op (DefCfa a.0 z)) plain_of a.1)) (register_read register (uleb_bytes offset ++ tail) fits)
    ∙ ap (option_map (λ a. (Op (DefCfa register a.0), a.1))) (plain_read numbers offset tail (let small : offset < 2 ^ 63 = grind arith in small)))
def_cfa_reads numbers register (negsuc distance) fits =
    slots_read (DefCfa register (negsuc distance)) (λ number. 0x12 ∷ register ∷ sleb_bytes (pos number)) (2 ^ 63) (distance + 1) (λ number whole near tail.
    ap (option_and_then (λ a. one (λ z. Op (DefCfa a.0 z)) factored_signed_of a.1)) (register_read register (sleb_bytes (pos number) ++ tail) fits)
    ∙ ap (option_map (λ a. (Op (DefCfa register a.0), a.1))) (scaled_up numbers number (negsuc distance) tail (omega arith) (below_is distance number whole)))

def_cfa_offset_reads : (numbers : NumbersReadBack) (offset : ℤ) → Reads (DefCfaOffset offset) (cfa_offset (0x0e ∷ []) (0x13 ∷ []) offset)
unfolding extended state_or_cfa signed_or_value
def_cfa_offset_reads numbers (pos offset) =
    reads_if (DefCfaOffset (pos offset)) (nat_lt offset (2 ^ 63)) (Some (0x0e ∷ uleb_bytes offset)) (λ is tail.
    ap (option_map (λ a. (Op (DefCfaOffset a.0), a.1))) (plain_read numbers offset tail (let small : offset < 2 ^ 63 = grind arith in small)))
def_cfa_offset_reads numbers (negsuc distance) =
    slots_read (DefCfaOffset (negsuc distance)) (λ number. 0x13 ∷ sleb_bytes (pos number)) (2 ^ 63) (distance + 1) (λ number whole near tail.
    ap (option_map (λ a. (Op (DefCfaOffset a.0), a.1))) (scaled_up numbers number (negsuc distance) tail (omega arith) (below_is distance number whole)))

offset_below : (numbers : NumbersReadBack) (register number : ℕ) (offset : ℤ) (tail : List ℕ) → register < 64 → number ≤ 2 ^ 60 → pos number *ℤ neg_ℤ (pos 8) ≡ offset
    → next ((0x80 + register) ∷ (uleb_bytes number ++ tail)) ≡ Some (Op (Set register (Offset offset)), tail)
offset_below numbers register number offset tail fits small is =
    next_offset register (uleb_bytes number ++ tail) fits
    ∙ ap (option_map (λ a. (Op (Set register (Offset a.0)), a.1))) (factored_read numbers number offset tail small is)

offset_reads : (numbers : NumbersReadBack) (register : ℕ) (offset : ℤ) → register < 64 → Reads (Set register (Offset offset)) (rule_offset ((0x80 + register) ∷ []) (0x11 ∷ register ∷ []) offset)
unfolding extended signed_or_value
offset_reads numbers register (pos zero) fits = λ tail. offset_below numbers register 0 (pos 0) tail fits (omega arith) refl
offset_reads numbers register (pos (suc distance)) fits =
    slots_read (Set register (Offset (pos (suc distance)))) (λ number. 0x11 ∷ register ∷ sleb_bytes (neg_ℤ (pos number))) (2 ^ 63 - 1) (distance + 1) (λ number whole near tail.
    ap (option_and_then (λ a. one (λ z. Op (Set a.0 (Offset z))) factored_signed_of a.1)) (register_read register (sleb_bytes (neg_ℤ (pos number)) ++ tail) fits)
    ∙ ap (option_map (λ a. (Op (Set register (Offset a.0)), a.1))) (scaled_down numbers number (pos (suc distance)) tail (omega arith) (above_is distance number whole)))
offset_reads numbers register (negsuc distance) fits =
    slots_read (Set register (Offset (negsuc distance))) (λ number. (0x80 + register) ∷ uleb_bytes number) (2 ^ 63) (distance + 1) (λ number whole near tail.
    offset_below numbers register number (negsuc distance) tail fits (omega arith) (below_is distance number whole))

value_below : (numbers : NumbersReadBack) (register number : ℕ) (offset : ℤ) (tail : List ℕ) → register < 64 → number ≤ 2 ^ 60 → pos number *ℤ neg_ℤ (pos 8) ≡ offset
    → next (0x14 ∷ register ∷ (uleb_bytes number ++ tail)) ≡ Some (Op (Set register (ValueOffset offset)), tail)
unfolding extended signed_or_value
value_below numbers register number offset tail fits small is =
    ap (option_and_then (λ a. one (λ z. Op (Set a.0 (ValueOffset z))) factored_of a.1)) (register_read register (uleb_bytes number ++ tail) fits)
    ∙ ap (option_map (λ a. (Op (Set register (ValueOffset a.0)), a.1))) (factored_read numbers number offset tail small is)

value_reads : (numbers : NumbersReadBack) (register : ℕ) (offset : ℤ) → register < 64 → Reads (Set register (ValueOffset offset)) (rule_offset (0x14 ∷ register ∷ []) (0x15 ∷ register ∷ []) offset)
unfolding extended signed_or_value
value_reads numbers register (pos zero) fits = λ tail. value_below numbers register 0 (pos 0) tail fits (omega arith) refl
value_reads numbers register (pos (suc distance)) fits =
    slots_read (Set register (ValueOffset (pos (suc distance)))) (λ number. 0x15 ∷ register ∷ sleb_bytes (neg_ℤ (pos number))) (2 ^ 63 - 1) (distance + 1) (λ number whole near tail.
    ap (option_and_then (λ a. one (λ z. Op (Set a.0 (ValueOffset z))) factored_signed_of a.1)) (register_read register (sleb_bytes (neg_ℤ (pos number)) ++ tail) fits)
    ∙ ap (option_map (λ a. (Op (Set register (ValueOffset a.0)), a.1))) (scaled_down numbers number (pos (suc distance)) tail (omega arith) (above_is distance number whole)))
value_reads numbers register (negsuc distance) fits =
    slots_read (Set register (ValueOffset (negsuc distance))) (λ number. 0x14 ∷ register ∷ uleb_bytes number) (2 ^ 63) (distance + 1) (λ number whole near tail.
    value_below numbers register number (negsuc distance) tail fits (omega arith) (below_is distance number whole))

rule_reads : (numbers : NumbersReadBack) (register : ℕ) (rule : Rule) → register < 64 → Reads (Set register rule) (rule_written register rule)
unfolding extended register_rule
rule_reads numbers register Unspecified fits = tt
rule_reads numbers register Undefined fits = λ tail. ap (option_map (λ a. (Op (Set a.0 Undefined), a.1))) (register_read register tail fits)
rule_reads numbers register SameValue fits = λ tail. ap (option_map (λ a. (Op (Set a.0 SameValue), a.1))) (register_read register tail fits)
rule_reads numbers register (Offset offset) fits = offset_reads numbers register offset fits
rule_reads numbers register (ValueOffset offset) fits = value_reads numbers register offset fits
rule_reads numbers register (Register other) fits =
    reads_if (Set register (Register other)) (nat_lt other 64) (Some (0x09 ∷ register ∷ other ∷ [])) (λ is tail.
    ap (option_and_then (λ a. one (λ s. Op (Set a.0 (Register s))) register_of a.1)) (register_read register (other ∷ tail) fits)
    ∙ ap (option_map (λ a. (Op (Set register (Register a.0)), a.1))) (register_read other tail (let other_fits : other < 64 = grind arith in other_fits)))

reads : (numbers : NumbersReadBack) (op : CfiOp) → Reads op (written op)
unfolding extended state_or_cfa
reads numbers (DefCfa register offset) =
    register_reads (DefCfa register offset) register (cfa_offset (0x0c ∷ register ∷ []) (0x12 ∷ register ∷ []) offset) (def_cfa_reads numbers register offset)
reads numbers (DefCfaRegister register) =
    register_reads (DefCfaRegister register) register (Some (0x0d ∷ register ∷ [])) (λ fits tail.
    ap (option_map (λ a. (Op (DefCfaRegister a.0), a.1))) (register_read register tail fits))
reads numbers (DefCfaOffset offset) = def_cfa_offset_reads numbers offset
reads numbers (Set register rule) = register_reads (Set register rule) register (rule_written register rule) (rule_reads numbers register rule)
reads numbers (Restore register) =
    register_reads (Restore register) register (Some ((0xc0 + register) ∷ [])) (λ fits tail. next_restore register tail fits)
reads numbers Remember = λ tail. refl
reads numbers RestoreState = λ tail. refl

-- a written instruction reads back
pub written_reads : (numbers : NumbersReadBack) (op : CfiOp) (bytes tail : List ℕ) → written op ≡ Some bytes → next (bytes ++ tail) ≡ Some (Op op, tail)
written_reads numbers op bytes tail is = (subst (Reads op) is (reads numbers op)) tail
