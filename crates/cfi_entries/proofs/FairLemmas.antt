-- An instruction that is read can be written, and fewer bytes are left.
use Rattle.std.proofs.Common.{◌≡◌, ℕ, zero, suc, ◌+◌, ◌-◌, ◌*◌, ◌/◌, ◌%◌, ◌^◌, ◌<◌, ◌≤◌, ℤ, pos, negsuc, neg_ℤ, Bool, true, false, ◌==◌, All, length, List, [], ◌∷◌, ◌++◌, Option, None, Some, IsSome, nat_le, nat_lt, ◌&&◌, if◌then◌else◌, refl, sym, subst, arith}
use Rattle.std.proofs.lemmas.List.Elements.{All-head}
use Rattle.std.specs.Option.{option_map}
use Rattle.leb128.specs.Digits.{uleb_bytes, sleb_bytes}
use Rattle.cfi_rows.specs.declared.rows.CfiOp.{CfiOp}
use Rattle.cfi_rows.specs.declared.rows.CfiOp.TheVariants.{DefCfa, DefCfaRegister, DefCfaOffset, Set, Restore, Remember, RestoreState}
use Rattle.cfi_rows.specs.declared.rows.Rule.TheVariants.{Undefined, SameValue, Offset, ValueOffset, Register}
use Rattle.cfi_rows.specs.declared.rows.Insn.{Insn}
use Rattle.cfi_rows.specs.declared.rows.Insn.TheVariants.{Nop, Advance, Op}
use Rattle.cfi_rows.specs.Instructions.{Reader, next, extended, nop_or_advance, register_rule, state_or_cfa, signed_or_value, register_of, plain_of, factored_of, factored_signed_of, byte_of, two_bytes_of, four_bytes_of, one, two}
use Rattle.cfi_entries.specs.Written.{slots, cfa_offset, rule_offset, of_register, written}
use Rattle.cfi_entries.proofs.OperandLemmas.{Gives, Anything, IsSmall, IsPlain, IsBelow, IsFactored, more_left, then_gives, map_gives, choose, register_gives, plain_gives, factored_gives, factored_signed_gives, byte_gives, two_bytes_gives, four_bytes_gives}
use Rattle.cfi_entries.proofs.Comparisons.{is_below}

-- an instruction that changes the row can be written
abbrev pub IsWritable : Insn → Type 0
IsWritable (Op op) = IsSome (written op)
IsWritable _ = Unit {0}

some_if : (due : Option (List ℕ)) (number : ℕ) → number < 64 → IsSome due → IsSome (of_register number due)
some_if due number fits some = subst (λ b. IsSome (if b then due else None)) (sym (is_below number 64 fits)) some

slots_some : (make : ℕ → List ℕ) (most distance number : ℕ) → distance ≡ 8 * number → distance ≤ most → IsSome (option_map make (slots most distance))
slots_some make most distance number whole near =
    subst (λ b. IsSome (option_map make (if b then Some (distance / 8) else None)))
    (sym (let fits : (nat_le distance most && (distance % 8 == 0)) ≡ true = grind arith in fits)) refl

plain_some : (plain factored : List ℕ) (number : ℕ) → number < 2 ^ 63 → IsSome (cfa_offset plain factored (pos number))
plain_some plain factored number fits =
    subst (λ b. IsSome (if b then Some (plain ++ uleb_bytes number) else None)) (sym (is_below number (2 ^ 63) fits)) refl

cfa_plain : (plain factored : List ℕ) (offset : ℤ) → IsPlain offset → IsSome (cfa_offset plain factored offset)
cfa_plain plain factored offset (number, fits, is) =
    subst (λ z. IsSome (cfa_offset plain factored z)) (sym is) (plain_some plain factored number fits)

rule_below : (below above : List ℕ) (offset : ℤ) → IsBelow offset → IsSome (rule_offset below above offset)
rule_below below above (pos zero) given = refl
rule_below below above (pos (suc distance)) (number, fits, is) = absurd (let none : ⊥ = grind arith in none)
rule_below below above (negsuc distance) (number, fits, is) =
    let whole : distance + 1 ≡ 8 * number = grind arith in
    slots_some (λ number. below ++ uleb_bytes number) (2 ^ 63) (distance + 1) number whole (omega arith)

rule_factored : (below above : List ℕ) (offset : ℤ) → IsFactored offset → IsSome (rule_offset below above offset)
rule_factored below above offset (pos number, near, is) =
    rule_below below above offset (number, (let fits : number ≤ 2 ^ 60 = grind arith in fits), is)
rule_factored below above (pos zero) (negsuc number, near, is) = refl
rule_factored below above (pos (suc distance)) (negsuc number, near, is) =
    let fits : number + 1 < 2 ^ 60 = grind arith in
    slots_some (λ number. above ++ sleb_bytes (neg_ℤ (pos number))) (2 ^ 63 - 1) (distance + 1) (number + 1)
    (let whole : distance + 1 ≡ 8 * (number + 1) = grind arith in whole) (let near : distance + 1 ≤ 2 ^ 63 - 1 = grind arith in near)
rule_factored below above (negsuc distance) (negsuc number, near, is) = absurd (let none : ⊥ = grind arith in none)

cfa_factored : (plain factored : List ℕ) (offset : ℤ) → IsFactored offset → IsSome (cfa_offset plain factored offset)
cfa_factored plain factored (pos distance) (pos number, near, is) =
    plain_some plain factored distance (let fits : distance < 2 ^ 63 = grind arith in fits)
cfa_factored plain factored (negsuc distance) (pos number, near, is) =
    let fits : number ≤ 2 ^ 60 = grind arith in
    let whole : distance + 1 ≡ 8 * number = grind arith in
    slots_some (λ number. factored ++ sleb_bytes (pos number)) (2 ^ 63) (distance + 1) number whole (omega arith)
cfa_factored plain factored (pos distance) (negsuc number, near, is) =
    let fits : number + 1 < 2 ^ 60 = grind arith in
    let whole : distance ≡ 8 * (number + 1) = grind arith in
    plain_some plain factored distance (omega arith)
cfa_factored plain factored (negsuc distance) (negsuc number, near, is) = absurd (let none : ⊥ = grind arith in none)

-- instructions with operands
one_gives : {A : Type 0} (Is : A → Type 0) (make : A → Insn) (read : Reader A) (rest : List ℕ)
    → Gives Is (length rest) (read rest) → ((a : A) → Is a → IsWritable (make a)) → Gives IsWritable (suc (length rest)) (one make read rest)
one_gives Is make read rest given on =
    map_gives Is IsWritable (suc (length rest)) make (read rest) (more_left Is (length rest) (suc (length rest)) (read rest) (omega arith) given) on

two_gives : {A B : Type 0} (Is : A → Type 0) (And : B → Type 0) (make : A → B → Insn) (read : Reader A) (also : Reader B) (rest : List ℕ)
    → Gives Is (length rest) (read rest) → ((rest : List ℕ) → Gives And (length rest) (also rest)) → ((a : A) (b : B) → Is a → And b → IsWritable (make a b))
    → Gives IsWritable (suc (length rest)) (two make read also rest)
two_gives Is And make read also rest given then_given on =
    then_gives Is IsWritable (suc (length rest)) (λ a. one (make a.0) also a.1) (read rest)
    (more_left Is (length rest) (suc (length rest)) (read rest) (omega arith) given)
    (λ a left shorter is.
    more_left IsWritable (suc (length left)) (suc (length rest)) (one (make a) also left) (omega arith)
    (one_gives And (make a) also left (then_given left) (λ b and. on a b is and)))

gives_now : (insn : Insn) (rest : List ℕ) → IsWritable insn → Gives IsWritable (suc (length rest)) (Some (insn, rest))
unfolding Gives
gives_now insn rest is = (omega arith, is)

gives_none : {A : Type 0} (Is : A → Type 0) (most : ℕ) → Gives {A = A} Is most None
unfolding Gives
gives_none Is most = tt

-- the table
nop_or_advance_gives : (code : ℕ) (rest : List ℕ) → Gives IsWritable (suc (length rest)) (nop_or_advance code rest)
unfolding nop_or_advance
nop_or_advance_gives code rest =
    choose IsWritable (suc (length rest)) (code == 0x00) (Some (Nop, rest)) _ (gives_now Nop rest tt)
    (choose IsWritable (suc (length rest)) (code == 0x02) (one Advance byte_of rest) _ (one_gives Anything Advance byte_of rest (byte_gives rest) (λ a is. tt))
    (choose IsWritable (suc (length rest)) (code == 0x03) (one Advance two_bytes_of rest) _ (one_gives Anything Advance two_bytes_of rest (two_bytes_gives rest) (λ a is. tt))
    (choose IsWritable (suc (length rest)) (code == 0x04) (one Advance four_bytes_of rest) None
    (one_gives Anything Advance four_bytes_of rest (four_bytes_gives rest) (λ a is. tt)) (gives_none IsWritable (suc (length rest))))))

register_rule_gives : (code : ℕ) (rest : List ℕ) → Gives IsWritable (suc (length rest)) (register_rule code rest)
unfolding register_rule
register_rule_gives code rest =
    choose IsWritable (suc (length rest)) (code == 0x05) (two (λ r z. Op (Set r (Offset z))) register_of factored_of rest) _
    (two_gives IsSmall IsBelow (λ r z. Op (Set r (Offset z))) register_of factored_of rest (register_gives rest) factored_gives
    (λ r z fits below. some_if (rule_offset ((0x80 + r) ∷ []) (0x11 ∷ r ∷ []) z) r fits (rule_below ((0x80 + r) ∷ []) (0x11 ∷ r ∷ []) z below)))
    (choose IsWritable (suc (length rest)) (code == 0x06) (one (λ r. Op (Restore r)) register_of rest) _
    (one_gives IsSmall (λ r. Op (Restore r)) register_of rest (register_gives rest) (λ r fits. some_if (Some ((0xc0 + r) ∷ [])) r fits refl))
    (choose IsWritable (suc (length rest)) (code == 0x07) (one (λ r. Op (Set r Undefined)) register_of rest) _
    (one_gives IsSmall (λ r. Op (Set r Undefined)) register_of rest (register_gives rest) (λ r fits. some_if (Some (0x07 ∷ r ∷ [])) r fits refl))
    (choose IsWritable (suc (length rest)) (code == 0x08) (one (λ r. Op (Set r SameValue)) register_of rest) _
    (one_gives IsSmall (λ r. Op (Set r SameValue)) register_of rest (register_gives rest) (λ r fits. some_if (Some (0x08 ∷ r ∷ [])) r fits refl))
    (choose IsWritable (suc (length rest)) (code == 0x09) (two (λ r s. Op (Set r (Register s))) register_of register_of rest) None
    (two_gives IsSmall IsSmall (λ r s. Op (Set r (Register s))) register_of register_of rest (register_gives rest) register_gives
    (λ r s fits also. some_if (of_register s (Some (0x09 ∷ r ∷ s ∷ []))) r fits (some_if (Some (0x09 ∷ r ∷ s ∷ [])) s also refl)))
    (gives_none IsWritable (suc (length rest)))))))

state_or_cfa_gives : (code : ℕ) (rest : List ℕ) → Gives IsWritable (suc (length rest)) (state_or_cfa code rest)
unfolding state_or_cfa
state_or_cfa_gives code rest =
    choose IsWritable (suc (length rest)) (code == 0x0a) (Some (Op Remember, rest)) _ (gives_now (Op Remember) rest refl)
    (choose IsWritable (suc (length rest)) (code == 0x0b) (Some (Op RestoreState, rest)) _ (gives_now (Op RestoreState) rest refl)
    (choose IsWritable (suc (length rest)) (code == 0x0c) (two (λ r z. Op (DefCfa r z)) register_of plain_of rest) _
    (two_gives IsSmall IsPlain (λ r z. Op (DefCfa r z)) register_of plain_of rest (register_gives rest) plain_gives
    (λ r z fits is. some_if (cfa_offset (0x0c ∷ r ∷ []) (0x12 ∷ r ∷ []) z) r fits (cfa_plain (0x0c ∷ r ∷ []) (0x12 ∷ r ∷ []) z is)))
    (choose IsWritable (suc (length rest)) (code == 0x0d) (one (λ r. Op (DefCfaRegister r)) register_of rest) _
    (one_gives IsSmall (λ r. Op (DefCfaRegister r)) register_of rest (register_gives rest) (λ r fits. some_if (Some (0x0d ∷ r ∷ [])) r fits refl))
    (choose IsWritable (suc (length rest)) (code == 0x0e) (one (λ z. Op (DefCfaOffset z)) plain_of rest) None
    (one_gives IsPlain (λ z. Op (DefCfaOffset z)) plain_of rest (plain_gives rest) (λ z is. cfa_plain (0x0e ∷ []) (0x13 ∷ []) z is))
    (gives_none IsWritable (suc (length rest)))))))

signed_or_value_gives : (code : ℕ) (rest : List ℕ) → Gives IsWritable (suc (length rest)) (signed_or_value code rest)
unfolding signed_or_value
signed_or_value_gives code rest =
    choose IsWritable (suc (length rest)) (code == 0x11) (two (λ r z. Op (Set r (Offset z))) register_of factored_signed_of rest) _
    (two_gives IsSmall IsFactored (λ r z. Op (Set r (Offset z))) register_of factored_signed_of rest (register_gives rest) factored_signed_gives
    (λ r z fits is. some_if (rule_offset ((0x80 + r) ∷ []) (0x11 ∷ r ∷ []) z) r fits (rule_factored ((0x80 + r) ∷ []) (0x11 ∷ r ∷ []) z is)))
    (choose IsWritable (suc (length rest)) (code == 0x12) (two (λ r z. Op (DefCfa r z)) register_of factored_signed_of rest) _
    (two_gives IsSmall IsFactored (λ r z. Op (DefCfa r z)) register_of factored_signed_of rest (register_gives rest) factored_signed_gives
    (λ r z fits is. some_if (cfa_offset (0x0c ∷ r ∷ []) (0x12 ∷ r ∷ []) z) r fits (cfa_factored (0x0c ∷ r ∷ []) (0x12 ∷ r ∷ []) z is)))
    (choose IsWritable (suc (length rest)) (code == 0x13) (one (λ z. Op (DefCfaOffset z)) factored_signed_of rest) _
    (one_gives IsFactored (λ z. Op (DefCfaOffset z)) factored_signed_of rest (factored_signed_gives rest) (λ z is. cfa_factored (0x0e ∷ []) (0x13 ∷ []) z is))
    (choose IsWritable (suc (length rest)) (code == 0x14) (two (λ r z. Op (Set r (ValueOffset z))) register_of factored_of rest) _
    (two_gives IsSmall IsBelow (λ r z. Op (Set r (ValueOffset z))) register_of factored_of rest (register_gives rest) factored_gives
    (λ r z fits is. some_if (rule_offset (0x14 ∷ r ∷ []) (0x15 ∷ r ∷ []) z) r fits (rule_below (0x14 ∷ r ∷ []) (0x15 ∷ r ∷ []) z is)))
    (choose IsWritable (suc (length rest)) (code == 0x15) (two (λ r z. Op (Set r (ValueOffset z))) register_of factored_signed_of rest) None
    (two_gives IsSmall IsFactored (λ r z. Op (Set r (ValueOffset z))) register_of factored_signed_of rest (register_gives rest) factored_signed_gives
    (λ r z fits is. some_if (rule_offset (0x14 ∷ r ∷ []) (0x15 ∷ r ∷ []) z) r fits (rule_factored (0x14 ∷ r ∷ []) (0x15 ∷ r ∷ []) z is)))
    (gives_none IsWritable (suc (length rest)))))))

extended_gives : (code : ℕ) (rest : List ℕ) → Gives IsWritable (suc (length rest)) (extended code rest)
unfolding extended
extended_gives code rest =
    choose IsWritable (suc (length rest)) (nat_lt code 0x05) (nop_or_advance code rest) _ (nop_or_advance_gives code rest)
    (choose IsWritable (suc (length rest)) (nat_lt code 0x0a) (register_rule code rest) _ (register_rule_gives code rest)
    (choose IsWritable (suc (length rest)) (nat_lt code 0x10) (state_or_cfa code rest) (signed_or_value code rest)
    (state_or_cfa_gives code rest) (signed_or_value_gives code rest)))

-- the first byte
offset_gives : (number : ℕ) (rest : List ℕ) → number < 64 → Gives IsWritable (suc (length rest)) (one (λ z. Op (Set number (Offset z))) factored_of rest)
offset_gives number rest fits =
    one_gives IsBelow (λ z. Op (Set number (Offset z))) factored_of rest (factored_gives rest)
    (λ z is. some_if (rule_offset ((0x80 + number) ∷ []) (0x11 ∷ number ∷ []) z) number fits (rule_below ((0x80 + number) ∷ []) (0x11 ∷ number ∷ []) z is))

choose_if : (most : ℕ) (b : Bool) (this other : Option (Insn × List ℕ)) → (b ≡ true → Gives IsWritable most this) → (b ≡ false → Gives IsWritable most other)
    → Gives IsWritable most (if b then this else other)
choose_if most true this other given given_other = given refl
choose_if most false this other given given_other = given_other refl

-- an instruction that a byte and others begin with
next_gives : (code : ℕ) (rest : List ℕ) → code < 256 → Gives IsWritable (suc (length rest)) (next (code ∷ rest))
next_gives code rest fits =
    choose_if (suc (length rest)) (nat_lt code 0x40) (extended code rest) _ (λ low. extended_gives code rest) (λ high.
    choose_if (suc (length rest)) (nat_lt code 0x80) (Some (Advance (code - 0x40), rest)) _ (λ low. gives_now (Advance (code - 0x40)) rest tt) (λ high.
    choose_if (suc (length rest)) (nat_lt code 0xc0) (one (λ z. Op (Set (code - 0x80) (Offset z))) factored_of rest) (Some (Op (Restore (code - 0xc0)), rest))
    (λ low. offset_gives (code - 0x80) rest (let small : code - 0x80 < 64 = grind arith in small))
    (λ high. gives_now (Op (Restore (code - 0xc0))) rest (some_if (Some ((0xc0 + (code - 0xc0)) ∷ [])) (code - 0xc0) (let small : code - 0xc0 < 64 = omega arith in small) refl))))

read_is : (most : ℕ) (due : Option (Insn × List ℕ)) (insn : Insn) (rest : List ℕ) → Gives IsWritable most due → due ≡ Some (insn, rest) → IsWritable insn
unfolding Gives
read_is most due insn rest given is = (subst (Gives IsWritable most) is given).1

-- what bytes read as can be written
pub read_is_writable : (bytes rest : List ℕ) (op : CfiOp) → All (λ byte. byte < 2 ^ 8) bytes → next bytes ≡ Some (Op op, rest) → IsSome (written op)
read_is_writable [] rest op small is = absurd (let none : ⊥ = cc in none)
read_is_writable (code ∷ bytes) rest op small is =
    read_is (suc (length bytes)) (next (code ∷ bytes)) (Op op) rest (next_gives code bytes (All-head (λ byte. byte < 2 ^ 8) code bytes small)) is

-- what is read leaves fewer bytes
forgotten : (most : ℕ) (due : Option (Insn × List ℕ)) → Gives IsWritable most due → Gives Anything most due
unfolding Gives
forgotten most None given = tt
forgotten most (Some read) given = (given.0, tt)

read_now : (insn : Insn) (rest : List ℕ) → Gives Anything (suc (length rest)) (Some (insn, rest))
unfolding Gives
read_now insn rest = (omega arith, tt)

offset_forgotten : (most : ℕ) (due : Option (ℤ × List ℕ)) → Gives IsBelow most due → Gives Anything most due
unfolding Gives
offset_forgotten most None given = tt
offset_forgotten most (Some read) given = (given.0, tt)

next_shortens : (code : ℕ) (rest : List ℕ) → Gives Anything (suc (length rest)) (next (code ∷ rest))
next_shortens code rest =
    choose Anything (suc (length rest)) (nat_lt code 0x40) (extended code rest) _ (forgotten (suc (length rest)) (extended code rest) (extended_gives code rest))
    (choose Anything (suc (length rest)) (nat_lt code 0x80) (Some (Advance (code - 0x40), rest)) _ (read_now (Advance (code - 0x40)) rest)
    (choose Anything (suc (length rest)) (nat_lt code 0xc0) (one (λ z. Op (Set (code - 0x80) (Offset z))) factored_of rest) (Some (Op (Restore (code - 0xc0)), rest))
    (map_gives Anything Anything (suc (length rest)) (λ z. Op (Set (code - 0x80) (Offset z))) (factored_of rest)
    (more_left Anything (length rest) (suc (length rest)) (factored_of rest) (omega arith) (offset_forgotten (length rest) (factored_of rest) (factored_gives rest))) (λ a is. tt))
    (read_now (Op (Restore (code - 0xc0))) rest)))

left_is : (most : ℕ) (due : Option (Insn × List ℕ)) (insn : Insn) (rest : List ℕ) → Gives Anything most due → due ≡ Some (insn, rest) → length rest < most
unfolding Gives
left_is most due insn rest given is = (subst (Gives Anything most) is given).0

pub read_is_shorter : (bytes rest : List ℕ) (insn : Insn) → next bytes ≡ Some (insn, rest) → length rest < length bytes
read_is_shorter [] rest insn is = absurd (let none : ⊥ = cc in none)
read_is_shorter (code ∷ bytes) rest insn is = left_is (suc (length bytes)) (next (code ∷ bytes)) insn rest (next_shortens code bytes) is
