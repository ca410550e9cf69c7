-- Which instructions have a form.
use Rattle.std.proofs.Common.{◌≡◌, ℕ, zero, suc, ◌+◌, ◌-◌, ◌/◌, ◌%◌, ◌^◌, ◌==◌, ◌&&◌, nat_lt, nat_le, Bool, true, false, List, [], ◌∷◌, ◌++◌, Option, None, Some, is_some, refl, sym, ◌∙◌, ap, arith}
use Rattle.std.specs.Prelude.{ℤ, pos, negsuc, neg_ℤ, if◌then◌else◌}
use Rattle.std.specs.Option.{option_map}
use Rattle.cfi_rows.specs.declared.rows.CfiOp.{CfiOp}
use Rattle.cfi_rows.specs.declared.rows.CfiOp.TheVariants.{DefCfa, DefCfaRegister, DefCfaOffset, Set, Restore, Remember, RestoreState}
use Rattle.cfi_rows.specs.declared.rows.Rule.{Rule}
use Rattle.cfi_rows.specs.declared.rows.Rule.TheVariants.{Unspecified, Undefined, SameValue, Offset, ValueOffset, Register}
use Rattle.leb128.specs.Digits.{uleb_bytes, sleb_bytes}
use Rattle.cfi_entries.specs.Written.{written, slots, cfa_offset, rule_offset, rule_written, of_register}
use Rattle.cfi_directives.specs.Writable.{is_slot_offset, is_cfa_offset, is_writable_rule, is_writable}

-- a choice has a value where its test holds
some_if : {A : Type 0} (b : Bool) (value : A) → is_some (if b then Some value else None) ≡ b
some_if true value = refl
some_if false value = refl

some_map : {A B : Type 0} (f : A → B) (o : Option A) → is_some (option_map f o) ≡ is_some o
some_map f None = refl
some_map f (Some value) = refl

and_true : (b : Bool) → (b && true) ≡ b
and_true true = refl
and_true false = refl

is_some_if : {A : Type 0} (b : Bool) (o : Option A) → is_some (if b then o else None) ≡ (b && is_some o)
is_some_if true o = refl
is_some_if false o = refl

-- a register in front of bytes
register_form : (number : ℕ) (bytes : Option (List ℕ)) → is_some (of_register number bytes) ≡ (nat_lt number 64 && is_some bytes)
register_form number bytes = is_some_if (nat_lt number 64) bytes

-- a distance has so many slots
slots_form : (most distance : ℕ) → is_some (slots most distance) ≡ (nat_le distance most && (distance % 8 == 0))
slots_form most distance = some_if (nat_le distance most && (distance % 8 == 0)) (distance / 8)

below_form : (distance : ℕ) → nat_lt distance (2 ^ 63) ≡ nat_le (distance + 1) (2 ^ 63)
below_form distance = grind arith

above_form : (distance : ℕ) → nat_lt (suc distance) (2 ^ 63) ≡ nat_le (distance + 1) (2 ^ 63 - 1)
above_form distance = grind arith

one_more : (distance : ℕ) → suc distance ≡ distance + 1
one_more distance = omega arith

-- the same distance, as far as it fits and in slots
slots_below : (distance : ℕ) → (nat_lt distance (2 ^ 63) && (suc distance % 8 == 0)) ≡ is_some (slots (2 ^ 63) (distance + 1))
slots_below distance =
    ap (λ b. b && (suc distance % 8 == 0)) (below_form distance)
    ∙ ap (λ more. nat_le (distance + 1) (2 ^ 63) && (more % 8 == 0)) (one_more distance)
    ∙ sym (slots_form (2 ^ 63) (distance + 1))

slots_above : (distance : ℕ) → (nat_lt (suc distance) (2 ^ 63) && (suc distance % 8 == 0)) ≡ is_some (slots (2 ^ 63 - 1) (distance + 1))
slots_above distance =
    ap (λ b. b && (suc distance % 8 == 0)) (above_form distance)
    ∙ ap (λ more. nat_le (distance + 1) (2 ^ 63 - 1) && (more % 8 == 0)) (one_more distance)
    ∙ sym (slots_form (2 ^ 63 - 1) (distance + 1))

cfa_form : (plain factored : List ℕ) (offset : ℤ) → is_cfa_offset offset ≡ is_some (cfa_offset plain factored offset)
cfa_form plain factored (pos offset) = and_true (nat_lt offset (2 ^ 63)) ∙ sym (some_if (nat_lt offset (2 ^ 63)) (plain ++ uleb_bytes offset))
cfa_form plain factored (negsuc distance) = slots_below distance ∙ sym (some_map (λ number. factored ++ sleb_bytes (pos number)) (slots (2 ^ 63) (distance + 1)))

slot_form : (below above : List ℕ) (offset : ℤ) → is_slot_offset offset ≡ is_some (rule_offset below above offset)
slot_form below above (pos zero) = refl
slot_form below above (pos (suc distance)) =
    slots_above distance ∙ sym (some_map (λ number. above ++ sleb_bytes (neg_ℤ (pos number))) (slots (2 ^ 63 - 1) (distance + 1)))
slot_form below above (negsuc distance) = slots_below distance ∙ sym (some_map (λ number. below ++ uleb_bytes number) (slots (2 ^ 63) (distance + 1)))

rule_form : (number : ℕ) (rule : Rule) → is_writable_rule rule ≡ is_some (rule_written number rule)
rule_form number Unspecified = refl
rule_form number Undefined = refl
rule_form number SameValue = refl
rule_form number (Offset offset) = slot_form ((0x80 + number) ∷ []) (0x11 ∷ number ∷ []) offset
rule_form number (ValueOffset offset) = slot_form (0x14 ∷ number ∷ []) (0x15 ∷ number ∷ []) offset
rule_form number (Register other) = sym (some_if (nat_lt other 64) (0x09 ∷ number ∷ other ∷ []))

-- an instruction has a form where bytes are written for it
pub forms : (op : CfiOp) → is_writable op ≡ is_some (written op)
forms (DefCfa number offset) =
    ap (λ b. nat_lt number 64 && b) (cfa_form (0x0c ∷ number ∷ []) (0x12 ∷ number ∷ []) offset)
    ∙ sym (register_form number (cfa_offset (0x0c ∷ number ∷ []) (0x12 ∷ number ∷ []) offset))
forms (DefCfaRegister number) = sym (some_if (nat_lt number 64) (0x0d ∷ number ∷ []))
forms (DefCfaOffset offset) = cfa_form (0x0e ∷ []) (0x13 ∷ []) offset
forms (Set number rule) = ap (λ b. nat_lt number 64 && b) (rule_form number rule) ∙ sym (register_form number (rule_written number rule))
forms (Restore number) = sym (some_if (nat_lt number 64) ((0xc0 + number) ∷ []))
forms Remember = refl
forms RestoreState = refl
