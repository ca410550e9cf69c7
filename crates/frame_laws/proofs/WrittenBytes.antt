-- Each instruction that has a form is at least one byte.
use Rattle.std.proofs.Common.{ℕ, zero, suc, ◌+◌, ◌-◌, ◌^◌, ◌≤◌, Bool, true, false, List, [], ◌∷◌, ◌++◌, length, Option, None, Some, if◌then◌else◌, arith}
use Rattle.std.specs.Prelude.{ℤ, pos, negsuc, neg_ℤ, nat_lt, IfSome, IsSome}
use Rattle.std.specs.Option.{option_map, unwrap_or}
use Rattle.cfi_rows.specs.declared.rows.CfiOp.{CfiOp}
use Rattle.cfi_rows.specs.declared.rows.CfiOp.TheVariants.{DefCfa, DefCfaRegister, DefCfaOffset, Set, Restore, Remember, RestoreState}
use Rattle.cfi_rows.specs.declared.rows.Rule.{Rule}
use Rattle.cfi_rows.specs.declared.rows.Rule.TheVariants.{Unspecified, Undefined, SameValue, Offset, ValueOffset, Register}
use Rattle.leb128.specs.Digits.{uleb_bytes, sleb_bytes}
use Rattle.cfi_entries.specs.Written.{slots, cfa_offset, rule_offset, rule_written, of_register, written}
use Rattle.eh_frame.specs.Entries.{op_code}

-- what is there has at least one byte
abbrev HasByte : Option (List ℕ) → Type 0
HasByte bytes = IfSome bytes (λ all. 1 ≤ length all)

first_counts : (first : ℕ) (rest : List ℕ) → 1 ≤ length (first ∷ rest)
first_counts first rest = omega arith

chosen : (test : Bool) (bytes : Option (List ℕ)) → HasByte bytes → HasByte (if test then bytes else None)
chosen true bytes has = has
chosen false bytes has = tt

behind_first : (first : ℕ) (rest : List ℕ) (digits : ℕ → List ℕ) (number : Option ℕ) → HasByte (option_map (λ n. (first ∷ rest) ++ digits n) number)
behind_first first rest digits None = tt
behind_first first rest digits (Some n) = first_counts first (rest ++ digits n)

offset_has : (first other : ℕ) (rest others : List ℕ) (offset : ℤ) → HasByte (cfa_offset (first ∷ rest) (other ∷ others) offset)
offset_has first other rest others (pos offset) =
    chosen (nat_lt offset (2 ^ 63)) (Some ((first ∷ rest) ++ uleb_bytes offset)) (first_counts first (rest ++ uleb_bytes offset))
offset_has first other rest others (negsuc distance) =
    behind_first other others (λ number. sleb_bytes (pos number)) (slots (2 ^ 63) (distance + 1))

rule_offset_has : (first other : ℕ) (rest others : List ℕ) (offset : ℤ) → HasByte (rule_offset (first ∷ rest) (other ∷ others) offset)
rule_offset_has first other rest others (pos zero) = first_counts first (rest ++ uleb_bytes 0)
rule_offset_has first other rest others (pos (suc distance)) =
    behind_first other others (λ number. sleb_bytes (neg_ℤ (pos number))) (slots (2 ^ 63 - 1) (distance + 1))
rule_offset_has first other rest others (negsuc distance) = behind_first first rest uleb_bytes (slots (2 ^ 63) (distance + 1))

rule_has : (number : ℕ) (rule : Rule) → HasByte (rule_written number rule)
rule_has number Unspecified = tt
rule_has number Undefined = first_counts 0x07 (number ∷ [])
rule_has number SameValue = first_counts 0x08 (number ∷ [])
rule_has number (Offset offset) = rule_offset_has (0x80 + number) 0x11 [] (number ∷ []) offset
rule_has number (ValueOffset offset) = rule_offset_has 0x14 0x15 (number ∷ []) (number ∷ []) offset
rule_has number (Register other) = chosen (nat_lt other 64) (Some (0x09 ∷ number ∷ other ∷ [])) (first_counts 0x09 (number ∷ other ∷ []))

register_has : (number : ℕ) (bytes : Option (List ℕ)) → HasByte bytes → HasByte (of_register number bytes)
register_has number bytes has = chosen (nat_lt number 64) bytes has

written_has : (op : CfiOp) → HasByte (written op)
written_has (DefCfa number offset) =
    register_has number (cfa_offset (0x0c ∷ number ∷ []) (0x12 ∷ number ∷ []) offset) (offset_has 0x0c 0x12 (number ∷ []) (number ∷ []) offset)
written_has (DefCfaRegister number) = register_has number (Some (0x0d ∷ number ∷ [])) (first_counts 0x0d (number ∷ []))
written_has (DefCfaOffset offset) = offset_has 0x0e 0x13 [] [] offset
written_has (Set number rule) = register_has number (rule_written number rule) (rule_has number rule)
written_has (Restore number) = register_has number (Some ((0xc0 + number) ∷ [])) (first_counts (0xc0 + number) [])
written_has Remember = first_counts 0x0a []
written_has RestoreState = first_counts 0x0b []

kept : (bytes : Option (List ℕ)) → IsSome bytes → HasByte bytes → 1 ≤ length (unwrap_or bytes [])
kept None some has = absurd (let none : ⊥ = cc in none)
kept (Some all) some has = has

-- an instruction that has a form is at least one byte
pub code_counts : (op : CfiOp) → IsSome (written op) → 1 ≤ length (op_code op)
code_counts op some = kept (written op) some (written_has op)
