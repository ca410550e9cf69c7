-- Direct jumps, and what their bytes read as (Intel SDM, volume 2, `JMP`, `Jcc`).
use Rattle.std.specs.Prelude.{ℕ, ◌+◌, ◌%◌, ◌^◌, Bool, Option, Some, None, length}
use Rattle.item_bytes.specs.declared.jumps.Condition.{Condition}
use Rattle.item_bytes.specs.Jumps.{number_of, jump_bytes, jump_distance}
use Rattle.x86_insn.specs.declared.insns.Prefix.TheVariants as prefix
use Rattle.x86_insn.specs.Views.{View, absent, target}
use Rattle.x86_table.specs.declared.mnemonics.integers.TheConstants.{JMP, JO}
use Rattle.x86_table.specs.Reads.{Reads}

-- the mnemonic of a jump under this condition, or under none: those of the conditions follow one another in the order of their numbers
abbrev pub jump_name : Option Condition → ℕ
jump_name None = JMP
jump_name (Some condition) = JO + number_of condition

-- the direct jump of this mnemonic over a distance from the end of its so many bytes; its target is counted from the first of them
abbrev pub jump_over : ℕ → ℕ → ℕ → View
jump_over name bytes distance = record {
  name = record { 0 = name };
  size = 64;
  «prefix» = prefix.Absent;
  first = target (Some ((distance + bytes) % 2 ^ 64));
  second = absent;
  third = absent;
}

-- the bytes of a jump read as the jump under its condition over the distance that they hold
abbrev pub JumpCodesRead : Type 0
JumpCodesRead = (condition : Option Condition) (near : Bool) (distance : ℕ) → Reads (jump_bytes condition near distance)
    (jump_over (jump_name condition) (length (jump_bytes condition near distance)) (jump_distance near (jump_bytes condition near distance)))
