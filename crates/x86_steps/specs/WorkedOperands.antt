-- What operands show and get in some states, worked out by hand (Intel SDM, volume 1, sections
-- 3.7.5 and 4.1).
use Rattle.std.specs.Prelude.{◌≡◌, ◌+◌, ◌-◌, ◌^◌, ℕ, List, [], ◌∷◌, None, Some}
use Rattle.x86_insn.specs.declared.insns.Base.{Base}
use Rattle.x86_insn.specs.declared.insns.Base.TheVariants as base
use Rattle.x86_insn.specs.declared.insns.Index.TheVariants as index
use Rattle.x86_insn.specs.declared.insns.Address.{Address}
use Rattle.insn_effects.specs.Worked.{at_base, at_rip, in_fs}
use Rattle.x86_steps.specs.Memory.{Cell, word_at}
use Rattle.x86_steps.specs.Operands.{offset_of, place_of}
use Rattle.x86_steps.specs.WorkedSteps.{stands_at}

-- of this base, and rbp, which counts four times
abbrev pub by_rbp : Base → Address
by_rbp from = record { segment = None; base = from; index = index.By 5 2 }

-- the bytes 1, 2, .. up to 8 from this address on, where addresses are modulo 2 ^ 64
abbrev pub eight_cells : (first second : ℕ) → List Cell
eight_cells first second =
    record { address = first; byte = 1 } ∷ record { address = second; byte = 2 }
    ∷ record { address = second + 1; byte = 3 } ∷ record { address = second + 2; byte = 4 }
    ∷ record { address = second + 3; byte = 5 } ∷ record { address = second + 4; byte = 6 }
    ∷ record { address = second + 5; byte = 7 } ∷ record { address = second + 6; byte = 8 } ∷ []

-- addresses, where rsp is 4096 and rbp is 3, and numbers in memory
pub record WorkedOperands : Type 0 where
  -- 8(%rsp)
  pub based : place_of (stands_at 0 4096 3) (at_base 4) (Some 8) ≡ Some 4104
  -- -8(%rsp)
  pub below : place_of (stands_at 0 4096 3) (at_base 4) (Some (2 ^ 64 - 8)) ≡ Some 4088
  -- 8(%rsp,%rbp,4)
  pub indexed : place_of (stands_at 0 4096 3) (by_rbp (base.Of 4)) (Some 8) ≡ Some 4116
  -- 8(,%rbp,4)
  pub alone : place_of (stands_at 0 4096 3) (by_rbp base.Absent) (Some 8) ≡ Some 20
  -- g(%rsp): a displacement that is not known
  pub open_number : place_of (stands_at 0 4096 3) (at_base 4) None ≡ None
  -- 8(%rip): any place
  pub from_rip : place_of (stands_at 0 4096 3) at_rip (Some 8) ≡ None
  -- %fs:8(%rsp): any place; `lea` counts no segment
  pub in_segment : place_of (stands_at 0 4096 3) (in_fs 4) (Some 8) ≡ None
  pub offset : offset_of (stands_at 0 4096 3) (in_fs 4) (Some 8) ≡ Some 4104
  -- the lowest byte comes first
  pub word : word_at (eight_cells 4096 4097) 4096 ≡ 0x0807060504030201
  -- the byte after the last one is the first
  pub around : word_at (eight_cells (2 ^ 64 - 1) 0) (2 ^ 64 - 1) ≡ 0x0807060504030201
  -- of an address that is missing
  pub missing : word_at (eight_cells 4096 4097) 8192 ≡ 0
