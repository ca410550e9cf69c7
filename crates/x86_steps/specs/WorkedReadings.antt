-- What some bytes read as, worked out by hand from the Intel manual (volume 2, chapters 2 to 4):
-- instructions of 64 bits on the stack.
use Rattle.std.specs.Prelude.{[], ◌∷◌, Some}
use Rattle.x86_insn.specs.Views.{absent, immediate, memory}
use Rattle.x86_table.specs.declared.mnemonics.integers.TheConstants.{ADD, LEA, LEAVE, POP, POPF, PUSH, PUSHF, SUB}
use Rattle.x86_table.specs.Reads.{Reads}
use Rattle.insn_effects.specs.Worked.{insn, quad, at_base}

-- these read so
pub record WorkedReadings : Type 0 where
  -- leave
  pub leaves : Reads (0xc9 ∷ []) (insn LEAVE 64 absent absent)
  -- pushf
  pub pushes_flags : Reads (0x9c ∷ []) (insn PUSHF 64 absent absent)
  -- popf
  pub pops_flags : Reads (0x9d ∷ []) (insn POPF 64 absent absent)
  -- push 8(%rsp)
  pub pushes : Reads (0xff ∷ 0x74 ∷ 0x24 ∷ 0x08 ∷ [])
      (insn PUSH 64 (memory (at_base 4) (Some 8)) absent)
  -- pop 8(%rsp)
  pub pops : Reads (0x8f ∷ 0x44 ∷ 0x24 ∷ 0x08 ∷ [])
      (insn POP 64 (memory (at_base 4) (Some 8)) absent)
  -- lea 8(%rsp),%rbp
  pub address : Reads (0x48 ∷ 0x8d ∷ 0x6c ∷ 0x24 ∷ 0x08 ∷ [])
      (insn LEA 64 (quad 5) (memory (at_base 4) (Some 8)))
  -- add $24,%rsp
  pub raises : Reads (0x48 ∷ 0x83 ∷ 0xc4 ∷ 0x18 ∷ [])
      (insn ADD 64 (quad 4) (immediate (Some 24)))
  -- sub $24,%rsp
  pub lowers : Reads (0x48 ∷ 0x83 ∷ 0xec ∷ 0x18 ∷ [])
      (insn SUB 64 (quad 4) (immediate (Some 24)))
