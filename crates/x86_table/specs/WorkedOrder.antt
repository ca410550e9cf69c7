-- Which of two forms of an instruction of two registers comes first, where both have as many bytes (Intel SDM, volume 2, chapters 3 and 4).
use Rattle.std.specs.Prelude.{◌≡◌, ◌==◌, ◌&&◌, ◌∷◌, [], ℕ, List, Bool, true, false, if◌then◌else◌}
use Rattle.x86_table.specs.declared.forms.Pattern.{Pattern}
use Rattle.x86_table.specs.declared.forms.Pattern.TheVariants as pattern
use Rattle.x86_table.specs.declared.forms.Row.{Row}
use Rattle.x86_table.specs.declared.mnemonics.integers.TheConstants.{ADD, MOV}
use Rattle.x86_table.specs.declared.mnemonics.vectors.TheConstants.{MOVUPS, MOVSS, MOVAPS, MOVDQA}
use Rattle.x86_table.specs.Rows.{the_rows}

-- the pattern shows the register of ModRM.rm or ModRM.reg
abbrev pub is_by_modrm : Pattern → Bool
is_by_modrm pattern.Absent = false
is_by_modrm (pattern.RegMem c n) = true
is_by_modrm (pattern.Reg c) = true
is_by_modrm (pattern.Low c) = false
is_by_modrm (pattern.Accumulator c) = false
is_by_modrm pattern.Cl = false
is_by_modrm pattern.One = false
is_by_modrm pattern.Immediate = false
is_by_modrm pattern.Target = false

-- the opcodes of the rows of the name and the size that show two registers by ModRM, in the order of the rows
abbrev pub register_codes : ℕ → ℕ → List Row → List ℕ
register_codes name size [] = []
register_codes name size (r ∷ rows) =
    if (r.name.0 == name) && ((r.size == size) && (is_by_modrm r.first && is_by_modrm r.second)) then r.code ∷ register_codes name size rows
    else register_codes name size rows

-- of these opcodes the first is written, since both have as many bytes
pub record WorkedOrder : Type 0 where
  -- add %eax,%ebx: 01 C3, not 03 D8
  pub add : register_codes ADD 32 the_rows ≡ 0x01 ∷ 0x03 ∷ []
  -- mov %eax,%ebx: 89 C3, not 8B D8
  pub mov : register_codes MOV 32 the_rows ≡ 0x89 ∷ 0x8B ∷ []
  -- movups %xmm0,%xmm1: 0F 10 C8, not 0F 11 C1
  pub movups : register_codes MOVUPS 0 the_rows ≡ 0x10 ∷ 0x11 ∷ []
  -- movss %xmm0,%xmm1: F3 0F 10 C8, not F3 0F 11 C1
  pub movss : register_codes MOVSS 0 the_rows ≡ 0x10 ∷ 0x11 ∷ []
  -- movaps %xmm0,%xmm1: 0F 28 C8, not 0F 29 C1
  pub movaps : register_codes MOVAPS 0 the_rows ≡ 0x28 ∷ 0x29 ∷ []
  -- movdqa %xmm0,%xmm1: 66 0F 6F C8, not 66 0F 7F C1
  pub movdqa : register_codes MOVDQA 0 the_rows ≡ 0x6F ∷ 0x7F ∷ []
