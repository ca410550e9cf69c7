-- States of the processor: where it is, its general-purpose registers by their numbers, and its
-- memory (Intel SDM, volume 1, section 3.4.1).
use Rattle.std.specs.Prelude.{◌≡◌, ◌≢◌, ◌==◌, ◌<◌, ◌+◌, ◌-◌, ◌^◌, ℕ, Bool, false, List, if◌then◌else◌}
use Rattle.insn_effects.specs.Followed.{wrap}
use Rattle.x86_steps.specs.Memory.{Cell, word_at, SameMemory, SameOutside}

-- rsp is register 4, and rbp is register 5
pub record State : Type 0 where
  pub place : ℕ
  pub registers : ℕ → ℕ
  pub memory : List Cell

-- registers hold numbers of 64 bits; it is asked of all numbers of registers, also of those above
-- 15, which no instruction has
abbrev pub IsRanged : State → Type 0
IsRanged s = (q : ℕ) → s.registers q < 2 ^ 64

-- with this number in a register
abbrev pub with_register : ℕ → ℕ → State → State
with_register r v s = record s { registers = λ q. if q == r then v else s.registers q }

-- the top of the stack is so many bytes higher
abbrev pub raised_by : ℕ → State → State
raised_by n s = with_register 4 (wrap (s.registers 4 + n)) s

-- 8 bytes higher
abbrev pub raised : State → State
raised s = raised_by 8 s

-- 8 bytes lower
abbrev pub lowered : State → State
lowered s = raised_by (2 ^ 64 - 8) s

-- registers that are not written stay
abbrev pub Keeps : (ℕ → Bool) → State → State → Type 0
Keeps written s t = (q : ℕ) → written q ≡ false → t.registers q ≡ s.registers q

-- all registers stay
abbrev pub SameRegisters : State → State → Type 0
SameRegisters s t = (q : ℕ) → t.registers q ≡ s.registers q

-- registers and memory stay
pub record Same (s t : State) : Type 0 where
  pub registers : SameRegisters s t
  pub memory : SameMemory s.memory t.memory

-- a register gets this number, and all else stays
pub record Sets (r v : ℕ) (s t : State) : Type 0 where
  pub gets : t.registers r ≡ v
  pub others : (q : ℕ) → q ≢ r → t.registers q ≡ s.registers q
  pub memory : SameMemory s.memory t.memory

-- the eight bytes from this address on get this number, and all else stays
pub record Writes (p v : ℕ) (s t : State) : Type 0 where
  pub gets : word_at t.memory p ≡ v
  pub others : SameOutside p 8 s.memory t.memory
  pub registers : SameRegisters s t
