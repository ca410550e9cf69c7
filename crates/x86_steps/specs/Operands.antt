-- What operands show in a state, and what they get (Intel SDM, volume 1, section 3.7).
use Rattle.std.specs.Prelude.{◌≡◌, ◌+◌, ◌*◌, ◌^◌, ℕ, Option, None, Some}
use Rattle.x86_insn.specs.declared.insns.Base.{Base}
use Rattle.x86_insn.specs.declared.insns.Base.TheVariants as base
use Rattle.x86_insn.specs.declared.insns.Index.{Index}
use Rattle.x86_insn.specs.declared.insns.Index.TheVariants as index
use Rattle.x86_insn.specs.declared.insns.Address.{Address}
use Rattle.x86_insn.specs.Views.{Seen, absent, register, immediate, memory, target}
use Rattle.insn_effects.specs.Effects.{in_segment}
use Rattle.insn_effects.specs.Followed.{wrap}
use Rattle.x86_steps.specs.Memory.{word_at}
use Rattle.x86_steps.specs.States.{State, Same, Sets, Writes}

-- this number, or any number where none is known
abbrev pub Is : Option ℕ → ℕ → Type 0
Is None v = Unit {0}
Is (Some n) v = v ≡ n

-- the base of an address; rip may be any number, since the section may stand anywhere: so more
-- executions are spoken of than those of one place
abbrev pub base_value : State → Base → Option ℕ
base_value s base.Absent = Some 0
base_value s base.Rip = None
base_value s (base.Of n) = Some (s.registers n)

-- the index by its scale
abbrev pub index_value : State → Index → ℕ
index_value s index.Absent = 0
index_value s (index.By n scale) = s.registers n * 2 ^ scale

-- base, index and displacement, where they are known
abbrev pub sum_of : Option ℕ → ℕ → Option ℕ → Option ℕ
sum_of None i d = None
sum_of (Some b) i None = None
sum_of (Some b) i (Some d) = Some (wrap (b + i + d))

-- the effective address, without the base of a segment
abbrev pub offset_of : State → Address → Option ℕ → Option ℕ
offset_of s a d = sum_of (base_value s a.base) (index_value s a.index) d

-- the address in memory; the base of fs or gs may be any number at each access
abbrev pub place_of : State → Address → Option ℕ → Option ℕ
place_of s a d = in_segment a.segment (offset_of s a d)

-- a register and a number more, where that is known
abbrev pub sum_with : State → ℕ → Option ℕ → Option ℕ
sum_with s r n = sum_of (Some (s.registers r)) 0 n

-- the operand shows this number of 64 bits
abbrev pub Shows : State → Seen → ℕ → Type 0
Shows s absent v = Unit {0}
Shows s (register r) v = v ≡ s.registers r.number
Shows s (immediate n) v = Is n v
Shows s (memory a d) v = (p : ℕ) × Is (place_of s a d) p × (v ≡ word_at s.memory p)
Shows s (target d) v = Unit {0}

-- from this state to that one the operand gets a number of 64 bits, and all else stays
abbrev pub Gets : Seen → ℕ → State → State → Type 0
Gets absent v s t = Same s t
Gets (register r) v s t = Sets r.number v s t
Gets (immediate n) v s t = Same s t
Gets (memory a d) v s t = (p : ℕ) × Is (place_of s a d) p × Writes p v s t
Gets (target d) v s t = Same s t
