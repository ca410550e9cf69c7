-- Registers of frame tables by their names and numbers (psABI for AMD64, "DWARF Register Number Mapping").
use Rattle.std.specs.Prelude.{◌≡◌, ℕ, Bool, true, false, nat_lt, [], ◌∷◌, unwrap_or, Option, None, Some, slice_get}
use Rattle.std.proofs.Common.{refl}
use Rattle.std.proofs.lemmas.Bool.{ltb-true}
use Rattle.x86_insn.specs.declared.registers.Class.{Class}
use Rattle.x86_insn.specs.declared.registers.Class.TheVariants as class
use Rattle.att_operands.specs.declared.registers.NamedRegister.{NamedRegister}
use Rattle.att_operands.specs.declared.registers.NamedRegister.TheVariants.{Plain, Rip, Segment}
use Rattle.cfi_directives.specs.declared.registers.DwarfRegister.{DwarfRegister}

-- the DWARF number of a general register by its number in instructions: those of rax, rcx, rdx, rbx, rsp, rbp, rsi and rdi, in this order; r8 to r15 keep theirs
abbrev pub general_number : ℕ → ℕ
general_number number = unwrap_or (slice_get (0 ∷ 2 ∷ 1 ∷ 3 ∷ 7 ∷ 6 ∷ 4 ∷ 5 ∷ []) number) number

-- a register of 64 bits has a DWARF number, and its parts have none
abbrev pub number_by : Class → ℕ → Option ℕ
number_by class.Byte number = None
number_by class.High number = None
number_by class.Word number = None
number_by class.Long number = None
number_by class.Quad number = Some (general_number number)
number_by class.Xmm number = None

-- the DWARF number of what a name names: `rip` stands for the return address
abbrev pub number_of : NamedRegister → Option ℕ
number_of (Plain reg) = number_by reg.class reg.number
number_of Rip = Some 16
number_of (Segment segment) = None

-- the register of this number, by whether that is below 64
abbrev pub register_if : (number : ℕ) (test : Bool) → nat_lt number 64 ≡ test → Option DwarfRegister
register_if number true is = Some (record { number = number; within = ltb-true number 64 is })
register_if number false is = None

-- the register of this number, which has to be below 64
unfoldable pub register_numbered : ℕ → Option DwarfRegister
register_numbered number = register_if number (nat_lt number 64) refl
