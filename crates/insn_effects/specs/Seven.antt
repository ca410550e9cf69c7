-- The registers whose distances from the frame address are followed: rsp, and the six callee-saved ones (psABI for AMD64, section 3.2.1), these in the
-- order of their numbers in DWARF.
use Rattle.std.specs.Prelude.{◌≡◌, ◌+◌, ◌==◌, ℕ, Bool, if◌then◌else◌, [], ◌∷◌, map}
use Rattle.insn_effects.specs.declared.registers.TheConstants.{SEVEN}

-- the number among the seven of a general-purpose register, or 7 where it is none of them
abbrev pub number_of : ℕ → ℕ
number_of n = if n == 4 then 0 else (if n == 3 then 1 else (if n == 5 then 2 else (if n == 12 then 3
    else (if n == 13 then 4 else (if n == 14 then 5 else (if n == 15 then 6 else 7))))))

-- the same, where the register is callee-saved; rsp counts as none
abbrev pub kept_number : ℕ → ℕ
kept_number i = if i == 0 then 7 else i

-- a register of the seven by a bit, the lowest for rsp; no bit for none
abbrev pub bit_of : ℕ → ℕ
bit_of i = if i == 0 then 1 else (if i == 1 then 2 else (if i == 2 then 4 else (if i == 3 then 8
    else (if i == 4 then 16 else (if i == 5 then 32 else (if i == 6 then 64 else 0))))))

-- the bit, where this holds
abbrev pub bit_if : Bool → ℕ → ℕ
bit_if b bit = if b then bit else 0

-- the bits of those of the seven, by their numbers in the processor, of which this holds
abbrev pub bits_of : (ℕ → Bool) → ℕ
bits_of f = bit_if (f 4) 1 + (bit_if (f 3) 2 + (bit_if (f 5) 4 + (bit_if (f 12) 8 + (bit_if (f 13) 16 + (bit_if (f 14) 32 + bit_if (f 15) 64)))))

-- the seven are numbered in their order
abbrev pub AreNumbered : Type 0
AreNumbered = map number_of SEVEN ≡ 0 ∷ 1 ∷ 2 ∷ 3 ∷ 4 ∷ 5 ∷ 6 ∷ []
