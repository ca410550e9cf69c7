-- The seven registers by other names and numbers.
use Rattle.std.specs.Prelude.{ℕ, List, [], ◌∷◌, get_or}
use Rattle.asm_base.specs.declared.faults.SavedRegister.{SavedRegister}
use Rattle.asm_base.specs.declared.faults.SavedRegister.TheVariants.{Rbx, Rbp, R12, R13, R14, R15}

-- the number among the seven
abbrev pub number_of : SavedRegister → ℕ
number_of Rbx = 1
number_of Rbp = 2
number_of R12 = 3
number_of R13 = 4
number_of R14 = 5
number_of R15 = 6

-- the seven by their numbers in DWARF (psABI for AMD64, figure 3.36)
abbrev pub dwarf_numbers : List ℕ
dwarf_numbers = 7 ∷ 3 ∷ 6 ∷ 12 ∷ 13 ∷ 14 ∷ 15 ∷ []

-- the number in DWARF of one of the seven
abbrev pub dwarf_number : ℕ → ℕ
dwarf_number q = get_or dwarf_numbers q 0
