-- The shortest bytes that mean an instruction, where `xchg` shows the accumulator first.
use Rattle.std.specs.Prelude.{◌≡◌, ◌==◌, ◌&&◌, ◌||◌, ◌∷◌, Bool, List, [], false, nat_lt, true, ℕ}
use Rattle.x86_insn.specs.Views.{View}
use Rattle.x86_table.specs.Reads.{is_register, is_accumulator}
use Rattle.x86_parts.specs.Codes.{OrderedCodes, Before}
use Rattle.x86_table.specs.declared.mnemonics.integers.TheConstants.{XCHG}

-- the first two operands exchanged
abbrev pub turned : View → View
turned insn = record insn { first = insn.second; second = insn.first }

-- the same if told so
abbrev pub turned_if : Bool → View → View
turned_if true insn = turned insn
turned_if false insn = insn

-- of these operands in the row's order, `xchg` shows the second one first
abbrev pub exchanges : View → Bool
exchanges insn = (insn.name.0 == XCHG) && (is_register insn.first && is_accumulator insn.second)

-- the bytes mean the instruction by this row; what is not known now stands in a full field of zeros
abbrev pub Codes : List ℕ → View → ℕ → Type 0
Codes bytes insn i = (exchanged : Bool) × (exchanges (turned_if exchanged insn) ≡ exchanged) × OrderedCodes bytes (turned_if exchanged insn) i

-- the bytes mean the instruction by this row, and come before all others that do
pub record CodeAt (row : ℕ) (bytes : List ℕ) (insn : View) : Type 0 where
  pub codes : Codes bytes insn row
  pub least : (other : List ℕ) (j : ℕ) → Codes other insn j → Before bytes row other j

-- the bytes mean the instruction, and come before all others that do
abbrev pub IsCode : List ℕ → View → Type 0
IsCode bytes insn = (row : ℕ) × CodeAt row bytes insn

-- no bytes mean the instruction
abbrev pub HasNoCode : View → Type 0
HasNoCode insn = (bytes : List ℕ) (i : ℕ) → Codes bytes insn i → ⊥

-- the same in the row's order
pub record OrderedAt (row : ℕ) (bytes : List ℕ) (insn : View) : Type 0 where
  pub codes : OrderedCodes bytes insn row
  pub least : (other : List ℕ) (j : ℕ) → OrderedCodes other insn j → Before bytes row other j

-- some bytes mean the instruction
abbrev pub HasCode : View → Type 0
HasCode insn = (bytes : List ℕ) × (i : ℕ) × Codes bytes insn i

-- in order of the bytes, as a test
abbrev pub at_most : List ℕ → List ℕ → Bool
at_most [] ys = true
at_most (x ∷ xs) [] = false
at_most (x ∷ xs) (y ∷ ys) = nat_lt x y || ((x == y) && at_most xs ys)
