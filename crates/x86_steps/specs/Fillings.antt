-- An instruction with numbers in place of those that are not known, and what it does then.
use Rattle.std.specs.Prelude.{◌≡◌, ◌==◌, ◌&&◌, ◌||◌, ℕ, Bool, true, false, Option, None, Some}
use Rattle.x86_insn.specs.Views.{Seen, absent, register, immediate, memory, target, View}
use Rattle.x86_table.specs.declared.mnemonics.integers.TheConstants.{ADD, MOV, PUSH, SUB}
use Rattle.insn_effects.specs.Decoding.{action_of}
use Rattle.x86_steps.specs.States.{State}
use Rattle.x86_steps.specs.Steps.{Does, falls_in}

-- a number that is known is this one
abbrev pub FillsNumber : Option ℕ → Option ℕ → Type 0
FillsNumber None n = Unit {0}
FillsNumber (Some k) n = n ≡ Some k

-- the same of a number that counts, where it does
abbrev pub FillsWhere : Bool → Option ℕ → Option ℕ → Type 0
FillsWhere true k n = FillsNumber k n
FillsWhere false k n = Unit {0}

-- the operand with numbers in place of those that are not known; an immediate counts or does not
abbrev pub Fills : Bool → Seen → Seen → Type 0
Fills counts absent o = o ≡ absent
Fills counts (register r) o = o ≡ register r
Fills counts (immediate k) o = (n : Option ℕ) × (o ≡ immediate n) × FillsWhere counts k n
Fills counts (memory a k) o = (n : Option ℕ) × (o ≡ memory a n) × FillsNumber k n
Fills counts (target k) o = (n : Option ℕ) × (o ≡ target n) × FillsNumber k n

-- the immediate of these instructions counts
abbrev pub is_counted : ℕ → Bool
is_counted name = (name == PUSH) || ((name == MOV) || ((name == ADD) || (name == SUB)))

-- the instruction with numbers in place of those that are not known. Immediates count where all
-- their 64 bits do: bytes give others modulo the operand size alone
pub record FillsView (v w : View) : Type 0 where
  pub name : w.name.0 ≡ v.name.0
  pub size : w.size ≡ v.size
  pub words : w.«prefix» ≡ v.«prefix»
  pub first : Fills ((v.size == 64) && is_counted v.name.0) v.first w.first
  pub second : Fills ((v.size == 64) && is_counted v.name.0) v.second w.second
  pub third : Fills ((v.size == 64) && is_counted v.name.0) v.third w.third

-- with any numbers in place of those that are not known an instruction does no more
abbrev pub FillingsAreCovered : Type 0
FillingsAreCovered = (v w : View) (next : ℕ) (s t : State) → FillsView v w
    → Does (action_of w) next s t → Does (action_of v) next s t

-- and it may go on just where it may without them
abbrev pub FillingsFall : Type 0
FillingsFall = (v w : View) → FillsView v w → falls_in (action_of w) ≡ falls_in (action_of v)
