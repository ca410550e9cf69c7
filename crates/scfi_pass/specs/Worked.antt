-- A function that was worked out by hand: push %rbp; mov %rsp,%rbp; pop %rbp; ret.
use Rattle.std.specs.Prelude.{◌≡◌, ◌-◌, ◌^◌, ◌==◌, ℕ, pos, neg_ℤ, true, false, Option, None, Some, List, [], ◌∷◌, if◌then◌else◌}
use Rattle.insn_effects.specs.declared.effects.Role.{Role}
use Rattle.insn_effects.specs.declared.effects.Role.TheVariants as role
use Rattle.code_functions.specs.declared.items.CodeItem.{CodeItem}
use Rattle.cfi_rows.specs.declared.rows.CfiOp.TheVariants.{DefCfa, DefCfaRegister, DefCfaOffset, Set, Restore}
use Rattle.cfi_rows.specs.declared.rows.Rule.TheVariants.{Offset}
use Rattle.stack_depths.specs.Distances.{Distances, distances_along}
use Rattle.stack_facts.specs.Facts.{entry, slot, facts_along}
use Rattle.scfi_pass.specs.declared.rows.StackRow.{StackRow}
use Rattle.scfi_pass.specs.Rows.{cfa_of}
use Rattle.scfi_pass.specs.Tables.{entry_row, ops_from}

-- an item of an effect
abbrev pub item_of : Role → (written register base : ℕ) → CodeItem
item_of own written register base = record {
  effect = record { role = own; written = written; register = register; base = base; size = 0; amount = 0 };
  place = record { item = 0; offset = 0 };
  field = None;
  pos = record { file = 0; line = 0 };
}

-- its items; rbp is the register of number 2, and pop writes it
abbrev pub items : List CodeItem
items = item_of role.Push 0 2 7 ∷ item_of role.Move 0 2 0 ∷ item_of role.Pop 4 2 7 ∷ item_of role.Return 0 7 7 ∷ []

-- so far below the frame address
abbrev pub below_by : ℕ → Option ℕ
below_by n = Some (2 ^ 64 - n)

-- the distances at its items: of rsp -8, -16, -16 and -8, of rbp -16 at the third item alone
abbrev pub known : ℕ → Distances
known j q = distances_along items (if j == 0 then [] else if j == 1 then 0 ∷ [] else if j == 2 then 1 ∷ 0 ∷ [] else 2 ∷ 1 ∷ 0 ∷ []) q

-- these are they
abbrev pub AreWorkedDistances : Type 0
AreWorkedDistances = (known 0 0 ≡ below_by 8) × (known 1 0 ≡ below_by 16) × (known 2 0 ≡ below_by 16) × (known 3 0 ≡ below_by 8)
    × (known 0 2 ≡ None) × (known 1 2 ≡ None) × (known 2 2 ≡ below_by 16) × (known 3 2 ≡ None)

-- rbp has its entry value until it moves and again after it is popped, and its slot at -16 stands between push and pop
abbrev pub AreWorkedFacts : Type 0
AreWorkedFacts = (facts_along items known (0 ∷ []) (entry 2) ≡ true) × (facts_along items known (0 ∷ []) (slot (2 ^ 64 - 16) 2) ≡ true)
    × (facts_along items known (1 ∷ 0 ∷ []) (entry 2) ≡ false) × (facts_along items known (1 ∷ 0 ∷ []) (slot (2 ^ 64 - 16) 2) ≡ true)
    × (facts_along items known (2 ∷ 1 ∷ 0 ∷ []) (entry 2) ≡ true) × (facts_along items known (2 ∷ 1 ∷ 0 ∷ []) (slot (2 ^ 64 - 16) 2) ≡ false)

-- a row with the frame address by a register at a distance, and a slot of rbp
abbrev pub row_of : (register distance : ℕ) → Option ℕ → StackRow
row_of register distance rbp = record entry_row { cfa = record { register = register; distance = distance }; rbp = rbp }

-- the rows of its items
abbrev pub rows : List StackRow
rows = entry_row ∷ row_of 0 (2 ^ 64 - 16) (below_by 16) ∷ row_of 2 (2 ^ 64 - 16) (below_by 16) ∷ entry_row ∷ []

-- the frame addresses are those by the distances, and the instructions lead from row to row
abbrev pub AreWorkedRows : Type 0
AreWorkedRows = (cfa_of (known 1) ≡ Some (record { register = 0; distance = 2 ^ 64 - 16 })) × (cfa_of (known 2) ≡ Some (record { register = 2; distance = 2 ^ 64 - 16 }))
    × (cfa_of (known 3) ≡ Some entry_row.cfa)
    × (ops_from 0 entry_row rows ≡
    record { item = 1; op = DefCfaOffset (pos 16) } ∷ record { item = 1; op = Set 6 (Offset (neg_ℤ (pos 16))) } ∷ record { item = 2; op = DefCfaRegister 6 }
    ∷ record { item = 3; op = DefCfa 7 (pos 8) } ∷ record { item = 3; op = Restore 6 } ∷ [])
