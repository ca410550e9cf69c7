-- Written tables that were checked by hand: of push %rbp; mov %rsp,%rbp; pop %rbp; ret, and of push %rax; ret.
use Rattle.std.specs.Prelude.{ℕ, ℤ, pos, neg_ℤ, ◌==◌, Bool, false, List, [], ◌∷◌, slice_set, if◌then◌else◌}
use Rattle.asm_base.specs.declared.faults.SavedRegister.TheVariants.{Rbp}
use Rattle.cfi_rows.specs.declared.rows.Rule.{Rule}
use Rattle.cfi_rows.specs.declared.rows.Rule.TheVariants.{Unspecified, Offset}
use Rattle.insn_effects.specs.declared.effects.Role.TheVariants as role
use Rattle.code_functions.specs.declared.items.CodeItem.{CodeItem}
use Rattle.flow_graph.specs.Nodes.{ending}
use Rattle.stack_depths.specs.Distances.{Distances, distances_along}
use Rattle.stack_facts.specs.declared.values.Clauses.TheVariants.{Kept}
use Rattle.stack_facts.specs.Facts.{Fact, facts_along_by}
use Rattle.scfi_pass.specs.Faults.{Situation}
use Rattle.scfi_pass.specs.Worked.{items, known, item_of}
use Rattle.cfi_checks.specs.declared.rows.WrittenRow.{WrittenRow}
use Rattle.cfi_checks.specs.declared.rows.RowFrom.{RowFrom}
use Rattle.cfi_checks.specs.declared.faults.CheckFault.TheVariants.{FrameNotShown, RegisterNotShown}
use Rattle.cfi_checks.specs.Rows.{entry_row, row_at}
use Rattle.cfi_checks.specs.Shown.{ShowsFrame, ShowsRegisters, ShowsReturn}
use Rattle.cfi_checks.specs.Faults.{IsTold}

-- the kept facts at the items of the first function: after the pop the slot of rbp stands still
abbrev pub stands : ℕ → Fact → Bool
stands j = facts_along_by Kept items known (if j == 0 then [] else if j == 1 then 0 ∷ [] else if j == 2 then 1 ∷ 0 ∷ [] else 2 ∷ 1 ∷ 0 ∷ [])

-- a row with the frame address counted from a register, and a rule of rbp
abbrev pub row_of : (register : ℕ) → (offset : ℤ) → Rule → WrittenRow
row_of register offset rbp = record entry_row { register = register; offset = offset; rules = slice_set entry_row.rules 1 rbp }

-- rows that compilers write, where this is the rule of rbp behind the push
abbrev pub rows : Rule → List RowFrom
rows rbp = record { item = 1; row = row_of 7 (pos 16) rbp } ∷ record { item = 2; row = row_of 6 (pos 16) rbp } ∷ record { item = 3; row = row_of 7 (pos 8) rbp } ∷ []

-- the rows with rbp at -16
abbrev pub saved : List RowFrom
saved = rows (Offset (neg_ℤ (pos 16)))

-- at an item all is shown of the row in force
abbrev pub IsShownAt : ℕ → Type 0
IsShownAt j = ShowsFrame (known j) (row_at saved j) × ShowsRegisters (stands j) (row_at saved j) × ShowsReturn (row_at saved j)

-- the situation at an item, for the faults of rows
abbrev pub situation : Distances → (Fact → Bool) → CodeItem → Situation
situation distances facts item = record { item = item; node = ending; last = false; known = distances; stands = facts }

-- at each item of the first function; but rbp is not, once it has moved, where no rule says that it was saved
abbrev pub AreWorkedRows : Type 0
AreWorkedRows = IsShownAt 0 × IsShownAt 1 × IsShownAt 2 × IsShownAt 3
    × IsTold (situation (known 2) (stands 2) (item_of role.Pop 4 2 7)) (row_at (rows Unspecified) 2) (RegisterNotShown Rbp)

-- the items of the second function
abbrev pub unsaid : List CodeItem
unsaid = item_of role.Push 0 7 7 ∷ item_of role.Return 0 7 7 ∷ []

-- its frame address is not shown at the return, where no row says that rsp has moved
abbrev pub IsWorkedFault : Type 0
IsWorkedFault = (facts : Fact → Bool) → IsTold (situation (distances_along unsaid (0 ∷ [])) facts (item_of role.Return 0 7 7)) (row_at [] 1) FrameNotShown
