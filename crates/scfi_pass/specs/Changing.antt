-- The instructions that lead from row to row, one for the frame address and one for each of the six registers.
use Rattle.std.specs.Prelude.{ℕ, ℤ, ◌==◌, Bool, true, false, Option, None, Some, List, [], ◌∷◌, map, if◌then◌else◌}
use Rattle.std.specs.Ordering.{int_eq}
use Rattle.cfi_rows.specs.declared.rows.CfiOp.{CfiOp}
use Rattle.cfi_rows.specs.declared.rows.CfiOp.TheVariants.{DefCfa, DefCfaRegister, DefCfaOffset, Set, Restore}
use Rattle.cfi_rows.specs.declared.rows.Rule.TheVariants.{Offset}
use Rattle.scfi_pass.specs.declared.rows.Cfa.{Cfa}
use Rattle.scfi_pass.specs.declared.item_ops.ItemOp.{ItemOp}
use Rattle.scfi_pass.specs.Registers.{dwarf_number}
use Rattle.scfi_pass.specs.Rows as rows

-- the frame address less a register's value
abbrev pub offset_of : ℕ → ℤ
offset_of distance = rows.offset_of distance

-- the frame address's, by whether its register and its offset are the same
abbrev pub cfa_op_by : Bool → Bool → (register : ℕ) → ℤ → Option CfiOp
cfa_op_by true true register offset = None
cfa_op_by false true register offset = Some (DefCfaRegister register)
cfa_op_by true false register offset = Some (DefCfaOffset offset)
cfa_op_by false false register offset = Some (DefCfa register offset)

-- the frame address's, if it is another
abbrev pub cfa_op : Cfa → Cfa → Option CfiOp
cfa_op from to =
    cfa_op_by (dwarf_number from.register == dwarf_number to.register) (int_eq (rows.offset_of from.distance) (rows.offset_of to.distance))
    (dwarf_number to.register) (rows.offset_of to.distance)

-- a register's, if its rule is another
abbrev pub slot_op : (number : ℕ) → Option ℕ → Option ℕ → Option CfiOp
slot_op number None None = None
slot_op number (Some m) None = Some (Restore number)
slot_op number None (Some n) = Some (Set number (Offset (rows.signed n)))
slot_op number (Some m) (Some n) = if int_eq (rows.signed m) (rows.signed n) then None else Some (Set number (Offset (rows.signed n)))

-- an instruction that holds from an item on, if there is one
abbrev pub told_at : (item : ℕ) → Option CfiOp → List ItemOp
told_at item None = []
told_at item (Some op) = record { item = item; op = op } ∷ []

-- the instructions that hold from an item on
abbrev pub told : (item : ℕ) → List CfiOp → List ItemOp
told item ops = map (λ op. record { item = item; op = op }) ops
