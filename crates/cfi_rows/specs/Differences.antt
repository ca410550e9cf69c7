-- The instructions that lead from one row to another.
use Rattle.std.specs.Prelude.{◌≡◌, ℕ, ◌+◌, Bool, true, false, ◌==◌, ◌⊎◌, List, [], ◌∷◌, ◌++◌, Some, slice_get, if◌then◌else◌}
use Rattle.std.specs.Ordering.{int_eq}
use Rattle.cfi_rows.specs.declared.rows.CfaRow.{CfaRow}
use Rattle.cfi_rows.specs.declared.rows.CfiOp.{CfiOp}
use Rattle.cfi_rows.specs.declared.rows.CfiOp.TheVariants.{DefCfa, DefCfaRegister, DefCfaOffset, Set, Restore}
use Rattle.cfi_rows.specs.declared.rows.Rule.{Rule}
use Rattle.cfi_rows.specs.declared.rows.Rule.TheVariants.{Unspecified, Undefined, SameValue, Offset, ValueOffset, Register}

-- the CFA's instruction, by whether its register and its offset are the same: def_cfa_register, def_cfa_offset, or def_cfa for both
abbrev pub cfa_change : Bool → Bool → CfaRow → List CfiOp
cfa_change true true to = []
cfa_change false true to = DefCfaRegister to.register ∷ []
cfa_change true false to = DefCfaOffset to.offset ∷ []
cfa_change false false to = DefCfa to.register to.offset ∷ []

-- the instruction that makes of one row's CFA another's, if it's another
abbrev pub cfa_change_of : CfaRow → CfaRow → List CfiOp
cfa_change_of from to = cfa_change (from.register == to.register) (int_eq from.offset to.offset) to

-- whether two rules are one
abbrev pub same_rule : Rule → Rule → Bool
same_rule Unspecified Unspecified = true
same_rule Undefined Undefined = true
same_rule SameValue SameValue = true
same_rule (Offset a) (Offset b) = int_eq a b
same_rule (ValueOffset a) (ValueOffset b) = int_eq a b
same_rule (Register a) (Register b) = a == b
same_rule _ _ = false

-- the instruction that gives a register its rule: restore where it's unspecified, as the common entry leaves all registers but 16
abbrev pub rule_op : ℕ → Rule → CfiOp
rule_op number Unspecified = Restore number
rule_op number rule = Set number rule

-- an instruction for each register, from a number on, whose rule is another
abbrev pub rule_changes : ℕ → List Rule → List Rule → List CfiOp
rule_changes number (a ∷ from) (b ∷ to) = (if same_rule a b then [] else rule_op number b ∷ []) ++ rule_changes (number + 1) from to
rule_changes number _ _ = []

-- the instructions that lead from one row to another: the CFA's, then the registers' in the order of their numbers
abbrev pub differences : CfaRow → CfaRow → List CfiOp
differences from to = cfa_change_of from to ++ rule_changes 0 from.rules to.rules

-- a register that is unspecified in the second row is so in the first already, or where the procedure begins
abbrev pub IsReached : CfaRow → CfaRow → CfaRow → Type 0
IsReached initial from to = (number : ℕ) → slice_get to.rules number ≡ Some Unspecified
    → (slice_get from.rules number ≡ Some Unspecified) ⊎ (slice_get initial.rules number ≡ Some Unspecified)
