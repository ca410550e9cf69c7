-- What holds of codes in the row's order, holds in the order that is shown, which no value changes.
use Rattle.std.proofs.Common.{◌≡◌, ◌∙◌, Option, Some, false, refl, sym, true, ℕ}
use Rattle.x86_insn.specs.declared.insns.Mnemonic.{Mnemonic}
use Rattle.x86_insn.specs.declared.insns.Slot.{Slot}
use Rattle.x86_insn.specs.declared.insns.Insn.{Insn}
use Rattle.x86_insn.specs.declared.amounts.Values.{Values}
use Rattle.x86_table.specs.declared.forms.Row.{Row}
use Rattle.x86_insn.specs.declared.insns.Slot.TheVariants as slot
use Rattle.x86_insn.specs.Views.{seen_at, view_of}
use Rattle.x86_table.specs.Reads.{is_register, is_accumulator}
use Rattle.x86_parts.specs.Building.{takes}
use Rattle.x86_parts.specs.Codes.{HasOrderedCode, named}
use Rattle.x86_encode.specs.Exchanges.{turned, exchanges, HasCode}
use Rattle.x86_encode.specs.Faults.{kinds_fit}
use Rattle.x86_encode.proofs.Nearest.{values_by, with_zero}
use Rattle.x86_encode.proofs.Values.{Takes, with_value}

-- an instruction with its first two operands exchanged
abbrev swapped : Insn → Insn
swapped insn = record insn { first = insn.second; second = insn.first }

register_same : (insn : Insn) (v w : Values) (s : Slot) → is_register (seen_at insn v s) ≡ is_register (seen_at insn w s)
register_same insn v w slot.Absent = refl
register_same insn v w (slot.Register r) = refl
register_same insn v w slot.Immediate = refl
register_same insn v w slot.Memory = refl
register_same insn v w slot.Target = refl

accumulator_same : (insn : Insn) (v w : Values) (s : Slot) → is_accumulator (seen_at insn v s) ≡ is_accumulator (seen_at insn w s)
accumulator_same insn v w slot.Absent = refl
accumulator_same insn v w (slot.Register r) = refl
accumulator_same insn v w slot.Immediate = refl
accumulator_same insn v w slot.Memory = refl
accumulator_same insn v w slot.Target = refl

order_same : (name : Mnemonic) (insn : Insn) (v w : Values) → exchanges (named name (view_of insn v)) ≡ exchanges (named name (view_of insn w))
order_same name insn v w = rw (register_same insn v w insn.first, accumulator_same insn v w insn.second) refl

back_same : (name : Mnemonic) (insn : Insn) (v w : Values) → exchanges (turned (named name (view_of insn v))) ≡ exchanges (turned (named name (view_of insn w)))
back_same name insn v w = rw (register_same insn v w insn.second, accumulator_same insn v w insn.first) refl

in_own : (name : Mnemonic) (insn : Insn) (v w : Values) → exchanges (named name (view_of insn v)) ≡ false → HasOrderedCode (named name (view_of insn w)) → HasCode (named name (view_of insn w))
in_own name insn v w e h = (h.0, h.1, (false, sym (order_same name insn v w) ∙ e, h.2))

in_other : (name : Mnemonic) (insn : Insn) (v w : Values) → exchanges (turned (named name (view_of insn v))) ≡ true → HasOrderedCode (turned (named name (view_of insn w))) → HasCode (named name (view_of insn w))
in_other name insn v w e h = (h.0, h.1, (true, sym (back_same name insn v w) ∙ e, h.2))

pub any_zero : (name : Mnemonic) (insn : Insn) (held moved : Option ℕ) → HasCode (named name (view_of insn (values_by held moved))) → HasCode (named name (view_of insn (values_by held (Some 0))))
any_zero name insn held moved (bytes, i, (true, e, c)) = in_other name insn (values_by held moved) (values_by held (Some 0)) e (with_zero name (swapped insn) held moved (bytes, i, c))
any_zero name insn held moved (bytes, i, (false, e, c)) = in_own name insn (values_by held moved) (values_by held (Some 0)) e (with_zero name insn held moved (bytes, i, c))

pub any_value : (v : ℕ) (name : Mnemonic) (insn : Insn) (held moved : Option ℕ) → ((r : Row) → kinds_fit r ≡ true → name.0 ≡ r.name.0 → Takes v r.immediate) → (held ≡ Some 1 → v ≡ 1)
    → HasCode (named name (view_of insn (values_by held moved))) → HasCode (named name (view_of insn (values_by (Some v) moved)))
any_value v name insn held moved takes one (bytes, i, (true, e, c)) =
    in_other name insn (values_by held moved) (values_by (Some v) moved) e (with_value v name (swapped insn) held moved takes one (bytes, i, c))
any_value v name insn held moved takes one (bytes, i, (false, e, c)) =
    in_own name insn (values_by held moved) (values_by (Some v) moved) e (with_value v name insn held moved takes one (bytes, i, c))
