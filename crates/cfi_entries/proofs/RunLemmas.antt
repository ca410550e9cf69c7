-- Running what an instruction is followed by.
use Rattle.std.proofs.Common.{◌≡◌, ℕ, zero, suc, ◌+◌, ◌<◌, length, List, [], ◌∷◌, Option, None, Some, refl, ◌∙◌, ap, arith}
use Rattle.std.specs.Option.{option_map, option_and_then}
use Rattle.cfi_rows.specs.declared.rows.CfaRow.{CfaRow}
use Rattle.cfi_rows.specs.declared.rows.Insn.{Insn}
use Rattle.cfi_rows.specs.Instructions.{next}
use Rattle.cfi_entries.specs.Places.{decoded}
use Rattle.cfi_entries.specs.Walks.{Walk, step, run, ran}

pub decoded_on : (more : ℕ) (bytes rest : List ℕ) (insn : Insn) → next bytes ≡ Some (insn, rest)
    → decoded (suc more) bytes ≡ option_map (λ insns. insn ∷ insns) (decoded more rest)
decoded_on more [] rest insn reads = grind arith
decoded_on more (byte ∷ bytes) rest insn reads =
    ap (option_and_then (λ read. option_map (λ insns. read.0 ∷ insns) (decoded more read.1))) reads

decoded_none : (more : ℕ) (bytes : List ℕ) → next bytes ≡ None → 0 < length bytes → decoded (suc more) bytes ≡ None
decoded_none more [] reads some = grind arith
decoded_none more (byte ∷ bytes) reads some =
    ap (option_and_then (λ read. option_map (λ insns. read.0 ∷ insns) (decoded more read.1))) reads

joined : (initial : CfaRow) (at : ℕ) (insn : Insn) (old new : Walk) (due : Option (List Insn)) → step initial at insn old ≡ Some new
    → option_and_then (λ insns. run initial at insns old) (option_map (λ insns. insn ∷ insns) due)
    ≡ option_and_then (λ insns. run initial at insns new) due
joined initial at insn old new None steps = refl
joined initial at insn old new (Some insns) steps = ap (option_and_then (run initial at insns)) steps

stopped : (initial : CfaRow) (at : ℕ) (insn : Insn) (old : Walk) (due : Option (List Insn)) → step initial at insn old ≡ None
    → option_and_then (λ insns. run initial at insns old) (option_map (λ insns. insn ∷ insns) due) ≡ None
stopped initial at insn old None steps = refl
stopped initial at insn old (Some insns) steps = ap (option_and_then (run initial at insns)) steps

one_more : (more : ℕ) → more + 1 ≡ suc more
one_more more = omega arith

pub ran_on : (initial : CfaRow) (at : ℕ) (bytes rest : List ℕ) (insn : Insn) (old new : Walk) (more : ℕ)
    → next bytes ≡ Some (insn, rest) → step initial at insn old ≡ Some new → ran initial at (more + 1) bytes old ≡ ran initial at more rest new
ran_on initial at bytes rest insn old new more reads steps =
    ap (λ most. ran initial at most bytes old) (one_more more)
    ∙ ap (option_and_then (λ insns. run initial at insns old)) (decoded_on more bytes rest insn reads)
    ∙ joined initial at insn old new (decoded more rest) steps

pub ran_stopped : (initial : CfaRow) (at : ℕ) (bytes rest : List ℕ) (insn : Insn) (old : Walk) (more : ℕ)
    → next bytes ≡ Some (insn, rest) → step initial at insn old ≡ None → ran initial at (more + 1) bytes old ≡ None
ran_stopped initial at bytes rest insn old more reads steps =
    ap (λ most. ran initial at most bytes old) (one_more more)
    ∙ ap (option_and_then (λ insns. run initial at insns old)) (decoded_on more bytes rest insn reads)
    ∙ stopped initial at insn old (decoded more rest) steps

pub ran_unread : (initial : CfaRow) (at : ℕ) (bytes : List ℕ) (old : Walk) (more : ℕ)
    → next bytes ≡ None → 0 < length bytes → ran initial at (more + 1) bytes old ≡ None
ran_unread initial at bytes old more reads some =
    ap (λ most. ran initial at most bytes old) (one_more more)
    ∙ ap (option_and_then (λ insns. run initial at insns old)) (decoded_none more bytes reads some)

pub ran_end : (initial : CfaRow) (at most : ℕ) (bytes : List ℕ) (old : Walk) → length bytes ≡ 0 → ran initial at most bytes old ≡ Some old
ran_end initial at zero [] old none = refl
ran_end initial at (suc more) [] old none = refl
ran_end initial at most (byte ∷ bytes) old none = grind arith
