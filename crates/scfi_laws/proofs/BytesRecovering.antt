-- Rows recover the caller, and exits restore, along executions over bytes.
use Rattle.std.proofs.Common.{◌≡◌, ◌+◌, ◌<◌, ℕ, Some, slice_get, sym, ap, ◌∙◌, arith}
use Rattle.std.proofs.lemmas.Bool.Decides.{nat_tests}
use Rattle.cfi_rows.specs.declared.rows.CfaRow.{CfaRow}
use Rattle.cfi_rows.specs.declared.rows.Rule.{Rule}
use Rattle.cfi_rows.specs.declared.rows.Rule.TheVariants.{Unspecified, Undefined, SameValue, Offset, ValueOffset, Register}
use Rattle.insn_effects.specs.Followed.{wrap}
use Rattle.scfi_pass.specs.Faults.{at_exit}
use Rattle.scfi_pass.specs.Registers.{dwarf_number}
use Rattle.x86_steps.specs.Memory.{word_at}
use Rattle.x86_steps.specs.States.{State}
use Rattle.scfi_laws.specs.Performing.{processor_number, SameFollowed}
use Rattle.scfi_laws.specs.Recovering.{register_numbered, modular, rule_in, frame_by, RecoversBy, Recovers}
use Rattle.scfi_laws.specs.ByteExecutions.{at}
use Rattle.scfi_laws.specs.ByteLaws.{RowsRecoverInBytes, ExitsRestoreInBytes}
use Rattle.scfi_laws.proofs.Words.{same_memory}
use Rattle.scfi_laws.proofs.Returning.{counted_from, rows_recover}
use Rattle.scfi_laws.proofs.Restoring.{exits_restore}
use Rattle.scfi_laws.proofs.Rising.{one_holds}
use Rattle.scfi_laws.proofs.Joining.{begins, bytes_are_items}

-- where rows count the frame address from one of the seven, the same registers and memory recover the same
module _ (s t start : State) (same : SameFollowed s t) (row : CfaRow) (q : ℕ) (low : q < 7) (counted : register_numbered row.register ≡ processor_number q) where
  same_frame : frame_by row t ≡ frame_by row s
  same_frame =
      ap (λ r. wrap (t.registers r + modular row.offset)) counted ∙ ap (λ x. wrap (x + modular row.offset)) (same.registers q low)
      ∙ ap (λ r. wrap (s.registers r + modular row.offset)) (sym counted)

  same_by : (rule : Rule) (r : ℕ) → r < 7 → RecoversBy rule r (frame_by row s) s start → RecoversBy rule r (frame_by row t) t start
  same_by Unspecified r few h = same.registers r few ∙ h
  same_by SameValue r few h = same.registers r few ∙ h
  same_by (Offset z) r few h = ap (λ x. word_at t.memory (x + modular z)) same_frame ∙ same_memory s.memory t.memory (frame_by row s + modular z) same.memory ∙ h
  same_by Undefined r few h = absurd h
  same_by (ValueOffset z) r few h = absurd h
  same_by (Register other) r few h = absurd h

  same_recovers : Recovers row s start → Recovers row t start
  same_recovers h = record {
    counted = h.counted;
    return_rule = h.return_rule;
    frame_address = same_frame ∙ h.frame_address;
    return_address = ap (λ x. word_at t.memory (x + at_exit)) same_frame ∙ same_memory s.memory t.memory (frame_by row s + at_exit) same.memory ∙ h.return_address;
    registers = λ r saved. same_by (rule_in row (dwarf_number r)) r (let few : r < 7 = grind (arith, nat_tests) in few) (h.registers r saved);
  }

pub rows_recover_in_bytes : RowsRecoverInBytes
rows_recover_in_bytes a kinds starts code start earlier now function traced laid entry e keeps row supported =
    let s = bytes_are_items a kinds starts code start earlier now function traced laid entry e in
    let begun = begins a starts start function entry in
    let known = supported s.number s.holds in
    let there = rows_recover a (at 0 start) s.earlier (at s.number s.core) function.analyzed begun s.execution keeps row known in
    let here_same : SameFollowed (at s.number s.core) now = record { registers = s.same.registers; memory = s.same.memory } in
    let here = same_recovers (at s.number s.core) now (at 0 start) here_same row known.register known.among (counted_from row known.register known.among known.counted) there in
    record { counted = here.counted; return_rule = here.return_rule; frame_address = here.frame_address; return_address = here.return_address; registers = λ r saved. from_start (rule_in row (dwarf_number r)) r now start (frame_by row now) (here.registers r saved) }
  where
    from_start : (rule : Rule) (r : ℕ) (t start : State) (frame : ℕ) → RecoversBy rule r frame t (at 0 start) → RecoversBy rule r frame t start
    from_start Unspecified r t start frame h = h
    from_start SameValue r t start frame h = h
    from_start (Offset z) r t start frame h = h
    from_start Undefined r t start frame h = absurd h
    from_start (ValueOffset z) r t start frame h = absurd h
    from_start (Register other) r t start frame h = absurd h

pub exits_restore_in_bytes : ExitsRestoreInBytes
exits_restore_in_bytes a kinds starts code start earlier now function traced laid entry e restored i node holds there exits = λ q low.
    let s = bytes_are_items a kinds starts code start earlier now function traced laid entry e in
    let begun = begins a starts start function entry in
    let one : i ≡ s.number = one_holds a kinds starts code laid s.number i now.place s.holds holds in
    let found : slice_get a.nodes s.number ≡ Some node = ap (slice_get a.nodes) (sym one) ∙ there in
    s.same.registers q low ∙ exits_restore a (at 0 start) s.earlier (at s.number s.core) function.analyzed begun s.execution function restored node found exits q low
