-- The return address stands, and rows that are supported recover the caller.
use Rattle.std.proofs.Common.{◌≡◌, ◌+◌, ◌-◌, ◌^◌, ◌<◌, ℕ, Bool, true, false, List, [], ◌∷◌, length, Contains, Option, Some, None, slice_get, refl, sym, ap, subst, inl, lit<, ◌∙◌, arith}
use Rattle.cfi_rows.specs.declared.rows.CfaRow.{CfaRow}
use Rattle.cfi_rows.specs.declared.rows.Rule.{Rule}
use Rattle.cfi_rows.specs.declared.rows.Rule.TheVariants.{Unspecified, Undefined, SameValue, Offset, ValueOffset, Register}
use Rattle.insn_effects.specs.Followed.{wrap, followed_by}
use Rattle.flow_graph.specs.declared.nodes.Node.{Node}
use Rattle.flow_graph.specs.Walks.{successors, successors_at}
use Rattle.stack_facts.specs.Places.{stored_by}
use Rattle.stack_facts.specs.Facts.{entry, slot, is_touched}
use Rattle.scfi_pass.specs.Faults.{at_exit}
use Rattle.scfi_pass.specs.Registers.{dwarf_number}
use Rattle.scfi_pass.specs.Tables.{Analyzed, IsAnalyzed}
use Rattle.x86_steps.specs.Memory.{word_at}
use Rattle.x86_steps.specs.States.{State}
use Rattle.scfi_laws.specs.Performing.{held, processor_number}
use Rattle.scfi_laws.specs.Executions.{frame_address, framed_word, IsStart, KeptStep, KeptExecution}
use Rattle.scfi_laws.specs.Recovering.{register_numbered, modular, rule_in, frame_by, RecoversBy, Recovers, Supports, IsSupported}
use Rattle.scfi_laws.specs.Functions.{KeepsReturn}
use Rattle.scfi_laws.specs.ItemLaws.{passed, ReturnAddressStands, RowsRecover}
use Rattle.scfi_laws.proofs.Numbers.{each_of_seven}
use Rattle.scfi_laws.proofs.Words.{same_word}
use Rattle.scfi_laws.proofs.DistanceLemmas.{walked, step_passes, known_true}
use Rattle.scfi_laws.proofs.Standing.{word_stays, facts_true}

-- what is not true is false
pub not_true : (b : Bool) → (b ≡ true → ⊥) → b ≡ false
not_true true fails = absurd (fails refl)
not_true false fails = refl

-- an item with a successor has a node
node_there : (nodes : List Node) (i j : ℕ) → Contains (successors nodes i) j → (node : Node) × (slice_get nodes i ≡ Some node)
unfolding successors
node_there nodes i j next = by (slice_get nodes i) refl next
  where
    by : (o : Option Node) → slice_get nodes i ≡ o → Contains (successors_at o (length nodes) i) j → (node : Node) × (slice_get nodes i ≡ Some node)
    by None is found = absurd (let none : ⊥ = omega (arith, found.1) in none)
    by (Some node) is found = (node, is)

-- the frame address less 8 is rsp at entry
entry_place : (x : ℕ) → wrap (wrap (x + 8) + (2 ^ 64 - 8)) ≡ wrap x
entry_place x = omega arith

-- a row counts the frame address from the register of its number
pub counted_from : (row : CfaRow) (q : ℕ) → q < 7 → row.register ≡ dwarf_number q → register_numbered row.register ≡ processor_number q
counted_from row q low is =
    ap register_numbered is ∙ each_of_seven (λ r. register_numbered (dwarf_number r) ≡ processor_number r) refl refl refl refl refl refl refl q low

-- that is one of the processor's
counted_low : (row : CfaRow) (q : ℕ) → q < 7 → row.register ≡ dwarf_number q → row.register < 16
counted_low row q low is =
    subst (λ r. r < 16) (sym is)
    (each_of_seven (λ r. dwarf_number r < 16) (lit< tt) (lit< tt) (lit< tt) (lit< tt) (lit< tt) (lit< tt) (lit< tt) q low)

-- the frame address counted from a register
frame_recovered : (frame k offset x : ℕ) → frame < 2 ^ 64 → x ≡ wrap (frame + k) → wrap (k + offset) ≡ 0 → wrap (x + offset) ≡ frame
frame_recovered frame k offset x small is zero = omega arith

module _ (a : Analyzed) (analyzed : IsAnalyzed a) (start : State) (begun : IsStart a start) where
  -- no item of an execution stores into the return address
  untouched : (s t : State) (earlier : List State) → KeepsReturn a → KeptExecution a start earlier s → (step : KeptStep a start s t)
      → is_touched (stored_by (followed_by step.item.effect).stores (a.distances s.place)) at_exit ≡ false
  untouched s t earlier keeps e step =
      let node = node_there a.nodes s.place t.place step.next in
      let reached = (analyzed.reached s.place).1 (passed earlier, walked a start begun earlier s e) in
      not_true _ (λ is. keeps s.place step.item node.0 reached step.there node.1 (inl is))

  -- its 8 bytes stay
  return_stays : (earlier : List State) (now : State) → KeepsReturn a → KeptExecution a start earlier now → framed_word start now at_exit ≡ framed_word start start at_exit
  return_stays [] now keeps e = ap (λ (s : State). framed_word start s at_exit) e
  return_stays (s ∷ earlier) now keeps e =
      let step = e.1 in
      let effect = followed_by step.item.effect in
      word_stays a analyzed start begun effect effect.calls s now at_exit (known_true a start begun analyzed earlier s e.0) (step_passes a start begun s now step).stores step.keeps
      (untouched s now earlier keeps e.0 step) (λ alone. alone.return_address) (λ alone. alone.return_address) ∙ return_stays earlier s keeps e.0

  return_stands : (earlier : List State) (now : State) → KeepsReturn a → KeptExecution a start earlier now → framed_word start now at_exit ≡ word_at start.memory (start.registers 4)
  return_stands earlier now keeps e =
      return_stays earlier now keeps e ∙ same_word start.memory (frame_address start + at_exit) (start.registers 4) (entry_place (start.registers 4))

  module _ (earlier : List State) (now : State) (keeps : KeepsReturn a) (e : KeptExecution a start earlier now) (row : CfaRow)
      (supported : IsSupported (a.distances now.place) (a.facts now.place) row) where
    frame_is : frame_by row now ≡ frame_address start
    frame_is =
        let small : frame_address start < 2 ^ 64 = omega arith in
        ap (λ q. wrap (now.registers q + modular row.offset)) (counted_from row supported.register supported.among supported.counted)
        ∙ frame_recovered (frame_address start) supported.distance (modular row.offset) (held now supported.register) small
        (known_true a start begun analyzed earlier now e supported.register supported.distance supported.lies) supported.reaches

    recovered_by : (rule : Rule) (r : ℕ) → Supports (a.facts now.place) r rule → RecoversBy rule r (frame_by row now) now start
    recovered_by Unspecified r stands = facts_true a analyzed start begun earlier now e (entry r) stands
    recovered_by SameValue r stands = facts_true a analyzed start begun earlier now e (entry r) stands
    recovered_by (Offset z) r stands =
        ap (λ x. word_at now.memory (x + modular z)) frame_is ∙ facts_true a analyzed start begun earlier now e (slot (modular z) r) stands
    recovered_by Undefined r stands = absurd stands
    recovered_by (ValueOffset z) r stands = absurd stands
    recovered_by (Register q) r stands = absurd stands

    pub row_recovers : Recovers row now start
    row_recovers = record {
      counted = counted_low row supported.register supported.among supported.counted;
      frame_address = frame_is;
      return_rule = supported.return_rule;
      return_address = ap (λ x. word_at now.memory (x + at_exit)) frame_is ∙ return_stands earlier now keeps e;
      registers = λ r saved. recovered_by (rule_in row (dwarf_number r)) r (supported.rules r saved);
    }

pub return_address_stands : ReturnAddressStands
return_address_stands a start earlier now analyzed begun e keeps = return_stands a analyzed start begun earlier now keeps e

pub rows_recover : RowsRecover
rows_recover a start earlier now analyzed begun e keeps row supported = row_recovers a analyzed start begun earlier now keeps e row supported
