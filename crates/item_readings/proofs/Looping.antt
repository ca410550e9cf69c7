-- The worked loop lies in its bytes, and not in those of a jump to itself.
use Rattle.std.proofs.Common.{◌≡◌, ℕ, zero, suc, ◌+◌, ◌-◌, ◌<◌, ◌^◌, false, List, [], ◌∷◌, length, slice_get, None, Some, refl, sym, ap, subst, inl, inr, lit<, arith}
use Rattle.std.proofs.lemmas.Option.{none-some, same_Some}
use Rattle.x86_insn.specs.declared.insns.Prefix.TheVariants as prefix
use Rattle.x86_insn.specs.Views.{View, absent}
use Rattle.x86_table.specs.declared.mnemonics.integers.TheConstants.{JMP, NOP}
use Rattle.x86_table.specs.Reads.{Reads}
use Rattle.x86_table.specs.Rows.{the_rows}
use Rattle.x86_table.specs.WorkedReadings.{worked, WorkedReadings}
use Rattle.item_bytes.specs.Jumps.{jump_bytes, jump_distance}
use Rattle.jump_laws.specs.JumpReadings.{jump_over, JumpCodesRead}
use Rattle.x86_parts.specs.Codes.{meant}
use Rattle.insn_effects.specs.declared.effects.Role.TheVariants as role
use Rattle.insn_effects.specs.Decoding.{action_of}
use Rattle.insn_effects.specs.Flows.{onward, jumps}
use Rattle.insn_effects.specs.Listed.{admits_head, writes_by_head}
use Rattle.code_functions.specs.declared.items.CodeItem.{CodeItem}
use Rattle.flow_graph.specs.declared.nodes.Node.{Node}
use Rattle.flow_graph.specs.declared.targets.Target.TheVariants.{Inside, Unknown}
use Rattle.flow_graph.specs.Nodes.{node_by}
use Rattle.flow_graph.specs.Worked.{code, code_to}
use Rattle.x86_steps.specs.States.{State}
use Rattle.x86_steps.specs.Steps.{Does}
use Rattle.x86_steps.specs.Fillings.{FillsView}
use Rattle.x86_steps.specs.Readings.{Reading, IsReading}
use Rattle.step_readings.specs.Obeying.{ReadBytesObey}
use Rattle.step_readings.specs.Jumps.{jump_of}
use Rattle.scfi_laws.specs.Performing.{EffectsAreFollowed}
use Rattle.scfi_laws.specs.Laid.{Kind, plain, directed, padding, inert, size, Arrives, IsTraced, Fits, ReadsItem}
use Rattle.scfi_laws.specs.LaidLaws.{loop_items, loop_nodes, InnerJumpsArePlain}
use Rattle.item_readings.specs.Items.{IsItemOf, JumpItemsAreRead}
use Rattle.item_readings.specs.WorkedLoop.{loop_kind, loop_start, LoopIsLaid, WrongLoopIsRefused}
use Rattle.item_readings.proofs.Covering.{covers}

abbrev nop_item : CodeItem
nop_item = code role.Other 0 0

abbrev nop_node : Node
nop_node = node_by onward Unknown

abbrev jump_item : CodeItem
jump_item = code_to role.Jump 0 1 0

abbrev jump_node : Node
jump_node = node_by (jumps false) (Inside 0 false)

abbrev nop : View
nop = worked NOP 0 prefix.Absent absent absent absent

-- THE WRONG BYTES

-- EB FE reads as a jump over no byte at all, counted from its first
jump_reads : JumpCodesRead → Reads (0xeb ∷ 0xfe ∷ []) (jump_over JMP 2 (2 ^ 64 - 2))
unfolding jump_bytes jump_distance
jump_reads read = read None false 0xfe

-- at the jump, with 0 everywhere
abbrev at_jump : State
at_jump = record { place = 1; registers = λ q. 0; memory = [] }

-- it leads to itself
jump_does : Does (action_of (jump_over JMP 2 (2 ^ 64 - 2))) 3 at_jump at_jump
unfolding action_of
jump_does = record { goes = inl refl; changes = (λ q k. refl, λ b. refl) }

abbrev wrong : List ℕ
wrong = 0x90 ∷ 0xeb ∷ 0xfe ∷ []

-- the no-operation has one byte
nop_size : WorkedReadings → (starts : ℕ → ℕ) (kind : Kind) → Fits kind nop_item nop_node → starts 0 ≡ 0 → ReadsItem starts wrong (starts 0) kind nop_item nop_node → size kind ≡ 1
nop_size read starts (plain n) fits first reads =
    let at_zero = subst (λ p. ReadsItem starts wrong p (plain n) nop_item nop_node) first reads in
    sym (at_zero.1 (record { bytes = 1; insn = nop }) (record { front = 0x90 ∷ []; rest = 0xeb ∷ 0xfe ∷ []; stands = refl; reads = read.nop; long = refl })).bytes
nop_size read starts (directed n) fits first reads = absurd (let jump = fits.1.jump in let none : ⊥ = cc in none)
nop_size read starts (padding lengths) fits first reads = absurd (let is = fits.0 in let none : ⊥ = cc in none)
nop_size read starts (inert n) fits first reads = absurd (let none : ⊥ = cc in none)

-- control does not arrive at the first item
arrives_not : (starts : ℕ → ℕ) → starts 0 ≡ 0 → Arrives starts jump_node 3 1 → ⊥
arrives_not starts first (inl there) = let none : ⊥ = omega arith in none
arrives_not starts first (inr on) = let is = on.0 in let none : ⊥ = cc in none

jump_refused : JumpCodesRead → (starts : ℕ → ℕ) (n : ℕ) → starts 0 ≡ 0 → ReadsItem starts wrong 1 (plain n) jump_item jump_node → ⊥
jump_refused read starts n first reads =
    let r : Reading = record { bytes = 2; insn = jump_over JMP 2 (2 ^ 64 - 2) } in
    let h : IsReading wrong 1 r = record { front = 0xeb ∷ 0xfe ∷ []; rest = []; stands = refl; reads = jump_reads read; long = refl } in
    let traced : IsTraced jump_item jump_node = record { target = refl; insn = refl; usage = refl } in
    arrives_not starts first ((reads.1 r h).covers at_jump at_jump traced refl (λ q. lit< tt) jump_does tt).arrives

pub refused : InnerJumpsArePlain → JumpCodesRead → WorkedReadings → WrongLoopIsRefused
refused inner jump_read read a kinds starts items nodes first laid =
    let nop_there : slice_get a.items 0 ≡ Some nop_item = ap (λ x. slice_get x 0) items in
    let nop_known : slice_get a.nodes 0 ≡ Some nop_node = ap (λ x. slice_get x 0) nodes in
    let jump_there : slice_get a.items 1 ≡ Some jump_item = ap (λ x. slice_get x 1) items in
    let jump_known : slice_get a.nodes 1 ≡ Some jump_node = ap (λ x. slice_get x 1) nodes in
    let many : length a.items ≡ 2 = ap length items in
    let sized = nop_size read starts (kinds 0) (laid.fits 0 nop_item nop_node nop_there nop_known) first (laid.reads_back 0 nop_item nop_node nop_there nop_known) in
    let placed : starts 1 ≡ starts 0 + size (kinds 0) = laid.placed 0 (omega arith) in
    let second : starts 1 ≡ 1 = omega arith in
    let is = inner a kinds starts wrong 1 jump_item jump_node false laid jump_there jump_known refl refl in
    let reads = laid.reads_back 1 jump_item jump_node jump_there jump_known in
    jump_refused jump_read starts is.0 first (subst (λ k. ReadsItem starts wrong 1 k jump_item jump_node) is.1 (subst (λ p. ReadsItem starts wrong p (kinds 1) jump_item jump_node) second reads))

-- THE RIGHT BYTES

abbrev right : List ℕ
right = 0x90 ∷ 0xeb ∷ 0xfd ∷ []

nop_is : IsItemOf nop nop_item nop_node
unfolding the_rows admits_head writes_by_head action_of
nop_is = record {
  shows = record { effect = refl; flow = refl; supported = refl; no_padding = refl; no_data = refl };
  target = Unknown;
  node_is = refl;
}

nop_fills : FillsView (meant nop) nop
nop_fills = record { name = refl; size = refl; words = refl; first = refl; second = refl; third = refl }

jump_is : IsItemOf (jump_of None) jump_item jump_node
unfolding the_rows admits_head writes_by_head action_of
jump_is = record {
  shows = record { effect = refl; flow = refl; supported = refl; no_padding = refl; no_data = refl };
  target = Inside 0 false;
  node_is = refl;
}

-- what is asked of an item and its node
record StandsThere (i : ℕ) (item : CodeItem) (node : Node) : Type 0 where
  fits : Fits (loop_kind i) item node
  reads : ReadsItem loop_start right (loop_start i) (loop_kind i) item node

nop_stands : EffectsAreFollowed → ReadBytesObey → WorkedReadings → StandsThere 0 nop_item nop_node
nop_stands followed obey read =
    let obeyed = obey nop nop (0x90 ∷ []) right (0xeb ∷ 0xfd ∷ []) 0 nop_fills read.nop refl in
    record {
      fits = record { some = lit< tt; calls = λ c. refl };
      reads = (obeyed.read, λ r h. (covers followed nop nop_item nop_node loop_start 0 (0x90 ∷ []) None r nop_is (obeyed.obeys r h)).inside tt);
    }

jump_stands : JumpItemsAreRead → StandsThere 1 jump_item jump_node
unfolding jump_bytes jump_distance
jump_stands read_jumps =
    let read = read_jumps None false 0xfd jump_item jump_node loop_start right [] 1 refl jump_is in
    record {
      fits = record { some = lit< tt; calls = λ c. let none : ⊥ = cc in absurd none };
      reads = (read.read, read.inside (record { item = 0; by = 2 ^ 64 - 1; target = refl; distance_is = refl; there = refl }));
    }

exchanged : (i : ℕ) (x item : CodeItem) (y node : Node) → x ≡ item → y ≡ node → StandsThere i x y → StandsThere i item node
exchanged i x item y node e f h = subst (λ a. StandsThere i a node) e (subst (λ b. StandsThere i x b) f h)

placed : (i : ℕ) → i < 2 → loop_start (i + 1) ≡ loop_start i + size (loop_kind i)
placed zero h = refl
placed (suc zero) h = refl
placed (suc (suc n)) h = absurd (omega arith)

stands : StandsThere 0 nop_item nop_node → StandsThere 1 jump_item jump_node → (i : ℕ) (item : CodeItem) (node : Node) → slice_get loop_items i ≡ Some item
    → slice_get loop_nodes i ≡ Some node → StandsThere i item node
stands first second zero item node e f = exchanged 0 _ item _ node (same_Some _ item e) (same_Some _ node f) first
stands first second (suc zero) item node e f = exchanged 1 _ item _ node (same_Some _ item e) (same_Some _ node f) second
stands first second (suc (suc n)) item node e f = absurd (none-some item e)

pub loop_laid : EffectsAreFollowed → ReadBytesObey → WorkedReadings → JumpItemsAreRead → LoopIsLaid
loop_laid followed obey read read_jumps distances reached facts =
    let all = stands (nop_stands followed obey read) (jump_stands read_jumps) in
    record {
      placed = placed;
      fits = λ i item node e f. (all i item node e f).fits;
      reads_back = λ i item node e f. (all i item node e f).reads;
    }
