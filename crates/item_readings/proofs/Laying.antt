-- The worked items stand in their bytes.
use Rattle.std.proofs.Common.{◌≡◌, ℕ, zero, suc, ◌+◌, ◌<◌, ◌++◌, Bool, true, false, List, [], ◌∷◌, drop, length, slice_get, Some, refl, subst, arith, lit<}
use Rattle.std.proofs.lemmas.Option.{none-some, same_Some}
use Rattle.x86_insn.specs.Views.{View}
use Rattle.x86_table.specs.Reads.{Reads}
use Rattle.x86_parts.specs.Codes.{meant}
use Rattle.insn_effects.specs.Decoding.{action_of}
use Rattle.insn_effects.specs.declared.effects.Role.TheVariants as role
use Rattle.insn_effects.specs.Flows.{onward, returns, flow_of}
use Rattle.insn_effects.specs.Followed.{writing}
use Rattle.code_functions.specs.declared.items.CodeItem.{CodeItem}
use Rattle.flow_graph.specs.declared.nodes.Node.{Node}
use Rattle.flow_graph.specs.declared.targets.Target.TheVariants.{Unknown}
use Rattle.flow_graph.specs.Nodes.{node_by}
use Rattle.stack_depths.specs.Distances.{Distances}
use Rattle.stack_facts.specs.Facts.{Fact}
use Rattle.x86_steps.specs.Fillings.{FillsView}
use Rattle.x86_steps.specs.Leading.{distance_of}
use Rattle.x86_steps.specs.WorkedSteps.{push_frame, set_frame, pop_frame, return, WorkedSteps}
use Rattle.step_readings.specs.Obeying.{ReadBytesObey}
use Rattle.scfi_laws.specs.Performing.{EffectsAreFollowed}
use Rattle.scfi_laws.specs.Laid.{plain, size, Fits, ReadsItem, IsLaid}
use Rattle.item_readings.specs.Items.{IsItemOf, LeadsInside}
use Rattle.item_readings.specs.Worked.{item_at, worked_items, worked_nodes, worked_function, worked_bytes, worked_kind, worked_start}
use Rattle.item_readings.proofs.Covering.{covers}

-- the laws on which this stands
pub record Given : Type 0 where
  pub followed : EffectsAreFollowed
  pub obey : ReadBytesObey
  pub steps : WorkedSteps

-- something is read where an instruction of known numbers stands, and whatever it is does what the item may do
reads_item : Given → (insn : View) (item : CodeItem) (node : Node) (bytes rest : List ℕ) (place : ℕ) → FillsView (meant insn) insn → Reads bytes insn
    → IsItemOf insn item node → LeadsInside (flow_of insn) worked_start place (distance_of insn.first) node → drop place worked_bytes ≡ bytes ++ rest
    → ReadsItem worked_start worked_bytes place (plain (length bytes)) item node
reads_item laws insn item node bytes rest place fills reads is inside stands =
    let obeyed = laws.obey insn insn bytes worked_bytes rest place fills reads stands in
    (obeyed.read, λ r h. (covers laws.followed insn item node worked_start place bytes (distance_of insn.first) r is (obeyed.obeys r h)).inside inside)

calls_not : false ≡ true → ⊥
calls_not e = cc

-- what is asked of an item and its node
record StandsThere (i : ℕ) (item : CodeItem) (node : Node) : Type 0 where
  fits : Fits (worked_kind i) item node
  reads : ReadsItem worked_start worked_bytes (worked_start i) (worked_kind i) item node

push_shows : IsItemOf push_frame (item_at 0 (record (writing role.Push 0) { register = 2 })) (node_by onward Unknown)
unfolding action_of
push_shows = record {
  shows = record { effect = refl; flow = refl; supported = refl; no_padding = refl; no_data = refl };
  target = Unknown;
  node_is = refl;
}

push_fills : FillsView (meant push_frame) push_frame
push_fills = record { name = refl; size = refl; words = refl; first = refl; second = refl; third = refl }

push_stands : Given → StandsThere 0 (item_at 0 (record (writing role.Push 0) { register = 2 })) (node_by onward Unknown)
push_stands laws = record {
  fits = record { some = lit< tt; calls = λ c. absurd (calls_not c) };
  reads = reads_item laws push_frame (item_at 0 (record (writing role.Push 0) { register = 2 })) (node_by onward Unknown) (0x55 ∷ []) (0x48 ∷ 0x89 ∷ 0xe5 ∷ 0x5d ∷ 0xc3 ∷ []) 0 push_fills laws.steps.push_reads push_shows tt refl;
}

set_shows : IsItemOf set_frame (item_at 1 (record (writing role.Move 0) { register = 2; base = 0 })) (node_by onward Unknown)
unfolding action_of
set_shows = record {
  shows = record { effect = refl; flow = refl; supported = refl; no_padding = refl; no_data = refl };
  target = Unknown;
  node_is = refl;
}

set_fills : FillsView (meant set_frame) set_frame
set_fills = record { name = refl; size = refl; words = refl; first = refl; second = refl; third = refl }

set_stands : Given → StandsThere 1 (item_at 1 (record (writing role.Move 0) { register = 2; base = 0 })) (node_by onward Unknown)
set_stands laws = record {
  fits = record { some = lit< tt; calls = λ c. absurd (calls_not c) };
  reads = reads_item laws set_frame (item_at 1 (record (writing role.Move 0) { register = 2; base = 0 })) (node_by onward Unknown) (0x48 ∷ 0x89 ∷ 0xe5 ∷ []) (0x5d ∷ 0xc3 ∷ []) 1 set_fills laws.steps.mov_reads set_shows tt refl;
}

pop_shows : IsItemOf pop_frame (item_at 4 (record (writing role.Pop 4) { register = 2 })) (node_by onward Unknown)
unfolding action_of
pop_shows = record {
  shows = record { effect = refl; flow = refl; supported = refl; no_padding = refl; no_data = refl };
  target = Unknown;
  node_is = refl;
}

pop_fills : FillsView (meant pop_frame) pop_frame
pop_fills = record { name = refl; size = refl; words = refl; first = refl; second = refl; third = refl }

pop_stands : Given → StandsThere 2 (item_at 4 (record (writing role.Pop 4) { register = 2 })) (node_by onward Unknown)
pop_stands laws = record {
  fits = record { some = lit< tt; calls = λ c. absurd (calls_not c) };
  reads = reads_item laws pop_frame (item_at 4 (record (writing role.Pop 4) { register = 2 })) (node_by onward Unknown) (0x5d ∷ []) (0xc3 ∷ []) 4 pop_fills laws.steps.pop_reads pop_shows tt refl;
}

ret_shows : IsItemOf return (item_at 5 (writing role.Return 0)) (node_by returns Unknown)
unfolding action_of
ret_shows = record {
  shows = record { effect = refl; flow = refl; supported = refl; no_padding = refl; no_data = refl };
  target = Unknown;
  node_is = refl;
}

ret_fills : FillsView (meant return) return
ret_fills = record { name = refl; size = refl; words = refl; first = refl; second = refl; third = refl }

ret_stands : Given → StandsThere 3 (item_at 5 (writing role.Return 0)) (node_by returns Unknown)
ret_stands laws = record {
  fits = record { some = lit< tt; calls = λ c. absurd (calls_not c) };
  reads = reads_item laws return (item_at 5 (writing role.Return 0)) (node_by returns Unknown) (0xc3 ∷ []) ([]) 5 ret_fills laws.steps.ret_reads ret_shows tt refl;
}

exchanged : (i : ℕ) (x item : CodeItem) (y node : Node) → x ≡ item → y ≡ node → StandsThere i x y → StandsThere i item node
exchanged i x item y node e f h = subst (λ a. StandsThere i a node) e (subst (λ b. StandsThere i x b) f h)

stands : Given → (i : ℕ) (item : CodeItem) (node : Node) → slice_get worked_items i ≡ Some item → slice_get worked_nodes i ≡ Some node
    → StandsThere i item node
stands laws zero item node e f = exchanged 0 _ item _ node (same_Some _ item e) (same_Some _ node f) (push_stands laws)
stands laws (suc zero) item node e f = exchanged 1 _ item _ node (same_Some _ item e) (same_Some _ node f) (set_stands laws)
stands laws (suc (suc zero)) item node e f = exchanged 2 _ item _ node (same_Some _ item e) (same_Some _ node f) (pop_stands laws)
stands laws (suc (suc (suc zero))) item node e f = exchanged 3 _ item _ node (same_Some _ item e) (same_Some _ node f) (ret_stands laws)
stands laws (suc (suc (suc (suc n)))) item node e f = absurd (none-some item e)

placed : (i : ℕ) → i < 4 → worked_start (i + 1) ≡ worked_start i + size (worked_kind i)
placed zero h = refl
placed (suc zero) h = refl
placed (suc (suc zero)) h = refl
placed (suc (suc (suc zero))) h = refl
placed (suc (suc (suc (suc n)))) h = absurd (omega arith)

pub laid : Given → (distances : ℕ → Distances) (reached : ℕ → Bool) (facts : ℕ → Fact → Bool)
    → IsLaid (worked_function distances reached facts) worked_kind worked_start worked_bytes
laid laws distances reached facts = record {
  placed = placed;
  fits = λ i item node e f. (stands laws i item node e f).fits;
  reads_back = λ i item node e f. (stands laws i item node e f).reads;
}
