-- The worked function has an execution through its four instructions.
use Rattle.std.proofs.Common.{◌≡◌, ◌==◌, cond, ℕ, zero, suc, ◌+◌, ◌<◌, Bool, true, false, [], ◌∷◌, slice_get, Option, Some, None, refl, sym, ap, lit<}
use Rattle.std.proofs.lemmas.Option.{none-some, same_Some}
use Rattle.insn_effects.specs.Decoding.{action_of}
use Rattle.insn_effects.specs.Followed.{Followed, followed_by}
use Rattle.code_functions.specs.declared.items.CodeItem.{CodeItem}
use Rattle.flow_graph.specs.declared.nodes.Node.{Node}
use Rattle.stack_depths.specs.Distances.{Distances}
use Rattle.stack_facts.specs.declared.values.Span.{Span}
use Rattle.stack_facts.specs.Places.{stored_by}
use Rattle.stack_facts.specs.Facts.{Fact}
use Rattle.scfi_pass.specs.Tables.{Analyzed}
use Rattle.x86_steps.specs.States.{State, IsRanged}
use Rattle.x86_steps.specs.Steps.{Does}
use Rattle.x86_steps.specs.Readings.{Reading, IsReading}
use Rattle.x86_steps.specs.WorkedSteps.{push_frame, set_frame, pop_frame, stands_at, WorkedSteps}
use Rattle.scfi_laws.specs.Executions.{KeepsUnless, KeepsAt}
use Rattle.scfi_laws.specs.Laid.{plain, Stays}
use Rattle.scfi_laws.specs.ByteExecutions.{ByteStep, at, KeepsHeld, KeptByBytes}
use Rattle.item_readings.specs.Worked.{worked_items, worked_function, worked_bytes, worked_kind, worked_start, worked_states, WorkedExecution}
use Rattle.item_readings.proofs.Laying.{Given, laid}

-- no memory is written, so that whatever has to stay stays
unless : (span : Option Span) (stand : Fact → Bool) (start : State) (i j p r b q u v : ℕ)
    → KeepsUnless span stand start (at i (stands_at p r b)) (at j (stands_at q u v))
unless None stand start i j p r b q u v = record { return_address = refl; slots = λ n r s. refl }
unless (Some span) stand start i j p r b q u v = tt

keeps : (e : Followed) (calls : Bool) (a : Analyzed) (start : State) (i j p r b q u v : ℕ) → calls ≡ false
    → KeepsAt calls e a start (at i (stands_at p r b)) (at j (stands_at q u v))
keeps e true a start i j p r b q u v h = absurd (clash h)
  where
    clash : true ≡ false → ⊥
    clash e = cc
keeps e false a start i j p r b q u v h = unless (stored_by e.stores (a.distances i)) (a.facts i) start i j p r b q u v

no_calls : (i : ℕ) (item : CodeItem) → slice_get worked_items i ≡ Some item → (followed_by item.effect).calls ≡ false
no_calls zero item e = ap (λ x. (followed_by x.effect).calls) (sym (same_Some _ item e))
no_calls (suc zero) item e = ap (λ x. (followed_by x.effect).calls) (sym (same_Some _ item e))
no_calls (suc (suc zero)) item e = ap (λ x. (followed_by x.effect).calls) (sym (same_Some _ item e))
no_calls (suc (suc (suc zero))) item e = ap (λ x. (followed_by x.effect).calls) (sym (same_Some _ item e))
no_calls (suc (suc (suc (suc n)))) item e = absurd (none-some item e)

held : (distances : ℕ → Distances) (reached : ℕ → Bool) (facts : ℕ → Fact → Bool) (start : State) (p r b q u v : ℕ)
    → KeepsHeld (worked_function distances reached facts) worked_start start (stands_at p r b) (stands_at q u v)
held distances reached facts start p r b q u v i item h there =
    keeps (followed_by item.effect) (followed_by item.effect).calls (worked_function distances reached facts) (at 0 start) i (i + 1) p r b q u v
    (no_calls i item there)

-- control stays where an item is neither a jump nor padding
stays : (i : ℕ) (node : Node) (next place : ℕ) → Stays worked_start (worked_kind i) node next place
stays i node next place = by_test (i == 1)
  where
    by_test : (b : Bool) → Stays worked_start (cond b (plain 3) (plain 1)) node next place
    by_test true = tt
    by_test false = tt

step : (distances : ℕ → Distances) (reached : ℕ → Bool) (facts : ℕ → Fact → Bool) (s t : State) (r : Reading) → IsReading worked_bytes s.place r
    → Does (action_of r.insn) (s.place + r.bytes) s t → t.place < 6 → IsRanged t
    → ByteStep (worked_function distances reached facts) worked_kind worked_start worked_bytes s t
step distances reached facts s t r h d l g = record {
  reading = r;
  reads = h;
  does = d;
  stays = λ i node k e. stays i node (s.place + r.bytes) t.place;
  inside = l;
  range = g;
}

runs : WorkedSteps → (distances : ℕ → Distances) (reached : ℕ → Bool) (facts : ℕ → Fact → Bool)
    → KeptByBytes (worked_function distances reached facts) worked_kind worked_start worked_bytes (stands_at 0 4096 0) worked_states (stands_at 5 4096 0)
runs steps distances reached facts =
    let start = stands_at 0 4096 0 in
    let push_read : IsReading worked_bytes 0 (record { bytes = 1; insn = push_frame }) =
    record { front = 0x55 ∷ []; rest = 0x48 ∷ 0x89 ∷ 0xe5 ∷ 0x5d ∷ 0xc3 ∷ []; stands = refl; reads = steps.push_reads; long = refl } in
    let set_read : IsReading worked_bytes 1 (record { bytes = 3; insn = set_frame }) =
    record { front = 0x48 ∷ 0x89 ∷ 0xe5 ∷ []; rest = 0x5d ∷ 0xc3 ∷ []; stands = refl; reads = steps.mov_reads; long = refl } in
    let pop_read : IsReading worked_bytes 4 (record { bytes = 1; insn = pop_frame }) =
    record { front = 0x5d ∷ []; rest = 0xc3 ∷ []; stands = refl; reads = steps.pop_reads; long = refl } in (
      (
        (
          refl,
          step distances reached facts start (stands_at 1 4088 0) _ push_read steps.push_does (lit< tt) steps.second,
          held distances reached facts start 0 4096 0 1 4088 0,
        ),
        step distances reached facts (stands_at 1 4088 0) (stands_at 4 4088 4088) _ set_read steps.mov_does (lit< tt) steps.third,
        held distances reached facts start 1 4088 0 4 4088 4088,
      ),
      step distances reached facts (stands_at 4 4088 4088) (stands_at 5 4096 0) _ pop_read steps.pop_does (lit< tt) steps.fourth,
      held distances reached facts start 4 4088 4088 5 4096 0,
    )

pub execution : Given → WorkedExecution
execution laws distances reached facts = record {
  laid = laid laws distances reached facts;
  begins = record { place = refl; inside = lit< tt; range = laws.steps.first };
  runs = runs laws.steps distances reached facts;
}
