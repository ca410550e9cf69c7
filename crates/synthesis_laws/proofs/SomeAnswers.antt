-- An analyzed function has a frame table or a first fault.
use Rattle.std.proofs.Common.{◌≡◌, ◌+◌, ◌<◌, ◌⊎◌, inl, inr, ℕ, zero, suc, Bool, true, false, Option, Some, None, List, [], ◌∷◌, length, slice_get, refl, subst, arith}
use Rattle.std.proofs.lemmas.Bool.{cases_Bool}
use Rattle.asm_base.specs.declared.faults.ScfiFault.{ScfiFault}
use Rattle.asm_base.specs.declared.faults.ScfiFault.TheVariants as scfi
use Rattle.asm_base.specs.declared.faults.SavedRegister.{SavedRegister}
use Rattle.code_functions.specs.declared.items.CodeItem.{CodeItem}
use Rattle.flow_graph.specs.declared.nodes.Node.{Node}
use Rattle.stack_facts.specs.Places.{is_saved}
use Rattle.scfi_pass.specs.declared.rows.Cfa.{Cfa}
use Rattle.scfi_pass.specs.declared.rows.StackRow.{StackRow}
use Rattle.scfi_pass.specs.declared.item_ops.ItemOp.{ItemOp}
use Rattle.scfi_pass.specs.Registers.{number_of}
use Rattle.scfi_pass.specs.Rows.{cfa_of, IsRuleOf, IsRow}
use Rattle.scfi_pass.specs.Faults.{Situation, IsLost, IsFirstOf, IsSound, IsFirst}
use Rattle.scfi_pass.specs.Tables.{Analyzed, IsAnalyzed, situation, IsSoundAt, IsFaultAt, IsFirstFault, IsNextRow, AreRowsFrom, ops_from, entry_row, IsFrameTable}
use Rattle.synthesis_laws.specs.SomeAnswer.{FunctionsHaveAnswers}
use Rattle.synthesis_laws.proofs.SameRows.{ArePlaced, placed_at}
use Rattle.synthesis_laws.proofs.SameFaults.{no_fault}
use Rattle.synthesis_laws.proofs.Elements.{element}
use Rattle.synthesis_laws.proofs.Decided.{Decided, first_below}
use Rattle.synthesis_laws.proofs.SomeRules.{rule_or_lost, first_of_six}
use Rattle.synthesis_laws.proofs.SomeFault as some
use Rattle.synthesis_laws.proofs.SomeSituation.{fault_or_sound}

module _ (s : Situation) (placed : ArePlaced s.stands) (sound : IsSound s) where
  -- the frame address is known
  cfa_there : (found : Option Cfa) → cfa_of s.known ≡ found → (cfa : Cfa) × (cfa_of s.known ≡ Some cfa)
  cfa_there None is = absurd (sound scfi.FrameLost is)
  cfa_there (Some cfa) is = (cfa, is)

  -- and each of the six has a rule
  rule_there : (q : ℕ) → is_saved q ≡ true → (rule : Option ℕ) × IsRuleOf s.stands q rule
  rule_there q saved = by (rule_or_lost s.stands q placed) (first_of_six (IsLost s.stands) (some.is_lost s placed))
    where
      by : ((rule : Option ℕ) × IsRuleOf s.stands q rule) ⊎ IsLost s.stands q
          → ((r : SavedRegister) × IsFirstOf (IsLost s.stands) (number_of r)) ⊎ ((p : ℕ) → is_saved p ≡ true → IsLost s.stands p → ⊥)
          → (rule : Option ℕ) × IsRuleOf s.stands q rule
      by (inl rule) first = rule
      by (inr lost) (inl first) = absurd (sound (scfi.RegisterLost first.0) first.1)
      by (inr lost) (inr none) = absurd (none q saved lost)

  -- so there is a row
  row_there : (row : StackRow) × IsRow s.known s.stands row
  row_there =
      let cfa = cfa_there (cfa_of s.known) refl in
      let rbx = rule_there 1 refl in
      let rbp = rule_there 2 refl in
      let r12 = rule_there 3 refl in
      let r13 = rule_there 4 refl in
      let r14 = rule_there 5 refl in
      let r15 = rule_there 6 refl in (
        record { cfa = cfa.0; rbx = rbx.0; rbp = rbp.0; r12 = r12.0; r13 = r13.0; r14 = r14.0; r15 = r15.0 },
        record { cfa = cfa.1; rbx = rbx.1; rbp = rbp.1; r12 = r12.1; r13 = r13.1; r14 = r14.1; r15 = r15.1 },
      )

module _ (a : Analyzed) (is : IsAnalyzed a) (same : length a.items ≡ length a.nodes) where
  -- each item is sound
  abbrev AllSound : Type 0
  AllSound = (j : ℕ) → j < length a.items → IsSoundAt a j

  -- a row behind another
  next_there : AllSound → (j : ℕ) (before : StackRow) → j < length a.items → (row : StackRow) × IsNextRow a j before row
  next_there sound j before within = by (cases_Bool (a.reached j))
    where
      never : (b : Bool) → b ≡ true → b ≡ false → ⊥
      never b x y = cc

      own : a.reached j ≡ true → (row : StackRow) × IsRow (a.distances j) (a.facts j) row
      own reached =
          let item = element a.items j within in
          let node = element a.nodes j (omega arith) in
          row_there (situation a j item.0 node.0) (placed_at a is j) (sound j within reached item.0 node.0 item.1 node.1)

      by : (a.reached j ≡ true) ⊎ (a.reached j ≡ false) → (row : StackRow) × IsNextRow a j before row
      by (inl reached) = let row = own reached in (row.0, (λ r. row.1, λ none. absurd (never (a.reached j) reached none)))
      by (inr none) = (before, (λ r. absurd (never (a.reached j) r none), λ x. refl))

  -- the rows of so many items that are left
  rows_there : AllSound → (count j : ℕ) (before : StackRow) → j + count ≡ length a.items → (rows : List StackRow) × AreRowsFrom a j before rows
  rows_there sound zero j before all = ([], (let e : j ≡ length a.items = omega arith in e))
  rows_there sound (suc count) j before all =
      let row = next_there sound j before (omega arith) in
      let rest = rows_there sound count (j + 1) row.0 (omega arith) in
      (row.0 ∷ rest.0, (row.1, rest.1))

  -- where each item is sound there is a frame table
  table_there : AllSound → (ops : List ItemOp) × IsFrameTable a ops
  table_there sound =
      let rows = rows_there sound (length a.items) 0 entry_row (omega arith) in
      (ops_from 0 entry_row rows.0, (sound, (rows.0, rows.1, refl)))

  -- an item has a fault
  abbrev HasFault : ℕ → Type 0
  HasFault j = (fault : ScfiFault) × IsFaultAt a j fault

  -- it has one, or is sound
  fault_or_sound_at : (j : ℕ) → HasFault j ⊎ IsSoundAt a j
  fault_or_sound_at j = by (a.reached j) refl (slice_get a.items j) refl (slice_get a.nodes j) refl
    where
      sure : (item : CodeItem) (node : Node) → slice_get a.items j ≡ Some item → slice_get a.nodes j ≡ Some node
          → IsSound (situation a j item node) → IsSoundAt a j
      sure item node at there sound reached i n gi gn =
          let one : item ≡ i = cc in
          let two : node ≡ n = cc in
          let Of : CodeItem → Type 0 = λ x. IsSound (situation a j x node) in
          let By : Node → Type 0 = λ x. IsSound (situation a j i x) in
          subst By two (subst Of one sound)

      found : (item : CodeItem) (node : Node) → a.reached j ≡ true → slice_get a.items j ≡ Some item → slice_get a.nodes j ≡ Some node
          → ((fault : ScfiFault) × IsFirst (situation a j item node) fault) ⊎ IsSound (situation a j item node) → HasFault j ⊎ IsSoundAt a j
      found item node reached at there (inl first) =
          inl (first.0, record { reached = reached; item = item; node = node; item_there = at; node_there = there; first = first.1 })
      found item node reached at there (inr sound) = inr (sure item node at there sound)

      by : (b : Bool) → a.reached j ≡ b → (o : Option CodeItem) → slice_get a.items j ≡ o → (n : Option Node) → slice_get a.nodes j ≡ n → HasFault j ⊎ IsSoundAt a j
      by false none o at n there = inr (λ reached i m gi gm. absurd (let never : ⊥ = cc in never))
      by true reached None at n there = inr (λ r i m gi gm. absurd (let never : ⊥ = cc in never))
      by true reached (Some item) at None there = inr (λ r i m gi gm. absurd (let never : ⊥ = cc in never))
      by true reached (Some item) at (Some node) there = found item node reached at there (fault_or_sound (situation a j item node) (placed_at a is j))

  -- so it is decided
  is_faulty : (j : ℕ) → Decided (HasFault j)
  is_faulty j = by (fault_or_sound_at j)
    where
      by : HasFault j ⊎ IsSoundAt a j → Decided (HasFault j)
      by (inl has) = inl has
      by (inr sound) = inr (λ has. no_fault a j has.0 sound has.1)

  -- an item without a fault is sound
  sound_else : (j : ℕ) → (HasFault j → ⊥) → IsSoundAt a j
  sound_else j never = by (fault_or_sound_at j)
    where
      by : HasFault j ⊎ IsSoundAt a j → IsSoundAt a j
      by (inl has) = absurd (never has)
      by (inr sound) = sound

  -- the function has an answer
  answer_there : ((ops : List ItemOp) × IsFrameTable a ops) ⊎ ((item : ℕ) × (fault : ScfiFault) × IsFirstFault a item fault)
  answer_there = by (first_below HasFault is_faulty (length a.items))
    where
      by : ((n : ℕ) × (n < length a.items) × HasFault n × ((m : ℕ) → m < n → HasFault m → ⊥)) ⊎ ((n : ℕ) → n < length a.items → HasFault n → ⊥)
          → ((ops : List ItemOp) × IsFrameTable a ops) ⊎ ((item : ℕ) × (fault : ScfiFault) × IsFirstFault a item fault)
      by (inl found) = inr (found.0, found.2.0, record { here = found.2.1; sound = λ i before. sound_else i (found.3 i before) })
      by (inr none) = inl (table_there (λ j within. sound_else j (none j within)))

-- each analyzed function has one
pub functions_have_answers : FunctionsHaveAnswers
functions_have_answers a is same = answer_there a is same
