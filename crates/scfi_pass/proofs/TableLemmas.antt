use Rattle.std.proofs.Common.{◌≡◌, ℕ, ◌+◌, ◌<◌, ◌≤◌, ◌⊎◌, inl, inr, true, false, Bool, Option, None, Some, List, [], ◌∷◌, ◌++◌, length, slice_get, Result, Ok, Err, refl, sym, ap, subst, ◌∙◌, arith}
use Rattle.std.proofs.lemmas.Bool.{cases_lt}
use Rattle.std.proofs.lemmas.List.{append_assoc}
use Rattle.asm_base.specs.declared.faults.ScfiFault.{ScfiFault}
use Rattle.cfi_rows.specs.Differences.{differences}
use Rattle.code_functions.specs.declared.items.CodeItem.{CodeItem}
use Rattle.flow_graph.specs.declared.nodes.Node.{Node}
use Rattle.stack_depths.specs.Distances.{Distances}
use Rattle.scfi_pass.specs.declared.rows.Cfa.{Cfa}
use Rattle.stack_facts.specs.Facts.{Fact, entry, slot}
use Rattle.scfi_pass.specs.declared.rows.StackRow.{StackRow}
use Rattle.scfi_pass.specs.declared.item_ops.ItemOp.{ItemOp}
use Rattle.scfi_pass.specs.Rows.{IsRow, IsRuleOf, AreRules, cfa_of, whole_row}
use Rattle.scfi_pass.specs.Changing.{told}
use Rattle.scfi_pass.specs.Faults.{Situation, IsSound, IsFirst}
use Rattle.scfi_pass.specs.Tables.{Analyzed, situation, IsSoundAt, IsFaultAt, IsNextRow, IsOwnRow, IsHeld, row_by, ops_from, entry_row, IsFrameTable}
use Rattle.scfi_pass.specs.Synthesis.{LeadsOn, Refuses, Analyzes, IsTableOf, IsFaultOf}
use Rattle.scfi_pass.specs.declared.walked.ItemFault.{ItemFault}
use Rattle.asm_base.specs.declared.refusals.Refusal.{Refusal}
use Rattle.asm_base.specs.declared.refusals.Refusal.TheVariants.{Fault, NoMemory}

-- what is there is one
same_of : {A : Type 0} (o : Option A) (x y : A) → o ≡ Some x → o ≡ Some y → x ≡ y
same_of o x y h g = cc

-- an item of which no fault is told
pub sound_at : (a : Analyzed) (j : ℕ) (item : CodeItem) (node : Node) (s : Situation) → slice_get a.items j ≡ Some item → slice_get a.nodes j ≡ Some node
    → s ≡ situation a j item node → IsSound s → IsSoundAt a j
sound_at a j item node s hi hn e sound reached i n gi gn =
    let P : Situation → Type 0 = IsSound in
    let Q : CodeItem → Type 0 = λ x. IsSound (situation a j x n) in
    let R : Node → Type 0 = λ x. IsSound (situation a j item x) in
    subst Q (same_of (slice_get a.items j) item i hi gi) (subst R (same_of (slice_get a.nodes j) node n hn gn) (subst P e sound))

-- an item to which no walk leads
pub unreached_sound : (a : Analyzed) (j : ℕ) → a.reached j ≡ false → IsSoundAt a j
unreached_sound a j none reached i n gi gn = cc

-- the row of an item by what is known there
pub row_there : (a : Analyzed) (j : ℕ) (item : CodeItem) (node : Node) (s : Situation) (row : StackRow) → s ≡ situation a j item node → IsRow s.known s.stands row
    → IsRow (a.distances j) (a.facts j) row
row_there a j item node s row e h = let P : Situation → Type 0 = λ x. IsRow x.known x.stands row in subst P e h

-- a fault of an item
pub fault_there : (a : Analyzed) (j : ℕ) (item : CodeItem) (node : Node) (s : Situation) (fault : ScfiFault) → a.reached j ≡ true → slice_get a.items j ≡ Some item
    → slice_get a.nodes j ≡ Some node → s ≡ situation a j item node → IsFirst s fault → IsFaultAt a j fault
fault_there a j item node s fault reached hi hn e first = record {
  reached = reached;
  item = item;
  node = node;
  item_there = hi;
  node_there = hn;
  first = let P : Situation → Type 0 = λ x. IsFirst x fault in subst P e first;
}

-- the row of an item to which a walk leads follows any row
pub reached_next : (a : Analyzed) (j : ℕ) (before row : StackRow) → a.reached j ≡ true → IsRow (a.distances j) (a.facts j) row → IsNextRow a j before row
reached_next a j before row reached h = (λ e. h, λ e. cc)

-- where no walk leads, the row stays
pub unreached_next : (a : Analyzed) (j : ℕ) (row : StackRow) → a.reached j ≡ false → IsNextRow a j row row
unreached_next a j row none = (λ e. cc, λ e. refl)

-- one sound item more
pub sounds_on : (a : Analyzed) (k : ℕ) → ((j : ℕ) → j < k → IsSoundAt a j) → IsSoundAt a k → (j : ℕ) → j < k + 1 → IsSoundAt a j
sounds_on a k sound here j h = by_place (cases_lt j k)
  where
    by_place : (j < k) ⊎ (k ≤ j) → IsSoundAt a j
    by_place (inl l) = sound j l
    by_place (inr l) = let same : k ≡ j = omega arith in let P : ℕ → Type 0 = IsSoundAt a in subst P same here

-- before the first item
pub leads_begin : (a : Analyzed) (ops : List ItemOp) → ops ≡ [] → LeadsOn a 0 entry_row ops
leads_begin a ops e rest rows = (rest, rows, ap (λ x. x ++ ops_from 0 entry_row rest) e)

-- one item more
pub leads_step : (a : Analyzed) (k : ℕ) (row next : StackRow) (ops more : List ItemOp) → LeadsOn a k row ops → IsNextRow a k row next
    → more ≡ ops ++ told k (differences (whole_row row) (whole_row next)) → LeadsOn a (k + 1) next more
leads_step a k row next ops more leads is e rest rows =
    let all = leads (next ∷ rest) (is, rows) in
    (all.0, all.1, ap (λ x. x ++ ops_from (k + 1) next rest) e ∙ append_assoc ops (told k (differences (whole_row row) (whole_row next))) (ops_from (k + 1) next rest) ∙ all.2)

-- nothing is put
append_none : (xs : List ItemOp) → xs ++ [] ≡ xs
append_none [] = refl
append_none (x ∷ xs) = ap (λ y. x ∷ y) (append_none xs)

-- behind the last item
pub leads_end : (a : Analyzed) (k : ℕ) (row : StackRow) (ops : List ItemOp) → k ≡ length a.items → ((j : ℕ) → j < k → IsSoundAt a j) → LeadsOn a k row ops → IsFrameTable a ops
leads_end a k row ops end sound leads =
    let all = leads [] end in
    (λ j h. sound j (let e = end in omega arith), (all.0, all.1, sym (append_none ops) ∙ all.2))

-- what was analyzed, and the first fault that was found
pub fault_of : {A : Type 0} (a : Analyzed) (items : List CodeItem) (nodes : List Node) (old new : ℕ) → Analyzes a items nodes old new
    → (result : Result A (Refusal ItemFault)) → Refuses a result → IsFaultOf items nodes old new result
fault_of a items nodes old new is (Ok made) h = tt
fault_of a items nodes old new is (Err NoMemory) h = tt
fault_of a items nodes old new is (Err (Fault f)) h = (a, is, h)

-- what was analyzed, and the frame table that was made
pub table_of : (a : Analyzed) (items : List CodeItem) (nodes : List Node) (old new : ℕ) (ops : List ItemOp) → Analyzes a items nodes old new → IsFrameTable a ops
    → IsTableOf items nodes old new ops
table_of a items nodes old new ops is h = (a, is, h)

-- the rule of a register where the same facts stand
same_rule : (one other : Fact → Bool) (r : ℕ) (n : Option ℕ) → ((f : Fact) → one f ≡ other f) → IsRuleOf one r n → IsRuleOf other r n
same_rule one other r None same h = ((λ n. sym (same (slot n r)) ∙ h.0 n), sym (same (entry r)) ∙ h.1)
same_rule one other r (Some n) same h = (sym (same (slot n r)) ∙ h.0, λ m e. h.1 m (same (slot m r) ∙ e))

-- the rules of all six
pub same_rules : (one other : Fact → Bool) (row : StackRow) → ((f : Fact) → one f ≡ other f) → AreRules one row → AreRules other row
same_rules one other row same h = record {
  rbx = same_rule one other 1 row.rbx same h.rbx;
  rbp = same_rule one other 2 row.rbp same h.rbp;
  r12 = same_rule one other 3 row.r12 same h.r12;
  r13 = same_rule one other 4 row.r13 same h.r13;
  r14 = same_rule one other 5 row.r14 same h.r14;
  r15 = same_rule one other 6 row.r15 same h.r15;
}

-- no item was gone over yet
pub none_held : (a : Analyzed) (last : ℕ) (row : StackRow) → last ≡ length a.items → IsHeld a last row
none_held a last row e = λ h. absurd (omega arith)

-- a row of a frame address and rules
row_of_rules : (known : Distances) (stands : Fact → Bool) (row : StackRow) → cfa_of known ≡ Some row.cfa → AreRules stands row → IsRow known stands row
row_of_rules known stands row cfa rules = record {
  cfa = cfa;
  rbx = rules.rbx;
  rbp = rules.rbp;
  r12 = rules.r12;
  r13 = rules.r13;
  r14 = rules.r14;
  r15 = rules.r15;
}

-- the row of an item that was looked at
pub own_row : (a : Analyzed) (j : ℕ) (item : CodeItem) (node : Node) (s : Situation) (row : StackRow) (cfa : Cfa) → s ≡ situation a j item node
    → cfa_of s.known ≡ Some cfa → row.cfa ≡ cfa → AreRules s.stands row → IsOwnRow a j row
own_row a j item node s row cfa e frame is rules =
    let P : Situation → Type 0 = λ x. AreRules x.stands row in
    let here : AreRules (a.facts j) row = subst P e rules in
    let known : cfa_of (a.distances j) ≡ Some row.cfa = ap (λ (x : Situation). cfa_of x.known) (sym e) ∙ frame ∙ ap (λ (c : Cfa). Some c) (sym is) in
    (row_of_rules (a.distances j) (a.facts j) row known here, here)

-- the rules of the row before, where the same facts stand
pub held_rules : (a : Analyzed) (last j : ℕ) (item : CodeItem) (node : Node) (s : Situation) (row : StackRow) → s ≡ situation a j item node → IsHeld a last row
    → (last < length a.items) × ((f : Fact) → a.facts last f ≡ a.facts j f) → AreRules s.stands row
held_rules a last j item node s row e held same =
    let P : Situation → Type 0 = λ x. AreRules x.stands row in
    subst P (sym e) (same_rules (a.facts last) (a.facts j) row same.1 (held same.0))

-- the row behind an item is its own
pub own_next : (a : Analyzed) (j : ℕ) (before row : StackRow) (next : Option StackRow) → a.reached j ≡ true → row ≡ row_by before next
    → IsOwnRow a j (row_by before next) → IsNextRow a j before row
own_next a j before row next reached e own = let P : StackRow → Type 0 = IsRow (a.distances j) (a.facts j) in reached_next a j before row reached (subst P (sym e) own.0)

-- and its rules are held
pub own_held : (a : Analyzed) (j : ℕ) (before row : StackRow) (next : Option StackRow) → row ≡ row_by before next → IsOwnRow a j (row_by before next) → IsHeld a j row
own_held a j before row next e own = λ h. let P : StackRow → Type 0 = AreRules (a.facts j) in subst P (sym e) own.1

-- an item whose row is the one before is behind it
pub stays_next : (a : Analyzed) (j : ℕ) (row : StackRow) → a.reached j ≡ true → IsOwnRow a j row → IsNextRow a j row row
stays_next a j row reached own = reached_next a j row row reached own.0

-- and the rules are held
pub stays_held : (a : Analyzed) (j : ℕ) (row : StackRow) → IsOwnRow a j row → IsHeld a j row
stays_held a j row own = λ h. own.1
