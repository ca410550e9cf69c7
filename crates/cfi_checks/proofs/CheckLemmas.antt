use Rattle.std.proofs.Common.{◌≡◌, ℕ, ◌+◌, ◌<◌, ◌≤◌, ◌⊎◌, inl, inr, Bool, true, false, Option, Some, List, length, slice_get, sym, subst, ◌∙◌, arith}
use Rattle.std.proofs.lemmas.Bool.{cases_lt}
use Rattle.std.proofs.lemmas.Option.{slice_get_past}
use Rattle.cfi_rows.specs.declared.rows.Rule.{Rule}
use Rattle.cfi_rows.specs.declared.rows.Rule.TheVariants.{Unspecified, Undefined, SameValue, Offset, ValueOffset, Register}
use Rattle.code_functions.specs.declared.items.CodeItem.{CodeItem}
use Rattle.flow_graph.specs.declared.nodes.Node.{Node}
use Rattle.stack_facts.specs.Facts.{Fact, entry, slot}
use Rattle.scfi_pass.specs.Faults.{Situation}
use Rattle.scfi_pass.specs.Tables.{Analyzed, situation}
use Rattle.cfi_checks.specs.declared.rows.WrittenRow.{WrittenRow}
use Rattle.cfi_checks.specs.declared.rows.RowFrom.{RowFrom}
use Rattle.cfi_checks.specs.declared.faults.CheckFault.{CheckFault}
use Rattle.cfi_checks.specs.Rows.{rule_of, row_at}
use Rattle.cfi_checks.specs.Shown.{Shows, ShowsRegisters, modular}
use Rattle.cfi_checks.specs.Faults.{IsShown, IsFirst}
use Rattle.cfi_checks.specs.Places.{IsHeld}
use Rattle.cfi_checks.specs.Checks.{IsShownAt, IsFaultAt}

-- a register stands where its rule says by the same facts
shows_again : (one other : Fact → Bool) (r : ℕ) (rule : Rule) → ((f : Fact) → one f ≡ other f) → Shows one r rule → Shows other r rule
shows_again one other r Unspecified same h = sym (same (entry r)) ∙ h
shows_again one other r SameValue same h = sym (same (entry r)) ∙ h
shows_again one other r (Offset n) same h = sym (same (slot (modular n) r)) ∙ h
shows_again one other r Undefined same h = h
shows_again one other r (ValueOffset n) same h = h
shows_again one other r (Register q) same h = h

-- where the same facts stand, the rules are shown that were shown
pub held_rules : (a : Analyzed) (last j : ℕ) (item : CodeItem) (node : Node) (s : Situation) (row : WrittenRow) → s ≡ situation a j item node → IsHeld a last row
    → (last < length a.items) × ((f : Fact) → a.facts last f ≡ a.facts j f) → ShowsRegisters s.stands row
held_rules a last j item node s row is held same =
    let P : Situation → Type 0 = λ t. ShowsRegisters t.stands row in
    subst P (sym is) (λ r six. shows_again (a.facts last) (a.facts j) r (rule_of row r) same.1 (held same.0 r six))

-- what is there is one
same_of : {A : Type 0} (o : Option A) (x y : A) → o ≡ Some x → o ≡ Some y → x ≡ y
same_of o x y h g = cc

-- an item at which the row in force is shown
pub shown_at : (a : Analyzed) (rows : List RowFrom) (j : ℕ) (item : CodeItem) (node : Node) (s : Situation) (row : WrittenRow) → slice_get a.items j ≡ Some item
    → slice_get a.nodes j ≡ Some node → s ≡ situation a j item node → row_at rows j ≡ row → IsShown s row → IsShownAt a rows j
shown_at a rows j item node s row hi hn is force shown reached i n gi gn =
    let P : Situation → Type 0 = λ x. IsShown x (row_at rows j) in
    let Q : CodeItem → Type 0 = λ x. IsShown (situation a j x n) (row_at rows j) in
    let R : Node → Type 0 = λ x. IsShown (situation a j item x) (row_at rows j) in
    subst Q (same_of (slice_get a.items j) item i hi gi) (subst R (same_of (slice_get a.nodes j) node n hn gn) (subst P is (subst (IsShown s) (sym force) shown)))

-- its rules are held then
pub held_at : (a : Analyzed) (j : ℕ) (item : CodeItem) (node : Node) (s : Situation) (row : WrittenRow) → s ≡ situation a j item node → IsShown s row → IsHeld a j row
held_at a j item node s row is shown = λ inside. let P : Situation → Type 0 = λ x. ShowsRegisters x.stands row in subst P is shown.registers

-- a fault of an item
pub fault_there : (a : Analyzed) (rows : List RowFrom) (j : ℕ) (item : CodeItem) (node : Node) (s : Situation) (row : WrittenRow) (fault : CheckFault) → a.reached j ≡ true
    → slice_get a.items j ≡ Some item → slice_get a.nodes j ≡ Some node → s ≡ situation a j item node → row_at rows j ≡ row → IsFirst s row fault → IsFaultAt a rows j fault
fault_there a rows j item node s row fault reached hi hn is force first = record {
  reached = reached;
  item = item;
  node = node;
  item_there = hi;
  node_there = hn;
  first = let P : Situation → Type 0 = λ x. IsFirst x (row_at rows j) fault in let Q : WrittenRow → Type 0 = λ x. IsFirst s x fault in subst P is (subst Q (sym force) first);
}

-- an item to which no walk leads
pub unreached_shown : (a : Analyzed) (rows : List RowFrom) (j : ℕ) → a.reached j ≡ false → IsShownAt a rows j
unreached_shown a rows j none reached i n gi gn = cc

-- one item more
pub shows_on : (a : Analyzed) (rows : List RowFrom) (k : ℕ) → ((j : ℕ) → j < k → IsShownAt a rows j) → IsShownAt a rows k → (j : ℕ) → j < k + 1 → IsShownAt a rows j
shows_on a rows k shown here j h = by_place (cases_lt j k)
  where
    by_place : (j < k) ⊎ (k ≤ j) → IsShownAt a rows j
    by_place (inl l) = shown j l
    by_place (inr l) = let same : k ≡ j = omega arith in let P : ℕ → Type 0 = IsShownAt a rows in subst P same here

-- behind the last item there is none
pub shows_all : (a : Analyzed) (rows : List RowFrom) (k : ℕ) → length a.items ≤ k → ((j : ℕ) → j < k → IsShownAt a rows j) → (j : ℕ) → IsShownAt a rows j
shows_all a rows k all shown j = by_place (cases_lt j k)
  where
    by_place : (j < k) ⊎ (k ≤ j) → IsShownAt a rows j
    by_place (inl l) = shown j l
    by_place (inr l) = λ reached i n gi gn. let none = slice_get_past a.items j (omega arith) in absurd cc
