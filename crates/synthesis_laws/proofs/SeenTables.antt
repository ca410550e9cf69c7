-- Tables and faults of items that look alike.
use Rattle.std.proofs.Common.{◌≡◌, ℕ, ◌+◌, ◌*◌, ◌<◌, ◌≤◌, ◌==◌, Option, Some, None, List, [], ◌∷◌, slice_get, refl, sym, subst, ◌∙◌}
use Rattle.std.specs.Option.{option_map}
use Rattle.asm_base.specs.declared.faults.ScfiFault.{ScfiFault}
use Rattle.code_functions.specs.declared.items.CodeItem.{CodeItem}
use Rattle.flow_graph.specs.declared.nodes.Node.{Node}
use Rattle.stack_depths.specs.Distances.{edges}
use Rattle.scfi_pass.specs.declared.rows.StackRow.{StackRow}
use Rattle.scfi_pass.specs.declared.item_ops.ItemOp.{ItemOp}
use Rattle.scfi_pass.specs.Faults.{IsSound, IsFirst}
use Rattle.scfi_pass.specs.Tables.{Analyzed, IsAnalyzed, situation, IsSoundAt, IsFaultAt, IsFirstFault, AreRowsFrom, entry_row, IsFrameTable}
use Rattle.scfi_pass.specs.Synthesis.{Analyzes}
use Rattle.synthesis_laws.specs.Sights.{sight_of, LookAlike, TablesAreSeen, FaultsAreSeen}
use Rattle.synthesis_laws.proofs.SeenItems.{alike_length, alike_at, distances_move, facts_move, alike_saves}
use Rattle.synthesis_laws.proofs.SeenFaults.{sound_here, first_there}

-- an item at whose number the same is seen
seen_there : (one other : Option CodeItem) (item : CodeItem) → option_map sight_of one ≡ option_map sight_of other → one ≡ Some item
    → (found : CodeItem) × (other ≡ Some found) × (sight_of item ≡ sight_of found)
seen_there None other item alike is = absurd (let none : ⊥ = cc in none)
seen_there (Some had) None item alike is = absurd (let none : ⊥ = cc in none)
seen_there (Some had) (Some found) item alike is = (found, refl, cc)

module _ (a : Analyzed) (other : List CodeItem) (alike : LookAlike a.items other) where
  -- the analysis with the other items
  abbrev moved : Analyzed
  moved = record a { items = other }

  -- it is one of them
  moved_analyzed : IsAnalyzed a → IsAnalyzed moved
  moved_analyzed is = record {
    distances = distances_move a.items other alike a.nodes a.distances is.distances;
    reached = is.reached;
    facts = facts_move a.items other alike a.nodes a.distances a.facts is.facts;
  }

  -- the situation at an item, where as many items are there
  sound_moved : (j : ℕ) (item found : CodeItem) (node : Node) → sight_of found ≡ sight_of item
      → IsSound (situation a j item node) → IsSound (situation moved j found node)
  sound_moved j item found node same sound =
      let As : ℕ → Type 0 = λ count. IsSound (record (situation a j item node) { last = j + 1 == count }) in
      sound_here (situation moved j found node) item same (subst As (alike_length a.items other alike) sound)

  -- an item of which no fault is told
  sound_at : (j : ℕ) → IsSoundAt a j → IsSoundAt moved j
  sound_at j sound reached found node there at =
      let had = seen_there (slice_get other j) (slice_get a.items j) found (sym (alike_at a.items other alike j)) there in
      sound_moved j had.0 found node had.2 (sound reached had.0 node had.1 at)

  -- the rows of all items
  rows_moved : (j : ℕ) (before : StackRow) (rows : List StackRow) → AreRowsFrom a j before rows → AreRowsFrom moved j before rows
  rows_moved j before [] are = are ∙ alike_length a.items other alike
  rows_moved j before (row ∷ rows) are = (are.0, rows_moved (j + 1) row rows are.1)

  -- a frame table
  table_moved : (ops : List ItemOp) → IsFrameTable a ops → IsFrameTable moved ops
  table_moved ops table = (
    λ j within. sound_at j (table.0 j (subst (λ count. j < count) (sym (alike_length a.items other alike)) within)),
    (table.1.0, rows_moved 0 entry_row table.1.0 table.1.1, table.1.2),
  )

  -- the first fault of an item
  fault_moved : (j : ℕ) (fault : ScfiFault) → IsFaultAt a j fault → IsFaultAt moved j fault
  fault_moved j fault at =
      let found = seen_there (slice_get a.items j) (slice_get other j) at.item (alike_at a.items other alike j) at.item_there in
      let As : ℕ → Type 0 = λ count. IsFirst (record (situation a j found.0 at.node) { last = j + 1 == count }) fault in
      record {
        reached = at.reached;
        item = found.0;
        node = at.node;
        item_there = found.1;
        node_there = at.node_there;
        first = subst As (alike_length a.items other alike) (first_there (situation a j at.item at.node) found.0 fault found.2 at.first);
      }

  -- the first fault of a function
  first_moved : (j : ℕ) (fault : ScfiFault) → IsFirstFault a j fault → IsFirstFault moved j fault
  first_moved j fault first = record { here = fault_moved j fault first.here; sound = λ i before. sound_at i (first.sound i before) }

-- an analysis of items that look alike
analyzes_moved : (a : Analyzed) (items other : List CodeItem) (nodes : List Node) (old new : ℕ) (alike : LookAlike items other) → Analyzes a items nodes old new
    → LookAlike a.items other → Analyzes (record a { items = other }) other nodes old new
analyzes_moved a items other nodes old new alike is own = record {
  same_items = refl;
  same_nodes = is.same_nodes;
  analyzed = moved_analyzed a other own is.analyzed;
  cost = subst (λ count. new ≤ old + (8 * edges nodes + 1) + ((count + 7) * edges nodes + 1)) (alike_saves items other alike a.distances) is.cost;
}

-- what looks like items looks like the same ones of an analysis
own_alike : (a : Analyzed) (items other : List CodeItem) → a.items ≡ items → LookAlike items other → LookAlike a.items other
own_alike a items other same alike = subst (λ x. LookAlike x other) (sym same) alike

-- a table of items that look alike
pub tables_are_seen : TablesAreSeen
tables_are_seen one other nodes old new ops alike table =
    let own = own_alike table.0 one other table.1.same_items alike in
    (record table.0 { items = other }, analyzes_moved table.0 one other nodes old new alike table.1 own, table_moved table.0 other own ops table.2)

-- a fault of items that look alike
pub faults_are_seen : FaultsAreSeen
faults_are_seen one other nodes old new fault alike is =
    let own = own_alike is.0 one other is.1.same_items alike in
    (record is.0 { items = other }, analyzes_moved is.0 one other nodes old new alike is.1 own, first_moved is.0 other own fault.item fault.fault is.2)
