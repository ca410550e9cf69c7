-- A frame table gives the rows of its items.
use Rattle.std.proofs.Common.{◌≡◌, ℕ, zero, suc, ◌+◌, ◌<◌, ◌≤◌, ◌++◌, nat_le, Bool, true, false, cond, Some, List, [], ◌∷◌, length, slice_get, refl, sym, ap, subst, ◌∙◌, arith}
use Rattle.std.proofs.lemmas.Bool.Decides.{nat_tests}
use Rattle.std.proofs.lemmas.List.{map-append}
use Rattle.std.proofs.lemmas.Option.{slice_get_within}
use Rattle.cfi_rows.specs.declared.rows.CfaRow.{CfaRow}
use Rattle.cfi_rows.specs.declared.rows.CfiOp.{CfiOp}
use Rattle.cfi_rows.specs.Rows.{start_rows, common_row}
use Rattle.cfi_entries.specs.Places.{Placed, row_after}
use Rattle.cfi_rows.specs.Differences.{differences}
use Rattle.cfi_entries.specs.RowLists as lists
use Rattle.cfi_entries.specs.RowLists.{RowPlace, row_at_place, at_place, Leads}
use Rattle.scfi_pass.specs.declared.rows.StackRow.{StackRow}
use Rattle.scfi_pass.specs.declared.item_ops.ItemOp.{ItemOp}
use Rattle.scfi_pass.specs.Rows.{whole_row}
use Rattle.scfi_pass.specs.Changing.{told}
use Rattle.scfi_pass.specs.Tables.{ops_from, entry_row}
use Rattle.synthesis_laws.specs.RowsInForce.{at_items, AreRising, GiveRows, TablesGiveRows}
use Rattle.synthesis_laws.proofs.SameRows.{rows_counted}
use Rattle.synthesis_laws.proofs.WrittenTables.{RowFacts}

-- rows at the addresses of their items
abbrev places : (ℕ → ℕ) → ℕ → List StackRow → List RowPlace
places address k [] = []
places address k (row ∷ rows) = (address k, whole_row row) ∷ places address (k + 1) rows

-- instructions of one item
told_at : (address : ℕ → ℕ) (k : ℕ) (ops : List CfiOp) → at_items address (told k ops) ≡ at_place (address k) ops
told_at address k [] = refl
told_at address k (op ∷ ops) = ap (λ rest. (address k, op) ∷ rest) (told_at address k ops)

-- numbers that are tested
less : (a b : ℕ) → a ≤ b → nat_le a b ≡ true
less a b low = grind (arith, nat_tests)

-- and fail
more : (a b : ℕ) → b < a → nat_le a b ≡ false
more a b high = grind (arith, nat_tests)

-- what a test chooses
chosen : {A : Type 0} (b : Bool) (x y : A) → b ≡ true → cond b x y ≡ x
chosen true x y is = refl
chosen false x y is = cc

-- and does not
passed : {A : Type 0} (b : Bool) (x y : A) → b ≡ false → cond b x y ≡ y
passed false x y is = refl
passed true x y is = cc

module _ (address : ℕ → ℕ) where
  -- the addresses of rows rise
  rising : (count here k : ℕ) (rows : List StackRow) → AreRising address count → k + length rows ≡ count → here ≤ address k
      → lists.AreRising here (places address k rows)
  rising count here k [] rise all low = tt
  rising count here k (row ∷ []) rise all low = (low, tt)
  rising count here k (row ∷ next ∷ rows) rise all low =
      (low, rising count (address k) (k + 1) (next ∷ rows) rise (omega arith) (rise k (k + 1) (omega arith) (omega arith)))

  -- the row at an address before that of the next item
  row_stays : (count at k : ℕ) (row : StackRow) (rows : List StackRow) → k + length rows ≡ count → ((later : ℕ) → k ≤ later → later < count → at < address later)
      → row_at_place at (whole_row row) (places address k rows) ≡ whole_row row
  row_stays count at k row [] all behind = refl
  row_stays count at k row (next ∷ rows) all behind =
      passed (nat_le (address k) at) _ (whole_row row) (more (address k) at (behind k (omega arith) (omega arith)))

  -- the row at an address is that of the last item up to it
  row_there : (count at k item : ℕ) (from : CfaRow) (row : StackRow) (rows : List StackRow) → AreRising address count → k + length rows ≡ count
      → slice_get rows item ≡ Some row → address (k + item) ≤ at → ((later : ℕ) → k + item < later → later < count → at < address later)
      → row_at_place at from (places address k rows) ≡ whole_row row
  row_there count at k item from row [] rise all is low behind = absurd (let none : ⊥ = cc in none)
  row_there count at k zero from row (first ∷ rows) rise all is low behind =
      let same : first ≡ row = cc in
      let here : address k ≤ at = subst (λ n. address n ≤ at) (omega arith) low in
      chosen (nat_le (address k) at) _ from (less (address k) at here)
      ∙ row_stays count at (k + 1) first rows (omega arith) (λ later high within. behind later (omega arith) within)
      ∙ ap whole_row same
  row_there count at k (suc item) from row (first ∷ rows) rise all is low behind =
      let inside : item < length rows = slice_get_within rows item row is in
      let within : k + suc item < count = omega arith in
      let first_low = rise k (k + suc item) (omega arith) within in
      let next : address (k + 1 + item) ≤ at = subst (λ n. address n ≤ at) (omega arith) low in
      chosen (nat_le (address k) at) _ from (less (address k) at (omega arith))
      ∙ row_there count at (k + 1) item (whole_row first) row rows rise (omega arith) is next (λ later high fits. behind later (omega arith) fits)

  -- the instructions lead from row to row
  led : (facts : RowFacts) (k : ℕ) (before : StackRow) (rows : List StackRow)
      → Leads common_row (whole_row before) (places address k rows) (at_items address (ops_from k before rows))
  led facts k before [] = refl
  led facts k before (row ∷ rows) =
      let from = whole_row before in
      let to = whole_row row in
      let here = differences from to in
      let rest = ops_from (k + 1) row rows in
      let parts : at_items address (told k here ++ rest) ≡ at_place (address k) here ++ at_items address rest =
      map-append (λ held. (address held.item, held.op)) (told k here) rest ∙ ap (λ ops. ops ++ at_items address rest) (told_at address k here) in
      (here, at_items address rest, parts, λ saved. facts.led common_row from to saved refl refl (facts.alike from to refl refl), led facts (k + 1) row rows)

-- what is known of rows at places
abbrev pub RowsStand : Type 0
RowsStand = (initial : CfaRow) (at : ℕ) (rows : List RowPlace) (ops : List Placed) → lists.AreRising 0 rows → Leads initial initial rows ops
    → row_after initial at ops (start_rows initial) ≡ Some (row_at_place at initial rows)

module _ (facts : RowFacts) (stand : RowsStand) where
  -- the instructions of a list of rows give each at its item
  given : (count : ℕ) (rows : List StackRow) → length rows ≡ count → GiveRows count rows (ops_from 0 entry_row rows)
  given count rows all address at item row rise last there =
      let ops = at_items address (ops_from 0 entry_row rows) in
      let From : CfaRow → Type 0 = λ begin. Leads common_row begin (places address 0 rows) ops in
      let leads : Leads common_row common_row (places address 0 rows) ops = subst From facts.begin (led address facts 0 entry_row rows) in
      let low : address (0 + item) ≤ at = subst (λ n. address n ≤ at) (omega arith) last.before in
      stand common_row at (places address 0 rows) ops (rising address count 0 0 rows rise (omega arith) (omega arith)) leads
      ∙ ap Some (row_there address count at 0 item common_row row rows rise (omega arith) there low (λ later high within. last.behind later (omega arith) within))

  -- a frame table gives its rows
  pub tables_give_rows : TablesGiveRows
  tables_give_rows items nodes old new ops table =
      let a = table.0 in
      let rows = table.2.1 in
      let all = rows_counted a table.1.analyzed 0 entry_row rows.0 rows.1 in
      let count : length rows.0 ≡ length items = let same = ap length table.1.same_items in omega arith in
      let Give : List ItemOp → Type 0 = GiveRows (length items) rows.0 in
      record { function = a; rows = rows.0; analyzes = table.1; are = rows.1; given = subst Give (sym rows.2) (given (length items) rows.0 count) }
