-- The frame tables of synthesized functions recover the caller.
use Rattle.std.proofs.Common.{◌≡◌, ◌+◌, ◌-◌, ◌<◌, ℕ, zero, suc, true, List, [], ◌∷◌, length, Some, IsSomeAnd, slice_get, refl, sym, ap, subst, ◌∙◌, arith}
use Rattle.asm_base.specs.declared.faults.ScfiFault.{ScfiFault}
use Rattle.asm_base.specs.declared.faults.ScfiFault.TheVariants as scfi
use Rattle.asm_base.specs.declared.places.SectionPlace.{SectionPlace}
use Rattle.cfi_directives.specs.declared.frames.Frame.{Frame}
use Rattle.cfi_directives.specs.Meant.{from_start, stop_of, row_meant}
use Rattle.code_functions.specs.declared.items.CodeItem.{CodeItem}
use Rattle.code_functions.specs.Recorded.{Recorded}
use Rattle.scfi_pass.specs.declared.rows.StackRow.{StackRow}
use Rattle.scfi_pass.specs.declared.item_ops.ItemOp.{ItemOp}
use Rattle.scfi_pass.specs.Rows.{IsRow, whole_row}
use Rattle.scfi_pass.specs.Tables.{Analyzed, IsSoundAt, AreRowsFrom, entry_row}
use Rattle.synthesis_laws.specs.OneAnswer.{AnalysesAreOne}
use Rattle.synthesis_laws.specs.RowsInForce.{IsLastUpTo}
use Rattle.synthesis_laws.specs.MeantRows.{item_distance, TableFramesMeanRows}
use Rattle.x86_steps.specs.States.{State}
use Rattle.scfi_laws.specs.Functions.{IsAbsent, AreTraced, AreRestored}
use Rattle.scfi_laws.specs.Recovering.{Recovers, IsSupported}
use Rattle.scfi_laws.specs.ItemLaws.{passed}
use Rattle.scfi_laws.specs.Laid.{Kind}
use Rattle.scfi_laws.specs.ByteExecutions.{at, KeptByBytes, IsEntry, Stands}
use Rattle.scfi_laws.specs.TableLaws.{IsTabled, TablesRecover, TablesRestore}
use Rattle.scfi_laws.proofs.Elements.{within}
use Rattle.scfi_laws.proofs.DistanceLemmas.{walked}
use Rattle.scfi_laws.proofs.Supporting.{rows_are_supported}
use Rattle.scfi_laws.proofs.Rising.{rises, one_holds}
use Rattle.scfi_laws.proofs.Joining.{begins, bytes_are_items}
use Rattle.scfi_laws.proofs.BytesRecovering.{rows_recover_in_bytes, exits_restore_in_bytes}

-- where no item has a fault, each is absent
absent : (a : Analyzed) → ((j : ℕ) → j < length a.items → IsSoundAt a j) → (fault : ScfiFault) → IsAbsent a fault
absent a sound fault j item node reached there known has = sound j (within a.items j item there) reached item node there known fault has

-- each item has a row: its own, where a walk leads to it
record HasRow (a : Analyzed) (rows : List StackRow) (k j : ℕ) : Type 0 where
  row : StackRow
  there : slice_get rows j ≡ Some row
  own : a.reached (k + j) ≡ true → IsRow (a.distances (k + j)) (a.facts (k + j)) row

row_of : (a : Analyzed) (rows : List StackRow) (k j : ℕ) (before : StackRow) → AreRowsFrom a k before rows → k + j < length a.items → HasRow a rows k j
row_of a [] k j before are low = absurd (let none : ⊥ = omega arith in none)
row_of a (row ∷ rows) k zero before are low =
    let same : k ≡ k + zero = omega arith in
    record { row = row; there = refl; own = λ reached. subst (λ i. IsRow (a.distances i) (a.facts i) row) same (are.0.0 (ap a.reached same ∙ reached)) }
row_of a (row ∷ rows) k (suc j) before are low =
    let more = row_of a rows (k + 1) j row are.1 (omega arith) in
    let same : k + 1 + j ≡ k + suc j = omega arith in
    record {
      row = more.row;
      there = more.there;
      own = λ reached. subst (λ i. IsRow (a.distances i) (a.facts i) more.row) same (more.own (ap a.reached same ∙ reached));
    }

module _ (one : AnalysesAreOne) (means : TableFramesMeanRows) (f : Recorded CodeItem) (a : Analyzed) (ops : List ItemOp) (frame : Frame) (address : SectionPlace → ℕ) (kinds : ℕ → Kind)
    (starts : ℕ → ℕ) (code : List ℕ) (start : State) (earlier : List State) (now : State) (t : IsTabled f a ops frame address kinds starts code) (entry : IsEntry a starts start)
    (e : KeptByBytes a kinds starts code start earlier now) where
  -- the function has no fault
  sound : (j : ℕ) → j < length a.items → IsSoundAt a j
  sound =
      let own : t.table.0 ≡ a = one t.table.0 a (t.table.1.same_items ∙ sym t.same_items) t.table.1.same_nodes t.table.1.analyzed t.function.analyzed in
      subst (λ b. (j : ℕ) → j < length b.items → IsSoundAt b j) own t.table.2.0

  traced : AreTraced a
  traced = record { jumps = absent a sound scfi.UntraceableJump; instructions = absent a sound scfi.NotInstructions; uses = absent a sound scfi.UnsupportedStackUse }

  restored : AreRestored a
  restored = record { stack = λ distance. absent a sound (scfi.StackNotRestored distance); registers = λ register. absent a sound (scfi.RegisterNotRestored register) }

  -- the item that holds the place
  stands : Stands a starts start now
  stands = bytes_are_items a kinds starts code start earlier now t.function traced t.laid entry e

  reached : a.reached stands.number ≡ true
  reached =
      let begun = begins a starts start t.function entry in
      (t.function.analyzed.reached stands.number).1 (passed stands.earlier, walked a (at 0 start) begun stands.earlier (at stands.number stands.core) stands.execution)

  same_count : length a.items ≡ length f.items
  same_count = ap length t.same_items

  -- how far an item stands from the beginning
  far : (i : ℕ) → i < length a.items → item_distance address f frame i ≡ starts i - starts 0
  far i low = let x = t.stands.items i (let many = same_count in omega arith) in let z = t.stands.begins in omega arith

  -- it is the last item up to the place
  last : IsLastUpTo (item_distance address f frame) (length f.items) (now.place - starts 0) stands.number
  last =
      let h = stands.holds in
      record {
        before = let d = far stands.number h.inside in let b = h.begins in omega arith;
        behind = λ later after low.
            let many = same_count in
            let d = far later (omega arith) in
            let z = rises a kinds starts code t.laid 0 stands.number (omega arith) (let p = h.inside in omega arith) in
            let up = rises a kinds starts code t.laid (stands.number + 1) later (omega arith) (omega arith) in
            let b = h.begins in
            let u = h.ends in
            omega arith;
      }

  -- the place is before the end
  before_end : now.place - starts 0 < from_start address frame (stop_of frame)
  before_end =
      let h = stands.holds in
      let many = same_count in
      let stop = t.stands.ends in
      let first = t.stands.begins in
      let end : starts (length a.items) ≡ starts (length f.items) = ap starts many in
      let z = rises a kinds starts code t.laid 0 stands.number (omega arith) (let p = h.inside in omega arith) in
      let up = rises a kinds starts code t.laid (stands.number + 1) (length a.items) (let p = h.inside in omega arith) (omega arith) in
      let b = h.begins in
      let u = h.ends in
      omega arith

  recovered : IsSomeAnd (row_meant address frame (now.place - starts 0)) (λ row. Recovers row now start)
  recovered =
      let m = means address f frame a.nodes t.old t.new ops t.keeps_order t.in_order t.table t.frame_of in
      let own : m.function ≡ a = one m.function a (m.analyzes.same_items ∙ sym t.same_items) m.analyzes.same_nodes m.analyzes.analyzed t.function.analyzed in
      let rows_are = subst (λ b. AreRowsFrom b 0 entry_row m.rows) own m.are in
      let same : 0 + stands.number ≡ stands.number = omega arith in
      let low = stands.holds.inside in
      let has = row_of a m.rows 0 stands.number entry_row rows_are (omega arith) in
      let own_row = subst (λ i. IsRow (a.distances i) (a.facts i) has.row) same (has.own (ap a.reached same ∙ reached)) in
      let meant = m.meant (now.place - starts 0) stands.number has.row last has.there before_end in
      let supported : IsSupported (a.distances stands.number) (a.facts stands.number) (whole_row has.row) = rows_are_supported a stands.number has.row t.function.analyzed own_row in
      let back = rows_recover_in_bytes a kinds starts code start earlier now t.function traced t.laid entry e (absent a sound scfi.ReturnAddressOverwritten) (whole_row has.row)
      (λ j h. subst (λ k. IsSupported (a.distances k) (a.facts k) (whole_row has.row)) (sym (one_holds a kinds starts code t.laid stands.number j now.place stands.holds h)) supported) in
      subst (λ x. IsSomeAnd x (λ row. Recovers row now start)) (sym meant) back

pub tables_recover : AnalysesAreOne → TableFramesMeanRows → TablesRecover
tables_recover one means f a ops frame address kinds starts code start earlier now t entry e = recovered one means f a ops frame address kinds starts code start earlier now t entry e

pub tables_restore : AnalysesAreOne → TableFramesMeanRows → TablesRestore
tables_restore one means f a ops frame address kinds starts code start earlier now t entry e i node holds there exits =
    exits_restore_in_bytes a kinds starts code start earlier now t.function (traced one means f a ops frame address kinds starts code start earlier now t entry e) t.laid entry e
    (restored one means f a ops frame address kinds starts code start earlier now t entry e) i node holds there exits
