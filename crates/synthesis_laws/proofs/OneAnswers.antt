-- What synthesis answers is one answer.
use Rattle.std.proofs.Common.{◌≡◌, ℕ, List, Ok, Err, refl, sym, ap, subst, ◌∙◌}
use Rattle.std.proofs.lemmas.Option.{slice_get_within}
use Rattle.asm_base.specs.declared.refusals.Refusal.TheVariants.{Fault, NoMemory}
use Rattle.code_functions.specs.declared.items.CodeItem.{CodeItem}
use Rattle.flow_graph.specs.declared.nodes.Node.{Node}
use Rattle.scfi_pass.specs.declared.item_ops.ItemOp.{ItemOp}
use Rattle.scfi_pass.specs.Tables.{Analyzed, IsAnalyzed, IsFrameTable, IsFirstFault, entry_row, ops_from}
use Rattle.scfi_pass.specs.Synthesis.{Analyzes}
use Rattle.synthesis_laws.specs.OneAnswer.{AnswersAreOne, RowsAreOne, TablesAreOne, FaultsAreOne, TablesHaveNoFault}
use Rattle.synthesis_laws.proofs.SameAnalyses.{same_analyses}
use Rattle.synthesis_laws.proofs.SameRows.{same_rows}
use Rattle.synthesis_laws.proofs.SameFaults.{no_fault, same_faults}

-- two analyses of one function
same_analysis : (items : List CodeItem) (nodes : List Node) (old new old_again new_again : ℕ) (a b : Analyzed)
    → Analyzes a items nodes old new → Analyzes b items nodes old_again new_again → b ≡ a
same_analysis items nodes old new old_again new_again a b x y =
    same_analyses b a (y.same_items ∙ sym x.same_items) (y.same_nodes ∙ sym x.same_nodes) y.analyzed x.analyzed

-- two lists of rows of one analysis
pub rows_are_one : RowsAreOne
rows_are_one a one other is x y = same_rows a is 0 entry_row one other x y

-- two tables of one analysis
same_tables : (a : Analyzed) → IsAnalyzed a → (one other : List ItemOp) → IsFrameTable a one → IsFrameTable a other → one ≡ other
same_tables a is one other x y =
    x.1.2 ∙ ap (ops_from 0 entry_row) (same_rows a is 0 entry_row x.1.0 y.1.0 x.1.1 y.1.1) ∙ sym y.1.2

-- two tables of one function
pub tables_are_one : TablesAreOne
tables_are_one items nodes old new old_again new_again one other x y =
    let Of : Analyzed → Type 0 = λ a. IsFrameTable a other in
    let same = same_analysis items nodes old new old_again new_again x.0 y.0 x.1 y.1 in
    same_tables x.0 x.1.analyzed one other x.2 (subst Of same y.2)

-- two faults of one function
pub faults_are_one : FaultsAreOne
faults_are_one items nodes old new old_again new_again one other x y =
    let Of : Analyzed → Type 0 = λ a. IsFirstFault a other.item other.fault in
    let same = same_analysis items nodes old new old_again new_again x.0 y.0 x.1 y.1 in
    let both = same_faults x.0 one.item other.item one.fault other.fault x.2 (subst Of same y.2) in
    ap (λ item. record one { item = item }) both.0 ∙ ap (λ fault. record other { fault = fault }) both.1

-- a table and a fault of one function
pub tables_have_no_fault : TablesHaveNoFault
tables_have_no_fault items nodes old new old_again new_again ops fault x y =
    let Of : Analyzed → Type 0 = λ a. IsFirstFault a fault.item fault.fault in
    let same = same_analysis items nodes old new old_again new_again x.0 y.0 x.1 y.1 in
    let first : IsFirstFault x.0 fault.item fault.fault = subst Of same y.2 in
    no_fault x.0 fault.item fault.fault (x.2.0 fault.item (slice_get_within x.0.items fault.item first.here.item first.here.item_there)) first.here

-- two answers of one function
pub answers_are_one : AnswersAreOne
answers_are_one items nodes old new old_again new_again (Ok one) (Ok other) x y some also =
    ap Ok (tables_are_one items nodes old new old_again new_again one other x.0 y.0)
answers_are_one items nodes old new old_again new_again (Err (Fault one)) (Err (Fault other)) x y some also =
    ap (λ fault. Err (Fault fault)) (faults_are_one items nodes old new old_again new_again one other x.1 y.1)
answers_are_one items nodes old new old_again new_again (Ok one) (Err (Fault other)) x y some also =
    absurd (tables_have_no_fault items nodes old new old_again new_again one other x.0 y.1)
answers_are_one items nodes old new old_again new_again (Err (Fault one)) (Ok other) x y some also =
    absurd (tables_have_no_fault items nodes old_again new_again old new other one y.0 x.1)
answers_are_one items nodes old new old_again new_again (Err NoMemory) other x y some also = absurd (some refl)
answers_are_one items nodes old new old_again new_again (Ok one) (Err NoMemory) x y some also = absurd (also refl)
answers_are_one items nodes old new old_again new_again (Err (Fault one)) (Err NoMemory) x y some also = absurd (also refl)
