-- What synthesis answers of items that look alike.
use Rattle.std.proofs.Common.{ℕ, List, Ok, Err, subst}
use Rattle.asm_base.specs.declared.refusals.Refusal.TheVariants.{Fault, NoMemory}
use Rattle.code_functions.specs.declared.items.CodeItem.{CodeItem}
use Rattle.flow_graph.specs.declared.nodes.Node.{Node}
use Rattle.flow_graph.specs.Nodes.{nodes_of}
use Rattle.synthesis_laws.specs.OneAnswer.{Answer, IsAnswer}
use Rattle.synthesis_laws.specs.Sights.{LookAlike, AnswersAreSeen}
use Rattle.synthesis_laws.proofs.OneAnswers.{answers_are_one}
use Rattle.synthesis_laws.proofs.SeenNodes.{nodes_are_seen}
use Rattle.synthesis_laws.proofs.SeenTables.{tables_are_seen, faults_are_seen}

-- an answer of items is that of items that look alike
answer_moves : (one other : List CodeItem) (nodes : List Node) (old new : ℕ) (answer : Answer) → LookAlike one other → IsAnswer one nodes old new answer
    → IsAnswer other nodes old new answer
answer_moves one other nodes old new (Ok ops) alike is = (tables_are_seen one other nodes old new ops alike is.0, tt)
answer_moves one other nodes old new (Err (Fault fault)) alike is = (tt, faults_are_seen one other nodes old new fault alike is.1)
answer_moves one other nodes old new (Err NoMemory) alike is = (tt, tt)

-- two answers of items that look alike
pub answers_are_seen : AnswersAreSeen
answers_are_seen one other symbols section fields old new old_again new_again first again alike x y some also =
    let By : List Node → Type 0 = λ nodes. IsAnswer one nodes old new first in
    let here = subst By (nodes_are_seen one other symbols section fields alike) x in
    answers_are_one other (nodes_of symbols section fields other) old new old_again new_again first again
    (answer_moves one other (nodes_of symbols section fields other) old new first alike here) y some also
