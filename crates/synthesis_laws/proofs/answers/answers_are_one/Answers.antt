use Rattle.synthesis_laws.proofs.OneAnswers.{answers_are_one, tables_are_one, faults_are_one, tables_have_no_fault}
use Rattle.synthesis_laws.proofs.answers.answers_are_one.Goals as goal

-- src/answers.rt:13:1
pub returns : goal.returns
returns c = record { answers = answers_are_one; tables = tables_are_one; faults = faults_are_one; apart = tables_have_no_fault }
