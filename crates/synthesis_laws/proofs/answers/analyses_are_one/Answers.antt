use Rattle.synthesis_laws.proofs.SameAnalyses.{same_analyses}
use Rattle.synthesis_laws.proofs.OneAnswers.{rows_are_one}
use Rattle.synthesis_laws.proofs.answers.analyses_are_one.Goals as goal

-- src/answers.rt:7:1
pub returns : goal.returns
returns c = record { analyses = same_analyses; rows = rows_are_one }
