use Rattle.synthesis_laws.proofs.SomeAnswers.{functions_have_answers}
use Rattle.synthesis_laws.proofs.answers.functions_have_answers.Goals as goal

-- src/answers.rt:15:1
pub returns : goal.returns
returns c = functions_have_answers
