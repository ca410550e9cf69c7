-- Memory at a base, at a place.
use Rattle.intel_operands.proofs.UsualMemory.{moved_on}
use Rattle.intel_operands.proofs.usual.whole_memory.Goals as goal

pub returns-in-Some-clause-value : goal.returns-in-Some-clause-value
returns-in-Some-clause-value c = λ branch. moved_on branch c.args.tokens.now c.from_place-behind.result.now c.args.at c.in-Some.field-0 c.from_place-behind.ensures.value (c.in-Some.ensures.value branch)
