use Rattle.std.proofs.Common.{map, arith}
use Rattle.std.proofs.lemmas.List.{length-map}
use Rattle.asm_base.specs.Tokens.{spelled}
use Rattle.att_operands.proofs.SuffixLemmas.{moved_gives, moved_fails}
use Rattle.att_operands.proofs.values.moved_amount.Goals as goal

pub returns-in-Ok-clause-value : goal.returns-in-Ok-clause-value
returns-in-Ok-clause-value c =
    λ all left lengths. moved_gives c.read_is_written.ensures (map spelled c.args.list.now) all c.args.at _ left (let same = length-map c.args.list.now spelled in omega arith) c.in-Ok.ensures.value

pub returns-in-Err-clause-value : goal.returns-in-Err-clause-value
returns-in-Err-clause-value c = λ all left lengths. moved_fails (map spelled c.args.list.now) all c.args.at c.in-Err.refusal left c.in-Err.ensures.value
