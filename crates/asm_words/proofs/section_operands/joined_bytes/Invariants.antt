-- The bytes so far are those of the tokens so far.
use Rattle.std.proofs.Common.{◌≡◌, map, take, flat_map}
use Rattle.asm_base.specs.Tokens.{spelled}
use Rattle.asm_words.proofs.section_operands.joined_bytes.Given as goal

abbrev pub invariant-loop-token : goal.invariant-loop-token
invariant-loop-token l =
    l.bytes.items ≡ flat_map (λ part. part.bytes) (map spelled (take l.token-index l.tokens))
