-- The parts of tokens spell the parts of what these spell.
use Rattle.std.proofs.Common.{take, drop, map, sym, ap, ◌∙◌}
use Rattle.std.proofs.lemmas.List.{take-map, drop-map, take_rest}
use Rattle.asm_base.specs.Tokens.{spelled}
use Rattle.asm_line_tables.proofs.parts.cut.Goals as goal

pub returns-clause-front : goal.returns-clause-front
returns-clause-front c =
    sym (take-map spelled _ c.args.tokens.now) ∙ ap (λ n. take n (map spelled c.args.tokens.now)) c.front_length-length.ensures.value

pub returns-clause-behind : goal.returns-clause-behind
returns-clause-behind c =
    ap (map spelled) (take_rest c.args.tokens.now c.front_length-length.result)
    ∙ sym (drop-map spelled _ c.args.tokens.now) ∙ ap (λ n. drop n (map spelled c.args.tokens.now)) c.front_length-length.ensures.value
