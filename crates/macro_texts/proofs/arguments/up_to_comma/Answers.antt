-- The tokens before the comma.
use Rattle.std.proofs.Common.{map, take, sym, ap, ◌∙◌}
use Rattle.std.proofs.lemmas.List.{take-map}
use Rattle.asm_base.specs.Tokens.{spelled}
use Rattle.macro_texts.proofs.arguments.up_to_comma.Goals as goal

pub returns : goal.returns
returns c =
    sym (take-map spelled c.length_to_comma.result c.args.tokens.now) ∙ ap (λ n. take n (map spelled c.args.tokens.now)) c.length_to_comma.ensures.value
