-- What is behind so many tokens spells what is behind so many that are spelled.
use Rattle.std.proofs.Common.{sym, ◌∙◌, map, drop, ap, length-drop, arith}
use Rattle.std.proofs.lemmas.List.{drop-map, take_all}
use Rattle.asm_base.specs.Tokens.{spelled}
use Rattle.macro_blocks.proofs.searching.behind_labels.Goals as goal

pub returns : goal.returns
returns c =
    let tokens = c.args.tokens.now in
    let n = c.labels_length.result in
    ap (map spelled) (take_all _ (drop n tokens) (omega (arith, length-drop n tokens))) ∙ sym (drop-map spelled n tokens) ∙ c.labels_length.ensures.behind
