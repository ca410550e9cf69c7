-- A text begins on its first line.
use Rattle.std.proofs.Common.{refl, ap, subst, ◌∙◌, map}
use Rattle.asm_lines.specs.NextStatements.{IsLineCheck, in_tokens, statements_left}
use Rattle.macro_blocks.specs.declared.blocks.Ending.TheVariants as ending
use Rattle.macro_blocks.specs.Frames.{level_of}
use Rattle.macro_blocks.specs.Levels.{level_with}
use Rattle.macro_words.specs.Files.{in_file}
use Rattle.asm_lines.specs.LineNumbers.{line_of}
use Rattle.asm_macro.proofs.includes.open_file.Goals as goal

pub file-requires-clause-line : goal.file-requires-clause-line
unfolding line_of
file-requires-clause-line g c = refl

pub returns : goal.returns
returns g c =
    let level = ap level_of c.in-Ok-new.ensures ∙ c.file.ensures.level ∙ ap (λ text. level_with c.args.number ending.File (map in_tokens (statements_left c.args.file text 0))) c.in-Ok.ensures.ok in
    let whole = subst (IsLineCheck c.args.file c.args.text) c.in-Ok-None.field-0-is c.in-Ok-None.ensures in
    (_, ap in_file whole.statements, level)
