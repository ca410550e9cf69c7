-- What is written, and then the text of what is left.
use Rattle.std.proofs.Common.{◌≡◌, ◌++◌, ◌-◌, map, drop}
use Rattle.asm_base.specs.Tokens.{spelled}
use Rattle.macro_texts.specs.TokenTexts.{text_of, text_left}
use Rattle.macro_texts.proofs.token_texts.push_text.Given as goal

abbrev pub invariant-loop-at : goal.invariant-loop-at
invariant-loop-at l = l.text.items ++ text_left (map spelled (drop (l.at - 1) l.tokens)) ≡ l.fn.text.items ++ text_of (map spelled l.tokens)
