-- Token by token.
use Rattle.std.proofs.Common.{◌++◌, [], map, arith}
use Rattle.asm_base.specs.Tokens.{spelled}
use Rattle.asm_base.specs.declared.tokens.TokenKind.TheVariants.{Name}
use Rattle.macro_texts.specs.TokenTexts.{text_of}
use Rattle.macro_texts.proofs.TextLemmas.{text_step, text_end}
use Rattle.macro_texts.proofs.token_texts.push_text.Goals as goal

pub loop-at-preserved : goal.loop-at-preserved
loop-at-preserved c =
    text_step c.args.tokens.now c.loop-at.at (record { kind = Name; bytes = record { ref_ptr = (0, 0); now = [] }; start = 0 }) c.loop-at.text.items c.push_behind.new.text.items (c.args.text.now.items ++ text_of (map spelled c.args.tokens.now))
    (omega arith) (omega arith) c.in_ok-push_behind.ensures c.loop-at.invariant

pub returns : goal.returns
returns c =
    text_end c.args.tokens.now c.loop-at.at c.loop-at.text.items (c.args.text.now.items ++ text_of (map spelled c.args.tokens.now)) (omega arith) (omega arith) c.loop-at.invariant
