-- One value more.
use Rattle.std.proofs.Common.{rules, ◌∷◌, [], map, ap, ◌∙◌, arith}
use Rattle.std.proofs.lemmas.List.{map-append, length-map}
use Rattle.asm_base.specs.Tokens.{spelled}
use Rattle.macro_texts.specs.RepeatsSeen.{texts}
use Rattle.macro_texts.proofs.RepeatLemmas.{value_read}
use Rattle.macro_texts.proofs.repeats.push_first_value.Goals as goal

pub returns : goal.returns
returns c =
    value_read (texts c.args.values.now.items) (texts c.push.new.self.items) c.in_ok-value.value.items (map spelled c.args.tokens.now) c.passed_length.result
    (omega (arith, c.requires, length-map c.args.tokens.now spelled)) c.in_ok-value.ensures
    (ap texts (search rules) ∙ map-append (λ value. value.items) c.args.values.now.items (c.in_ok-value.value ∷ []))
    c.passed_length.ensures
