-- One argument more.
use Rattle.std.proofs.Common.{rules, ◌∷◌, [], length, map, ap, sym, ◌∙◌, arith, ◌+◌}
use Rattle.std.proofs.lemmas.List.{map-append, length-map}
use Rattle.asm_base.specs.Tokens.{spelled}
use Rattle.macro_texts.specs.ParametersSeen.{parameter_seen}
use Rattle.macro_texts.specs.ArgumentsSeen.{given_seen}
use Rattle.macro_texts.proofs.ArgumentLemmas.{one_given, named_place, next_place}
use Rattle.macro_texts.proofs.arguments.push_argument.Goals as goal

pub returns-then-names_parameter-clause-read : goal.returns-then-names_parameter-clause-read
returns-then-names_parameter-clause-read c =
    let parameters = map parameter_seen c.args.parameters.now in
    let tokens = map spelled c.args.tokens.now in
    one_given parameters (map given_seen c.args.given.now.items) (map given_seen c.push.new.self.items) (given_seen c.in-Ok.one) tokens c.args.place c.passed_length-length.result (length c.args.parameters.now)
    (omega (arith, c.requires.tokens, length-map c.args.tokens.now spelled)) (search rules)
    (ap (map given_seen) (search rules) ∙ map-append given_seen c.args.given.now.items (c.in-Ok.one ∷ []))
    c.passed_length-length.ensures
    (named_place parameters c.args.place tokens (length c.args.parameters.now) (search rules) (sym (length-map c.args.parameters.now parameter_seen)))

pub returns-else-names_parameter-clause-read : goal.returns-else-names_parameter-clause-read
returns-else-names_parameter-clause-read c =
    let parameters = map parameter_seen c.args.parameters.now in
    let tokens = map spelled c.args.tokens.now in
    one_given parameters (map given_seen c.args.given.now.items) (map given_seen c.push.new.self.items) (given_seen c.in-Ok.one) tokens c.args.place c.passed_length-length.result (c.args.place + 1)
    (omega (arith, c.requires.tokens, length-map c.args.tokens.now spelled)) (search rules)
    (ap (map given_seen) (search rules) ∙ map-append given_seen c.args.given.now.items (c.in-Ok.one ∷ []))
    c.passed_length-length.ensures
    (next_place parameters c.args.place tokens (c.args.place + 1) (search rules) (omega arith))
