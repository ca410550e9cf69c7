-- One parameter more, or its fault.
use Rattle.std.proofs.Common.{rules, ◌∷◌, [], map, ap, ◌∙◌}
use Rattle.std.proofs.lemmas.List.{map-append}
use Rattle.macro_texts.specs.ParametersSeen.{parameter_seen}
use Rattle.macro_texts.proofs.ParameterLemmas.{one_read, none_read}
use Rattle.macro_texts.proofs.parameters.push_first.Goals as goal

pub returns-in-Err : goal.returns-in-Err
returns-in-Err c =
    none_read (map parameter_seen c.args.parameters.now.items) c.args.tokens.now c.part_length-length.result c.in-Err.refusal c.requires c.part_length-length.ensures.value c.in-Err.ensures

pub returns-in_ok-push-in-Ok : goal.returns-in_ok-push-in-Ok
returns-in_ok-push-in-Ok c =
    one_read (map parameter_seen c.args.parameters.now.items) (map parameter_seen c.push.new.self.items) (parameter_seen c.in-Ok.parameter) c.args.tokens.now c.part_length-length.result c.requires c.part_length-length.ensures.value c.in-Ok.ensures
    (ap (map parameter_seen) (search rules) ∙ map-append parameter_seen c.args.parameters.now.items (c.in-Ok.parameter ∷ []))
