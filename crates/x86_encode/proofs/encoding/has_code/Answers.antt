use Rattle.std.proofs.Common.{◌∙◌, ap, option_map, sym}
use Rattle.x86_insn.specs.Views.{view_of}
use Rattle.x86_encode.specs.Encoding.{made_at}
use Rattle.x86_encode.proofs.Encodings.{is_coded_by}
use Rattle.x86_encode.proofs.encoding.has_code.Goals as goal

pub returns-in-None : goal.returns-in-None
returns-in-None c = sym (is_coded_by c.name_meant.result (view_of c.args.insn.now c.args.values.now) _ c.name_meant.ensures
    (c.made_of.ensures ∙ ap (λ o. option_map made_at o) c.in-None.is))

pub returns-in-Some : goal.returns-in-Some
returns-in-Some c = sym (is_coded_by c.name_meant.result (view_of c.args.insn.now c.args.values.now) _ c.name_meant.ensures
    (c.made_of.ensures ∙ ap (λ o. option_map made_at o) c.in-Some.is))
