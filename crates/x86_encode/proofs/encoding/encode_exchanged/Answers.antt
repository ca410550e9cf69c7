use Rattle.std.proofs.Common.{◌∙◌, ap, option_map, sym, Err}
use Rattle.x86_insn.specs.Views.{view_of}
use Rattle.x86_encode.specs.Encoding.{made_at}
use Rattle.x86_encode.proofs.Encodings.{encoding_is}
use Rattle.x86_encode.proofs.encoding.encode_exchanged.Goals as goal

pub returns-in-None : goal.returns-in-None
returns-in-None c = encoding_is (view_of c.args.insn.now) c.args.values.now c.args.name _ c.requires.name
    (c.exchanged.ensures ∙ ap (λ o. option_map made_at o) c.in-None.is) ∙ ap (λ e. Err e) (sym c.fault_of.ensures)

pub returns-in-Some : goal.returns-in-Some
returns-in-Some c = encoding_is (view_of c.args.insn.now) c.args.values.now c.args.name _ c.requires.name
    (c.exchanged.ensures ∙ ap (λ o. option_map made_at o) c.in-Some.is)
