use Rattle.std.proofs.Common.{◌∙◌, ap, option_map, refl}
use Rattle.x86_insn.specs.Views.{view_of}
use Rattle.x86_parts.specs.Codes.{named}
use Rattle.x86_encode.specs.Encoding.{made_at, ordered_coding}
use Rattle.x86_encode.specs.Exchanges.{turned}
use Rattle.x86_encode.proofs.Coded.{back_is}
use Rattle.x86_encode.proofs.making.made_back.Goals as goal

pub returns : goal.returns
returns c =
    let due = ordered_coding (turned (named c.args.name (view_of c.args.insn.now c.args.values.now))) in
    let own = c.in-Some.own in
    back_is due own own.encoded.bytes.items c.turned_field.result c.turned_field-in-Some.result (c.made_here.ensures ∙ ap (λ o. option_map made_at o) c.in-Some.is) refl
    c.turned_field.ensures c.turned_field-in-Some.ensures
