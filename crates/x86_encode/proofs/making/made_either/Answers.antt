use Rattle.std.proofs.Common.{◌∙◌, option_map, sym, subst}
use Rattle.x86_insn.specs.Views.{view_of}
use Rattle.x86_parts.specs.Codes.{named}
use Rattle.x86_encode.specs.Encoding.{ordered_coding, turned_coding, MakesAs}
use Rattle.x86_encode.specs.Exchanges.{turned}
use Rattle.x86_encode.proofs.Coded.{either_none, either_one, either_two}
use Rattle.x86_encode.proofs.making.made_either.Goals as goal

pub returns-in-None : goal.returns-in-None
returns-in-None c =
    let view = named c.args.name (view_of c.args.insn.now c.args.values.now) in
    let one = subst (λ m. MakesAs m (ordered_coding view)) c.in-None.is c.made_here.ensures in
    either_none view c.made_back-back.result c.requires.own c.requires.other one c.made_back-back.ensures

pub returns-in-None-back : goal.returns-in-None-back
returns-in-None-back c =
    let view = named c.args.name (view_of c.args.insn.now c.args.values.now) in
    let one = subst (λ m. MakesAs m (ordered_coding view)) c.in-Some.is c.made_here.ensures in
    let two = subst (λ m. MakesAs m (option_map turned_coding (ordered_coding (turned view)))) c.in-None-back.is c.made_back-back.ensures in
    either_one view c.in-Some.one c.requires.own c.requires.other one two

pub returns-then-is_earlier : goal.returns-then-is_earlier
returns-then-is_earlier c =
    let view = named c.args.name (view_of c.args.insn.now c.args.values.now) in
    let one = subst (λ m. MakesAs m (ordered_coding view)) c.in-Some.is c.made_here.ensures in
    let two = subst (λ m. MakesAs m (option_map turned_coding (ordered_coding (turned view)))) c.in-Some-back.is c.made_back-back.ensures in
    either_two view c.in-Some.one c.in-Some-back.two _ (sym c.is_earlier.ensures ∙ c.if-is_earlier.true) c.requires.own c.requires.other one two

pub returns-else-is_earlier : goal.returns-else-is_earlier
returns-else-is_earlier c =
    let view = named c.args.name (view_of c.args.insn.now c.args.values.now) in
    let one = subst (λ m. MakesAs m (ordered_coding view)) c.in-Some.is c.made_here.ensures in
    let two = subst (λ m. MakesAs m (option_map turned_coding (ordered_coding (turned view)))) c.in-Some-back.is c.made_back-back.ensures in
    either_two view c.in-Some.one c.in-Some-back.two _ (sym c.is_earlier.ensures ∙ c.if-is_earlier.false) c.requires.own c.requires.other one two
