use Rattle.x86_insn.specs.Views.{view_of}
use Rattle.x86_parts.specs.Codes.{named}
use Rattle.x86_encode.proofs.Coded.{none_made}
use Rattle.x86_encode.proofs.Search.{none_found, best_of}
use Rattle.x86_encode.proofs.making.made_here.Goals as goal

pub encoded_of-requires : goal.encoded_of-requires
encoded_of-requires c = best_of (named c.args.name (view_of c.args.insn.now c.args.values.now)) c.shortest.new.found c.in-Some.own c.in-Some.is c.shortest.ensures

pub returns-in-None : goal.returns-in-None
returns-in-None c =
    let view = named c.args.name (view_of c.args.insn.now c.args.values.now) in
    none_made view (none_found view c.shortest.new.found c.in-None.is c.shortest.ensures)
