-- One more signature.
use Rattle.std.proofs.Common.{map}
use Rattle.asm_frags.specs.Groups.{groups_of}
use Rattle.elf_symbols.specs.Views.{symbol_view}
use Rattle.elf_symbols.proofs.LoopSteps.{signature_put}
use Rattle.elf_symbols.proofs.listing.put_signatures.Goals as goal

pub loop-index-preserved : goal.loop-index-preserved
loop-index-preserved c =
    signature_put c.args.at.symbols.now c.args.standings.now (groups_of c.args.at.sections.now) c.loop-index.index c.group.result.0.now c.group.result.1
    (map symbol_view c.loop-index.out.items) (map symbol_view c.put_signature.new.out.items) _ c.group.ensures c.in_ok-put_signature.ensures c.loop-index.invariant
