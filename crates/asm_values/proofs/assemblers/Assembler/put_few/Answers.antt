-- The first bytes of sixteen that are the same.
use Rattle.std.proofs.Common.{subst}
use Rattle.asm_values.specs.State.{put_bytes}
use Rattle.asm_values.specs.PlacedBy.{PlacesBy}
use Rattle.asm_values.proofs.FewBytes.{few_taken}
use Rattle.asm_values.proofs.assemblers.Assembler.put_few.Goals as goal

pub returns-clause-placed : goal.returns-clause-placed
returns-clause-placed c =
    subst (λ bytes. PlacesBy (put_bytes c.args.pos bytes) c.args.self.now c.put_bytes.new.self c.put_bytes.result)
    (few_taken c.args.count 16 c.args.value c.requires) c.put_bytes.ensures.placed
