-- Each state is one that statements come to, and no fault is one of reading.
use Rattle.std.proofs.Common.{map}
use Rattle.asm_base.specs.Tokens.{spelled}
use Rattle.asm_front.proofs.OrderedStates.{next_ordered}
use Rattle.asm_front.proofs.placers.SourcePlacerPlacer.place.Goals as goal

pub invariant_of-result : goal.invariant_of-result
invariant_of-result c =
    c.following_is_not_reading.ensures.one (record { file = c.args.pos.file; line = c.args.pos.line; tokens = map spelled c.args.tokens.now }) c.self.inside.following c.in-Err-Fault.fault
    (rw c.in-Err-Fault.field-0-is at c.in-Err-Fault.ensures)

pub invariant_of-self : goal.invariant_of-self
invariant_of-self c =
    next_ordered (record { file = c.args.pos.file; line = c.args.pos.line; tokens = map spelled c.args.tokens.now }) c.self.inside.following c.place.new.self c.self.invariant c.in-Ok.ensures
