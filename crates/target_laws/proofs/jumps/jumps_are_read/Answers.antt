use Rattle.target_laws.proofs.JumpReading.{jumps_are_read}
use Rattle.target_laws.proofs.jumps.jumps_are_read.Goals as goal

pub returns : goal.returns
returns c = jumps_are_read c.loaded_jumps_stand.ensures c.targets_are_items.ensures c.jumps_lead.ensures c.layouts_are_low.ensures c.items_are_read.ensures.jumps
