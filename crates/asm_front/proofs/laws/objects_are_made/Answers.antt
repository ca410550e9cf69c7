use Rattle.asm_front.proofs.HandedStatements.{handed_comes, handed_placed, made_at_end}
use Rattle.asm_front.proofs.MadeObjects.{object_is_made}
use Rattle.asm_front.specs.Assembly.{is_asked}
use Rattle.asm_front.proofs.laws.objects_are_made.Goals as goal

pub returns : goal.returns
returns c flags contents name source made files is so =
    let end = handed_comes c.handed_statements_are_placed.ensures flags contents name source made files is in
    let comes = made_at_end flags contents name source made files end.names end.f is so end.comes in
    let places = handed_placed c.following_is_placing.ensures.placed flags contents name source end.f end.follows in
    let ordered = c.functions_stand_in_order.ensures.so_far _ flags.no_warn (is_asked flags) end.f end.follows in
    let ready = c.ending_frames_are_ready.ensures flags end.f made ordered comes end.ends in
    object_is_made c.objects_are_finished.ensures c.tables_continue.ensures flags contents name source made end comes places ready
