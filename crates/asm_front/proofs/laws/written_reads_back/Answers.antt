use Rattle.std.proofs.Common.{◌≡◌, Result, Ok, subst}
use Rattle.asm_place.specs.Sources.{place_all}
use Rattle.asm_values.specs.State.{nothing_placed}
use Rattle.readback_laws.specs.Origins.{FramesAreReady}
use Rattle.asm_front.proofs.HandedStatements.{handed_comes, handed_placed, made_at_end, origin_of}
use Rattle.asm_front.specs.Assembly.{handed_of, is_asked}
use Rattle.source_ends.specs.Ending.{worked_out}
use Rattle.asm_front.proofs.laws.written_reads_back.Goals as goal

pub returns : goal.returns
returns c flags contents name source made files is so =
    let end = handed_comes c.handed_statements_are_placed.ensures flags contents name source made files is in
    let f = end.f in
    let handed = handed_of flags contents name source in
    let places = handed_placed c.following_is_placing.ensures.placed flags contents name source f end.follows in
    let ordered = c.functions_stand_in_order.ensures.so_far _ flags.no_warn (is_asked flags) f end.follows in
    let comes = made_at_end flags contents name source made files end.names f is so end.comes in
    let ready = c.ending_frames_are_ready.ensures flags f made ordered comes end.ends in
    let back = c.statements_read_back.ensures flags.no_warn (worked_out flags.scfi) handed made.object (origin_of c.objects_are_finished.ensures flags handed f made places end.ends) ready in
    let same : f.placed ≡ back.made.whole = one_answer (place_all handed (nothing_placed flags.no_warn)) f.placed back.made.whole places back.made.places in
    record {
      statements_read = back;
      locs_read = c.locs_read_back.ensures flags.no_warn (worked_out flags.scfi) handed made.object back.made (subst (FramesAreReady (worked_out flags.scfi)) same ready);
    }
  where
    -- one answer has one value
    one_answer : {A E : Type 0} (answer : Result A E) (one other : A) → answer ≡ Ok one → answer ≡ Ok other → one ≡ other
    one_answer answer one other is also = cc
