-- The end by what the functions come to, and without them.
use Rattle.asm_front.proofs.SynthesizedEnds.{counted, frames_answer, plain_answers}
use Rattle.asm_front.proofs.answering.followed_object.Goals as goal

pub returns-then-asked : goal.returns-then-asked
returns-then-asked c =
    frames_answer c.args.placer c.len-count.result c.in-Ok.parts.sections c.in-Ok.parts.table c.in-Ok.parts.procedures c.in-Ok.parts.lines c.in-Ok.parts.notes
    (record {
      count_is = counted c.args.placer c.in-Ok.functions c.len-count.result c.len-count.ensures c.in-Ok.ensures.functions;
      sections_are = c.in-Ok.ensures.sections;
      table_is = c.in-Ok.ensures.table;
      procedures_are = c.in-Ok.ensures.procedures;
      lines_are = c.in-Ok.ensures.lines;
      notes_are = c.in-Ok.ensures.notes;
    })
    c.args.asked.now c.in-Ok.functions c.synthesized_object.result c.if-asked.true c.in-Ok.ensures.functions c.synthesized_object.ensures

pub returns-else-asked : goal.returns-else-asked
returns-else-asked c =
    plain_answers c.args.placer c.len-count.result c.in-Ok.parts.sections c.in-Ok.parts.table c.in-Ok.parts.procedures c.in-Ok.parts.lines c.in-Ok.parts.notes
    (record {
      count_is = counted c.args.placer c.in-Ok.functions c.len-count.result c.len-count.ensures c.in-Ok.ensures.functions;
      sections_are = c.in-Ok.ensures.sections;
      table_is = c.in-Ok.ensures.table;
      procedures_are = c.in-Ok.ensures.procedures;
      lines_are = c.in-Ok.ensures.lines;
      notes_are = c.in-Ok.ensures.notes;
    })
    c.args.asked.now c.finished.result c.if-asked.false c.finished.ensures.object c.finished.ensures.numbers
