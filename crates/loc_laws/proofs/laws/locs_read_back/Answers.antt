-- What the lower laws say is what is known of all instructions.
use Rattle.loc_laws.proofs.Locs.{locs_read_back}
use Rattle.loc_laws.proofs.laws.locs_read_back.Goals as goal

pub returns : goal.returns
returns c =
    locs_read_back (record {
      begins = c.placing_within.ensures.begins;
      grows = c.placing_grows.ensures;
      follow = c.lines_follow.ensures;
      keeps = c.instructions_keep_lines.ensures;
      bare = c.instruction_items.ensures;
      coded = c.encoding_items.ensures;
      jump = c.jump_items.ensures;
      bare_put = c.instruction_stands.ensures;
      coded_put = c.encoding_stands.ensures.put;
      keep = c.layouts_keep_items.ensures;
      runs = c.runs_move_nothing.ensures;
      reads = c.bare_codes_read.ensures.read;
      long = c.instruction_length.ensures;
      meant = c.directives_mean_rows.ensures.meant;
      made = c.directives_mean_rows.ensures.made;
      places = c.places_rise.ensures;
      layouts = c.layouts_keep_sections.ensures;
      table = c.line_tables_read.ensures;
      framed = c.framed_tables_are_ready.ensures;
      back = c.statements_read_back.ensures;
    })
