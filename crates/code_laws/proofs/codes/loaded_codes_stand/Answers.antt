use Rattle.code_laws.proofs.Standing.{loaded_codes_stand}
use Rattle.code_laws.proofs.codes.loaded_codes_stand.Goals as goal

pub returns : goal.returns
returns c =
    loaded_codes_stand (record {
      layouts = c.layouts_keep_sections.ensures;
      keep = c.layouts_keep_items.ensures;
      runs = c.runs_move_nothing.ensures;
      inside = c.places_are_inside.ensures;
      puts = c.puts_stay_within.ensures;
      stand = c.bytes_stand.ensures;
      beside = c.bytes_stand_beside.ensures;
    })
