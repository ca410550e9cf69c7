use Rattle.asm_front.specs.Assembly.{told_of}
use Rattle.recovery_laws.proofs.HandedBytes.{handed_spelled}
use Rattle.recovery_laws.proofs.Recovering.{objects_recover}
use Rattle.recovery_laws.proofs.TableFields.{lines_put}
use Rattle.recovery_laws.proofs.recovered.objects_recover.Goals as goal

pub returns : goal.returns
returns c =
    objects_recover (record {
      functions = record {
        layout = record {
          layouts = c.layouts_keep_sections.ensures;
          low = c.layouts_are_low.ensures;
          stand = c.jump_fields_stand.ensures;
          held = c.relocated_fields_are_held.ensures;
        };
        told = c.tables_are_of_items.ensures;
        tabled = c.functions_are_tabled.ensures;
        recovers = c.function_tables_recover.ensures;
      };
      made = c.objects_are_made.ensures;
      reads_back = c.written_reads_back.ensures;
      begins = c.placing_within.ensures.begins;
      within = c.placing_within.ensures.kept;
      starts = c.places_stand.ensures.begins;
      places = c.places_stand.ensures.kept;
      few = c.places_stand.ensures.few;
      order = c.functions_stand_in_order.ensures.whole;
      put = c.tables_are_found.ensures;
      put_lines = lines_put c.tables_are_found-2.ensures;
      labelled = c.tables_add_labels.ensures.keeps;
      spelled = handed_spelled (c.handed_of_bytes_are_spelled.ensures told_of);
    })
