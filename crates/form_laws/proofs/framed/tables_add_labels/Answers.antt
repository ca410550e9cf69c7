use Rattle.asm_values.specs.State.{nothing_placed}
use Rattle.table_pieces.specs.Pieces.{tables_of}
use Rattle.form_laws.proofs.Framing.{adds_on, lines_add, table_adds}
use Rattle.form_laws.proofs.framed.tables_add_labels.Goals as goal

pub returns-clause-adds : goal.returns-clause-adds
returns-clause-adds c = table_adds c.tables_get_labels.ensures

pub returns-clause-lines : goal.returns-clause-lines
returns-clause-lines c = lines_add c.others_stay.ensures

pub returns-clause-keeps : goal.returns-clause-keeps
returns-clause-keeps c = λ statements no_warn whole frames framed after whole_is frames_are lines_are. record {
  adds = adds_on whole.table.symbols framed.symbols after.symbols
      (table_adds c.tables_get_labels.ensures frames (tables_of whole.table.symbols whole.sections) framed frames_are)
      (lines_add c.others_stay.ensures whole.lines framed after lines_are);
  forward = (c.places_stand.ensures.kept statements (nothing_placed no_warn) whole whole_is (c.places_stand.ensures.begins no_warn)).symbols.forward;
  there = c.forms_name_symbols.ensures.stays statements (nothing_placed no_warn) whole whole_is (c.forms_name_symbols.ensures.begins no_warn);
}
