-- What is known of symbols and names at the place of a statement.
use Rattle.asm_expr.specs.Knowledge.{Knowledge}
use Rattle.asm_symbols.specs.Counting.{meant_name}
use Rattle.asm_symbols.specs.Interning.{number_of}
use Rattle.asm_uses.specs.declared.places.View.{View}
use Rattle.asm_uses.specs.Places.{told_at}

-- what is known at the place that a view is of
abbrev pub known_in : View → Knowledge
known_in view = record {
  told = told_at view.symbols.now view.place view.spot;
  meant = λ written. number_of view.symbols.now (meant_name view.symbols.now.counts written);
  place = view.place;
}
