-- What the options to come add to the words so far is what all add.
use Rattle.std.proofs.Common.{◌≡◌, ◌≤◌, ◌-◌, map, length, drop}
use Rattle.asm_base.specs.Tokens.{spelled}
use Rattle.asm_line_tables.specs.Words.{options_from}
use Rattle.asm_line_tables.specs.WordsIn.{loc_words_in}
use Rattle.asm_line_tables.proofs.reading.add_options.Given as goal

abbrev pub invariant-loop-name : goal.invariant-loop-name
invariant-loop-name l = record {
  within : l.at ≤ length l.tokens;
  left : options_from 0 (loc_words_in l.words) (map spelled (drop l.at l.tokens)) ≡ options_from 0 (loc_words_in l.initial.words) (map spelled l.tokens);
}

abbrev pub decreases-loop-name : goal.decreases-loop-name
decreases-loop-name l = length l.tokens - l.at
