-- Each statement keeps sections few with short names, and symbols and files within the limits.
use Rattle.asm_place.proofs.PlacingLaws.{all_few}
use Rattle.asm_place.proofs.PlaceWalk.{symbols_fit}
use Rattle.asm_place.proofs.laws.sources_are_small.Goals as goal

pub returns : goal.returns
returns c statements no_warn placed is = record {
  sections = all_few (record { frames = c.frame_directives_keep_all_else.ensures; rows = c.line_directives_keep_all_else.ensures.rows; files = c.line_directives_keep_all_else.ensures.files }) statements no_warn placed is;
  symbols = symbols_fit (record { frames = c.frame_directives_keep_all_else.ensures; rows = c.line_directives_keep_all_else.ensures.rows; files = c.line_directives_keep_all_else.ensures.files }) c.leads_is_decided.ensures.leads statements no_warn placed is;
}
