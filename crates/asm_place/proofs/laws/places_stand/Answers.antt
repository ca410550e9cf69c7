-- The first sections are there, and each statement keeps the places of symbols.
use Rattle.asm_place.proofs.PlaceWalk.{places_begin, places_kept, symbols_few}
use Rattle.asm_place.proofs.JumpTargets.{target_named}
use Rattle.asm_place.proofs.laws.places_stand.Goals as goal

pub returns-clause-begins : goal.returns-clause-begins
returns-clause-begins c = places_begin

pub returns-clause-kept : goal.returns-clause-kept
returns-clause-kept c = places_kept (record { frames = c.frame_directives_keep_all_else.ensures; rows = c.line_directives_keep_all_else.ensures.rows; files = c.line_directives_keep_all_else.ensures.files }) c.leads_is_decided.ensures.leads

pub returns-clause-few : goal.returns-clause-few
returns-clause-few c = symbols_few (record { frames = c.frame_directives_keep_all_else.ensures; rows = c.line_directives_keep_all_else.ensures.rows; files = c.line_directives_keep_all_else.ensures.files }) c.leads_is_decided.ensures.leads

pub returns-clause-named : goal.returns-clause-named
returns-clause-named c = target_named (record { frames = c.frame_directives_keep_all_else.ensures; rows = c.line_directives_keep_all_else.ensures.rows; files = c.line_directives_keep_all_else.ensures.files }) c.leads_is_decided.ensures.leads
