-- Directives keep procedures sound and in order, and placing keeps them inside their sections.
use Rattle.asm_values.specs.State.{nothing_placed}
use Rattle.asm_place.proofs.PlacingLaws.{all_in_order}
use Rattle.asm_place.proofs.laws.procedures_stand_in_order.Goals as goal

pub returns : goal.returns
returns c = λ statements no_warn placed is.
    all_in_order (record { frames = c.frame_directives_keep_all_else.ensures; rows = c.line_directives_keep_all_else.ensures.rows; files = c.line_directives_keep_all_else.ensures.files })
    (record { sound = c.procedures_are_sound.ensures.kept; order = c.places_never_fall.ensures.kept }) c.puts_stay_within.ensures statements no_warn placed is
    (c.places_stand.ensures.kept statements (nothing_placed no_warn) placed is (c.places_stand.ensures.begins no_warn))
