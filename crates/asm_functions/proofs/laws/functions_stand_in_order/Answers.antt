-- There is no function at first, and each statement keeps them in order.
use Rattle.std.proofs.lemmas.List.Elements.{All-nil}
use Rattle.asm_values.specs.State.{nothing_placed}
use Rattle.asm_functions.specs.FollowedSource.{nothing_followed}
use Rattle.asm_functions.specs.Standing.{StandsInOrder}
use Rattle.asm_functions.proofs.StandingLemmas.{all_closed_stand}
use Rattle.asm_functions.proofs.StandingLaws.{all_stand, all_within}
use Rattle.asm_functions.proofs.laws.functions_stand_in_order.Goals as goal

pub returns-clause-so_far : goal.returns-clause-so_far
returns-clause-so_far c statements no_warn asked f is =
    all_stand c.placing_grows.ensures c.placing_within.ensures.kept c.places_stand.ensures.kept statements (nothing_followed no_warn asked) f
    (c.placing_within.ensures.begins no_warn) (c.places_stand.ensures.begins no_warn) (All-nil (StandsInOrder (nothing_placed no_warn).sections)) is

pub returns-clause-whole : goal.returns-clause-whole
returns-clause-whole c statements no_warn asked f is =
    let begins = c.placing_within.ensures.begins no_warn in
    let places = c.places_stand.ensures.begins no_warn in
    all_closed_stand f.placed.sections
    (all_within c.placing_grows.ensures c.placing_within.ensures.kept c.places_stand.ensures.kept statements (nothing_followed no_warn asked) f begins places
    (All-nil (StandsInOrder (nothing_placed no_warn).sections)) is)
    f.functions
    (all_stand c.placing_grows.ensures c.placing_within.ensures.kept c.places_stand.ensures.kept statements (nothing_followed no_warn asked) f begins places
    (All-nil (StandsInOrder (nothing_placed no_warn).sections)) is)
