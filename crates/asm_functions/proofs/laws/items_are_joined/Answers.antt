use Rattle.asm_functions.proofs.JoinedLaws.{all_joined, joined_at_end}
use Rattle.asm_functions.proofs.laws.items_are_joined.Goals as goal

pub returns-clause-so_far : goal.returns-clause-so_far
returns-clause-so_far c =
    all_joined c.placing_grows.ensures c.places_stand.ensures.begins c.places_stand.ensures.kept c.labels_change_symbols.ensures c.statements_split.ensures.bare
    c.statements_put_into_one_section.ensures

pub returns-clause-whole : goal.returns-clause-whole
returns-clause-whole c =
    joined_at_end c.placing_grows.ensures c.places_stand.ensures.begins c.places_stand.ensures.kept c.labels_change_symbols.ensures c.statements_split.ensures.bare
    c.statements_put_into_one_section.ensures
