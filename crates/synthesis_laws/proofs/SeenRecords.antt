-- Items of which the same is recorded look alike.
use Rattle.std.proofs.Common.{◌≡◌, List, [], ◌∷◌, map, refl, sym, ap, ◌∙◌}
use Rattle.code_functions.specs.declared.items.CodeItem.{CodeItem}
use Rattle.code_functions.specs.Seen.{SeenItem, seen}
use Rattle.synthesis_laws.specs.Sights.{Sight, sight_of, SeenLookAlike}

-- what synthesis sees of what is recorded
sight_in : SeenItem → Sight
sight_in item = record {
  effect = item.effect;
  flow = item.flow;
  unsupported = item.unsupported;
  no_insn = item.no_insn;
  place = item.place;
  field = item.field;
}

-- so it is of items
sights_in : (items : List CodeItem) → map sight_of items ≡ map sight_in (map seen items)
unfolding sight_in
sights_in [] = refl
sights_in (item ∷ items) = ap (λ rest. sight_of item ∷ rest) (sights_in items)

-- the same is seen where the same is recorded
pub seen_look_alike : SeenLookAlike
seen_look_alike one other same = sights_in one ∙ ap (map sight_in) same ∙ sym (sights_in other)
