-- The answer of a visitor of an item, by the kind of the item.
use Rattle.item_contents.specs.declared.contents.Content.{Content}
use Rattle.item_contents.specs.declared.contents.Content.TheVariants as content
use Rattle.item_contents.specs.declared.contents.Growing.{Growing}
use Rattle.item_contents.specs.ItemParts.{FillOf, AlignOf, OrgOf}

-- what the visitor before, the answer and the visitor after must be, for each kind of item
pub record VisitLaws (V Out : Type 0) : Type 1 where
  pub run : V → Out → V → Type 0
  pub fill : V → FillOf → Out → V → Type 0
  pub align : V → AlignOf → Out → V → Type 0
  pub org : V → OrgOf → Out → V → Type 0
  pub growing : V → Growing → Out → V → Type 0

-- the visitor before, the answer, and the visitor after, as the law for the kind of the item relates them
abbrev pub Visits : {V Out : Type 0} → VisitLaws V Out → Content → V → Out → V → Type 0
Visits laws content.Run first answer last = laws.run first answer last
Visits laws (content.Fill held) first answer last = laws.fill first held answer last
Visits laws (content.Align held) first answer last = laws.align first held answer last
Visits laws (content.Org held) first answer last = laws.org first held answer last
Visits laws (content.Growing held) first answer last = laws.growing first held answer last
