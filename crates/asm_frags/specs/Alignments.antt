-- The alignment of a section.
use Rattle.std.specs.Prelude.{ℕ, max, List, [], ◌∷◌}
use Rattle.asm_frags.specs.declared.items.Frag.{Frag}
use Rattle.item_contents.specs.Contents.{alignment_of}

-- `sh_addralign`: the greatest alignment of an item, and 1 where no item is aligned
abbrev pub alignment_of_all : {P Address : Type 0} → List (Frag P Address) → ℕ
alignment_of_all [] = 1
alignment_of_all (item ∷ items) = max (alignment_of item.content) (alignment_of_all items)
