-- The alignment of items of which one more comes.
use Rattle.std.proofs.Common.{◌≡◌, ℕ, max, List, [], ◌∷◌, ◌++◌, arith}
use Rattle.asm_frags.specs.declared.items.Frag.{Frag}
use Rattle.item_contents.specs.Contents.{alignment_of}
use Rattle.asm_frags.specs.Alignments.{alignment_of_all}

turned : (a b c : ℕ) → max a (max b c) ≡ max (max a b) c
turned a b c = omega arith

crossed : (a b : ℕ) → max a b ≡ max b a
crossed a b = omega arith

pub alignment_more : {P Address : Type 0} (items : List (Frag P Address)) (item : Frag P Address)
    → alignment_of_all (items ++ item ∷ []) ≡ max (alignment_of_all items) (alignment_of item.content)
alignment_more [] item = crossed (alignment_of item.content) 1
alignment_more (first ∷ items) item =
    rw (alignment_more items item) (turned (alignment_of first.content) (alignment_of_all items) (alignment_of item.content))
