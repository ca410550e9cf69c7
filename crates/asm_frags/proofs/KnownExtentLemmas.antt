-- The known extent of items, and how an item more changes what is kept of them.
use Rattle.std.proofs.Common.{◌≡◌, ℕ, ◌+◌, ◌^◌, ◌<◌, ◌≤◌, max, Bool, false, List, [], ◌∷◌, ◌++◌, length, refl, ◌∙◌, ap, arith, length-append}
use Rattle.std.proofs.lemmas.List.Sums.{fold-append}
use Rattle.asm_frags.specs.declared.items.Frag.{Frag}
use Rattle.asm_frags.specs.declared.known_extents.KnownExtent.{KnownExtent}
use Rattle.item_contents.specs.Contents.{alignment_of}
use Rattle.asm_frags.specs.KnownExtents.{advanced, extent_of}
use Rattle.item_contents.specs.Contents.{is_run}
use Rattle.asm_frags.specs.Writing.{ends_in_run}
use Rattle.asm_frags.specs.SoundItems.{AreItems}
use Rattle.asm_frags.proofs.AlignmentLemmas.{alignment_more}

module _ {P Address : Type 0} where
  -- the extent with an item more
  pub extent_more : (items : List (Frag P Address)) (item : Frag P Address) → extent_of (items ++ item ∷ []) ≡ advanced (extent_of items) item
  unfolding extent_of
  extent_more items item = fold-append advanced (record { breaks = 0; bytes = 0 }) items (item ∷ [])

  -- items end in a run where the last one is a run
  pub ends_more : (items : List (Frag P Address)) (item : Frag P Address) → ends_in_run (items ++ item ∷ []) ≡ is_run item.content
  ends_more [] item = refl
  ends_more (first ∷ []) item = refl
  ends_more (first ∷ next ∷ items) item = ends_more (next ∷ items) item

  nothing : AreItems {P = P} {Address = Address} [] 1 (record { breaks = 0; bytes = 0 }) false
  unfolding extent_of
  nothing = record { few = omega arith; aligned = refl; known = refl; breaks = omega arith; bytes = omega arith; last = refl }

  -- what is kept of no items
  pub no_items : (items : List (Frag P Address)) → items ≡ [] → AreItems items 1 (record { breaks = 0; bytes = 0 }) false
  no_items items none = rw none nothing

  -- what is kept of the items holds with an item more
  pub items_more : (items all : List (Frag P Address)) (item : Frag P Address) (alignment asked aligned : ℕ) (extent next : KnownExtent) (in_run last_run : Bool)
      → AreItems items alignment extent in_run
      → length items < 2 ^ 28 → all ≡ items ++ item ∷ [] → asked ≡ alignment_of item.content → aligned ≡ max alignment asked
      → next ≡ advanced extent item → next.breaks ≤ extent.breaks + 1 → next.bytes ≤ extent.bytes + 2 ^ 33 → last_run ≡ is_run item.content
      → AreItems all aligned next last_run
  items_more items all item alignment asked aligned extent next in_run last_run sound room last asks greatest further breaks bytes run = record {
    few = rw last (omega (arith, length-append items (item ∷ [])));
    aligned = rw (last, greatest, asks, sound.aligned, alignment_more items item) refl;
    known = rw (last, extent_more items item) (further ∙ ap (λ (r : KnownExtent). advanced r item) sound.known);
    breaks = rw last (let before = sound.breaks in omega (arith, length-append items (item ∷ [])));
    bytes = rw last (let before = sound.bytes in omega (arith, length-append items (item ∷ [])));
    last = rw (last, ends_more items item) run;
  }
