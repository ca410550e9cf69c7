-- What stays where an item gets its address and its size.
use Rattle.std.proofs.Common.{◌≡◌, ℕ, zero, suc, ◌<◌, ◌≤◌, max, Bool, List, [], ◌∷◌, length, Option, None, Some, refl, sym, ap, ◌∙◌, get_or, set, slice_get, length-set, All}
use Rattle.std.specs.List.{fold}
use Rattle.std.proofs.lemmas.Option.{slice_get-get_or, slice_get_within, get_or_from_slice_get}
use Rattle.std.proofs.lemmas.List.Elements.{All-set}
use Rattle.item_contents.specs.declared.contents.Content.{Content}
use Rattle.asm_frags.specs.declared.items.Frag.{Frag}
use Rattle.asm_frags.specs.declared.known_extents.KnownExtent.{KnownExtent}
use Rattle.item_contents.specs.Contents.{alignment_of}
use Rattle.asm_frags.specs.Alignments.{alignment_of_all}
use Rattle.asm_frags.specs.KnownExtents.{advanced, extent_of}
use Rattle.item_contents.specs.Contents.{is_run}
use Rattle.asm_frags.specs.Writing.{ends_in_run}
use Rattle.asm_frags.specs.SoundItems.{AreItems, AreBehind}
use Rattle.asm_frags.specs.Addresses.{changed_there, changed_at, item_laid_at}

-- the change of one that is there
pub changed_is : {X : Type 0} (change : X → X) (all : List X) (number : ℕ) (there : X) → number < length all → there ≡ get_or all number there
    → set all number (change there) ≡ changed_at change all number
changed_is change all number there within is =
    let found : slice_get all number ≡ Some there = slice_get-get_or all number there within ∙ ap Some (sym is) in
    rw found refl

module _ {P Address : Type 0} where
  same_alignment : (items : List (Frag P Address)) (number : ℕ) (new d : Frag P Address) → new.content ≡ (get_or items number d).content
      → alignment_of_all (set items number new) ≡ alignment_of_all items
  same_alignment [] number new d same = refl
  same_alignment (item ∷ items) zero new d same = ap (λ (content : Content). max (alignment_of content) (alignment_of_all items)) same
  same_alignment (item ∷ items) (suc number) new d same = ap (max (alignment_of item.content)) (same_alignment items number new d same)

  same_step : (extent : KnownExtent) (new old : Frag P Address) → new.content ≡ old.content → advanced extent new ≡ advanced extent old
  same_step extent new old same = rw same refl

  same_extent : (extent : KnownExtent) (items : List (Frag P Address)) (number : ℕ) (new d : Frag P Address) → new.content ≡ (get_or items number d).content
      → fold advanced extent (set items number new) ≡ fold advanced extent items
  same_extent extent [] number new d same = refl
  same_extent extent (item ∷ items) zero new d same = ap (λ (r : KnownExtent). fold advanced r items) (same_step extent new item same)
  same_extent extent (item ∷ items) (suc number) new d same = same_extent (advanced extent item) items number new d same

  same_end : (items : List (Frag P Address)) (number : ℕ) (new d : Frag P Address) → new.content ≡ (get_or items number d).content
      → ends_in_run (set items number new) ≡ ends_in_run items
  same_end [] number new d same = refl
  same_end (item ∷ []) zero new d same = ap is_run same
  same_end (item ∷ []) (suc number) new d same = refl
  same_end (item ∷ next ∷ items) zero new d same = refl
  same_end (item ∷ next ∷ items) (suc zero) new d same = same_end (next ∷ items) zero new d same
  same_end (item ∷ next ∷ items) (suc (suc number)) new d same = same_end (next ∷ items) (suc number) new d same

  -- what is kept of items looks at no address and no size
  pub items_laid : (items : List (Frag P Address)) (number : ℕ) (new d : Frag P Address) (alignment : ℕ) (extent : KnownExtent) (in_run : Bool)
      → AreItems items alignment extent in_run → new.content ≡ (get_or items number d).content → AreItems (set items number new) alignment extent in_run
  unfolding extent_of
  items_laid items number new d alignment extent in_run sound same = record {
    few = let few = sound.few in rw length-set few;
    aligned = sound.aligned ∙ sym (same_alignment items number new d same);
    known = sound.known ∙ sym (same_extent (record { breaks = 0; bytes = 0 }) items number new d same);
    breaks = let breaks = sound.breaks in rw length-set breaks;
    bytes = let bytes = sound.bytes in rw length-set bytes;
    last = sound.last ∙ sym (same_end items number new d same);
  }

all_changed : {X : Type 0} (Holds : X → Type 0) (change : X → X) (all : List X) (number : ℕ) → ((x : X) → Holds x → Holds (change x)) → All Holds all
    → All Holds (changed_at change all number)
all_changed {X} Holds change all number kept sound = by_there (slice_get all number) refl
  where
    by_there : (there : Option X) → slice_get all number ≡ there → All Holds (changed_there change all number there)
    by_there None is = sound
    by_there (Some x) is =
        let held : Holds (get_or all number x) = sound number x (slice_get_within all number x is) in
        let same : get_or all number x ≡ x = get_or_from_slice_get all number x x is in
        All-set Holds all number (change x) (kept x (rw same at held)) sound

-- an item stands where it stood
pub behind_laid : {P : Type 0} (bytes : ℕ) (items : List (Frag P ℕ)) (number address size : ℕ) → AreBehind bytes items
    → AreBehind bytes (changed_at (item_laid_at address size) items number)
behind_laid bytes items number address size sound = all_changed (λ item. item.offset ≤ bytes) (item_laid_at address size) items number (λ item behind. behind) sound
