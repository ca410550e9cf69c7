-- How far items move what stands behind them, and what is known of it before layout.
use Rattle.std.proofs.Common.{◌≡◌, ℕ, ◌+◌, ◌≤◌, List, [], ◌∷◌, ◌++◌, length, refl, arith}
use Rattle.std.specs.Prelude.{if◌then◌else◌}
use Rattle.std.specs.List.{fold}
use Rattle.std.proofs.lemmas.List.Elements.{All-head, All-tail}
use Rattle.item_contents.specs.declared.contents.Content.{Content}
use Rattle.item_contents.specs.declared.contents.Content.TheVariants.{Run, Fill, Align, Org, Growing}
use Rattle.asm_frags.specs.declared.items.Frag.{Frag}
use Rattle.asm_frags.specs.declared.known_extents.KnownExtent.{KnownExtent}
use Rattle.item_contents.specs.Contents.{MayHave}
use Rattle.item_contents.specs.FixedSizes.{is_fixed, fixed_bytes}
use Rattle.asm_frags.specs.KnownExtents.{advanced, extent_of}
use Rattle.asm_relax.specs.Layout.{AreSized}
use Rattle.asm_relax.specs.Placing.{shift_of}

-- the extent with an item of this content more
abbrev advanced_by : KnownExtent → Content → KnownExtent
advanced_by extent content =
    if is_fixed content then record { breaks = extent.breaks; bytes = extent.bytes + fixed_bytes content } else record { breaks = extent.breaks + 1; bytes = extent.bytes }

breaks_stay : (extent : KnownExtent) (content : Content) → extent.breaks ≤ (advanced_by extent content).breaks
breaks_stay extent Run = omega arith
breaks_stay extent (Fill held) = omega arith
breaks_stay extent (Align held) = omega arith
breaks_stay extent (Org held) = omega arith
breaks_stay extent (Growing held) = omega arith

breaks_rise : {P : Type 0} (extent : KnownExtent) (items : List (Frag P ℕ)) → extent.breaks ≤ (fold advanced extent items).breaks
breaks_rise extent [] = omega arith
breaks_rise extent (item ∷ items) =
    let first = breaks_stay extent item.content in
    let later = breaks_rise (advanced_by extent item.content) items in
    omega arith

-- an item that is no break has its known size
known_size : (extent : KnownExtent) (content : Content) (size : ℕ) → MayHave content size → (advanced_by extent content).breaks ≤ extent.breaks
    → (advanced_by extent content).bytes ≡ extent.bytes + size
known_size extent Run size has same = omega arith
known_size extent (Fill held) size has same = rw has refl
known_size extent (Align held) size has same = absurd (omega arith)
known_size extent (Org held) size has same = absurd (omega arith)
known_size extent (Growing held) size has same = absurd (omega arith)

-- items without a break move what stands behind them by their known sizes
stretch : {P : Type 0} (extent : KnownExtent) (shift : ℕ) (items : List (Frag P ℕ)) → AreSized items → (fold advanced extent items).breaks ≡ extent.breaks
    → shift_of (length items) shift items + extent.bytes ≡ shift + (fold advanced extent items).bytes
stretch extent shift [] sized same = refl
stretch {P} extent shift (item ∷ items) sized same =
    let first = breaks_stay extent item.content in
    let later = breaks_rise (advanced_by extent item.content) items in
    let has : MayHave item.content item.size = All-head (λ (one : Frag P ℕ). MayHave one.content one.size) item items sized in
    let known = known_size extent item.content item.size has (omega arith) in
    let rest = stretch (advanced_by extent item.content) (shift + item.size) items (All-tail (λ (one : Frag P ℕ). MayHave one.content one.size) item items sized) (omega arith) in
    omega arith

keeps_distance : {P : Type 0} (extent : KnownExtent) (shift : ℕ) (before more : List (Frag P ℕ)) → AreSized (before ++ more)
    → (fold advanced extent (before ++ more)).breaks ≡ (fold advanced extent before).breaks
    → shift_of (length (before ++ more)) shift (before ++ more) + (fold advanced extent before).bytes
    ≡ shift_of (length before) shift (before ++ more) + (fold advanced extent (before ++ more)).bytes
keeps_distance extent shift [] more sized same = stretch extent shift more sized same
keeps_distance {P} extent shift (item ∷ before) more sized same =
    keeps_distance (advanced_by extent item.content) (shift + item.size) before more (All-tail (λ (one : Frag P ℕ). MayHave one.content one.size) item (before ++ more) sized) same

-- between two places without a break what stands behind is moved by the known sizes
pub stretch_keeps_distance : {P : Type 0} (before more : List (Frag P ℕ)) → AreSized (before ++ more) → (extent_of (before ++ more)).breaks ≡ (extent_of before).breaks
    → shift_of (length (before ++ more)) 0 (before ++ more) + (extent_of before).bytes
    ≡ shift_of (length before) 0 (before ++ more) + (extent_of (before ++ more)).bytes
unfolding extent_of
stretch_keeps_distance before more sized same = keeps_distance (record { breaks = 0; bytes = 0 }) 0 before more sized same
