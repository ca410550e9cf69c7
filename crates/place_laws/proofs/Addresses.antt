-- The address of the end of a section.
use Rattle.std.proofs.Common.{◌≡◌, ℕ, suc, ◌+◌, ◌^◌, ◌<◌, ◌≤◌, List, [], ◌∷◌, length, refl, sym, ap, ◌∙◌, arith}
use Rattle.std.specs.Prelude.{drop, All}
use Rattle.std.specs.Option.{option_map_or}
use Rattle.std.proofs.lemmas.List.Elements.{All-nil, All-cons, All-head, All-tail}
use Rattle.asm_expr.specs.Forms.{wrapped}
use Rattle.asm_frags.specs.SectionOf.{SectionOf}
use Rattle.asm_frags.specs.Writing.{LooseItem}
use Rattle.asm_relax.specs.Final.{shift_in, address_of}
use Rattle.asm_relax.specs.KeptSections.{kept_section, kept_items, LayoutsKeepSections}
use Rattle.asm_relax.specs.Placing.{placed_from, placed_section, shift_of}
use Rattle.asm_relax.specs.Settling.{LaidItem}
use Rattle.place_laws.specs.Ends.{items_in, EndsAreAddresses}

-- and how many plain bytes are before them
low_kept : (items : List LooseItem) (shifts : List ℕ) → All (λ item. item.offset < 2 ^ 64) items → All (λ item. item.offset < 2 ^ 64) (kept_items shifts items)
low_kept [] shifts all = All-nil _
low_kept (item ∷ items) shifts all =
    All-cons (λ (i : LaidItem). i.offset < 2 ^ 64) _ _ (All-head (λ (i : LooseItem). i.offset < 2 ^ 64) item items all)
    (low_kept items (drop 1 shifts) (All-tail (λ (i : LooseItem). i.offset < 2 ^ 64) item items all))

-- a layout keeps the number of items
pub long_kept : (items : List LooseItem) (shifts : List ℕ) → length (kept_items shifts items) ≡ length items
long_kept [] shifts = refl
long_kept (item ∷ items) shifts = ap suc (long_kept items (drop 1 shifts))

adds : (offset shift : ℕ) → wrapped (offset + wrapped shift) ≡ wrapped (offset + shift)
adds offset shift = omega arith

-- a place of items that stand in a row is moved by the sizes of those before it
abbrev pub ShiftsAreSizes : Type 0
ShiftsAreSizes = (items : List LaidItem) (before : ℕ) → before ≤ length items → All (λ item. item.offset < 2 ^ 64) items
    → shift_in (placed_from 0 items) before ≡ wrapped (shift_of before 0 items)

pub ends_are_addresses : LayoutsKeepSections → ShiftsAreSizes → EndsAreAddresses
unfolding address_of
ends_are_addresses laws shifts symbols sections laid n section now e there low few =
    let kept = laws.section symbols sections laid n section e there in
    let new = kept_section symbols kept.0 section in
    let one : placed_section new ≡ new = laws.placed symbols sections laid n new e kept.1 in
    let items_are : items_in laid n ≡ new.items = ap (λ found. option_map_or (λ (s : SectionOf LaidItem). s.items) found []) kept.1 in
    let count = long_kept section.items kept.0 in
    let within : length now.items ≤ length new.items = omega (arith, few, count) in
    let shift : shift_in new.items (length now.items) ≡ wrapped (shift_of (length now.items) 0 new.items) =
    ap (λ (s : SectionOf LaidItem). shift_in s.items (length now.items)) (sym one) ∙ shifts new.items (length now.items) within (low_kept section.items kept.0 low) in
    ap (λ found. option_map_or (λ (s : SectionOf LaidItem). wrapped (length now.bytes + shift_in s.items (length now.items))) found 0) kept.1
    ∙ ap (λ k. wrapped (length now.bytes + k)) shift ∙ adds (length now.bytes) (shift_of (length now.items) 0 new.items)
    ∙ ap (λ (items : List LaidItem). wrapped (length now.bytes + shift_of (length now.items) 0 items)) (sym items_are)
