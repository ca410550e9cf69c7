-- The items of a section in its layout.
use Rattle.std.proofs.Common.{◌≡◌, List, [], refl, ap, ◌∙◌}
use Rattle.std.specs.Prelude.{slice_get}
use Rattle.std.specs.Option.{option_map_or}
use Rattle.asm_frags.specs.SectionOf.{SectionOf}
use Rattle.asm_frags.specs.Addresses.{item_laid_at}
use Rattle.asm_frags.specs.Substituting.{laid_item}
use Rattle.item_contents.specs.Contents.{MayHave}
use Rattle.asm_relax.specs.KeptSections.{kept_section, LayoutsKeepSections}
use Rattle.asm_relax.specs.Settling.{LaidItem}
use Rattle.place_laws.specs.Ends.{items_in, LayoutsKeepItems}
use Rattle.place_laws.proofs.Elements.{All-there}

pub layouts_keep_items : LayoutsKeepSections → LayoutsKeepItems
layouts_keep_items laws symbols sections laid n section e there =
    let kept = laws.section symbols sections laid n section e there in
    let now = kept_section symbols kept.0 section in
    let items_are : items_in laid n ≡ now.items = ap (λ found. option_map_or (λ (s : SectionOf LaidItem). s.items) found []) kept.1 in
    let sized = laws.sized symbols sections laid n now e kept.1 in
    record {
      each = λ index item is.
          let got = laws.item section.items kept.0 index item is in
          let one = item_laid_at got.0 got.1 (laid_item item) in
          record {
            laid = one;
            there = ap (λ (items : List LaidItem). slice_get items index) items_are ∙ got.2;
            content = refl;
            offset = refl;
            sized = All-there (λ (i : LaidItem). MayHave i.content i.size) now.items index one got.2 sized;
          };
    }
