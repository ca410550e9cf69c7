-- Sections that have grown from sections that have grown.
use Rattle.std.proofs.Common.{◌≡◌, ℕ, ◌≤◌, List, ◌++◌, length, Option, Some, slice_get, ap, ◌∙◌, arith, append_assoc, length-append}
use Rattle.std.proofs.lemmas.List.Elements.{All-append, All-weaker}
use Rattle.asm_frags.specs.declared.fields.Field.{Field}
use Rattle.asm_frags.specs.Writing.{LooseItem, LooseSection}
use Rattle.asm_place.specs.Instructions.{with_more, IsContinued, Grows}

abbrev holding : LooseSection → List ℕ → List Field → List LooseItem → LooseSection
holding section bytes fields items = record section { bytes = bytes; fields = fields; items = items }

same_holding : (section : LooseSection) (b1 b2 : List ℕ) (f1 f2 : List Field) (i1 i2 : List LooseItem) → b1 ≡ b2 → f1 ≡ f2 → i1 ≡ i2
    → holding section b1 f1 i1 ≡ holding section b2 f2 i2
same_holding section b1 b2 f1 f2 i1 i2 bytes fields items =
    ap (λ b. holding section b f1 i1) bytes ∙ (ap (λ f. holding section b2 f i1) fields ∙ ap (λ i. holding section b2 f2 i) items)

continued_on : (section : LooseSection) (found last : Option LooseSection) → IsContinued section found → ((s : LooseSection) → found ≡ Some s → IsContinued s last)
    → IsContinued section last
continued_on section found last one later =
    let two = later (with_more section one.bytes one.fields one.items) one.there in
    let longer = length-append section.bytes one.bytes in
    record {
      bytes = one.bytes ++ two.bytes;
      fields = one.fields ++ two.fields;
      items = one.items ++ two.items;
      there = two.there ∙ ap Some (same_holding section _ _ _ _ _ _ (append_assoc section.bytes one.bytes two.bytes)
          (append_assoc section.fields one.fields two.fields) (append_assoc section.items one.items two.items));
      fields_behind = All-append (λ (field : Field). length section.bytes ≤ field.offset) one.fields two.fields one.fields_behind
          (All-weaker (λ (field : Field). length (section.bytes ++ one.bytes) ≤ field.offset) (λ (field : Field). length section.bytes ≤ field.offset)
          (λ field behind. omega (arith, longer, behind)) two.fields two.fields_behind);
      items_behind = All-append (λ (item : LooseItem). length section.bytes ≤ item.offset) one.items two.items one.items_behind
          (All-weaker (λ (item : LooseItem). length (section.bytes ++ one.bytes) ≤ item.offset) (λ (item : LooseItem). length section.bytes ≤ item.offset)
          (λ item behind. omega (arith, longer, behind)) two.items two.items_behind);
    }

-- what has grown from sections that have grown has grown from the first
pub grown_twice : (one two three : List LooseSection) → Grows one two → Grows two three → Grows one three
grown_twice one two three first then_on =
    record {
      kept = λ number section there. continued_on section (slice_get two number) (slice_get three number) (first.kept number section there)
          (λ s found. then_on.kept number s found);
    }
