-- Fields count the items before them, and still do where fields and items come after.
use Rattle.std.proofs.Common.{◌≡◌, ℕ, zero, suc, ◌≤◌, List, [], ◌∷◌, ◌++◌, All, length, drop, get_or, Some, refl, sym, subst, arith, length-append, take_all}
use Rattle.std.specs.Prelude.{slice_get}
use Rattle.std.proofs.Math.Seq.{drop-length}
use Rattle.std.proofs.lemmas.List.{take-append-le, drop-append-le}
use Rattle.std.proofs.lemmas.List.Elements.{All-nil, All-append, All-weaker}
use Rattle.std.proofs.lemmas.Option.{none-some}
use Rattle.asm_frags.specs.declared.fields.Field.{Field}
use Rattle.asm_frags.specs.PlainBytes.{field_end}
use Rattle.asm_frags.specs.Writing.{LooseItem}
use Rattle.section_laws.specs.Within.{AreBetween, IsInItem, CountsItems}

-- what is there is there in front of more
get_append : {X : Type 0} (xs ys : List X) (i : ℕ) (x : X) → slice_get xs i ≡ Some x → slice_get (xs ++ ys) i ≡ Some x
get_append [] ys i x there = absurd (none-some x there)
get_append (y ∷ xs) ys zero x there = there
get_append (y ∷ xs) ys (suc i) x there = get_append xs ys i x there

-- what is put last is there
pub get_last : {X : Type 0} (xs : List X) (x : X) → slice_get (xs ++ x ∷ []) (length xs) ≡ Some x
get_last [] x = refl
get_last (y ∷ xs) x = get_last xs x

-- all items stand before what is put after them
pub all_before : (items : List LooseItem) (from to : ℕ) → All (λ item. item.offset ≤ from) items → AreBetween items (length items) from to
all_before items from to low = record {
  enough = omega arith;
  before = subst (All (λ (item : LooseItem). item.offset ≤ from)) (sym (take_all (length items) items (omega arith))) low;
  after = subst (All (λ (item : LooseItem). to ≤ item.offset)) (sym (drop-length items)) (All-nil _);
}

module _ (items later : List LooseItem) (end : ℕ) (after : All (λ item. end ≤ item.offset) later) where
  -- so they do with more items after the bytes
  between_on : (count from to : ℕ) → to ≤ end → AreBetween items count from to → AreBetween (items ++ later) count from to
  between_on count from to low between = record {
    enough = let few = between.enough in omega (arith, few, length-append items later);
    before = subst (All (λ (item : LooseItem). item.offset ≤ from)) (sym (take-append-le count items later between.enough)) between.before;
    after = subst (All (λ (item : LooseItem). to ≤ item.offset)) (sym (drop-append-le count items later between.enough))
        (All-append (λ (item : LooseItem). to ≤ item.offset) (drop count items) later between.after
        (All-weaker (λ (item : LooseItem). end ≤ item.offset) (λ (item : LooseItem). to ≤ item.offset) (λ item far. omega (arith, low, far)) later after));
  }

  -- the item of a field stays
  inside_on : (fields more : List Field) (field : Field) → IsInItem fields items field → IsInItem (fields ++ more) (items ++ later) field
  inside_on fields more field is = record {
    index = is.index;
    next = is.next;
    item = is.item;
    item_there = get_append items later is.index is.item is.item_there;
    offset = is.offset;
    number = is.number;
    field_there = get_append fields more is.number field is.field_there;
    growth = is.growth;
    content = is.content;
    suffix = is.suffix;
    role = is.role;
    size = is.size;
  }

  -- each field counts the items as before
  pub counted_on : (fields more : List Field) → All (λ field. field_end field ≤ end) fields → All (CountsItems fields items) fields
      → All (CountsItems (fields ++ more) (items ++ later)) fields
  counted_on fields more ends counted = λ k d within.
      let field = get_or fields k d in
      let counts = counted k d within in
      record {
        between = between_on field.item field.offset (field_end field) (ends k d within) counts.between;
        inside = λ in_item. inside_on fields more field (counts.inside in_item);
      }
