-- What each way to put something makes of a section whose parts stand within its bytes.
use Rattle.std.proofs.Common.{ℕ, ◌+◌, ◌≤◌, Bool, true, false, cond, List, [], ◌∷◌, ◌++◌, All, length, replicate, Option, refl, subst, arith, append-nil, length-append}
use Rattle.std.proofs.lemmas.List.{length-replicate}
use Rattle.std.proofs.lemmas.List.Elements.{All-nil, All-cons, All-push, All-weaker}
use Rattle.asm_base.specs.declared.positions.Pos.{Pos}
use Rattle.asm_expr.specs.Forms.{Form}
use Rattle.x86_insn.specs.declared.amounts.Suffix.{Suffix}
use Rattle.item_contents.specs.declared.contents.Content.TheVariants.{Run, Growing}
use Rattle.item_contents.specs.declared.kinds.Growth.{Growth}
use Rattle.asm_frags.specs.declared.fields.Field.{Field}
use Rattle.asm_frags.specs.declared.fields.FieldSize.{FieldSize}
use Rattle.asm_frags.specs.declared.fields.FieldSize.TheVariants.{Four}
use Rattle.asm_frags.specs.declared.roles.FieldRole.{FieldRole}
use Rattle.asm_frags.specs.Fields.{width, growth_role}
use Rattle.asm_frags.specs.PlainBytes.{field_end, FieldsStand}
use Rattle.asm_frags.specs.Writing.{LooseItem, LooseSection, ends_in_run, new_item, item_behind, with_item, with_growing}
use Rattle.section_laws.specs.Within.{AreBetween, CountsItems, IsWithin, PutsStayWithin}
use Rattle.section_laws.proofs.Counting.{get_last, all_before, counted_on}
use Rattle.section_laws.proofs.FieldOrder.{stand_more, stand_both, stand_last}

-- an item that is put last stands after all bytes
one_after : (bytes : ℕ) (item : LooseItem) → All (λ item. bytes ≤ item.offset) (item_behind bytes item ∷ [])
one_after bytes item = All-cons (λ (item : LooseItem). bytes ≤ item.offset) (item_behind bytes item) [] (omega arith) (All-nil _)

-- an item
item_within : (item : LooseItem) (section : LooseSection) → IsWithin section → IsWithin (with_item item section)
item_within item section within =
    let put = item_behind (length section.bytes) item in
    record {
      fields = within.fields;
      apart = within.apart;
      items = All-push (λ (item : LooseItem). item.offset ≤ length section.bytes) section.items put within.items (omega arith);
      counted = subst (λ (fields : List Field). All (CountsItems fields (section.items ++ put ∷ [])) section.fields) (append-nil section.fields)
          (counted_on section.items (put ∷ []) (length section.bytes) (one_after (length section.bytes) item) section.fields [] within.fields within.counted);
    }

-- an item that grows, with its field
growing_within : (pos : Pos) (number : ℕ) (kind : Growth) (suffix : Option Suffix) (form : Form) (section : LooseSection) → IsWithin section
    → IsWithin (with_growing pos number kind suffix form section)
growing_within pos number kind suffix form section within =
    let bytes = length section.bytes in
    let item = new_item pos (Growing (record { kind = kind; field = length section.fields })) in
    let put = item_behind bytes item in
    let items = All-push (λ (item : LooseItem). item.offset ≤ bytes) section.items put within.items (omega arith) in
    let field : Field = record {
      pos = pos;
      item = length section.items + 1;
      offset = bytes;
      section = number;
      size = Four;
      role = growth_role kind suffix;
      in_item = true;
      form = form;
    } in
    record {
      fields = All-push (λ (field : Field). field_end field ≤ bytes) section.fields field within.fields (omega arith);
      apart = stand_both section.bytes 0 bytes section.fields (field ∷ []) (omega arith) within.fields within.apart
          (λ at before. subst (λ (bytes : List ℕ). FieldsStand bytes at (field ∷ [])) (append-nil section.bytes) (stand_last section.bytes field refl at before));
      items = items;
      counted = All-push (CountsItems (section.fields ++ field ∷ []) (section.items ++ put ∷ [])) section.fields field
          (counted_on section.items (put ∷ []) bytes (one_after bytes item) section.fields (field ∷ []) within.fields within.counted)
          (record {
            between = subst (λ (count : ℕ). AreBetween (section.items ++ put ∷ []) count bytes (bytes + 0)) (length-append section.items (put ∷ []))
                (all_before (section.items ++ put ∷ []) bytes (bytes + 0) items);
            inside = λ in_item. record {
              index = length section.items;
              next = omega arith;
              item = put;
              item_there = get_last section.items put;
              offset = refl;
              number = length section.fields;
              field_there = get_last section.fields field;
              growth = kind;
              content = refl;
              suffix = suffix;
              role = refl;
              size = refl;
            };
          });
    }

-- bytes go on with the run that is last
more_within : (section : LooseSection) (more : List ℕ) → IsWithin section → IsWithin (record section { bytes = section.bytes ++ more })
more_within section more within =
    let longer = length-append section.bytes more in
    record {
      fields = All-weaker (λ (field : Field). field_end field ≤ length section.bytes) (λ (field : Field). field_end field ≤ length (section.bytes ++ more))
          (λ field ends. omega (arith, longer, ends)) section.fields within.fields;
      apart = stand_more section.bytes more 0 section.fields within.apart;
      items = All-weaker (λ (item : LooseItem). item.offset ≤ length section.bytes) (λ (item : LooseItem). item.offset ≤ length (section.bytes ++ more))
          (λ item stands. omega (arith, longer, stands)) section.items within.items;
      counted = within.counted;
    }

-- so does a field over zeros, which counts all items
module _ (pos : Pos) (number : ℕ) (size : FieldSize) (role : FieldRole) (form : Form) where
  abbrev last_field : LooseSection → Field
  last_field section =
      record { pos = pos; item = length section.items; offset = length section.bytes; section = number; size = size; role = role; in_item = false; form = form }

  field_within : (section : LooseSection) → IsWithin section
      → IsWithin (record section { bytes = section.bytes ++ replicate (width size) 0; fields = section.fields ++ last_field section ∷ [] })
  field_within section within =
      let zeros : List ℕ = replicate (width size) 0 in
      let field = last_field section in
      let more = more_within section zeros within in
      record {
        fields = All-push (λ (field : Field). field_end field ≤ length (section.bytes ++ zeros)) section.fields field more.fields
            (omega (arith, length-append section.bytes zeros, length-replicate {A = ℕ} (width size) 0));
        apart = stand_both (section.bytes ++ zeros) 0 (length section.bytes) section.fields (field ∷ []) (omega arith) within.fields more.apart
            (stand_last section.bytes field refl);
        items = more.items;
        counted = All-push (CountsItems (section.fields ++ field ∷ []) section.items) section.fields field
            (subst (λ (items : List LooseItem). All (CountsItems (section.fields ++ field ∷ []) items) section.fields) (append-nil section.items)
            (counted_on section.items [] (length section.bytes) (All-nil _) section.fields (field ∷ []) within.fields within.counted))
            (record {
              between = all_before section.items (length section.bytes) (length section.bytes + width size) within.items;
              inside = λ in_item. absurd (let none : ⊥ = cc in none);
            });
      }

  -- after a run, which is there or new
  field_by : (test : Bool) (section : LooseSection) → IsWithin section
      → let run = cond test section (with_item (new_item pos Run) section) in
      IsWithin (record run {
        bytes = section.bytes ++ replicate (width size) 0;
        fields = section.fields ++ record { pos = pos; item = length run.items; offset = length section.bytes; section = number; size = size; role = role; in_item = false; form = form } ∷ [];
      })
  field_by true section within = field_within section within
  field_by false section within = field_within (with_item (new_item pos Run) section) (item_within (new_item pos Run) section within)

-- the same of bytes,
bytes_by : (test : Bool) (pos : Pos) (more : List ℕ) (section : LooseSection) → IsWithin section
    → IsWithin (record (cond test section (with_item (new_item pos Run) section)) { bytes = section.bytes ++ more })
bytes_by true pos more section within = more_within section more within
bytes_by false pos more section within = more_within (with_item (new_item pos Run) section) more (item_within (new_item pos Run) section within)

-- and of the run alone
run_by : (test : Bool) (pos : Pos) (section : LooseSection) → IsWithin section → IsWithin (cond test section (with_item (new_item pos Run) section))
run_by true pos section within = within
run_by false pos section within = item_within (new_item pos Run) section within

pub puts_stay_within : PutsStayWithin
puts_stay_within = record {
  run = λ pos section within. run_by (ends_in_run section.items) pos section within;
  bytes = λ pos more section within. bytes_by (ends_in_run section.items) pos more section within;
  field = λ pos number size role form section within. field_by pos number size role form (ends_in_run section.items) section within;
  item = item_within;
  growing = growing_within;
}
