-- Sections that are continued: by nothing, by bytes, a field or an item; and the list by a section.
use Rattle.std.proofs.Common.{◌≡◌, ◌≢◌, ℕ, zero, suc, ◌+◌, ◌≤◌, ◌⊎◌, inl, inr, Bool, true, false, cond, List, [], ◌∷◌, ◌++◌, All, codes, length, replicate, Option, Some, set, slice_get, refl, sym, ap, subst, ◌∙◌, arith, append-nil, append_assoc, length-append}
use Rattle.std.specs.Prelude.{map}
use Rattle.std.proofs.lemmas.Option.{none-some, same_Some}
use Rattle.std.proofs.lemmas.List.{length-set}
use Rattle.std.proofs.lemmas.List.Elements.{All-from_recursion, All-nil, All-cons, All-head, All-tail, All-append, All-push, All-set, All-weaker}
use Rattle.asm_base.specs.declared.positions.Pos.{Pos}
use Rattle.asm_expr.specs.Forms.{Form}
use Rattle.item_contents.specs.declared.contents.Content.TheVariants.{Run, Growing}
use Rattle.item_contents.specs.declared.kinds.Growth.{Growth}
use Rattle.asm_frags.specs.declared.fields.Field.{Field}
use Rattle.asm_frags.specs.declared.fields.FieldSize.{FieldSize}
use Rattle.asm_frags.specs.declared.fields.FieldSize.TheVariants.{One, Two, Four, Eight}
use Rattle.asm_frags.specs.declared.roles.FieldRole.{FieldRole}
use Rattle.x86_insn.specs.declared.amounts.Suffix.{Suffix}
use Rattle.asm_frags.specs.Fields.{width, growth_role}
use Rattle.asm_frags.specs.PlainBytes.{field_end, FieldsStand}
use Rattle.asm_frags.specs.declared.flags.SectionFlags.{SectionFlags}
use Rattle.asm_frags.specs.Groups.{HasShortSignature, counted, groups_among, groups_of}
use Rattle.asm_frags.specs.SectionOf.{new_section}
use Rattle.asm_frags.specs.Sections.{section_flags, first_sections}
use Rattle.asm_frags.specs.Writing.{LooseItem, LooseSection, ends_in_run, new_item, item_behind, with_item, with_run, with_bytes, with_field, with_growing}
use Rattle.asm_values.specs.State.{nothing_placed}
use Rattle.section_laws.specs.Within.{CountsItems, IsWithin, AreWithin, PutsStayWithin}
use Rattle.asm_place.specs.Instructions.{with_more, IsContinued, Grows}
use Rattle.asm_place.specs.SourceSizes.{HasShortName, IsNoGroup, AreFewSections}

-- two numbers are one or not
pub same_or_not : (i j : ℕ) → (j ≡ i) ⊎ (j ≢ i)
same_or_not zero zero = inl refl
same_or_not zero (suc j) = inr (λ same. omega arith)
same_or_not (suc i) zero = inr (λ same. omega arith)
same_or_not (suc i) (suc j) = elim (same_or_not i j) [ inl same ↦ inl (ap suc same) | inr apart ↦ inr (λ same. apart (omega arith)) ]

module _ {X : Type 0} where
  -- what is set is there
  pub get_set : (xs : List X) (i : ℕ) (old new : X) → slice_get xs i ≡ Some old → slice_get (set xs i new) i ≡ Some new
  get_set [] i old new there = absurd (none-some old there)
  get_set (x ∷ xs) zero old new there = refl
  get_set (x ∷ xs) (suc i) old new there = get_set xs i old new there

  -- and all else is as it was
  pub get_set_other : (xs : List X) (i j : ℕ) (new : X) → j ≢ i → slice_get (set xs i new) j ≡ slice_get xs j
  get_set_other [] i j new apart = refl
  get_set_other (x ∷ xs) zero zero new apart = absurd (apart refl)
  get_set_other (x ∷ xs) zero (suc j) new apart = refl
  get_set_other (x ∷ xs) (suc i) zero new apart = refl
  get_set_other (x ∷ xs) (suc i) (suc j) new apart = get_set_other xs i j new (λ same. apart (ap suc same))

  -- what is set twice is what was set last
  pub set_twice : (xs : List X) (i : ℕ) (first last : X) → set (set xs i first) i last ≡ set xs i last
  set_twice [] i first last = refl
  set_twice (x ∷ xs) zero first last = refl
  set_twice (x ∷ xs) (suc i) first last = ap (λ rest. x ∷ rest) (set_twice xs i first last)

  -- what is there is there in front of more
  pub get_append : (xs ys : List X) (i : ℕ) (x : X) → slice_get xs i ≡ Some x → slice_get (xs ++ ys) i ≡ Some x
  get_append [] ys i x there = absurd (none-some x there)
  get_append (y ∷ xs) ys zero x there = there
  get_append (y ∷ xs) ys (suc i) x there = get_append xs ys i x there

  -- what holds of all holds of the one that is there
  pub All-there : (P : X → Type 0) (xs : List X) (i : ℕ) (x : X) → slice_get xs i ≡ Some x → All P xs → P x
  All-there P [] i x there all = absurd (none-some x there)
  All-there P (y ∷ xs) zero x there all = subst P (same_Some y x there) (All-head P y xs all)
  All-there P (y ∷ xs) (suc i) x there all = All-there P xs i x there (All-tail P y xs all)

-- as many zeros as a field has bytes
pub zeros_long : (size : FieldSize) → length {A = ℕ} (replicate (width size) 0) ≡ width size
zeros_long One = refl
zeros_long Two = refl
zeros_long Four = refl
zeros_long Eight = refl

-- what two sections tell alike, either tells
pub told_by : {Y : Type 0} (tells : LooseSection → Y) (test : Bool) (one other : LooseSection) → tells other ≡ tells one → tells (cond test one other) ≡ tells one
told_by tells true one other same = refl
told_by tells false one other same = same

-- the section with these bytes, fields and items
abbrev holding : LooseSection → List ℕ → List Field → List LooseItem → LooseSection
holding section bytes fields items = record section { bytes = bytes; fields = fields; items = items }

-- what holds the same is the same
same_holding : (section : LooseSection) (b1 b2 : List ℕ) (f1 f2 : List Field) (i1 i2 : List LooseItem) → b1 ≡ b2 → f1 ≡ f2 → i1 ≡ i2
    → holding section b1 f1 i1 ≡ holding section b2 f2 i2
same_holding section b1 b2 f1 f2 i1 i2 bytes fields items =
    ap (λ b. holding section b f1 i1) bytes ∙ (ap (λ f. holding section b2 f i1) fields ∙ ap (λ i. holding section b2 f2 i) items)

-- a section is continued by nothing,
pub continued_not : (section : LooseSection) → IsContinued section (Some section)
continued_not section = record {
  bytes = [];
  fields = [];
  items = [];
  there = ap Some (same_holding section _ _ _ _ _ _ (sym (append-nil section.bytes)) (sym (append-nil section.fields)) (sym (append-nil section.items)));
  fields_behind = All-nil _;
  items_behind = All-nil _;
}

-- and once more where it is continued
pub continued_on : (section : LooseSection) (found last : Option LooseSection) → IsContinued section found → ((s : LooseSection) → found ≡ Some s → IsContinued s last)
    → IsContinued section last
continued_on section found last one later =
    let between = with_more section one.bytes one.fields one.items in
    let two = later between one.there in
    let longer = length-append section.bytes one.bytes in
    record {
      bytes = one.bytes ++ two.bytes;
      fields = one.fields ++ two.fields;
      items = one.items ++ two.items;
      there = two.there ∙ ap Some (same_holding section _ _ _ _ _ _ (append_assoc section.bytes one.bytes two.bytes)
          (append_assoc section.fields one.fields two.fields) (append_assoc section.items one.items two.items));
      fields_behind = All-append (λ (field : Field). length section.bytes ≤ field.offset) one.fields two.fields one.fields_behind
          (All-weaker (λ (field : Field). length (section.bytes ++ one.bytes) ≤ field.offset) (λ (field : Field). length section.bytes ≤ field.offset)
          (λ field behind. omega (arith, longer, behind)) two.fields two.fields_behind);
      items_behind = All-append (λ (item : LooseItem). length section.bytes ≤ item.offset) one.items two.items one.items_behind
          (All-weaker (λ (item : LooseItem). length (section.bytes ++ one.bytes) ≤ item.offset) (λ (item : LooseItem). length section.bytes ≤ item.offset)
          (λ item behind. omega (arith, longer, behind)) two.items two.items_behind);
    }

-- what is put into a section continues it, and keeps its fields and items within its bytes
pub record IsAdded (section new : LooseSection) : Type 0 where
  pub continued : IsContinued section (Some new)
  pub within : PutsStayWithin → IsWithin section → IsWithin new

-- the same of sections, of which few with short names stay few with short names
pub record Adds (before after : List LooseSection) : Type 0 where
  pub grows : Grows before after
  pub within : PutsStayWithin → AreWithin before → AreWithin after
  pub few : AreFewSections before → AreFewSections after

-- nothing is put
grows_not : (sections : List LooseSection) → Grows sections sections
grows_not sections = record { kept = λ number section there. subst (IsContinued section) (sym there) (continued_not section) }

-- what grows twice grows
grows_on : (before between after : List LooseSection) → Grows before between → Grows between after → Grows before after
grows_on before between after first later = record {
  kept = λ number section there. continued_on section _ _ (first.kept number section there) (λ s is. later.kept number s is);
}

-- one section is continued
grows_by : (before : List LooseSection) (number : ℕ) (section new : LooseSection) → slice_get before number ≡ Some section → IsContinued section (Some new)
    → Grows before (set before number new)
grows_by before number section new there continued = record {
  kept = λ other found at. elim (same_or_not number other) [
    | inl same ↦
        let is : section ≡ found = same_Some section found (sym there ∙ (ap (slice_get before) (sym same) ∙ at)) in
        let last : slice_get (set before number new) other ≡ Some new = ap (slice_get (set before number new)) same ∙ get_set before number section new there in
        subst (IsContinued found) (sym last) (subst (λ s. IsContinued s (Some new)) is continued)
    | inr apart ↦ subst (IsContinued found) (sym (get_set_other before number other new apart ∙ at)) (continued_not found)
  ];
}

-- what an element tells is told of the one that is set in its place
map_set : {X Y : Type 0} (tells : X → Y) (xs : List X) (i : ℕ) (old new : X) → slice_get xs i ≡ Some old → tells new ≡ tells old → map tells (set xs i new) ≡ map tells xs
map_set tells [] i old new there same = absurd (none-some old there)
map_set tells (x ∷ xs) zero old new there same = ap (λ told. told ∷ map tells xs) (same ∙ sym (ap tells (same_Some x old there)))
map_set tells (x ∷ xs) (suc i) old new there same = ap (λ rest. tells x ∷ rest) (map_set tells xs i old new there same)

-- the groups stay where a section of the same group is set
groups_set : (before : List LooseSection) (number : ℕ) (section new : LooseSection) → slice_get before number ≡ Some section → new.group ≡ section.group
    → groups_of (set before number new) ≡ groups_of before
unfolding groups_of
groups_set before number section new there same = ap groups_among (map_set (λ (s : LooseSection). s.group) before number section new there same)

-- sections that stay
pub adds_nothing : (sections : List LooseSection) → Adds sections sections
adds_nothing sections = record { grows = grows_not sections; within = λ law all. all; few = λ few. few }

-- what is added to twice is added to
pub adds_on : (before between after : List LooseSection) → Adds before between → Adds between after → Adds before after
adds_on before between after first later = record {
  grows = grows_on before between after first.grows later.grows;
  within = λ law all. later.within law (first.within law all);
  few = λ few. later.few (first.few few);
}

-- something is put into one section
pub adds_to : (before : List LooseSection) (number : ℕ) (section new : LooseSection) → slice_get before number ≡ Some section → IsAdded section new
    → Adds before (set before number new)
adds_to before number section new there added = record {
  grows = grows_by before number section new there added.continued;
  within = λ law all. All-set IsWithin before number new (added.within law (All-there IsWithin before number section there all)) all;
  few = λ few.
      let count = few.few in
      let more = same_Some new (with_more section added.continued.bytes added.continued.fields added.continued.items) added.continued.there in
      let name : new.name ≡ section.name = ap (λ (s : LooseSection). s.name) more in
      let same = groups_set before number section new there (ap (λ (s : LooseSection). s.group) more) in
      let groups = ap length same in
      let short = All-there HasShortName before number section there few.named in
      let kind : new.kind ≡ section.kind = ap (λ (s : LooseSection). s.kind) more in
      let other = All-there IsNoGroup before number section there few.kinds in
      record {
        few = omega (arith, count, groups, length-set before number new);
        named = All-set HasShortName before number new (omega (arith, short, ap length name)) few.named;
        signatures = subst (All HasShortSignature) (sym same) few.signatures;
        kinds = All-set IsNoGroup before number new (λ is. other (sym kind ∙ is)) few.kinds;
      };
}

-- a section more, which has no fields and no items, a short name, and the type of no group where all others have; and there was room for it
pub adds_section : (before : List LooseSection) (new : LooseSection) → new.fields ≡ [] → new.items ≡ [] → counted (before ++ new ∷ []) ≤ 30003 → HasShortName new
    → (All HasShortSignature (groups_of before) → All HasShortSignature (groups_of (before ++ new ∷ [])))
    → (All IsNoGroup before → IsNoGroup new)
    → Adds before (before ++ new ∷ [])
adds_section before new no_fields no_items room short signed other = record {
  grows = record { kept = λ number section there. subst (IsContinued section) (sym (get_append before (new ∷ []) number section there)) (continued_not section) };
  within = λ law all. All-push IsWithin before new all (record {
    fields = subst (All (λ (field : Field). field_end field ≤ length new.bytes)) (sym no_fields) (All-nil _);
    apart = subst (FieldsStand new.bytes 0) (sym no_fields) tt;
    items = subst (All (λ (item : LooseItem). item.offset ≤ length new.bytes)) (sym no_items) (All-nil _);
    counted = subst (All (CountsItems new.fields new.items)) (sym no_fields) (All-nil _);
  });
  few = λ few. record {
    few = room;
    named = All-push HasShortName before new few.named short;
    signatures = signed few.signatures;
    kinds = All-push IsNoGroup before new few.kinds (other few.kinds);
  };
}

-- an item
pub item_added : (item : LooseItem) (section : LooseSection) → IsAdded section (with_item item section)
item_added item section = record {
  continued = record {
    bytes = [];
    fields = [];
    items = item_behind (length section.bytes) item ∷ [];
    there = ap Some (same_holding section _ _ _ _ _ _ (sym (append-nil section.bytes)) (sym (append-nil section.fields)) refl);
    fields_behind = All-nil _;
    items_behind = All-cons (λ (item : LooseItem). length section.bytes ≤ item.offset) _ [] (omega arith) (All-nil _);
  };
  within = λ law within. law.item item section within;
}

-- an item that grows, and its field in it
abbrev growing_field : Pos → ℕ → Growth → Option Suffix → Form → LooseSection → Field
growing_field pos number kind suffix form section = record {
  pos = pos;
  item = length section.items + 1;
  offset = length section.bytes;
  section = number;
  size = Four;
  role = growth_role kind suffix;
  in_item = true;
  form = form;
}

-- with its field it is put last
pub growing_added : (pos : Pos) (number : ℕ) (kind : Growth) (suffix : Option Suffix) (form : Form) (section : LooseSection)
    → IsAdded section (with_growing pos number kind suffix form section)
growing_added pos number kind suffix form section = record {
  continued = record {
    bytes = [];
    fields = growing_field pos number kind suffix form section ∷ [];
    items = item_behind (length section.bytes) (new_item pos (Growing (record { kind = kind; field = length section.fields }))) ∷ [];
    there = ap Some (same_holding section _ _ _ _ _ _ (sym (append-nil section.bytes)) refl refl);
    fields_behind = All-cons (λ (field : Field). length section.bytes ≤ field.offset) _ [] (omega arith) (All-nil _);
    items_behind = All-cons (λ (item : LooseItem). length section.bytes ≤ item.offset) _ [] (omega arith) (All-nil _);
  };
  within = λ law within. law.growing pos number kind suffix form section within;
}

-- a run changes neither the bytes nor the fields, nor what the section says of itself
pub run_keeps : {Y : Type 0} (tells : LooseSection → Y) (pos : Pos) (section : LooseSection) → tells (with_item (new_item pos Run) section) ≡ tells section
    → tells (with_run pos section) ≡ tells section
run_keeps tells pos section same = told_by tells (ends_in_run section.items) section (with_item (new_item pos Run) section) same

-- where all items stand within the bytes, the run does too
run_low : (test : Bool) (pos : Pos) (section : LooseSection) → All (λ item. item.offset ≤ length section.bytes) section.items
    → All (λ item. item.offset ≤ length section.bytes) (cond test section (with_item (new_item pos Run) section)).items
run_low true pos section low = low
run_low false pos section low = All-push (λ (item : LooseItem). item.offset ≤ length section.bytes) section.items _ low (omega arith)

pub run_within : (pos : Pos) (section : LooseSection) → All (λ item. item.offset ≤ length section.bytes) section.items
    → All (λ item. item.offset ≤ length section.bytes) (with_run pos section).items
run_within pos section low = run_low (ends_in_run section.items) pos section low

-- a run, where none is last
run_by : (test : Bool) (pos : Pos) (section : LooseSection) → IsContinued section (Some (cond test section (with_item (new_item pos Run) section)))
run_by true pos section = continued_not section
run_by false pos section = (item_added (new_item pos Run) section).continued

-- bytes, and fields over them, go on with the run that is last, or a new one
more_continued : (pos : Pos) (section new : LooseSection) (bytes : List ℕ) (fields : List Field) → All (λ field. length section.bytes ≤ field.offset) fields
    → with_more (with_run pos section) bytes fields [] ≡ new → IsContinued section (Some new)
more_continued pos section new bytes fields behind is =
    let run = with_run pos section in
    let same : length run.bytes ≡ length section.bytes = run_keeps (λ s. length s.bytes) pos section refl in
    continued_on section (Some run) (Some new) (run_by (ends_in_run section.items) pos section)
    (λ s there. subst (λ s. IsContinued s (Some new)) (same_Some run s there)
    (record {
      bytes = bytes;
      fields = fields;
      items = [];
      there = ap Some (sym is);
      fields_behind = subst (λ n. All (λ (field : Field). n ≤ field.offset) fields) (sym same) behind;
      items_behind = All-nil _;
    }))

-- bytes that are put
pub bytes_added : (pos : Pos) (more : List ℕ) (section : LooseSection) → IsAdded section (with_bytes pos more section)
bytes_added pos more section = record {
  continued = more_continued pos section _ more [] (All-nil _)
      (same_holding (with_run pos section) _ _ _ _ _ _ (ap (λ bytes. bytes ++ more) (run_keeps (λ s. s.bytes) pos section refl))
      (append-nil (with_run pos section).fields) (append-nil (with_run pos section).items));
  within = λ law within. law.bytes pos more section within;
}

-- a field over zeros
abbrev field_of : Pos → ℕ → FieldSize → FieldRole → Form → LooseSection → Field
field_of pos number size role form section =
    record { pos = pos; item = length (with_run pos section).items; offset = length section.bytes; section = number; size = size; role = role; in_item = false; form = form }

-- a field that is put
pub field_added : (pos : Pos) (number : ℕ) (size : FieldSize) (role : FieldRole) (form : Form) (section : LooseSection) → IsAdded section (with_field pos number size role form section)
field_added pos number size role form section = record {
  continued = more_continued pos section _ (replicate (width size) 0) (field_of pos number size role form section ∷ [])
      (All-cons (λ (field : Field). length section.bytes ≤ field.offset) _ [] (omega arith) (All-nil _))
      (same_holding (with_run pos section) _ _ _ _ _ _ (ap (λ bytes. bytes ++ replicate (width size) 0) (run_keeps (λ s. s.bytes) pos section refl))
      (ap (λ fields. fields ++ field_of pos number size role form section ∷ []) (run_keeps (λ s. s.fields) pos section refl)) (append-nil (with_run pos section).items));
  within = λ law within. law.field pos number size role form section within;
}

-- a new section has neither fields nor items, and so have the first ones
new_within : (name : List ℕ) (flags : SectionFlags) (kind entry_size : ℕ) → IsWithin (new_section name flags kind entry_size)
new_within name flags kind entry_size = record {
  fields = All-nil (λ (field : Field). field_end field ≤ 0);
  apart = tt;
  items = All-nil (λ (item : LooseItem). item.offset ≤ 0);
  counted = All-nil _;
}

-- they hold all that they have
pub nothing_within : (no_warn : Bool) → AreWithin (nothing_placed no_warn).sections
unfolding first_sections
nothing_within no_warn =
    All-from_recursion IsWithin first_sections
    (new_within (codes ".text") (section_flags 6) 1 0, (new_within (codes ".data") (section_flags 3) 1 0, (new_within (codes ".bss") (section_flags 3) 8 0, tt)))

-- the first sections are few, their names short, and their types those of no group
pub nothing_few : (no_warn : Bool) → AreFewSections (nothing_placed no_warn).sections
unfolding first_sections groups_of
nothing_few no_warn = record {
  few = omega arith;
  named = All-from_recursion HasShortName first_sections (omega arith, (omega arith, (omega arith, tt)));
  signatures = All-nil HasShortSignature;
  kinds = All-from_recursion IsNoGroup first_sections ((λ same. omega (arith, same)), ((λ same. omega (arith, same)), ((λ same. omega (arith, same)), tt)));
}
