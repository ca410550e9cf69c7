-- What is put extends its section, and leaves all others as they are.
use Rattle.std.proofs.Common.{◌≡◌, ℕ, zero, suc, ◌+◌, ◌<◌, ◌≤◌, ◌==◌, Bool, true, false, List, [], ◌∷◌, ◌++◌, length, Option, None, Some, if◌then◌else◌, replicate, refl, sym, ap, subst, ◌∙◌, arith, length-append, eq-eqb}
use Rattle.std.specs.Prelude.{All, slice_set}
use Rattle.std.specs.List.{slice_get}
use Rattle.std.proofs.lemmas.Bool.{eqb-true}
use Rattle.std.proofs.lemmas.List.{append-nil, append_assoc, length-set, get_or-set_same}
use Rattle.std.proofs.lemmas.List.Elements.{All-nil, All-cons, All-append}
use Rattle.std.proofs.lemmas.Option.{slice_get-get_or, slice_get_within}
use Rattle.asm_base.specs.declared.positions.Pos.{Pos}
use Rattle.asm_expr.specs.Forms.{Form}
use Rattle.asm_frags.specs.declared.fields.Field.{Field}
use Rattle.asm_frags.specs.declared.fields.FieldSize.{FieldSize}
use Rattle.asm_frags.specs.declared.fields.FieldSize.TheVariants.{Four, Eight}
use Rattle.asm_frags.specs.declared.roles.FieldRole.{FieldRole}
use Rattle.asm_frags.specs.Addresses.{changed_there, changed_at}
use Rattle.asm_frags.specs.Fields.{width, data_role, growth_role}
use Rattle.asm_frags.specs.Writing.{LooseItem, LooseSection, ends_in_run, new_item, item_behind, with_item, with_run, with_bytes, with_field, with_growing}
use Rattle.item_contents.specs.declared.contents.Content.TheVariants.{Run, Align, Growing}
use Rattle.item_contents.specs.declared.kinds.Growth.{Growth}
use Rattle.item_contents.specs.declared.kinds.Growth.TheVariants as growth
use Rattle.item_contents.specs.ItemParts.{zeros_up_to}
use Rattle.table_pieces.specs.Marks.{distance_form, address_form}
use Rattle.table_pieces.specs.Pieces as put
use Rattle.table_pieces.specs.Pieces.{Piece, plain, number, pointer, advance, leb128, padding, from_here, Tables, piece_put, pieces_put}
use Rattle.table_pieces.specs.Standing.{Extends, OneExtends, AllExtend, Extensions}

-- ONE SECTION

pub extends_same : (held : LooseSection) → Extends held held
extends_same held = record {
  bytes = [];
  fields = [];
  items = [];
  all_bytes = sym (append-nil held.bytes);
  all_fields = sym (append-nil held.fields);
  all_items = sym (append-nil held.items);
  fields_behind = All-nil (λ (field : Field). length held.bytes ≤ field.offset);
  items_behind = All-nil (λ (item : LooseItem). length held.bytes ≤ item.offset);
  name = refl;
  flags = refl;
  kind = refl;
  entry_size = refl;
  group = refl;
}

joined : {X : Type 0} (before middle after more further : List X) → middle ≡ before ++ more → after ≡ middle ++ further → after ≡ before ++ (more ++ further)
joined before middle after more further one other = other ∙ ap (λ all. all ++ further) one ∙ append_assoc before more further

extends_on : (before middle after : LooseSection) → Extends before middle → Extends middle after → Extends before after
extends_on before middle after one other =
    let longer : length before.bytes ≤ length middle.bytes =
    (let long : length middle.bytes ≡ length before.bytes + length one.bytes = ap length one.all_bytes ∙ length-append before.bytes one.bytes in omega (arith, long)) in
    record {
      bytes = one.bytes ++ other.bytes;
      fields = one.fields ++ other.fields;
      items = one.items ++ other.items;
      all_bytes = joined before.bytes middle.bytes after.bytes one.bytes other.bytes one.all_bytes other.all_bytes;
      all_fields = joined before.fields middle.fields after.fields one.fields other.fields one.all_fields other.all_fields;
      all_items = joined before.items middle.items after.items one.items other.items one.all_items other.all_items;
      fields_behind = All-append (λ (field : Field). length before.bytes ≤ field.offset) one.fields other.fields one.fields_behind
          (λ k d within. let far = other.fields_behind k d within in omega (arith, longer, far));
      items_behind = All-append (λ (item : LooseItem). length before.bytes ≤ item.offset) one.items other.items one.items_behind
          (λ k d within. let far = other.items_behind k d within in omega (arith, longer, far));
      name = other.name ∙ one.name;
      flags = other.flags ∙ one.flags;
      kind = other.kind ∙ one.kind;
      entry_size = other.entry_size ∙ one.entry_size;
      group = other.group ∙ one.group;
    }

-- the section with a run last, if it has none
abbrev run_if : Bool → Pos → LooseSection → LooseSection
run_if in_run pos held = if in_run then held else with_item (new_item pos Run) held

one_item : (held : LooseSection) (item : LooseItem) → All (λ other. length held.bytes ≤ other.offset) (item_behind (length held.bytes) item ∷ [])
one_item held item =
    All-cons (λ (other : LooseItem). length held.bytes ≤ other.offset) (item_behind (length held.bytes) item) []
    (let same : length held.bytes ≤ length held.bytes = omega arith in same) (All-nil (λ (other : LooseItem). length held.bytes ≤ other.offset))

-- plain bytes and fields over them are put behind a run
run_extends : (in_run : Bool) (pos : Pos) (held : LooseSection) (more : List ℕ) (fields : List Field) → All (λ field. length held.bytes ≤ field.offset) fields
    → Extends held (record (run_if in_run pos held) { bytes = held.bytes ++ more; fields = held.fields ++ fields })
run_extends true pos held more fields behind = record {
  bytes = more;
  fields = fields;
  items = [];
  all_bytes = refl;
  all_fields = refl;
  all_items = sym (append-nil held.items);
  fields_behind = behind;
  items_behind = All-nil (λ (item : LooseItem). length held.bytes ≤ item.offset);
  name = refl;
  flags = refl;
  kind = refl;
  entry_size = refl;
  group = refl;
}
run_extends false pos held more fields behind = record {
  bytes = more;
  fields = fields;
  items = item_behind (length held.bytes) (new_item pos Run) ∷ [];
  all_bytes = refl;
  all_fields = refl;
  all_items = refl;
  fields_behind = behind;
  items_behind = one_item held (new_item pos Run);
  name = refl;
  flags = refl;
  kind = refl;
  entry_size = refl;
  group = refl;
}

bytes_if : (in_run : Bool) (pos : Pos) (held : LooseSection) (more : List ℕ) → Extends held (record (run_if in_run pos held) { bytes = held.bytes ++ more })
bytes_if true pos held more = record {
  bytes = more;
  fields = [];
  items = [];
  all_bytes = refl;
  all_fields = sym (append-nil held.fields);
  all_items = sym (append-nil held.items);
  fields_behind = All-nil (λ (field : Field). length held.bytes ≤ field.offset);
  items_behind = All-nil (λ (item : LooseItem). length held.bytes ≤ item.offset);
  name = refl;
  flags = refl;
  kind = refl;
  entry_size = refl;
  group = refl;
}
bytes_if false pos held more = record {
  bytes = more;
  fields = [];
  items = item_behind (length held.bytes) (new_item pos Run) ∷ [];
  all_bytes = refl;
  all_fields = sym (append-nil held.fields);
  all_items = refl;
  fields_behind = All-nil (λ (field : Field). length held.bytes ≤ field.offset);
  items_behind = one_item held (new_item pos Run);
  name = refl;
  flags = refl;
  kind = refl;
  entry_size = refl;
  group = refl;
}

pub bytes_extend : (pos : Pos) (more : List ℕ) (held : LooseSection) → Extends held (with_bytes pos more held)
bytes_extend pos more held = bytes_if (ends_in_run held.items) pos held more

one_field : (held : LooseSection) (field : Field) → field.offset ≡ length held.bytes → All (λ field. length held.bytes ≤ field.offset) (field ∷ [])
one_field held field at =
    All-cons (λ (field : Field). length held.bytes ≤ field.offset) field [] (omega (arith, at)) (All-nil (λ (field : Field). length held.bytes ≤ field.offset))

pub field_extends : (pos : Pos) (section : ℕ) (size : FieldSize) (role : FieldRole) (form : Form) (held : LooseSection)
    → Extends held (with_field pos section size role form held)
field_extends pos section size role form held =
    let made : Field = record {
      pos = pos;
      item = length (with_run pos held).items;
      offset = length held.bytes;
      section = section;
      size = size;
      role = role;
      in_item = false;
      form = form;
    } in
    run_extends (ends_in_run held.items) pos held (replicate (width size) 0) (made ∷ []) (one_field held made refl)

pub growing_extends : (pos : Pos) (section : ℕ) (kind : Growth) (form : Form) (held : LooseSection) → Extends held (with_growing pos section kind None form held)
growing_extends pos section kind form held =
    let made : Field = record {
      pos = pos;
      item = length held.items + 1;
      offset = length held.bytes;
      section = section;
      size = Four;
      role = growth_role kind None;
      in_item = true;
      form = form;
    } in
    let item : LooseItem = new_item pos (Growing (record { kind = kind; field = length held.fields })) in
    record {
      bytes = [];
      fields = made ∷ [];
      items = item_behind (length held.bytes) item ∷ [];
      all_bytes = sym (append-nil held.bytes);
      all_fields = refl;
      all_items = refl;
      fields_behind = one_field held made refl;
      items_behind = one_item held item;
      name = refl;
      flags = refl;
      kind = refl;
      entry_size = refl;
      group = refl;
    }

pub item_extends : (item : LooseItem) (held : LooseSection) → Extends held (with_item item held)
item_extends item held = record {
  bytes = [];
  fields = [];
  items = item_behind (length held.bytes) item ∷ [];
  all_bytes = sym (append-nil held.bytes);
  all_fields = sym (append-nil held.fields);
  all_items = refl;
  fields_behind = All-nil (λ (field : Field). length held.bytes ≤ field.offset);
  items_behind = one_item held item;
  name = refl;
  flags = refl;
  kind = refl;
  entry_size = refl;
  group = refl;
}

-- ALL SECTIONS

set_other : {X : Type 0} (xs : List X) (i j : ℕ) (x : X) → (j ≡ i → ⊥) → slice_get (slice_set xs i x) j ≡ slice_get xs j
set_other [] i j x apart = refl
set_other (y ∷ ys) zero zero x apart = absurd (apart refl)
set_other (y ∷ ys) zero (suc j) x apart = refl
set_other (y ∷ ys) (suc i) zero x apart = refl
set_other (y ∷ ys) (suc i) (suc j) x apart = set_other ys i j x (λ is. apart (ap suc is))

pub set_there : (xs : List LooseSection) (i : ℕ) (x y : LooseSection) → slice_get xs i ≡ Some y → slice_get (slice_set xs i x) i ≡ Some x
set_there xs i x y is =
    let within : i < length xs = slice_get_within xs i y is in
    slice_get-get_or (slice_set xs i x) i y (subst (λ (n : ℕ). i < n) (sym (length-set xs i x)) within) ∙ ap Some (get_or-set_same xs i x y within)

pub one_same : (section : ℕ) (sections : List LooseSection) → OneExtends section sections sections
one_same section sections = record { count = refl; others = λ other apart. refl; there = λ held is. (held, is, extends_same held) }

pub one_on : (section : ℕ) (before middle after : List LooseSection) → OneExtends section before middle → OneExtends section middle after
    → OneExtends section before after
one_on section before middle after one other = record {
  count = other.count ∙ one.count;
  others = λ at apart. other.others at apart ∙ one.others at apart;
  there = λ held is. on held (one.there held is);
}
  where
    on : (held : LooseSection) → (now : LooseSection) × (slice_get middle section ≡ Some now) × Extends held now
        → (now : LooseSection) × (slice_get after section ≡ Some now) × Extends held now
    on held (now, is, extends) = further (other.there now is)
      where
        further : (last : LooseSection) × (slice_get after section ≡ Some last) × Extends now last
            → (now : LooseSection) × (slice_get after section ≡ Some now) × Extends held now
        further (last, at, more) = (last, at, extends_on held now last extends more)

changed_extends : (change : LooseSection → LooseSection) → ((held : LooseSection) → Extends held (change held)) → (section : ℕ) (sections : List LooseSection)
    → OneExtends section sections (changed_at change sections section)
changed_extends change extends section sections = by (slice_get sections section) refl
  where
    by : (found : Option LooseSection) → slice_get sections section ≡ found → OneExtends section sections (changed_there change sections section found)
    by None is = one_same section sections
    by (Some held) is = record {
      count = length-set sections section (change held);
      others = λ other apart. set_other sections section other (change held) apart;
      there = λ one there. (
        change held,
        set_there sections section (change held) held is,
        subst (λ (one : LooseSection). Extends one (change held)) (let same : Some held ≡ Some one = sym is ∙ there in let inner : held ≡ one = cc in inner) (extends held),
      );
    }

pub piece_extends : (section : ℕ) (pos : Pos) (piece : Piece) (tables : Tables) → OneExtends section tables.sections (piece_put section pos piece tables).sections
piece_extends section pos (plain bytes) tables = changed_extends (with_bytes pos bytes) (bytes_extend pos bytes) section tables.sections
piece_extends section pos (number distance) tables =
    changed_extends (with_field pos section Four data_role (distance_form tables.symbols distance)) (field_extends pos section Four data_role (distance_form tables.symbols distance))
    section tables.sections
piece_extends section pos (pointer place) tables =
    changed_extends (with_field pos section Four data_role (distance_form tables.symbols (from_here place)))
    (field_extends pos section Four data_role (distance_form tables.symbols (from_here place))) section tables.sections
piece_extends section pos (put.address place) tables =
    changed_extends (with_field pos section Eight data_role (address_form tables.symbols place)) (field_extends pos section Eight data_role (address_form tables.symbols place))
    section tables.sections
piece_extends section pos (put.field size form) tables =
    changed_extends (with_field pos section size data_role form) (field_extends pos section size data_role form) section tables.sections
piece_extends section pos (advance distance) tables =
    changed_extends (with_growing pos section growth.Advance None (distance_form tables.symbols distance))
    (growing_extends pos section growth.Advance (distance_form tables.symbols distance)) section tables.sections
piece_extends section pos (leb128 distance) tables =
    changed_extends (with_growing pos section (growth.Leb128 false) None (distance_form tables.symbols distance))
    (growing_extends pos section (growth.Leb128 false) (distance_form tables.symbols distance)) section tables.sections
piece_extends section pos (padding log) tables =
    changed_extends (with_item (new_item pos (Align (zeros_up_to log)))) (item_extends (new_item pos (Align (zeros_up_to log)))) section tables.sections

pub pieces_extend : (section : ℕ) (pos : Pos) (pieces : List Piece) (tables : Tables) → OneExtends section tables.sections (pieces_put section pos pieces tables).sections
pieces_extend section pos [] tables = one_same section tables.sections
pieces_extend section pos (piece ∷ pieces) tables =
    one_on section tables.sections (piece_put section pos piece tables).sections (pieces_put section pos pieces (piece_put section pos piece tables)).sections
    (piece_extends section pos piece tables) (pieces_extend section pos pieces (piece_put section pos piece tables))

-- each section is extended where one is
pub each_extends : (section : ℕ) (before after : List LooseSection) → OneExtends section before after → AllExtend before after
each_extends section before after extends other held is = by (other == section) refl
  where
    by : (same : Bool) → (other == section) ≡ same → (now : LooseSection) × (slice_get after other ≡ Some now) × Extends held now
    by true same =
        subst (λ (n : ℕ). (now : LooseSection) × (slice_get after n ≡ Some now) × Extends held now) (sym (eqb-true other section same))
        (extends.there held (subst (λ (n : ℕ). slice_get before n ≡ Some held) (eqb-true other section same) is))
    by false apart =
        (held, extends.others other (λ same. absurd (let none : ⊥ = cc (apart, eq-eqb other section same) in none)) ∙ is, extends_same held)

pub extensions : Extensions
extensions = record { same = one_same; on = one_on; all = each_extends }
