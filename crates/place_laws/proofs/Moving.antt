-- The end of a section, and what is put into it.
use Rattle.std.proofs.Common.{◌≡◌, ℕ, zero, suc, ◌+◌, Bool, true, false, cond, List, [], ◌∷◌, ◌++◌, Option, Some, length, drop, replicate, refl, sym, ap, ◌∙◌, arith, length-append}
use Rattle.std.specs.Prelude.{slice_get}
use Rattle.std.specs.Option.{option_map_or}
use Rattle.std.proofs.lemmas.List.{length-replicate}
use Rattle.asm_base.specs.declared.positions.Pos.{Pos}
use Rattle.asm_expr.specs.Forms.{Form}
use Rattle.asm_frags.specs.declared.fields.FieldSize.{FieldSize}
use Rattle.asm_frags.specs.declared.roles.FieldRole.{FieldRole}
use Rattle.x86_insn.specs.declared.amounts.Suffix.{Suffix}
use Rattle.asm_frags.specs.declared.phases.Laid.{Laid}
use Rattle.asm_frags.specs.Fields.{width}
use Rattle.asm_frags.specs.Writing.{LooseItem, LooseSection, ends_in_run, new_item, item_behind, with_item, with_run, with_bytes, with_field, with_growing}
use Rattle.item_contents.specs.declared.contents.Content.TheVariants.{Run, Growing}
use Rattle.item_contents.specs.declared.kinds.Growth.{Growth}
use Rattle.asm_relax.specs.Placing.{shift_of}
use Rattle.asm_relax.specs.Settling.{LaidItem}
use Rattle.place_laws.proofs.Elements.{get_last}
use Rattle.place_laws.specs.Ends.{end_in, size_at, sizes_from, IsItemOf, AreFirst, EndsMove, EndsAdd}

-- what moves is added up
shift_more : (count shift : ℕ) (items : List LaidItem) → shift_of count shift items ≡ shift + shift_of count 0 items
shift_more zero shift items = omega arith
shift_more (suc count) shift [] = omega arith
shift_more (suc count) shift (item ∷ items) =
    let one : shift_of (suc count) shift (item ∷ items) ≡ (shift + item.size) + shift_of count 0 items = shift_more count (shift + item.size) items in
    let two : shift_of (suc count) 0 (item ∷ items) ≡ (0 + item.size) + shift_of count 0 items = shift_more count (0 + item.size) items in
    omega (arith, one, two)

-- by so many items, and by those after them
pub shift_on : (count more : ℕ) (items : List LaidItem) → shift_of (count + more) 0 items ≡ shift_of count 0 items + shift_of more 0 (drop count items)
shift_on zero more items =
    let same : 0 + more ≡ more = omega arith in
    let none : 0 + shift_of more 0 items ≡ shift_of more 0 items = omega arith in
    ap (λ n. shift_of n 0 items) same ∙ sym none
shift_on (suc count) zero [] =
    let same : suc count + 0 ≡ suc count = omega arith in
    ap (λ n. shift_of {P = Laid} n 0 []) same
shift_on (suc count) (suc more) [] =
    let same : suc count + suc more ≡ suc (count + suc more) = omega arith in
    ap (λ n. shift_of {P = Laid} n 0 []) same
shift_on (suc count) more (item ∷ items) =
    let same : suc count + more ≡ suc (count + more) = omega arith in
    let whole : shift_of (suc count + more) 0 (item ∷ items) ≡ (0 + item.size) + shift_of (count + more) 0 items =
    ap (λ n. shift_of n 0 (item ∷ items)) same ∙ shift_more (count + more) (0 + item.size) items in
    let first : shift_of (suc count) 0 (item ∷ items) ≡ (0 + item.size) + shift_of count 0 items = shift_more count (0 + item.size) items in
    let later = shift_on count more items in
    let here : shift_of more 0 (drop (suc count) (item ∷ items)) ≡ shift_of more 0 (drop count items) = refl in
    omega (arith, whole, first, later, here)

-- the first one after so many is the one of that index
pub first_after : (items : List LaidItem) (index : ℕ) → shift_of 1 0 (drop index items) ≡ size_at items index
first_after [] zero = refl
first_after [] (suc index) = refl
first_after (item ∷ items) zero = omega arith
first_after (item ∷ items) (suc index) = first_after items index

-- an item more
pub item_moves : (xs : List LooseItem) (x : LooseItem) (items : List LaidItem)
    → shift_of (length (xs ++ x ∷ [])) 0 items ≡ shift_of (length xs) 0 items + size_at items (length xs)
item_moves xs x items =
    ap (λ n. shift_of n 0 items) (length-append xs (x ∷ [])) ∙ shift_on (length xs) 1 items ∙ ap (λ n. shift_of (length xs) 0 items + n) (first_after items (length xs))

-- a run has no bytes of its own
run_size : (items : List LaidItem) (index offset : ℕ) (pos : Pos) → IsItemOf items index (item_behind offset (new_item pos Run)) → size_at items index ≡ 0
run_size items index offset pos is = ap (λ found. option_map_or (λ (item : LaidItem). item.size) found 0) is.there ∙ is.sized

run_by : (test : Bool) (pos : Pos) (section : LooseSection) (items : List LaidItem)
    → ((index : ℕ) (item : LooseItem) → slice_get (cond test section (with_item (new_item pos Run) section)).items index ≡ Some item → IsItemOf items index item)
    → shift_of (length (cond test section (with_item (new_item pos Run) section)).items) 0 items ≡ shift_of (length section.items) 0 items
run_by true pos section items each = refl
run_by false pos section items each =
    let run = item_behind (length section.bytes) (new_item pos Run) in
    let none = run_size items (length section.items) (length section.bytes) pos (each (length section.items) run (get_last section.items run)) in
    let moves = item_moves section.items run items in
    omega (arith, none, moves)

-- a run moves nothing
pub run_moves : (pos : Pos) (section : LooseSection) (items : List LaidItem)
    → ((index : ℕ) (item : LooseItem) → slice_get (with_run pos section).items index ≡ Some item → IsItemOf items index item)
    → shift_of (length (with_run pos section).items) 0 items ≡ shift_of (length section.items) 0 items
run_moves pos section items each = run_by (ends_in_run section.items) pos section items each

bytes_move : (pos : Pos) (more : List ℕ) (section : LooseSection) (items : List LaidItem) → AreFirst (with_bytes pos more section) items
    → end_in items (with_bytes pos more section) ≡ end_in items section + length more
bytes_move pos more section items first =
    let run = run_moves pos section items first.each in
    let long = length-append section.bytes more in
    omega (arith, run, long)

field_moves : (pos : Pos) (number : ℕ) (size : FieldSize) (role : FieldRole) (form : Form) (section : LooseSection) (items : List LaidItem)
    → AreFirst (with_field pos number size role form section) items
    → end_in items (with_field pos number size role form section) ≡ end_in items section + width size
field_moves pos number size role form section items first =
    let run = run_moves pos section items first.each in
    let zeros : List ℕ = replicate (width size) 0 in
    let long = length-append section.bytes zeros in
    let count : length zeros ≡ width size = length-replicate (width size) 0 in
    omega (arith, run, long, count)

put_moves : (item : LooseItem) (section : LooseSection) (items : List LaidItem)
    → end_in items (with_item item section) ≡ end_in items section + size_at items (length section.items)
put_moves item section items =
    let moves = item_moves section.items (item_behind (length section.bytes) item) items in
    omega (arith, moves)

grown_moves : (pos : Pos) (number : ℕ) (kind : Growth) (suffix : Option Suffix) (form : Form) (section : LooseSection) (items : List LaidItem)
    → end_in items (with_growing pos number kind suffix form section) ≡ end_in items section + size_at items (length section.items)
grown_moves pos number kind suffix form section items =
    let moves = item_moves section.items (item_behind (length section.bytes) (new_item pos (Growing (record { kind = kind; field = length section.fields })))) items in
    omega (arith, moves)

pub ends_move : EndsMove
ends_move = record { bytes = bytes_move; field = field_moves; item = put_moves; growing = grown_moves }

pub ends_add : EndsAdd
ends_add section later bytes more items are also =
    let long : length later.bytes ≡ length section.bytes + length bytes = ap (λ (xs : List ℕ). length xs) are ∙ length-append section.bytes bytes in
    let count : length later.items ≡ length section.items + length more = ap (λ (xs : List LooseItem). length xs) also ∙ length-append section.items more in
    let moves : shift_of (length later.items) 0 items ≡ shift_of (length section.items) 0 items + sizes_from (length section.items) (length more) items =
    ap (λ n. shift_of n 0 items) count ∙ shift_on (length section.items) (length more) items in
    omega (arith, long, moves)
