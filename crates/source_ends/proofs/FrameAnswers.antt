-- Answers of the calls that work out frame tables.
use Rattle.std.proofs.Common.{◌≡◌, ℕ, zero, suc, ◌+◌, ◌<◌, ◌≤◌, List, [], ◌∷◌, ◌++◌, take, drop, length, All, Option, None, Some, Ok, Err, refl, sym, ap, ◌∙◌, subst, arith, append_assoc, take-append-drop}
use Rattle.std.specs.List.{AllZip}
use Rattle.std.specs.Prelude.{slice_get, slice_index_or, IfSome, is_none, cond}
use Rattle.asm_base.specs.declared.faults.ScfiFault.{ScfiFault}
use Rattle.std.specs.Option.{option_map, option_map_or}
use Rattle.std.proofs.lemmas.List.{drop_more, take_more, take_all}
use Rattle.std.proofs.lemmas.List.Elements.{All-map, All-weaker}
use Rattle.std.proofs.lemmas.Option.{slice_get_within, get_or_from_slice_get}
use Rattle.asm_base.specs.declared.places.Place.{Place}
use Rattle.asm_base.specs.declared.refusals.Refusal.{Refusal}
use Rattle.asm_base.specs.declared.refusals.Refusal.TheVariants as refusal
use Rattle.asm_frags.specs.declared.fields.Field.{Field}
use Rattle.asm_frags.specs.Writing.{LooseSection}
use Rattle.asm_symbols.specs.SymbolMap.{SymbolMap}
use Rattle.cfi_directives.specs.declared.frames.Frame.{Frame}
use Rattle.cfi_directives.specs.declared.frames.PlacedOp.{PlacedOp}
use Rattle.code_functions.specs.declared.extents.Extent.{Extent}
use Rattle.code_functions.specs.declared.items.CodeItem.{CodeItem}
use Rattle.code_functions.specs.InOrder.{AreInOrder}
use Rattle.code_functions.specs.Recorded.{Recorded, extent_of, items_of, closed_by, all_closed}
use Rattle.flow_graph.specs.declared.nodes.Node.{Node}
use Rattle.flow_graph.specs.Nodes.{nodes_of}
use Rattle.scfi_pass.specs.declared.item_ops.ItemOp.{ItemOp}
use Rattle.scfi_pass.specs.Synthesis.{IsTableOf}
use Rattle.source_ends.specs.Synthesis.{IsTable, IsRefused, IsFrameOf, IsReady, AnswersTable, AnswersFrame, AnswersFrames, place_of, placed_op, placed_ops, fields_of, nodes_in}
use Rattle.source_ends.specs.declared.synthesizing.ItemFaultAt.{ItemFaultAt}

-- ONE FUNCTION

item_at : (items : List CodeItem) (k : ℕ) → k < length items → (item : CodeItem) × (slice_get items k ≡ Some item)
item_at [] k low = absurd (omega (arith, low))
item_at (x ∷ xs) zero low = (x, refl)
item_at (x ∷ xs) (suc k) low = item_at xs k (omega (arith, low))

-- the place of an item
pub place_at : (items : List CodeItem) (k : ℕ) (d : CodeItem) → k < length items → (slice_index_or items k d).place ≡ place_of items k
place_at items k d low =
    let found = item_at items k low in
    ap (λ (item : CodeItem). item.place) (get_or_from_slice_get items k found.0 d found.1)
    ∙ sym (ap (λ (one : Option CodeItem). option_map_or (λ (item : CodeItem). item.place) one (record { item = 0; offset = 0 })) found.1)

-- the statement of an item
pub statement_at : (items : List CodeItem) (k : ℕ) (d : CodeItem) (fault : ScfiFault) (result : ItemFaultAt) → k < length items
    → result ≡ record { fault = fault; pos = (slice_index_or items k d).pos } → IfSome (slice_get items k) (λ found. result ≡ record { fault = fault; pos = found.pos })
statement_at items k d fault result low is =
    let found = item_at items k low in
    subst (λ (one : Option CodeItem). IfSome one (λ item. result ≡ record { fault = fault; pos = item.pos })) (sym found.1)
    (subst (λ (item : CodeItem). result ≡ record { fault = fault; pos = item.pos }) (get_or_from_slice_get items k found.0 d found.1) is)

-- each instruction is told at an item
pub one_within : (items : List CodeItem) (ops : List ItemOp) (k : ℕ) (d : ItemOp) → All (λ (op : ItemOp). op.item < length items) ops → k < length ops
    → (slice_index_or ops k d).item < length items
one_within items ops k d all low = all k d low

-- one instruction more
pub placed_more : (items : List CodeItem) (ops : List ItemOp) (k : ℕ) (d : ItemOp) (before after all : List PlacedOp) (placed : PlacedOp) → k < length ops
    → placed ≡ placed_op items (slice_index_or ops k d) → after ≡ before ++ placed ∷ [] → before ++ placed_ops items (drop k ops) ≡ all
    → after ++ placed_ops items (drop (k + 1) ops) ≡ all
placed_more items ops k d before after all placed low is more so =
    ap (λ (front : List PlacedOp). front ++ placed_ops items (drop (k + 1) ops)) more
    ∙ append_assoc before (placed ∷ []) (placed_ops items (drop (k + 1) ops))
    ∙ ap (λ (one : PlacedOp). before ++ (one ∷ placed_ops items (drop (k + 1) ops))) is
    ∙ sym (ap (λ (rest : List ItemOp). before ++ placed_ops items rest) (drop_more ops k d low))
    ∙ so

-- so are the instructions of its table with those of theirs
pub table_answered : (items : List CodeItem) (nodes : List Node) (old new : ℕ) (ops : List ItemOp) (placed : List PlacedOp) → IsTableOf items nodes old new ops → placed ≡ placed_ops items ops
    → AnswersTable items nodes (Ok placed)
table_answered items nodes old new ops placed table is = record { old = old; new = new; ops = ops; table = table; made = is }

-- the fields of a section that is there
pub fields_are : (sections : List LooseSection) (number : ℕ) (section : LooseSection) (fields : List Field) → slice_get sections number ≡ Some section → fields ≡ section.fields
    → fields ≡ fields_of sections number
fields_are sections number section fields there is = is ∙ sym (ap (λ (found : Option LooseSection). option_map_or (λ (one : LooseSection). one.fields) found []) there)

-- the answer for a function by its parts
record AreParts (sections : List LooseSection) (f : Recorded CodeItem) (extent : Extent) (items : List CodeItem) (section : ℕ) (fields : List Field) : Type 0 where
  extent_is : extent ≡ extent_of f
  items_is : items ≡ f.items
  section_is : section ≡ f.section
  fields_is : fields ≡ fields_of sections f.section

nodes_are : (symbols : SymbolMap) (sections : List LooseSection) (f : Recorded CodeItem) (extent : Extent) (items : List CodeItem) (section : ℕ) (fields : List Field)
    → AreParts sections f extent items section fields → nodes_of symbols section fields items ≡ nodes_in symbols sections f
nodes_are symbols sections f extent items section fields parts =
    ap (λ x. nodes_of symbols x fields items) parts.section_is
    ∙ ap (λ x. nodes_of symbols f.section x items) parts.fields_is
    ∙ ap (λ x. nodes_of symbols f.section (fields_of sections f.section) x) parts.items_is

parts_of : (sections : List LooseSection) (functions : List (Recorded CodeItem)) (number : ℕ) (f : Recorded CodeItem) (extent : Extent) (items : List CodeItem) (section : ℕ) (fields : List Field)
    → slice_get functions number ≡ Some f → option_map extent_of (slice_get functions number) ≡ Some extent → items ≡ items_of number functions
    → option_map (λ (one : Recorded CodeItem). one.section) (slice_get functions number) ≡ Some section → fields ≡ fields_of sections extent.section
    → AreParts sections f extent items section fields
parts_of sections functions number f extent items section fields there extent_is items_is section_is fields_is =
    let found : Some (extent_of f) ≡ Some extent = sym (ap (option_map extent_of) there) ∙ extent_is in
    let same : extent ≡ extent_of f = cc in
    let held : Some f.section ≡ Some section = sym (ap (option_map (λ (one : Recorded CodeItem). one.section)) there) ∙ section_is in
    record {
      extent_is = same;
      items_is = items_is ∙ ap (λ (one : Option (Recorded CodeItem)). option_map_or (λ (g : Recorded CodeItem). g.items) one []) there;
      section_is = cc;
      fields_is = fields_is ∙ ap (λ (one : Extent). fields_of sections one.section) same;
    }

-- the frame of the function of a number
pub frame_answered : (symbols : SymbolMap) (sections : List LooseSection) (functions : List (Recorded CodeItem)) (number : ℕ) (extent : Extent) (items : List CodeItem) (section : ℕ)
    (fields : List Field) (ops : List PlacedOp) → option_map extent_of (slice_get functions number) ≡ Some extent → items ≡ items_of number functions
    → option_map (λ (one : Recorded CodeItem). one.section) (slice_get functions number) ≡ Some section → fields ≡ fields_of sections extent.section
    → AnswersTable items (nodes_of symbols section fields items) (Ok ops)
    → IfSome (slice_get functions number)
    (λ f. AnswersFrame symbols sections f (Ok (record { pos = extent.pos; section = extent.section; start = extent.start; stop = extent.stop; personality = None; lsda = None; ops = ops })))
frame_answered symbols sections functions number extent items section fields ops extent_is items_is section_is fields_is table = by (slice_get functions number) refl
  where
    Answer : Recorded CodeItem → Type 0
    Answer f = AnswersFrame symbols sections f (Ok (record { pos = extent.pos; section = extent.section; start = extent.start; stop = extent.stop; personality = None; lsda = None; ops = ops }))

    by : (found : Option (Recorded CodeItem)) → slice_get functions number ≡ found → IfSome found Answer
    by None there = tt
    by (Some f) there =
        let parts = parts_of sections functions number f extent items section fields there extent_is items_is section_is fields_is in
        record {
          table = subst (λ (held : List CodeItem). IsTable held (nodes_in symbols sections f) ops) parts.items_is
              (subst (λ (nodes : List Node). IsTable items nodes ops) (nodes_are symbols sections f extent items section fields parts) table);
          made = ap (λ (one : Extent). record { pos = one.pos; section = one.section; start = one.start; stop = one.stop; personality = None; lsda = None; ops = ops }) parts.extent_is;
        }

-- or its fault
pub fault_of_frame : (symbols : SymbolMap) (sections : List LooseSection) (functions : List (Recorded CodeItem)) (number : ℕ) (extent : Extent) (items : List CodeItem) (section : ℕ)
    (fields : List Field) (cause : Refusal ItemFaultAt) → option_map extent_of (slice_get functions number) ≡ Some extent → items ≡ items_of number functions
    → option_map (λ (one : Recorded CodeItem). one.section) (slice_get functions number) ≡ Some section → fields ≡ fields_of sections extent.section
    → AnswersTable items (nodes_of symbols section fields items) (Err cause) → IfSome (slice_get functions number) (λ f. AnswersFrame symbols sections f (Err cause))
fault_of_frame symbols sections functions number extent items section fields refusal.NoMemory extent_is items_is section_is fields_is so = by (slice_get functions number)
  where
    by : (found : Option (Recorded CodeItem)) → IfSome found (λ f. AnswersFrame symbols sections f (Err refusal.NoMemory))
    by None = tt
    by (Some f) = tt
fault_of_frame symbols sections functions number extent items section fields (refusal.Fault at) extent_is items_is section_is fields_is so = by (slice_get functions number) refl
  where
    by : (found : Option (Recorded CodeItem)) → slice_get functions number ≡ found → IfSome found (λ f. AnswersFrame symbols sections f (Err (refusal.Fault at)))
    by None there = tt
    by (Some f) there =
        let parts = parts_of sections functions number f extent items section fields there extent_is items_is section_is fields_is in
        subst (λ (held : List CodeItem). IsRefused held (nodes_in symbols sections f) at) parts.items_is
        (subst (λ (nodes : List Node). IsRefused items nodes at) (nodes_are symbols sections f extent items section fields parts) so)

function_at : (functions : List (Recorded CodeItem)) (number : ℕ) → number < length functions → (f : Recorded CodeItem) × (slice_get functions number ≡ Some f)
function_at [] number low = absurd (omega (arith, low))
function_at (f ∷ functions) zero low = (f, refl)
function_at (f ∷ functions) (suc number) low = function_at functions number (omega (arith, low))

-- the section of a function is there
pub section_there : (sections : List LooseSection) (functions : List (Recorded CodeItem)) (number : ℕ) (extent : Extent) → All (IsReady sections) functions
    → option_map extent_of (slice_get functions number) ≡ Some extent → extent.section < length sections
section_there sections functions number extent ready is = by (slice_get functions number) refl
  where
    by : (found : Option (Recorded CodeItem)) → slice_get functions number ≡ found → extent.section < length sections
    by None there = let none : None ≡ Some extent = sym (ap (option_map extent_of) there) ∙ is in absurd cc
    by (Some f) there =
        let some : Some (extent_of f) ≡ Some extent = sym (ap (option_map extent_of) there) ∙ is in
        let same : extent_of f ≡ extent = cc in
        let held : IsReady sections f = subst (IsReady sections) (get_or_from_slice_get functions number f f there) (ready number f (slice_get_within functions number f there)) in
        subst (λ (one : Extent). one.section < length sections) same held.there

-- and its items are in order
pub items_ready : (sections : List LooseSection) (functions : List (Recorded CodeItem)) (number : ℕ) → All (IsReady sections) functions → number < length functions
    → AreInOrder (items_of number functions)
items_ready sections functions number ready low =
    let found = function_at functions number low in
    let held : IsReady sections found.0 = subst (IsReady sections) (get_or_from_slice_get functions number found.0 found.0 found.1) (ready number found.0 low) in
    subst AreInOrder (sym (ap (λ (one : Option (Recorded CodeItem)). option_map_or (λ (g : Recorded CodeItem). g.items) one []) found.1)) held.ordered

-- ALL FUNCTIONS

-- one more of each of two lists of which this holds
zip_push : {A B : Type 0} (R : A → B → Type 0) (xs : List A) (ys : List B) (x : A) (y : B) → AllZip R xs ys → R x y → AllZip R (xs ++ x ∷ []) (ys ++ y ∷ [])
zip_push R [] [] x y all one = (one, tt)
zip_push R [] (b ∷ ys) x y all one = absurd all
zip_push R (a ∷ xs) [] x y all one = absurd all
zip_push R (a ∷ xs) (b ∷ ys) x y all one = (all.0, zip_push R xs ys x y all.1 one)

-- one function more
take_next : (functions : List (Recorded CodeItem)) (number : ℕ) (f : Recorded CodeItem) → slice_get functions number ≡ Some f → take (number + 1) functions ≡ take number functions ++ f ∷ []
take_next functions number f there =
    take_more functions number f (slice_get_within functions number f there)
    ∙ ap (λ (one : Recorded CodeItem). take number functions ++ one ∷ []) (get_or_from_slice_get functions number f f there)

-- the frames so far are those of the first functions
pub frames_more : (symbols : SymbolMap) (sections : List LooseSection) (functions : List (Recorded CodeItem)) (number : ℕ) (frames : List Frame) (frame : Frame) → number < length functions
    → AllZip (IsFrameOf symbols sections) (take number functions) frames → IfSome (slice_get functions number) (λ f. AnswersFrame symbols sections f (Ok frame))
    → AllZip (IsFrameOf symbols sections) (take (number + 1) functions) (frames ++ frame ∷ [])
frames_more symbols sections functions number frames frame low are is =
    let found = function_at functions number low in
    let one : IsFrameOf symbols sections found.0 frame = subst (λ (x : Option (Recorded CodeItem)). IfSome x (λ f. AnswersFrame symbols sections f (Ok frame))) found.1 is in
    subst (λ (some : List (Recorded CodeItem)). AllZip (IsFrameOf symbols sections) some (frames ++ frame ∷ [])) (sym (take_next functions number found.0 found.1))
    (zip_push (IsFrameOf symbols sections) (take number functions) frames found.0 frame are one)

-- all functions have frames
pub frames_all : (symbols : SymbolMap) (sections : List LooseSection) (functions : List (Recorded CodeItem)) (number : ℕ) (frames : List Frame) → length functions ≤ number
    → AllZip (IsFrameOf symbols sections) (take number functions) frames → AnswersFrames symbols sections functions (Ok frames)
frames_all symbols sections functions number frames all are = subst (λ (some : List (Recorded CodeItem)). AllZip (IsFrameOf symbols sections) some frames) (take_all number functions all) are

-- one has a fault
pub fault_first : (symbols : SymbolMap) (sections : List LooseSection) (functions : List (Recorded CodeItem)) (number : ℕ) (frames : List Frame) (cause : Refusal ItemFaultAt)
    → number < length functions → AllZip (IsFrameOf symbols sections) (take number functions) frames
    → IfSome (slice_get functions number) (λ f. AnswersFrame symbols sections f (Err cause)) → AnswersFrames symbols sections functions (Err cause)
fault_first symbols sections functions number frames refusal.NoMemory low are is = tt
fault_first symbols sections functions number frames (refusal.Fault at) low are is =
    let found = function_at functions number low in
    let f = found.0 in
    let here : IsRefused f.items (nodes_in symbols sections f) at =
    subst (λ (x : Option (Recorded CodeItem)). IfSome x (λ g. AnswersFrame symbols sections g (Err (refusal.Fault at)))) found.1 is in
    record {
      before = take number functions;
      function = f;
      after = drop (number + 1) functions;
      all = sym (take-append-drop number functions)
          ∙ ap (λ (rest : List (Recorded CodeItem)). take number functions ++ rest)
          (drop_more functions number f low ∙ ap (λ (one : Recorded CodeItem). one ∷ drop (number + 1) functions) (get_or_from_slice_get functions number f f found.1));
      frames = frames;
      sound = are;
      here = here;
    }

-- functions that are ready are ready where they end
closed_ready : (sections : List LooseSection) (ends : ℕ → Place) (f : Recorded CodeItem) → IsReady sections f → IsReady sections (closed_by ends f)
closed_ready sections ends f ready = by f.stop refl
  where
    by : (stop : Option Place) → f.stop ≡ stop → IsReady sections (closed_by ends f)
    by None is =
        subst (IsReady sections) (sym (ap (λ (one : Option Place). cond (is_none one) (record f { stop = Some (ends f.section) }) f) is)) (record { there = ready.there; ordered = ready.ordered })
    by (Some stop) is = subst (IsReady sections) (sym (ap (λ (one : Option Place). cond (is_none one) (record f { stop = Some (ends f.section) }) f) is)) ready

pub all_closed_ready : (sections : List LooseSection) (ends : ℕ → Place) (functions : List (Recorded CodeItem)) → All (IsReady sections) functions → All (IsReady sections) (all_closed ends functions)
all_closed_ready sections ends functions ready =
    All-map (IsReady sections) (closed_by ends) functions
    (All-weaker (IsReady sections) (λ f. IsReady sections (closed_by ends f)) (λ f one. closed_ready sections ends f one) functions ready)
