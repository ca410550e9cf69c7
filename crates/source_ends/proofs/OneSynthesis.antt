-- What functions come to is one thing: of items that are seen alike synthesis makes the same.
use Rattle.std.proofs.Common.{◌≡◌, ℕ, cond, List, [], ◌∷◌, ◌++◌, map, Option, None, Some, Ok, Err, refl, sym, ap, ◌∙◌, subst}
use Rattle.std.specs.List.{AllZip}
use Rattle.std.specs.Prelude.{slice_get, is_none}
use Rattle.std.specs.Option.{option_map, option_map_or}
use Rattle.std.proofs.lemmas.Option.{slice_get-map}
use Rattle.asm_base.specs.declared.places.Place.{Place}
use Rattle.asm_base.specs.declared.positions.Pos.{Pos}
use Rattle.asm_frags.specs.Writing.{LooseSection}
use Rattle.asm_symbols.specs.SymbolMap.{SymbolMap}
use Rattle.cfi_directives.specs.declared.frames.Frame.{Frame}
use Rattle.cfi_directives.specs.declared.frames.PlacedOp.{PlacedOp}
use Rattle.code_functions.specs.declared.items.CodeItem.{CodeItem}
use Rattle.code_functions.specs.Recorded.{Recorded, closed_by, all_closed}
use Rattle.code_functions.specs.Seen.{SeenItem, seen, mapped, all_seen}
use Rattle.flow_graph.specs.declared.nodes.Node.{Node}
use Rattle.scfi_pass.specs.declared.item_ops.ItemOp.{ItemOp}
use Rattle.scfi_pass.specs.declared.walked.ItemFault.{ItemFault}
use Rattle.scfi_pass.specs.Synthesis.{IsTableOf}
use Rattle.synthesis_laws.specs.OneAnswer.{IsFaultHere, TablesAreOne, FaultsAreOne, TablesHaveNoFault}
use Rattle.synthesis_laws.specs.Sights.{Sight, sight_of, LookAlike, TablesAreSeen, FaultsAreSeen, NodesAreSeen}
use Rattle.asm_functions.specs.FollowedSource.{FollowedSource}
use Rattle.asm_functions.specs.Following.{end_of}
use Rattle.source_ends.specs.Synthesis.{Synthesis, IsRefused, IsFrameOf, AreFrames, ComeTo, IsSynthesis, place_of, placed_op, placed_ops, frame_with, fields_of, nodes_in}
use Rattle.source_ends.specs.declared.synthesizing.ItemFaultAt.{ItemFaultAt}

-- what is known of synthesis
pub record SynthesisFacts : Type 0 where
  pub tables : TablesAreOne
  pub faults : FaultsAreOne
  pub apart : TablesHaveNoFault
  pub tables_seen : TablesAreSeen
  pub faults_seen : FaultsAreSeen
  pub nodes_seen : NodesAreSeen

-- ITEMS THAT ARE SEEN ALIKE

-- what synthesis sees of an item, of what is seen
abbrev sight_by : SeenItem → Sight
sight_by item = record { effect = item.effect; flow = item.flow; unsupported = item.unsupported; no_insn = item.no_insn; place = item.place; field = item.field }

sights : (items : List CodeItem) → map sight_by (map seen items) ≡ map sight_of items
sights [] = refl
sights (item ∷ items) = ap (λ more. sight_of item ∷ more) (sights items)

look_alike : (one other : List CodeItem) → map seen one ≡ map seen other → LookAlike one other
look_alike one other same = sym (sights one) ∙ (ap (map sight_by) same ∙ sights other)

-- the same is told of an item by its number
told_at : {A : Type 0} (look : SeenItem → A) (items : List CodeItem) (k : ℕ) → option_map (λ (item : CodeItem). look (seen item)) (slice_get items k) ≡ option_map look (slice_get (map seen items) k)
told_at look items k = by (slice_get items k) ∙ sym (ap (option_map look) (slice_get-map seen items k))
  where
    by : (found : Option CodeItem) → option_map (λ (item : CodeItem). look (seen item)) found ≡ option_map look (option_map seen found)
    by None = refl
    by (Some item) = refl

abbrev or_else : {A : Type 0} → A → Option A → A
or_else d None = d
or_else d (Some x) = x

places_alike : (one other : List CodeItem) → map seen one ≡ map seen other → (k : ℕ) → place_of one k ≡ place_of other k
places_alike one other same k = by (slice_get one k) ∙ (ap (or_else start) (told one ∙ (ap (λ items. option_map (λ (item : SeenItem). item.place) (slice_get items k)) same ∙ sym (told other))) ∙ sym (by (slice_get other k)))
  where
    start : Place
    start = record { item = 0; offset = 0 }

    told : (items : List CodeItem) → option_map (λ (item : CodeItem). item.place) (slice_get items k) ≡ option_map (λ (item : SeenItem). item.place) (slice_get (map seen items) k)
    told items = told_at (λ (item : SeenItem). item.place) items k

    by : (found : Option CodeItem) → option_map_or (λ (item : CodeItem). item.place) found start ≡ or_else start (option_map (λ (item : CodeItem). item.place) found)
    by None = refl
    by (Some item) = refl

ops_alike : (one other : List CodeItem) → map seen one ≡ map seen other → (ops : List ItemOp) → placed_ops one ops ≡ placed_ops other ops
ops_alike one other same [] = refl
ops_alike one other same (op ∷ ops) =
    ap (λ (place : Place). record { place = place; op = op.op } ∷ placed_ops one ops) (places_alike one other same op.item)
    ∙ ap (λ (more : List PlacedOp). placed_op other op ∷ more) (ops_alike one other same ops)

statements_alike : (one other : List CodeItem) → map seen one ≡ map seen other → (k : ℕ) (first again : CodeItem) → slice_get one k ≡ Some first → slice_get other k ≡ Some again → first.pos ≡ again.pos
statements_alike one other same k first again there also =
    let told : Some first.pos ≡ Some again.pos =
    sym (ap (option_map (λ (item : CodeItem). item.pos)) there)
    ∙ (told_at (λ (item : SeenItem). item.pos) one k
    ∙ (ap (λ items. option_map (λ (item : SeenItem). item.pos) (slice_get items k)) same
    ∙ (sym (told_at (λ (item : SeenItem). item.pos) other k) ∙ ap (option_map (λ (item : CodeItem). item.pos)) also))) in
    cc

-- ONE FUNCTION

-- two functions that are seen alike
record Alike (one other : Recorded CodeItem) : Type 0 where
  pos : one.pos ≡ other.pos
  section : one.section ≡ other.section
  start : one.start ≡ other.start
  stop : one.stop ≡ other.stop
  items : map seen one.items ≡ map seen other.items

seen_alike : (one other : Recorded CodeItem) → mapped seen one ≡ mapped seen other → Alike one other
seen_alike one other same = record {
  pos = ap (λ (f : Recorded SeenItem). f.pos) same;
  section = ap (λ (f : Recorded SeenItem). f.section) same;
  start = ap (λ (f : Recorded SeenItem). f.start) same;
  stop = ap (λ (f : Recorded SeenItem). f.stop) same;
  items = ap (λ (f : Recorded SeenItem). f.items) same;
}

-- the same where they end
closed_alike : (ends : ℕ → Place) (one other : Recorded CodeItem) → Alike one other → Alike (closed_by ends one) (closed_by ends other)
closed_alike ends one other alike = by one.stop other.stop refl refl
  where
    is : (f : Recorded CodeItem) (stop : Option Place) → f.stop ≡ stop → closed_by ends f ≡ cond (is_none stop) (record f { stop = Some (ends f.section) }) f
    is f stop same = ap (λ (s : Option Place). cond (is_none s) (record f { stop = Some (ends f.section) }) f) same

    by : (first again : Option Place) → one.stop ≡ first → other.stop ≡ again → Alike (closed_by ends one) (closed_by ends other)
    by None None one_is other_is =
        subst (λ (f : Recorded CodeItem). Alike f (closed_by ends other)) (sym (is one None one_is))
        (subst (λ (f : Recorded CodeItem). Alike (record one { stop = Some (ends one.section) }) f) (sym (is other None other_is))
        (record { pos = alike.pos; section = alike.section; start = alike.start; stop = ap (λ n. Some (ends n)) alike.section; items = alike.items }))
    by (Some stop) (Some again) one_is other_is =
        subst (λ (f : Recorded CodeItem). Alike f (closed_by ends other)) (sym (is one (Some stop) one_is))
        (subst (λ (f : Recorded CodeItem). Alike one f) (sym (is other (Some again) other_is)) alike)
    by None (Some again) one_is other_is = let same = alike.stop in absurd cc
    by (Some stop) None one_is other_is = let same = alike.stop in absurd cc

module _ (facts : SynthesisFacts) (symbols : SymbolMap) (sections : List LooseSection) where
  nodes_alike : (one other : Recorded CodeItem) → Alike one other → nodes_in symbols sections one ≡ nodes_in symbols sections other
  nodes_alike one other alike =
      facts.nodes_seen one.items other.items symbols one.section (fields_of sections one.section) (look_alike one.items other.items alike.items)
      ∙ ap (λ n. nodes_in symbols sections (record other { section = n })) alike.section

  frames_alike : (one other : Recorded CodeItem) (frame again : Frame) → Alike one other → IsFrameOf symbols sections one frame → IsFrameOf symbols sections other again → frame ≡ again
  frames_alike one other frame again alike is also =
      let look = look_alike one.items other.items alike.items in
      let nodes = nodes_alike one other alike in
      let moved = facts.tables_seen one.items other.items (nodes_in symbols sections one) is.table.old is.table.new is.table.ops look is.table.table in
      let same : is.table.ops ≡ also.table.ops =
      facts.tables other.items (nodes_in symbols sections other) is.table.old is.table.new also.table.old also.table.new is.table.ops also.table.ops
      (subst (λ (all : List Node). IsTableOf other.items all is.table.old is.table.new is.table.ops) nodes moved) also.table.table in
      let ops : frame.ops ≡ again.ops =
      is.table.made ∙ (ops_alike one.items other.items alike.items is.table.ops ∙ (ap (placed_ops other.items) same ∙ sym also.table.made)) in
      is.made ∙ (frame_parts one other frame.ops alike ∙ (ap (frame_with other) ops ∙ sym also.made))
    where
      frame_parts : (one other : Recorded CodeItem) (ops : List PlacedOp) → Alike one other → frame_with one ops ≡ frame_with other ops
      frame_parts one other ops alike =
          ap (λ x. record { pos = x; section = one.section; start = one.start; stop = one.stop; personality = None; lsda = None; ops = ops }) alike.pos
          ∙ (ap (λ x. record { pos = other.pos; section = x; start = one.start; stop = one.stop; personality = None; lsda = None; ops = ops }) alike.section
          ∙ (ap (λ x. record { pos = other.pos; section = other.section; start = x; stop = one.stop; personality = None; lsda = None; ops = ops }) alike.start
          ∙ ap (λ x. record { pos = other.pos; section = other.section; start = other.start; stop = x; personality = None; lsda = None; ops = ops }) alike.stop))

  faults_alike : (one other : Recorded CodeItem) (at again : ItemFaultAt) → Alike one other → IsRefused one.items (nodes_in symbols sections one) at
      → IsRefused other.items (nodes_in symbols sections other) again → at ≡ again
  faults_alike one other at again alike is also =
      let look = look_alike one.items other.items alike.items in
      let nodes = nodes_alike one other alike in
      let moved = facts.faults_seen one.items other.items (nodes_in symbols sections one) is.old is.new is.first look is.fault in
      let same : is.first ≡ also.first =
      facts.faults other.items (nodes_in symbols sections other) is.old is.new also.old also.new is.first also.first
      (subst (λ (all : List Node). IsFaultHere other.items all is.old is.new is.first) nodes moved) also.fault in
      let pos : is.item.pos ≡ also.item.pos =
      statements_alike one.items other.items alike.items is.first.item is.item also.item is.there
      (ap (λ (f : ItemFault). slice_get other.items f.item) same ∙ also.there) in
      is.made ∙ (ap (λ (f : ItemFault). record { fault = f.fault; pos = is.item.pos }) same
      ∙ (ap (λ (p : Pos). record { fault = also.first.fault; pos = p }) pos ∙ sym also.made))

  never_both : (one other : Recorded CodeItem) (frame : Frame) (at : ItemFaultAt) → Alike one other → IsFrameOf symbols sections one frame
      → IsRefused other.items (nodes_in symbols sections other) at → ⊥
  never_both one other frame at alike is also =
      let look = look_alike one.items other.items alike.items in
      let nodes = nodes_alike one other alike in
      let moved = facts.tables_seen one.items other.items (nodes_in symbols sections one) is.table.old is.table.new is.table.ops look is.table.table in
      facts.apart other.items (nodes_in symbols sections other) is.table.old is.table.new also.old also.new is.table.ops also.first
      (subst (λ (all : List Node). IsTableOf other.items all is.table.old is.table.new is.table.ops) nodes moved) also.fault

  -- ALL FUNCTIONS

  all_frames : (one other : List (Recorded CodeItem)) (frames again : List Frame) → AllZip Alike one other → AreFrames symbols sections one frames → AreFrames symbols sections other again
      → frames ≡ again
  all_frames [] [] [] [] alike are also = refl
  all_frames [] [] [] (x ∷ again) alike are also = absurd also
  all_frames [] [] (x ∷ frames) again alike are also = absurd are
  all_frames [] (g ∷ other) frames again alike are also = absurd alike
  all_frames (f ∷ one) [] frames again alike are also = absurd alike
  all_frames (f ∷ one) (g ∷ other) [] again alike are also = absurd are
  all_frames (f ∷ one) (g ∷ other) (x ∷ frames) [] alike are also = absurd also
  all_frames (f ∷ one) (g ∷ other) (x ∷ frames) (y ∷ again) alike are also =
      ap (λ (frame : Frame). frame ∷ frames) (frames_alike f g x y alike.0 are.0 also.0)
      ∙ ap (λ (more : List Frame). y ∷ more) (all_frames one other frames again alike.1 are.1 also.1)

  -- no functions have frames where one has a fault
  one_or_other : (one before after : List (Recorded CodeItem)) (f : Recorded CodeItem) (frames : List Frame) (at : ItemFaultAt) → AllZip Alike one (before ++ f ∷ after)
      → AreFrames symbols sections one frames → IsRefused f.items (nodes_in symbols sections f) at → ⊥
  one_or_other [] [] after f frames at alike are is = absurd alike
  one_or_other [] (g ∷ before) after f frames at alike are is = absurd alike
  one_or_other (g ∷ one) before after f [] at alike are is = absurd are
  one_or_other (g ∷ one) [] after f (x ∷ frames) at alike are is = never_both g f x at alike.0 are.0 is
  one_or_other (g ∷ one) (h ∷ before) after f (x ∷ frames) at alike are is = one_or_other one before after f frames at alike.1 are.1 is

  -- the first fault is one
  first_faults : (before after front behind : List (Recorded CodeItem)) (f g : Recorded CodeItem) (frames again : List Frame) (at also : ItemFaultAt)
      → AllZip Alike (before ++ f ∷ after) (front ++ g ∷ behind) → AreFrames symbols sections before frames → AreFrames symbols sections front again
      → IsRefused f.items (nodes_in symbols sections f) at → IsRefused g.items (nodes_in symbols sections g) also → at ≡ also
  first_faults [] after [] behind f g frames again at also alike are others is other = faults_alike f g at also alike.0 is other
  first_faults [] after (h ∷ front) behind f g frames [] at also alike are others is other = absurd others
  first_faults [] after (h ∷ front) behind f g frames (x ∷ again) at also alike are others is other =
      absurd (never_both h f x at (turned f h alike.0) others.0 is)
    where
      turned : (one other : Recorded CodeItem) → Alike one other → Alike other one
      turned one other same = record { pos = sym same.pos; section = sym same.section; start = sym same.start; stop = sym same.stop; items = sym same.items }
  first_faults (h ∷ before) after [] behind f g [] again at also alike are others is other = absurd are
  first_faults (h ∷ before) after [] behind f g (x ∷ frames) again at also alike are others is other = absurd (never_both h g x also alike.0 are.0 other)
  first_faults (h ∷ before) after (k ∷ front) behind f g [] again at also alike are others is other = absurd are
  first_faults (h ∷ before) after (k ∷ front) behind f g (x ∷ frames) [] at also alike are others is other = absurd others
  first_faults (h ∷ before) after (k ∷ front) behind f g (x ∷ frames) (y ∷ again) at also alike are others is other =
      first_faults before after front behind f g frames again at also alike.1 are.1 others.1 is other

  come_to_one : (one other : List (Recorded CodeItem)) (made again : Synthesis) → AllZip Alike one other → AllZip Alike other one → ComeTo symbols sections one made → ComeTo symbols sections other again
      → made ≡ again
  come_to_one one other (Ok frames) (Ok again) alike back are also = ap Ok (all_frames one other frames again alike are also)
  come_to_one one other (Ok frames) (Err at) alike back are also =
      absurd (one_or_other one also.before also.after also.function frames at (subst (AllZip Alike one) also.all alike) are also.here)
  come_to_one one other (Err at) (Ok again) alike back are also =
      absurd (one_or_other other are.before are.after are.function again at (subst (AllZip Alike other) are.all back) also are.here)
  come_to_one one other (Err at) (Err again) alike back are also =
      ap Err
      (first_faults are.before are.after also.before also.after are.function also.function are.frames also.frames at again
      (subst (AllZip Alike (are.before ++ are.function ∷ are.after)) also.all (subst (λ all. AllZip Alike all other) are.all alike))
      are.sound also.sound are.here also.here)

all_alike : (ends : ℕ → Place) (one other : List (Recorded CodeItem)) → all_seen one ≡ all_seen other → AllZip Alike (all_closed ends one) (all_closed ends other)
all_alike ends [] [] same = tt
all_alike ends [] (g ∷ other) same = absurd cc
all_alike ends (f ∷ one) [] same = absurd cc
all_alike ends (f ∷ one) (g ∷ other) same =
    let first : mapped seen f ≡ mapped seen g = cc in
    let rest : all_seen one ≡ all_seen other = cc in
    (closed_alike ends f g (seen_alike f g first), all_alike ends one other rest)

-- what functions come to is one thing
pub one_synthesis : SynthesisFacts → (f : FollowedSource) (made again : Synthesis) → IsSynthesis f made → IsSynthesis f again → made ≡ again
one_synthesis facts f made again is also =
    let ends = end_of f.placed.sections in
    let same = is.seen ∙ sym also.seen in
    come_to_one facts f.placed.table.symbols f.placed.sections (all_closed ends is.functions) (all_closed ends also.functions) made again
    (all_alike ends is.functions also.functions same) (all_alike ends also.functions is.functions (sym same)) is.comes also.comes
