-- What is read where a branch is loaded does what its item may do.
use Rattle.std.proofs.Common.{◌≡◌, ℕ, ◌+◌, ◌-◌, ◌%◌, ◌^◌, ◌<◌, ◌⊎◌, true, false, List, [], ◌∷◌, ◌++◌, Some, None, take, drop, length, refl, sym, ap, ◌∙◌, subst, arith, take-append-drop, length-drop}
use Rattle.std.specs.Prelude.{Bool, slice_get, slice_range, IfSome}
use Rattle.std.specs.Option.{option_map_or}
use Rattle.std.proofs.lemmas.List.{length-take}
use Rattle.asm_base.specs.Tokens.{SpelledToken}
use Rattle.asm_base.specs.declared.positions.Pos.{Pos}
use Rattle.asm_symbols.specs.SymbolMap.{SymbolMap}
use Rattle.asm_frags.specs.declared.fields.Field.{Field}
use Rattle.asm_frags.specs.Fields.{width, holds, low_bytes}
use Rattle.asm_frags.specs.Substituting.{substituted_field}
use Rattle.assigned_forms.specs.Linked.{linked}
use Rattle.x86_insn.specs.declared.amounts.FieldKind.TheVariants as kind
use Rattle.x86_insn.specs.declared.amounts.Suffix.TheVariants.{Plt}
use Rattle.x86_insn.specs.Views.{Seen, target, View}
use Rattle.x86_parts.specs.declared.encoded.Field.{Field as CodedField}
use Rattle.x86_encode.specs.FieldPlaces.{AreApart, Apart, EncodingsApart}
use Rattle.x86_parts.specs.Filling.{Coding, field_holds, kind_holds, low_bytes as bytes_of_low, valued}
use Rattle.insn_effects.specs.Flows.{jumps, flow_of}
use Rattle.x86_steps.specs.Leading.{distance_of}
use Rattle.step_readings.specs.Filled.{IsPlain, IsPlainView}
use Rattle.step_readings.specs.Loaded as coded
use Rattle.code_functions.specs.declared.items.CodeItem.{CodeItem}
use Rattle.flow_graph.specs.declared.nodes.Node.{Node}
use Rattle.flow_graph.specs.declared.targets.Target.{Target}
use Rattle.flow_graph.specs.declared.targets.Target.TheVariants.{Inside, Outside, Unknown as Unknown_target}
use Rattle.flow_graph.specs.Targets.{field_target}
use Rattle.flow_graph.specs.Nodes.{node_by, item_target}
use Rattle.scfi_laws.specs.Laid.{directed, plain, ReadsOnly, ReadsItem}
use Rattle.item_readings.specs.Items.{IsItemOf, LeadsTo, ReadsItemOnly, LoadedItemsAreRead}
use Rattle.asm_relax.specs.Settling.{LaidSections}
use Rattle.asm_relax.specs.ValueRanges.{ValuesAreInRange}
use Rattle.att_insns.specs.InsnTexts.{InsnText}
use Rattle.asm_values.specs.State.{Placed}
use Rattle.asm_place.specs.Coding.{shape_in, view_in, values_in, field_size, from_own_place, displacement_field, immediate_field, before_fields}
use Rattle.asm_place.specs.CodePlaces.{FieldInCode, ValueForms, code_fields, field_in}
use Rattle.asm_place.specs.Instructions.{next_item, next_offset}
use Rattle.place_laws.specs.Branches.{IsBranchTo, Leads, BranchesLead}
use Rattle.target_laws.specs.Targets.{NamesNoField, AreExpandable, place_address, BranchesToItem, TargetsAreItems}
use Rattle.target_laws.specs.Jumps.{jump_place, jump_kind, AreStarts, IsItemAt}
use Rattle.target_laws.specs.Branches.{HoldsTargetAlone, TargetsAreAlone, IsBranchLoaded, branch_field, IsBranchItem, BranchesAreRead}
use Rattle.target_laws.proofs.BranchLoading.{Facts, number, own, at, field_is, field_kept, place_is, address_is, loaded_byte}
use Rattle.target_laws.proofs.Elements.{get_drop, get_take, begins_with, take_front}
use Rattle.target_laws.proofs.Fitting.{jump_fits}
use Rattle.target_laws.proofs.FieldValues.{low_same, low_length, branch_holds, same_width}
use Rattle.target_laws.proofs.JumpBytes.{held_low, layout_fine}
use Rattle.target_laws.proofs.JumpReading.{address_low, read_item}

-- what is known of encodings, and of what is read
pub record Laws : Type 0 where
  pub facts : Facts
  pub labels : TargetsAreItems
  pub ranges : ValuesAreInRange
  pub lead : BranchesLead
  pub apart : EncodingsApart
  pub alone : TargetsAreAlone
  pub values : coded.LoadedHaveValues
  pub reads : LoadedItemsAreRead

-- A TARGET ALONE

plain_view : (view : View) (made : Coding) → HoldsTargetAlone view made → IsPlainView view
plain_view view made alone = record {
  first = subst IsPlain (sym alone.first) refl;
  second = subst IsPlain (sym alone.second) tt;
  third = subst IsPlain (sym alone.third) tt;
}

-- the field of a distance
abbrev distance_field : InsnText → ValueForms → Coding → CodedField → FieldInCode
distance_field text forms made field = record {
  at = field.at;
  size = field_size field.size;
  role = record { kind = kind.Branch; suffix = text.displacement.suffix; behind = length made.bytes - (field.at + field.size) };
  form = from_own_place forms.displacement;
}

distance_is : (text : InsnText) (forms : ValueForms) (made : Coding) (field : CodedField) → field.kind ≡ kind.Branch
    → immediate_field (length made.bytes) (shape_in text) forms field ≡ distance_field text forms made field
distance_is text forms made field is = ap (λ k. immediate_field (length made.bytes) (shape_in text) forms (record field { kind = k })) is

lone_field : (text : InsnText) (forms : ValueForms) (made : Coding) (field : CodedField) → made.displacement ≡ None → made.immediate ≡ Some field → field.kind ≡ kind.Branch
    → code_fields text forms made ≡ distance_field text forms made field ∷ []
lone_field text forms made field none some is =
    ap (λ d. before_fields (displacement_field (length made.bytes) (shape_in text) forms) d (before_fields (immediate_field (length made.bytes) (shape_in text) forms) made.immediate [])) none
    ∙ ap (λ i. before_fields (immediate_field (length made.bytes) (shape_in text) forms) i []) some
    ∙ ap (λ f. f ∷ []) (distance_is text forms made field is)

same_label : (one other : ℕ) → Inside one false ≡ Inside other false → one ≡ other
same_label one other is = cc

-- WHAT IS READ

module _ (laws : Laws) (symbols : SymbolMap) (laid : LaidSections) (pos : Pos) (tokens : List SpelledToken) (text : InsnText) (before placed : Placed) (code : List ℕ)
    (fields : List Field) (items : List CodeItem) (item : CodeItem) (node : Node) (starts : ℕ → ℕ) (falls : Bool) (is : IsBranchLoaded symbols laid pos tokens text before placed code)
    (goes : flow_of (view_in text (values_in is.put.coded.forms)) ≡ jumps falls) (ordered : AreExpandable symbols) (names_none : NamesNoField is.put.coded.forms.displacement)
    (suffix : (text.displacement.suffix ≡ None) ⊎ (text.displacement.suffix ≡ Some Plt))
    (branch : IsBranchItem symbols fields items pos tokens text before is.put.coded item node) (begin : AreStarts laid before.current items starts) where
  abbrev forms : ValueForms
  forms = is.put.coded.forms

  abbrev made : Coding
  made = is.put.coded.made

  abbrev insn : View
  insn = view_in text (values_in forms)

  abbrev place : ℕ
  place = jump_place laid before

  abbrev size : ℕ
  size = length made.bytes

  abbrev loaded : List ℕ
  loaded = slice_range code place (place + size)

  abbrev goal_target : Target
  goal_target = item_target symbols before.current fields items item

  alone : HoldsTargetAlone insn made
  alone = laws.alone text (values_in forms) made falls goes is.put.coded.coding

  first_is : insn.first ≡ target None
  first_is = alone.first

  abbrev field : CodedField
  field = alone.field

  some : made.immediate ≡ Some field
  some = alone.immediate

  branch_is : field.kind ≡ kind.Branch
  branch_is = alone.kind

  apart : AreApart made
  apart = subst Apart is.put.coded.coding (laws.apart (view_in text) (values_in forms))

  node_is : node ≡ node_by (flow_of insn) goal_target
  node_is = branch.node_is ∙ ap (λ f. node_by f goal_target) branch.shows.flow

  item_of : IsItemOf insn item node
  item_of = record { shows = branch.shows; target = goal_target; node_is = node_is }

  same_count : place + size - place ≡ size
  same_count = omega arith

  loaded_is : loaded ≡ take size (drop place code)
  loaded_is = ap (λ k. take k (drop place code)) same_count

  stands : drop place code ≡ loaded ++ drop size (drop place code)
  stands = sym (take-append-drop size (drop place code)) ∙ ap (λ (xs : List ℕ). xs ++ drop size (drop place code)) (sym loaded_is)

  -- with this value in its field
  read_with : (w : ℕ) → w < 2 ^ 64 → field_holds made.immediate w ≡ true → coded.HoldsValue made.immediate w loaded
      → ReadsItemOnly insn item node starts code place loaded (distance_of (valued size 0 w insn.first))
  read_with w small hold there =
      laws.reads (view_in text) (values_in forms) made item node starts loaded code (drop size (drop place code)) 0 w place (plain_view insn made alone) is.put.coded.coding is.loaded small
      (ap (λ d. field_holds d 0) alone.displacement) hold (subst (λ d. coded.HoldsValue d 0 loaded) (sym alone.displacement) tt) there stands item_of

  -- with whatever a linker has put there
  any : coded.HasValue made.immediate loaded
  any = (laws.values made loaded apart is.loaded).immediate

  any_read : ReadsItemOnly insn item node starts code place loaded (distance_of (valued size 0 any.value insn.first))
  any_read = read_with any.value any.within any.holds any.stands

  abbrev Goal : Type 0
  Goal = ReadsItem starts code place (jump_kind node.exits size) item node

  long : length loaded ≡ size
  long = is.loaded.long

  -- what is read for a node of this target, where its distance is of this value
  finish : (w : ℕ) → ReadsItemOnly insn item node starts code place loaded (distance_of (valued size 0 w insn.first))
      → ((label : ℕ) → goal_target ≡ Inside label false → node.target ≡ Some label → LeadsTo starts place (distance_of (valued size 0 w insn.first)) node) → Goal
  finish w only leads =
      read_item starts code place size item node (distance_of (valued size 0 w insn.first)) only.read only.flow
      (subst (λ n. ReadsOnly starts code place (directed n) item node) long only.directed) (flow_of insn) goal_target node_is
      (λ inside. subst (λ n. ReadsOnly starts code place (plain n) item node) long (only.inside inside)) leads

  -- A BRANCH TO A LABEL INSIDE

  module _ (label : ℕ) (inside : goal_target ≡ Inside label false) where
    abbrev held : FieldInCode
    held = distance_field text forms made field

    lone : code_fields text forms made ≡ held ∷ []
    lone = lone_field text forms made field alone.displacement some branch_is

    last : (field.at + field.size ≡ size) × (width (field_size field.size) ≡ field.size)
    last =
        let one = apart.immediate field some in
        let at = one.at in
        let count = one.size in
        (omega (arith, at, count), ap (λ n. width (field_size n)) count ∙ same_width apart.last one.width ∙ sym count)

    -- the field that is put, and as it is in the layout
    abbrev held_field : Field
    held_field = field_in pos before.current (next_item before) (next_offset before) held

    abbrev laid_field : Field
    laid_field = own laws.facts symbols laid pos tokens text before placed code is held lone

    branch_field_is : branch_field pos text forms made field before ≡ held_field
    branch_field_is = ap (field_in pos before.current (next_item before) (next_offset before)) (distance_is text forms made field branch_is)

    target_is : goal_target ≡ field_target symbols before.current items held_field
    target_is =
        ap (λ f. option_map_or (field_target symbols before.current items) f Unknown_target) (branch.holds field some)
        ∙ ap (field_target symbols before.current items) branch_field_is

    leads_to : BranchesToItem symbols laid before.current items held_field label
    leads_to =
        laws.labels symbols laid before.current items held_field label ordered
        (record {
          in_section = refl;
          kind = refl;
          behind = let end = last.0 in omega (arith, end);
          target = forms.displacement;
          plain = names_none;
          form = refl;
          suffix = suffix;
        }) (sym target_is ∙ inside)

    abbrev address : ℕ
    address = place_address laid before.current leads_to.code.place

    branch_to : IsBranchTo symbols laid laid_field leads_to.symbol 0 address
    branch_to =
        subst (λ (f : Field). IsBranchTo symbols laid (substituted_field (linked symbols) f) leads_to.symbol 0 address)
        (field_is laws.facts symbols laid pos tokens text before placed code is held lone) leads_to.branch

    abbrev field_at : ℕ
    field_at = at laws.facts symbols laid pos tokens text before placed code is held lone

    at_is : field_at ≡ place + field.at
    at_is = place_is laws.facts symbols laid pos tokens text before placed code is held lone

    leads : Leads symbols laid laid_field place size (address + 0)
    leads =
        let there = address_is laws.facts symbols laid pos tokens text before placed code is held lone in
        let low = address_low laid before.current laid_field.item laid_field.offset in
        let here = at_is in
        let count = last.0 in
        let wide = last.1 in
        laws.lead.over symbols laid laid_field leads_to.symbol 0 address place size field.at branch_to refl (omega (arith, there, low, here)) (omega (arith, count, wide))

    abbrev value : ℕ
    value = leads.value

    value_low : value < 2 ^ 64
    value_low = held_low symbols laid laid_field value refl leads.held

    value_holds : field_holds made.immediate value ≡ true
    value_holds =
        let range : holds kind.Branch held.size value ≡ true =
        subst (λ v. IfSome v (λ n. holds kind.Branch held.size n ≡ true)) leads.held
        (laws.ranges symbols laid before.current (number laws.facts symbols laid pos tokens text before placed code is held lone) is.later.kept laid_field
        (layout_fine symbols is.later.later laid is.later.is) is.later.there (field_kept laws.facts symbols laid pos tokens text before placed code is held lone)) in
        ap (λ o. field_holds o value) some ∙ ap (λ k. kind_holds k field.size value) branch_is
        ∙ ap (λ n. kind_holds kind.Branch n value) (sym last.1) ∙ branch_holds held.size value value_low range

    abbrev bytes : List ℕ
    bytes = low_bytes held.size value

    bytes_long : length bytes ≡ field.size
    bytes_long = low_length held.size value ∙ last.1

    loaded_same : (k : ℕ) → k < length bytes → slice_get loaded (field.at + k) ≡ slice_get bytes k
    loaded_same k few =
        let count = last.0 in
        let all = bytes_long in
        let wide = last.1 in
        let here = at_is in
        let taken : length (take size (drop place code)) ≡ size = ap (λ (xs : List ℕ). length xs) (sym loaded_is) ∙ long in
        let rest = length-take size (drop place code) in
        let dropped = length-drop place code in
        let next : place + (field.at + k) ≡ field_at + k = omega (arith, here) in
        let inside_code : field_at + k < length code = omega (arith, here, count, all, few, taken, rest, dropped) in
        ap (λ (xs : List ℕ). slice_get xs (field.at + k)) loaded_is ∙ get_take (drop place code) size (field.at + k) (omega (arith, count, all, few))
        ∙ get_drop code place (field.at + k) ∙ ap (slice_get code) next
        ∙ loaded_byte laws.facts symbols laid pos tokens text before placed code is held lone value leads.held k (omega (arith, few, all, wide)) inside_code

    value_there : coded.HoldsValue made.immediate value loaded
    value_there =
        let count = last.0 in
        let all = bytes_long in
        let whole = long in
        let begins = begins_with loaded bytes field.at (omega (arith, count, all, whole)) loaded_same in
        let rest = drop (field.at + length bytes) loaded in
        let same : bytes_of_low field.size value ≡ bytes = ap (λ n. bytes_of_low n value) (sym last.1) ∙ sym (low_same held.size value value_low) in
        let taken : take field.size (drop field.at loaded) ≡ bytes =
        ap (take field.size) begins ∙ ap (λ n. take n (bytes ++ rest)) (sym all) ∙ take_front bytes rest in
        subst (λ o. coded.HoldsValue o value loaded) (sym some) (same ∙ sym taken)

    arrives : (other : ℕ) → goal_target ≡ Inside other false → node.target ≡ Some other → LeadsTo starts place (distance_of (valued size 0 value insn.first)) node
    arrives other also to =
        let same : label ≡ other = same_label label other (sym inside ∙ also) in
        let there = leads.leads in
        let low = address_low laid before.current leads_to.code.place.item leads_to.code.place.offset in
        let start : starts other ≡ address = ap starts (sym same) ∙ begin label leads_to.code leads_to.there in
        record {
          item = other;
          by = (value + size) % 2 ^ 64;
          target = to;
          distance_is = ap (λ (o : Seen). distance_of (valued size 0 value o)) first_is;
          there = omega (arith, there, low, start);
        }

    read_inside : Goal
    read_inside = finish value (read_with value value_low value_holds value_there) arrives

  -- ANY BRANCH

  read_outside : ((label : ℕ) → goal_target ≡ Inside label false → ⊥) → Goal
  read_outside none = finish any.value any_read (λ label inside to. absurd (none label inside))

  by_target : (t : Target) → goal_target ≡ t → Goal
  by_target (Inside label false) is_target = read_inside label is_target
  by_target (Inside label true) is_target = read_outside (λ other inside. cc)
  by_target Outside is_target = read_outside (λ other inside. cc)
  by_target Unknown_target is_target = read_outside (λ other inside. cc)

  pub read_branch : IsItemAt starts code place (jump_kind node.exits size) item node
  read_branch =
      let some = apart.behind in
      record {
        fits = jump_fits item node falls size (branch.shows.flow ∙ goes) (omega (arith, some));
        reads_back = by_target goal_target refl;
      }

pub branches_are_read : Laws → BranchesAreRead
branches_are_read laws symbols laid pos tokens text before placed code fields items item node starts falls is goes ordered names_none suffix branch begin =
    read_branch laws symbols laid pos tokens text before placed code fields items item node starts falls is goes ordered names_none suffix branch begin
