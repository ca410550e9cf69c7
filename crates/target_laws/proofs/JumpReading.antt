-- What is read where a direct jump is loaded does what its item may do.
use Rattle.std.proofs.Common.{◌≡◌, ℕ, Bool, true, false, List, Option, Some, None, refl, sym, ap, ◌∙◌, subst, arith}
use Rattle.std.specs.Prelude.{slice_get}
use Rattle.std.specs.Option.{option_map_or, option_and_then}
use Rattle.asm_expr.specs.Forms.{wrapped}
use Rattle.asm_frags.specs.SectionOf.{SectionOf}
use Rattle.item_bytes.specs.Jumps.{is_conditional, jump_bytes}
use Rattle.insn_effects.specs.Flows.{Flow, onward, jumps, calls, through, returns, stops, flow_of}
use Rattle.x86_steps.specs.Readings.{HasReading}
use Rattle.step_readings.specs.Jumps.{jump_of, led_over}
use Rattle.code_functions.specs.declared.items.CodeItem.{CodeItem}
use Rattle.flow_graph.specs.declared.nodes.Node.{Node}
use Rattle.flow_graph.specs.declared.targets.Target.{Target}
use Rattle.flow_graph.specs.declared.targets.Target.TheVariants.{Inside, Outside, Unknown}
use Rattle.flow_graph.specs.Targets.{field_target}
use Rattle.flow_graph.specs.Nodes.{node_by, item_target}
use Rattle.asm_relax.specs.Final.{address_of}
use Rattle.asm_relax.specs.Settling.{LaidItem, LaidSections}
use Rattle.scfi_laws.specs.Laid.{plain, directed, ReadsOnly, ReadsFlow, ReadsItem}
use Rattle.item_readings.specs.Items.{LeadsTo, LeadsInside, JumpItemsAreRead}
use Rattle.asm_place.specs.JumpPlaces.{jump_form, jump_field}
use Rattle.place_laws.specs.Jumps.{IsLowLater, JumpsLead}
use Rattle.place_laws.specs.Low.{LayoutsAreLow}
use Rattle.target_laws.specs.Targets.{place_address, TargetsAreItems}
use Rattle.target_laws.proofs.Fitting.{jump_goes, some_bytes, jump_fits}
use Rattle.target_laws.specs.Jumps.{jump_place, jump_length, LoadedJumpsStand, jump_kind, JumpsAreRead}

-- ADDRESSES

wrapped_once : (n : ℕ) → wrapped (wrapped n) ≡ wrapped n
wrapped_once n = omega arith

address_by : (found : Option (SectionOf LaidItem)) (address : SectionOf LaidItem → ℕ)
    → wrapped (option_map_or (λ s. wrapped (address s)) found 0) ≡ option_map_or (λ s. wrapped (address s)) found 0
address_by None address = refl
address_by (Some section) address = wrapped_once (address section)

-- an address is a number modulo 2^64
pub address_low : (laid : LaidSections) (section item offset : ℕ) → wrapped (address_of laid section item offset) ≡ address_of laid section item offset
unfolding address_of
address_low laid section item offset = address_by (slice_get laid section) _

-- WHAT IS READ BY THE NODE

module _ (starts : ℕ → ℕ) (code : List ℕ) (place size : ℕ) (item : CodeItem) (node : Node) (distance : Option ℕ) (read : HasReading code place) (flows : ReadsFlow code place item)
    (directed_is : ReadsOnly starts code place (directed size) item node) where
  -- an item whose target is not known is not followed
  untraced_plain : node.untraced ≡ true → ReadsOnly starts code place (plain size) item node
  untraced_plain unknown r reading =
      let covered = directed_is r reading in
      record { bytes = covered.bytes; covers = λ s t traced at ranged does stays. absurd (let known = traced.target in cc) }

  as_plain : node.exits ≡ false → ReadsOnly starts code place (plain size) item node → ReadsItem starts code place (jump_kind node.exits size) item node
  as_plain stays only = subst (λ b. ReadsItem starts code place (jump_kind b size) item node) (sym stays) (read, only)

  as_directed : node.exits ≡ true → ReadsItem starts code place (jump_kind node.exits size) item node
  as_directed exits = subst (λ b. ReadsItem starts code place (jump_kind b size) item node) (sym exits) (read, directed_is, flows)

  -- a direct jump by its target
  pub read_jump : (falls : Bool) (target : Target) → node ≡ node_by (jumps falls) target
      → (LeadsTo starts place distance node → ReadsOnly starts code place (plain size) item node)
      → ((label : ℕ) → target ≡ Inside label false → node.target ≡ Some label → LeadsTo starts place distance node)
      → ReadsItem starts code place (jump_kind node.exits size) item node
  read_jump falls (Inside label false) is inside leads =
      as_plain (ap (λ (m : Node). m.exits) is) (inside (leads label refl (ap (λ (m : Node). m.target) is)))
  read_jump falls (Inside label true) is inside leads = as_directed (ap (λ (m : Node). m.exits) is)
  read_jump falls Outside is inside leads = as_directed (ap (λ (m : Node). m.exits) is)
  read_jump falls Unknown is inside leads = as_plain (ap (λ (m : Node). m.exits) is) (untraced_plain (ap (λ (m : Node). m.untraced) is))

  -- and any other instruction
  pub read_item : (flow : Flow) (target : Target) → node ≡ node_by flow target
      → (LeadsInside flow starts place distance node → ReadsOnly starts code place (plain size) item node)
      → ((label : ℕ) → target ≡ Inside label false → node.target ≡ Some label → LeadsTo starts place distance node)
      → ReadsItem starts code place (jump_kind node.exits size) item node
  read_item onward target is inside leads = as_plain (ap (λ (m : Node). m.exits) is) (inside tt)
  read_item (jumps falls) target is inside leads = read_jump falls target is inside leads
  read_item calls target is inside leads = as_plain (ap (λ (m : Node). m.exits) is ∙ call_stays target) (inside tt)
    where
      call_stays : (t : Target) → (node_by calls t).exits ≡ false
      call_stays (Inside label preemptible) = refl
      call_stays Outside = refl
      call_stays Unknown = refl
  read_item through target is inside leads = as_plain (ap (λ (m : Node). m.exits) is) (inside tt)
  read_item returns target is inside leads = as_directed (ap (λ (m : Node). m.exits) is)
  read_item stops target is inside leads = as_plain (ap (λ (m : Node). m.exits) is) (inside tt)

-- THE JUMP

module _ (loaded : LoadedJumpsStand) (labels : TargetsAreItems) (lead : JumpsLead) (stand_low : LayoutsAreLow) (reads : JumpItemsAreRead) where
  pub jumps_are_read : JumpsAreRead
  jumps_are_read symbols laid pos tokens text condition before placed code fields items item node starts number is ordered names_none suffix field_there jump begin =
      let stands = loaded symbols laid pos tokens text condition before placed code is in
      let place = jump_place laid before in
      let size = jump_length laid before in
      let bytes = jump_bytes condition stands.near stands.distance in
      let field = jump_field pos text (jump_form is.put.jump.forms) before in
      let target = item_target symbols before.current fields items item in
      let found : option_and_then (slice_get fields) item.field ≡ Some field = ap (option_and_then (slice_get fields)) jump.holds ∙ field_there in
      let target_is : target ≡ field_target symbols before.current items field =
      ap (λ f. option_map_or (field_target symbols before.current items) f Unknown) found in
      let flow = flow_of (jump_of condition) in
      let node_is : node ≡ node_by flow target = jump.node_is ∙ ap (λ f. node_by f target) jump.shows.flow in
      let only = reads condition stands.near stands.distance item node starts code stands.rest place stands.stand
      (record { shows = jump.shows; target = target; node_is = node_is }) in
      let distance : Option ℕ = Some (led_over stands.near bytes) in
      let long = stands.long in
      let leads : (label : ℕ) → target ≡ Inside label false → node.target ≡ Some label → LeadsTo starts place distance node =
      λ label inside to.
      let branch = labels symbols laid before.current items field label ordered
      (record {
        in_section = refl;
        kind = refl;
        behind = omega arith;
        target = is.put.jump.forms.displacement;
        plain = names_none;
        form = refl;
        suffix = suffix;
      }) (sym target_is ∙ inside) in
      let address = place_address laid before.current branch.code.place in
      let later : IsLowLater symbols placed.sections laid =
      record { later = is.later.later; grows = is.later.grows; is = is.later.is; low = stand_low.items symbols is.later.later laid is.later.is is.later.within } in
      let value = lead symbols laid pos tokens text condition before placed is.put branch.symbol 0 address later branch.branch in
      let held = stands.value value.value value.held in
      let there = value.leads in
      let low = address_low laid before.current branch.code.place.item branch.code.place.offset in
      let start = begin label branch.code branch.there in
      record {
        item = label;
        by = led_over stands.near bytes;
        target = to;
        distance_is = refl;
        there = omega (arith, held, there, low, start, long);
      } in
      let some = some_bytes condition stands.near stands.distance in
      record {
        fits = jump_fits item node (is_conditional condition) size (jump.shows.flow ∙ jump_goes condition) (omega (arith, some, long));
        reads_back = read_item starts code place size item node distance only.read only.flow
            (subst (λ n. ReadsOnly starts code place (directed n) item node) long only.directed) flow target node_is
            (λ inside. subst (λ n. ReadsOnly starts code place (plain n) item node) long (only.inside inside)) leads;
      }
