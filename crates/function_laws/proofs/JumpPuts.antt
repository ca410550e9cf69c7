-- What statements put from which control goes by a direct jump is laid as their items.
use Rattle.std.proofs.Common.{◌≡◌, ℕ, ◌+◌, ◌-◌, ◌^◌, ◌<◌, ◌≤◌, ◌⊎◌, Bool, true, false, cond, nat_lt, List, [], ◌∷◌, ◌++◌, length, Option, None, Some, Ok, refl, sym, ap, subst, ◌∙◌, arith, length-append}
use Rattle.std.specs.Prelude.{◌==◌, ◌||◌, slice_get}
use Rattle.std.specs.Option.{option_map_or, option_and_then}
use Rattle.std.proofs.lemmas.Bool.Decides.{nat_tests}
use Rattle.std.proofs.lemmas.Option.{same_Some}
use Rattle.asm_base.specs.Refusals.{◌>>=◌}
use Rattle.asm_base.specs.Tokens.{SpelledToken}
use Rattle.asm_base.specs.declared.positions.Pos.{Pos}
use Rattle.asm_expr.specs.declared.forms.Term.{Term}
use Rattle.asm_expr.specs.Coefficients.{is_among}
use Rattle.asm_expr.specs.Forms.{Form}
use Rattle.asm_lines.specs.NextStatements.{TokenStatement}
use Rattle.asm_symbols.specs.SymbolMap.{SymbolMap}
use Rattle.asm_frags.specs.declared.fields.Field.{Field}
use Rattle.asm_frags.specs.declared.fields.FieldSize.TheVariants.{Four}
use Rattle.asm_frags.specs.Fields.{growth_role, own_place}
use Rattle.asm_frags.specs.Writing.{LooseSection, ends_in_run, new_item, item_behind, with_run, with_growing}
use Rattle.item_bytes.specs.declared.jumps.Condition.{Condition}
use Rattle.item_contents.specs.declared.contents.Content.TheVariants.{Run}
use Rattle.item_contents.specs.declared.kinds.Growth.TheVariants.{Jump}
use Rattle.section_laws.specs.Within.{AreWithin}
use Rattle.asm_relax.specs.Settling.{LaidSections}
use Rattle.x86_insn.specs.declared.amounts.FieldKind.{FieldKind}
use Rattle.x86_insn.specs.declared.amounts.FieldKind.TheVariants.{Branch}
use Rattle.x86_insn.specs.declared.amounts.Suffix.TheVariants.{Plt}
use Rattle.x86_insn.specs.Views.{View}
use Rattle.x86_parts.specs.declared.encoded.Field.{Field as CodedField}
use Rattle.x86_parts.specs.Filling.{Coding}
use Rattle.insn_effects.specs.Decoding.{action_of}
use Rattle.insn_effects.specs.Effects.{effect_of}
use Rattle.insn_effects.specs.Flows.{Flow, jumps, flow_of, is_unsupported}
use Rattle.insn_effects.specs.Followed.{flow_by, Shows}
use Rattle.step_readings.specs.Jumps.{jump_of}
use Rattle.asm_operands.specs.Operands.{begins_with_label}
use Rattle.asm_values.specs.State.{Placed}
use Rattle.att_insns.specs.InsnTexts.{InsnText}
use Rattle.asm_place.specs.Coding.{shape_in, view_in, values_in, field_size, from_own_place, displacement_field, immediate_field, before_fields}
use Rattle.asm_place.specs.CodePlaces.{FieldInCode, ValueForms, insn_written, insn_in, jump_in, IsCoded, IsInsnPut, code_fields, field_in, with_code}
use Rattle.asm_place.specs.Instructions.{behind_labels, run_end, next_item, next_offset, Grows}
use Rattle.asm_place.specs.JumpPlaces.{IsJump, IsJumpPut, jump_form, jump_field}
use Rattle.asm_place.specs.Placing.{place_tokens}
use Rattle.asm_place.specs.Sources.{pos_at, place, place_all}
use Rattle.asm_place.specs.SymbolPlaces.{AreUpTo, PlacesStand}
use Rattle.code_functions.specs.declared.items.CodeItem.{CodeItem}
use Rattle.code_functions.specs.Seen.{target_field}
use Rattle.flow_graph.specs.AddedLabels.{AreBelow, AreBelowOrOwn, FormsAreThere, FieldIsThere, NodesStay}
use Rattle.flow_graph.specs.declared.nodes.Node.{Node}
use Rattle.flow_graph.specs.Nodes.{node_by, node_of, item_target}
use Rattle.asm_functions.specs.Following.{fields_in}
use Rattle.form_laws.specs.Forms.{ValuesAreThere, HeldFormsAreThere}
use Rattle.scfi_laws.specs.Laid.{Kind, size}
use Rattle.item_readings.specs.Items.{IsItemOf}
use Rattle.place_laws.specs.Ends.{place_in}
use Rattle.place_laws.specs.Statements.{StatementsStand}
use Rattle.code_laws.specs.Sections.{IsLoadedLater, IsLaidBetween}
use Rattle.code_laws.specs.Codes.{IsNumbered, AreNumbered, EncodingsAreReadLoaded, IsPutAndRead}
use Rattle.code_laws.specs.Instructions.{EncodingsAreSeen}
use Rattle.code_laws.specs.Jumps.{IsJumpWritten}
use Rattle.target_laws.specs.Targets.{NamesNoField}
use Rattle.target_laws.specs.Jumps.{jump_length, IsJumpLoaded, JumpsAreSeen, IsJumpItem, AreStarts, jump_kind, JumpsAreRead}
use Rattle.target_laws.specs.Branches.{HoldsTargetAlone, TargetsAreAlone, IsBranchLoaded, branch_field, IsBranchItem, BranchesAreRead}
use Rattle.target_laws.specs.Rooms.{JumpsHaveRoom, HoldsTarget, BranchesAreSaid}
use Rattle.function_laws.specs.Tabled.{fields_of, IsResolved}
use Rattle.function_laws.proofs.Elements.{get_set, get_first, get_last}
use Rattle.function_laws.proofs.Growing.{grown_twice}

-- what is known of statements, of layouts, and of what is read
pub record Facts : Type 0 where
  pub named : (s : TokenStatement) (later : List TokenStatement) (placed whole : Placed) (text : InsnText) → PlacesStand placed
      → (jump : IsJump (pos_at s.file s.line) s.tokens text placed) → place_all (s ∷ later) placed ≡ Ok whole → insn_in placed.syntax s ≡ Some text
      → AreUpTo (length whole.table.symbols.symbols) jump.forms.displacement.terms
  pub jump : (pos : Pos) (tokens : List SpelledToken) (before placed : Placed) (text : InsnText) (condition : Option Condition)
      → insn_written before.syntax (behind_labels tokens) ≡ Some text → jump_in text ≡ Some condition → place_tokens pos tokens before ≡ Ok placed
      → IsJumpPut pos tokens text condition before placed
  pub code : (pos : Pos) (tokens : List SpelledToken) (before placed : Placed) (text : InsnText) → insn_written before.syntax (behind_labels tokens) ≡ Some text
      → jump_in text ≡ None → place_tokens pos tokens before ≡ Ok placed → IsInsnPut pos tokens text before placed
  pub shown : EncodingsAreSeen
  pub read : EncodingsAreReadLoaded
  pub moves : StatementsStand
  pub alone : TargetsAreAlone
  pub seen : JumpsAreSeen
  pub read_jump : JumpsAreRead
  pub read_branch : BranchesAreRead
  pub room : JumpsHaveRoom
  pub said : BranchesAreSaid
  pub values : ValuesAreThere
  pub held : HeldFormsAreThere
  pub stay : NodesStay

-- TOKENS AND TERMS

-- tokens in front of which no label stands are all after the labels
none_behind : (tokens : List SpelledToken) → begins_with_label tokens ≡ false → behind_labels tokens ≡ tokens
unfolding behind_labels
none_behind [] is = refl
none_behind (token ∷ []) is = refl
none_behind (first ∷ second ∷ rest) is = ap (λ b. cond b (behind_labels rest) (first ∷ second ∷ rest)) is

-- terms of symbols up to a lower number do not name a symbol
unnamed_up_to : (own last : ℕ) (terms : List Term) → last < own → AreUpTo last terms → is_among own terms ≡ false
unnamed_up_to own last [] low all = refl
unnamed_up_to own last (term ∷ terms) low all =
    let one = all.0 in
    let apart : (term.symbol == own) ≡ false = grind (arith, nat_tests) in
    ap (λ b. b || is_among own terms) apart ∙ unnamed_up_to own last terms low all.1

less_test : (a b : ℕ) → a < b → nat_lt a b ≡ true
less_test a b less = grind (arith, nat_tests)

-- of a direct jump the first new field is that of its target
first_new : (flow : Flow) (falls : Bool) (a b : ℕ) → flow ≡ jumps falls → a < b → target_field flow a b ≡ Some a
first_new flow falls a b goes less = ap (λ f. target_field f a b) goes ∙ ap (λ t. cond t (Some a) None) (less_test a b less)

kind_size : (exits : Bool) (bytes : ℕ) → size (jump_kind exits bytes) ≡ bytes
kind_size true bytes = refl
kind_size false bytes = refl

run_long : (pos : Pos) (section : LooseSection) → length (with_run pos section).items ≡ run_end section
run_long pos section = by (ends_in_run section.items)
  where
    by : (b : Bool) → length (cond b section (record section { items = section.items ++ item_behind (length section.bytes) (new_item pos Run) ∷ [] })).items
        ≡ cond b (length section.items) (length section.items + 1)
    by true = refl
    by false = length-append section.items (item_behind (length section.bytes) (new_item pos Run) ∷ [])

-- THE STATEMENT

module _ (facts : Facts) (symbols : SymbolMap) (laid : LaidSections) (s : TokenStatement) (later : List TokenStatement) (before placed whole : Placed) (code : List ℕ)
    (fields : List Field) (items : List CodeItem) (item : CodeItem) (node : Node) (starts : ℕ → ℕ) (falls : Bool) (number : ℕ)
    (no_label : begins_with_label s.tokens ≡ false) (is : place s before ≡ Ok placed) (tokens_are : place_tokens (pos_at s.file s.line) s.tokens before ≡ Ok placed)
    (rest : place_all later placed ≡ Ok whole) (within : AreWithin before.sections) (stand : PlacesStand before) (grows : Grows placed.sections whole.sections)
    (few : length whole.table.symbols.symbols ≤ 2 ^ 24) (l : IsLoadedLater symbols laid before.current whole.sections code) (resolved : IsResolved whole.table.symbols symbols l.later laid)
    (there : FormsAreThere before.table.symbols) (begin : AreStarts laid before.current items starts) (node_is : node ≡ node_of whole.table.symbols before.current fields items item)
    (fields_are : fields ≡ fields_of whole.sections before.current) (w : IsJumpWritten s before placed number item) (goes : flow_by item.effect.role ≡ jumps falls) where
  abbrev pos : Pos
  pos = pos_at s.file s.line

  abbrev tokens : List SpelledToken
  tokens = s.tokens

  abbrev text : InsnText
  text = w.text

  abbrev n : ℕ
  n = before.current

  -- it is laid as the item
  abbrev Laid : Type 0
  Laid = (kind : Kind) × IsLaidBetween laid n before.sections placed.sections starts code kind item node

  behind : insn_written before.syntax (behind_labels tokens) ≡ Some text
  behind = ap (insn_written before.syntax) (none_behind tokens no_label) ∙ w.written

  insn_goes : flow_of w.insn ≡ jumps falls
  insn_goes = sym w.shows.flow ∙ goes

  -- what is seen has the values of its forms
  insn_is : (made : IsJump pos tokens text before) → w.insn ≡ view_in text (values_in made.forms)
  insn_is made = same_Some w.insn (view_in text (values_in made.forms)) (sym w.view ∙ facts.shown pos tokens text before made no_label w.written)

  -- its target names no place of a field
  all_placed : place_all (s ∷ later) before ≡ Ok whole
  unfolding place_all
  all_placed = ap (λ answer. answer >>= place_all later) is ∙ rest

  plain : (made : IsJump pos tokens text before) → NamesNoField made.forms.displacement
  plain made =
      let count = few in
      unnamed_up_to own_place (length whole.table.symbols.symbols) made.forms.displacement.terms (omega (arith, count))
      (facts.named s later before whole text stand made all_placed behind)

  -- and symbols that are there in the end
  abbrev count : ℕ
  count = length whole.table.symbols.symbols

  target_there : (made : IsJump pos tokens text before) → AreBelow count made.forms.displacement.terms
  target_there made = (facts.values s later before whole made.labels text made.forms there behind made.labels_are made.forms_are all_placed).displacement

  -- so, if the item has its field, the labels that were added after the source leave the node as it was
  node_stays : (field : Field) (made : IsJump pos tokens text before) → option_and_then (slice_get fields) item.field ≡ Some field → field.form ≡ jump_form made.forms
      → node ≡ node_of symbols n fields items item
  node_stays field made has holds =
      let below = subst (λ (form : Form). AreBelowOrOwn count form.terms) (sym holds) (facts.held count Branch made.forms.displacement (target_there made)) in
      let field_there : FieldIsThere whole.table.symbols fields item = λ other is. subst (λ (f : Field). AreBelowOrOwn count f.form.terms) (same_Some field other (sym has ∙ is)) below in
      node_is ∙ sym (facts.stay whole.table.symbols symbols n fields items item resolved.labelled field_there)

  -- IN THE LAYOUT

  abbrev loaded : IsLoadedLater symbols laid n placed.sections code
  loaded = record {
    later = l.later;
    grows = grown_twice placed.sections whole.sections l.later grows l.grows;
    is = l.is;
    within = l.within;
    kept = l.kept;
    there = l.there;
    takes_bytes = l.takes_bytes;
    relocated = l.relocated;
    loaded = l.loaded;
  }

  -- what is said of a field that was put into the section, and that it is known
  module _ (new : LooseSection) (new_there : slice_get placed.sections n ≡ Some new) (index : ℕ) (field : Field)
      (field_there : slice_get new.fields index ≡ Some field) where
    field_known : slice_get fields index ≡ Some field
    field_known =
        let more = grows.kept n new new_there in
        ap (λ (all : List Field). slice_get all index) (fields_are ∙ ap (λ o. option_map_or (λ (held : LooseSection). held.fields) o []) more.there)
        ∙ get_first new.fields more.fields index field field_there

    said : HoldsTarget field → (field.role.suffix ≡ None) ⊎ (field.role.suffix ≡ Some Plt)
    said holds =
        facts.said symbols laid n index placed.sections new code resolved.object field loaded resolved.is resolved.stand.expandable new_there field_there holds

  -- the field that is recorded
  recorded : (first new : LooseSection) → slice_get before.sections n ≡ Some first → slice_get placed.sections n ≡ Some new → length first.fields < length new.fields
      → item.field ≡ Some (length first.fields)
  recorded first new first_there new_there less =
      w.field ∙ ap (λ a. target_field (flow_of w.insn) a (fields_in placed.sections n)) (ap (λ o. option_map_or (λ (held : LooseSection). length held.fields) o 0) first_there)
      ∙ ap (λ b. target_field (flow_of w.insn) (length first.fields) b) (ap (λ o. option_map_or (λ (held : LooseSection). length held.fields) o 0) new_there)
      ∙ first_new (flow_of w.insn) falls (length first.fields) (length new.fields) insn_goes less

  shows_as : (view : View) → w.insn ≡ view → Shows item.effect (effect_of (action_of view)) (flow_of view) (is_unsupported view)
  shows_as view same = subst (λ (v : View). Shows item.effect (effect_of (action_of v)) (flow_of v) (is_unsupported v)) same w.shows

  -- A DIRECT JUMP

  module _ (condition : Option Condition) (jump : jump_in text ≡ Some condition) where
    put : IsJumpPut pos tokens text condition before placed
    put = facts.jump pos tokens before placed text condition behind jump tokens_are

    abbrev jump_first : LooseSection
    jump_first = put.section

    abbrev jump_new : LooseSection
    jump_new = with_growing pos n (Jump condition) text.displacement.suffix (jump_form put.jump.forms) jump_first

    jump_there : slice_get placed.sections n ≡ Some jump_new
    jump_there = ap (λ (all : List LooseSection). slice_get all n) put.put ∙ get_set before.sections n jump_first jump_new put.there

    abbrev jump_number : ℕ
    jump_number = length jump_first.fields

    abbrev jump_put : Field
    jump_put = record {
      pos = pos;
      item = length jump_first.items + 1;
      offset = length jump_first.bytes;
      section = n;
      size = Four;
      role = growth_role (Jump condition) text.displacement.suffix;
      in_item = true;
      form = jump_form put.jump.forms;
    }

    jump_put_is : jump_field pos text (jump_form put.jump.forms) before ≡ jump_put
    jump_put_is =
        ap (λ k. record (jump_field pos text (jump_form put.jump.forms) before) { item = k + 1 })
        (ap (λ o. option_map_or (λ (held : LooseSection). length held.items) o 0) put.there)
        ∙ ap (λ k. record (jump_field pos text (jump_form put.jump.forms) before) { item = length jump_first.items + 1; offset = k })
        (ap (λ o. option_map_or (λ (held : LooseSection). length held.bytes) o 0) put.there)

    jump_field_there : slice_get jump_new.fields jump_number ≡ Some jump_put
    jump_field_there = get_last jump_first.fields jump_put

    jump_more : jump_number < length jump_new.fields
    jump_more = let count = length-append jump_first.fields (jump_put ∷ []) in omega (arith, count)

    abbrev jump_loaded : IsJumpLoaded symbols laid pos tokens text condition before placed code
    jump_loaded = record {
      put = put;
      later = loaded;
      room = facts.room symbols laid pos tokens text condition before placed code put loaded resolved.stand (plain put.jump);
    }

    jump_item : IsJumpItem symbols n fields items condition jump_number item node
    jump_item =
        let holds = recorded jump_first jump_new put.there jump_there jump_more in
        record {
          shows = shows_as (jump_of condition) (insn_is put.jump ∙ facts.seen text condition (values_in put.jump.forms) jump);
          holds = holds;
          node_is = node_stays jump_put put.jump
              (ap (option_and_then (slice_get fields)) holds ∙ field_known jump_new jump_there jump_number jump_put jump_field_there) refl;
        }

    jump_laid : Laid
    jump_laid =
        let said_so = said jump_new jump_there jump_number jump_put jump_field_there
        (record { kind = refl; target = put.jump.forms.displacement; plain = plain put.jump; form = refl }) in
        let read =
        facts.read_jump symbols laid pos tokens text condition before placed code fields items item node starts jump_number jump_loaded resolved.stand.expandable
        (plain put.jump) said_so (field_known jump_new jump_there jump_number jump_put jump_field_there ∙ ap Some (sym jump_put_is)) jump_item begin in
        let moves = (facts.moves.jump laid pos tokens before placed text condition behind jump tokens_are).moves.moves in
        let long = jump_length laid before in (
          jump_kind node.exits long,
          record {
            placed = moves ∙ ap (λ k. place_in laid n before.sections + k) (sym (kind_size node.exits long));
            fits = read.fits;
            reads_back = read.reads_back;
          },
        )

  -- ANY OTHER BRANCH

  module _ (no_jump : jump_in text ≡ None) where
    -- its forms
    abbrev as_made : IsCoded pos tokens text before → IsJump pos tokens text before
    as_made coded = record { labels = coded.labels; labels_are = coded.labels_are; forms = coded.forms; forms_are = coded.forms_are }

    lone : (coded : IsCoded pos tokens text before) → HoldsTargetAlone (view_in text (values_in coded.forms)) coded.made
    lone coded = facts.alone text (values_in coded.forms) coded.made falls (ap flow_of (sym (insn_is (as_made coded))) ∙ insn_goes) coded.coding

    numbered : AreNumbered w.insn
    numbered =
        let coded = (facts.code pos tokens before placed text behind no_jump tokens_are).coded in
        let is_alone = lone coded in
        subst AreNumbered (sym (insn_is (as_made coded))) (record {
          first = subst IsNumbered (sym is_alone.first) tt;
          second = subst IsNumbered (sym is_alone.second) tt;
          third = subst IsNumbered (sym is_alone.third) tt;
        })

    of_item : IsItemOf w.insn item node
    of_item = record {
      shows = w.shows;
      target = item_target whole.table.symbols n fields items item;
      node_is = node_is ∙ ap (λ flow. node_by flow (item_target whole.table.symbols n fields items item)) w.shows.flow;
    }

    got : IsPutAndRead pos tokens text before placed laid w.insn item node starts code
    got =
        facts.read symbols laid pos tokens text before placed code w.insn item node starts no_label w.written no_jump tokens_are within loaded w.view numbered of_item

    abbrev coded : IsCoded pos tokens text before
    coded = got.put.coded

    abbrev forms : ValueForms
    forms = coded.forms

    abbrev made : Coding
    made = coded.made

    alone : HoldsTargetAlone (view_in text (values_in forms)) made
    alone = lone coded

    -- the one field over its bytes
    abbrev held : FieldInCode
    held = record {
      at = alone.field.at;
      size = field_size alone.field.size;
      role = record { kind = Branch; suffix = text.displacement.suffix; behind = length made.bytes - (alone.field.at + alone.field.size) };
      form = from_own_place forms.displacement;
    }

    held_is : immediate_field (length made.bytes) (shape_in text) forms alone.field ≡ held
    held_is = ap (λ (k : FieldKind). immediate_field (length made.bytes) (shape_in text) forms (record alone.field { kind = k })) alone.kind

    one_field : code_fields text forms made ≡ held ∷ []
    one_field =
        ap (λ d. before_fields (displacement_field (length made.bytes) (shape_in text) forms) d (before_fields (immediate_field (length made.bytes) (shape_in text) forms) made.immediate []))
        alone.displacement
        ∙ ap (λ i. before_fields (immediate_field (length made.bytes) (shape_in text) forms) i []) alone.immediate ∙ ap (λ (f : FieldInCode). f ∷ []) held_is

    abbrev first : LooseSection
    first = got.put.put.section

    abbrev new : LooseSection
    new = with_code pos n made.bytes (held ∷ []) first

    new_there : slice_get placed.sections n ≡ Some new
    new_there =
        ap (λ (all : List LooseSection). slice_get all n) got.put.put.put
        ∙ get_set before.sections n first (with_code pos n made.bytes (code_fields text forms made) first) got.put.put.there
        ∙ ap (λ (held_all : List FieldInCode). Some (with_code pos n made.bytes held_all first)) one_field

    abbrev own : ℕ
    own = length first.fields

    abbrev field_put : Field
    field_put = field_in pos n (length (with_run pos first).items) (length first.bytes) held

    field_put_is : branch_field pos text forms made alone.field before ≡ field_put
    field_put_is =
        ap (field_in pos n (next_item before) (next_offset before)) held_is
        ∙ ap (λ k. field_in pos n k (next_offset before) held) (ap (λ o. option_map_or run_end o 0) got.put.put.there ∙ sym (run_long pos first))
        ∙ ap (λ k. field_in pos n (length (with_run pos first).items) k held) (ap (λ o. option_map_or (λ (held_section : LooseSection). length held_section.bytes) o 0) got.put.put.there)

    own_there : slice_get new.fields own ≡ Some field_put
    own_there = get_last first.fields field_put

    own_more : own < length new.fields
    own_more = let count = length-append first.fields (field_put ∷ []) in omega (arith, count)

    own_known : option_and_then (slice_get fields) item.field ≡ Some field_put
    own_known =
        ap (option_and_then (slice_get fields)) (recorded first new got.put.put.there new_there own_more)
        ∙ field_known new new_there own field_put own_there

    abbrev branch_loaded : IsBranchLoaded symbols laid pos tokens text before placed code
    branch_loaded = record {
      put = got.put;
      later = loaded;
      loaded = got.reads.loaded;
    }

    branch_item : IsBranchItem symbols fields items pos tokens text before coded item node
    branch_item = record {
      shows = shows_as (view_in text (values_in forms)) (insn_is (as_made coded));
      holds = λ field there.
          let same : alone.field ≡ field = same_Some alone.field field (sym alone.immediate ∙ there) in
          own_known ∙ ap Some (sym field_put_is)
          ∙ ap (λ (f : CodedField). Some (branch_field pos text forms made f before)) same;
      node_is = node_stays field_put (as_made coded) own_known refl;
    }

    branch_laid : Laid
    branch_laid =
        let said_so = said new new_there own field_put own_there
        (record { kind = refl; target = forms.displacement; plain = plain (as_made coded); form = refl }) in
        let read =
        facts.read_branch symbols laid pos tokens text before placed code fields items item node starts falls branch_loaded
        (ap flow_of (sym (insn_is (as_made coded))) ∙ insn_goes) resolved.stand.expandable (plain (as_made coded)) said_so branch_item begin in
        let long = length made.bytes in (
          jump_kind node.exits long,
          record {
            placed = got.moves ∙ ap (λ k. place_in laid n before.sections + k) (sym (kind_size node.exits long));
            fits = read.fits;
            reads_back = read.reads_back;
          },
        )

  laid_by : (found : Option (Option Condition)) → jump_in text ≡ found → Laid
  laid_by (Some condition) is_jump = jump_laid condition is_jump
  laid_by None no_jump = branch_laid no_jump

  pub statement_laid : Laid
  statement_laid = laid_by (jump_in text) refl
