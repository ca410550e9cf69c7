-- What is read where an instruction with operands is loaded.
use Rattle.std.proofs.Common.{◌≡◌, ℕ, ◌<◌, ◌+◌, true, List, Option, Some, None, Ok, length, sym, ap, subst, ◌∙◌}
use Rattle.std.specs.Prelude.{slice_range}
use Rattle.std.proofs.lemmas.Option.{same_Some}
use Rattle.asm_base.specs.Tokens.{SpelledToken}
use Rattle.asm_base.specs.declared.positions.Pos.{Pos}
use Rattle.asm_values.specs.State.{Placed}
use Rattle.att_insns.specs.InsnTexts.{InsnText}
use Rattle.x86_insn.specs.Views.{View}
use Rattle.x86_encode.specs.FieldPlaces.{AreApart, Apart, EncodingsApart}
use Rattle.insn_effects.specs.Flows.{Flow, onward, jumps, calls, through, returns, stops, flow_of}
use Rattle.insn_effects.specs.Followed.{flow_by, calls_by}
use Rattle.code_functions.specs.declared.items.CodeItem.{CodeItem}
use Rattle.flow_graph.specs.declared.nodes.Node.{Node}
use Rattle.flow_graph.specs.Nodes.{node_by}
use Rattle.step_readings.specs.Loaded.{LoadedHaveValues}
use Rattle.scfi_laws.specs.Laid.{plain, ReadsOnly}
use Rattle.scfi_laws.specs.LaidLaws.{NodesSuitItems}
use Rattle.item_readings.specs.Items.{IsItemOf, LeadsInside, ReadsItemOnly, LoadedItemsAreRead}
use Rattle.asm_relax.specs.Settling.{LaidSections}
use Rattle.asm_place.specs.Coding.{view_in, values_in, shape_in, forms_of}
use Rattle.asm_place.specs.Placing.{place_tokens}
use Rattle.asm_place.specs.Instructions.{behind_labels}
use Rattle.asm_place.specs.CodePlaces.{insn_written, jump_in, known_in, IsInsnPut}
use Rattle.place_laws.specs.Ends.{place_in}
use Rattle.place_laws.specs.Statements.{MovesPlace}
use Rattle.code_laws.specs.Codes.{LoadedCodesStand, AreNumbered, IsReadLoaded, EncodingsAreReadLoaded, IsNoJump, IsLaidPlain, EncodingsAreLaid}
use Rattle.code_laws.proofs.Views.{none_behind, none_labelled, same_Ok, written_is_read, seen_is, plain_view}
use Rattle.code_laws.proofs.CodeBytes.{some_bytes}
use Rattle.code_laws.proofs.LoadedBytes.{is_loaded, stands_there}

-- what is known of instructions that are put, and of what is read
pub record Facts : Type 0 where
  pub stand : LoadedCodesStand
  pub put : (pos : Pos) (tokens : List SpelledToken) (before placed : Placed) (text : InsnText) → insn_written before.syntax (behind_labels tokens) ≡ Some text
      → jump_in text ≡ None → place_tokens pos tokens before ≡ Ok placed → IsInsnPut pos tokens text before placed
  pub places : EncodingsApart
  pub values : LoadedHaveValues
  pub read : LoadedItemsAreRead

pub encodings_are_read_loaded : Facts → EncodingsAreReadLoaded
encodings_are_read_loaded facts symbols laid pos tokens text before placed code insn item node starts no_label written no_jump is within l seen numbered of_item =
    let put =
    facts.put pos tokens before placed text (ap (insn_written before.syntax) (none_behind tokens no_label) ∙ written) no_jump is in
    let coded = put.coded in
    let made = coded.made in
    let values = values_in coded.forms in
    let view = view_in text values in
    let labels : coded.labels ≡ before = same_Ok coded.labels before (sym coded.labels_are ∙ none_labelled pos tokens before no_label) in
    let view_is : insn ≡ view =
    same_Some insn view
    (sym seen ∙ seen_is pos tokens text before coded.forms (written_is_read before.syntax tokens text written)
    (ap (λ (there : Placed). forms_of (known_in pos text there) text.immediate.tree text.displacement.tree) (sym labels) ∙ coded.forms_are)) in
    let place = place_in laid before.current before.sections in
    let loaded = facts.stand symbols laid before.current before.sections placed.sections pos made.bytes _ code within put.put l in
    let stands = loaded.stands in
    let apart : AreApart made = subst Apart coded.coding (facts.places (view_in text) values) in
    let bytes = is_loaded (shape_in text) coded.forms made apart code place l.loaded.bytes stands in
    let held = facts.values made (slice_range code place (place + length made.bytes)) apart bytes in
    record {
      put = put;
      moves = loaded.moves;
      reads =
          subst (λ (v : View). IsReadLoaded made v item node starts code place) (sym view_is) (record {
            v = held.displacement.value;
            w = held.immediate.value;
            loaded = bytes;
            displacement = held.displacement.stands;
            immediate = held.immediate.stands;
            reads =
                facts.read (view_in text) values made item node starts (slice_range code place (place + length made.bytes)) code _
                held.displacement.value held.immediate.value place (plain_view text values (subst AreNumbered view_is numbered)) coded.coding bytes
                held.immediate.within held.displacement.holds held.immediate.holds held.displacement.stands held.immediate.stands
                (stands_there (shape_in text) coded.forms made apart code place l.loaded.bytes stands)
                (subst (λ (v : View). IsItemOf v item node) view_is of_item);
          });
    }

-- AS ITEMS

-- where control does not go by a direct jump, nothing has to lead inside
no_jump_leads : (flow : Flow) (starts : ℕ → ℕ) (place : ℕ) (d : Option ℕ) (node : Node) → IsNoJump flow → LeadsInside flow starts place d node
no_jump_leads onward starts place d node none = tt
no_jump_leads (jumps falls) starts place d node none = absurd none
no_jump_leads calls starts place d node none = tt
no_jump_leads through starts place d node none = tt
no_jump_leads returns starts place d node none = tt
no_jump_leads stops starts place d node none = tt

-- a call has no target
pub no_call_target : NodesSuitItems → (insn : View) (item : CodeItem) (node : Node) → IsItemOf insn item node → calls_by item.effect.role ≡ true → node.target ≡ None
no_call_target suit insn item node is called =
    let flow : flow_by item.effect.role ≡ flow_of insn = is.shows.flow in
    ap (λ (n : Node). n.target) (is.node_is ∙ ap (λ f. node_by f is.target) (sym flow)) ∙ (suit item is.target).target called

-- what is read so is laid as an item
pub laid_plain : NodesSuitItems → (insn : View) (item : CodeItem) (node : Node) (starts : ℕ → ℕ) (code bytes : List ℕ) (d : Option ℕ) (laid : LaidSections) (before placed : Placed) (count : ℕ)
    → MovesPlace laid before.current before.sections placed.sections count → 0 < count → length bytes ≡ count → IsItemOf insn item node → IsNoJump (flow_of insn)
    → ReadsItemOnly insn item node starts code (place_in laid before.current before.sections) bytes d → IsLaidPlain laid before placed starts code item node
laid_plain suit insn item node starts code bytes d laid before placed count moves some long is none reads =
    let place = place_in laid before.current before.sections in
    record {
      bytes = count;
      is = record {
        placed = moves;
        fits = record { some = some; calls = no_call_target suit insn item node is };
        reads_back =
            (reads.read, subst (λ n. ReadsOnly starts code place (plain n) item node) long (reads.inside (no_jump_leads (flow_of insn) starts place d node none)));
      };
    }

pub encodings_are_laid : EncodingsAreReadLoaded → NodesSuitItems → EncodingsAreLaid
encodings_are_laid read suit symbols laid pos tokens text before placed code insn item node starts no_label written no_jump is within l seen numbered of_item none =
    let all = read symbols laid pos tokens text before placed code insn item node starts no_label written no_jump is within l seen numbered of_item in
    let made = all.put.coded.made in
    laid_plain suit insn item node starts code _ _ laid before placed (length made.bytes) all.moves
    (some_bytes made.bytes _ all.put.put.apart) all.reads.loaded.long of_item none all.reads.reads
