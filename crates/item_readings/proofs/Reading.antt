-- Whatever is read where the bytes of an item stand does what the item may do.
use Rattle.std.proofs.Common.{ℕ, List, length, Option, Some, sym, ◌∙◌}
use Rattle.x86_insn.specs.Views.{View}
use Rattle.x86_parts.specs.Filling.{filled, valued}
use Rattle.item_bytes.specs.Jumps.{jump_bytes}
use Rattle.code_functions.specs.declared.items.CodeItem.{CodeItem}
use Rattle.flow_graph.specs.declared.nodes.Node.{Node}
use Rattle.x86_steps.specs.Leading.{distance_of}
use Rattle.step_readings.specs.Obeying.{IsObeyed}
use Rattle.step_readings.specs.Filled.{EncodingsObey}
use Rattle.step_readings.specs.Loaded.{LoadedEncodingsObey}
use Rattle.step_readings.specs.Jumps.{jump_of, led_over, JumpsObey}
use Rattle.scfi_laws.specs.Performing.{EffectsAreFollowed}
use Rattle.item_readings.specs.Items.{IsItemOf, ReadsItemOnly, EncodedItemsAreRead, LoadedItemsAreRead, JumpItemsAreRead}
use Rattle.item_readings.proofs.Covering.{covers}

reads_only : EffectsAreFollowed → (insn : View) (item : CodeItem) (node : Node) (starts : ℕ → ℕ) (code : List ℕ) (place : ℕ) (bytes : List ℕ) (d : Option ℕ)
    → IsItemOf insn item node → IsObeyed insn bytes d code place → ReadsItemOnly insn item node starts code place bytes d
reads_only law insn item node starts code place bytes d is obeyed = record {
  read = obeyed.read;
  flow = λ r h. (obeyed.obeys r h).flow ∙ sym is.shows.flow;
  inside = λ inside r h. (covers law insn item node starts place bytes d r is (obeyed.obeys r h)).inside inside;
  directed = λ r h. (covers law insn item node starts place bytes d r is (obeyed.obeys r h)).directed;
}

pub encoded : EffectsAreFollowed → EncodingsObey → EncodedItemsAreRead
encoded law obeys shape values made item node starts code rest v w place is_plain range coded held_v held_w stands is =
    reads_only law (shape values) item node starts code place (filled made.immediate w (filled made.displacement v made.bytes))
    (distance_of (valued (length made.bytes) v w (shape values).first)) is
    (obeys shape values made code rest v w place is_plain range coded held_v held_w stands)

pub loaded_read : EffectsAreFollowed → LoadedEncodingsObey → LoadedItemsAreRead
loaded_read law obeys shape values made item node starts loaded code rest v w place is_plain coded is_loaded range held_v held_w stands_v stands_w stands is =
    reads_only law (shape values) item node starts code place loaded (distance_of (valued (length made.bytes) v w (shape values).first)) is
    (obeys shape values made loaded code rest v w place is_plain coded is_loaded range held_v held_w stands_v stands_w stands)

pub jumps_read : EffectsAreFollowed → JumpsObey → JumpItemsAreRead
jumps_read law obeys condition near distance item node starts code rest place stands is =
    reads_only law (jump_of condition) item node starts code place (jump_bytes condition near distance)
    (Some (led_over near (jump_bytes condition near distance))) is (obeys condition near distance place code rest stands)
