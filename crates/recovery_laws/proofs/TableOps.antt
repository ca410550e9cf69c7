-- The frame of a function, as a procedure with the instructions of its frame table.
use Rattle.std.proofs.Common.{◌≡◌, ℕ, zero, suc, ◌<◌, List, [], ◌∷◌, All, length, map, refl, sym, ap, subst, ◌∙◌, arith}
use Rattle.std.specs.Prelude.{slice_get}
use Rattle.std.specs.Option.{option_map_or}
use Rattle.std.proofs.lemmas.List.Elements.{All-head, All-tail}
use Rattle.asm_base.specs.declared.places.Place.{Place}
use Rattle.asm_values.specs.State.{Placed}
use Rattle.cfi_directives.specs.declared.frames.Frame.{Frame}
use Rattle.cfi_directives.specs.declared.frames.PlacedOp.{PlacedOp}
use Rattle.code_functions.specs.declared.items.CodeItem.{CodeItem}
use Rattle.code_functions.specs.Recorded.{Recorded}
use Rattle.flow_graph.specs.declared.nodes.Node.{Node}
use Rattle.scfi_pass.specs.declared.item_ops.ItemOp.{ItemOp}
use Rattle.scfi_pass.specs.Synthesis.{IsTableOf}
use Rattle.scfi_pass.specs.Tables.{Analyzed}
use Rattle.synthesis_laws.specs.TableFrames.{placed_in}
use Rattle.synthesis_laws.specs.TableFrames as synthesis
use Rattle.synthesis_laws.specs.WrittenTables.{TablesAreOfItems}
use Rattle.function_laws.specs.Tabled.{IsSynthesized}
use Rattle.source_ends.specs.Synthesis.{place_of, placed_ops, nodes_in, IsFrameOf}
use Rattle.recovery_laws.specs.Recovered.{IsAnalysisOf}

-- an item that is there has one place, whatever stands for that of one that is not
place_there : (items : List CodeItem) (start : Place) (number : ℕ) → number < length items
    → place_of items number ≡ option_map_or (λ (item : CodeItem). item.place) (slice_get items number) start
place_there [] start number few = absurd (omega (arith, few))
place_there (item ∷ items) start zero few = refl
place_there (item ∷ items) start (suc number) few = place_there items start number (omega (arith, few))

ops_placed : (f : Recorded CodeItem) (ops : List ItemOp) → All (λ op. op.item < length f.items) ops → placed_ops f.items ops ≡ map (placed_in f) ops
ops_placed f [] all = refl
ops_placed f (op ∷ ops) all =
    ap (λ (place : Place). record { place = place; op = op.op } ∷ placed_ops f.items ops) (place_there f.items f.start op.item (All-head (λ (o : ItemOp). o.item < length f.items) op ops all))
    ∙ ap (λ (rest : List PlacedOp). placed_in f op ∷ rest) (ops_placed f ops (All-tail (λ (o : ItemOp). o.item < length f.items) op ops all))

module _ (told : TablesAreOfItems) (source : Placed) (f : Recorded CodeItem) (frame : Frame) (is : IsFrameOf source.table.symbols source.sections f frame) where
  -- what is known of the function
  abbrev pub known : Analyzed
  known = is.table.table.0

  abbrev nodes : List Node
  nodes = nodes_in source.table.symbols source.sections f

  pub analysis : IsAnalysisOf source f known
  analysis = record { analyzed = is.table.table.1.analyzed; same_items = is.table.table.1.same_items; same_nodes = is.table.table.1.same_nodes }

  frame_of : synthesis.IsFrameOf f is.table.ops frame
  frame_of = (
    ap (λ (p : Frame). p.start) is.made,
    ap (λ (p : Frame). p.stop) is.made,
    is.table.made ∙ ops_placed f is.table.ops (told f.items nodes is.table.old is.table.new is.table.ops is.table.table),
  )

  pub synthesized : IsSynthesized source.table.symbols source.sections f known is.table.ops frame
  synthesized = record {
    analyzed = analysis.analyzed;
    same_items = analysis.same_items;
    same_nodes = analysis.same_nodes ∙ ap (λ (items : List CodeItem). nodes_in source.table.symbols source.sections (record f { items = items })) (sym analysis.same_items);
    old = is.table.old;
    new = is.table.new;
    table = subst (λ (all : List Node). IsTableOf f.items all is.table.old is.table.new is.table.ops) (sym analysis.same_nodes) is.table.table;
    frame_of = frame_of;
    section = ap (λ (p : Frame). p.section) is.made;
  }
