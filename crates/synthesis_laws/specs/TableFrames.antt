-- Functions as procedures with the instructions of their frame tables.
use Rattle.std.specs.Prelude.{◌≡◌, ◌∷◌, ◌++◌, ℕ, List, [], map, slice_get, IsSomeAnd}
use Rattle.std.specs.Option.{option_map_or}
use Rattle.asm_base.specs.declared.places.Place.{Place}
use Rattle.cfi_directives.specs.declared.frames.Frame.{Frame}
use Rattle.cfi_directives.specs.declared.frames.PlacedOp.{PlacedOp}
use Rattle.cfi_directives.specs.Order.{NeverFall, IsInOrder}
use Rattle.cfi_directives.specs.Sound.{IsWhole}
use Rattle.code_functions.specs.declared.items.CodeItem.{CodeItem}
use Rattle.code_functions.specs.Recorded.{Recorded}
use Rattle.flow_graph.specs.declared.nodes.Node.{Node}
use Rattle.scfi_pass.specs.declared.item_ops.ItemOp.{ItemOp}
use Rattle.scfi_pass.specs.Synthesis.{IsTableOf}

-- where the item of this number begins, or else the function
abbrev pub place_of : Recorded CodeItem → ℕ → Place
place_of f number = option_map_or (λ item. item.place) (slice_get f.items number) f.start

-- an instruction at the place of its item
abbrev pub placed_in : Recorded CodeItem → ItemOp → PlacedOp
placed_in f held = record { place = place_of f held.item; op = held.op }

-- the procedure begins and ends where the function does, and has these instructions
abbrev pub IsFrameOf : Recorded CodeItem → List ItemOp → Frame → Type 0
IsFrameOf f ops frame = (frame.start ≡ f.start) × (frame.stop ≡ f.stop)
    × (frame.ops ≡ map (placed_in f) ops)

-- the function has ended, and no place is before the one before it, from its beginning over its
-- items to its end
abbrev pub ItemsStand : Recorded CodeItem → Type 0
ItemsStand f =
    IsSomeAnd f.stop (λ stop. NeverFall (f.start ∷ (map (λ item. item.place) f.items ++ stop ∷ [])))

-- then the procedure with the instructions of its frame table has ended and is sound, and its
-- places never fall either
abbrev pub TableFramesAreWhole : Type 0
TableFramesAreWhole = (f : Recorded CodeItem) (nodes : List Node) (old new : ℕ) (ops : List ItemOp)
    (frame : Frame) → ItemsStand f → IsTableOf f.items nodes old new ops → IsFrameOf f ops frame
    → IsWhole frame × IsInOrder frame
