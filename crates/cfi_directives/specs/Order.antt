-- The order of places: they never fall within a procedure, if those that are handed in don't.
use Rattle.std.specs.Prelude.{◌≡◌, ◌≤◌, List, [], ◌∷◌, ◌++◌, map, All, None, IfSome, IsSomeAnd}
use Rattle.cfi_directives.specs.declared.frames.Frame.{Frame}
use Rattle.cfi_directives.specs.declared.lines.CfiLine.{CfiLine}
use Rattle.cfi_directives.specs.declared.lines.CfiLine.TheVariants.{StartProc, EndProc, Row, Point}
use Rattle.asm_base.specs.declared.places.Place.{Place}
use Rattle.asm_base.specs.declared.places.SectionPlace.{SectionPlace}
use Rattle.cfi_directives.specs.Procedures.{Procedures}
use Rattle.cfi_directives.specs.Taking.{PlacedLine}

-- as many items and as many plain bytes, or more, stand before the second place
abbrev pub IsUpTo : Place → Place → Type 0
IsUpTo first second = (first.item ≤ second.item) × (first.offset ≤ second.offset)

-- no place is before the one before it
abbrev pub NeverFall : List Place → Type 0
NeverFall [] = Unit {0}
NeverFall (first ∷ []) = Unit {0}
NeverFall (first ∷ second ∷ places) = IsUpTo first second × NeverFall (second ∷ places)

-- the beginning of a procedure, and the places of its instructions
abbrev pub op_places : Frame → List Place
op_places frame = frame.start ∷ map (λ placed. placed.place) frame.ops

-- the last of places, of which this one is the first
abbrev pub last_of : Place → List Place → Place
last_of first [] = first
last_of first (second ∷ places) = last_of second places

-- the last place of a procedure so far
abbrev pub last_place : Frame → Place
last_place frame = last_of frame.start (map (λ placed. placed.place) frame.ops)

-- a procedure that has ended, whose places never fall from its beginning over its instructions to its end
abbrev pub IsInOrder : Frame → Type 0
IsInOrder frame = IsSomeAnd frame.stop (λ stop. NeverFall (op_places frame ++ stop ∷ []))

-- so are all that have ended, and those of the open one never fall so far
pub record AreInOrder (procedures : Procedures) : Type 0 where
  pub closed : All IsInOrder procedures.closed
  pub begun : IfSome procedures.begun (λ frame. NeverFall (op_places frame))

-- the place is not before the last one of the open procedure
abbrev pub IsReached : Procedures → SectionPlace → Type 0
IsReached procedures at = IfSome procedures.begun (λ frame. IsUpTo (last_place frame) at.place)

-- the procedure has come to a place of its section: its last place so far is this one
abbrev pub IsAt : SectionPlace → Frame → Type 0
IsAt at frame = (frame.section ≡ at.section) × (last_place frame ≡ at.place)

-- a line at this place was taken: by the one that begins it and by those of its rows the open procedure has come to the place, and the one that ends it leaves
-- none open; the line of a pointer has no place in the procedure, which is not past this one where it wasn't before
abbrev pub HasComeTo : CfiLine → SectionPlace → Procedures → Procedures → Type 0
HasComeTo (StartProc pos) at before now = IsSomeAnd now.begun (IsAt at)
HasComeTo EndProc at before now = now.begun ≡ None
HasComeTo (Row directive) at before now = IsSomeAnd now.begun (IsAt at)
HasComeTo (Point kind pointer) at before now =
    IsSomeAnd now.begun (λ frame. (frame.section ≡ at.section) × (IsReached before at → IsUpTo (last_place frame) at.place))

-- no line stands before the one before it, where both stand in one section
abbrev pub LinesNeverFall : List PlacedLine → Type 0
LinesNeverFall [] = Unit {0}
LinesNeverFall (first ∷ []) = Unit {0}
LinesNeverFall (first ∷ second ∷ lines) =
    (first.at.section ≡ second.at.section → IsUpTo first.at.place second.at.place) × LinesNeverFall (second ∷ lines)
