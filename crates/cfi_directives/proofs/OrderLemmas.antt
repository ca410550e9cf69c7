-- Places never fall within a procedure.
use Rattle.std.proofs.Common.{◌≡◌, List, [], ◌∷◌, ◌++◌, map, Option, None, Some, Ok, refl, sym, ◌∙◌, ap, subst, arith}
use Rattle.std.specs.Prelude.{All, IfSome, IsSomeAnd}
use Rattle.std.proofs.lemmas.List.{map-append}
use Rattle.std.proofs.lemmas.List.Elements.{All-push, All-nil}
use Rattle.cfi_rows.specs.declared.rows.CfiOp.{CfiOp}
use Rattle.cfi_directives.specs.declared.frames.Frame.{Frame}
use Rattle.cfi_directives.specs.declared.frames.PlacedOp.{PlacedOp}
use Rattle.cfi_directives.specs.declared.frames.Pointer.{Pointer}
use Rattle.cfi_directives.specs.declared.lines.PointerKind.{PointerKind}
use Rattle.cfi_directives.specs.declared.lines.PointerKind.TheVariants.{Personality, Lsda}
use Rattle.cfi_directives.specs.declared.lines.CfiLine.{CfiLine}
use Rattle.cfi_directives.specs.declared.lines.CfiLine.TheVariants.{StartProc, EndProc, Row, Point}
use Rattle.asm_base.specs.declared.places.Place.{Place}
use Rattle.asm_base.specs.declared.places.SectionPlace.{SectionPlace}
use Rattle.cfi_directives.specs.Order.{IsUpTo, NeverFall, op_places, last_of, last_place, IsInOrder, AreInOrder, IsReached, IsAt, HasComeTo, LinesNeverFall}
use Rattle.cfi_directives.specs.Procedures.{Procedures, no_procedures, with_pointer, with_stop, cfa_offset}
use Rattle.cfi_directives.specs.Saying.{said}
use Rattle.cfi_directives.specs.Taking.{put, taken, PlacedLine, taken_from, procedures_of}
use Rattle.cfi_directives.proofs.StepLemmas.{came, with_ops, Points, pointed_is, Puts, put_is, Ends, ended_is, started_is, open_is}

-- a place more behind the last one
pub fall_no_more : (first : Place) (places : List Place) (next : Place) → NeverFall (first ∷ places) → IsUpTo (last_of first places) next
    → NeverFall (first ∷ (places ++ next ∷ []))
fall_no_more first [] next rising up = (up, tt)
fall_no_more first (second ∷ places) next rising up = (rising.0, fall_no_more second places next rising.1 up)

pub last_of-add : (first : Place) (places : List Place) (next : Place) → last_of first (places ++ next ∷ []) ≡ next
last_of-add first [] next = refl
last_of-add first (second ∷ places) next = last_of-add second places next

-- the instruction stands at the place
abbrev pub place_in : PlacedOp → Place
place_in placed = placed.place

-- the places of a procedure with an instruction more
places_more : (ops : List PlacedOp) (placed : PlacedOp) → map place_in (ops ++ placed ∷ []) ≡ map place_in ops ++ placed.place ∷ []
places_more ops placed = map-append place_in ops (placed ∷ [])

-- an instruction more keeps the order
op_in_order : (frame : Frame) (placed : PlacedOp) → NeverFall (op_places frame) → IsUpTo (last_place frame) placed.place
    → NeverFall (op_places (with_ops frame (frame.ops ++ placed ∷ [])))
op_in_order frame placed rising up =
    subst (λ (all : List Place). NeverFall (frame.start ∷ all)) (sym (places_more frame.ops placed))
    (fall_no_more frame.start (map place_in frame.ops) placed.place rising up)

op_comes_to : (frame : Frame) (placed : PlacedOp) → last_place (with_ops frame (frame.ops ++ placed ∷ [])) ≡ placed.place
op_comes_to frame placed = ap (last_of frame.start) (places_more frame.ops placed) ∙ last_of-add frame.start (map place_in frame.ops) placed.place

-- a directive more keeps the order
put_kept : (at : SectionPlace) (procedures next : Procedures) (frame : Frame) (op : CfiOp) → Puts at op procedures next frame
    → AreInOrder procedures → IsUpTo (last_place frame) at.place → AreInOrder next
put_kept at procedures next frame op puts order up =
    subst AreInOrder (sym puts.made) (record {
      closed = order.closed;
      begun = op_in_order frame (record { place = at.place; op = op })
          (open_is (λ frame. NeverFall (op_places frame)) procedures.begun frame puts.begun order.begun) up;
    })

end_kept : (at : SectionPlace) (procedures next : Procedures) (frame : Frame) → Ends at procedures next frame
    → AreInOrder procedures → IsUpTo (last_place frame) at.place → AreInOrder next
end_kept at procedures next frame ends order up =
    subst AreInOrder (sym ends.made) (record {
      closed = All-push IsInOrder procedures.closed (with_stop at.place frame) order.closed
          (fall_no_more frame.start (map place_in frame.ops) at.place
          (open_is (λ frame. NeverFall (op_places frame)) procedures.begun frame ends.begun order.begun) up);
      begun = tt;
    })

-- a pointer changes no place
pointed_rises : (kind : PointerKind) (pointer : Option Pointer) (frame : Frame) → NeverFall (op_places frame) → NeverFall (op_places (with_pointer kind pointer frame))
pointed_rises Personality pointer frame rising = rising
pointed_rises Lsda pointer frame rising = rising

pointed_place : (kind : PointerKind) (pointer : Option Pointer) (frame : Frame)
    → ((with_pointer kind pointer frame).section ≡ frame.section) × (last_place (with_pointer kind pointer frame) ≡ last_place frame)
pointed_place Personality pointer frame = (refl, refl)
pointed_place Lsda pointer frame = (refl, refl)

point_kept : (kind : PointerKind) (pointer : Option Pointer) (at : SectionPlace) (procedures next : Procedures) (frame : Frame)
    → Points kind pointer at procedures next frame → AreInOrder procedures → AreInOrder next
point_kept kind pointer at procedures next frame points order =
    subst AreInOrder (sym points.made) (record {
      closed = order.closed;
      begun = pointed_rises kind pointer frame (open_is (λ frame. NeverFall (op_places frame)) procedures.begun frame points.begun order.begun);
    })

-- where the open procedure of its section has not come past the place
abbrev pub IsAhead : Procedures → SectionPlace → Type 0
IsAhead procedures at = (frame : Frame) → procedures.begun ≡ Some frame → frame.section ≡ at.section → IsUpTo (last_place frame) at.place

kept_ahead : (line : CfiLine) (at : SectionPlace) (procedures next : Procedures) → taken line at procedures ≡ Ok next
    → AreInOrder procedures → IsAhead procedures at → AreInOrder next
kept_ahead (StartProc pos) at procedures next is order ahead =
    let starts = started_is pos at procedures next is in
    subst AreInOrder (sym starts.1) (record { closed = order.closed; begun = tt })
kept_ahead EndProc at procedures next is order ahead =
    let ends = ended_is at procedures next is in
    end_kept at procedures next ends.0 ends.1 order (ahead ends.0 ends.1.begun ends.1.section)
kept_ahead (Row directive) at procedures next is order ahead =
    let says = came (said (cfa_offset procedures.begun) directive) (λ op. put at op procedures) next is in
    let puts = put_is at says.0 procedures next says.2 in
    put_kept at procedures next puts.0 says.0 puts.1 order (ahead puts.0 puts.1.begun puts.1.section)
kept_ahead (Point kind pointer) at procedures next is order ahead =
    let points = pointed_is kind pointer at procedures next is in
    point_kept kind pointer at procedures next points.0 points.1 order

pub kept : (line : CfiLine) (at : SectionPlace) (procedures next : Procedures) → taken line at procedures ≡ Ok next
    → AreInOrder procedures → IsReached procedures at → AreInOrder next
kept line at procedures next is order reached =
    kept_ahead line at procedures next is order
    (λ frame begun section. open_is (λ frame. IsUpTo (last_place frame) at.place) procedures.begun frame begun reached)

-- a directive takes the open procedure to its place
put_reached : (at : SectionPlace) (procedures next : Procedures) (frame : Frame) (placed : PlacedOp) → placed.place ≡ at.place
    → frame.section ≡ at.section → next ≡ record procedures { begun = Some (with_ops frame (frame.ops ++ placed ∷ [])) }
    → IsSomeAnd next.begun (IsAt at)
put_reached at procedures next frame placed here section is =
    subst (λ (p : Procedures). IsSomeAnd p.begun (IsAt at)) (sym is) (section, op_comes_to frame placed ∙ here)

point_reached : (kind : PointerKind) (pointer : Option Pointer) (at : SectionPlace) (procedures next : Procedures) (frame : Frame)
    → Points kind pointer at procedures next frame → HasComeTo (Point kind pointer) at procedures next
point_reached kind pointer at procedures next frame points =
    let same = pointed_place kind pointer frame in
    subst (HasComeTo (Point kind pointer) at procedures) (sym points.made) (
      same.0 ∙ points.section,
      λ reached.
          subst (λ (p : Place). IsUpTo p at.place) (sym same.1) (open_is (λ frame. IsUpTo (last_place frame) at.place) procedures.begun frame points.begun reached),
    )

pub reached : (line : CfiLine) (at : SectionPlace) (procedures next : Procedures) → taken line at procedures ≡ Ok next → HasComeTo line at procedures next
reached (StartProc pos) at procedures next is =
    let starts = started_is pos at procedures next is in
    subst (λ (p : Procedures). IsSomeAnd p.begun (IsAt at)) (sym starts.1) (refl, refl)
reached EndProc at procedures next is =
    let ends = ended_is at procedures next is in
    ap (λ (p : Procedures). p.begun) ends.1.made
reached (Row directive) at procedures next is =
    let says = came (said (cfa_offset procedures.begun) directive) (λ op. put at op procedures) next is in
    let puts = put_is at says.0 procedures next says.2 in
    put_reached at procedures next puts.0 (record { place = at.place; op = says.0 }) refl puts.1.section puts.1.made
reached (Point kind pointer) at procedures next is =
    let points = pointed_is kind pointer at procedures next is in
    point_reached kind pointer at procedures next points.0 points.1

-- so no line takes it past its place
abbrev pub HasNotPassed : SectionPlace → Procedures → Type 0
HasNotPassed at procedures = IfSome procedures.begun (λ frame. (frame.section ≡ at.section) × IsUpTo (last_place frame) at.place)

at_is_up_to : (at : SectionPlace) (begun : Option Frame) → IsSomeAnd begun (IsAt at) → IfSome begun (λ frame. (frame.section ≡ at.section) × IsUpTo (last_place frame) at.place)
at_is_up_to at (Some frame) here =
    (here.0, subst (λ (p : Place). IsUpTo p at.place) (sym here.1) (omega arith, omega arith))
at_is_up_to at None none = tt

passed_none : (line : CfiLine) (at : SectionPlace) (procedures next : Procedures) → taken line at procedures ≡ Ok next → IsAhead procedures at → HasNotPassed at next
passed_none (StartProc pos) at procedures next is ahead = at_is_up_to at next.begun (reached (StartProc pos) at procedures next is)
passed_none EndProc at procedures next is ahead =
    subst (λ (b : Option Frame). IfSome b (λ frame. (frame.section ≡ at.section) × IsUpTo (last_place frame) at.place)) (sym (reached EndProc at procedures next is)) tt
passed_none (Row directive) at procedures next is ahead = at_is_up_to at next.begun (reached (Row directive) at procedures next is)
passed_none (Point kind pointer) at procedures next is ahead =
    let points = pointed_is kind pointer at procedures next is in
    let same = pointed_place kind pointer points.0 in
    subst (HasNotPassed at) (sym points.1.made) (
      same.0 ∙ points.1.section,
      subst (λ (p : Place). IsUpTo p at.place) (sym same.1) (ahead points.0 points.1.begun points.1.section),
    )

-- lines that never fall come to places ahead
up_on : (first second third : Place) → IsUpTo first second → IsUpTo second third → IsUpTo first third
up_on first second third one other = (omega (arith, one.0, other.0), omega (arith, one.1, other.1))

ahead_of : (first second : SectionPlace) (procedures : Procedures) → HasNotPassed first procedures
    → (first.section ≡ second.section → IsUpTo first.place second.place) → IsAhead procedures second
ahead_of first second procedures came rises frame begun section =
    let there = open_is (λ frame. (frame.section ≡ first.section) × IsUpTo (last_place frame) first.place) procedures.begun frame begun came in
    up_on (last_place frame) first.place second.place there.1 (rises (sym there.0 ∙ section))

all_from : (first : PlacedLine) (lines : List PlacedLine) (procedures last : Procedures) → HasNotPassed first.at procedures → AreInOrder procedures
    → LinesNeverFall (first ∷ lines) → taken_from procedures lines ≡ Ok last → All IsInOrder last.closed
all_from first [] procedures last here order rising is = subst (λ (p : Procedures). All IsInOrder p.closed) (let same : procedures ≡ last = cc in same) order.closed
all_from first (second ∷ lines) procedures last here order rising is =
    let step = came (taken second.line second.at procedures) (λ next. taken_from next lines) last is in
    let ahead = ahead_of first.at second.at procedures here rising.0 in
    all_from second lines step.0 last (passed_none second.line second.at procedures step.0 step.1 ahead)
    (kept_ahead second.line second.at procedures step.0 step.1 order ahead) rising.1 step.2

pub all : (lines : List PlacedLine) (procedures : Procedures) → procedures_of lines ≡ Ok procedures → LinesNeverFall lines
    → All IsInOrder procedures.closed
all [] procedures is rising = subst (λ (p : Procedures). All IsInOrder p.closed) (let same : no_procedures ≡ procedures = cc in same) (All-nil IsInOrder)
all (first ∷ lines) procedures is rising =
    let step = came (taken first.line first.at no_procedures) (λ next. taken_from next lines) procedures is in
    all_from first lines step.0 procedures (passed_none first.line first.at no_procedures step.0 step.1 (λ frame begun section. absurd (let none : ⊥ = cc in none)))
    (kept first.line first.at no_procedures step.0 step.1 (record { closed = All-nil IsInOrder; begun = tt }) tt) rising step.2
