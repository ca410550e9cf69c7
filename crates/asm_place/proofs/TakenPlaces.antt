-- What holds of the places of procedures, where it holds of the place of each directive.
use Rattle.std.proofs.Common.{◌≡◌, ℕ, Bool, true, false, List, [], ◌∷◌, ◌++◌, All, map, Option, None, Some, Result, Ok, Err, refl, sym, subst, append-nil, option_to_list}
use Rattle.std.specs.Prelude.{◌==◌, is_some, IfSome, if◌then◌else◌}
use Rattle.std.proofs.lemmas.Bool.{eqb-true}
use Rattle.std.proofs.lemmas.List.Elements.{All-nil, All-head, All-tail, All-push, All-pop}
use Rattle.asm_base.specs.declared.positions.Pos.{Pos}
use Rattle.cfi_directives.specs.declared.faults.CfiCause.{CfiCause}
use Rattle.cfi_directives.specs.declared.faults.CfiCause.TheVariants.{UnbalancedCfiState}
use Rattle.cfi_directives.specs.declared.frames.Frame.{Frame}
use Rattle.cfi_directives.specs.declared.frames.PlacedOp.{PlacedOp}
use Rattle.cfi_directives.specs.declared.lines.CfiLine.{CfiLine}
use Rattle.cfi_directives.specs.declared.lines.CfiLine.TheVariants.{StartProc, EndProc, Row, Point}
use Rattle.cfi_directives.specs.declared.frames.Pointer.{Pointer}
use Rattle.cfi_directives.specs.declared.lines.PointerKind.{PointerKind}
use Rattle.cfi_directives.specs.declared.lines.PointerKind.TheVariants.{Personality, Lsda}
use Rattle.asm_base.specs.declared.places.Place.{Place}
use Rattle.asm_base.specs.declared.places.SectionPlace.{SectionPlace}
use Rattle.cfi_rows.specs.declared.rows.CfiOp.{CfiOp}
use Rattle.cfi_directives.specs.Meant.{stop_of}
use Rattle.cfi_directives.specs.Order.{IsUpTo, last_of, last_place, IsReached}
use Rattle.cfi_directives.specs.Procedures.{Procedures, frames_of, with_pointer, with_stop, cfa_offset}
use Rattle.cfi_directives.specs.Rows.{rows_after}
use Rattle.cfi_directives.specs.Saying.{said}
use Rattle.cfi_directives.specs.Taking.{frame_in, with_op, started, ended, pointed, put, taken, taken_from}
use Rattle.asm_values.specs.State.{Placed, here}
use Rattle.asm_frames.specs.Keeping.{line_here}
use Rattle.asm_base.specs.Refusals.{◌>>=◌}
use Rattle.asm_place.proofs.Walks.{Fine, made, refused, step, after}

-- all of the procedures, the open one among them
pub frames_all : (P : Frame → Type 0) (closed : List Frame) (begun : Option Frame) → All P closed → IfSome begun P → All P (closed ++ option_to_list begun)
frames_all P closed None all holds = subst (All P) (sym (append-nil closed)) all
frames_all P closed (Some frame) all holds = All-push P closed frame all holds

-- the last place of a procedure is one of its places
pub last_has : (Q : Place → Type 0) (first : Place) (ops : List PlacedOp) → Q first → All (λ (placed : PlacedOp). Q placed.place) ops
    → Q (last_of first (map (λ (placed : PlacedOp). placed.place) ops))
last_has Q first [] start all = start
last_has Q first (op ∷ ops) start all =
    last_has Q op.place ops (All-head (λ (placed : PlacedOp). Q placed.place) op ops all) (All-tail (λ (placed : PlacedOp). Q placed.place) op ops all)

module _ (Q : ℕ → Place → Type 0) where
  -- it holds of each place of a procedure in its section,
  pub record HasPlaces (frame : Frame) : Type 0 where
    pub start : Q frame.section frame.start
    pub stop : Q frame.section (stop_of frame)
    pub ops : All (λ placed. Q frame.section placed.place) frame.ops

  -- and so of all procedures
  pub record HavePlaces (procedures : Procedures) : Type 0 where
    pub closed : All HasPlaces procedures.closed
    pub begun : IfSome procedures.begun HasPlaces

  pub frames_have : (procedures : Procedures) → HavePlaces procedures → All HasPlaces (frames_of procedures)
  frames_have procedures have = frames_all HasPlaces procedures.closed procedures.begun have.closed have.begun

  pub have_frames : (procedures : Procedures) → All HasPlaces (frames_of procedures) → HavePlaces procedures
  have_frames procedures all =
      let parts = All-pop HasPlaces (frames_of procedures) procedures.closed procedures.begun refl all in
      record { closed = parts.0; begun = parts.1 }

  -- the procedure that is open, in this section
  record IsOpenIn (section : ℕ) (frame : Frame) : Type 0 where
    has : HasPlaces frame
    same : frame.section ≡ section

  open_by : (section : ℕ) (frame : Frame) (test : Bool) → (frame.section == section) ≡ test → HasPlaces frame
      → Fine {E = CfiCause} (IsOpenIn section) (if test then Ok frame else Err UnbalancedCfiState)
  open_by section frame true is has = made frame (record { has = has; same = eqb-true frame.section section is })
  open_by section frame false is has = refused _

  open_has : (section : ℕ) (begun : Option Frame) → IfSome begun HasPlaces → Fine (IsOpenIn section) (frame_in section begun)
  open_has section None has = refused _
  open_has section (Some frame) has = open_by section frame (frame.section == section) refl has

  start_has : (pos : Pos) (at : SectionPlace) (closed : List Frame) (begun : Option Frame) → Q at.section at.place → All HasPlaces closed
      → Fine HavePlaces (started pos at (record { closed = closed; begun = begun }))
  start_has pos at closed (Some frame) here all = refused _
  start_has pos at closed None here all =
      made _ (record { closed = all; begun = record { start = here; stop = here; ops = All-nil (λ (placed : PlacedOp). Q at.section placed.place) } })

  same_here : (section : ℕ) (at : SectionPlace) → section ≡ at.section → Q at.section at.place → Q section at.place
  same_here section at same here = subst (λ (n : ℕ). Q n at.place) (sym same) here

  end_has : (at : SectionPlace) (closed : List Frame) (begun : Option Frame) → Q at.section at.place → All HasPlaces closed → IfSome begun HasPlaces
      → Fine HavePlaces (ended at (record { closed = closed; begun = begun }))
  end_has at closed begun here all holds =
      step (open_has at.section begun holds)
      (λ frame is. made _ (record {
        closed = All-push HasPlaces closed (with_stop at.place frame) all
            (record { start = is.has.start; stop = same_here frame.section at is.same here; ops = is.has.ops });
        begun = tt;
      }))

  op_by : (placed : PlacedOp) (frame : Frame) (test : Bool) → HasPlaces frame → Q frame.section placed.place
      → Fine {E = CfiCause} HasPlaces (if test then Ok (record frame { ops = frame.ops ++ placed ∷ [] }) else Err UnbalancedCfiState)
  op_by placed frame true has here =
      made _ (record {
        start = has.start;
        stop = has.stop;
        ops = All-push (λ (op : PlacedOp). Q frame.section op.place) frame.ops placed has.ops here;
      })
  op_by placed frame false has here = refused _

  put_has : (at : SectionPlace) (op : CfiOp) (closed : List Frame) (begun : Option Frame) → Q at.section at.place → All HasPlaces closed → IfSome begun HasPlaces
      → Fine HavePlaces (put at op (record { closed = closed; begun = begun }))
  put_has at op closed begun here all holds =
      let placed : PlacedOp = record { place = at.place; op = op } in
      step (step (open_has at.section begun holds)
      (λ frame is. op_by placed frame (is_some (rows_after (frame.ops ++ placed ∷ []))) is.has (same_here frame.section at is.same here)))
      (λ frame has. made _ (record { closed = all; begun = has }))

  -- a pointer has no place
  pointed_has : (kind : PointerKind) (pointer : Option Pointer) (frame : Frame) → HasPlaces frame → HasPlaces (with_pointer kind pointer frame)
  pointed_has Personality pointer frame has = record { start = has.start; stop = has.stop; ops = has.ops }
  pointed_has Lsda pointer frame has = record { start = has.start; stop = has.stop; ops = has.ops }

  point_has : (kind : PointerKind) (pointer : Option Pointer) (at : SectionPlace) (closed : List Frame) (begun : Option Frame) → All HasPlaces closed → IfSome begun HasPlaces
      → Fine HavePlaces (pointed kind pointer at (record { closed = closed; begun = begun }))
  point_has kind pointer at closed begun all holds =
      step (open_has at.section begun holds) (λ frame is. made _ (record { closed = all; begun = pointed_has kind pointer frame is.has }))

  -- a directive keeps it so, where it holds of its place
  pub taken_has : (line : CfiLine) (at : SectionPlace) (procedures : Procedures) → Q at.section at.place → HavePlaces procedures
      → Fine HavePlaces (taken line at procedures)
  taken_has (StartProc pos) at procedures here have = start_has pos at procedures.closed procedures.begun here have.closed
  taken_has EndProc at procedures here have = end_has at procedures.closed procedures.begun here have.closed have.begun
  taken_has (Row directive) at procedures here have =
      after (said (cfa_offset procedures.begun) directive) (λ op. put_has at op procedures.closed procedures.begun here have.closed have.begun)
  taken_has (Point kind pointer) at procedures here have = point_has kind pointer at procedures.closed procedures.begun have.closed have.begun

  -- and so do directives, one after the other at one place
  pub lines_have : (placed : Placed) → Q (here placed).place.section (here placed).place.place → (lines : List CfiLine) (procedures : Procedures)
      → HavePlaces procedures → Fine HavePlaces (taken_from procedures (map (line_here placed) lines))
  lines_have placed at [] procedures have = made _ have
  lines_have placed at (line ∷ lines) procedures have =
      step (taken_has line (here placed).place procedures at have) (λ next now. lines_have placed at lines next now)

-- whatever an answer is
always : {A E : Type 0} {P : A → Type 0} (r : Result A E) → ((x : A) → P x) → Fine P r
always (Ok x) holds = made x (holds x)
always (Err fault) holds = refused fault

-- the place of a directive that is taken is not before the last one of the open procedure, if it is not where that is in its section
module _ (at : SectionPlace) where
  -- the procedure has not come past it
  abbrev pub IsBefore : Frame → Type 0
  IsBefore frame = IsUpTo (last_place frame) at.place

  before_by : {X : Type 0} (frame : Frame) (test : Bool) (next : Frame → Result X CfiCause) → (frame.section == at.section) ≡ test
      → (frame.section ≡ at.section → IsBefore frame) → Fine (λ x. IsBefore frame) ((if test then Ok frame else Err UnbalancedCfiState) >>= next)
  before_by frame true next is there = always (next frame) (λ x. there (eqb-true frame.section at.section is))
  before_by frame false next is there = refused _

  begun_before : (line : CfiLine) (closed : List Frame) (begun : Option Frame) → IfSome begun (λ frame. frame.section ≡ at.section → IsBefore frame)
      → Fine (λ next. IfSome begun IsBefore) (taken line at (record { closed = closed; begun = begun }))
  begun_before line closed None there = always _ (λ next. tt)
  begun_before (StartProc pos) closed (Some frame) there = refused _
  begun_before EndProc closed (Some frame) there = before_by frame (frame.section == at.section) _ refl there
  begun_before (Row directive) closed (Some frame) there =
      after (said (cfa_offset (Some frame)) directive)
      (λ op. step (before_by frame (frame.section == at.section) (with_op (record { place = at.place; op = op })) refl there) (λ more before. made _ before))
  begun_before (Point kind pointer) closed (Some frame) there = before_by frame (frame.section == at.section) _ refl there

  pub reached_there : (line : CfiLine) (procedures : Procedures) → IfSome procedures.begun (λ frame. frame.section ≡ at.section → IsBefore frame)
      → Fine (λ next. IsReached procedures at) (taken line at procedures)
  reached_there line procedures there = begun_before line procedures.closed procedures.begun there
