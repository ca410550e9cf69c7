-- Directives that are taken are those of procedures, one behind the other.
use Rattle.std.proofs.Common.{◌≡◌, ℕ, zero, suc, ◌≤◌, List, [], ◌∷◌, ◌++◌, length, map, Option, None, Some, Ok, refl, sym, ◌∙◌, ap, subst, arith, append_assoc, inl, inr, ◌⊎◌}
use Rattle.std.proofs.lemmas.List.{append-nil, length-append}
use Rattle.asm_base.specs.declared.positions.Pos.{Pos}
use Rattle.cfi_directives.specs.declared.frames.Frame.{Frame}
use Rattle.cfi_directives.specs.declared.frames.PlacedOp.{PlacedOp}
use Rattle.cfi_directives.specs.declared.lines.CfiLine.{CfiLine}
use Rattle.cfi_directives.specs.declared.lines.CfiLine.TheVariants.{StartProc, EndProc, Row, Point}
use Rattle.cfi_directives.specs.declared.frames.Pointer.{Pointer}
use Rattle.cfi_directives.specs.declared.lines.PointerKind.{PointerKind}
use Rattle.cfi_directives.specs.declared.lines.PointerKind.TheVariants.{Personality, Lsda}
use Rattle.cfi_directives.specs.declared.lines.RowDirective.{RowDirective}
use Rattle.asm_base.specs.declared.places.Place.{Place}
use Rattle.asm_base.specs.declared.places.SectionPlace.{SectionPlace}
use Rattle.cfi_directives.specs.Meanings.{RowLine, of_row, of_pointer, Says, Mean, row_line, stop_line, AreOf}
use Rattle.cfi_directives.specs.Procedures.{Procedures, new_frame, with_pointer, with_stop, cfa_offset}
use Rattle.cfi_directives.specs.Saying.{said}
use Rattle.cfi_directives.specs.Taking.{put, taken, PlacedLine, taken_from}
use Rattle.cfi_directives.proofs.MeaningLemmas.{with_open, after}
use Rattle.cfi_directives.proofs.StepLemmas.{came, with_ops, Points, pointed_is, Puts, put_is, Ends, ended_is, started_is}

abbrev pub line_at : CfiLine → SectionPlace → PlacedLine
line_at line at = record { line = line; at = at }

-- the directives of an open procedure go on to the last line
abbrev pub RunsOn : List Frame → Frame → List PlacedLine → Procedures → List RowLine → List PlacedOp → Type 0
RunsOn closed frame lines last rows ops =
    (lines ≡ map (row_line frame.section) rows) × (last ≡ with_open closed (Some (after frame rows ops)))

-- they go on to its end
abbrev pub Stops : List Frame → Frame → List PlacedLine → Procedures → List RowLine → List PlacedOp → Type 0
Stops closed frame lines last rows ops = (stop : Place) × (rest : List PlacedLine)
    × (lines ≡ map (row_line frame.section) rows ++ stop_line frame.section stop ∷ rest)
    × (taken_from (with_open (closed ++ with_stop stop (after frame rows ops) ∷ []) None) rest ≡ Ok last)

-- the directives of an open procedure, and what they mean
pub record Scanned (closed : List Frame) (frame : Frame) (lines : List PlacedLine) (last : Procedures) : Type 0 where
  pub rows : List RowLine
  pub ops : List PlacedOp
  pub mean : Mean frame.ops rows ops
  pub cut : RunsOn closed frame lines last rows ops ⊎ Stops closed frame lines last rows ops

-- one directive more in front
abbrev after_one : List Frame → Frame → PlacedOp → Frame
after_one closed frame placed = with_ops frame (frame.ops ++ placed ∷ [])

more_ops : (frame : Frame) (directive : RowDirective) (place : Place) (placed : PlacedOp) (rows : List RowLine) (ops : List PlacedOp)
    → after (with_ops frame (frame.ops ++ placed ∷ [])) rows ops ≡ after frame (of_row directive place ∷ rows) (placed ∷ ops)
more_ops frame directive place placed rows ops =
    ap (λ all. record (after frame rows ops) { ops = all }) (append_assoc frame.ops (placed ∷ []) ops)

cut_more : (closed : List Frame) (frame : Frame) (directive : RowDirective) (place : Place) (placed : PlacedOp) (lines : List PlacedLine) (last : Procedures)
    (rows : List RowLine) (ops : List PlacedOp)
    → (RunsOn closed (after_one closed frame placed) lines last rows ops ⊎ Stops closed (after_one closed frame placed) lines last rows ops)
    → RunsOn closed frame (row_line frame.section (of_row directive place) ∷ lines) last (of_row directive place ∷ rows) (placed ∷ ops)
    ⊎ Stops closed frame (row_line frame.section (of_row directive place) ∷ lines) last (of_row directive place ∷ rows) (placed ∷ ops)
cut_more closed frame directive place placed lines last rows ops (inl (is, made)) =
    inl (
      ap (λ all. row_line frame.section (of_row directive place) ∷ all) is,
      made ∙ ap (λ f. with_open closed (Some f)) (more_ops frame directive place placed rows ops),
    )
cut_more closed frame directive place placed lines last rows ops (inr (stop, rest, is, made)) =
    inr (
      stop,
      rest,
      ap (λ all. row_line frame.section (of_row directive place) ∷ all) is,
      ap (λ f. taken_from (with_open (closed ++ with_stop stop f ∷ []) None) rest) (sym (more_ops frame directive place placed rows ops)) ∙ made,
    )

-- one of a pointer more in front
cut_point : (closed : List Frame) (frame next : Frame) (line : RowLine) (lines : List PlacedLine) (last : Procedures) (rows : List RowLine) (ops : List PlacedOp)
    → next.section ≡ frame.section → after next rows ops ≡ after frame (line ∷ rows) ops
    → (RunsOn closed next lines last rows ops ⊎ Stops closed next lines last rows ops)
    → RunsOn closed frame (row_line frame.section line ∷ lines) last (line ∷ rows) ops ⊎ Stops closed frame (row_line frame.section line ∷ lines) last (line ∷ rows) ops
cut_point closed frame next line lines last rows ops section same (inl (is, made)) =
    inl (
      ap (λ all. row_line frame.section line ∷ all) (is ∙ ap (λ s. map (row_line s) rows) section),
      made ∙ ap (λ f. with_open closed (Some f)) same,
    )
cut_point closed frame next line lines last rows ops section same (inr (stop, rest, is, made)) =
    inr (
      stop,
      rest,
      ap (λ all. row_line frame.section line ∷ all) (is ∙ ap (λ s. map (row_line s) rows ++ stop_line s stop ∷ rest) section),
      ap (λ f. taken_from (with_open (closed ++ with_stop stop f ∷ []) None) rest) (sym same) ∙ made,
    )

same_frame : (frame other : Frame) → Some frame ≡ Some other → other ≡ frame
same_frame frame other same = cc

no_frame : {C : Type 0} (frame : Frame) → Some frame ≡ None → C
no_frame frame is = absurd (let none : ⊥ = cc in none)

none_open : {C : Type 0} (frame : Frame) → None ≡ Some frame → C
none_open frame is = absurd (let none : ⊥ = cc in none)

-- the end of the open procedure
scan_stop : (closed : List Frame) (frame : Frame) (at : SectionPlace) (lines : List PlacedLine) (next last : Procedures)
    → Ends at (with_open closed (Some frame)) next frame → taken_from next lines ≡ Ok last
    → Scanned closed frame (line_at EndProc at ∷ lines) last
scan_stop closed frame at lines next last ends is = record {
  rows = [];
  ops = [];
  mean = tt;
  cut = inr (
    at.place,
    lines,
    ap (λ s. line_at EndProc (record { section = s; place = at.place }) ∷ lines) (sym ends.section),
    ap (λ ops. taken_from (with_open (closed ++ with_stop at.place (with_ops frame ops) ∷ []) None) lines) (append-nil frame.ops)
        ∙ ap (λ p. taken_from p lines) (sym ends.made) ∙ is,
  );
}

-- a directive of the open procedure
scan_row : (closed : List Frame) (frame : Frame) (directive : RowDirective) (at : SectionPlace) (placed : PlacedOp) (lines : List PlacedLine) (last : Procedures)
    → frame.section ≡ at.section → Says frame.ops directive at.place placed
    → Scanned closed (after_one closed frame placed) lines last
    → Scanned closed frame (line_at (Row directive) at ∷ lines) last
scan_row closed frame directive at placed lines last section says scanned =
    subst (λ (s : ℕ). Scanned closed frame (line_at (Row directive) (record { section = s; place = at.place }) ∷ lines) last) section (record {
      rows = of_row directive at.place ∷ scanned.rows;
      ops = placed ∷ scanned.ops;
      mean = (says, scanned.mean);
      cut = cut_more closed frame directive at.place placed lines last scanned.rows scanned.ops scanned.cut;
    })

-- one of a pointer
scan_point : (closed : List Frame) (frame : Frame) (kind : PointerKind) (pointer : Option Pointer) (at : SectionPlace) (lines : List PlacedLine) (last : Procedures)
    → frame.section ≡ at.section → Scanned closed (with_pointer kind pointer frame) lines last
    → Scanned closed frame (line_at (Point kind pointer) at ∷ lines) last
scan_point closed frame Personality pointer at lines last section scanned =
    subst (λ (s : ℕ). Scanned closed frame (line_at (Point Personality pointer) (record { section = s; place = at.place }) ∷ lines) last) section (record {
      rows = of_pointer Personality pointer at.place ∷ scanned.rows;
      ops = scanned.ops;
      mean = scanned.mean;
      cut = cut_point closed frame (with_pointer Personality pointer frame) (of_pointer Personality pointer at.place) lines last scanned.rows scanned.ops refl refl scanned.cut;
    })
scan_point closed frame Lsda pointer at lines last section scanned =
    subst (λ (s : ℕ). Scanned closed frame (line_at (Point Lsda pointer) (record { section = s; place = at.place }) ∷ lines) last) section (record {
      rows = of_pointer Lsda pointer at.place ∷ scanned.rows;
      ops = scanned.ops;
      mean = scanned.mean;
      cut = cut_point closed frame (with_pointer Lsda pointer frame) (of_pointer Lsda pointer at.place) lines last scanned.rows scanned.ops refl refl scanned.cut;
    })

scan_at : (closed : List Frame) (frame : Frame) (what : CfiLine) (at : SectionPlace) (lines : List PlacedLine) (last : Procedures)
    → ((frame : Frame) → taken_from (with_open closed (Some frame)) lines ≡ Ok last → Scanned closed frame lines last)
    → taken_from (with_open closed (Some frame)) (line_at what at ∷ lines) ≡ Ok last
    → Scanned closed frame (line_at what at ∷ lines) last
scan_at closed frame (StartProc pos) at lines last below is =
    let step = came (taken (StartProc pos) at (with_open closed (Some frame))) (λ next. taken_from next lines) last is in
    no_frame frame (started_is pos at (with_open closed (Some frame)) step.0 step.1).0
scan_at closed frame EndProc at lines last below is =
    let procedures = with_open closed (Some frame) in
    let step = came (taken EndProc at procedures) (λ next. taken_from next lines) last is in
    let ends = ended_is at procedures step.0 step.1 in
    scan_stop closed frame at lines step.0 last (subst (λ (f : Frame). Ends at procedures step.0 f) (same_frame frame ends.0 ends.1.begun) ends.1) step.2
scan_at closed frame (Row directive) at lines last below is =
    let procedures = with_open closed (Some frame) in
    let step = came (taken (Row directive) at procedures) (λ next. taken_from next lines) last is in
    let says = came (said (cfa_offset (Some frame)) directive) (λ op. put at op procedures) step.0 step.1 in
    let found = put_is at says.0 procedures step.0 says.2 in
    let puts = subst (λ (f : Frame). Puts at says.0 procedures step.0 f) (same_frame frame found.0 found.1.begun) found.1 in
    let placed : PlacedOp = record { place = at.place; op = says.0 } in
    scan_row closed frame directive at placed lines last puts.section (record { there = refl; op = says.1; run = puts.run })
    (below (after_one closed frame placed) (ap (λ p. taken_from p lines) (sym puts.made) ∙ step.2))
scan_at closed frame (Point kind pointer) at lines last below is =
    let procedures = with_open closed (Some frame) in
    let step = came (taken (Point kind pointer) at procedures) (λ next. taken_from next lines) last is in
    let found = pointed_is kind pointer at procedures step.0 step.1 in
    let points = subst (λ (f : Frame). Points kind pointer at procedures step.0 f) (same_frame frame found.0 found.1.begun) found.1 in
    scan_point closed frame kind pointer at lines last points.section
    (below (with_pointer kind pointer frame) (ap (λ p. taken_from p lines) (sym points.made) ∙ step.2))

scan : (closed : List Frame) (frame : Frame) (lines : List PlacedLine) (last : Procedures)
    → taken_from (with_open closed (Some frame)) lines ≡ Ok last → Scanned closed frame lines last
scan closed frame [] last is = record {
  rows = [];
  ops = [];
  mean = tt;
  cut = inl (refl, (let same : last ≡ with_open closed (Some frame) = cc in same) ∙ ap (λ ops. with_open closed (Some (with_ops frame ops))) (sym (append-nil frame.ops)));
}
scan closed frame (placed ∷ lines) last is =
    scan_at closed frame placed.line placed.at lines last (λ next on. scan closed next lines last on) is

-- the procedures behind those that have ended
abbrev pub Split : List Frame → List PlacedLine → Procedures → Type 0
Split closed lines last = (frames : List Frame) × (last.closed ≡ closed ++ frames) × AreOf lines frames last.begun

-- the first procedure's directives, and what follows them
split_first : (most : ℕ) (closed : List Frame) (pos : Pos) (at : SectionPlace) (lines : List PlacedLine) (last : Procedures) → length lines ≤ most
    → ((closed : List Frame) (rest : List PlacedLine) → length rest ≤ most → taken_from (with_open closed None) rest ≡ Ok last → Split closed rest last)
    → (rows : List RowLine) (ops : List PlacedOp) → Mean [] rows ops
    → (RunsOn closed (new_frame pos at) lines last rows ops ⊎ Stops closed (new_frame pos at) lines last rows ops)
    → Split closed (line_at (StartProc pos) at ∷ lines) last
split_first most closed pos at lines last few below rows ops mean (inl (is, made)) = (
  [],
  ap (λ (p : Procedures). p.closed) made ∙ sym (append-nil closed),
  subst (λ (begun : Option Frame). AreOf (line_at (StartProc pos) at ∷ lines) [] begun) (sym (ap (λ (p : Procedures). p.begun) made))
      (rows, ap (λ all. line_at (StartProc pos) at ∷ all) is, refl, record { mean = mean; personality = refl; lsda = refl }),
)
split_first most closed pos at lines last few below rows ops mean (inr (stop, rest, is, made)) =
    let frame = with_stop stop (after (new_frame pos at) rows ops) in
    let shorter : length rest ≤ most = omega (arith, ap length is, length-append (map (row_line at.section) rows) (stop_line at.section stop ∷ rest)) in
    let others = below (closed ++ frame ∷ []) rest shorter made in (
      frame ∷ others.0,
      others.1 ∙ append_assoc closed (frame ∷ []) others.0,
      (rows, stop, rest, ap (λ all. line_at (StartProc pos) at ∷ all) is, refl, record { mean = mean; personality = refl; lsda = refl }, others.2),
    )

split_at : (most : ℕ) (closed : List Frame) (what : CfiLine) (at : SectionPlace) (lines : List PlacedLine) (last : Procedures) → length lines ≤ most
    → ((closed : List Frame) (rest : List PlacedLine) → length rest ≤ most → taken_from (with_open closed None) rest ≡ Ok last → Split closed rest last)
    → taken_from (with_open closed None) (line_at what at ∷ lines) ≡ Ok last → Split closed (line_at what at ∷ lines) last
split_at most closed (StartProc pos) at lines last few below is =
    let scanned = scan closed (new_frame pos at) lines last is in
    split_first most closed pos at lines last few below scanned.rows scanned.ops scanned.mean scanned.cut
split_at most closed EndProc at lines last few below is =
    let step = came (taken EndProc at (with_open closed None)) (λ next. taken_from next lines) last is in
    let ends = ended_is at (with_open closed None) step.0 step.1 in
    none_open ends.0 ends.1.begun
split_at most closed (Row directive) at lines last few below is =
    let step = came (taken (Row directive) at (with_open closed None)) (λ next. taken_from next lines) last is in
    let says = came (said None directive) (λ op. put at op (with_open closed None)) step.0 step.1 in
    let found = put_is at says.0 (with_open closed None) step.0 says.2 in
    none_open found.0 found.1.begun
split_at most closed (Point kind pointer) at lines last few below is =
    let step = came (taken (Point kind pointer) at (with_open closed None)) (λ next. taken_from next lines) last is in
    let found = pointed_is kind pointer at (with_open closed None) step.0 step.1 in
    none_open found.0 found.1.begun

split : (most : ℕ) (closed : List Frame) (lines : List PlacedLine) (last : Procedures) → length lines ≤ most
    → taken_from (with_open closed None) lines ≡ Ok last → Split closed lines last
split most closed [] last few is =
    let made : last ≡ with_open closed None = cc in (
      [],
      ap (λ (p : Procedures). p.closed) made ∙ sym (append-nil closed),
      subst (λ (begun : Option Frame). AreOf [] [] begun) (sym (ap (λ (p : Procedures). p.begun) made)) refl,
    )
split zero closed (placed ∷ lines) last few is = absurd (let none : ⊥ = omega arith in none)
split (suc most) closed (placed ∷ lines) last few is =
    split_at most closed placed.line placed.at lines last (omega arith) (λ closed rest. split most closed rest last) is

-- the directives that are taken
pub are_divided : (lines : List PlacedLine) (procedures : Procedures) → taken_from (with_open [] None) lines ≡ Ok procedures
    → AreOf lines procedures.closed procedures.begun
are_divided lines procedures is =
    let parts = split (length lines) [] lines procedures (omega arith) is in
    subst (λ (frames : List Frame). AreOf lines frames procedures.begun) (sym parts.1) parts.2
