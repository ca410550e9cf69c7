-- Directives that are taken are those of procedures, and those of procedures are taken.
use Rattle.std.proofs.Common.{◌≡◌, ℕ, true, List, [], ◌∷◌, ◌++◌, map, Option, None, Some, is_some, Ok, Err, refl, sym, ◌∙◌, ap, append_assoc, eq-eqb}
use Rattle.std.specs.Prelude.{if◌then◌else◌}
use Rattle.std.proofs.lemmas.List.{append-nil}
use Rattle.asm_base.specs.declared.positions.Pos.{Pos}
use Rattle.asm_base.specs.Refusals.{◌>>=◌}
use Rattle.cfi_directives.specs.declared.faults.CfiCause.TheVariants.{UnbalancedCfiState}
use Rattle.cfi_directives.specs.declared.frames.Frame.{Frame}
use Rattle.cfi_directives.specs.declared.frames.PlacedOp.{PlacedOp}
use Rattle.cfi_directives.specs.declared.lines.CfiLine.TheVariants.{EndProc, Row, Point}
use Rattle.cfi_directives.specs.declared.lines.RowDirective.{RowDirective}
use Rattle.cfi_directives.specs.declared.frames.Pointer.{Pointer}
use Rattle.cfi_directives.specs.declared.lines.PointerKind.{PointerKind}
use Rattle.cfi_directives.specs.declared.lines.PointerKind.TheVariants.{Personality, Lsda}
use Rattle.asm_base.specs.declared.places.Place.{Place}
use Rattle.cfi_directives.specs.Meanings.{RowLine, of_row, of_pointer, Says, Mean, IsSaid, last_personality, last_lsda, start_line, row_line, stop_line, AreOf}
use Rattle.cfi_directives.specs.Procedures.{Procedures, with_pointer, with_stop}
use Rattle.cfi_directives.specs.Rows.{rows_after}
use Rattle.cfi_directives.specs.Taking.{frame_in, with_op, put, taken, PlacedLine, taken_from}
use Rattle.cfi_directives.proofs.StepLemmas.{with_ops}

-- those that have ended, and an open one or none
abbrev pub with_open : List Frame → Option Frame → Procedures
with_open closed begun = record { closed = closed; begun = begun }

-- a directive in the open procedure's section finds it
found : (frame : Frame) → frame_in frame.section (Some frame) ≡ Ok frame
found frame = ap (λ b. if b then Ok frame else Err UnbalancedCfiState) (eq-eqb frame.section frame.section refl)

-- an instruction that can be run is put
run_put : (frame : Frame) (placed : PlacedOp) → is_some (rows_after (frame.ops ++ placed ∷ [])) ≡ true
    → with_op placed frame ≡ Ok (with_ops frame (frame.ops ++ placed ∷ []))
run_put frame placed run = ap (λ b. if b then Ok (with_ops frame (frame.ops ++ placed ∷ [])) else Err UnbalancedCfiState) run

-- what is put into the procedure at the place and with the instruction of a placed one
pub put_at : (closed : List Frame) (frame : Frame) (placed : PlacedOp) → is_some (rows_after (frame.ops ++ placed ∷ [])) ≡ true
    → put (record { section = frame.section; place = placed.place }) placed.op (with_open closed (Some frame))
    ≡ Ok (with_open closed (Some (with_ops frame (frame.ops ++ placed ∷ []))))
put_at closed frame placed run =
    ap (λ due. (due >>= with_op placed) >>= λ frame. Ok (with_open closed (Some frame))) (found frame)
    ∙ ap (λ due. due >>= λ frame. Ok (with_open closed (Some frame))) (run_put frame placed run)

row_taken : (closed : List Frame) (frame : Frame) (directive : RowDirective) (place : Place) (placed : PlacedOp) → Says frame.ops directive place placed
    → taken (Row directive) (record { section = frame.section; place = place }) (with_open closed (Some frame))
    ≡ Ok (with_open closed (Some (with_ops frame (frame.ops ++ placed ∷ []))))
row_taken closed frame directive place placed says =
    ap (λ due. due >>= λ op. put (record { section = frame.section; place = place }) op (with_open closed (Some frame))) says.op
    ∙ ap (λ (p : Place). put (record { section = frame.section; place = p }) placed.op (with_open closed (Some frame))) (sym says.there)
    ∙ put_at closed frame placed says.run

point_taken : (closed : List Frame) (frame : Frame) (kind : PointerKind) (pointer : Option Pointer) (place : Place)
    → taken (Point kind pointer) (record { section = frame.section; place = place }) (with_open closed (Some frame))
    ≡ Ok (with_open closed (Some (with_pointer kind pointer frame)))
point_taken closed frame kind pointer place =
    ap (λ due. due >>= λ frame. Ok (with_open closed (Some (with_pointer kind pointer frame)))) (found frame)

-- a procedure after directives that say these instructions
abbrev pub after : Frame → List RowLine → List PlacedOp → Frame
after frame lines ops = record frame {
  personality = last_personality frame.personality lines;
  lsda = last_lsda frame.lsda lines;
  ops = frame.ops ++ ops;
}

-- the directives of a procedure put the instructions that they say
rows_taken : (closed : List Frame) (frame : Frame) (lines : List RowLine) (ops : List PlacedOp) (rest : List PlacedLine) → Mean frame.ops lines ops
    → taken_from (with_open closed (Some frame)) (map (row_line frame.section) lines ++ rest)
    ≡ taken_from (with_open closed (Some (after frame lines ops))) rest
rows_taken closed frame [] [] rest mean =
    ap (λ ops. taken_from (with_open closed (Some (with_ops frame ops))) rest) (sym (append-nil frame.ops))
rows_taken closed frame [] (placed ∷ ops) rest mean = absurd mean
rows_taken closed frame (of_row directive place ∷ lines) [] rest mean = absurd mean
rows_taken closed frame (of_row directive place ∷ lines) (placed ∷ ops) rest mean =
    ap (λ due. due >>= λ next. taken_from next (map (row_line frame.section) lines ++ rest)) (row_taken closed frame directive place placed mean.0)
    ∙ rows_taken closed (with_ops frame (frame.ops ++ placed ∷ [])) lines ops rest mean.1
    ∙ ap (λ all. taken_from (with_open closed (Some (record (after frame lines ops) { ops = all }))) rest) (append_assoc frame.ops (placed ∷ []) ops)
rows_taken closed frame (of_pointer Personality pointer place ∷ lines) ops rest mean =
    ap (λ due. due >>= λ next. taken_from next (map (row_line frame.section) lines ++ rest)) (point_taken closed frame Personality pointer place)
    ∙ rows_taken closed (with_pointer Personality pointer frame) lines ops rest mean
rows_taken closed frame (of_pointer Lsda pointer place ∷ lines) ops rest mean =
    ap (λ due. due >>= λ next. taken_from next (map (row_line frame.section) lines ++ rest)) (point_taken closed frame Lsda pointer place)
    ∙ rows_taken closed (with_pointer Lsda pointer frame) lines ops rest mean

stop_taken : (closed : List Frame) (frame : Frame) (stop : Place)
    → taken EndProc (record { section = frame.section; place = stop }) (with_open closed (Some frame))
    ≡ Ok (with_open (closed ++ with_stop stop frame ∷ []) None)
stop_taken closed frame stop = ap (λ due. due >>= λ frame. Ok (with_open (closed ++ with_stop stop frame ∷ []) None)) (found frame)

-- a procedure that begins
abbrev pub begun_at : Pos → ℕ → Place → Frame
begun_at pos section start =
    record { pos = pos; section = section; start = start; stop = None; personality = None; lsda = None; ops = [] }

-- after the directives that say what it has, with this end, it is the procedure
said_is : (rows : List RowLine) (frame : Frame) (stop : Option Place) → IsSaid rows frame
    → record (after (begun_at frame.pos frame.section frame.start) rows frame.ops) { stop = stop } ≡ record frame { stop = stop }
said_is rows frame stop said =
    ap (λ p. record frame { stop = stop; personality = p; lsda = last_lsda None rows }) said.personality
    ∙ ap (λ p. record frame { stop = stop; lsda = p }) said.lsda

-- lines of procedures are taken
pub are_taken : (closed : List Frame) (lines : List PlacedLine) (frames : List Frame) (begun : Option Frame) → AreOf lines frames begun
    → taken_from (with_open closed None) lines ≡ Ok (with_open (closed ++ frames) begun)
are_taken closed lines [] None are =
    ap (taken_from (with_open closed None)) are ∙ ap (λ all. Ok (with_open all None)) (sym (append-nil closed))
are_taken closed lines [] (Some frame) (rows, is, stop, said) =
    ap (taken_from (with_open closed None)) (is ∙ ap (λ all. start_line frame.pos frame.section frame.start ∷ all) (sym (append-nil (map (row_line frame.section) rows))))
    ∙ rows_taken closed (begun_at frame.pos frame.section frame.start) rows frame.ops [] said.mean
    ∙ ap (λ all. Ok (with_open all (Some (after (begun_at frame.pos frame.section frame.start) rows frame.ops)))) (sym (append-nil closed))
    ∙ ap (λ (f : Frame). Ok (with_open (closed ++ []) (Some f))) (said_is rows frame None said)
    ∙ ap (λ s. Ok (with_open (closed ++ []) (Some (record frame { stop = s })))) (sym stop)
are_taken closed lines (frame ∷ frames) begun (rows, stop, rest, is, ends, said, are) =
    ap (taken_from (with_open closed None)) is
    ∙ rows_taken closed (begun_at frame.pos frame.section frame.start) rows frame.ops (stop_line frame.section stop ∷ rest) said.mean
    ∙ ap (λ due. due >>= λ next. taken_from next rest) (stop_taken closed (after (begun_at frame.pos frame.section frame.start) rows frame.ops) stop)
    ∙ ap (λ (f : Frame). taken_from (with_open (closed ++ f ∷ []) None) rest) (said_is rows frame (Some stop) said)
    ∙ ap (λ s. taken_from (with_open (closed ++ record frame { stop = s } ∷ []) None) rest) (sym ends)
    ∙ are_taken (closed ++ frame ∷ []) rest frames begun are
    ∙ ap (λ all. Ok (with_open all begun)) (append_assoc closed (frame ∷ []) frames)
