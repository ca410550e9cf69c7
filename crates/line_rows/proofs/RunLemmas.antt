-- Running what an operation is followed by.
use Rattle.std.proofs.Common.{◌≡◌, ℕ, zero, suc, ◌+◌, ◌-◌, ◌<◌, length, List, [], ◌∷◌, Option, None, Some, Bool, true, false, nat_lt, nat_le, ◌==◌, ◌&&◌, if◌then◌else◌, refl, sym, ◌∙◌, ap, arith}
use Rattle.std.specs.Option.{option_map, option_and_then}
use Rattle.line_rows.specs.declared.rows.LineRow.{LineRow}
use Rattle.line_rows.specs.declared.rows.LineOp.{LineOp}
use Rattle.line_rows.specs.declared.machine.Machine.{Machine}
use Rattle.line_rows.specs.declared.running.Search.{Search}
use Rattle.line_rows.specs.declared.running.Search.TheVariants.{Looking, Done}
use Rattle.line_rows.specs.declared.running.Walk.{Walk}
use Rattle.line_rows.specs.Machine.{Line, Step, start, step}
use Rattle.line_rows.specs.Ops.{next, decoded}
use Rattle.line_rows.specs.Rows.{before_lines, lines_from, row_at, row_in_lines, row_in_program}
use Rattle.line_rows.specs.Walks.{seen, seen_if, looked, ran, SeesStep, Sees}

pub decoded_on : (more : ℕ) (bytes rest : List ℕ) (op : LineOp) → next bytes ≡ Some (op, rest)
    → decoded (suc more) bytes ≡ option_map (λ ops. op ∷ ops) (decoded more rest)
decoded_on more [] rest op reads = grind arith
decoded_on more (byte ∷ bytes) rest op reads =
    ap (option_and_then (λ read. option_map (λ ops. read.0 ∷ ops) (decoded more read.1))) reads

decoded_none : (more : ℕ) (bytes : List ℕ) → next bytes ≡ None → 0 < length bytes → decoded (suc more) bytes ≡ None
decoded_none more [] reads some = grind arith
decoded_none more (byte ∷ bytes) reads some =
    ap (option_and_then (λ read. option_map (λ ops. read.0 ∷ ops) (decoded more read.1))) reads

one_more : (more : ℕ) → more + 1 ≡ suc more
one_more more = omega arith

search_starts : (seq at : ℕ) (lines : List Line) → looked at (Looking seq None) lines ≡ row_in_lines seq at lines
search_starts zero at lines = refl
search_starts (suc seq) at lines = refl

not_zero : (left : ℕ) → (suc left == 0) ≡ false
not_zero left = grind arith

some_left : (left : ℕ) → nat_lt 0 (suc left) ≡ true
some_left left = grind arith

one_less : (left : ℕ) → suc left - 1 ≡ left
one_less left = omega arith

-- a row that is seen makes no difference
past_row : (at place left : ℕ) (row : LineRow) (found : Option LineRow) (lines : List Line)
    → looked at (Looking left found) ((place, Some row) ∷ lines) ≡ looked at (seen at (place, Some row) (Looking left found)) lines
past_row at place zero row found lines = by (nat_le place at)
  where
    by : (b : Bool) → row_at at (if b then Some row else found) lines ≡ looked at (if b then Looking 0 (Some row) else Looking 0 found) lines
    by true = refl
    by false = refl
past_row at place (suc left) row found lines =
    sym (ap (λ b. looked at (if b && nat_le place at then Looking 0 (Some row) else Looking (suc left) found) lines) (not_zero left))

past_end : (at place left : ℕ) (found : Option LineRow) (lines : List Line)
    → looked at (Looking left found) ((place, None) ∷ lines) ≡ looked at (seen at (place, None) (Looking left found)) lines
past_end at place zero found lines = by (nat_lt at place)
  where
    by : (b : Bool) → (if b then found else None) ≡ looked at (if b then Done found else Done None) lines
    by true = refl
    by false = refl
past_end at place (suc left) found lines =
    sym (ap (λ b. looked at (if b then Looking (suc left - 1) None else if nat_lt at place then Done found else Done None) lines) (some_left left)
    ∙ ap (λ n. looked at (Looking n None) lines) (one_less left)
    ∙ search_starts left at lines)

seen_on : (at : ℕ) (line : Line) (search : Search) (lines : List Line) → looked at search (line ∷ lines) ≡ looked at (seen at line search) lines
seen_on at line (Done answer) lines = refl
seen_on at (place, None) (Looking left found) lines = past_end at place left found lines
seen_on at (place, Some row) (Looking left found) lines = past_row at place left row found lines

seen_if_on : (at : ℕ) (line : Option Line) (search : Search) (lines : List Line)
    → looked at search (before_lines line lines) ≡ looked at (seen_if at line search) lines
seen_if_on at None search lines = refl
seen_if_on at (Some line) search lines = seen_on at line search lines

-- the rows that are left
lines_left : (at : ℕ) (line : Option Line) (search : Search) (due : Option (List Line))
    → option_and_then (looked at search) (option_map (before_lines line) due) ≡ option_and_then (looked at (seen_if at line search)) due
lines_left at line search None = refl
lines_left at line search (Some lines) = seen_if_on at line search lines

-- the operations that are left
joined : (at : ℕ) (op : LineOp) (old : Walk) (machine : Machine) (line : Option Line) (due : Option (List LineOp)) → step op old.machine ≡ Some (machine, line)
    → option_and_then (looked at old.search) (option_and_then (lines_from old.machine) (option_map (λ ops. op ∷ ops) due))
    ≡ option_and_then (looked at (seen_if at line old.search)) (option_and_then (lines_from machine) due)
joined at op old machine line None steps = refl
joined at op old machine line (Some ops) steps =
    ap (λ done. option_and_then (looked at old.search) (option_and_then (λ done. option_map (before_lines done.1) (lines_from done.0 ops)) done)) steps
    ∙ lines_left at line old.search (lines_from machine ops)

stopped : (at : ℕ) (op : LineOp) (old : Walk) (due : Option (List LineOp)) → step op old.machine ≡ None
    → option_and_then (looked at old.search) (option_and_then (lines_from old.machine) (option_map (λ ops. op ∷ ops) due)) ≡ None
stopped at op old None steps = refl
stopped at op old (Some ops) steps =
    ap (λ done. option_and_then (looked at old.search) (option_and_then (λ done. option_map (before_lines done.1) (lines_from done.0 ops)) done)) steps

sees_some : (at : ℕ) (op : LineOp) (old new : Walk) (due : Option Step) (ops : Option (List LineOp)) → step op old.machine ≡ due
    → SeesStep at due old.search (Some tt) new
    → option_and_then (looked at old.search) (option_and_then (lines_from old.machine) (option_map (λ ops. op ∷ ops) ops))
    ≡ option_and_then (looked at new.search) (option_and_then (lines_from new.machine) ops)
sees_some at op old new None ops steps sees = absurd (let none : ⊥ = cc in none)
sees_some at op old new (Some (machine, line)) ops steps (answers, is) =
    joined at op old machine line ops steps
    ∙ ap (λ new. option_and_then (looked at new.search) (option_and_then (lines_from new.machine) ops)) (sym is)

sees_none : (at : ℕ) (op : LineOp) (old new : Walk) (due : Option Step) → SeesStep at due old.search None new → due ≡ None
sees_none at op old new None sees = refl
sees_none at op old new (Some done) (answers, is) = absurd (let none : ⊥ = cc in none)

pub ran_on : (at : ℕ) (bytes rest : List ℕ) (op : LineOp) (old new : Walk) (more : ℕ)
    → next bytes ≡ Some (op, rest) → Sees at op old (Some tt) new → ran at (more + 1) bytes old ≡ ran at more rest new
ran_on at bytes rest op old new more reads sees =
    ap (λ most. ran at most bytes old) (one_more more)
    ∙ ap (λ ops. option_and_then (looked at old.search) (option_and_then (lines_from old.machine) ops)) (decoded_on more bytes rest op reads)
    ∙ sees_some at op old new (step op old.machine) (decoded more rest) refl sees

pub ran_stopped : (at : ℕ) (bytes rest : List ℕ) (op : LineOp) (old new : Walk) (more : ℕ)
    → next bytes ≡ Some (op, rest) → Sees at op old None new → ran at (more + 1) bytes old ≡ None
ran_stopped at bytes rest op old new more reads sees =
    ap (λ most. ran at most bytes old) (one_more more)
    ∙ ap (λ ops. option_and_then (looked at old.search) (option_and_then (lines_from old.machine) ops)) (decoded_on more bytes rest op reads)
    ∙ stopped at op old (decoded more rest) (sees_none at op old new (step op old.machine) sees)

pub ran_unread : (at : ℕ) (bytes : List ℕ) (old : Walk) (more : ℕ) → next bytes ≡ None → 0 < length bytes → ran at (more + 1) bytes old ≡ None
ran_unread at bytes old more reads some =
    ap (λ most. ran at most bytes old) (one_more more)
    ∙ ap (λ ops. option_and_then (looked at old.search) (option_and_then (lines_from old.machine) ops)) (decoded_none more bytes reads some)

pub ran_end : (at most : ℕ) (bytes : List ℕ) (old : Walk) → length bytes ≡ 0 → ran at most bytes old ≡ looked at old.search []
ran_end at zero [] old none = refl
ran_end at (suc more) [] old none = refl
ran_end at most (byte ∷ bytes) old none = grind arith

-- where no rows are left, a search finds no row any more
pub no_rows : (left at : ℕ) → row_in_lines left at [] ≡ None
no_rows zero at = refl
no_rows (suc left) at = no_rows left at

pub none_found : (left at : ℕ) (found : Option LineRow) → looked at (Looking left found) [] ≡ None
none_found zero at found = refl
none_found (suc left) at found = no_rows left at

all_starts : (seq at : ℕ) (due : Option (List Line)) → option_and_then (looked at (Looking seq None)) due ≡ option_and_then (row_in_lines seq at) due
all_starts seq at None = refl
all_starts seq at (Some lines) = search_starts seq at lines

pub ran_start : (program : List ℕ) (seq at : ℕ) → ran at (length program) program (record { machine = start; search = Looking seq None }) ≡ row_in_program program seq at
unfolding row_in_program
ran_start program seq at = all_starts seq at (option_and_then (lines_from start) (decoded (length program) program))
