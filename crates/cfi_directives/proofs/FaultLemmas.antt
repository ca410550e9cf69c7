-- A directive is refused exactly for its cause.
use Rattle.std.proofs.Common.{◌≡◌, ℕ, ◌==◌, Bool, true, false, List, [], ◌∷◌, ◌++◌, length, Option, None, Some, is_some, Result, Ok, Err, is_ok, refl, sym, ◌∙◌, ap, subst, inl, inr, ◌⊎◌, ltb-false}
use Rattle.std.proofs.lemmas.Bool.{eqb-false, le-ltb, ne_eqb}
use Rattle.std.specs.Prelude.{ℤ, ◌+ℤ◌, ◌-ℤ◌, ◌≢◌, IsSomeAnd, IfSome, if◌then◌else◌}
use Rattle.std.specs.Option.{option_map}
use Rattle.asm_base.specs.Refusals.{◌>>=◌}
use Rattle.cfi_rows.specs.Rows.{Rows, common_row, changed}
use Rattle.cfi_rows.specs.declared.rows.CfiOp.{CfiOp}
use Rattle.cfi_rows.specs.declared.rows.CfiOp.TheVariants as op
use Rattle.cfi_rows.specs.declared.rows.Rule.TheVariants as rule
use Rattle.cfi_directives.specs.declared.faults.CfiCause.{CfiCause}
use Rattle.cfi_directives.specs.declared.faults.CfiCause.TheVariants.{OutOfRange, CfiOutsideProcedure, UnbalancedCfiState}
use Rattle.cfi_directives.specs.declared.frames.Frame.{Frame}
use Rattle.cfi_directives.specs.declared.frames.PlacedOp.{PlacedOp}
use Rattle.cfi_directives.specs.declared.frames.Pointer.{Pointer}
use Rattle.cfi_directives.specs.declared.lines.PointerKind.{PointerKind}
use Rattle.cfi_directives.specs.declared.lines.CfiLine.{CfiLine}
use Rattle.cfi_directives.specs.declared.lines.CfiLine.TheVariants.{StartProc, EndProc, Row, Point}
use Rattle.cfi_directives.specs.declared.lines.RowDirective.{RowDirective}
use Rattle.cfi_directives.specs.declared.lines.RowDirective.TheVariants.{DefCfa, DefCfaRegister, DefCfaOffset, AdjustCfaOffset, Offset, RelOffset, ValOffset, Register, RememberState, RestoreState, Restore, Undefined, SameValue}
use Rattle.asm_base.specs.declared.places.SectionPlace.{SectionPlace}
use Rattle.cfi_directives.specs.Faults.{depth_after, IsUnbalanced, IsStuck, IsElsewhere, IsRefused}
use Rattle.cfi_directives.specs.Procedures.{Procedures, new_frame, with_pointer, with_stop, cfa_offset}
use Rattle.cfi_directives.specs.Rows.{rows_after}
use Rattle.cfi_directives.specs.Saying.{if_writable, adjusted, relative, said}
use Rattle.cfi_directives.specs.Sound.{IsSound, AreSound}
use Rattle.cfi_directives.specs.Taking.{with_op, ended, pointed, put, taken}
use Rattle.cfi_directives.specs.Writable.{is_writable}
use Rattle.cfi_directives.proofs.MeaningLemmas.{with_open}
use Rattle.cfi_directives.proofs.SoundLemmas.{said_is}
use Rattle.cfi_directives.proofs.StepLemmas.{with_ops}
use Rattle.cfi_directives.proofs.StuckLemmas.{is_state, runs_freely, rows_are, behind_rows, remember_runs, none_to_restore, nothing_restored}

-- of two steps, the first or the second is refused
split_steps : {A B : Type 0} (due : Result A CfiCause) (step : A → Result B CfiCause) (cause : CfiCause) → (due >>= step) ≡ Err cause
    → (due ≡ Err cause) ⊎ ((value : A) × (due ≡ Ok value) × (step value ≡ Err cause))
split_steps (Ok value) step cause is = inr (value, refl, is)
split_steps (Err found) step cause is = inl (let same : found ≡ cause = cc in ap (λ c. Err c) same)

-- what is said is refused for its form, or without an open procedure
if_refused : (op : CfiOp) (b : Bool) (cause : CfiCause) → (if b then Ok op else Err OutOfRange) ≡ Err cause → cause ≡ OutOfRange
if_refused op true cause is = absurd (let none : ⊥ = cc in none)
if_refused op false cause is = cc

abbrev pub Causes : Option ℤ → CfiCause → Type 0
Causes cfa cause = (cause ≡ OutOfRange) ⊎ ((cfa ≡ None) × (cause ≡ CfiOutsideProcedure))

form_refused : (cfa : Option ℤ) (op : CfiOp) (cause : CfiCause) → if_writable op ≡ Err cause → Causes cfa cause
form_refused cfa op cause is = inl (if_refused op (is_writable op) cause is)

adjusted_refused : (cfa : Option ℤ) (by : ℤ) (cause : CfiCause) → adjusted cfa by ≡ Err cause → Causes cfa cause
adjusted_refused None by cause is = inr (refl, cc)
adjusted_refused (Some cfa) by cause is = form_refused (Some cfa) (op.DefCfaOffset (cfa +ℤ by)) cause is

relative_refused : (cfa : Option ℤ) (number : ℕ) (offset : ℤ) (cause : CfiCause) → relative cfa number offset ≡ Err cause → Causes cfa cause
relative_refused None number offset cause is = inr (refl, cc)
relative_refused (Some cfa) number offset cause is = form_refused (Some cfa) (op.Set number (rule.Offset (offset -ℤ cfa))) cause is

said_refused : (cfa : Option ℤ) (directive : RowDirective) (cause : CfiCause) → said cfa directive ≡ Err cause → Causes cfa cause
said_refused cfa (DefCfa register offset) cause is = form_refused cfa (op.DefCfa register.number offset) cause is
said_refused cfa (DefCfaRegister register) cause is = form_refused cfa (op.DefCfaRegister register.number) cause is
said_refused cfa (DefCfaOffset offset) cause is = form_refused cfa (op.DefCfaOffset offset) cause is
said_refused cfa (AdjustCfaOffset by) cause is = adjusted_refused cfa by cause is
said_refused cfa (Offset register offset) cause is = form_refused cfa (op.Set register.number (rule.Offset offset)) cause is
said_refused cfa (RelOffset register offset) cause is = relative_refused cfa register.number offset cause is
said_refused cfa (ValOffset register offset) cause is = form_refused cfa (op.Set register.number (rule.ValueOffset offset)) cause is
said_refused cfa (Register register other) cause is = form_refused cfa (op.Set register.number (rule.Register other.number)) cause is
said_refused cfa RememberState cause is = form_refused cfa op.Remember cause is
said_refused cfa RestoreState cause is = form_refused cfa op.RestoreState cause is
said_refused cfa (Restore register) cause is = form_refused cfa (op.Restore register.number) cause is
said_refused cfa (Undefined register) cause is = form_refused cfa (op.Set register.number rule.Undefined) cause is
said_refused cfa (SameValue register) cause is = form_refused cfa (op.Set register.number rule.SameValue) cause is

-- which instructions directives say, as far as they remember and restore rows
if_said : (said op : CfiOp) (b : Bool) → (if b then Ok op else Err OutOfRange) ≡ Ok said → said ≡ op
if_said said op true is = cc
if_said said op false is = absurd (let none : ⊥ = cc in none)

stateless : (said op : CfiOp) → is_state op ≡ false → if_writable op ≡ Ok said → is_state said ≡ false
stateless said op free is = ap is_state (if_said said op (is_writable op) is) ∙ free

adjusted_stateless : (cfa : Option ℤ) (by : ℤ) (said : CfiOp) → adjusted cfa by ≡ Ok said → is_state said ≡ false
adjusted_stateless None by said is = absurd (let none : ⊥ = cc in none)
adjusted_stateless (Some cfa) by said is = stateless said (op.DefCfaOffset (cfa +ℤ by)) refl is

relative_stateless : (cfa : Option ℤ) (number : ℕ) (offset : ℤ) (said : CfiOp) → relative cfa number offset ≡ Ok said → is_state said ≡ false
relative_stateless None number offset said is = absurd (let none : ⊥ = cc in none)
relative_stateless (Some cfa) number offset said is = stateless said (op.Set number (rule.Offset (offset -ℤ cfa))) refl is

-- behind these rows an instruction that is said can't be run exactly where the directive is unbalanced
free_runs : {C : Type 0} (said : CfiOp) (rows : Rows) → is_writable said ≡ true → is_state said ≡ false → is_some (changed common_row said rows) ≡ false → C
free_runs said rows writable free stuck =
    absurd (let runs : is_some (changed common_row said rows) ≡ true = runs_freely said rows writable free in let none : ⊥ = cc in none)

stuck_at : (cfa : Option ℤ) (directive : RowDirective) (said_op : CfiOp) (rows : Rows) → is_writable said_op ≡ true → said cfa directive ≡ Ok said_op
    → is_some (changed common_row said_op rows) ≡ false → IsUnbalanced directive (length rows.saved)
stuck_at cfa RememberState said_op rows writable is stuck =
    ltb-false (length rows.saved) 16 (sym (remember_runs rows) ∙ ap (λ o. is_some (changed common_row o rows)) (let same : op.Remember ≡ said_op = cc in same) ∙ stuck)
stuck_at cfa RestoreState said_op rows writable is stuck =
    none_to_restore rows.row rows.saved (ap (λ o. is_some (changed common_row o rows)) (let same : op.RestoreState ≡ said_op = cc in same) ∙ stuck)
stuck_at cfa (DefCfa register offset) said_op rows writable is stuck =
    free_runs said_op rows writable (stateless said_op (op.DefCfa register.number offset) refl is) stuck
stuck_at cfa (DefCfaRegister register) said_op rows writable is stuck =
    free_runs said_op rows writable (stateless said_op (op.DefCfaRegister register.number) refl is) stuck
stuck_at cfa (DefCfaOffset offset) said_op rows writable is stuck =
    free_runs said_op rows writable (stateless said_op (op.DefCfaOffset offset) refl is) stuck
stuck_at cfa (AdjustCfaOffset by) said_op rows writable is stuck = free_runs said_op rows writable (adjusted_stateless cfa by said_op is) stuck
stuck_at cfa (Offset register offset) said_op rows writable is stuck =
    free_runs said_op rows writable (stateless said_op (op.Set register.number (rule.Offset offset)) refl is) stuck
stuck_at cfa (RelOffset register offset) said_op rows writable is stuck =
    free_runs said_op rows writable (relative_stateless cfa register.number offset said_op is) stuck
stuck_at cfa (ValOffset register offset) said_op rows writable is stuck =
    free_runs said_op rows writable (stateless said_op (op.Set register.number (rule.ValueOffset offset)) refl is) stuck
stuck_at cfa (Register register other) said_op rows writable is stuck =
    free_runs said_op rows writable (stateless said_op (op.Set register.number (rule.Register other.number)) refl is) stuck
stuck_at cfa (Restore register) said_op rows writable is stuck =
    free_runs said_op rows writable (stateless said_op (op.Restore register.number) refl is) stuck
stuck_at cfa (Undefined register) said_op rows writable is stuck =
    free_runs said_op rows writable (stateless said_op (op.Set register.number rule.Undefined) refl is) stuck
stuck_at cfa (SameValue register) said_op rows writable is stuck =
    free_runs said_op rows writable (stateless said_op (op.Set register.number rule.SameValue) refl is) stuck

unrun_at : (cfa : Option ℤ) (directive : RowDirective) (said_op : CfiOp) (rows : Rows) → said cfa directive ≡ Ok said_op
    → IsUnbalanced directive (length rows.saved) → is_some (changed common_row said_op rows) ≡ false
unrun_at cfa RememberState said_op rows is full =
    ap (λ o. is_some (changed common_row o rows)) (let same : said_op ≡ op.Remember = cc in same) ∙ remember_runs rows ∙ le-ltb (length rows.saved) 16 full
unrun_at cfa RestoreState said_op rows is empty =
    ap (λ o. is_some (changed common_row o rows)) (let same : said_op ≡ op.RestoreState = cc in same) ∙ nothing_restored rows.row rows.saved empty
unrun_at cfa (DefCfa register offset) said_op rows is unbalanced = absurd unbalanced
unrun_at cfa (DefCfaRegister register) said_op rows is unbalanced = absurd unbalanced
unrun_at cfa (DefCfaOffset offset) said_op rows is unbalanced = absurd unbalanced
unrun_at cfa (AdjustCfaOffset by) said_op rows is unbalanced = absurd unbalanced
unrun_at cfa (Offset register offset) said_op rows is unbalanced = absurd unbalanced
unrun_at cfa (RelOffset register offset) said_op rows is unbalanced = absurd unbalanced
unrun_at cfa (ValOffset register offset) said_op rows is unbalanced = absurd unbalanced
unrun_at cfa (Register register other) said_op rows is unbalanced = absurd unbalanced
unrun_at cfa (Restore register) said_op rows is unbalanced = absurd unbalanced
unrun_at cfa (Undefined register) said_op rows is unbalanced = absurd unbalanced
unrun_at cfa (SameValue register) said_op rows is unbalanced = absurd unbalanced

-- the row is known in a sound procedure, and with it the CFA's offset
pub offset_known : (frame : Frame) → IsSound frame → (rows : Rows) × (rows_after frame.ops ≡ Some rows)
offset_known frame sound = rows_are (rows_after frame.ops) sound.run

abbrev pub SoundOpen : Option Frame → Type 0
SoundOpen begun = IfSome begun (λ frame. (frame.stop ≡ None) × IsSound frame)

none_open : (begun : Option Frame) → SoundOpen begun → cfa_offset begun ≡ None → is_some begun ≡ false
none_open None sound unknown = refl
none_open (Some frame) sound unknown =
    let known = offset_known frame sound.1 in
    absurd (let offset : cfa_offset (Some frame) ≡ Some known.0.row.offset = ap (option_map (λ rows. rows.row.offset)) known.1 in let none : ⊥ = cc in none)

-- an instruction by whether its section is that of the open procedure and whether it can be run
abbrev put_by : List Frame → Frame → PlacedOp → Bool → Bool → Result Procedures CfiCause
put_by closed frame placed found run = if found then (if run then Ok (with_open closed (Some (with_ops frame (frame.ops ++ placed ∷ [])))) else Err UnbalancedCfiState)
    else Err UnbalancedCfiState

run_is : (closed : List Frame) (frame : Frame) (placed : PlacedOp) (run : Bool)
    → ((if run then Ok (with_ops frame (frame.ops ++ placed ∷ [])) else Err UnbalancedCfiState) >>= λ frame. Ok (with_open closed (Some frame)))
    ≡ (if run then Ok (with_open closed (Some (with_ops frame (frame.ops ++ placed ∷ [])))) else Err UnbalancedCfiState)
run_is closed frame placed true = refl
run_is closed frame placed false = refl

found_is : (closed : List Frame) (frame : Frame) (placed : PlacedOp) (found : Bool)
    → (((if found then Ok frame else Err UnbalancedCfiState) >>= with_op placed) >>= λ frame. Ok (with_open closed (Some frame)))
    ≡ put_by closed frame placed found (is_some (rows_after (frame.ops ++ placed ∷ [])))
found_is closed frame placed true = run_is closed frame placed (is_some (rows_after (frame.ops ++ placed ∷ [])))
found_is closed frame placed false = refl

put_is_by : (closed : List Frame) (frame : Frame) (at : SectionPlace) (op : CfiOp)
    → put at op (with_open closed (Some frame))
    ≡ put_by closed frame (record { place = at.place; op = op }) (frame.section == at.section) (is_some (rows_after (frame.ops ++ record { place = at.place; op = op } ∷ [])))
put_is_by closed frame at op = found_is closed frame (record { place = at.place; op = op }) (frame.section == at.section)

by_refused : (closed : List Frame) (frame : Frame) (placed : PlacedOp) (found run : Bool) (cause : CfiCause) → put_by closed frame placed found run ≡ Err cause
    → ((found ≡ false) ⊎ (run ≡ false)) × (cause ≡ UnbalancedCfiState)
by_refused closed frame placed false run cause is = (inl refl, cc)
by_refused closed frame placed true false cause is = (inr refl, cc)
by_refused closed frame placed true true cause is = absurd (let none : ⊥ = cc in none)

by_stuck : (closed : List Frame) (frame : Frame) (placed : PlacedOp) (found run : Bool) → (found ≡ false) ⊎ (run ≡ false)
    → put_by closed frame placed found run ≡ Err UnbalancedCfiState
by_stuck closed frame placed false run either = refl
by_stuck closed frame placed true false either = refl
by_stuck closed frame placed true true (inl wrong) = absurd (let none : ⊥ = cc in none)
by_stuck closed frame placed true true (inr wrong) = absurd (let none : ⊥ = cc in none)

-- the depth behind a procedure's instructions, by its rows
depth_is : (directive : RowDirective) (frame : Frame) (rows : Rows) → rows_after frame.ops ≡ Some rows → IsUnbalanced directive (length rows.saved)
    → IsSomeAnd (depth_after frame.ops) (IsUnbalanced directive)
depth_is directive frame rows known unbalanced =
    subst (λ (due : Option Rows). IsSomeAnd (option_map (λ rows. length rows.saved) due) (IsUnbalanced directive)) (sym known) unbalanced

depth_was : (directive : RowDirective) (frame : Frame) (rows : Rows) → rows_after frame.ops ≡ Some rows
    → IsSomeAnd (depth_after frame.ops) (IsUnbalanced directive) → IsUnbalanced directive (length rows.saved)
depth_was directive frame rows known unbalanced =
    subst (λ (due : Option Rows). IsSomeAnd (option_map (λ rows. length rows.saved) due) (IsUnbalanced directive)) known unbalanced

-- an instruction that is refused in an open procedure stands elsewhere, or can't be run
row_stuck : (frame : Frame) (directive : RowDirective) (at : SectionPlace) (op : CfiOp) → IsSound frame → said (cfa_offset (Some frame)) directive ≡ Ok op
    → ((frame.section == at.section) ≡ false) ⊎ (is_some (rows_after (frame.ops ++ record { place = at.place; op = op } ∷ [])) ≡ false)
    → IsElsewhere at (Some frame) ⊎ IsStuck directive (Some frame)
row_stuck frame directive at op sound is (inl apart) = inl (eqb-false frame.section at.section apart)
row_stuck frame directive at op sound is (inr stuck) =
    let known = offset_known frame sound in
    inr (depth_is directive frame known.0 known.1
    (stuck_at (cfa_offset (Some frame)) directive op known.0 (said_is (cfa_offset (Some frame)) directive op is) is
    (ap is_some (sym (behind_rows frame.ops (record { place = at.place; op = op }) known.0 known.1)) ∙ stuck)))

row_unrun : (frame : Frame) (directive : RowDirective) (at : SectionPlace) (op : CfiOp) → IsSound frame → said (cfa_offset (Some frame)) directive ≡ Ok op
    → IsElsewhere at (Some frame) ⊎ IsStuck directive (Some frame)
    → ((frame.section == at.section) ≡ false) ⊎ (is_some (rows_after (frame.ops ++ record { place = at.place; op = op } ∷ [])) ≡ false)
row_unrun frame directive at op sound is (inl apart) = inl (ne_eqb frame.section at.section apart)
row_unrun frame directive at op sound is (inr stuck) =
    let known = offset_known frame sound in
    inr (ap is_some (behind_rows frame.ops (record { place = at.place; op = op }) known.0 known.1)
    ∙ unrun_at (cfa_offset (Some frame)) directive op known.0 is (depth_was directive frame known.0 known.1 stuck))

-- a directive between the beginning and the end of a procedure
row_ok : (closed : List Frame) (begun : Option Frame) (directive : RowDirective) (at : SectionPlace) (op : CfiOp) (cause : CfiCause) → SoundOpen begun
    → said (cfa_offset begun) directive ≡ Ok op → put at op (with_open closed begun) ≡ Err cause
    → IsRefused (Row directive) at (with_open closed begun) cause
row_ok closed None directive at op cause sound is refused =
    subst (λ (c : CfiCause). IsRefused (Row directive) at (with_open closed None) c) (let same : CfiOutsideProcedure ≡ cause = cc in same)
    (refl, λ wrong. let none : ⊥ = cc in none)
row_ok closed (Some frame) directive at op cause sound is refused =
    let parts = by_refused closed frame (record { place = at.place; op = op }) (frame.section == at.section)
    (is_some (rows_after (frame.ops ++ record { place = at.place; op = op } ∷ []))) cause (sym (put_is_by closed frame at op) ∙ refused) in
    subst (λ (c : CfiCause). IsRefused (Row directive) at (with_open closed (Some frame)) c) (sym parts.1)
    (ap is_ok is, row_stuck frame directive at op sound.1 is parts.0)

row_err : (closed : List Frame) (begun : Option Frame) (directive : RowDirective) (at : SectionPlace) (cause : CfiCause) → SoundOpen begun
    → said (cfa_offset begun) directive ≡ Err cause → Causes (cfa_offset begun) cause
    → IsRefused (Row directive) at (with_open closed begun) cause
row_err closed begun directive at cause sound is (inl form) =
    subst (λ (c : CfiCause). IsRefused (Row directive) at (with_open closed begun) c) (sym form) (is ∙ ap (λ c. Err c) form)
row_err closed begun directive at cause sound is (inr (unknown, outside)) =
    subst (λ (c : CfiCause). IsRefused (Row directive) at (with_open closed begun) c) (sym outside)
    (none_open begun sound unknown, λ wrong. let none : ⊥ = cc in none)

row_comes : (closed : List Frame) (begun : Option Frame) (directive : RowDirective) (at : SectionPlace) (cause : CfiCause) → SoundOpen begun
    → (said (cfa_offset begun) directive ≡ Err cause) ⊎ ((op : CfiOp) × (said (cfa_offset begun) directive ≡ Ok op) × (put at op (with_open closed begun) ≡ Err cause))
    → IsRefused (Row directive) at (with_open closed begun) cause
row_comes closed begun directive at cause sound (inl is) =
    row_err closed begun directive at cause sound is (said_refused (cfa_offset begun) directive cause is)
row_comes closed begun directive at cause sound (inr (op, is, refused)) = row_ok closed begun directive at op cause sound is refused

found_refused : (found : Bool) (next : Frame → Procedures) (cause : CfiCause) (frame : Frame)
    → ((if found then Ok frame else Err UnbalancedCfiState) >>= λ frame. Ok (next frame)) ≡ Err cause → (found ≡ false) × (cause ≡ UnbalancedCfiState)
found_refused false next cause frame is = (refl, cc)
found_refused true next cause frame is = absurd (let none : ⊥ = cc in none)

end_comes : (closed : List Frame) (begun : Option Frame) (at : SectionPlace) (cause : CfiCause) → ended at (with_open closed begun) ≡ Err cause
    → IsRefused EndProc at (with_open closed begun) cause
end_comes closed None at cause is =
    subst (λ (c : CfiCause). IsRefused EndProc at (with_open closed None) c) (let same : CfiOutsideProcedure ≡ cause = cc in same) refl
end_comes closed (Some frame) at cause is =
    let parts = found_refused (frame.section == at.section) (λ frame. with_open (closed ++ with_stop at.place frame ∷ []) None) cause frame is in
    subst (λ (c : CfiCause). IsRefused EndProc at (with_open closed (Some frame)) c) (sym parts.1) (eqb-false frame.section at.section parts.0)

-- a pointer is refused without an open procedure, and in another section
point_comes : (kind : PointerKind) (pointer : Option Pointer) (closed : List Frame) (begun : Option Frame) (at : SectionPlace) (cause : CfiCause)
    → pointed kind pointer at (with_open closed begun) ≡ Err cause → IsRefused (Point kind pointer) at (with_open closed begun) cause
point_comes kind pointer closed None at cause is =
    subst (λ (c : CfiCause). IsRefused (Point kind pointer) at (with_open closed None) c) (let same : CfiOutsideProcedure ≡ cause = cc in same) refl
point_comes kind pointer closed (Some frame) at cause is =
    let parts = found_refused (frame.section == at.section) (λ frame. with_open closed (Some (with_pointer kind pointer frame))) cause frame is in
    subst (λ (c : CfiCause). IsRefused (Point kind pointer) at (with_open closed (Some frame)) c) (sym parts.1) (eqb-false frame.section at.section parts.0)

start_comes : (closed : List Frame) (begun : Option Frame) (cause : CfiCause) (next : Procedures)
    → (if is_some begun then Err UnbalancedCfiState else Ok next) ≡ Err cause → (is_some begun ≡ true) × (cause ≡ UnbalancedCfiState)
start_comes closed None cause next is = absurd (let none : ⊥ = cc in none)
start_comes closed (Some frame) cause next is = (refl, cc)

-- a refusal has its cause
pub comes : (line : CfiLine) (at : SectionPlace) (procedures : Procedures) (cause : CfiCause) → AreSound procedures
    → taken line at procedures ≡ Err cause → IsRefused line at procedures cause
comes (StartProc pos) at procedures cause sound is =
    let parts = start_comes procedures.closed procedures.begun cause (record procedures { begun = Some (new_frame pos at) }) is in
    subst (λ (c : CfiCause). IsRefused (StartProc pos) at procedures c) (sym parts.1) parts.0
comes EndProc at procedures cause sound is = end_comes procedures.closed procedures.begun at cause is
comes (Row directive) at procedures cause sound is =
    row_comes procedures.closed procedures.begun directive at cause sound.begun
    (split_steps (said (cfa_offset procedures.begun) directive) (λ op. put at op procedures) cause is)
comes (Point kind pointer) at procedures cause sound is = point_comes kind pointer procedures.closed procedures.begun at cause is

-- a cause makes its refusal
ok_is : {A : Type 0} (due : Result A CfiCause) → is_ok due ≡ true → (value : A) × (due ≡ Ok value)
ok_is (Ok value) ok = (value, refl)
ok_is (Err cause) ok = absurd (let none : ⊥ = cc in none)

abbrev no_op : CfiCause → Result CfiOp CfiCause
no_op cause = Err cause

outside_cause : (cause : CfiCause) → (no_op cause ≢ Err OutOfRange) → Causes None cause → cause ≡ CfiOutsideProcedure
outside_cause cause form (inl wrong) = absurd (form (ap no_op wrong))
outside_cause cause form (inr right) = right.1

outside_only : (closed : List Frame) (at : SectionPlace) (due : Result CfiOp CfiCause) → (due ≢ Err OutOfRange)
    → ((cause : CfiCause) → due ≡ Err cause → Causes None cause)
    → (due >>= λ op. put at op (with_open closed None)) ≡ Err CfiOutsideProcedure
outside_only closed at (Ok op) form causes = refl
outside_only closed at (Err cause) form causes = ap (λ c. Err c) (outside_cause cause form (causes cause refl))

row_outside : (closed : List Frame) (begun : Option Frame) (directive : RowDirective) (at : SectionPlace) → is_some begun ≡ false
    → (said (cfa_offset begun) directive ≢ Err OutOfRange) → taken (Row directive) at (with_open closed begun) ≡ Err CfiOutsideProcedure
row_outside closed None directive at none form = outside_only closed at (said None directive) form (said_refused None directive)
row_outside closed (Some frame) directive at none form = absurd (let wrong : ⊥ = cc in wrong)

row_unbalanced : (closed : List Frame) (begun : Option Frame) (directive : RowDirective) (at : SectionPlace) (op : CfiOp) → SoundOpen begun
    → said (cfa_offset begun) directive ≡ Ok op → IsElsewhere at begun ⊎ IsStuck directive begun
    → put at op (with_open closed begun) ≡ Err UnbalancedCfiState
row_unbalanced closed None directive at op sound is (inl wrong) = absurd wrong
row_unbalanced closed None directive at op sound is (inr wrong) = absurd wrong
row_unbalanced closed (Some frame) directive at op sound is either =
    put_is_by closed frame at op
    ∙ by_stuck closed frame (record { place = at.place; op = op }) (frame.section == at.section)
    (is_some (rows_after (frame.ops ++ record { place = at.place; op = op } ∷ []))) (row_unrun frame directive at op sound.1 is either)

end_outside : (closed : List Frame) (begun : Option Frame) (at : SectionPlace) → is_some begun ≡ false
    → ended at (with_open closed begun) ≡ Err CfiOutsideProcedure
end_outside closed None at none = refl
end_outside closed (Some frame) at none = absurd (let wrong : ⊥ = cc in wrong)

end_elsewhere : (closed : List Frame) (begun : Option Frame) (at : SectionPlace) → IsElsewhere at begun
    → ended at (with_open closed begun) ≡ Err UnbalancedCfiState
end_elsewhere closed None at wrong = absurd wrong
end_elsewhere closed (Some frame) at apart =
    ap (λ b. (if b then Ok frame else Err UnbalancedCfiState) >>= λ frame. Ok (with_open (closed ++ with_stop at.place frame ∷ []) None)) (ne_eqb frame.section at.section apart)

point_outside : (kind : PointerKind) (pointer : Option Pointer) (closed : List Frame) (begun : Option Frame) (at : SectionPlace) → is_some begun ≡ false
    → pointed kind pointer at (with_open closed begun) ≡ Err CfiOutsideProcedure
point_outside kind pointer closed None at none = refl
point_outside kind pointer closed (Some frame) at none = absurd (let wrong : ⊥ = cc in wrong)

point_elsewhere : (kind : PointerKind) (pointer : Option Pointer) (closed : List Frame) (begun : Option Frame) (at : SectionPlace) → IsElsewhere at begun
    → pointed kind pointer at (with_open closed begun) ≡ Err UnbalancedCfiState
point_elsewhere kind pointer closed None at wrong = absurd wrong
point_elsewhere kind pointer closed (Some frame) at apart =
    ap (λ b. (if b then Ok frame else Err UnbalancedCfiState) >>= λ frame. Ok (with_open closed (Some (with_pointer kind pointer frame))))
    (ne_eqb frame.section at.section apart)

pub only : (line : CfiLine) (at : SectionPlace) (procedures : Procedures) (cause : CfiCause) → AreSound procedures
    → IsRefused line at procedures cause → taken line at procedures ≡ Err cause
only (StartProc pos) at procedures OutOfRange sound refused = absurd refused
only (StartProc pos) at procedures CfiOutsideProcedure sound refused = absurd refused
only (StartProc pos) at procedures UnbalancedCfiState sound refused =
    ap (λ b. if b then Err UnbalancedCfiState else Ok (record procedures { begun = Some (new_frame pos at) })) refused
only EndProc at procedures OutOfRange sound refused = absurd refused
only EndProc at procedures CfiOutsideProcedure sound refused = end_outside procedures.closed procedures.begun at refused
only EndProc at procedures UnbalancedCfiState sound refused = end_elsewhere procedures.closed procedures.begun at refused
only (Row directive) at procedures OutOfRange sound refused = ap (λ due. due >>= λ op. put at op procedures) refused
only (Row directive) at procedures CfiOutsideProcedure sound refused = row_outside procedures.closed procedures.begun directive at refused.0 refused.1
only (Row directive) at procedures UnbalancedCfiState sound refused =
    let op = ok_is (said (cfa_offset procedures.begun) directive) refused.0 in
    ap (λ due. due >>= λ op. put at op procedures) op.1
    ∙ row_unbalanced procedures.closed procedures.begun directive at op.0 sound.begun op.1 refused.1
only (Point kind pointer) at procedures OutOfRange sound refused = absurd refused
only (Point kind pointer) at procedures CfiOutsideProcedure sound refused = point_outside kind pointer procedures.closed procedures.begun at refused
only (Point kind pointer) at procedures UnbalancedCfiState sound refused = point_elsewhere kind pointer procedures.closed procedures.begun at refused
