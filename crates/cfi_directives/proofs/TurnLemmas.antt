-- Directives that are taken one behind the other.
use Rattle.std.proofs.Common.{◌≡◌, ℕ, ◌<◌, ◌&&◌, nat_lt, true, List, [], ◌∷◌, ◌++◌, Option, None, Some, is_some, Result, Ok, Err, refl, sym, ◌∙◌, ap, arith}
use Rattle.std.specs.Prelude.{ℤ, if◌then◌else◌}
use Rattle.std.specs.Option.{option_and_then}
use Rattle.asm_base.specs.Refusals.{◌>>=◌}
use Rattle.cfi_rows.specs.Rows.{Rows, common_row, changed}
use Rattle.cfi_rows.specs.declared.rows.CfiOp.{CfiOp}
use Rattle.cfi_rows.specs.declared.rows.CfiOp.TheVariants as op
use Rattle.cfi_rows.specs.declared.rows.Rule.TheVariants as rule
use Rattle.cfi_directives.specs.declared.faults.CfiCause.{CfiCause}
use Rattle.cfi_directives.specs.declared.faults.CfiCause.TheVariants.{OutOfRange}
use Rattle.cfi_directives.specs.declared.frames.Frame.{Frame}
use Rattle.cfi_directives.specs.declared.frames.PlacedOp.{PlacedOp}
use Rattle.cfi_directives.specs.declared.lines.CfiLine.TheVariants.{Row}
use Rattle.cfi_directives.specs.declared.lines.RowDirective.{RowDirective}
use Rattle.cfi_directives.specs.declared.lines.RowDirective.TheVariants.{DefCfa, DefCfaRegister, DefCfaOffset, AdjustCfaOffset, Offset, RelOffset, ValOffset, Register, RememberState, RestoreState, Restore, Undefined, SameValue}
use Rattle.asm_base.specs.declared.places.SectionPlace.{SectionPlace}
use Rattle.cfi_directives.specs.Meanings.{IsOfRegister}
use Rattle.cfi_directives.specs.Procedures.{Procedures, no_procedures, cfa_offset}
use Rattle.cfi_directives.specs.Rows.{rows_after}
use Rattle.cfi_directives.specs.Saying.{said}
use Rattle.cfi_directives.specs.Taking.{put, taken, PlacedLine, taken_from, procedures_of}
use Rattle.cfi_directives.proofs.MeaningLemmas.{with_open, put_at}
use Rattle.cfi_directives.proofs.RowLemmas.{rows_after-add}
use Rattle.cfi_directives.proofs.StuckLemmas.{runs_freely}
use Rattle.cfi_directives.proofs.StepLemmas.{came, with_ops, put_is}

-- a step that does nothing
done : {A : Type 0} (due : Result A CfiCause) → (due >>= λ value. Ok value) ≡ due
done (Ok value) = refl
done (Err cause) = refl

-- one directive more
more : (placed : PlacedLine) (lines : List PlacedLine)
    → ((procedures : Procedures) → taken_from procedures (lines ++ placed ∷ []) ≡ (taken_from procedures lines >>= taken placed.line placed.at))
    → (due : Result Procedures CfiCause)
    → (due >>= λ next. taken_from next (lines ++ placed ∷ [])) ≡ ((due >>= λ next. taken_from next lines) >>= taken placed.line placed.at)
more placed lines below (Ok next) = below next
more placed lines below (Err cause) = refl

pub taken_from-add : (lines : List PlacedLine) (placed : PlacedLine) (procedures : Procedures)
    → taken_from procedures (lines ++ placed ∷ []) ≡ (taken_from procedures lines >>= taken placed.line placed.at)
taken_from-add [] placed procedures = done (taken placed.line placed.at procedures)
taken_from-add (line ∷ lines) placed procedures =
    more placed lines (taken_from-add lines placed) (taken line.line line.at procedures)

pub procedures_grow : (lines : List PlacedLine) (placed : PlacedLine) (procedures : Procedures) → procedures_of lines ≡ Ok procedures
    → procedures_of (lines ++ placed ∷ []) ≡ taken placed.line placed.at procedures
procedures_grow lines placed procedures is =
    taken_from-add lines placed no_procedures ∙ ap (λ due. due >>= taken placed.line placed.at) is

-- an instruction that is said of a register, and can always be run
pub record SaysFreely (cfa : Option ℤ) (directive : RowDirective) : Type 0 where
  pub op : CfiOp
  pub is : said cfa directive ≡ Ok op
  pub free : (rows : Rows) → is_some (changed common_row op rows) ≡ true

small : (number : ℕ) → number < 64 → nat_lt number 64 ≡ true
small number within = grind arith

says_freely : (cfa : Option ℤ) (directive : RowDirective) → IsOfRegister directive → SaysFreely cfa directive
says_freely cfa (Restore register) of = record {
  op = op.Restore register.number;
  is = ap (λ b. if b then Ok (op.Restore register.number) else Err OutOfRange) (small register.number register.within);
  free = λ rows. runs_freely (op.Restore register.number) rows (small register.number register.within) refl;
}
says_freely cfa (Undefined register) of = record {
  op = op.Set register.number rule.Undefined;
  is = ap (λ b. if b && true then Ok (op.Set register.number rule.Undefined) else Err OutOfRange) (small register.number register.within);
  free = λ rows. runs_freely (op.Set register.number rule.Undefined) rows (ap (λ b. b && true) (small register.number register.within)) refl;
}
says_freely cfa (SameValue register) of = record {
  op = op.Set register.number rule.SameValue;
  is = ap (λ b. if b && true then Ok (op.Set register.number rule.SameValue) else Err OutOfRange) (small register.number register.within);
  free = λ rows. runs_freely (op.Set register.number rule.SameValue) rows (ap (λ b. b && true) (small register.number register.within)) refl;
}
says_freely cfa (DefCfa register offset) of = absurd of
says_freely cfa (DefCfaRegister register) of = absurd of
says_freely cfa (DefCfaOffset offset) of = absurd of
says_freely cfa (AdjustCfaOffset by) of = absurd of
says_freely cfa (Offset register offset) of = absurd of
says_freely cfa (RelOffset register offset) of = absurd of
says_freely cfa (ValOffset register offset) of = absurd of
says_freely cfa (Register register other) of = absurd of
says_freely cfa RememberState of = absurd of
says_freely cfa RestoreState of = absurd of

-- what can always be run can be run behind what was run
run_on : (op : CfiOp) (due : Option Rows) → is_some due ≡ true → ((rows : Rows) → is_some (changed common_row op rows) ≡ true)
    → is_some (option_and_then (changed common_row op) due) ≡ true
run_on op None ran free = ran
run_on op (Some rows) ran free = free rows

put_free : (closed : List Frame) (frame : Frame) (at : SectionPlace) (op : CfiOp) → frame.section ≡ at.section → is_some (rows_after frame.ops) ≡ true
    → ((rows : Rows) → is_some (changed common_row op rows) ≡ true)
    → (after : Procedures) × (put at op (with_open closed (Some frame)) ≡ Ok after)
put_free closed frame at op section ran free =
    let placed : PlacedOp = record { place = at.place; op = op } in (
      with_open closed (Some (with_ops frame (frame.ops ++ placed ∷ []))),
      ap (λ (s : ℕ). put (record { section = s; place = at.place }) op (with_open closed (Some frame))) (sym section)
          ∙ put_at closed frame placed (ap is_some (rows_after-add frame.ops placed) ∙ run_on op (rows_after frame.ops) ran free),
    )

-- behind a directive that was taken, one of a register is taken at the same place
pub register_taken : (first second : RowDirective) (at : SectionPlace) (procedures next : Procedures) → taken (Row first) at procedures ≡ Ok next
    → IsOfRegister second → (after : Procedures) × (taken (Row second) at next ≡ Ok after)
register_taken first second at procedures next is of =
    let says = came (said (cfa_offset procedures.begun) first) (λ op. put at op procedures) next is in
    let puts = put_is at says.0 procedures next says.2 in
    let frame = with_ops puts.0 (puts.0.ops ++ record { place = at.place; op = says.0 } ∷ []) in
    let also = says_freely (cfa_offset next.begun) second of in
    let after = put_free procedures.closed frame at also.op puts.1.section puts.1.run also.free in
    (after.0, ap (λ due. due >>= λ op. put at op next) also.is ∙ ap (put at also.op) puts.1.made ∙ after.1)
