-- The end of a source by what synthesis comes to, and the answers for it.
use Rattle.std.proofs.Common.{◌≡◌, ℕ, Bool, true, false, cond, List, [], Option, None, Some, Result, Ok, Err, length, refl, sym, ap, ◌∙◌, subst, string_bytes}
use Rattle.std.proofs.lemmas.List.{length-map}
use Rattle.std.specs.Prelude.{OnOk}
use Rattle.asm_base.specs.Refusals.{Returns}
use Rattle.asm_base.specs.declared.notes.Noted.{Noted}
use Rattle.asm_base.specs.declared.refusals.Refusal.{Refusal}
use Rattle.asm_base.specs.declared.refusals.Refusal.TheVariants as refusal
use Rattle.asm_frags.specs.Writing.{LooseSection}
use Rattle.asm_macro.specs.declared.faults.ExpandFault.{ExpandFault}
use Rattle.asm_macro.specs.declared.faults.ExpandFault.TheVariants as expand
use Rattle.asm_base.specs.declared.positions.Pos.{Pos}
use Rattle.asm_base.specs.declared.faults.Fault.TheVariants.{Statement}
use Rattle.asm_lines.specs.declared.faults.LineCause.{LineCause}
use Rattle.macro_words.specs.declared.causes.MacroCause.{MacroCause}
use Rattle.asm_place.specs.Sources.{fault_at}
use Rattle.asm_place.specs.declared.place_faults.FaultAt.{FaultAt}
use Rattle.asm_uses.specs.Tables.{Table}
use Rattle.cfi_directives.specs.Procedures.{Procedures, no_procedures}
use Rattle.code_functions.specs.declared.items.CodeItem.{CodeItem}
use Rattle.code_functions.specs.Recorded.{Recorded, all_closed}
use Rattle.code_functions.specs.Seen.{all_seen, mapped, seen as looked}
use Rattle.line_directives.specs.Taking.{LineTable}
use Rattle.asm_functions.specs.FollowedSource.{FollowedSource, notes_of}
use Rattle.asm_functions.specs.Following.{end_of}
use Rattle.source_ends.specs.Synthesis.{Synthesis, ComeTo, IsSynthesis, IsMadeAt}
use Rattle.source_ends.specs.Ending.{with_tables, tabled, finished, procedures_by, with_made, unless_fault}
use Rattle.asm_front.specs.Assembly.{assembled, faulty, macro_fault, shown_files, ended_by, StepIsMade}
use Rattle.asm_front.specs.Answering.{IsAnswered, IsFitAnswer, AnswersSource, came_of, line_answer}
use Rattle.source_ends.specs.Fitting.{TablesFit, EndsWithFrames, AnswersWithFrames}
use Rattle.asm_front.specs.Fitting.{EndsFollowed, AnswersFollowed}
use Rattle.asm_front.specs.Outcome.{flags_asked}
use Rattle.asm_front.specs.declared.answers.Asked.{Asked}
use Rattle.asm_front.specs.declared.answers.Assembled.{Assembled}
use Rattle.asm_front.specs.declared.answers.AsmFault.{AsmFault}
use Rattle.asm_front.specs.declared.answers.AsmFault.TheVariants.{Source, Read, NoMemory}
use Rattle.source_ends.specs.declared.ending.NotedObject.{NotedObject}
use Rattle.asm_front.proofs.AnswerFacts.{lines_answered}

-- THE END OF ALL THAT WAS PLACED

-- the end by what synthesis comes to
abbrev end_by : Option Synthesis → Bool → FollowedSource → Result NotedObject FaultAt
end_by made fatal f =
    unless_fault made (notes_of f)
    (finished fatal (length f.functions) f.placed.sections f.placed.table (procedures_by made f.placed.procedures) f.placed.lines (notes_of f))

-- the end by these parts
abbrev end_of_parts : Option Synthesis → Bool → ℕ → List LooseSection → Table → Procedures → LineTable → List Noted → Result NotedObject FaultAt
end_of_parts made fatal count sections table procedures lines notes =
    unless_fault made notes (finished fatal count sections table (procedures_by made procedures) lines notes)

-- an answer for the end where it is not asked for synthesis, and where it is
abbrev EndsAs : Bool → Bool → FollowedSource → Result NotedObject FaultAt → Type 0
EndsAs asked fatal f answer = (made : Synthesis) × IsMadeAt (cond asked (Some made) None) f × (end_by (cond asked (Some made) None) fatal f ≡ answer)
    × OnOk answer (TablesFit (tabled (with_made (cond asked (Some made) None) f.placed)))

followed_as : (asked : Asked) (f : FollowedSource) (answer : Result NotedObject FaultAt) → EndsAs asked.scfi asked.fatal_warnings f answer → EndsFollowed asked f answer
followed_as asked f answer is = record { made = is.0; comes = is.1; answers = is.2; fits = is.3 }

-- the parts of what was placed and followed, with so many functions
pub record ArePartsOf (f : FollowedSource) (count : ℕ) (sections : List LooseSection) (table : Table) (procedures : Procedures) (lines : LineTable) (notes : List Noted) : Type 0 where
  pub count_is : count ≡ length f.functions
  pub sections_are : sections ≡ f.placed.sections
  pub table_is : table ≡ f.placed.table
  pub procedures_are : procedures ≡ f.placed.procedures
  pub lines_are : lines ≡ f.placed.lines
  pub notes_are : notes ≡ notes_of f

-- functions are counted as they are seen
pub counted : (f : FollowedSource) (functions : List (Recorded CodeItem)) (count : ℕ) → count ≡ length functions → all_seen functions ≡ f.functions → count ≡ length f.functions
counted f functions count is looks = is ∙ (sym (length-map functions (mapped looked)) ∙ ap length looks)

module _ (f : FollowedSource) (count : ℕ) (sections : List LooseSection) (table : Table) (procedures : Procedures) (lines : LineTable) (notes : List Noted)
    (parts : ArePartsOf f count sections table procedures lines notes) where
  end_is : (made : Option Synthesis) (fatal : Bool) → end_by made fatal f ≡ end_of_parts made fatal count sections table procedures lines notes
  end_is made fatal =
      sym (ap (λ x. end_of_parts made fatal x sections table procedures lines notes) parts.count_is
      ∙ ap (λ x. end_of_parts made fatal (length f.functions) x table procedures lines notes) parts.sections_are
      ∙ ap (λ x. end_of_parts made fatal (length f.functions) f.placed.sections x procedures lines notes) parts.table_is
      ∙ ap (λ x. end_of_parts made fatal (length f.functions) f.placed.sections f.placed.table x lines notes) parts.procedures_are
      ∙ ap (λ x. end_of_parts made fatal (length f.functions) f.placed.sections f.placed.table f.placed.procedures x notes) parts.lines_are
      ∙ ap (λ x. end_of_parts made fatal (length f.functions) f.placed.sections f.placed.table f.placed.procedures f.placed.lines x) parts.notes_are)

  fits_is : (made : Option Synthesis) → TablesFit (with_tables (procedures_by made procedures) lines table.symbols sections) → TablesFit (tabled (with_made made f.placed))
  fits_is made fit =
      subst (λ (x : List LooseSection). TablesFit (with_tables (procedures_by made f.placed.procedures) f.placed.lines f.placed.table.symbols x)) parts.sections_are
      (subst (λ (x : Table). TablesFit (with_tables (procedures_by made f.placed.procedures) f.placed.lines x.symbols sections)) parts.table_is
      (subst (λ (x : LineTable). TablesFit (with_tables (procedures_by made f.placed.procedures) x table.symbols sections)) parts.lines_are
      (subst (λ (x : Procedures). TablesFit (with_tables (procedures_by made x) lines table.symbols sections)) parts.procedures_are fit)))

  -- without synthesis
  plain_end : (fatal : Bool) (result : Result NotedObject (Refusal FaultAt)) (answer : Result NotedObject FaultAt) → finished fatal count sections table procedures lines notes ≡ answer
      → OnOk answer (TablesFit (with_tables procedures lines table.symbols sections)) → EndsAs false fatal f answer
  plain_end fatal result (Ok made) is fit = (Ok [], tt, end_is None fatal ∙ is, fits_is None fit)
  plain_end fatal result (Err at) is fit = (Ok [], tt, end_is None fatal ∙ is, tt)

  -- with it
  made_procedures : (made : Synthesis) (fatal : Bool) → unless_fault (Some made) notes (finished fatal count sections table (procedures_by (Some made) no_procedures) lines notes)
      ≡ end_of_parts (Some made) fatal count sections table procedures lines notes
  made_procedures (Ok frames) fatal = refl
  made_procedures (Err at) fatal = refl

  made_fits : (made : Synthesis) (fatal : Bool) (noted : NotedObject) → unless_fault (Some made) notes (finished fatal count sections table (procedures_by (Some made) no_procedures) lines notes) ≡ Ok noted
      → TablesFit (with_tables (procedures_by (Some made) no_procedures) lines table.symbols sections)
      → TablesFit (with_tables (procedures_by (Some made) procedures) lines table.symbols sections)
  made_fits (Ok frames) fatal noted is fit = fit
  made_fits (Err at) fatal noted is fit = absurd cc

  made_is : (functions : List (Recorded CodeItem)) (made : Synthesis) → all_seen functions ≡ f.functions → ComeTo table.symbols sections (all_closed (end_of sections) functions) made
      → IsSynthesis f made
  made_is functions made seen comes = record {
    functions = functions;
    seen = seen;
    comes = subst (λ (x : List LooseSection). ComeTo f.placed.table.symbols x (all_closed (end_of x) functions) made) parts.sections_are
        (subst (λ (x : Table). ComeTo x.symbols sections (all_closed (end_of sections) functions) made) parts.table_is comes);
  }

  frames_end : (fatal : Bool) (functions : List (Recorded CodeItem)) (answer : Result NotedObject FaultAt) → all_seen functions ≡ f.functions
      → EndsWithFrames fatal count sections table lines (all_closed (end_of sections) functions) notes answer → EndsAs true fatal f answer
  frames_end fatal functions (Ok noted) seen is = (
    is.made,
    made_is functions is.made seen is.comes,
    end_is (Some is.made) fatal ∙ (sym (made_procedures is.made fatal) ∙ is.answers),
    fits_is (Some is.made) (made_fits is.made fatal noted is.answers is.fits),
  )
  frames_end fatal functions (Err at) seen is =
      (is.made, made_is functions is.made seen is.comes, end_is (Some is.made) fatal ∙ (sym (made_procedures is.made fatal) ∙ is.answers), tt)

  -- the answer of the end where it is not asked for synthesis
  pub plain_answers : (asked : Asked) (result : Result NotedObject (Refusal FaultAt)) → asked.scfi ≡ false → Returns result (finished asked.fatal_warnings count sections table procedures lines notes)
      → OnOk result (TablesFit (with_tables procedures lines table.symbols sections)) → AnswersFollowed asked f result
  plain_answers asked (Ok made) off returns fit =
      followed_as asked f (Ok made) (subst (λ scfi. EndsAs scfi asked.fatal_warnings f (Ok made)) (sym off) (plain_end asked.fatal_warnings (Ok made) (Ok made) returns fit))
  plain_answers asked (Err (refusal.Fault at)) off returns fit =
      followed_as asked f (Err at) (subst (λ scfi. EndsAs scfi asked.fatal_warnings f (Err at)) (sym off) (plain_end asked.fatal_warnings (Err (refusal.Fault at)) (Err at) returns tt))
  plain_answers asked (Err refusal.NoMemory) off returns fit = tt

  -- and where it is
  pub frames_answer : (asked : Asked) (functions : List (Recorded CodeItem)) (result : Result NotedObject (Refusal FaultAt)) → asked.scfi ≡ true → all_seen functions ≡ f.functions
      → AnswersWithFrames asked.fatal_warnings count sections table lines (all_closed (end_of sections) functions) notes result → AnswersFollowed asked f result
  frames_answer asked functions (Ok made) on seen is =
      followed_as asked f (Ok made) (subst (λ scfi. EndsAs scfi asked.fatal_warnings f (Ok made)) (sym on) (frames_end asked.fatal_warnings functions (Ok made) seen is))
  frames_answer asked functions (Err (refusal.Fault at)) on seen is =
      followed_as asked f (Err at) (subst (λ scfi. EndsAs scfi asked.fatal_warnings f (Err at)) (sym on) (frames_end asked.fatal_warnings functions (Err at) seen is))
  frames_answer asked functions (Err refusal.NoMemory) on seen is = tt

-- ANSWERS FOR A SOURCE

module _ (asked : Asked) (files : List (List ℕ)) (f : FollowedSource) where
  -- where the answer hangs on no synthesis
  anyhow : (expanded : Result (Unit {0}) (ExpandFault FaultAt)) (result : Result Assembled AsmFault)
      → ((made : Synthesis) → StepIsMade (flags_asked asked made).scfi (came_of (flags_asked asked made) (string_bytes asked.file) files f expanded))
      → ((made : Synthesis) → IsFitAnswer (flags_asked asked made) (string_bytes asked.file) files f expanded result) → AnswersSource asked files f expanded result
  anyhow expanded (Ok answer) comes holds = (Ok [], comes (Ok []), holds (Ok []))
  anyhow expanded (Err (Source fault pos notes names)) comes holds = (Ok [], comes (Ok []), holds (Ok []))
  anyhow expanded (Err Read) comes holds = holds
  anyhow expanded (Err NoMemory) comes holds = holds

  -- the lines have a fault
  pub lines_answer : (expanded : Result (Unit {0}) (ExpandFault FaultAt)) (begun : List (List ℕ)) (cause : LineCause) (at : FaultAt) (shown : List ℕ) (result : Result Assembled AsmFault)
      → expanded ≡ Err (expand.Lines cause) → at ≡ line_answer cause → shown ≡ string_bytes asked.file → begun ≡ [] → IsAnswered (faulty at (shown_files shown begun)) result
      → AnswersSource asked files f expanded result
  lines_answer expanded begun cause at shown result is same named none so =
      subst (λ e. AnswersSource asked files f e result) (sym is)
      (anyhow (Err (expand.Lines cause)) result (λ made. tt)
      (λ made. record {
        answer = lines_answered (flags_asked asked made) (string_bytes asked.file) shown files begun f (Err (expand.Lines cause)) cause at result refl same named none so;
        numbers = tt;
      }))

  -- expansion has a fault
  pub stopped_answer : (expanded : Result (Unit {0}) (ExpandFault FaultAt)) (cause : MacroCause) (pos : Pos) (shown : List ℕ) (result : Result Assembled AsmFault)
      → expanded ≡ Err (expand.Expansion cause pos) → shown ≡ string_bytes asked.file
      → IsAnswered (faulty (fault_at (Statement (macro_fault cause)) pos (notes_of f)) (shown_files shown files)) result → AnswersSource asked files f expanded result
  stopped_answer expanded cause pos shown result is named so =
      subst (λ e. AnswersSource asked files f e result) (sym is)
      (anyhow (Err (expand.Expansion cause pos)) result (λ made. tt)
      (λ made. record {
        answer = subst (λ n. IsAnswered (faulty (fault_at (Statement (macro_fault cause)) pos (notes_of f)) (shown_files n files)) result) named so;
        numbers = tt;
      }))

  -- a statement is refused
  pub placing_answer : (expanded : Result (Unit {0}) (ExpandFault FaultAt)) (fault at : FaultAt) (shown : List ℕ) (result : Result Assembled AsmFault)
      → expanded ≡ Err (expand.Placing fault) → at ≡ fault → shown ≡ string_bytes asked.file → IsAnswered (faulty at (shown_files shown files)) result
      → AnswersSource asked files f expanded result
  placing_answer expanded fault at shown result is same named so =
      subst (λ e. AnswersSource asked files f e result) (sym is)
      (anyhow (Err (expand.Placing fault)) result (λ made. tt)
      (λ made. record {
        answer = subst (λ (x : FaultAt). IsAnswered (faulty x (shown_files (string_bytes asked.file) files)) result) same
            (subst (λ n. IsAnswered (faulty at (shown_files n files)) result) named so);
        numbers = tt;
      }))

  -- the input failed
  pub read_answer : (expanded : Result (Unit {0}) (ExpandFault FaultAt)) → expanded ≡ Err expand.Read → AnswersSource asked files f expanded (Err Read)
  read_answer expanded is = subst (λ e. AnswersSource asked files f e (Err Read)) (sym is) (λ made. record { answer = refl; numbers = tt })

  -- memory ran out
  pub memory_answer : (expanded : Result (Unit {0}) (ExpandFault FaultAt)) → expanded ≡ Err expand.NoMemory → AnswersSource asked files f expanded (Err NoMemory)
  memory_answer expanded is = subst (λ e. AnswersSource asked files f e (Err NoMemory)) (sym is) (λ made. record { answer = tt; numbers = tt })

  pub memory_at_end : AnswersSource asked files f (Ok tt) (Err NoMemory)
  memory_at_end = λ made. record { answer = tt; numbers = tt }

  -- the end of the source
  pub object_at_end : (noted : NotedObject) (names : List (List ℕ)) (shown : List ℕ) → EndsFollowed asked f (Ok noted) → shown ≡ string_bytes asked.file → names ≡ shown_files shown files
      → AnswersSource asked files f (Ok tt) (Ok (record { notes = noted.notes; files = names; object = noted.object; counts = noted.counts }))
  object_at_end noted names shown is named all = (
    is.made,
    is.comes,
    record {
      answer = ap (ended_by (shown_files (string_bytes asked.file) files)) is.answers
          ∙ ap (assembled noted) (sym (all ∙ ap (λ n. shown_files n files) named));
      numbers = is.fits;
    },
  )

  pub fault_at_end : (at : FaultAt) (shown : List ℕ) (result : Result Assembled AsmFault) → EndsFollowed asked f (Err at) → shown ≡ string_bytes asked.file
      → IsAnswered (faulty at (shown_files shown files)) result → AnswersSource asked files f (Ok tt) result
  fault_at_end at shown (Ok answer) is named so = absurd cc
  fault_at_end at shown (Err (Source fault pos notes names)) is named so = (
    is.made,
    is.comes,
    record {
      answer = ap (ended_by (shown_files (string_bytes asked.file) files)) is.answers
          ∙ (ap (λ n. faulty at (shown_files n files)) (sym named) ∙ so);
      numbers = tt;
    },
  )
  fault_at_end at shown (Err Read) is named so = absurd so
  fault_at_end at shown (Err NoMemory) is named so = memory_at_end
