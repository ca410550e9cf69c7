-- The answer of a call of `assemble`, by what expansion answered.
use Rattle.std.specs.Prelude.{◌≡◌, false, List, [], ◌∷◌, drop, ℕ, Option, Result, Ok, Err, string_bytes}
use Rattle.asm_base.specs.History.{FileEvent, happened, whole_files}
use Rattle.asm_base.specs.Inputs.{Contents}
use Rattle.asm_base.specs.declared.faults.Fault.TheVariants.{Statement}
use Rattle.asm_lines.specs.declared.faults.LineCause.{LineCause}
use Rattle.asm_place.specs.Faults.{is_file_too_large}
use Rattle.asm_place.specs.Sources.{fault_at, pos_at}
use Rattle.asm_place.specs.declared.place_faults.FaultAt.{FaultAt}
use Rattle.macro_words.specs.Statements.{line_cause}
use Rattle.macro_words.specs.Files.{line_of_cause}
use Rattle.asm_macro.specs.declared.faults.ExpandFault.{ExpandFault}
use Rattle.asm_macro.specs.declared.faults.ExpandFault.TheVariants as expand
use Rattle.asm_macro.specs.Placing.{Step, ended, fails, refused, untold}
use Rattle.asm_macro.specs.Starts.{ReadsFront}
use Rattle.asm_functions.specs.FollowedSource.{FollowedSource}
use Rattle.source_ends.specs.Synthesis.{Synthesis}
use Rattle.source_ends.specs.Ending.{Flags}
use Rattle.asm_front.specs.Sources.{MainSource, main_of}
use Rattle.asm_front.specs.Assembly.{Assembly, assembled, faulty, macro_fault, assembly_by, known_by, nothing_yet, expansion_of, main_file, StepIsMade, IsMade}
use Rattle.asm_front.specs.Outcome.{Assembles, AssemblesKnown, CountsKnown, StartsKnown, WithSynthesis, flags_of, flags_asked}
use Rattle.asm_front.specs.ReadsBack.{ReadsBackFrom}
use Rattle.asm_front.specs.Fitting.{AnswerFits, TextFits, SourceIsReadable}
use Rattle.asm_front.specs.declared.answers.Asked.{Asked}
use Rattle.asm_front.specs.declared.answers.Options.{Options}
use Rattle.asm_front.specs.declared.answers.Assembled.{Assembled}
use Rattle.asm_front.specs.declared.answers.AsmFault.{AsmFault}
use Rattle.asm_front.specs.declared.answers.AsmFault.TheVariants.{Source, Read, NoMemory}

-- the object or the fault is answered, unless memory runs out
abbrev pub IsAnswered : Assembly → Result Assembled AsmFault → Type 0
IsAnswered assembly (Ok made) = assembly ≡ assembled (record { object = made.object; notes = made.notes; counts = made.counts }) made.files
IsAnswered assembly (Err (Source fault pos notes files)) = assembly ≡ faulty (fault_at fault pos notes) files
IsAnswered assembly (Err Read) = ⊥
IsAnswered assembly (Err NoMemory) = Unit {0}

-- what came of a source of this name, with what is placed and the files that were started then; a fault of the lines of the source comes
-- before all statements
abbrev pub came_of : Flags → List ℕ → List (List ℕ) → FollowedSource → Result (Unit {0}) (ExpandFault FaultAt) → Step FollowedSource FaultAt
came_of flags name files f (Ok u) = ended files f
came_of flags name files f (Err (expand.Lines cause)) =
    fails (name ∷ []) (line_cause cause) (pos_at main_file (line_of_cause cause)) (nothing_yet flags)
came_of flags name files f (Err (expand.Expansion cause pos)) = fails files cause pos f
came_of flags name files f (Err (expand.Placing fault)) = refused files fault
came_of flags name files f (Err expand.Read) = untold
came_of flags name files f (Err expand.NoMemory) = untold

-- the answer by what came of the source: a fault of the input is handed on
abbrev pub IsAnswer : Flags → List ℕ → List (List ℕ) → FollowedSource → Result (Unit {0}) (ExpandFault FaultAt) → Result Assembled AsmFault → Type 0
IsAnswer flags name files f (Err expand.Read) result = result ≡ Err Read
IsAnswer flags name files f expanded result = IsAnswered (assembly_by flags name (came_of flags name files f expanded)) result

-- the fault of the source that a fault of its lines is
abbrev pub line_answer : LineCause → FaultAt
line_answer cause = fault_at (Statement (macro_fault (line_cause cause))) (pos_at main_file (line_of_cause cause)) []

-- a statement that is refused is not called a file that is too large
abbrev pub AnswersSmall : Result (Unit {0}) (ExpandFault FaultAt) → Result Assembled AsmFault → Type 0
AnswersSmall (Err (expand.Placing at)) (Err (Source fault pos notes files)) = is_file_too_large fault ≡ false
AnswersSmall expanded result = Unit {0}

-- what a text of this name that is not too large stands for, unless it starts a file of which nothing is known
abbrev pub text_assembly : Flags → Option Contents → List ℕ → List ℕ → Option Assembly
text_assembly flags contents name text = known_by flags name (expansion_of flags contents name text)

-- the answer for the text
abbrev pub AssemblesText : Flags → Option Contents → List ℕ → List ℕ → Result Assembled AsmFault → Type 0
AssemblesText flags contents name text result = AssemblesKnown (text_assembly flags contents name text) result

-- the count of starts of what has no contents
abbrev pub CountsText : Flags → Option Contents → List ℕ → List ℕ → ℕ → ℕ → Type 0
CountsText flags contents name text before now = CountsKnown (text_assembly flags contents name text) before now

-- where there is an object, the files that the text started were read to their end
abbrev pub ReadsText : Result Assembled AsmFault → Option (List FileEvent) → Option (List FileEvent) → Type 0
ReadsText (Ok made) before now = now ≡ happened before (whole_files (drop 1 made.files))
ReadsText (Err fault) before now = Unit {0}

-- these are the first of the files that the text starts
abbrev pub StartsTexts : Flags → Option Contents → List ℕ → List ℕ → List (List ℕ) → Type 0
StartsTexts flags contents name text these = StartsKnown (text_assembly flags contents name text) these

-- on every answer, the first of the files that the text starts were read one after the other, the last of them perhaps in part
pub record StartsIncluded (flags : Flags) (contents : Option Contents) (name text : List ℕ) (before now : Option (List FileEvent)) (taken taken_after : ℕ) : Type 0 where
  pub included : List (List ℕ)
  pub these : StartsTexts flags contents name text included
  pub reads : ReadsFront included before now taken taken_after

-- WITH WHAT SYNTHESIS COMES TO

-- this is what the functions of a text come to, if they are followed
abbrev pub TextIsMade : Flags → Option Contents → List ℕ → List ℕ → Type 0
TextIsMade flags contents name text = StepIsMade flags.scfi (expansion_of flags contents name text)

-- the answer is that for what came of the source, and the numbers of its object fit
pub record IsFitAnswer (flags : Flags) (name : List ℕ) (files : List (List ℕ)) (f : FollowedSource) (expanded : Result (Unit {0}) (ExpandFault FaultAt)) (result : Result Assembled AsmFault) : Type 0 where
  pub answer : IsAnswer flags name files f expanded result
  pub numbers : AnswerFits flags expanded f result

-- the answer for the source that is asked for
abbrev pub AnswersSource : Asked → List (List ℕ) → FollowedSource → Result (Unit {0}) (ExpandFault FaultAt) → Result Assembled AsmFault → Type 0
AnswersSource asked files f expanded result =
    WithSynthesis result (λ made. StepIsMade (flags_asked asked made).scfi (came_of (flags_asked asked made) (string_bytes asked.file) files f expanded))
    (λ made. IsFitAnswer (flags_asked asked made) (string_bytes asked.file) files f expanded result)

-- the answer is that for the text, and the numbers of its object fit
pub record IsFitText (flags : Flags) (contents : Option Contents) (name text : List ℕ) (result : Result Assembled AsmFault) : Type 0 where
  pub outcome : AssemblesText flags contents name text result
  pub numbers : TextFits flags contents name text result

-- the answer for a text of the name that is asked for
abbrev pub AnswersText : Asked → Option Contents → List ℕ → Result Assembled AsmFault → Type 0
AnswersText asked contents text result =
    WithSynthesis result (λ made. TextIsMade (flags_asked asked made) contents (string_bytes asked.file) text)
    (λ made. IsFitText (flags_asked asked made) contents (string_bytes asked.file) text result)

-- the answer is that for the main source, its object reads back, and a reader finds the sections of that
pub record IsAssembled (flags : Flags) (contents : Option Contents) (main : MainSource) (result : Result Assembled AsmFault) : Type 0 where
  pub outcome : Assembles flags contents main result
  pub reads_back : ReadsBackFrom flags contents main result
  pub readable : SourceIsReadable flags contents main result

-- the answer for a main source with these flags
abbrev pub AnswersMain : (Synthesis → Flags) → MainSource → Option Contents → Result Assembled AsmFault → Type 0
AnswersMain flags main contents result =
    WithSynthesis result (λ made. IsMade (flags made) contents main) (λ made. IsAssembled (flags made) contents main result)

-- the answer for the options' source
abbrev pub AnswersFile : Options → Option Contents → Result Assembled AsmFault → Type 0
AnswersFile options contents result = AnswersMain (flags_of options) (main_of options.source) contents result
