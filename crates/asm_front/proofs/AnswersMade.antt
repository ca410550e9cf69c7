-- Answers with what synthesis comes to: from what came of a text to the answer for the main source.
use Rattle.std.proofs.Common.{◌≡◌, ℕ, inl, inr, Bool, true, false, cond, List, [], ◌∷◌, Option, None, Some, Result, Ok, Err, refl, sym, ap, ◌∙◌, subst, string_bytes, arith}
use Rattle.std.specs.Prelude.{is_some}
use Rattle.asm_base.specs.Inputs.{Contents}
use Rattle.asm_base.specs.WholeFile.{ReadsFile}
use Rattle.asm_base.specs.declared.reading.TextFault.TheVariants.{TooLarge}
use Rattle.asm_lines.specs.Statements.{StatementAt, statements_of}
use Rattle.asm_lines.specs.declared.faults.LineCause.{LineCause}
use Rattle.asm_macro.specs.Placing.{Step, ended, fails, refused, expansion}
use Rattle.asm_macro.specs.Expanding.{Comes, IsExpansion}
use Rattle.asm_macro.specs.declared.faults.ExpandFault.{ExpandFault}
use Rattle.asm_macro.specs.declared.faults.ExpandFault.TheVariants as expand
use Rattle.asm_place.specs.declared.place_faults.FaultAt.{FaultAt}
use Rattle.asm_functions.specs.FollowedSource.{FollowedSource, nothing_followed}
use Rattle.source_ends.specs.Synthesis.{Synthesis}
use Rattle.source_ends.specs.Ending.{Flags}
use Rattle.asm_front.specs.Sources.{MainSource, file, given, name_of, source_in}
use Rattle.asm_front.specs.Assembly.{faulty, shown_files, main_file, too_large, nothing_yet, placed_after, told_of, expansion_of, main_assembly, StepIsMade, FileIsMade, IsMade}
use Rattle.asm_front.specs.Answering.{IsAnswered, IsAnswer, IsFitAnswer, AnswersSource, TextIsMade, IsFitText, AnswersText, IsAssembled, AnswersMain, CountsText, came_of, text_assembly}
use Rattle.asm_front.specs.Outcome.{flags_asked, WithSynthesis}
use Rattle.asm_front.specs.declared.answers.Asked.{Asked}
use Rattle.asm_front.specs.declared.answers.Assembled.{Assembled}
use Rattle.asm_front.specs.declared.answers.AsmFault.{AsmFault}
use Rattle.asm_front.specs.declared.answers.AsmFault.TheVariants.{Source, Read, NoMemory}
use Rattle.asm_front.proofs.AnswerLemmas.{lines_fault, text_answered, read_known, memory_known, same_count}
use Rattle.asm_front.proofs.AnswersFit.{Law as FitLaw, text_fits, text_is_readable, nothing_readable}
use Rattle.asm_front.proofs.AnswersReadBack.{Law as BackLaw, answer_reads_back, no_object}
use Rattle.asm_front.proofs.WholeSources.{Never, IsRead, IsLarge, text_read, text_too_large}

-- the answer is an object or a fault of the source
abbrev IsFound : Result Assembled AsmFault → Type 0
IsFound (Ok answer) = Unit {0}
IsFound (Err (Source fault pos notes files)) = Unit {0}
IsFound (Err Read) = ⊥
IsFound (Err NoMemory) = ⊥

-- or it is neither
abbrev IsLost : Result Assembled AsmFault → Type 0
IsLost (Ok answer) = ⊥
IsLost (Err (Source fault pos notes files)) = ⊥
IsLost (Err Read) = Unit {0}
IsLost (Err NoMemory) = Unit {0}

with_more : (result : Result Assembled AsmFault) (Comes Holds More After : Synthesis → Type 0)
    → ((made : Synthesis) → IsFound result → Comes made → Holds made → More made × After made) → ((made : Synthesis) → IsLost result → Holds made → After made)
    → WithSynthesis result Comes Holds → WithSynthesis result More After
with_more (Ok answer) Comes Holds More After found lost is = let both = found is.0 tt is.1 is.2 in (is.0, both.0, both.1)
with_more (Err (Source fault pos notes files)) Comes Holds More After found lost is = let both = found is.0 tt is.1 is.2 in (is.0, both.0, both.1)
with_more (Err Read) Comes Holds More After found lost is = λ made. lost made tt (is made)
with_more (Err NoMemory) Comes Holds More After found lost is = λ made. lost made tt (is made)

-- what a call begins with
asked_is : (asked : Bool) (made : Synthesis) → is_some (cond asked (Some made) None) ≡ asked
asked_is true made = refl
asked_is false made = refl

pub empty_is : (asked : Asked) (made : Synthesis) → nothing_followed asked.no_warn asked.scfi ≡ nothing_yet (flags_asked asked made)
empty_is asked made = ap (nothing_followed asked.no_warn) (sym (asked_is asked.scfi made))

-- TEXTS

module _ (flags : Flags) (name : List ℕ) where
  -- what came is what was wanted, or that is not known
  made_by : (wanted got : Step FollowedSource FaultAt) → Comes wanted got → StepIsMade flags.scfi got → StepIsMade flags.scfi wanted
  made_by wanted got (inl is) made = subst (StepIsMade flags.scfi) (sym is) made
  made_by wanted got (inr is) made = subst (StepIsMade flags.scfi) (sym is) tt

  step_made : (contents : Option Contents) (lines : Result (List StatementAt) LineCause) (files : List (List ℕ)) (f : FollowedSource) (expanded : Result (Unit {0}) (ExpandFault FaultAt))
      (result : Result Assembled AsmFault) → IsFound result
      → IsExpansion (expansion placed_after told_of contents (name ∷ []) (nothing_yet flags) lines) lines expanded files f
      → StepIsMade flags.scfi (came_of flags name files f expanded) → IsAnswer flags name files f expanded result
      → StepIsMade flags.scfi (expansion placed_after told_of contents (name ∷ []) (nothing_yet flags) lines)
  step_made contents lines files f (Ok u) result found came made so = made_by _ (ended files f) came made
  step_made contents lines files f (Err (expand.Lines cause)) result found came made so =
      subst (StepIsMade flags.scfi) (sym (lines_fault flags name contents lines cause came)) tt
  step_made contents lines files f (Err (expand.Expansion cause pos)) result found came made so = made_by _ (fails files cause pos f) came tt
  step_made contents lines files f (Err (expand.Placing fault)) result found came made so = made_by _ (refused files fault) came tt
  step_made contents lines files f (Err expand.Read) result found came made so = absurd (subst IsFound so found)
  step_made contents lines files f (Err expand.NoMemory) (Ok answer) found came made so = absurd cc
  step_made contents lines files f (Err expand.NoMemory) (Err (Source fault pos notes names)) found came made so = absurd cc
  step_made contents lines files f (Err expand.NoMemory) (Err Read) found came made so = absurd found
  step_made contents lines files f (Err expand.NoMemory) (Err NoMemory) found came made so = absurd found

  text_made : (contents : Option Contents) (text : List ℕ) (begun files : List (List ℕ)) (start f : FollowedSource) (expanded : Result (Unit {0}) (ExpandFault FaultAt)) (result : Result Assembled AsmFault)
      → begun ≡ name ∷ [] → start ≡ nothing_yet flags → IsFound result
      → IsExpansion (expansion placed_after told_of contents begun start (statements_of main_file text)) (statements_of main_file text) expanded files f
      → StepIsMade flags.scfi (came_of flags name files f expanded) → IsAnswer flags name files f expanded result → TextIsMade flags contents name text
  unfolding expansion_of
  text_made contents text begun files start f expanded result named empty found came made so =
      step_made contents (statements_of main_file text) files f expanded result found
      (subst (λ (first : FollowedSource). IsExpansion (expansion placed_after told_of contents (name ∷ []) first (statements_of main_file text)) (statements_of main_file text) expanded files f) empty
      (subst (λ (names : List (List ℕ)). IsExpansion (expansion placed_after told_of contents names start (statements_of main_file text)) (statements_of main_file text) expanded files f) named came))
      made so

-- the answer for a text whose list was placed from nothing on
pub text_answers : (asked : Asked) (contents : Option Contents) (text : List ℕ) (begun files : List (List ℕ)) (start f : FollowedSource) (expanded : Result (Unit {0}) (ExpandFault FaultAt))
    (result : Result Assembled AsmFault) → begun ≡ string_bytes asked.file ∷ [] → start ≡ nothing_followed asked.no_warn asked.scfi
    → IsExpansion (expansion placed_after told_of contents begun start (statements_of main_file text)) (statements_of main_file text) expanded files f
    → AnswersSource asked files f expanded result → AnswersText asked contents text result
text_answers asked contents text begun files start f expanded result named empty came is =
    let name = string_bytes asked.file in
    let from : (made : Synthesis) → start ≡ nothing_yet (flags_asked asked made) = λ made. empty ∙ empty_is asked made in
    let fits : (made : Synthesis) → IsFitAnswer (flags_asked asked made) name files f expanded result → IsFitText (flags_asked asked made) contents name text result =
    λ made holds. record {
      outcome = text_answered (flags_asked asked made) name contents text begun files start f expanded result named (from made) came holds.answer;
      numbers = text_fits (flags_asked asked made) contents name text begun files start f expanded result named (from made) came holds.answer holds.numbers;
    } in
    with_more result
    (λ made. StepIsMade (flags_asked asked made).scfi (came_of (flags_asked asked made) name files f expanded)) (λ made. IsFitAnswer (flags_asked asked made) name files f expanded result)
    (λ made. TextIsMade (flags_asked asked made) contents name text) (λ made. IsFitText (flags_asked asked made) contents name text result)
    (λ made found comes holds.
    (text_made (flags_asked asked made) name contents text begun files start f expanded result named (from made) found came comes holds.answer, fits made holds))
    (λ made lost holds. fits made holds) is

memory_of : (flags : Flags) (contents : Option Contents) (name text : List ℕ) → IsFitText flags contents name text (Err NoMemory)
memory_of flags contents name text = record { outcome = memory_known (text_assembly flags contents name text); numbers = tt }

-- memory ran out
pub text_wanted : (asked : Asked) (contents : Option Contents) (text : List ℕ) → AnswersText asked contents text (Err NoMemory)
text_wanted asked contents text = λ made. memory_of (flags_asked asked made) contents (string_bytes asked.file) text

-- nothing was started
pub none_missed : (asked : Asked) (contents : Option Contents) (text : List ℕ) (n : ℕ) (made : Synthesis)
    → CountsText (flags_asked asked made) contents (string_bytes asked.file) text n n
none_missed asked contents text n made = same_count (text_assembly (flags_asked asked made) contents (string_bytes asked.file) text) n n refl

-- MAIN SOURCES

file_made : (flags : Flags) (contents : Contents) (name : List ℕ) (source : Option (List ℕ)) (text : List ℕ) (rest : Option (List ℕ)) → ReadsFile source (Ok text) rest
    → TextIsMade flags (Some contents) name text → FileIsMade flags contents name source
file_made flags contents name None text rest read made = tt
file_made flags contents name (Some bytes) text rest read made =
    λ few. subst (λ (t : List ℕ). StepIsMade flags.scfi (expansion_of flags (Some contents) name t)) read.0 made

is_made : (flags : Flags) (contents : Option Contents) (main : MainSource) (text : List ℕ) (rest : Option (List ℕ)) → IsRead contents main text rest
    → TextIsMade flags contents (name_of main) text → IsMade flags contents main
is_made flags None (file name) text rest read made = tt
is_made flags None (given bytes) text rest read made = λ few. subst (λ (t : List ℕ). StepIsMade flags.scfi (expansion_of flags None [] t)) read.0 made
is_made flags (Some contents) main text rest read made = file_made flags contents (name_of main) (source_in contents main) text rest read made

lost_reads_back : Never → (flags : Flags) (contents : Option Contents) (main : MainSource) (text : List ℕ) (rest : Option (List ℕ)) (result : Result Assembled AsmFault)
    → IsRead contents main text rest → IsLost result → IsFitText flags contents (name_of main) text result → IsAssembled flags contents main result
lost_reads_back never flags contents main text rest (Ok answer) read lost holds = absurd lost
lost_reads_back never flags contents main text rest (Err fault) read lost holds = record {
  outcome = text_read never flags contents main text rest (Err fault) read holds.outcome;
  reads_back = no_object flags contents main fault;
  readable = nothing_readable flags contents main fault;
}

-- the answer for a main source whose text was read whole
pub main_answers : BackLaw → FitLaw → Never → (asked : Asked) (contents : Option Contents) (main : MainSource) (text : List ℕ) (rest : Option (List ℕ)) (result : Result Assembled AsmFault)
    → string_bytes asked.file ≡ name_of main → IsRead contents main text rest → AnswersText asked contents text result → AnswersMain (flags_asked asked) main contents result
main_answers back fit never asked contents main text rest result named read is =
    let name = name_of main in
    let here = subst (λ (shown : List ℕ). WithSynthesis result (λ made. TextIsMade (flags_asked asked made) contents shown text) (λ made. IsFitText (flags_asked asked made) contents shown text result))
    named is in
    with_more result
    (λ made. TextIsMade (flags_asked asked made) contents name text) (λ made. IsFitText (flags_asked asked made) contents name text result)
    (λ made. IsMade (flags_asked asked made) contents main) (λ made. IsAssembled (flags_asked asked made) contents main result)
    (λ made found comes holds.
    let flags = flags_asked asked made in
    let so = is_made flags contents main text rest read comes in
    let outcome = text_read never flags contents main text rest result read holds.outcome in (
      so,
      record {
        outcome = outcome;
        reads_back = answer_reads_back back flags contents main result so outcome;
        readable = text_is_readable fit flags contents main text rest result read so outcome holds.numbers;
      },
    ))
    (λ made lost holds. lost_reads_back never (flags_asked asked made) contents main text rest result read lost holds) here

large_file : (flags : Flags) (contents : Contents) (name : List ℕ) (source : Option (List ℕ)) (rest : Option (List ℕ)) → ReadsFile source (Err TooLarge) rest → FileIsMade flags contents name source
large_file flags contents name None rest read = tt
large_file flags contents name (Some bytes) rest read = λ few. absurd (omega (arith, read, few))

large_made : (flags : Flags) (contents : Option Contents) (main : MainSource) (rest : Option (List ℕ)) → IsLarge contents main rest → IsMade flags contents main
large_made flags None (file name) rest large = tt
large_made flags None (given text) rest large = λ few. absurd (omega (arith, large, few))
large_made flags (Some contents) main rest large = large_file flags contents (name_of main) (source_in contents main) rest large

large_assembled : (flags : Flags) (contents : Option Contents) (main : MainSource) (rest : Option (List ℕ)) (result : Result Assembled AsmFault)
    → IsLarge contents main rest → IsAnswered (faulty (too_large main_file) (shown_files (name_of main) [])) result → IsAssembled flags contents main result
large_assembled flags contents main rest (Ok answer) large so = absurd cc
large_assembled flags contents main rest (Err stop) large so = record {
  outcome = text_too_large flags contents main rest (Err stop) large so;
  reads_back = no_object flags contents main stop;
  readable = nothing_readable flags contents main stop;
}

-- the answer for a main source that is too large
pub large_answers : (asked : Asked) (contents : Option Contents) (main : MainSource) (rest : Option (List ℕ)) (result : Result Assembled AsmFault)
    → IsLarge contents main rest → IsAnswered (faulty (too_large main_file) (shown_files (name_of main) [])) result → AnswersMain (flags_asked asked) main contents result
large_answers asked contents main rest (Ok answer) large so = absurd cc
large_answers asked contents main rest (Err (Source stop pos notes files)) large so = (
  Ok [],
  large_made (flags_asked asked (Ok [])) contents main rest large,
  large_assembled (flags_asked asked (Ok [])) contents main rest (Err (Source stop pos notes files)) large so,
)
large_answers asked contents main rest (Err Read) large so = absurd so
large_answers asked contents main rest (Err NoMemory) large so = λ made. large_assembled (flags_asked asked made) contents main rest (Err NoMemory) large so

-- the input failed
pub file_failed : (asked : Asked) (contents : Option Contents) (main : MainSource) → AnswersMain (flags_asked asked) main contents (Err Read)
file_failed asked contents main = λ made. record {
  outcome = read_known (main_assembly (flags_asked asked made) contents main);
  reads_back = no_object (flags_asked asked made) contents main Read;
  readable = nothing_readable (flags_asked asked made) contents main Read;
}

-- memory ran out
pub file_wanted : (asked : Asked) (contents : Option Contents) (main : MainSource) → AnswersMain (flags_asked asked) main contents (Err NoMemory)
file_wanted asked contents main = λ made. record {
  outcome = memory_known (main_assembly (flags_asked asked made) contents main);
  reads_back = no_object (flags_asked asked made) contents main NoMemory;
  readable = nothing_readable (flags_asked asked made) contents main NoMemory;
}
