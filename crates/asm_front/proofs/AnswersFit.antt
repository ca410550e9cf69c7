-- From the numbers of what came of a text to those of the object that is answered.
use Rattle.std.proofs.Common.{◌≡◌, ℕ, inl, inr, List, [], ◌∷◌, Option, None, Some, Result, Ok, Err, sym, subst}
use Rattle.asm_base.specs.Inputs.{Contents}
use Rattle.asm_base.specs.WholeFile.{ReadsFile}
use Rattle.asm_lines.specs.Statements.{StatementAt, statements_of}
use Rattle.asm_lines.specs.declared.faults.LineCause.{LineCause}
use Rattle.asm_macro.specs.Placing.{Step, ended, expansion}
use Rattle.asm_macro.specs.Expanding.{Comes, IsExpansion}
use Rattle.asm_macro.specs.declared.faults.ExpandFault.{ExpandFault}
use Rattle.asm_macro.specs.declared.faults.ExpandFault.TheVariants as expand
use Rattle.asm_place.specs.declared.place_faults.FaultAt.{FaultAt}
use Rattle.asm_functions.specs.FollowedSource.{FollowedSource}
use Rattle.source_ends.specs.Ending.{Flags, tabled, with_made}
use Rattle.asm_front.specs.Sources.{MainSource, name_of, source_in}
use Rattle.asm_front.specs.Assembly.{assembled, assembly_of, expansion_of, handed_of, main_file, placed_after, told_of, nothing_yet, SourceIsMade, FileIsMade, IsMade}
use Rattle.asm_front.specs.Answering.{IsAnswer}
use Rattle.source_ends.specs.Fitting.{TablesFit}
use Rattle.asm_front.specs.Fitting.{AnswerFits, StepFits, TextFits, ObjectIsReadable, FileIsReadable, SourceIsReadable}
use Rattle.asm_front.specs.Outcome.{AssemblesFile, Assembles}
use Rattle.asm_front.specs.declared.answers.Assembled.{Assembled}
use Rattle.asm_front.specs.declared.answers.AsmFault.{AsmFault}
use Rattle.source_ends.specs.declared.ending.NotedObject.{NotedObject}
use Rattle.asm_front.proofs.WholeSources.{IsRead}

-- where the end came, what it placed fits
at_end : (flags : Flags) (wanted : Step FollowedSource FaultAt) (files : List (List ℕ)) (placed : FollowedSource) → Comes wanted (ended files placed)
    → TablesFit (tabled (with_made flags.scfi placed.placed)) → StepFits flags wanted
at_end flags wanted files placed (inl is) fit = subst (StepFits flags) (sym is) fit
at_end flags wanted files placed (inr is) fit = subst (StepFits flags) (sym is) tt

-- what a refused list comes to has no object
of_answer : (flags : Flags) (name : List ℕ) (wanted : Step FollowedSource FaultAt) (lines : Result (List StatementAt) LineCause) (files : List (List ℕ)) (placed : FollowedSource)
    (expanded : Result (Unit {0}) (ExpandFault FaultAt)) (made : Assembled) → IsExpansion wanted lines expanded files placed
    → IsAnswer flags name files placed expanded (Ok made) → AnswerFits flags expanded placed (Ok made) → StepFits flags wanted
of_answer flags name wanted lines files placed (Ok u) made came so fit = at_end flags wanted files placed came fit
of_answer flags name wanted lines files placed (Err (expand.Lines cause)) made came so fit = absurd cc
of_answer flags name wanted lines files placed (Err (expand.Expansion cause pos)) made came so fit = absurd cc
of_answer flags name wanted lines files placed (Err (expand.Placing fault)) made came so fit = absurd cc
of_answer flags name wanted lines files placed (Err expand.Read) made came so fit = absurd cc
of_answer flags name wanted lines files placed (Err expand.NoMemory) made came so fit = absurd cc

-- the numbers of a text whose list was placed from nothing on
pub text_fits : (flags : Flags) (contents : Option Contents) (name text : List ℕ) (begun files : List (List ℕ)) (start placed : FollowedSource) (expanded : Result (Unit {0}) (ExpandFault FaultAt))
    (result : Result Assembled AsmFault) → begun ≡ name ∷ [] → start ≡ nothing_yet flags
    → IsExpansion (expansion placed_after told_of contents begun start (statements_of main_file text)) (statements_of main_file text) expanded files placed
    → IsAnswer flags name files placed expanded result → AnswerFits flags expanded placed result → TextFits flags contents name text result
unfolding expansion_of
text_fits flags contents name text begun files start placed expanded (Err fault) named empty came so fit = tt
text_fits flags contents name text begun files start placed expanded (Ok made) named empty came so fit =
    let wanted = expansion placed_after told_of contents (name ∷ []) (nothing_yet flags) (statements_of main_file text) in
    of_answer flags name wanted (statements_of main_file text) files placed expanded made
    (subst (λ (first : FollowedSource). IsExpansion (expansion placed_after told_of contents (name ∷ []) first (statements_of main_file text)) (statements_of main_file text) expanded files placed) empty
    (subst (λ (names : List (List ℕ)). IsExpansion (expansion placed_after told_of contents names start (statements_of main_file text)) (statements_of main_file text) expanded files placed) named came))
    so fit

-- the law of the definition
abbrev pub Law : Type 0
Law = (flags : Flags) (contents : Contents) (name source : List ℕ) (made : NotedObject) (files : List (List ℕ)) → assembly_of flags contents name source ≡ assembled made files
    → SourceIsMade flags contents name source → StepFits flags (expansion_of flags (Some contents) name source) → ObjectIsReadable flags (handed_of flags contents name source) made.object

file_is_readable : Law → (flags : Flags) (contents : Contents) (name : List ℕ) (file : Option (List ℕ)) (text : List ℕ) (rest : Option (List ℕ)) (result : Result Assembled AsmFault)
    → ReadsFile file (Ok text) rest → FileIsMade flags contents name file → AssemblesFile flags contents name file result → TextFits flags (Some contents) name text result → FileIsReadable flags contents name file result
file_is_readable law flags contents name None text rest result read made so fit = tt
file_is_readable law flags contents name (Some source) text rest (Err fault) read made so fit = tt
file_is_readable law flags contents name (Some source) text rest (Ok answer) read made so fit =
    law flags contents name source _ answer.files so made
    (subst (λ (bytes : List ℕ). StepFits flags (expansion_of flags (Some contents) name bytes)) read.0 fit)

-- the object of a text that was read whole is readable
pub text_is_readable : Law → (flags : Flags) (contents : Option Contents) (main : MainSource) (text : List ℕ) (rest : Option (List ℕ)) (result : Result Assembled AsmFault)
    → IsRead contents main text rest → IsMade flags contents main → Assembles flags contents main result → TextFits flags contents (name_of main) text result
    → SourceIsReadable flags contents main result
text_is_readable law flags None main text rest result read made so fit = tt
text_is_readable law flags (Some contents) main text rest result read made so fit =
    file_is_readable law flags contents (name_of main) (source_in contents main) text rest result read made so fit

nothing_of : (flags : Flags) (contents : Contents) (name : List ℕ) (file : Option (List ℕ)) (fault : AsmFault) → FileIsReadable flags contents name file (Err fault)
nothing_of flags contents name None fault = tt
nothing_of flags contents name (Some source) fault = tt

-- a fault has no object
pub nothing_readable : (flags : Flags) (contents : Option Contents) (main : MainSource) (fault : AsmFault) → SourceIsReadable flags contents main (Err fault)
nothing_readable flags None main fault = tt
nothing_readable flags (Some contents) main fault = nothing_of flags contents (name_of main) (source_in contents main) fault
