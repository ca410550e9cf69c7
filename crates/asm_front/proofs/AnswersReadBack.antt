-- The object of an answer reads back as the statements that its source hands out.
use Rattle.std.proofs.Common.{◌≡◌, ℕ, List, Option, None, Some, Result, Ok, Err}
use Rattle.asm_base.specs.Inputs.{Contents}
use Rattle.source_ends.specs.Ending.{Flags}
use Rattle.asm_front.specs.Sources.{MainSource, name_of, source_in}
use Rattle.asm_front.specs.Outcome.{AssemblesFile, Assembles}
use Rattle.source_ends.specs.declared.ending.NotedObject.{NotedObject}
use Rattle.asm_front.specs.Assembly.{assembled, assembly_of, handed_of, SourceIsMade, FileIsMade, IsMade}
use Rattle.asm_front.specs.ReadsBack.{ReadsBack, AnswerReadsBack, ReadsBackFrom}
use Rattle.asm_front.specs.declared.answers.Assembled.{Assembled}
use Rattle.asm_front.specs.declared.answers.AsmFault.{AsmFault}

-- the law of the definition
abbrev pub Law : Type 0
Law = (flags : Flags) (contents : Contents) (name source : List ℕ) (made : NotedObject) (files : List (List ℕ))
    → assembly_of flags contents name source ≡ assembled made files → SourceIsMade flags contents name source → ReadsBack flags (handed_of flags contents name source) made.object

file_reads_back : Law → (flags : Flags) (contents : Contents) (name : List ℕ) (file : Option (List ℕ)) (result : Result Assembled AsmFault)
    → FileIsMade flags contents name file → AssemblesFile flags contents name file result → AnswerReadsBack flags contents name file result
file_reads_back law flags contents name None result made so = tt
file_reads_back law flags contents name (Some source) (Ok answer) made so = law flags contents name source _ answer.files so made
file_reads_back law flags contents name (Some source) (Err fault) made so = tt

pub answer_reads_back : Law → (flags : Flags) (contents : Option Contents) (main : MainSource) (result : Result Assembled AsmFault) → IsMade flags contents main → Assembles flags contents main result
    → ReadsBackFrom flags contents main result
answer_reads_back law flags None main result made so = tt
answer_reads_back law flags (Some contents) main result made so = file_reads_back law flags contents (name_of main) (source_in contents main) result made so

no_object_of : (flags : Flags) (contents : Contents) (name : List ℕ) (file : Option (List ℕ)) (fault : AsmFault) → AnswerReadsBack flags contents name file (Err fault)
no_object_of flags contents name None fault = tt
no_object_of flags contents name (Some source) fault = tt

pub no_object : (flags : Flags) (contents : Option Contents) (main : MainSource) (fault : AsmFault) → ReadsBackFrom flags contents main (Err fault)
no_object flags None main fault = tt
no_object flags (Some contents) main fault = no_object_of flags contents (name_of main) (source_in contents main) fault
