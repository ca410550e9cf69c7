-- What holds of every assembled source holds of what a command line stands for.
use Rattle.std.proofs.Common.{◌≡◌, ℕ, List, Option, None, Some, refl}
use Rattle.asm_base.specs.Inputs.{Contents}
use Rattle.asm_lines.specs.NextStatements.{TokenStatement}
use Rattle.source_ends.specs.Synthesis.{Synthesis}
use Rattle.source_ends.specs.Ending.{Flags}
use Rattle.source_ends.specs.declared.ending.NotedObject.{NotedObject}
use Rattle.asm_front.specs.Sources.{name_of, source_in}
use Rattle.asm_front.specs.Assembly.{Assembly, assembled, faulty, assembly_of, handed_of, SourceIsMade, FileIsMade, IsMade}
use Rattle.asm_front.specs.Assembly as assembly
use Rattle.asm_front.specs.ReadsBack.{ReadsBack}
use Rattle.run_words.specs.Words.{Invocation}
use Rattle.source_runs.specs.Outcome.{flags_by, main_of_invocation, source_outcome}
use Rattle.asm_run.specs.ReadsBack.{OutcomeReadsBack, FileReadsBack, InvocationReadsBack, CommandReadsBack}

-- the law of the definition
abbrev pub Law : Type 0
Law = (flags : Flags) (contents : Contents) (name source : List ℕ) (made : NotedObject) (files : List (List ℕ))
    → assembly_of flags contents name source ≡ assembled made files → SourceIsMade flags contents name source → ReadsBack flags (handed_of flags contents name source) made.object

answer_reads_back : (invocation : Invocation) (flags : Flags) (handed : List TokenStatement) (answer : Assembly)
    → ((made : NotedObject) (files : List (List ℕ)) → answer ≡ assembled made files → ReadsBack flags handed made.object) → OutcomeReadsBack flags handed (source_outcome invocation answer)
answer_reads_back invocation flags handed (assembled made files) law = law made files refl
answer_reads_back invocation flags handed (faulty first files) law = tt
answer_reads_back invocation flags handed (assembly.missing files) law = tt

file_reads_back : Law → (invocation : Invocation) (held : Synthesis) (contents : Contents) (name : List ℕ) (source : Option (List ℕ))
    → FileIsMade (flags_by invocation held) contents name source → FileReadsBack invocation held contents name source
file_reads_back law invocation held contents name None so = tt
file_reads_back law invocation held contents name (Some source) so =
    answer_reads_back invocation (flags_by invocation held) (handed_of (flags_by invocation held) contents name source)
    (assembly_of (flags_by invocation held) contents name source)
    (λ made files is. law (flags_by invocation held) contents name source made files is so)

invocation_reads_back : Law → (invocation : Invocation) (held : Synthesis) (contents : Option Contents) → IsMade (flags_by invocation held) contents (main_of_invocation invocation)
    → InvocationReadsBack invocation held contents
invocation_reads_back law invocation held None so = tt
invocation_reads_back law invocation held (Some contents) so =
    file_reads_back law invocation held contents (name_of (main_of_invocation invocation)) (source_in contents (main_of_invocation invocation)) so

pub command_reads_back : ((flags : Flags) (contents : Contents) (name source : List ℕ) (made : NotedObject) (files : List (List ℕ))
    → assembly_of flags contents name source ≡ assembled made files → SourceIsMade flags contents name source → ReadsBack flags (handed_of flags contents name source) made.object)
    → (command : Option Invocation) (contents : Option Contents) → CommandReadsBack command contents
command_reads_back law None contents = tt
command_reads_back law (Some invocation) contents = λ held so. invocation_reads_back law invocation held contents so
