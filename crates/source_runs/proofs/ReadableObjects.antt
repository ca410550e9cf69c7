-- What is found in the object of an assembly is found in what the command line stands for.
use Rattle.std.proofs.Common.{ℕ, List, Option, None, Some, Ok, sym, subst}
use Rattle.asm_base.specs.Inputs.{Contents}
use Rattle.asm_front.specs.Sources.{name_of, source_in}
use Rattle.asm_front.specs.Assembly.{Assembly, handed_of}
use Rattle.source_ends.specs.Synthesis.{Synthesis}
use Rattle.asm_front.specs.Fitting as front
use Rattle.asm_front.specs.Fitting.{SourceIsReadable}
use Rattle.asm_front.specs.Outcome.{Assembles, AssemblesFile}
use Rattle.asm_front.specs.declared.answers.Assembled.{Assembled}
use Rattle.run_words.specs.Words.{Invocation}
use Rattle.source_runs.specs.Outcome.{flags_by, main_of_invocation, source_outcome}
use Rattle.source_runs.specs.Readable.{OutcomeIsReadable, FileIsReadable, InvocationIsReadable}

of_file : (invocation : Invocation) (held : Synthesis) (contents : Contents) (name : List ℕ) (source : Option (List ℕ)) (made : Assembled)
    → AssemblesFile (flags_by invocation held) contents name source (Ok made) → front.FileIsReadable (flags_by invocation held) contents name source (Ok made)
    → FileIsReadable invocation held contents name source
of_file invocation held contents name None made assembles found = tt
of_file invocation held contents name (Some source) made assembles found =
    subst (λ (assembly : Assembly). OutcomeIsReadable (flags_by invocation held) (handed_of (flags_by invocation held) contents name source) (source_outcome invocation assembly))
    (sym assembles) found

-- the object of a source that was assembled is found
pub object_found : (contents : Option Contents) (invocation : Invocation) (held : Synthesis) (made : Assembled)
    → Assembles (flags_by invocation held) contents (main_of_invocation invocation) (Ok made)
    → SourceIsReadable (flags_by invocation held) contents (main_of_invocation invocation) (Ok made) → InvocationIsReadable invocation held contents
object_found None invocation held made assembles found = tt
object_found (Some contents) invocation held made assembles found =
    of_file invocation held contents (name_of (main_of_invocation invocation)) (source_in contents (main_of_invocation invocation)) made assembles found
