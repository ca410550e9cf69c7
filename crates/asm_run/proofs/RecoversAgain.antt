-- What holds of the functions of every assembled source holds of those of the source that a command line names.
use Rattle.std.proofs.Common.{◌≡◌, ◌<◌, ℕ, All, List, Option, None, Some, refl, subst}
use Rattle.std.specs.Prelude.{◌^◌}
use Rattle.asm_base.specs.Inputs.{Contents}
use Rattle.expansion_laws.specs.Handing.{IsBytes, AreBytes}
use Rattle.source_ends.specs.Synthesis.{Synthesis}
use Rattle.source_ends.specs.Ending.{Flags}
use Rattle.source_ends.specs.declared.ending.NotedObject.{NotedObject}
use Rattle.asm_front.specs.Sources.{name_of, source_in}
use Rattle.asm_front.specs.Assembly.{Assembly, assembled, faulty, assembly_of, FileIsMade, IsMade}
use Rattle.asm_front.specs.Assembly as assembly
use Rattle.load_text.specs.Load.{load_text}
use Rattle.recovery_laws.specs.Sources.{SourceRecovers, ObjectsRecover}
use Rattle.run_words.specs.Words.{Invocation}
use Rattle.source_runs.specs.Outcome.{flags_by, main_by, main_of_invocation, source_outcome}
use Rattle.asm_run.specs.Recovers.{OutcomeRecovers, FileRecovers, InvocationRecovers, CommandRecovers}

-- the text of each number of functions is bytes
abbrev pub LoadsAreBytes : Type 0
LoadsAreBytes = (functions : ℕ) → All (λ byte. byte < 2 ^ 8) (load_text functions)

answer_recovers : (invocation : Invocation) (flags : Flags) (contents : Contents) (name source : List ℕ) (answer : Assembly)
    → ((made : NotedObject) (files : List (List ℕ)) → answer ≡ assembled made files → SourceRecovers flags contents name source made.object)
    → OutcomeRecovers flags contents name source (source_outcome invocation answer)
answer_recovers invocation flags contents name source (assembled made files) law = law made files refl
answer_recovers invocation flags contents name source (faulty first files) law = tt
answer_recovers invocation flags contents name source (assembly.missing files) law = tt

file_recovers : ObjectsRecover → (invocation : Invocation) (held : Synthesis) (contents : Contents) (name : List ℕ) (source : Option (List ℕ))
    → ((text : List ℕ) → source ≡ Some text → IsBytes text) → AreBytes contents → FileIsMade (flags_by invocation held) contents name source
    → FileRecovers invocation held contents name source
file_recovers law invocation held contents name None is_bytes bytes so = tt
file_recovers law invocation held contents name (Some source) is_bytes bytes so =
    answer_recovers invocation (flags_by invocation held) contents name source (assembly_of (flags_by invocation held) contents name source)
    (λ made files same. law (flags_by invocation held) contents name source made files bytes (is_bytes source refl) same so)

-- the main source is bytes, where files are
main_is_bytes : LoadsAreBytes → (contents : Contents) (self_load : Option ℕ) (name text : List ℕ) → AreBytes contents
    → source_in contents (main_by self_load name) ≡ Some text → IsBytes text
main_is_bytes loads contents None name text bytes is = bytes name text is
main_is_bytes loads contents (Some functions) name text bytes is =
    let same : load_text functions ≡ text = cc in
    subst (λ t. IsBytes t) same (loads functions)

invocation_recovers : ObjectsRecover → LoadsAreBytes → (invocation : Invocation) (held : Synthesis) (contents : Option Contents)
    → IsMade (flags_by invocation held) contents (main_of_invocation invocation) → InvocationRecovers invocation held contents
invocation_recovers law loads invocation held None so = tt
invocation_recovers law loads invocation held (Some contents) so = λ bytes.
    file_recovers law invocation held contents (name_of (main_of_invocation invocation)) (source_in contents (main_of_invocation invocation))
    (λ text is. main_is_bytes loads contents invocation.self_load invocation.file text bytes is) bytes so

pub command_recovers : ObjectsRecover → ((functions : ℕ) → All (λ byte. byte < 2 ^ 8) (load_text functions)) → (command : Option Invocation) (contents : Option Contents)
    → CommandRecovers command contents
command_recovers law loads None contents = tt
command_recovers law loads (Some invocation) contents = λ held so. invocation_recovers law loads invocation held contents so
