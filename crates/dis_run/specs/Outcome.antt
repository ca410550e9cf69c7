-- What a command line stands for.
use Rattle.std.specs.Prelude.{◌≡◌, ℕ, nat_le, List, [], ◌∷◌, Bool, Option, None, Some, codes, length, if◌then◌else◌}
use Rattle.asm_base.specs.Inputs.{Contents}
use Rattle.asm_base.specs.WholeFile.{most_bytes}
use Rattle.asm_base.specs.Messages.{refusal}
use Rattle.asm_base.specs.declared.faults.Fault.TheVariants.{Statement}
use Rattle.asm_base.specs.declared.faults.StatementFault.TheVariants.{FileTooLarge}
use Rattle.dis_words.specs.Words.{Invocation}

-- what a command line stands for
pub data Outcome : Type 0 where
  -- the words are no command
  usage : Outcome
  -- the file has no contents
  missing : Outcome
  -- the file is too large, which is said
  refused : (message : List ℕ) → Outcome
  -- the listing of these bytes, in Intel syntax or in AT&T syntax
  listed : (intel : Bool) (bytes : List ℕ) → Outcome

-- the name under which messages show a file
abbrev pub shown_name : List ℕ → List ℕ
shown_name [] = codes "{standard input}"
shown_name (first ∷ rest) = first ∷ rest

-- what is said of a file that is too large, at its first line
abbrev pub too_large_text : List ℕ → List ℕ
too_large_text name = refusal (shown_name name ∷ []) [] (Statement FileTooLarge) (record { file = 0; line = 1 })

-- what the invocation stands for where its file has this
abbrev pub file_outcome : Invocation → Option (List ℕ) → Outcome
file_outcome invocation None = missing
file_outcome invocation (Some bytes) =
    if nat_le (length bytes) most_bytes then listed invocation.intel bytes else refused (too_large_text invocation.file)

-- this holds of what a command stands for; of a file whose contents are not known nothing is asked
abbrev pub CommandHolds : Option Invocation → Option Contents → (Outcome → Type 0) → Type 0
CommandHolds None contents P = P usage
CommandHolds (Some invocation) None P = Unit {0}
CommandHolds (Some invocation) (Some contents) P = P (file_outcome invocation (contents invocation.file))
