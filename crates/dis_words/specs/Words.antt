-- The words of a command line, as the crate `clap` reads them for one command.
use Rattle.std.specs.Prelude.{ℕ, Bool, false, List, [], ◌∷◌, Option, None, Some, codes, if◌then◌else◌}
use Rattle.std.specs.Option.{option_map_or}
use Rattle.std.specs.Str.{bytes_eq}
use Rattle.clap.specs.Words.{App, Kinds, Row, Rule, fault_of, first_of, matches_of, new_app, new_rule, with_rule}
use Rattle.clap.specs.declared.builder.action.ArgAction.TheVariants.{SetTrue}

-- the flag `--intel`, which is used at most once
abbrev pub intel_rule : Rule
intel_rule = record (new_rule (codes "intel")) { long = Some (codes "intel"); action = Some SetTrue }

-- `asdis [--intel] [FILE]`; clap adds `-h` and `--help`, at which it reads no command
unfoldable pub asdis_app : App
asdis_app = with_rule (with_rule (new_app (codes "asdis")) intel_rule) (new_rule (codes "file"))

-- the kind of the first fault for which the words are no command, or nothing where they are one
unfoldable pub faults_of : List (List ℕ) → Kinds
faults_of words = fault_of asdis_app words

-- what the words give each argument, where they are a command
unfoldable pub rows_of_words : List (List ℕ) → List Row
rows_of_words words = matches_of asdis_app words

-- what the words of a command ask for; the empty file is standard input
pub record Invocation : Type 0 where
  pub file : List ℕ
  pub intel : Bool

-- the source that a FILE names: `-` is standard input, which has the empty name
abbrev pub source_of : List ℕ → List ℕ
source_of word = if bytes_eq word (codes "-") then [] else word

-- a flag that was used has the value `true`
abbrev pub is_on : Option (List ℕ) → Bool
is_on value = option_map_or (λ text. bytes_eq text (codes "true")) value false

-- without FILE the source is standard input
unfoldable pub invocation_of : List Row → Invocation
invocation_of rows = record {
  file = option_map_or source_of (first_of (codes "file") rows) [];
  intel = is_on (first_of (codes "intel") rows);
}

-- the values, where no step of the reading fails
abbrev pub unless_fault : Kinds → Invocation → Option Invocation
unless_fault [] asked = Some asked
unless_fault (kind ∷ kinds) asked = None

-- what the words ask for, where clap's command takes them
unfoldable pub asked_by : List (List ℕ) → Option Invocation
asked_by words = unless_fault (faults_of words) (invocation_of (rows_of_words words))

-- what the words ask for, where they are a command; no words at all are none
unfoldable pub command_of : List (List ℕ) → Option Invocation
command_of [] = None
command_of (program ∷ words) = asked_by (program ∷ words)

-- what is said where the words are no command
unfoldable pub usage_text : List ℕ
usage_text = codes "usage: asdis [--intel] [FILE]\n"
