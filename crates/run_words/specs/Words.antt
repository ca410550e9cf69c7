-- The words of a command line, as the crate `clap` reads them for one command.
use Rattle.std.specs.Prelude.{ℕ, Bool, true, false, ◌&&◌, ◌||◌, List, [], ◌∷◌, Option, None, Some, codes, is_some, unwrap_or, if◌then◌else◌}
use Rattle.std.specs.Option.{option_map_or}
use Rattle.std.specs.Str.{bytes_eq}
use Rattle.clap.specs.Words.{App, Kinds, Row, Rule, fault_of, first_of, matches_of, new_app, new_rule, with_rule}
use Rattle.run_words.specs.Functions.{is_load, load_of}
use Rattle.clap.specs.declared.builder.action.ArgAction.TheVariants.{SetTrue}

-- `-o FILE`
abbrev pub object_rule : Rule
object_rule = record (new_rule (codes "object")) { short = Some 111 }

-- the flag `--name`, which is used at most once
abbrev pub flag_rule : List ℕ → Rule
flag_rule name = record (new_rule name) { long = Some name; action = Some SetTrue }

-- `--scfi VALUE`, or `--scfi=VALUE`
abbrev pub scfi_rule : Rule
scfi_rule = record (new_rule (codes "scfi")) { long = Some (codes "scfi") }

-- `-W`, or `--no-warn`
abbrev pub no_warn_rule : Rule
no_warn_rule = record (flag_rule (codes "no-warn")) { short = Some 87 }

-- `--self-load N`, or `--self-load=N`
abbrev pub self_load_rule : Rule
self_load_rule = record (new_rule (codes "self-load")) { long = Some (codes "self-load") }

-- `as [-o FILE] [--64] [--scfi VALUE] [-W|--no-warn] [--fatal-warnings] [--self-load N] [FILE]`; clap adds `-h` and `--help`, at which it reads no command
unfoldable pub as_app : App
as_app = with_rule (with_rule (with_rule (with_rule (with_rule (with_rule (with_rule (new_app (codes "as")) object_rule) (flag_rule (codes "64"))) scfi_rule)
    no_warn_rule) (flag_rule (codes "fatal-warnings"))) self_load_rule) (new_rule (codes "file"))

-- the kind of the first fault for which the words are no command, or nothing where they are one
unfoldable pub faults_of : List (List ℕ) → Kinds
faults_of words = fault_of as_app words

-- what the words give each argument, where they are a command
unfoldable pub rows_of_words : List (List ℕ) → List Row
rows_of_words words = matches_of as_app words

-- what the words of a command ask for; the empty file is standard input, and in place of a file there may be a number of functions, of which the source is made
pub record Invocation : Type 0 where
  pub file : List ℕ
  pub self_load : Option ℕ
  pub object : List ℕ
  pub scfi : Bool
  pub no_warn : Bool
  pub fatal_warnings : Bool

-- the source that a FILE names: `-` is standard input, which has the empty name
abbrev pub source_of : List ℕ → List ℕ
source_of word = if bytes_eq word (codes "-") then [] else word

-- a flag that was used has the value `true`
abbrev pub is_on : Option (List ℕ) → Bool
is_on value = option_map_or (λ text. bytes_eq text (codes "true")) value false

-- without FILE the source is standard input, and without `-o` the object is `a.out`; with `--self-load` frame tables are worked out too
unfoldable pub invocation_of : List Row → Invocation
invocation_of rows = record {
  file = option_map_or source_of (first_of (codes "file") rows) [];
  self_load = load_of (first_of (codes "self-load") rows);
  object = unwrap_or (first_of (codes "object") rows) (codes "a.out");
  scfi = is_some (first_of (codes "scfi") rows) || is_some (first_of (codes "self-load") rows);
  no_warn = is_on (first_of (codes "no-warn") rows);
  fatal_warnings = is_on (first_of (codes "fatal-warnings") rows);
}

-- `--scfi` takes one value
abbrev pub is_scfi : Option (List ℕ) → Bool
is_scfi None = true
is_scfi (Some value) = bytes_eq value (codes "experimental")

-- the options have values that they take
abbrev pub has_values : List Row → Bool
has_values rows = is_scfi (first_of (codes "scfi") rows) && is_load (first_of (codes "self-load") rows) (first_of (codes "file") rows)

-- what the values ask for, where the options take them
unfoldable pub taken_of : List Row → Option Invocation
taken_of rows = if has_values rows then Some (invocation_of rows) else None

-- the values, where no step of the reading fails
abbrev pub unless_fault : Kinds → Option Invocation → Option Invocation
unless_fault [] asked = asked
unless_fault (kind ∷ kinds) asked = None

-- what the words ask for, where clap's command takes them
unfoldable pub asked_by : List (List ℕ) → Option Invocation
asked_by words = unless_fault (faults_of words) (taken_of (rows_of_words words))

-- what the words ask for, where they are a command; no words at all are none
unfoldable pub command_of : List (List ℕ) → Option Invocation
command_of [] = None
command_of (program ∷ words) = asked_by (program ∷ words)

-- what is said where the words are no command
unfoldable pub usage_text : List ℕ
usage_text = codes "usage: as [-o FILE] [--64] [--scfi=experimental] [-W|--no-warn] [--fatal-warnings] [--self-load N] [FILE]\n"

-- the object's name of a command, and no name where the words are none
abbrev pub output_of : Option Invocation → List ℕ
output_of None = []
output_of (Some invocation) = invocation.object
