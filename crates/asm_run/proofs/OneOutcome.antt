-- What a command stands for is one thing, as what synthesis comes to is.
use Rattle.std.proofs.Common.{◌≡◌, ◌≤◌, ℕ, Bool, true, false, cond, nat_lt, List, [], ◌∷◌, length, Option, None, Some, refl, ap, arith}
use Rattle.std.proofs.lemmas.Bool.Decides.{nat_tests}
use Rattle.std.specs.Option.{option_map}
use Rattle.asm_base.specs.Inputs.{Contents}
use Rattle.asm_base.specs.WholeFile.{most_bytes}
use Rattle.asm_lines.specs.Statements.{statements_of}
use Rattle.asm_macro.specs.Placing.{Step, goes, ended, fails, refused, misses, untold, expansion}
use Rattle.asm_place.specs.declared.place_faults.FaultAt.{FaultAt}
use Rattle.asm_functions.specs.FollowedSource.{FollowedSource, nothing_followed}
use Rattle.source_ends.specs.Synthesis.{Synthesis, IsSynthesis}
use Rattle.source_ends.specs.Ending.{Flags}
use Rattle.asm_front.specs.Sources.{MainSource, file, given, name_of, source_in}
use Rattle.asm_front.specs.Assembly.{faulty, main_file, too_large, shown_files, placed_after, told_of, assembly_by, known_by, expansion_of, assembly_of, given_assembly, file_assembly, main_assembly, StepIsMade, SourceIsMade, FileIsMade, IsMade}
use Rattle.run_words.specs.Words.{Invocation}
use Rattle.source_runs.specs.Outcome.{main_of_invocation, source_outcome, command_outcome, CommandIsMade}

-- of all that was placed and followed there is one synthesis
abbrev pub Law : Type 0
Law = (f : FollowedSource) (one other : Synthesis) → IsSynthesis f one → IsSynthesis f other → one ≡ other

module _ (law : Law) (no_warn fatal : Bool) where
  -- the flags, where frame tables are to be worked out and where they are not
  abbrev with_asked : Bool → Synthesis → Flags
  with_asked asked made = record { no_warn = no_warn; fatal_warnings = fatal; scfi = cond asked (Some made) None }

  step_is_one : (name : List ℕ) (step : Step FollowedSource FaultAt) (one other : Synthesis) → StepIsMade (Some one) step → StepIsMade (Some other) step
      → assembly_by (with_asked true one) name step ≡ assembly_by (with_asked true other) name step
  step_is_one name (ended files f) one other is also = ap (λ made. assembly_by (with_asked true made) name (ended files f)) (law f one other is also)
  step_is_one name (fails files cause pos f) one other is also = refl
  step_is_one name (refused files fault) one other is also = refl
  step_is_one name (misses files) one other is also = refl
  step_is_one name (goes state f) one other is also = refl
  step_is_one name untold one other is also = refl

  known_is_one : (name : List ℕ) (step : Step FollowedSource FaultAt) (one other : Synthesis) → StepIsMade (Some one) step → StepIsMade (Some other) step
      → known_by (with_asked true one) name step ≡ known_by (with_asked true other) name step
  known_is_one name (ended files f) one other is also = ap Some (step_is_one name (ended files f) one other is also)
  known_is_one name (fails files cause pos f) one other is also = refl
  known_is_one name (refused files fault) one other is also = refl
  known_is_one name (misses files) one other is also = refl
  known_is_one name (goes state f) one other is also = refl
  known_is_one name untold one other is also = refl

  -- a source, by a test of its size
  by_size : {A : Type 0} (source : List ℕ) (large : Bool) → nat_lt most_bytes (length source) ≡ large → (too : A) (one other : A) → (length source ≤ most_bytes → one ≡ other)
      → cond large too one ≡ cond large too other
  by_size source true test too one other same = refl
  by_size source false test too one other same =
      let few : length source ≤ most_bytes = grind (arith, nat_tests, test) in
      same few

  -- what comes of a source where functions are followed
  abbrev came : Option Contents → List ℕ → List ℕ → Step FollowedSource FaultAt
  came contents name source = expansion placed_after told_of contents (name ∷ []) (nothing_followed no_warn true) (statements_of main_file source)

  source_is_one : (contents : Contents) (name source : List ℕ) (asked : Bool) (one other : Synthesis) → SourceIsMade (with_asked asked one) contents name source
      → SourceIsMade (with_asked asked other) contents name source
      → assembly_of (with_asked asked one) contents name source ≡ assembly_of (with_asked asked other) contents name source
  unfolding assembly_of expansion_of
  source_is_one contents name source false one other is also = refl
  source_is_one contents name source true one other is also =
      by_size source (nat_lt most_bytes (length source)) refl (faulty (too_large main_file) (shown_files name []))
      (assembly_by (with_asked true one) name (came (Some contents) name source)) (assembly_by (with_asked true other) name (came (Some contents) name source))
      (λ few. step_is_one name (came (Some contents) name source) one other (is few) (also few))

  given_is_one : (text : List ℕ) (asked : Bool) (one other : Synthesis) → IsMade (with_asked asked one) None (given text) → IsMade (with_asked asked other) None (given text)
      → given_assembly (with_asked asked one) text ≡ given_assembly (with_asked asked other) text
  unfolding given_assembly expansion_of
  given_is_one text false one other is also = refl
  given_is_one text true one other is also =
      by_size text (nat_lt most_bytes (length text)) refl (Some (faulty (too_large main_file) (shown_files [] [])))
      (known_by (with_asked true one) [] (came None [] text)) (known_by (with_asked true other) [] (came None [] text))
      (λ few. known_is_one [] (came None [] text) one other (is few) (also few))

  file_is_one : (contents : Contents) (name : List ℕ) (source : Option (List ℕ)) (asked : Bool) (one other : Synthesis) → FileIsMade (with_asked asked one) contents name source
      → FileIsMade (with_asked asked other) contents name source
      → file_assembly (with_asked asked one) contents name source ≡ file_assembly (with_asked asked other) contents name source
  file_is_one contents name None asked one other is also = refl
  file_is_one contents name (Some source) asked one other is also = source_is_one contents name source asked one other is also

  main_is_one : (contents : Option Contents) (main : MainSource) (asked : Bool) (one other : Synthesis) → IsMade (with_asked asked one) contents main
      → IsMade (with_asked asked other) contents main → main_assembly (with_asked asked one) contents main ≡ main_assembly (with_asked asked other) contents main
  main_is_one (Some contents) main asked one other is also = ap Some (file_is_one contents (name_of main) (source_in contents main) asked one other is also)
  main_is_one None (file name) asked one other is also = refl
  main_is_one None (given text) asked one other is also = given_is_one text asked one other is also

-- what a command stands for is one thing
pub command_is_one : ((f : FollowedSource) (one other : Synthesis) → IsSynthesis f one → IsSynthesis f other → one ≡ other) → (command : Option Invocation) (contents : Option Contents)
    (one other : Synthesis) → CommandIsMade command contents one → CommandIsMade command contents other → command_outcome command one contents ≡ command_outcome command other contents
command_is_one law None contents one other is also = refl
command_is_one law (Some invocation) contents one other is also =
    ap (option_map (source_outcome invocation))
    (main_is_one law invocation.no_warn invocation.fatal_warnings contents (main_of_invocation invocation) invocation.scfi one other is also)
