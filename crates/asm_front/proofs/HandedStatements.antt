-- What is made of a source is made of the statements that its expansion hands out.
use Rattle.std.proofs.Common.{◌≡◌, ℕ, Bool, true, false, cond, nat_lt, ◌≤◌, List, [], ◌∷◌, length, map, fold, Option, Some, Result, Ok, Err, refl, sym, subst, ◌∙◌, arith}
use Rattle.std.proofs.lemmas.Bool.Decides.{nat_tests}
use Rattle.asm_base.specs.Inputs.{Contents}
use Rattle.asm_base.specs.WholeFile.{most_bytes}
use Rattle.asm_lines.specs.NextStatements.{TokenStatement, in_tokens}
use Rattle.asm_lines.specs.Placing.{placed_next, placed_in_order}
use Rattle.asm_lines.specs.Statements.{StatementAt, statements_of}
use Rattle.asm_lines.specs.declared.faults.LineCause.{LineCause}
use Rattle.macro_words.specs.Conditions.{Knowledge}
use Rattle.asm_macro.specs.Expansion.{started}
use Rattle.asm_macro.specs.Laws.{PlacesHanded}
use Rattle.asm_macro.specs.Placing.{Step, goes, ended, fails, refused, misses, untold, expansion, handed, most_turns, steps}
use Rattle.asm_base.specs.Refusals.{◌>>=◌}
use Rattle.asm_functions.specs.FollowedSource.{FollowedSource, place_followed, follow_all, placed_part}
use Rattle.asm_place.specs.Sources.{place_all}
use Rattle.asm_place.specs.declared.place_faults.FaultAt.{FaultAt}
use Rattle.asm_values.specs.State.{nothing_placed}
use Rattle.asm_front.specs.Assembly.{Assembly, assembled, faulty, nothing_yet, placed_after, told_of, ended_by, assembly_by, expansion_of, assembly_of, handed_by, handed_of, shown_files, main_file, too_large, StepIsMade, SourceIsMade}
use Rattle.source_ends.specs.Synthesis.{IsMadeAt}
use Rattle.source_ends.specs.Ending.{Flags, followed_end}
use Rattle.source_ends.specs.Finished.{ObjectsAreFinished}
use Rattle.asm_front.specs.ReadsBack.{Origin}
use Rattle.source_ends.specs.declared.ending.NotedObject.{NotedObject}

-- STATEMENTS IN ORDER

fault_stays : (statements : List TokenStatement) (fault : FaultAt) → fold (placed_next placed_after) (Err fault) statements ≡ Err fault
fault_stays [] fault = refl
fault_stays (s ∷ later) fault = fault_stays later fault

in_order_step : (answer : Result FollowedSource FaultAt) (later : List TokenStatement)
    → ((f : FollowedSource) → fold (placed_next placed_after) (Ok f) later ≡ follow_all later f)
    → fold (placed_next placed_after) answer later ≡ (answer >>= follow_all later)
in_order_step (Ok f) later all = all f
in_order_step (Err fault) later all = fault_stays later fault

folded : (statements : List TokenStatement) (before : FollowedSource) → fold (placed_next placed_after) (Ok before) statements ≡ follow_all statements before
unfolding follow_all
folded [] before = refl
folded (s ∷ later) before = in_order_step (place_followed s before) later (folded later)

-- statements that are placed as they are handed out are placed in order
in_order : (statements : List TokenStatement) (before : FollowedSource) → placed_in_order placed_after before statements ≡ follow_all statements before
unfolding placed_in_order
in_order statements before = folded statements before

-- WHERE A LIST ENDS

-- where a list comes to its end, its statements make what was made
abbrev pub Places : Type 0
Places = (known : FollowedSource → Knowledge) (files : List (List ℕ)) (statements : List TokenStatement) (contents : Option Contents) (placer : FollowedSource)
    → PlacesHanded placed_after known files statements contents placer

-- what is placed and followed is placed, without the directives that are ignored
abbrev pub Follows : Type 0
Follows = (statements : List TokenStatement) (before f : FollowedSource) → follow_all statements before ≡ Ok f
    → place_all (map (placed_part before.asked) statements) before.placed ≡ Ok f.placed

-- a list that has an object came to its end
ended_is : (flags : Flags) (name : List ℕ) (came : Step FollowedSource FaultAt) (made : NotedObject) (files : List (List ℕ)) → assembly_by flags name came ≡ assembled made files
    → (names : List (List ℕ)) × (f : FollowedSource) × (came ≡ ended names f) × (followed_end flags f ≡ Ok made)
ended_is flags name (ended names f) made files is = (names, f, refl, object_is (followed_end flags f) is)
  where
    object_is : (answer : Result NotedObject FaultAt) → ended_by (shown_files name names) answer ≡ assembled made files → answer ≡ Ok made
    object_is (Ok noted) same = cc
    object_is (Err fault) same = absurd cc
ended_is flags name (fails names cause pos f) made files is = absurd cc
ended_is flags name (refused names fault) made files is = absurd cc
ended_is flags name (misses names) made files is = absurd cc
ended_is flags name untold made files is = absurd cc
ended_is flags name (goes state f) made files is = absurd cc

-- a source that has an object is not too large
not_large : (large : Bool) (fault came : Assembly) (made : NotedObject) (files : List (List ℕ)) → ((made : NotedObject) (files : List (List ℕ)) → fault ≡ assembled made files → ⊥)
    → cond large fault came ≡ assembled made files → (came ≡ assembled made files) × (large ≡ false)
not_large true fault came made files never is = absurd (never made files is)
not_large false fault came made files never is = (is, refl)

-- the list that was handed out came to its end with what the statements place and what they do to functions, and that has this object
pub record MakesAtEnd (flags : Flags) (came : Step FollowedSource FaultAt) (statements : List TokenStatement) (made : NotedObject) : Type 0 where
  pub f : FollowedSource
  pub names : List (List ℕ)
  pub comes : came ≡ ended names f
  pub follows : follow_all statements (nothing_yet flags) ≡ Ok f
  pub ends : followed_end flags f ≡ Ok made

-- the object of a source with these lines is made of the statements that are handed out
by_lines : Places → (flags : Flags) (contents : Contents) (name : List ℕ) (lines : Result (List StatementAt) LineCause) (made : NotedObject) (files : List (List ℕ))
    → assembly_by flags name (expansion placed_after told_of (Some contents) (name ∷ []) (nothing_yet flags) lines) ≡ assembled made files
    → MakesAtEnd flags (expansion placed_after told_of (Some contents) (name ∷ []) (nothing_yet flags) lines) (handed_by flags contents name lines) made
unfolding expansion
by_lines places flags contents name (Err cause) made files is = absurd cc
by_lines places flags contents name (Ok statements) made files is =
    let empty = nothing_yet flags in
    let list = started (name ∷ []) (map in_tokens statements) in
    let end = ended_is flags name (steps placed_after told_of (Some contents) most_turns list empty) made files is in
    record {
      f = end.1;
      names = end.0;
      comes = end.2;
      follows = sym (in_order (handed placed_after told_of (Some contents) most_turns list empty) empty)
          ∙ places told_of (name ∷ []) (map in_tokens statements) (Some contents) empty most_turns end.0 end.1 end.2;
      ends = end.3;
    }

-- the object of a source is made of the statements that are handed out, at the end of its list
pub handed_comes : Places → (flags : Flags) (contents : Contents) (name source : List ℕ) (made : NotedObject) (files : List (List ℕ))
    → assembly_of flags contents name source ≡ assembled made files
    → MakesAtEnd flags (expansion_of flags (Some contents) name source) (handed_by flags contents name (statements_of main_file source)) made
unfolding assembly_of expansion_of
handed_comes places flags contents name source made files is =
    by_lines places flags contents name (statements_of main_file source) made files
    (not_large (nat_lt most_bytes (length source)) (faulty (too_large main_file) (shown_files name [])) _ made files (λ made files same. absurd cc) is).0

-- a source that has an object is not too large
pub source_fits : (flags : Flags) (contents : Contents) (name source : List ℕ) (made : NotedObject) (files : List (List ℕ))
    → assembly_of flags contents name source ≡ assembled made files → length source ≤ most_bytes
unfolding assembly_of
source_fits flags contents name source made files is =
    let test = (not_large (nat_lt most_bytes (length source)) (faulty (too_large main_file) (shown_files name [])) (assembly_by flags name (expansion_of flags (Some contents) name source)) made files
    (λ made files same. absurd cc) is).1 in
    grind (arith, nat_tests)

-- what synthesis comes to there
pub made_at_end : (flags : Flags) (contents : Contents) (name source : List ℕ) (made : NotedObject) (files : List (List ℕ)) (names : List (List ℕ)) (f : FollowedSource)
    → assembly_of flags contents name source ≡ assembled made files → SourceIsMade flags contents name source
    → expansion_of flags (Some contents) name source ≡ ended names f → IsMadeAt flags.scfi f
made_at_end flags contents name source made files names f is so comes =
    subst (StepIsMade flags.scfi) comes (so (source_fits flags contents name source made files is))

-- what the statements place that are handed out makes the object
pub handed_placed : Follows → (flags : Flags) (contents : Contents) (name source : List ℕ) (f : FollowedSource)
    → follow_all (handed_by flags contents name (statements_of main_file source)) (nothing_yet flags) ≡ Ok f
    → place_all (handed_of flags contents name source) (nothing_placed flags.no_warn) ≡ Ok f.placed
unfolding handed_of
handed_placed follows flags contents name source f is = follows (handed_by flags contents name (statements_of main_file source)) (nothing_yet flags) f is

-- and it is made of them
abbrev pub origin_of : ObjectsAreFinished → (flags : Flags) (handed : List TokenStatement) (f : FollowedSource) (made : NotedObject) → place_all handed (nothing_placed flags.no_warn) ≡ Ok f.placed
    → followed_end flags f ≡ Ok made → Origin flags handed made.object
origin_of finished flags handed f made places ends =
    let end = finished flags f made ends in
    record {
      whole = f.placed;
      framed = end.framed_tables;
      tables = end.tables;
      laid = end.laid;
      places = places;
      frames = end.frames;
      lines = end.lines;
      settles = end.settles;
      faultless = end.faultless;
      image = end.image;
    }
