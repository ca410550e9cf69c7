-- What is read and what comes of the list, one stretch of turns behind another.
use Rattle.std.proofs.Common.{◌≡◌, inl, inr, ℕ, ◌+◌, ◌≤◌, List, [], ◌++◌, length-append, append_assoc, Option, Result, Ok, Err, refl, sym, ap, subst, ◌∙◌, arith}
use Rattle.asm_base.specs.Inputs.{Contents}
use Rattle.asm_base.specs.History.{happened, whole_files}
use Rattle.asm_lines.specs.NextStatements.{TokenStatement}
use Rattle.macro_blocks.specs.Levels.{Level}
use Rattle.macro_words.specs.Conditions.{Knowledge}
use Rattle.asm_macro.specs.declared.faults.ExpandFault.{ExpandFault}
use Rattle.asm_macro.specs.declared.faults.ExpandFault.TheVariants.{Lines, Expansion, Placing, Read, NoMemory}
use Rattle.asm_macro.specs.declared.turned.Turned.{Turned}
use Rattle.asm_macro.specs.Expansion as list
use Rattle.asm_macro.specs.Expansion.{State, under, turn}
use Rattle.asm_macro.specs.Placing.{Step, goes, untold, placed_by_turn, steps}
use Rattle.asm_macro.specs.Starts.{StartedFiles, AreFirst, files_of}
use Rattle.asm_macro.specs.Expanding.{Comes, HasExpansionCause, KeepsMissing, TakesTooLarge}
use Rattle.asm_macro.specs.Readings.{InputAs, CountsMissed, HasRead, HasStopped, Uses}
use Rattle.asm_macro.specs.Running.{Runs, RunsFrom, Ends, Expands, Steps}
use Rattle.asm_macro.proofs.Runs.{steps_one, steps_more, after_turns}
use Rattle.asm_macro.proofs.FileFronts.{all_begun, all_front, begun_behind, both_happened, reads_all, reads_behind}
use Rattle.asm_macro.proofs.Turnings.{untold_runs}

-- files that were read behind others
pub read_more : (old middle new : List (List ℕ)) (before at now : InputAs) → HasRead old middle before at → HasRead middle new at now → HasRead old new before now
read_more old middle new before at now one other =
    let count = length-append one.more other.more in
    let first = one.taken in
    let second = other.taken in
    let early = one.later in
    let late = other.later in
    record {
      more = one.more ++ other.more;
      names = other.names ∙ ap (λ names. names ++ other.more) one.names ∙ append_assoc old one.more other.more;
      contents = other.contents ∙ one.contents;
      faults = other.faults ∙ one.faults;
      missing = other.missing ∙ one.missing;
      later = omega (arith, early, late);
      taken = omega (arith, first, second, count);
      history = other.history ∙ ap (λ known. happened known (whole_files other.more)) one.history ∙ both_happened before.history one.more other.more;
      whole = λ ends. other.whole (one.whole ends);
    }

cause_before : {F : Type 0} (fault : ExpandFault F) (before at now : ℕ) → at ≡ before → HasExpansionCause {F = F} (Err fault) at now → HasExpansionCause {F = F} (Err fault) before now
cause_before {F} fault before at now same is = subst (λ n. HasExpansionCause {F = F} (Err fault) n now) same is

too_large_before : {F : Type 0} (fault : ExpandFault F) (before at now : ℕ) → before ≤ at → TakesTooLarge {F = F} (Err fault) at now → TakesTooLarge {F = F} (Err fault) before now
too_large_before (Lines cause) before at now early is = tt
too_large_before (Expansion cause pos) before at now early is = λ e. let more = is e in omega (arith, early, more)
too_large_before (Placing fault) before at now early is = tt
too_large_before Read before at now early is = tt
too_large_before NoMemory before at now early is = tt

stops_more : {F : Type 0} (fault : ExpandFault F) (wanted : StartedFiles) (old middle new : List (List ℕ)) (before at now : InputAs) → HasRead old middle before at → HasStopped fault wanted middle new at now → HasStopped fault wanted old new before now
stops_more {F} fault wanted old middle new before at now one other =
    let early = one.later in
    let late = other.later in
    record {
      more = one.more ++ other.more;
      names = other.names ∙ ap (λ names. names ++ other.more) one.names ∙ append_assoc old one.more other.more;
      contents = other.contents ∙ one.contents;
      cause = cause_before fault before.faults at.faults now.faults one.faults other.cause;
      missing = subst (λ n. CountsMissed wanted n now.missing) one.missing other.missing;
      found = subst (λ n. KeepsMissing {F = F} (Err fault) n now.missing) one.missing other.found;
      later = omega (arith, early, late);
      begun = one.more ++ other.begun;
      started = begun_behind one.more other.more other.begun other.started;
      first = subst (λ front. AreFirst front wanted) (ap (λ names. names ++ other.begun) one.names ∙ append_assoc old one.more other.begun) other.first;
      reads = reads_behind one.more other.begun before.history at.history now.history before.taken at.taken now.taken one.history one.taken other.reads;
      too_large = too_large_before fault before.taken at.taken now.taken early other.too_large;
    }

pub uses_more : {T F : Type 0} (result : Result T (ExpandFault F)) (wanted : StartedFiles) (old middle new : List (List ℕ)) (before at now : InputAs) → HasRead old middle before at → Uses result wanted middle new at now → Uses result wanted old new before now
uses_more (Ok answer) wanted old middle new before at now one other = read_more old middle new before at now one other
uses_more (Err fault) wanted old middle new before at now one other = stops_more fault wanted old middle new before at now one other

-- memory was refused behind files that were read
read_stopped : {F : Type 0} (wanted : StartedFiles) (old new : List (List ℕ)) (before now : InputAs) → AreFirst new wanted → HasRead old new before now → HasStopped {F = F} NoMemory wanted old new before now
read_stopped wanted old new before now first is =
    record {
      more = is.more;
      names = is.names;
      contents = is.contents;
      cause = is.faults;
      missing = inl is.missing;
      found = is.missing;
      later = is.later;
      begun = is.more;
      started = all_begun is.more;
      first = subst (λ front. AreFirst front wanted) is.names first;
      reads = reads_all is.more before.history now.history before.taken now.taken is.history is.taken;
      too_large = tt;
    }

-- nothing is left of the list
ended_turn : (known : Knowledge) (contents : Option Contents) (state : State) → state.levels ≡ [] → turn known contents state ≡ list.ended
unfolding turn
ended_turn known contents state none = rw none refl

module _ {S F : Type 0} (placed : S → TokenStatement → Result S F) (known : S → Knowledge) (contents : Option Contents) (start : State) (first : S) where
  -- what comes of the list behind turns that read files
  pub part_more : (n : ℕ) (now after : State) (placer other : S) (left : Level) (result : Result Turned (ExpandFault F)) (before at used : InputAs)
      → Comes (steps placed known contents n start first) (goes now placer) → HasRead start.files now.files before at
      → RunsFrom placed known contents now placer result left after other at used
      → RunsFrom placed known contents start first result left after other before used
  part_more n now after placer other left result before at used come read later =
      let P : Step S F → Type 0 = λ x. Runs result x left after other start.files before used in
      let whole = λ (x : Step S F) (run : Runs result x left after other now.files at used).
      let made : P x = record { comes = run.comes; uses = uses_more result (files_of x) start.files now.files after.files before at used read run.uses } in made in
      after_turns placed known contents P n start first now placer come (whole untold (untold_runs result _ left after other now.files at used later.1)) (later.0, whole _ later.1)

  -- memory was refused behind them
  files_there : (n : ℕ) (now : State) (placer : S) → Comes (steps placed known contents n start first) (goes now placer) → AreFirst now.files (files_of (steps placed known contents n start first))
  files_there n now placer (inl e) = let P : Step S F → Type 0 = λ x. AreFirst now.files (files_of x) in subst P (sym e) (all_front now.files)
  files_there n now placer (inr e) = let P : Step S F → Type 0 = λ x. AreFirst now.files (files_of x) in subst P (sym e) tt

  pub part_without : (n : ℕ) (now after : State) (placer other : S) (left : Level) (before at : InputAs) → Comes (steps placed known contents n start first) (goes now placer) → HasRead start.files now.files before at
      → after.files ≡ now.files → RunsFrom {F = F} placed known contents start first (Err NoMemory) left after other before at
  part_without n now after placer other left before at come read same =
      let P : List (List ℕ) → Type 0 = λ names. HasStopped {F = F} NoMemory (files_of (steps placed known contents n start first)) start.files names before at in
      (n, record { comes = tt; uses = subst P (sym same) (read_stopped _ start.files now.files before at (files_there n now placer come) read) })

  pub expand_without : (n : ℕ) (now : State) (files : List (List ℕ)) (placer other : S) (before at : InputAs) → Comes (steps placed known contents n start first) (goes now placer) → HasRead start.files now.files before at
      → files ≡ now.files → Expands {F = F} placed known contents start first (Err NoMemory) files other before at
  expand_without n now files placer other before at come read same =
      let P : List (List ℕ) → Type 0 = λ names. HasStopped {F = F} NoMemory (files_of (steps placed known contents n start first)) start.files names before at in
      (n, record { comes = tt; uses = subst P (sym same) (read_stopped _ start.files now.files before at (files_there n now placer come) read) })

  fault_ends : (fault : ExpandFault F) (wanted : Step S F) (level : Level) (now : State) (placer : S) → Steps (Err fault) wanted level now placer → Ends (Err fault) wanted now.files placer
  fault_ends (Lines cause) wanted level now placer is = is
  fault_ends (Expansion cause pos) wanted level now placer is = is
  fault_ends (Placing fault) wanted level now placer is = is
  fault_ends Read wanted level now placer is = tt
  fault_ends NoMemory wanted level now placer is = tt

  pub expand_fails : (fault : ExpandFault F) (left : Level) (after : State) (other : S) (before used : InputAs) → RunsFrom placed known contents start first (Err fault) left after other before used
      → Expands placed known contents start first (Err fault) after.files other before used
  expand_fails fault left after other before used is = (is.0, record { comes = fault_ends fault _ left after other is.1.comes; uses = is.1.uses })

  pub expand_ends : (n : ℕ) (now : State) (placer : S) (before at : InputAs) → Comes (steps placed known contents n start first) (goes now placer) → HasRead start.files now.files before at → now.levels ≡ []
      → Expands {F = F} placed known contents start first (Ok tt) now.files placer before at
  expand_ends n now placer before at come read none =
      elim come [
        | inl e ↦ (n + 1, record { comes = inl (steps_more placed known contents n 1 start first now placer e ∙ steps_one placed known contents now placer ∙ ap (placed_by_turn placed now.files placer) (ended_turn (known placer) contents now none)); uses = read })
        | inr e ↦ (n, record { comes = inr e; uses = read })
      ]
