-- What comes of a source, by its definition.
use Rattle.std.proofs.Common.{◌≡◌, inl, inr, ℕ, ◌+◌, ◌*◌, ◌<◌, ◌≤◌, true, List, [], ◌∷◌, ◌++◌, length, length-append, drop, Option, Result, Ok, Err, OnOk, refl, sym, ap, subst, ◌∙◌, arith, append-nil}
use Rattle.std.specs.Io.KnownBytes.{IsAtEnd}
use Rattle.asm_base.specs.Inputs.{Contents}
use Rattle.asm_base.specs.History.{happened, whole_files}
use Rattle.asm_lines.specs.Statements.{statements_of}
use Rattle.asm_lines.specs.declared.faults.LineCause.{LineCause}
use Rattle.asm_lines.specs.NextStatements.{TokenStatement, statements_left}
use Rattle.macro_words.specs.Conditions.{Knowledge}
use Rattle.asm_macro.specs.declared.faults.ExpandFault.{ExpandFault}
use Rattle.asm_macro.specs.declared.faults.ExpandFault.TheVariants.{Lines, Expansion, Placing, Read, NoMemory}
use Rattle.asm_macro.specs.Expansion.{started}
use Rattle.asm_macro.specs.Placing.{Step, goes, ended, fails, refused, misses, untold, steps, expansion, most_turns}
use Rattle.asm_macro.specs.Starts.{StartedFiles, lacking, unknown, AreBegun, AreFirst, ReadsFront, files_of}
use Rattle.asm_macro.specs.Laws.{is_final}
use Rattle.asm_base.specs.WholeFile.{most_bytes}
use Rattle.asm_macro.specs.Expanding.{Comes, IsExpansion, HasExpansionCause, CountsMisses, KeepsMissing, ReadsIncludes, StartsIncludes, TakesIncludes, TakesTooLarge}
use Rattle.asm_macro.specs.Fronts.{rest_at}
use Rattle.asm_macro.specs.Readings.{InputAs, CountsMissed, HasRead, HasStopped}
use Rattle.asm_macro.specs.Sources.{IsSourceExpanded}
use Rattle.asm_macro.proofs.FileFronts.{all_begun, all_front, begun_behind, reads_all, reads_none}
use Rattle.asm_macro.proofs.SourceSteps.{first_at_end}
use Rattle.asm_macro.proofs.Measures.{all_end}
use Rattle.asm_macro.proofs.Turns.{one_result}

-- behind one name
behind_one : (names more : List (List ℕ)) → length names ≡ 1 → drop 1 (names ++ more) ≡ more
behind_one [] more one = absurd (omega (arith, one))
behind_one (name ∷ []) more one = refl
behind_one (name ∷ next ∷ rest) more one = absurd (omega (arith, one))

-- what came of a list whose files are these
lacks_one : {S F : Type 0} (it : Step S F) (files : List (List ℕ)) → files_of it ≡ lacking files → it ≡ misses files
lacks_one (goes state placer) files is = absurd cc
lacks_one (ended names placer) files is = absurd cc
lacks_one (fails names cause pos placer) files is = absurd cc
lacks_one (refused names fault) files is = absurd cc
lacks_one (misses names) files is = let same : names ≡ files = cc in ap misses same
lacks_one untold files is = absurd cc

not_known : {S F : Type 0} (it : Step S F) → files_of it ≡ unknown → it ≡ untold
not_known (goes state placer) is = absurd cc
not_known (ended names placer) is = absurd cc
not_known (fails names cause pos placer) is = absurd cc
not_known (refused names fault) is = absurd cc
not_known (misses names) is = absurd cc
not_known untold is = refl

ended_first : {S F : Type 0} (it : Step S F) (names : List (List ℕ)) (placer : S) → Comes it (ended names placer) → AreFirst names (files_of it)
ended_first {S} {F} it names placer (inl e) = let P : Step S F → Type 0 = λ x. AreFirst names (files_of x) in subst P (sym e) (all_front names)
ended_first {S} {F} it names placer (inr e) = let P : Step S F → Type 0 = λ x. AreFirst names (files_of x) in subst P (sym e) tt

module _ {S F : Type 0} (placed : S → TokenStatement → Result S F) (told : S → Knowledge) (contents : Option Contents) (text : List ℕ) (files : List (List ℕ)) (placer : S) where
  abbrev whole : Step S F
  whole = expansion placed told contents files placer (statements_of 0 text)

  -- a final outcome of the list is that of the source
  outcome_of : (n : ℕ) (got : Step S F) → statements_of 0 text ≡ Ok (statements_left 0 text 0) → is_final got ≡ true → steps placed told contents n (started files (rest_at text 0)) placer ≡ got → whole ≡ got
  unfolding expansion
  outcome_of n got lines final is =
      ap (λ these. expansion placed told contents files placer these) lines
      ∙ one_result placed told contents most_turns n (started files (rest_at text 0)) placer (all_end placed told contents files (rest_at text 0) placer) (ap is_final is ∙ final) ∙ is

  comes_of : (n : ℕ) (got : Step S F) → statements_of 0 text ≡ Ok (statements_left 0 text 0) → is_final got ≡ true → Comes (steps placed told contents n (started files (rest_at text 0)) placer) got → Comes whole got
  comes_of n got lines final (inl is) = inl (outcome_of n got lines final is)
  comes_of n got lines final (inr is) = inr (outcome_of n untold lines refl is)

  pub outcome_clause : (result : Result (Unit {0}) (ExpandFault F)) (names : List (List ℕ)) (after : S) (before now : InputAs) → IsSourceExpanded placed told contents text files placer result names after before now
      → IsExpansion whole (statements_of 0 text) result names after
  outcome_clause (Ok u) names after before now is = comes_of is.expands.0 (ended names after) is.lines refl is.expands.1.comes
  outcome_clause (Err (Lines cause)) names after before now is = is.0
  outcome_clause (Err (Expansion cause pos)) names after before now is = comes_of is.expands.0 (fails names cause pos after) is.lines refl is.expands.1.comes
  outcome_clause (Err (Placing fault)) names after before now is = comes_of is.expands.0 (refused names fault) is.lines refl is.expands.1.comes
  outcome_clause (Err Read) names after before now is = tt
  outcome_clause (Err NoMemory) names after before now is = tt

  misses_of : (n : ℕ) (before now : ℕ) → statements_of 0 text ≡ Ok (statements_left 0 text 0)
      → CountsMissed (files_of (steps placed told contents n (started files (rest_at text 0)) placer)) before now → CountsMisses whole before now
  misses_of n before now lines (inl same) = inl same
  misses_of n before now lines (inr (inl met)) = inr (inl ((met.0.0, outcome_of n (misses met.0.0) lines refl (lacks_one _ met.0.0 met.0.1)), met.1, met.2))
  misses_of n before now lines (inr (inr met)) = inr (inr (outcome_of n untold lines refl (not_known _ met.0), met.1))

  pub missing_clause : (result : Result (Unit {0}) (ExpandFault F)) (names : List (List ℕ)) (after : S) (before now : InputAs) → IsSourceExpanded placed told contents text files placer result names after before now
      → CountsMisses whole before.missing now.missing
  missing_clause (Ok u) names after before now is = inl is.expands.1.uses.missing
  missing_clause (Err (Lines cause)) names after before now is = inl (ap (λ i. i.missing) is.2)
  missing_clause (Err (Expansion cause pos)) names after before now is = misses_of is.expands.0 before.missing now.missing is.lines is.expands.1.uses.missing
  missing_clause (Err (Placing fault)) names after before now is = misses_of is.expands.0 before.missing now.missing is.lines is.expands.1.uses.missing
  missing_clause (Err Read) names after before now is = misses_of is.expands.0 before.missing now.missing is.lines is.expands.1.uses.missing
  missing_clause (Err NoMemory) names after before now is = inl is.found

  pub cause_clause : (result : Result (Unit {0}) (ExpandFault F)) (names : List (List ℕ)) (after : S) (before now : InputAs) → IsSourceExpanded placed told contents text files placer result names after before now
      → HasExpansionCause result before.faults now.faults
  cause_clause (Ok u) names after before now is = is.expands.1.uses.faults
  cause_clause (Err (Lines cause)) names after before now is = ap (λ i. i.faults) is.2
  cause_clause (Err (Expansion cause pos)) names after before now is = is.expands.1.uses.cause
  cause_clause (Err (Placing fault)) names after before now is = is.expands.1.uses.cause
  cause_clause (Err Read) names after before now is = is.expands.1.uses.cause
  cause_clause (Err NoMemory) names after before now is = is.cause

  pub found_clause : (result : Result (Unit {0}) (ExpandFault F)) (names : List (List ℕ)) (after : S) (before now : InputAs) → IsSourceExpanded placed told contents text files placer result names after before now
      → KeepsMissing result before.missing now.missing
  found_clause (Ok u) names after before now is = is.expands.1.uses.missing
  found_clause (Err (Lines cause)) names after before now is = ap (λ i. i.missing) is.2
  found_clause (Err (Expansion cause pos)) names after before now is = is.expands.1.uses.found
  found_clause (Err (Placing fault)) names after before now is = is.expands.1.uses.found
  found_clause (Err Read) names after before now is = tt
  found_clause (Err NoMemory) names after before now is = is.found

  pub contents_clause : (result : Result (Unit {0}) (ExpandFault F)) (names : List (List ℕ)) (after : S) (before now : InputAs) → IsSourceExpanded placed told contents text files placer result names after before now
      → now.contents ≡ before.contents
  contents_clause (Ok u) names after before now is = is.expands.1.uses.contents
  contents_clause (Err (Lines cause)) names after before now is = ap (λ i. i.contents) is.2
  contents_clause (Err (Expansion cause pos)) names after before now is = is.expands.1.uses.contents
  contents_clause (Err (Placing fault)) names after before now is = is.expands.1.uses.contents
  contents_clause (Err Read) names after before now is = is.expands.1.uses.contents
  contents_clause (Err NoMemory) names after before now is = is.contents

  pub history_clause : (result : Result (Unit {0}) (ExpandFault F)) (names : List (List ℕ)) (after : S) (before now : InputAs) → length files ≡ 1 → IsSourceExpanded placed told contents text files placer result names after before now
      → ReadsIncludes result 1 names before.history now.history
  history_clause (Ok u) names after before now one is =
      let used = is.expands.1.uses in
      let same : drop 1 names ≡ used.more = ap (drop 1) used.names ∙ behind_one files used.more one in
      used.history ∙ ap (λ more. happened before.history (whole_files more)) (sym same)
  history_clause (Err fault) names after before now one is = tt

  -- how many names there are
  counted : (names more : List (List ℕ)) → length files ≡ 1 → names ≡ files ++ more → length names ≡ 1 + length more
  counted names more one is = ap length is ∙ length-append files more ∙ ap (λ n. n + length more) one

  taken_read : (names : List (List ℕ)) (before now : InputAs) → length files ≡ 1 → HasRead files names before now → TakesIncludes {F = F} (Ok tt) names before.taken now.taken
  taken_read names before now one is =
      let same : length (drop 1 names) ≡ length is.more = ap length (ap (drop 1) is.names ∙ behind_one files is.more one) in
      let most = is.taken in
      (is.later, omega (arith, same, most))

  -- so many bytes were read where expansion stopped
  abbrev TakesAll : List (List ℕ) → InputAs → InputAs → Type 0
  TakesAll names before now = (before.taken ≤ now.taken) × (now.taken ≤ before.taken + (most_bytes + 1) * length names)

  taken_stopped : (fault : ExpandFault F) (wanted : StartedFiles) (names : List (List ℕ)) (before now : InputAs) → length files ≡ 1 → HasStopped fault wanted files names before now → TakesAll names before now
  taken_stopped fault wanted names before now one is =
      let count = counted names is.more one is.names in
      let few = is.started.1 in
      let most = is.reads.at_most in
      let room : length is.begun ≤ length names = omega (arith, count, few) in
      (is.later, omega (arith, most, room))

  pub taken_clause : (result : Result (Unit {0}) (ExpandFault F)) (names : List (List ℕ)) (after : S) (before now : InputAs) → length files ≡ 1 → IsSourceExpanded placed told contents text files placer result names after before now
      → TakesIncludes result names before.taken now.taken
  taken_clause (Ok u) names after before now one is = taken_read names before now one is.expands.1.uses
  taken_clause (Err (Lines cause)) names after before now one is = ap (λ i. i.taken) is.2
  taken_clause (Err (Expansion cause pos)) names after before now one is = taken_stopped (Expansion cause pos) _ names before now one is.expands.1.uses
  taken_clause (Err (Placing fault)) names after before now one is = taken_stopped (Placing fault) _ names before now one is.expands.1.uses
  taken_clause (Err Read) names after before now one is = taken_stopped Read _ names before now one is.expands.1.uses
  taken_clause (Err NoMemory) names after before now one is = taken_stopped NoMemory _ names before now one is

  starts_read : (n : ℕ) (names : List (List ℕ)) (after : S) (before now : InputAs) → length files ≡ 1 → statements_of 0 text ≡ Ok (statements_left 0 text 0)
      → Comes (steps placed told contents n (started files (rest_at text 0)) placer) (ended names after) → HasRead files names before now
      → StartsIncludes whole 1 names before.history now.history before.taken now.taken
  starts_read n names after before now one lines come is =
      let these : names ≡ files ++ is.more = is.names in
      let behind : is.more ≡ drop 1 names = sym (ap (drop 1) these ∙ behind_one files is.more one) in
      record {
        begun = names;
        names = all_begun names;
        first = first_at_end placed told contents text files placer n names lines (ended_first _ names after come);
        reads = subst (λ more. ReadsFront more before.history now.history before.taken now.taken) behind
            (reads_all is.more before.history now.history before.taken now.taken is.history is.taken);
      }

  starts_stopped : (fault : ExpandFault F) (names : List (List ℕ)) (before now : InputAs) → length files ≡ 1 → HasStopped fault (files_of whole) files names before now
      → StartsIncludes whole 1 names before.history now.history before.taken now.taken
  starts_stopped fault names before now one is =
      record {
        begun = files ++ is.begun;
        names = subst (λ these. AreBegun these (files ++ is.begun)) (sym is.names) (begun_behind files is.more is.begun is.started);
        first = is.first;
        reads = subst (λ more. ReadsFront more before.history now.history before.taken now.taken) (sym (behind_one files is.begun one)) is.reads;
      }

  starts_on_way : (fault : ExpandFault F) (n : ℕ) (names : List (List ℕ)) (before now : InputAs) → length files ≡ 1 → statements_of 0 text ≡ Ok (statements_left 0 text 0)
      → HasStopped fault (files_of (steps placed told contents n (started files (rest_at text 0)) placer)) files names before now
      → StartsIncludes whole 1 names before.history now.history before.taken now.taken
  starts_on_way fault n names before now one lines is =
      record {
        begun = files ++ is.begun;
        names = subst (λ these. AreBegun these (files ++ is.begun)) (sym is.names) (begun_behind files is.more is.begun is.started);
        first = first_at_end placed told contents text files placer n (files ++ is.begun) lines is.first;
        reads = subst (λ more. ReadsFront more before.history now.history before.taken now.taken) (sym (behind_one files is.begun one)) is.reads;
      }

  lines_start : (cause : LineCause) → statements_of 0 text ≡ Err cause → AreFirst files (files_of whole)
  unfolding expansion
  lines_start cause is = subst (λ lines. AreFirst files (files_of (expansion placed told contents files placer lines))) (sym is) (all_front files)

  starts_none : (names : List (List ℕ)) (before now : InputAs) → length files ≡ 1 → AreFirst files (files_of whole) → names ≡ files → now ≡ before
      → StartsIncludes whole 1 names before.history now.history before.taken now.taken
  starts_none names before now one first same kept =
      let none : [] ≡ drop 1 files = sym (ap (drop 1) (sym (append-nil files)) ∙ behind_one files [] one) in
      subst (λ input. StartsIncludes whole 1 names before.history input.history before.taken input.taken) (sym kept)
      (record {
        begun = files;
        names = subst (λ these. AreBegun these files) (sym same) (all_begun files);
        first = first;
        reads = subst (λ more. ReadsFront more before.history before.history before.taken before.taken) none (reads_none before.history before.taken);
      })

  pub starts_clause : (result : Result (Unit {0}) (ExpandFault F)) (names : List (List ℕ)) (after : S) (before now : InputAs) → length files ≡ 1 → IsSourceExpanded placed told contents text files placer result names after before now
      → StartsIncludes whole 1 names before.history now.history before.taken now.taken
  starts_clause (Ok u) names after before now one is = starts_read is.expands.0 names after before now one is.lines is.expands.1.comes is.expands.1.uses
  starts_clause (Err (Lines cause)) names after before now one is = starts_none names before now one (lines_start cause is.0) is.1 is.2
  starts_clause (Err (Expansion cause pos)) names after before now one is = starts_on_way (Expansion cause pos) is.expands.0 names before now one is.lines is.expands.1.uses
  starts_clause (Err (Placing fault)) names after before now one is = starts_on_way (Placing fault) is.expands.0 names before now one is.lines is.expands.1.uses
  starts_clause (Err Read) names after before now one is = starts_on_way Read is.expands.0 names before now one is.lines is.expands.1.uses
  starts_clause (Err NoMemory) names after before now one is = starts_stopped NoMemory names before now one is

  pub too_large_clause : (result : Result (Unit {0}) (ExpandFault F)) (names : List (List ℕ)) (after : S) (before now : InputAs) → IsSourceExpanded placed told contents text files placer result names after before now
      → TakesTooLarge result before.taken now.taken
  too_large_clause (Ok u) names after before now is = tt
  too_large_clause (Err (Lines cause)) names after before now is = tt
  too_large_clause (Err (Expansion cause pos)) names after before now is = is.expands.1.uses.too_large
  too_large_clause (Err (Placing fault)) names after before now is = tt
  too_large_clause (Err Read) names after before now is = tt
  too_large_clause (Err NoMemory) names after before now is = tt

  pub whole_clause : (result : Result (Unit {0}) (ExpandFault F)) (names : List (List ℕ)) (after : S) (before now : InputAs) → IsSourceExpanded placed told contents text files placer result names after before now
      → IsAtEnd before.rest → OnOk result (IsAtEnd now.rest)
  whole_clause (Ok u) names after before now is ends = is.expands.1.uses.whole ends
  whole_clause (Err fault) names after before now is ends = tt

  some_names : (names more : List (List ℕ)) → length files ≡ 1 → names ≡ files ++ more → 0 < length names
  some_names names more one is = let count = counted names more one is in omega (arith, count)

  pub started_clause : (result : Result (Unit {0}) (ExpandFault F)) (names : List (List ℕ)) (after : S) (before now : InputAs) → length files ≡ 1 → IsSourceExpanded placed told contents text files placer result names after before now
      → 0 < length names
  started_clause (Ok u) names after before now one is = some_names names is.expands.1.uses.more one is.expands.1.uses.names
  started_clause (Err (Lines cause)) names after before now one is = let same = ap length is.1 in omega (arith, same, one)
  started_clause (Err (Expansion cause pos)) names after before now one is = some_names names is.expands.1.uses.more one is.expands.1.uses.names
  started_clause (Err (Placing fault)) names after before now one is = some_names names is.expands.1.uses.more one is.expands.1.uses.names
  started_clause (Err Read) names after before now one is = some_names names is.expands.1.uses.more one is.expands.1.uses.names
  started_clause (Err NoMemory) names after before now one is = some_names names is.more one is.names
