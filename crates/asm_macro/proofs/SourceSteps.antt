-- The ways in which a source is expanded or refused.
use Rattle.std.proofs.Common.{◌≡◌, inl, inr, ℕ, List, ◌++◌, map, Option, Result, Ok, Err, refl, sym, subst}
use Rattle.asm_base.specs.Inputs.{Contents}
use Rattle.asm_lines.specs.Statements.{StatementAt, statements_of}
use Rattle.asm_lines.specs.NextStatements.{TokenStatement, HasNoLineFault, in_tokens, statements_left}
use Rattle.asm_lines.specs.declared.faults.LineCause.{LineCause}
use Rattle.macro_words.specs.declared.causes.MacroCause.TheVariants.{ExpansionTooLong}
use Rattle.macro_words.specs.Conditions.{Knowledge}
use Rattle.asm_macro.specs.declared.faults.ExpandFault.{ExpandFault}
use Rattle.asm_macro.specs.declared.faults.ExpandFault.TheVariants.{Lines, Expansion, Placing, Read, NoMemory}
use Rattle.asm_macro.specs.Expansion.{started}
use Rattle.asm_macro.specs.Placing.{Step, ended, fails, refused, untold, expansion, most_turns, steps}
use Rattle.asm_macro.specs.Starts.{AreFirst, files_of}
use Rattle.asm_macro.specs.Fronts.{ChecksLines, IsPlaced, LeadsTo, plain, rest_at}
use Rattle.asm_macro.specs.Readings.{InputAs}
use Rattle.asm_macro.specs.Running.{Ends, Expands, Finishes}
use Rattle.asm_macro.specs.Sources.{IsSourceExpanded}
use Rattle.asm_macro.proofs.FileFronts.{all_front}
use Rattle.asm_macro.proofs.FilesGrow.{files_grow, first_stay}
use Rattle.asm_macro.proofs.Measures.{all_end}
use Rattle.asm_macro.proofs.Runs.{after_turns}
use Rattle.asm_macro.proofs.Turnings.{untold_uses}
use Rattle.asm_macro.proofs.Wholes.{read_none, stopped_by, stopped_placing, stopped_without}

untold_ends : {S F : Type 0} (result : Result (Unit {0}) (ExpandFault F)) (wanted : Step S F) (files : List (List ℕ)) (placer : S) → Ends result wanted files placer → Ends result untold files placer
untold_ends (Ok u) wanted files placer is = inr refl
untold_ends (Err (Lines cause)) wanted files placer is = is
untold_ends (Err (Expansion cause pos)) wanted files placer is = inr refl
untold_ends (Err (Placing fault)) wanted files placer is = inr refl
untold_ends (Err Read) wanted files placer is = tt
untold_ends (Err NoMemory) wanted files placer is = tt

module _ {S F : Type 0} (placed : S → TokenStatement → Result S F) (told : S → Knowledge) (contents : Option Contents) (text : List ℕ) (files : List (List ℕ)) (placer : S) where
  -- the source is the first file
  source_starts : (lines : Result (List StatementAt) LineCause) → AreFirst files (files_of (expansion placed told contents files placer lines))
  unfolding expansion
  source_starts (Ok statements) = files_grow placed told contents most_turns (started files (map in_tokens statements)) placer
  source_starts (Err cause) = all_front files

  -- the lines have a fault, or memory was refused
  pub checked_fault : (fault : ExpandFault F) (after : S) (input : InputAs) → ChecksLines text (Err fault) → IsSourceExpanded placed told contents text files placer (Err fault) files after input input
  checked_fault (Lines cause) after input is = (is, refl, refl)
  checked_fault (Expansion cause pos) after input is = absurd is
  checked_fault (Placing fault) after input is = absurd is
  checked_fault Read after input is = absurd is
  checked_fault NoMemory after input is = stopped_without _ files input (source_starts (statements_of 0 text))

  pub checked_source : (result : Result (Unit {0}) (ExpandFault F)) (after : S) (input : InputAs) → (HasNoLineFault 0 text → ⊥) → ChecksLines text result → IsSourceExpanded placed told contents text files placer result files after input input
  checked_source (Ok u) after input never is = absurd (never is)
  checked_source (Err fault) after input never is = checked_fault fault after input is

  pub without_memory : (after : S) (input : InputAs) → IsSourceExpanded placed told contents text files placer (Err NoMemory) files after input input
  without_memory after input = stopped_without _ files input (source_starts (statements_of 0 text))

  -- all statements are placed
  pub source_ends : (n : ℕ) (after : S) (input : InputAs) → HasNoLineFault 0 text → LeadsTo placed told text placer n (λ names. ended names after)
      → IsSourceExpanded placed told contents text files placer (Ok tt) files after input input
  source_ends n after input clean leads =
      record { lines = clean.statements; expands = (n, record { comes = inl (leads contents files); uses = read_none files input }) }

  pub source_long : (n line : ℕ) (after : S) (input : InputAs) → HasNoLineFault 0 text → LeadsTo placed told text placer n (λ names. fails names ExpansionTooLong (record { file = 0; line = line }) after)
      → IsSourceExpanded placed told contents text files placer (Err (Expansion ExpansionTooLong (record { file = 0; line = line }))) files after input input
  source_long n line after input clean leads =
      record { lines = clean.statements; expands = (n, record { comes = inl (leads contents files); uses = stopped_by ExpansionTooLong _ _ files input (files_grow placed told contents n (started files (rest_at text 0)) placer) (λ e. absurd cc) }) }

  pub source_refused : (n : ℕ) (fault : F) (after : S) (input : InputAs) → HasNoLineFault 0 text → LeadsTo placed told text placer n (λ names. refused names fault)
      → IsSourceExpanded placed told contents text files placer (Err (Placing fault)) files after input input
  source_refused n fault after input clean leads =
      record { lines = clean.statements; expands = (n, record { comes = inl (leads contents files); uses = stopped_placing fault _ files input (files_grow placed told contents n (started files (rest_at text 0)) placer) }) }

  -- the first of the files on the way are the first of those of the source
  pub first_at_end : (n : ℕ) (names : List (List ℕ)) → statements_of 0 text ≡ Ok (statements_left 0 text 0) → AreFirst names (files_of (steps placed told contents n (started files (rest_at text 0)) placer))
      → AreFirst names (files_of (expansion placed told contents files placer (statements_of 0 text)))
  unfolding expansion
  first_at_end n names lines is =
      subst (λ these. AreFirst names (files_of (expansion placed told contents files placer these))) (sym lines)
      (first_stay placed told contents names n most_turns (started files (rest_at text 0)) placer is (all_end placed told contents files (rest_at text 0) placer))

  -- the rest behind the front
  rest_expands : (at line given : ℕ) (middle after : S) (result : Result (Unit {0}) (ExpandFault F)) (names : List (List ℕ)) (before now : InputAs) → IsPlaced placed told text placer middle at line given
      → Expands placed told contents (plain files given (rest_at text at)) middle result names after before now → Expands placed told contents (started files (rest_at text 0)) placer result names after before now
  rest_expands at line given middle after result names before now front later =
      let P : Step S F → Type 0 = λ x. Finishes result x names after files before now in
      let free : P untold = record { comes = untold_ends result _ names after later.1.comes; uses = untold_uses _ result files names before now later.1.uses } in
      after_turns placed told contents P given (started files (rest_at text 0)) placer (plain files given (rest_at text at)) middle (inl (front.leads contents files)) free later

  pub source_rest : (at line given : ℕ) (middle after : S) (result : Result (Unit {0}) (ExpandFault F)) (names : List (List ℕ)) (before now : InputAs) → HasNoLineFault 0 text → IsPlaced placed told text placer middle at line given
      → Expands placed told contents (plain files given (rest_at text at)) middle result names after before now → IsSourceExpanded placed told contents text files placer result names after before now
  source_rest at line given middle after (Ok u) names before now clean front later = record { lines = clean.statements; expands = rest_expands at line given middle after (Ok u) names before now front later }
  source_rest at line given middle after (Err (Lines cause)) names before now clean front later = absurd later.1.comes
  source_rest at line given middle after (Err (Expansion cause pos)) names before now clean front later = record { lines = clean.statements; expands = rest_expands at line given middle after (Err (Expansion cause pos)) names before now front later }
  source_rest at line given middle after (Err (Placing fault)) names before now clean front later = record { lines = clean.statements; expands = rest_expands at line given middle after (Err (Placing fault)) names before now front later }
  source_rest at line given middle after (Err Read) names before now clean front later = record { lines = clean.statements; expands = rest_expands at line given middle after (Err Read) names before now front later }
  source_rest at line given middle after (Err NoMemory) names before now clean front later =
      let whole = rest_expands at line given middle after (Err NoMemory) names before now front later in
      let used = whole.1.uses in
      record {
        more = used.more;
        names = used.names;
        contents = used.contents;
        cause = used.cause;
        missing = inl used.found;
        found = used.found;
        later = used.later;
        begun = used.begun;
        started = used.started;
        first = first_at_end whole.0 (files ++ used.begun) clean.statements used.first;
        reads = used.reads;
        too_large = tt;
      }
