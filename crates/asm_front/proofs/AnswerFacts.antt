-- What an answer says beside its assembly: what was read, and which faults say that a file is too large.
use Rattle.std.proofs.Common.{◌≡◌, ℕ, ◌+◌, ◌*◌, ◌<◌, ◌≤◌, Bool, true, false, IsTrue, List, [], drop, length, length-drop, Result, Ok, Err, refl, sym, ap, ◌∙◌, subst, string_bytes, arith}
use Rattle.asm_base.specs.WholeFile.{most_bytes}
use Rattle.asm_base.specs.declared.faults.Fault.{Fault}
use Rattle.asm_base.specs.declared.notes.Noted.{Noted}
use Rattle.asm_base.specs.declared.positions.Pos.{Pos}
use Rattle.asm_lines.specs.declared.faults.LineCause.{LineCause}
use Rattle.asm_lines.specs.declared.faults.LineCause.TheVariants as line
use Rattle.macro_words.specs.declared.causes.MacroCause.{MacroCause}
use Rattle.macro_words.specs.declared.causes.MacroCause.TheVariants as macros
use Rattle.asm_macro.specs.Expanding.{HasExpansionCause, KeepsMissing, TakesIncludes, TakesTooLarge}
use Rattle.asm_macro.specs.declared.faults.ExpandFault.{ExpandFault}
use Rattle.asm_macro.specs.declared.faults.ExpandFault.TheVariants as expand
use Rattle.asm_place.specs.Faults.{is_too_large, is_file_too_large}
use Rattle.asm_place.specs.Sources.{fault_at}
use Rattle.asm_place.specs.declared.place_faults.FaultAt.{FaultAt}
use Rattle.asm_functions.specs.FollowedSource.{FollowedSource}
use Rattle.source_ends.specs.Ending.{Flags, followed_end}
use Rattle.source_ends.specs.declared.ending.NotedObject.{NotedObject}
use Rattle.asm_front.specs.Assembly.{assembled, faulty, macro_fault, shown_files, ended_by}
use Rattle.asm_front.specs.Sources.{file}
use Rattle.asm_front.specs.Answering.{AnswersSmall, AnswersSource, IsAnswered, IsAnswer, line_answer}
use Rattle.source_ends.specs.Synthesis.{Synthesis}
use Rattle.asm_front.specs.Outcome.{HasAssemblyCause, KeepsCount, TakesSource, TakesText, flags_asked}
use Rattle.asm_front.specs.declared.answers.Asked.{Asked}
use Rattle.asm_front.specs.declared.answers.Assembled.{Assembled}
use Rattle.asm_front.specs.declared.answers.AsmFault.{AsmFault}
use Rattle.asm_front.specs.declared.answers.AsmFault.TheVariants.{Source, Read, NoMemory}

module _ (flags : Flags) (name : List ℕ) (files : List (List ℕ)) (placed : FollowedSource) where
  -- an object comes only where expansion came to its end
  object_by : (answer : Result NotedObject FaultAt) (noted : NotedObject) (shown : List (List ℕ)) → ended_by (shown_files name files) answer ≡ assembled noted shown → shown ≡ shown_files name files
  object_by (Ok made) noted shown is = cc
  object_by (Err fault) noted shown is = absurd cc

  text_ended : (expanded : Result (Unit {0}) (ExpandFault FaultAt)) (made : Assembled) → IsAnswer flags name files placed expanded (Ok made)
      → (expanded ≡ Ok tt) × (made.files ≡ shown_files name files)
  text_ended (Ok u) made so = (refl, object_by (followed_end flags placed) _ made.files so)
  text_ended (Err (expand.Lines cause)) made so = absurd cc
  text_ended (Err (expand.Expansion cause pos)) made so = absurd cc
  text_ended (Err (expand.Placing fault)) made so = absurd cc
  text_ended (Err expand.Read) made so = absurd cc
  text_ended (Err expand.NoMemory) made so = absurd cc

  -- so many bytes were read of them
  taken_by : (shown : List (List ℕ)) (before now : ℕ) → shown ≡ shown_files name files → 0 < length files → (before ≤ now) × (now ≤ before + (most_bytes + 1) * length files)
      → (before ≤ now) × (now ≤ before + (most_bytes + 1) * length shown)
  taken_by shown before now is some takes =
      let count : length shown ≡ length files = ap length is ∙ omega (arith, length-drop 1 files) in
      (takes.0, subst (λ n. now ≤ before + (most_bytes + 1) * n) (sym count) takes.1)

  -- the end of a source has a fault with all files
  fault_by : (answer : Result NotedObject FaultAt) (fault : FaultAt) (shown : List (List ℕ)) → ended_by (shown_files name files) answer ≡ faulty fault shown → shown ≡ shown_files name files
  fault_by (Ok made) fault shown is = absurd cc
  fault_by (Err first) fault shown is = cc

  text_fault_taken : (expanded : Result (Unit {0}) (ExpandFault FaultAt)) (fault : Fault) (pos : Pos) (notes : List Noted) (shown : List (List ℕ)) (before now : ℕ)
      → IsAnswer flags name files placed expanded (Err (Source fault pos notes shown)) → TakesIncludes expanded files before now → 0 < length files
      → (before ≤ now) × (now ≤ before + (most_bytes + 1) * length shown)
  text_fault_taken (Ok u) fault pos notes shown before now so takes some =
      let same = fault_by (followed_end flags placed) _ shown so in
      let count : length shown ≡ length (drop 1 files) + 1 = ap length same ∙ omega arith in
      (takes.0, omega (arith, takes.1, count))
  text_fault_taken (Err (expand.Lines cause)) fault pos notes shown before now so takes some = (omega (arith, takes), omega (arith, takes))
  text_fault_taken (Err (expand.Expansion cause at)) fault pos notes shown before now so takes some =
      let same : shown ≡ shown_files name files = cc in taken_by shown before now same some takes
  text_fault_taken (Err (expand.Placing at)) fault pos notes shown before now so takes some =
      let same : shown ≡ shown_files name files = cc in taken_by shown before now same some takes
  text_fault_taken (Err expand.Read) fault pos notes shown before now so takes some = absurd cc
  text_fault_taken (Err expand.NoMemory) fault pos notes shown before now so takes some = absurd cc

  later : (expanded : Result (Unit {0}) (ExpandFault FaultAt)) (before now : ℕ) → TakesIncludes expanded files before now → before ≤ now
  later (Ok u) before now takes = takes.0
  later (Err (expand.Lines cause)) before now takes = omega (arith, takes)
  later (Err (expand.Expansion cause at)) before now takes = takes.0
  later (Err (expand.Placing at)) before now takes = takes.0
  later (Err expand.Read) before now takes = takes.0
  later (Err expand.NoMemory) before now takes = takes.0

  pub text_taken : (expanded : Result (Unit {0}) (ExpandFault FaultAt)) (result : Result Assembled AsmFault) (before now : ℕ) → IsAnswer flags name files placed expanded result
      → TakesIncludes expanded files before now → 0 < length files → TakesText result before now
  text_taken expanded (Err (Source fault pos notes shown)) before now so takes some = text_fault_taken expanded fault pos notes shown before now so takes some
  text_taken expanded (Err Read) before now so takes some = later expanded before now takes
  text_taken expanded (Err NoMemory) before now so takes some = later expanded before now takes
  text_taken expanded (Ok made) before now so takes some =
      let ends = text_ended expanded made so in
      let all : (before ≤ now) × (now ≤ before + (most_bytes + 1) * length (drop 1 files)) = subst (λ e. TakesIncludes e files before now) ends.0 takes in
      let same : length (drop 1 made.files) ≡ length (drop 1 files) = ap (λ them. length (drop 1 them)) ends.1 in
      (all.0, subst (λ n. now ≤ before + (most_bytes + 1) * n) (sym same) all.1)

-- FILES THAT ARE TOO LARGE

-- a fault of expansion that says that a file is too large
large_cause : (cause : MacroCause) → IsTrue (is_too_large (macro_fault cause)) → cause ≡ macros.FileTooLarge
large_cause macros.NulByte large = absurd cc
large_cause macros.UnclosedString large = absurd cc
large_cause macros.UnclosedComment large = absurd cc
large_cause macros.StatementTooLong large = absurd cc
large_cause macros.FileTooLarge large = refl
large_cause macros.BadExpression large = absurd cc
large_cause macros.NumberTooWide large = absurd cc
large_cause macros.ExpressionTooDeep large = absurd cc
large_cause macros.DivisionByZero large = absurd cc
large_cause macros.ValueNotKnown large = absurd cc
large_cause macros.NotASumOfSymbols large = absurd cc
large_cause macros.BadMacroLine large = absurd cc
large_cause macros.MissingArgument large = absurd cc
large_cause macros.UnclosedBlock large = absurd cc
large_cause macros.EndWithoutBeginning large = absurd cc
large_cause macros.NestedTooDeeply large = absurd cc
large_cause macros.ExpansionTooLong large = absurd cc
large_cause macros.MacroAlreadyDefined large = absurd cc
large_cause macros.BadFileName large = absurd cc

-- what is not large is nothing that was read
never_large : {C : Type 0} (large : Bool) → large ≡ false → IsTrue large → C
never_large true is large = absurd cc
never_large false is large = absurd cc

-- the end of a source is no reading of a file
abbrev pub NoReading : Type 0
NoReading = (flags : Flags) (f : FollowedSource) (fault : FaultAt) → followed_end flags f ≡ Err fault → is_file_too_large fault.fault ≡ false

ended_fault : (shown : List (List ℕ)) (answer : Result NotedObject FaultAt) (fault : FaultAt) (files : List (List ℕ)) → ended_by shown answer ≡ faulty fault files → answer ≡ Err fault
ended_fault shown (Ok made) fault files is = absurd cc
ended_fault shown (Err at) fault files is = cc

same_fault : (at other : FaultAt) (shown files : List (List ℕ)) → faulty at shown ≡ faulty other files → other.fault ≡ at.fault
same_fault at other shown files is = cc

module _ (apart : NoReading) (flags : Flags) (name : List ℕ) (files : List (List ℕ)) (placed : FollowedSource) where
  pub text_large : (expanded : Result (Unit {0}) (ExpandFault FaultAt)) (result : Result Assembled AsmFault) (before now : ℕ) → IsAnswer flags name files placed expanded result
      → AnswersSmall expanded result → TakesTooLarge expanded before now → TakesSource (file name) result before now
  text_large expanded (Ok made) before now so small takes = tt
  text_large expanded (Err Read) before now so small takes = tt
  text_large expanded (Err NoMemory) before now so small takes = tt
  text_large (Ok u) (Err (Source fault pos notes names)) before now so small takes =
      never_large (is_file_too_large fault) (apart flags placed (fault_at fault pos notes)
      (ended_fault (shown_files name files) (followed_end flags placed) (fault_at fault pos notes) names so))
  text_large (Err (expand.Lines (line.NulByte n))) (Err (Source fault pos notes names)) before now so small takes = never_large (is_file_too_large fault) (ap is_file_too_large (same_fault _ (fault_at fault pos notes) _ names so))
  text_large (Err (expand.Lines (line.UnclosedString n))) (Err (Source fault pos notes names)) before now so small takes = never_large (is_file_too_large fault) (ap is_file_too_large (same_fault _ (fault_at fault pos notes) _ names so))
  text_large (Err (expand.Lines (line.UnclosedComment n))) (Err (Source fault pos notes names)) before now so small takes = never_large (is_file_too_large fault) (ap is_file_too_large (same_fault _ (fault_at fault pos notes) _ names so))
  text_large (Err (expand.Lines (line.StatementTooLong n))) (Err (Source fault pos notes names)) before now so small takes = never_large (is_file_too_large fault) (ap is_file_too_large (same_fault _ (fault_at fault pos notes) _ names so))
  text_large (Err (expand.Expansion cause at)) (Err (Source fault pos notes names)) before now so small takes =
      λ large. takes (large_cause cause (subst (λ f. IsTrue (is_file_too_large f)) (same_fault _ (fault_at fault pos notes) _ names so) large))
  text_large (Err (expand.Placing at)) (Err (Source fault pos notes names)) before now so small takes = never_large (is_file_too_large fault) small
  text_large (Err expand.Read) (Err (Source fault pos notes names)) before now so small takes = absurd cc
  text_large (Err expand.NoMemory) (Err (Source fault pos notes names)) before now so small takes = absurd cc

-- THE SAME WITH WHAT SYNTHESIS COMES TO

-- with one outcome of synthesis at least it is the answer
some_answer : (asked : Asked) (files : List (List ℕ)) (f : FollowedSource) (expanded : Result (Unit {0}) (ExpandFault FaultAt)) (result : Result Assembled AsmFault)
    → AnswersSource asked files f expanded result → (made : Synthesis) × IsAnswer (flags_asked asked made) (string_bytes asked.file) files f expanded result
some_answer asked files f expanded (Ok answer) is = (is.0, is.2.answer)
some_answer asked files f expanded (Err (Source fault pos notes names)) is = (is.0, is.2.answer)
some_answer asked files f expanded (Err Read) is = (Ok [], (is (Ok [])).answer)
some_answer asked files f expanded (Err NoMemory) is = (Ok [], (is (Ok [])).answer)

-- so many bytes were read
pub source_taken : (asked : Asked) (files : List (List ℕ)) (f : FollowedSource) (expanded : Result (Unit {0}) (ExpandFault FaultAt)) (result : Result Assembled AsmFault) (before now : ℕ)
    → AnswersSource asked files f expanded result → TakesIncludes expanded files before now → 0 < length files → TakesText result before now
source_taken asked files f expanded result before now is takes some =
    let one = some_answer asked files f expanded result is in
    text_taken (flags_asked asked one.0) (string_bytes asked.file) files f expanded result before now one.1 takes some

-- and a file is called too large where more than the most was
pub source_large : NoReading → (asked : Asked) (files : List (List ℕ)) (f : FollowedSource) (expanded : Result (Unit {0}) (ExpandFault FaultAt)) (result : Result Assembled AsmFault) (before now : ℕ)
    → AnswersSource asked files f expanded result → AnswersSmall expanded result → TakesTooLarge expanded before now → TakesSource (file (string_bytes asked.file)) result before now
source_large apart asked files f expanded result before now is small takes =
    let one = some_answer asked files f expanded result is in
    text_large apart (flags_asked asked one.0) (string_bytes asked.file) files f expanded result before now one.1 small takes

cause_by : (flags : Flags) (name : List ℕ) (files : List (List ℕ)) (f : FollowedSource) (expanded : Result (Unit {0}) (ExpandFault FaultAt)) (result : Result Assembled AsmFault) (before now : ℕ)
    → IsAnswer flags name files f expanded result → HasExpansionCause expanded before now → HasAssemblyCause result before now
cause_by flags name files f (Err expand.Read) result before now so cause = subst (λ r. HasAssemblyCause r before now) (sym so) cause
cause_by flags name files f (Ok u) (Ok made) before now so cause = cause
cause_by flags name files f (Ok u) (Err (Source fault pos notes names)) before now so cause = cause
cause_by flags name files f (Ok u) (Err Read) before now so cause = absurd so
cause_by flags name files f (Ok u) (Err NoMemory) before now so cause = cause
cause_by flags name files f (Err (expand.Lines of)) (Ok made) before now so cause = cause
cause_by flags name files f (Err (expand.Lines of)) (Err (Source fault pos notes names)) before now so cause = cause
cause_by flags name files f (Err (expand.Lines of)) (Err Read) before now so cause = absurd so
cause_by flags name files f (Err (expand.Lines of)) (Err NoMemory) before now so cause = cause
cause_by flags name files f (Err (expand.Expansion of at)) (Ok made) before now so cause = cause
cause_by flags name files f (Err (expand.Expansion of at)) (Err (Source fault pos notes names)) before now so cause = cause
cause_by flags name files f (Err (expand.Expansion of at)) (Err Read) before now so cause = absurd so
cause_by flags name files f (Err (expand.Expansion of at)) (Err NoMemory) before now so cause = cause
cause_by flags name files f (Err (expand.Placing at)) (Ok made) before now so cause = cause
cause_by flags name files f (Err (expand.Placing at)) (Err (Source fault pos notes names)) before now so cause = cause
cause_by flags name files f (Err (expand.Placing at)) (Err Read) before now so cause = absurd so
cause_by flags name files f (Err (expand.Placing at)) (Err NoMemory) before now so cause = cause
cause_by flags name files f (Err expand.NoMemory) (Ok made) before now so cause = cause
cause_by flags name files f (Err expand.NoMemory) (Err (Source fault pos notes names)) before now so cause = cause
cause_by flags name files f (Err expand.NoMemory) (Err Read) before now so cause = absurd so
cause_by flags name files f (Err expand.NoMemory) (Err NoMemory) before now so cause = cause

-- the input failed where expansion found it so
pub source_cause : (asked : Asked) (files : List (List ℕ)) (f : FollowedSource) (expanded : Result (Unit {0}) (ExpandFault FaultAt)) (result : Result Assembled AsmFault) (before now : ℕ)
    → AnswersSource asked files f expanded result → HasExpansionCause expanded before now → HasAssemblyCause result before now
source_cause asked files f expanded result before now is cause =
    let one = some_answer asked files f expanded result is in
    cause_by (flags_asked asked one.0) (string_bytes asked.file) files f expanded result before now one.1 cause

found_by : (flags : Flags) (name : List ℕ) (files : List (List ℕ)) (f : FollowedSource) (expanded : Result (Unit {0}) (ExpandFault FaultAt)) (result : Result Assembled AsmFault) (before now : ℕ)
    → IsAnswer flags name files f expanded result → KeepsMissing expanded before now → KeepsCount result before now
found_by flags name files f (Err expand.Read) result before now so keeps = subst (λ r. KeepsCount r before now) (sym so) keeps
found_by flags name files f (Ok u) (Ok made) before now so keeps = keeps
found_by flags name files f (Ok u) (Err (Source fault pos notes names)) before now so keeps = keeps
found_by flags name files f (Ok u) (Err Read) before now so keeps = tt
found_by flags name files f (Ok u) (Err NoMemory) before now so keeps = keeps
found_by flags name files f (Err (expand.Lines of)) (Ok made) before now so keeps = keeps
found_by flags name files f (Err (expand.Lines of)) (Err (Source fault pos notes names)) before now so keeps = keeps
found_by flags name files f (Err (expand.Lines of)) (Err Read) before now so keeps = tt
found_by flags name files f (Err (expand.Lines of)) (Err NoMemory) before now so keeps = keeps
found_by flags name files f (Err (expand.Expansion of at)) (Ok made) before now so keeps = keeps
found_by flags name files f (Err (expand.Expansion of at)) (Err (Source fault pos notes names)) before now so keeps = keeps
found_by flags name files f (Err (expand.Expansion of at)) (Err Read) before now so keeps = tt
found_by flags name files f (Err (expand.Expansion of at)) (Err NoMemory) before now so keeps = keeps
found_by flags name files f (Err (expand.Placing at)) (Ok made) before now so keeps = keeps
found_by flags name files f (Err (expand.Placing at)) (Err (Source fault pos notes names)) before now so keeps = keeps
found_by flags name files f (Err (expand.Placing at)) (Err Read) before now so keeps = tt
found_by flags name files f (Err (expand.Placing at)) (Err NoMemory) before now so keeps = keeps
found_by flags name files f (Err expand.NoMemory) (Ok made) before now so keeps = keeps
found_by flags name files f (Err expand.NoMemory) (Err (Source fault pos notes names)) before now so keeps = keeps
found_by flags name files f (Err expand.NoMemory) (Err Read) before now so keeps = tt
found_by flags name files f (Err expand.NoMemory) (Err NoMemory) before now so keeps = keeps

-- and the count of starts of what has no contents stays where expansion kept it
pub source_found : (asked : Asked) (files : List (List ℕ)) (f : FollowedSource) (expanded : Result (Unit {0}) (ExpandFault FaultAt)) (result : Result Assembled AsmFault) (before now : ℕ)
    → AnswersSource asked files f expanded result → KeepsMissing expanded before now → KeepsCount result before now
source_found asked files f expanded result before now is keeps =
    let one = some_answer asked files f expanded result is in
    found_by (flags_asked asked one.0) (string_bytes asked.file) files f expanded result before now one.1 keeps

-- ANSWERS OF FAULTS

-- a fault of the lines of the source
pub lines_answered : (flags : Flags) (name shown : List ℕ) (files begun : List (List ℕ)) (placed : FollowedSource) (expanded : Result (Unit {0}) (ExpandFault FaultAt)) (cause : LineCause) (at : FaultAt)
    (result : Result Assembled AsmFault) → expanded ≡ Err (expand.Lines cause) → at ≡ line_answer cause → shown ≡ name → begun ≡ []
    → IsAnswered (faulty at (shown_files shown begun)) result → IsAnswer flags name files placed expanded result
lines_answered flags name shown files begun placed expanded cause at result is same named none so =
    subst (λ e. IsAnswer flags name files placed e result) (sym is)
    (subst (λ a. IsAnswered (faulty a (shown_files name [])) result) same
    (subst (λ n. IsAnswered (faulty at (shown_files n [])) result) named (subst (λ b. IsAnswered (faulty at (shown_files shown b)) result) none so)))

small_by : (at : FaultAt) (shown : List (List ℕ)) (refusal : FaultAt) (result : Result Assembled AsmFault) → is_file_too_large at.fault ≡ false → IsAnswered (faulty at shown) result
    → AnswersSmall (Err (expand.Placing refusal)) result
small_by at shown refusal (Ok made) small so = tt
small_by at shown refusal (Err Read) small so = tt
small_by at shown refusal (Err NoMemory) small so = tt
small_by at shown refusal (Err (Source fault pos notes files)) small so = ap is_file_too_large (same_fault at (fault_at fault pos notes) shown files so) ∙ small

-- a statement that is refused
pub placing_small : (expanded : Result (Unit {0}) (ExpandFault FaultAt)) (refusal at : FaultAt) (shown : List (List ℕ)) (result : Result Assembled AsmFault) → expanded ≡ Err (expand.Placing refusal)
    → is_file_too_large at.fault ≡ false → IsAnswered (faulty at shown) result → AnswersSmall expanded result
placing_small expanded refusal at shown result is small so = subst (λ e. AnswersSmall e result) (sym is) (small_by at shown refusal result small so)
