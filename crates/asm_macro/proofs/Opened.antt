-- A file that was read, as what becomes of an include.
use Rattle.std.specs.Io.KnownBytes.{IsAtEnd}
use Rattle.std.proofs.Common.{◌≡◌, ◌≢◌, ◌≤◌, ◌+◌, inl, inr, ℕ, nat_lt, false, true, List, [], ◌∷◌, ◌++◌, length, Option, None, Some, Result, Ok, Err, refl, sym, ap, subst, ◌∙◌, arith}
use Rattle.std.proofs.lemmas.Bool.Decides.{nat_tests}
use Rattle.asm_base.specs.History.{HappensInFront, happened, whole_file}
use Rattle.asm_base.specs.Inputs.{Contents, CountsFile, CountsMissing}
use Rattle.asm_base.specs.WholeFile.{ReadsFile, ReadsName, TakesBytes, most_bytes}
use Rattle.asm_base.specs.declared.positions.Pos.{Pos}
use Rattle.asm_base.specs.declared.reading.TextFault.{TextFault}
use Rattle.asm_base.specs.declared.reading.TextFault.TheVariants as reading
use Rattle.asm_base.specs.declared.reading.TextFault.TheVariants.{TooLarge}
use Rattle.asm_lines.specs.NextStatements.{TokenStatement}
use Rattle.asm_lines.specs.Statements.{StatementAt, statements_of}
use Rattle.asm_lines.specs.declared.faults.LineCause.{LineCause}
use Rattle.asm_lines.specs.declared.faults.LineCause.TheVariants as lines
use Rattle.macro_words.specs.Statements.{line_cause}
use Rattle.macro_blocks.specs.Levels.{Level}
use Rattle.macro_blocks.specs.Frames.{level_of}
use Rattle.macro_words.specs.declared.causes.MacroCause.{MacroCause}
use Rattle.macro_words.specs.declared.causes.MacroCause.TheVariants.{FileTooLarge}
use Rattle.macro_words.specs.Files.{FileFault, file_statements, in_file, line_of_cause}
use Rattle.asm_macro.specs.declared.faults.ExpandFault.{ExpandFault}
use Rattle.asm_macro.specs.declared.faults.ExpandFault.TheVariants.{Expansion, Lines, Placing, Read, NoMemory}
use Rattle.asm_macro.specs.declared.turned.Turned.{Turned}
use Rattle.asm_macro.specs.declared.turned.Turned.TheVariants as turned
use Rattle.asm_macro.specs.Expansion.{State, Turn, goes, breaks, under, start_file, include_file, include_told}
use Rattle.asm_macro.specs.Placing.{in_next_file}
use Rattle.asm_macro.specs.Turning.{Becomes, FailsSo, IsOpened, IsRewriting}
use Rattle.asm_macro.specs.Expanding.{HasExpansionCause, KeepsMissing, TakesTooLarge}
use Rattle.asm_macro.specs.Readings.{InputAs, CountsMissed, HasStopped, Uses}
use Rattle.asm_macro.specs.Starts.{StartedFiles, AreBegun, AreFirst, files_after}
use Rattle.asm_macro.proofs.FileFronts.{all_begun, reads_one}
use Rattle.asm_macro.proofs.FilesGrow.{name_starts}

few_not_less : (n : ℕ) → n ≤ most_bytes → nat_lt most_bytes n ≡ false
few_not_less n few = grind (arith, nat_tests)

more_less : (n : ℕ) → most_bytes + 1 ≤ n → nat_lt most_bytes n ≡ true
more_less n more = grind (arith, nat_tests)

-- a file that is there
found_becomes : (number : Option ℕ) (found : Option (List ℕ)) (name text : List ℕ) (rest : Option (List ℕ)) (state : State) → ReadsFile found (Ok text) rest
    → include_file number name found state ≡ start_file number name (in_file (statements_of (length state.files) text)) state
unfolding file_statements
found_becomes number None name text rest state is = absurd is
found_becomes number (Some bytes) name text rest state is =
    let low = few_not_less (length bytes) is.1 in
    rw low (ap (λ these. start_file number name (in_file (statements_of (length state.files) these)) state) (sym is.0))

pub read_becomes : (number : Option ℕ) (contents : Option Contents) (name text : List ℕ) (rest : Option (List ℕ)) (state : State) → ReadsName contents name (Ok text) rest
    → Becomes (include_told number name contents state) (start_file number name (in_file (statements_of (length state.files) text)) state)
read_becomes number None name text rest state is = inr refl
read_becomes number (Some contents) name text rest state is = inl (found_becomes number (contents name) name text rest state is)

found_too_large : (number : Option ℕ) (found : Option (List ℕ)) (name : List ℕ) (rest : Option (List ℕ)) (state : State) → ReadsFile found (Err TooLarge) rest
    → include_file number name found state ≡ breaks name (record { cause = FileTooLarge; line = 1 })
unfolding file_statements
found_too_large number None name rest state is = absurd is
found_too_large number (Some bytes) name rest state is =
    let high = more_less (length bytes) (omega (arith, is)) in
    rw high refl

pub too_large_becomes : (number : Option ℕ) (contents : Option Contents) (name : List ℕ) (rest : Option (List ℕ)) (state : State) → ReadsName contents name (Err TooLarge) rest
    → Becomes (include_told number name contents state) (breaks name (record { cause = FileTooLarge; line = 1 }))
too_large_becomes number None name rest state is = inr refl
too_large_becomes number (Some contents) name rest state is = inl (found_too_large number (contents name) name rest state is)

becomes_on : (wanted got more : Turn) → Becomes wanted got → got ≡ more → Becomes wanted more
becomes_on wanted got more is same = subst (Becomes wanted) same is

-- a fault of the file that is started
pub breaks_so : (wanted : Turn) (name : List ℕ) (fault : FileFault) (old new : List (List ℕ)) (cause : MacroCause) (pos : Pos) → Becomes wanted (breaks name fault)
    → fault.cause ≡ cause → in_next_file old fault.line ≡ pos → new ≡ old ++ name ∷ [] → FailsSo wanted old cause pos new
breaks_so wanted name fault old new cause pos is same here names =
    elim is [
      | inl e ↦ subst (λ t. FailsSo t old cause pos new) (sym e) (same, here, names)
      | inr e ↦ subst (λ t. FailsSo t old cause pos new) (sym e) tt
    ]

-- the list behind a file that was started
abbrev started_behind : State → List ℕ → State
started_behind state name = record state { files = state.files ++ name ∷ [] }

pub opened : {F : Type 0} (result : Result Turned (ExpandFault F)) (number : Option ℕ) (due : Result (List TokenStatement) FileFault) (wanted : Turn) (name : List ℕ) (level : Level) (state now : State)
    → IsOpened result number (length state.files) due → Becomes wanted (start_file number name due (under level state)) → now ≡ started_behind state name → IsRewriting result wanted level state.files now
opened (Ok turned.Stays) number due wanted name level state now is becomes same = absurd is
opened (Ok turned.Leaves) number due wanted name level state now is becomes same = absurd is
opened (Ok (turned.Enters inner)) number due wanted name level state now is becomes same =
    let first = becomes_on wanted (start_file number name due (under level state)) (start_file number name (Ok is.0) (under level state)) becomes (ap (λ d. start_file number name d (under level state)) is.1) in
    let second = becomes_on wanted _ (goes (under (level_of inner) (under level (started_behind state name)))) first (ap (λ l. goes (under l (under level (started_behind state name)))) (sym is.2)) in
    becomes_on wanted _ _ second (ap (λ s. goes (under (level_of inner) (under level s))) (sym same))
opened (Err (Lines cause)) number due wanted name level state now is becomes same = absurd is
opened (Err (Expansion cause pos)) number due wanted name level state now is becomes same =
    let first = becomes_on wanted (start_file number name due (under level state)) (breaks name (record { cause = cause; line = pos.line })) becomes (ap (λ d. start_file number name d (under level state)) is.0) in
    breaks_so wanted name (record { cause = cause; line = pos.line }) state.files now.files cause pos first refl (ap (λ f. record { file = f; line = pos.line }) (sym is.1)) (ap (λ s. s.files) same)
opened (Err (Placing fault)) number due wanted name level state now is becomes same = absurd is
opened (Err Read) number due wanted name level state now is becomes same = absurd is
opened (Err NoMemory) number due wanted name level state now is becomes same = tt

-- WHAT READING A FILE DOES TO AN INPUT

-- the count of starts of what has no contents is that of the one file
found_missed : (number : Option ℕ) (found : Option (List ℕ)) (name : List ℕ) (state : State) (before now : ℕ) → CountsFile found before now → CountsMissed (files_after state.files (include_file number name found state)) before now
found_missed number None name state before now is = inr (inl ((state.files ++ name ∷ [], refl), is.0, is.1))
found_missed number (Some bytes) name state before now is = inl is

pub name_missed : (number : Option ℕ) (contents : Option Contents) (name : List ℕ) (state : State) (before now : ℕ) → CountsMissing contents name before now
    → CountsMissed (files_after state.files (include_told number name contents state)) before now
name_missed number None name state before now is = inr (inr (refl, is))
name_missed number (Some contents) name state before now is = found_missed number (contents name) name state before now is

-- what reading the file of this name did
pub record HasReadOne (name : List ℕ) (before now : InputAs) : Type 0 where
  pub contents : now.contents ≡ before.contents
  pub later : before.taken ≤ now.taken
  pub most : now.taken ≤ before.taken + (most_bytes + 1)
  pub front : HappensInFront (whole_file name) before.history now.history

-- the file stopped expansion, before its name was kept or after that
pub one_stopped : {F : Type 0} (fault : ExpandFault F) (wanted : StartedFiles) (old new more : List (List ℕ)) (name : List ℕ) (before now : InputAs)
    → AreFirst (old ++ name ∷ []) wanted → new ≡ old ++ more → AreBegun more (name ∷ []) → HasReadOne name before now
    → HasExpansionCause {F = F} (Err fault) before.faults now.faults → CountsMissed wanted before.missing now.missing → KeepsMissing {F = F} (Err fault) before.missing now.missing
    → TakesTooLarge {F = F} (Err fault) before.taken now.taken → HasStopped fault wanted old new before now
one_stopped fault wanted old new more name before now first names begun read cause missing found large =
    record {
      more = more;
      names = names;
      contents = read.contents;
      cause = cause;
      missing = missing;
      found = found;
      later = read.later;
      begun = name ∷ [];
      started = begun;
      first = first;
      reads = reads_one name before.history now.history before.taken now.taken read.front read.most;
      too_large = large;
    }

-- no fault of lines says that a file is too large
line_small : (cause : LineCause) → line_cause cause ≢ FileTooLarge
line_small (lines.NulByte line) is = absurd cc
line_small (lines.UnclosedString line) is = absurd cc
line_small (lines.UnclosedComment line) is = absurd cc
line_small (lines.StatementTooLong line) is = absurd cc

file_small : (found : Result (List StatementAt) LineCause) (fault : FileFault) → in_file found ≡ Err fault → fault.cause ≢ FileTooLarge
file_small (Ok statements) fault is = absurd cc
file_small (Err cause) fault is =
    let same : record { cause = line_cause cause; line = line_of_cause cause } ≡ fault = cc in
    λ large. line_small cause (ap (λ f. f.cause) same ∙ large)

-- the file was read to its end and opened, or its lines have a fault
pub opened_uses : {F : Type 0} (result : Result Turned (ExpandFault F)) (number : Option ℕ) (file : ℕ) (found : Result (List StatementAt) LineCause) (wanted : StartedFiles) (old new : List (List ℕ)) (name : List ℕ) (before now : InputAs)
    → IsOpened result number file (in_file found) → AreFirst (old ++ name ∷ []) wanted → new ≡ old ++ name ∷ [] → HasReadOne name before now → now.history ≡ happened before.history (whole_file name)
    → now.faults ≡ before.faults → now.missing ≡ before.missing → IsAtEnd now.rest → Uses result wanted old new before now
opened_uses (Ok turned.Stays) number file found wanted old new name before now is first names read all faults missing ends = absurd is
opened_uses (Ok turned.Leaves) number file found wanted old new name before now is first names read all faults missing ends = absurd is
opened_uses (Ok (turned.Enters inner)) number file found wanted old new name before now is first names read all faults missing ends =
    let most = read.most in
    record {
      more = name ∷ [];
      names = names;
      contents = read.contents;
      faults = faults;
      missing = missing;
      later = read.later;
      taken = omega (arith, most);
      history = all;
      whole = λ was. ends;
    }
opened_uses (Err (Lines cause)) number file found wanted old new name before now is first names read all faults missing ends = absurd is
opened_uses (Err (Expansion cause pos)) number file found wanted old new name before now is first names read all faults missing ends =
    one_stopped (Expansion cause pos) wanted old new (name ∷ []) name before now first names (all_begun (name ∷ [])) read faults (inl missing) missing
    (λ large. absurd (file_small found (record { cause = cause; line = pos.line }) is.0 large))
opened_uses (Err (Placing fault)) number file found wanted old new name before now is first names read all faults missing ends = absurd is
opened_uses (Err Read) number file found wanted old new name before now is first names read all faults missing ends = absurd is
opened_uses (Err NoMemory) number file found wanted old new name before now is first names read all faults missing ends =
    one_stopped NoMemory wanted old new (name ∷ []) name before now first names (all_begun (name ∷ [])) read faults (inl missing) missing tt

-- at most one byte more than the most was taken
taken_later : (result : Result (List ℕ) TextFault) (before now : ℕ) → TakesBytes result before now → (before ≤ now) × (now ≤ before + (most_bytes + 1))
taken_later (Ok text) before now takes = takes
taken_later (Err TooLarge) before now takes = (takes.1, takes.2)
taken_later (Err reading.Read) before now takes = takes
taken_later (Err reading.NoMemory) before now takes = takes

pub read_one : (name shown : List ℕ) (result : Result (List ℕ) TextFault) (before now : InputAs) → shown ≡ name → now.contents ≡ before.contents → TakesBytes result before.taken now.taken
    → HappensInFront (whole_file shown) before.history now.history → HasReadOne name before now
read_one name shown result before now same contents takes front =
    let taken = taken_later result before.taken now.taken takes in
    record { contents = contents; later = taken.0; most = taken.1; front = subst (λ n. HappensInFront (whole_file n) before.history now.history) same front }

-- the file of this name was not read whole, or its name was not kept
pub text_stopped : {F : Type 0} (fault : ExpandFault F) (result : Result (List ℕ) TextFault) (number : Option ℕ) (contents : Option Contents) (state : State) (new more : List (List ℕ)) (name shown : List ℕ) (before now : InputAs)
    → shown ≡ name → AreBegun more (name ∷ []) → new ≡ state.files ++ more → now.contents ≡ before.contents → TakesBytes result before.taken now.taken
    → HappensInFront (whole_file shown) before.history now.history → CountsMissing contents shown before.missing now.missing
    → HasExpansionCause {F = F} (Err fault) before.faults now.faults → KeepsMissing {F = F} (Err fault) before.missing now.missing → TakesTooLarge {F = F} (Err fault) before.taken now.taken
    → HasStopped fault (files_after state.files (include_told number name contents state)) state.files new before now
text_stopped fault result number contents state new more name shown before now same begun names kept takes front counts cause found large =
    one_stopped fault (files_after state.files (include_told number name contents state)) state.files new more name before now (name_starts number name contents state) names begun
    (read_one name shown result before now same kept takes front) cause
    (name_missed number contents name state before.missing now.missing (subst (λ n. CountsMissing contents n before.missing now.missing) same counts)) found large
