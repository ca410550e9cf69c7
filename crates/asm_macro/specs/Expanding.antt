-- What a call that expands a source answers, by what comes of the source.
use Rattle.std.specs.Prelude.{◌≡◌, ℕ, ◌+◌, ◌*◌, ◌≤◌, ◌⊎◌, min, List, length, drop, Option, Result, Ok, Err}
use Rattle.asm_base.specs.Counts.{HasRisen, last_count}
use Rattle.asm_base.specs.History.{FileEvent, happened, whole_files}
use Rattle.asm_base.specs.WholeFile.{most_bytes}
use Rattle.asm_lines.specs.declared.faults.LineCause.{LineCause}
use Rattle.asm_lines.specs.Statements.{StatementAt}
use Rattle.macro_words.specs.declared.causes.MacroCause.TheVariants.{FileTooLarge}
use Rattle.asm_macro.specs.Placing.{Step, ended, fails, refused, misses, untold}
use Rattle.asm_macro.specs.Starts.{AreBegun, AreFirst, ReadsFront, files_of}
use Rattle.asm_macro.specs.declared.faults.ExpandFault.{ExpandFault}
use Rattle.asm_macro.specs.declared.faults.ExpandFault.TheVariants.{Lines, Expansion, Placing, Read, NoMemory}

-- this comes of the source, unless it starts a file of which nothing is told
abbrev pub Comes : {S F : Type 0} → Step S F → Step S F → Type 0
Comes wanted got = (wanted ≡ got) ⊎ (wanted ≡ untold)

-- the answer is what comes of the source with these lines, with the files that were started; a fault of a file that can't be read, and
-- want of memory, may come at any point
abbrev pub IsExpansion : {S F : Type 0} → Step S F → Result (List StatementAt) LineCause → Result (Unit {0}) (ExpandFault F) → List (List ℕ) → S → Type 0
IsExpansion wanted lines (Ok u) files placer = Comes wanted (ended files placer)
IsExpansion wanted lines (Err (Lines cause)) files placer = lines ≡ Err cause
IsExpansion wanted lines (Err (Expansion cause pos)) files placer = Comes wanted (fails files cause pos placer)
IsExpansion wanted lines (Err (Placing fault)) files placer = Comes wanted (refused files fault)
IsExpansion wanted lines (Err Read) files placer = Unit {0}
IsExpansion wanted lines (Err NoMemory) files placer = Unit {0}

-- the count of failures has risen where a file could not be read, and is the same else
abbrev pub HasExpansionCause : {F : Type 0} → Result (Unit {0}) (ExpandFault F) → ℕ → ℕ → Type 0
HasExpansionCause (Err Read) before now = (before ≤ now) × HasRisen before now
HasExpansionCause _ before now = now ≡ before

-- the source starts a file that is not there
abbrev pub StartsNone : {S F : Type 0} → Step S F → Type 0
StartsNone wanted = (files : List (List ℕ)) × (wanted ≡ misses files)

-- the count of starts of what has no contents has risen only where the source starts such a file, and may have where nothing is told
abbrev pub CountsMisses : {S F : Type 0} → Step S F → ℕ → ℕ → Type 0
CountsMisses wanted before now =
    (now ≡ before) ⊎ (StartsNone wanted × (before ≤ now) × HasRisen before now) ⊎ ((wanted ≡ untold) × (before ≤ now))

-- only where a file could not be read the count of starts of what has no contents may have risen
abbrev pub KeepsMissing : {F : Type 0} → Result (Unit {0}) (ExpandFault F) → ℕ → ℕ → Type 0
KeepsMissing (Err Read) before now = Unit {0}
KeepsMissing _ before now = now ≡ before

-- the files that were started behind so many were read to their end, one after the other
abbrev pub ReadsIncludes : {F : Type 0} → Result (Unit {0}) (ExpandFault F) → ℕ → List (List ℕ) → Option (List FileEvent) → Option (List FileEvent) → Type 0
ReadsIncludes (Ok u) started files before now = now ≡ happened before (whole_files (drop started files))
ReadsIncludes (Err fault) started files before now = Unit {0}

-- nothing was read where the lines of the source have a fault; else of each file that was started at most one byte more than the most, also
-- of one that could not be read whole
abbrev pub TakesIncludes : {F : Type 0} → Result (Unit {0}) (ExpandFault F) → List (List ℕ) → ℕ → ℕ → Type 0
TakesIncludes (Ok u) files before now = (before ≤ now) × (now ≤ before + (most_bytes + 1) * length (drop 1 files))
TakesIncludes (Err (Lines cause)) files before now = now ≡ before
TakesIncludes (Err (Expansion cause pos)) files before now = (before ≤ now) × (now ≤ before + (most_bytes + 1) * length files)
TakesIncludes (Err (Placing fault)) files before now = (before ≤ now) × (now ≤ before + (most_bytes + 1) * length files)
TakesIncludes (Err Read) files before now = (before ≤ now) × (now ≤ before + (most_bytes + 1) * length files)
TakesIncludes (Err NoMemory) files before now = (before ≤ now) × (now ≤ before + (most_bytes + 1) * length files)

-- on every answer: the files that were started, and the one that was being started, if any, are the first of those that the source starts; behind
-- so many they were read one after the other, the last of them perhaps in part
pub record StartsIncludes {S F : Type 0} (wanted : Step S F) (started : ℕ) (files : List (List ℕ)) (before now : Option (List FileEvent)) (taken taken_after : ℕ) : Type 0 where
  pub begun : List (List ℕ)
  pub names : AreBegun files begun
  pub first : AreFirst begun (files_of wanted)
  pub reads : ReadsFront (drop started begun) before now taken taken_after

-- a file is called too large only where more than the most bytes were taken
abbrev pub TakesTooLarge : {F : Type 0} → Result (Unit {0}) (ExpandFault F) → ℕ → ℕ → Type 0
TakesTooLarge (Err (Expansion cause pos)) before now = cause ≡ FileTooLarge → min (before + (most_bytes + 1)) last_count ≤ now
TakesTooLarge _ before now = Unit {0}
