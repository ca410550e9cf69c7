-- What a call of `assemble` answers, by what the input tells of the source.
use Rattle.std.specs.Prelude.{◌≡◌, ℕ, ◌+◌, ◌*◌, ◌≤◌, ◌⊎◌, ◌<◌, min, Bool, IsTrue, OnOk, List, [], ◌∷◌, ◌++◌, drop, length, Option, None, Some, Result, Ok, Err, if◌then◌else◌}
use Rattle.std.specs.Io.KnownBytes.{IsAtEnd}
use Rattle.asm_base.specs.Counts.{HasRisen, last_count}
use Rattle.asm_base.specs.History.{FileEvent, happened, whole_files}
use Rattle.asm_base.specs.WholeFile.{most_bytes}
use Rattle.asm_base.specs.Inputs.{Contents}
use Rattle.asm_macro.specs.Starts.{IsFront, ReadsFront}
use Rattle.asm_place.specs.Faults.{is_file_too_large}
use Rattle.asm_place.specs.Sources.{fault_at}
use Rattle.source_ends.specs.Synthesis.{Synthesis}
use Rattle.source_ends.specs.Ending.{Flags}
use Rattle.asm_front.specs.Sources.{MainSource, file, given, name_of, started_for, source_in}
use Rattle.asm_front.specs.Assembly.{Assembly, assembled, faulty, missing, shown_name, included_by, assembly_of, file_assembly, main_assembly}
use Rattle.asm_front.specs.declared.answers.Asked.{Asked}
use Rattle.asm_front.specs.declared.answers.Options.{Options}
use Rattle.asm_front.specs.declared.answers.Assembled.{Assembled}
use Rattle.asm_front.specs.declared.answers.AsmFault.{AsmFault}
use Rattle.asm_front.specs.declared.answers.AsmFault.TheVariants.{Source, Read, NoMemory}

-- the options that the assembly depends on, where synthesis, if it is asked for, comes to this
abbrev pub flags_with : (no_warn fatal_warnings scfi : Bool) → Synthesis → Flags
flags_with no_warn fatal_warnings scfi made = record {
  no_warn = no_warn;
  fatal_warnings = fatal_warnings;
  scfi = if scfi then Some made else None;
}

-- those of a call
abbrev pub flags_of : Options → Synthesis → Flags
flags_of options made = flags_with options.no_warn options.fatal_warnings options.scfi made

-- those of a source of a name
abbrev pub flags_asked : Asked → Synthesis → Flags
flags_asked asked made = flags_with asked.no_warn asked.fatal_warnings asked.scfi made

-- where there is an object or a fault of the source, this holds with what synthesis comes to; where the input failed or memory ran out it is not known to
-- what that would be, and this holds with all
abbrev pub WithSynthesis : Result Assembled AsmFault → (Synthesis → Type 0) → (Synthesis → Type 0) → Type 0
WithSynthesis (Ok answer) Comes Holds = (made : Synthesis) × Comes made × Holds made
WithSynthesis (Err (Source fault pos notes files)) Comes Holds = (made : Synthesis) × Comes made × Holds made
WithSynthesis (Err Read) Comes Holds = (made : Synthesis) → Holds made
WithSynthesis (Err NoMemory) Comes Holds = (made : Synthesis) → Holds made

-- the answer for a source of this assembly: its object or its first fault, with the notes and the names of the files
abbrev pub AssemblesAs : Assembly → Result Assembled AsmFault → Type 0
AssemblesAs assembly (Ok made) = assembly ≡ assembled (record { object = made.object; notes = made.notes; counts = made.counts }) made.files
AssemblesAs assembly (Err (Source fault pos notes files)) = assembly ≡ faulty (fault_at fault pos notes) files
AssemblesAs assembly (Err Read) = Unit {0}
AssemblesAs assembly (Err NoMemory) = Unit {0}

-- the answer for the file of a name; a file that does not exist has neither object nor fault
abbrev pub AssemblesFile : Flags → Contents → List ℕ → Option (List ℕ) → Result Assembled AsmFault → Type 0
AssemblesFile flags contents name source result = AssemblesAs (file_assembly flags contents name source) result

-- the answer for this assembly, where it is known
abbrev pub AssemblesKnown : Option Assembly → Result Assembled AsmFault → Type 0
AssemblesKnown None result = Unit {0}
AssemblesKnown (Some assembly) result = AssemblesAs assembly result

-- the answer for a main source
abbrev pub Assembles : Flags → Option Contents → MainSource → Result Assembled AsmFault → Type 0
Assembles flags contents main result = AssemblesKnown (main_assembly flags contents main) result

-- the count of failures has risen where the input failed, and is the same else
abbrev pub HasAssemblyCause : Result Assembled AsmFault → ℕ → ℕ → Type 0
HasAssemblyCause (Ok made) before now = now ≡ before
HasAssemblyCause (Err (Source fault pos notes files)) before now = now ≡ before
HasAssemblyCause (Err Read) before now = (before ≤ now) × HasRisen before now
HasAssemblyCause (Err NoMemory) before now = now ≡ before

-- the source starts a file that is not there
abbrev pub LacksOne : Assembly → Type 0
LacksOne assembly = (files : List (List ℕ)) × (assembly ≡ missing files)

-- the count of starts of what has no contents is as before, but where the source starts a file that is not there
abbrev pub CountsMissed : Assembly → ℕ → ℕ → Type 0
CountsMissed assembly before now = (now ≡ before) ⊎ (LacksOne assembly × (before ≤ now) × HasRisen before now)

-- the same of the file of the name; it has risen where that is not there
abbrev pub CountsMissingFiles : Flags → Contents → List ℕ → Option (List ℕ) → ℕ → ℕ → Type 0
CountsMissingFiles flags contents name None before now = (before ≤ now) × HasRisen before now
CountsMissingFiles flags contents name (Some source) before now = CountsMissed (assembly_of flags contents name source) before now

-- the same by an assembly, where it is known; the count never falls
abbrev pub CountsKnown : Option Assembly → ℕ → ℕ → Type 0
CountsKnown None before now = before ≤ now
CountsKnown (Some assembly) before now = CountsMissed assembly before now

-- the same of a main source
abbrev pub CountsMisses : Flags → Option Contents → MainSource → ℕ → ℕ → Type 0
CountsMisses flags None main before now = CountsKnown (main_assembly flags None main) before now
CountsMisses flags (Some contents) main before now = CountsMissingFiles flags contents (name_of main) (source_in contents main) before now

-- the source is the first of the files, whether contents are told or not
abbrev pub NamesFiles : List ℕ → Result Assembled AsmFault → Type 0
NamesFiles name (Ok made) = made.files ≡ shown_name name ∷ drop 1 made.files
NamesFiles name (Err (Source fault pos notes files)) = files ≡ shown_name name ∷ drop 1 files
NamesFiles name (Err Read) = Unit {0}
NamesFiles name (Err NoMemory) = Unit {0}

-- a count of the input is as before, but where the input failed
abbrev pub KeepsCount : Result Assembled AsmFault → ℕ → ℕ → Type 0
KeepsCount (Ok made) before now = now ≡ before
KeepsCount (Err (Source fault pos notes files)) before now = now ≡ before
KeepsCount (Err Read) before now = Unit {0}
KeepsCount (Err NoMemory) before now = now ≡ before

-- where there is an object, the file of the source, if it comes from one, and each file that it started were read to their end, one after the other
abbrev pub ReadsFiles : MainSource → Result Assembled AsmFault → Option (List FileEvent) → Option (List FileEvent) → Type 0
ReadsFiles main (Ok made) before now = now ≡ happened before (whole_files (started_for main ++ drop 1 made.files))
ReadsFiles main (Err fault) before now = Unit {0}

-- where the contents of the name are known, these are the first of the files that its source starts
abbrev pub StartsFirst : Flags → Contents → List ℕ → Option (List ℕ) → List (List ℕ) → Type 0
StartsFirst flags contents name None these = these ≡ []
StartsFirst flags contents name (Some source) these = IsFront these (included_by (assembly_of flags contents name source))

-- these are the first of the files that a source of this assembly starts, where it is known
abbrev pub StartsKnown : Option Assembly → List (List ℕ) → Type 0
StartsKnown None these = Unit {0}
StartsKnown (Some assembly) these = IsFront these (included_by assembly)

-- the same of a main source
abbrev pub StartsThese : Flags → Option Contents → MainSource → List (List ℕ) → Type 0
StartsThese flags None main these = StartsKnown (main_assembly flags None main) these
StartsThese flags (Some contents) main these = StartsFirst flags contents (name_of main) (source_in contents main) these

-- on every answer: the file of the source, if it comes from one, and the first of the files that it starts were read one after the other, the last of these
-- perhaps in part
pub record StartsFiles (flags : Flags) (contents : Option Contents) (main : MainSource) (before now : Option (List FileEvent))
    (taken taken_after : ℕ) : Type 0 where
  pub included : List (List ℕ)
  pub these : StartsThese flags contents main included
  pub reads : ReadsFront (started_for main ++ included) before now taken taken_after

-- so many bytes were taken as of a file that is too large
abbrev pub TakesMuch : ℕ → ℕ → Type 0
TakesMuch before now = min (before + (most_bytes + 1)) last_count ≤ now

-- a file was too large, or the text is that is given
abbrev pub IsTooLarge : MainSource → ℕ → ℕ → Type 0
IsTooLarge (file name) before now = TakesMuch before now
IsTooLarge (given text) before now = (most_bytes < length text) ⊎ TakesMuch before now

-- a file is called too large only where more than the most bytes were taken, or given
abbrev pub TakesSource : MainSource → Result Assembled AsmFault → ℕ → ℕ → Type 0
TakesSource main (Ok made) before now = Unit {0}
TakesSource main (Err (Source fault pos notes files)) before now = IsTrue (is_file_too_large fault) → IsTooLarge main before now
TakesSource main (Err Read) before now = Unit {0}
TakesSource main (Err NoMemory) before now = Unit {0}

-- of each of these files at most one byte more than the most was read; the number of bytes that were read never falls
abbrev pub TakesOf : List (List ℕ) → ℕ → ℕ → Type 0
TakesOf files before now = (before ≤ now) × (now ≤ before + (most_bytes + 1) * length files)

-- so it is with the files that a text starts, of which the last may have been too large
abbrev pub TakesText : Result Assembled AsmFault → ℕ → ℕ → Type 0
TakesText (Ok made) before now = TakesOf (drop 1 made.files) before now
TakesText (Err (Source fault pos notes files)) before now = TakesOf files before now
TakesText (Err Read) before now = before ≤ now
TakesText (Err NoMemory) before now = before ≤ now

-- and with the file of the source, if it comes from one
abbrev pub TakesFiles : MainSource → Result Assembled AsmFault → ℕ → ℕ → Type 0
TakesFiles (given text) result before now = TakesText result before now
TakesFiles (file name) (Ok made) before now = (before ≤ now) × (now ≤ before + (most_bytes + 1) * length made.files)
TakesFiles (file name) (Err (Source fault pos notes files)) before now = (before ≤ now) × (now ≤ before + (most_bytes + 1) * (length files + 1))
TakesFiles (file name) (Err Read) before now = before ≤ now
TakesFiles (file name) (Err NoMemory) before now = before ≤ now

-- where there is an object, the input is at the end of the file that was started last; where a text is given, none may have been
abbrev pub StopsAtEnd : MainSource → Result Assembled AsmFault → Option (List ℕ) → Option (List ℕ) → Type 0
StopsAtEnd (file name) result before now = OnOk result (IsAtEnd now)
StopsAtEnd (given text) result before now = IsAtEnd before → OnOk result (IsAtEnd now)
