-- The files that a list starts, and what is read of them.
use Rattle.std.specs.Prelude.{◌≡◌, ℕ, ◌+◌, ◌*◌, ◌≤◌, List, [], ◌∷◌, ◌++◌, length, Option}
use Rattle.asm_base.specs.History.{FileEvent, HappensInFront, whole_files}
use Rattle.asm_base.specs.WholeFile.{most_bytes}
use Rattle.asm_macro.specs.Expansion as list
use Rattle.asm_macro.specs.Expansion.{Turn}
use Rattle.asm_macro.specs.Placing.{Step, goes, ended, fails, refused, misses, untold}

-- the names of the files that are started: these, or these, of which the last is not there, or names that are not known
pub data StartedFiles : Type 0 where
  these : List (List ℕ) → StartedFiles
  lacking : List (List ℕ) → StartedFiles
  unknown : StartedFiles

-- the files that were started by what came of a list
abbrev pub files_of : {S F : Type 0} → Step S F → StartedFiles
files_of (goes state placer) = these state.files
files_of (ended files placer) = these files
files_of (fails files cause pos placer) = these files
files_of (refused files fault) = these files
files_of (misses files) = lacking files
files_of untold = unknown

-- the files that are started after a turn, before which these were
abbrev pub files_after : List (List ℕ) → Turn → StartedFiles
files_after files (list.hands statement state) = these state.files
files_after files (list.goes state) = these state.files
files_after files list.ended = these files
files_after files (list.fails cause pos) = these files
files_after files (list.breaks name fault) = these (files ++ name ∷ [])
files_after files (list.misses name) = lacking (files ++ name ∷ [])
files_after files list.untold = unknown

-- these are the first of others
abbrev pub IsFront : List (List ℕ) → List (List ℕ) → Type 0
IsFront front all = (more : List (List ℕ)) × (all ≡ front ++ more)

-- these are the first of the files that are started, where those are known
abbrev pub AreFirst : List (List ℕ) → StartedFiles → Type 0
AreFirst front (these files) = IsFront front files
AreFirst front (lacking files) = IsFront front files
AreFirst front unknown = Unit {0}

-- these are those that were started, or those and one more, which could not be read whole
abbrev pub AreBegun : List (List ℕ) → List (List ℕ) → Type 0
AreBegun files begun = IsFront files begun × (length begun ≤ length files + 1)

-- these files were started one after the other, and all but the last were read to their end; of the last a front of that happened. Of each
-- at most one byte more than the most was taken
pub record ReadsFront (files : List (List ℕ)) (before now : Option (List FileEvent)) (taken taken_after : ℕ) : Type 0 where
  pub front : HappensInFront (whole_files files) before now
  pub whole : 2 * length files ≤ front.0 + 2
  pub at_most : taken_after ≤ taken + (most_bytes + 1) * length files
