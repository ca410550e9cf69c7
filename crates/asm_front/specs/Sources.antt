-- Where a main source comes from.
use Rattle.std.specs.Prelude.{ℕ, List, [], ◌∷◌, Option, Some, string_bytes}
use Rattle.asm_base.specs.Inputs.{Contents}
use Rattle.asm_front.specs.declared.answers.Main.{Main}
use Rattle.asm_front.specs.declared.answers.Main.TheVariants.{File, Given}

-- a main source comes from the file of a name, or is a text that is given
pub data MainSource : Type 0 where
  file : List ℕ → MainSource
  given : List ℕ → MainSource

-- the one that is asked for
abbrev pub main_of : Main → MainSource
main_of (File name) = file (string_bytes name)
main_of (Given text) = given text

-- its name: a text that is given has none, as standard input
abbrev pub name_of : MainSource → List ℕ
name_of (file name) = name
name_of (given text) = []

-- the files that are started for it
abbrev pub started_for : MainSource → List (List ℕ)
started_for (file name) = name ∷ []
started_for (given text) = []

-- its bytes, where these are the contents of files, if it is there
abbrev pub source_in : Contents → MainSource → Option (List ℕ)
source_in contents (file name) = contents name
source_in contents (given text) = Some text
