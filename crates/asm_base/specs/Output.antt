-- What an output has made: nothing, or one file, and what its calls do to it.
use Rattle.std.specs.Prelude.{ℕ, Bool, true, false, List, [], ◌++◌, if◌then◌else◌}

-- a file: its name, the bytes that it has, and whether it is finished
pub record MadeFile : Type 0 where
  pub name : List ℕ
  pub bytes : List ℕ
  pub finished : Bool

-- what an output has made
pub data Made : Type 0 where
  nothing : Made
  file : MadeFile → Made

-- a file of this name without bytes
abbrev pub after_create : List ℕ → Made → Made
after_create name made = file (record { name = name; bytes = []; finished = false })

-- a file that is not finished has these bytes more
abbrev pub after_write : List ℕ → Made → Made
after_write piece nothing = nothing
after_write piece (file f) =
    if f.finished then file f
    else file (record { name = f.name; bytes = f.bytes ++ piece; finished = false })

-- a file that is there is finished
abbrev pub after_finish : Made → Made
after_finish nothing = nothing
after_finish (file f) = file (record { name = f.name; bytes = f.bytes; finished = true })

-- the whole file, made and finished
abbrev pub finished_file : List ℕ → List ℕ → Made
finished_file name bytes = file (record { name = name; bytes = bytes; finished = true })
