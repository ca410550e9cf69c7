-- What the objects in memory hold, as the outside's words have it.
use Rattle.std.specs.Prelude.{ℕ, true, false, List, [], ◌∷◌, Some, if◌then◌else◌}
use Rattle.std.specs.Str.{bytes_eq}
use Rattle.asm_base.specs.Inputs.{Contents}
use Rattle.asm_base.specs.Output.{Made, nothing, file}
use Rattle.memory_outside.specs.declared.memory.MemoryFile.{MemoryFile}
use Rattle.memory_outside.specs.declared.memory.Stage.{Stage}
use Rattle.memory_outside.specs.declared.memory.Stage.TheVariants.{Nothing, Begun, Finished}

-- the bytes of the first file of this name, or none
abbrev pub bytes_named : List MemoryFile → List ℕ → List ℕ
bytes_named [] name = []
bytes_named (f ∷ files) name =
    if bytes_eq f.name.now name then f.bytes.now else bytes_named files name

-- a name that no file has is there, and empty
abbrev pub contents_in : List MemoryFile → Contents
contents_in files name = Some (bytes_named files name)

-- the file at this stage
abbrev pub made_at : Stage → List ℕ → List ℕ → Made
made_at Nothing name bytes = nothing
made_at Begun name bytes = file (record { name = name; bytes = bytes; finished = false })
made_at Finished name bytes = file (record { name = name; bytes = bytes; finished = true })
