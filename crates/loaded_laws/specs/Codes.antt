-- The bytes of an instruction in the object, and where it is loaded.
use Rattle.std.specs.Prelude.{◌≡◌, ◌+◌, ◌<◌, ◌≤◌, ◌⊎◌, ℕ, List, [], ◌∷◌, All, length, slice_get}
use Rattle.asm_frags.specs.Fields.{width}
use Rattle.asm_place.specs.CodePlaces.{FieldInCode, AreApart, with_held}
use Rattle.elf_file.specs.Places.{PieceAt}
use Rattle.elf_object.specs.declared.relocations.Relocation.{Relocation}
use Rattle.loaded_laws.specs.Loaded.{IsBesideRelocation, IsLoaded}

-- the byte of an instruction is none of these fields'
abbrev pub IsOutside : ℕ → List FieldInCode → Type 0
IsOutside k [] = Unit {0}
IsOutside k (field ∷ fields) =
    ((k < field.at) ⊎ (field.at + width field.size ≤ k)) × IsOutside k fields

-- the bytes of an instruction stand at this place but for those of its fields
pub record StandsBeside (bytes code : List ℕ) (place : ℕ) (fields : List FieldInCode) : Type 0 where
  pub within : place + length bytes ≤ length code
  pub same : (k : ℕ) → k < length bytes → IsOutside k fields
      → slice_get code (place + k) ≡ slice_get bytes k

-- where an instruction stands in the object with any bytes in its fields, and its other bytes are
-- beside all relocations, these are loaded as they are
abbrev pub LoadedBeside : Type 0
LoadedBeside = (object : List ℕ) (begins size : ℕ) (relocations : List Relocation)
    (code bytes : List ℕ) (place : ℕ) (fields : List FieldInCode) (held : FieldInCode → List ℕ)
    → IsLoaded object begins size relocations code → AreApart 1 (length bytes) fields
    → ((field : FieldInCode) → length (held field) ≡ width field.size)
    → PieceAt object (begins + place) (with_held held bytes 0 fields)
    → place + length bytes ≤ size
    → ((k : ℕ) → k < length bytes → IsOutside k fields
    → All (IsBesideRelocation (place + k)) relocations)
    → StandsBeside bytes code place fields
