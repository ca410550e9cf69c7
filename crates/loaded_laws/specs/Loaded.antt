-- The bytes of a section as a linker leaves them.
use Rattle.std.specs.Prelude.{◌≡◌, ◌+◌, ◌<◌, ◌≤◌, ◌^◌, ◌⊎◌, ℕ, List, All, length, get_or, slice_get}
use Rattle.std.specs.Option.{option_map_or}
use Rattle.elf_object.specs.declared.relocations.Relocation.{Relocation}
use Rattle.elf_object.specs.Relocations.{kind_number}
use Rattle.object_laws.specs.RelocationTypes.{RelocationType, relocation_type}

-- how many bytes a linker fills in for a relocation: those of its type's field (psABI for AMD64,
-- section 4.4, table 4.9, "Relocation Types")
abbrev pub relocated_bytes : Relocation → ℕ
relocated_bytes r =
    option_map_or (λ (row : RelocationType). row.bytes) (relocation_type (kind_number r.kind)) 0

-- the byte at this place of a section is none of those that a linker fills in for the relocation
abbrev pub IsBesideRelocation : ℕ → Relocation → Type 0
IsBesideRelocation place r = (place < r.offset) ⊎ (r.offset + relocated_bytes r ≤ place)

-- what a linker makes of a section that begins at this offset of the object and has so many bytes:
-- bytes again, and those beside all its relocations are the ones in the object
pub record IsLoaded (object : List ℕ) (begins size : ℕ) (relocations : List Relocation) (code : List ℕ) : Type 0 where
  pub long : length code ≡ size
  pub bytes : (place : ℕ) → get_or code place 0 < 2 ^ 8
  pub same : (place : ℕ) → place < size → All (IsBesideRelocation place) relocations
      → slice_get code place ≡ slice_get object (begins + place)
