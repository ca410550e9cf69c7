-- What padding of code is filled with (Intel SDM, volume 2, "NOP").
use Rattle.std.specs.Prelude.{ℕ, ◌/◌, ◌%◌, List, [], ◌∷◌, ◌++◌, get_or, replicate}
use Rattle.std.specs.List.{concat}

-- the recommended multi-byte sequences, by their lengths
abbrev pub sequences : List (List ℕ)
sequences =
    []
    ∷ (0x90 ∷ [])
    ∷ (0x66 ∷ 0x90 ∷ [])
    ∷ (0x0f ∷ 0x1f ∷ 0x00 ∷ [])
    ∷ (0x0f ∷ 0x1f ∷ 0x40 ∷ 0x00 ∷ [])
    ∷ (0x0f ∷ 0x1f ∷ 0x44 ∷ 0x00 ∷ 0x00 ∷ [])
    ∷ (0x66 ∷ 0x0f ∷ 0x1f ∷ 0x44 ∷ 0x00 ∷ 0x00 ∷ [])
    ∷ (0x0f ∷ 0x1f ∷ 0x80 ∷ 0x00 ∷ 0x00 ∷ 0x00 ∷ 0x00 ∷ [])
    ∷ (0x0f ∷ 0x1f ∷ 0x84 ∷ 0x00 ∷ 0x00 ∷ 0x00 ∷ 0x00 ∷ 0x00 ∷ [])
    ∷ (0x66 ∷ 0x0f ∷ 0x1f ∷ 0x84 ∷ 0x00 ∷ 0x00 ∷ 0x00 ∷ 0x00 ∷ 0x00 ∷ [])
    ∷ []

-- the no-operation of so many bytes, at most 9
unfoldable pub no_operation : ℕ → List ℕ
no_operation length = get_or sequences length []

-- as many of 9 bytes as fit, and then one for the rest
unfoldable pub no_operations : ℕ → List ℕ
no_operations size = concat (replicate (size / 9) (no_operation 9)) ++ no_operation (size % 9)
