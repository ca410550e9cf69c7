-- A memory of bytes, and the number in the eight bytes from an address on (Intel SDM, volume 1,
-- section 4.1).
use Rattle.std.specs.Prelude.{◌≡◌, ◌≢◌, ◌<◌, ◌+◌, ◌*◌, ◌^◌, ◌==◌, ℕ, if◌then◌else◌, List, [], ◌∷◌}
use Rattle.insn_effects.specs.Followed.{wrap}

-- a byte at an address; that it is below 2 ^ 8 is not asked, so more memories are spoken of than a
-- processor has
pub record Cell : Type 0 where
  pub address : ℕ
  pub byte : ℕ

-- what a memory holds at an address: the first cell counts, and a missing address holds 0
unfoldable pub byte_at : List Cell → ℕ → ℕ
byte_at [] address = 0
byte_at (cell ∷ memory) address =
    if cell.address == address then cell.byte else byte_at memory address

-- the number in the 8 bytes from an address on, the lowest byte first; addresses are modulo 2 ^ 64.
-- Where bytes are below 2 ^ 8, as real ones are, words are equal just where their bytes are
unfoldable pub word_at : List Cell → ℕ → ℕ
word_at memory a =
    byte_at memory (wrap a) + 2 ^ 8 * byte_at memory (wrap (a + 1))
    + 2 ^ 16 * byte_at memory (wrap (a + 2))
    + 2 ^ 24 * byte_at memory (wrap (a + 3)) + 2 ^ 32 * byte_at memory (wrap (a + 4))
    + 2 ^ 40 * byte_at memory (wrap (a + 5)) + 2 ^ 48 * byte_at memory (wrap (a + 6))
    + 2 ^ 56 * byte_at memory (wrap (a + 7))

-- each byte is the same but for so many from the address on
abbrev pub SameOutside : (address size : ℕ) → List Cell → List Cell → Type 0
SameOutside address size before after =
    (b : ℕ) → ((k : ℕ) → k < size → b ≢ wrap (address + k)) → byte_at after b ≡ byte_at before b

-- each byte is the same
abbrev pub SameMemory : List Cell → List Cell → Type 0
SameMemory before after = (b : ℕ) → byte_at after b ≡ byte_at before b
