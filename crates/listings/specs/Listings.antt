-- The listing of a byte string, and what holds of each.
use Rattle.std.specs.Prelude.{◌≡◌, ℕ, ◌≤◌, List, ◌++◌, Option, All, length, take, drop, map, flat_map, option_map}
use Rattle.x86_decode.specs.Decoding.{Front as Decoded}
use Rattle.x86_decode.specs.Views.{shown_front}
use Rattle.x86_decode.specs.declared.fronts.Front.{Front}
use Rattle.listings.specs.Lines.{Line, AreLines}
use Rattle.listings.specs.LineTexts.{lines_text}

-- the lines are all of the byte string
abbrev pub IsListing : List ℕ → List Line → Type 0
IsListing bytes lines = AreLines bytes 0 lines (length bytes)

-- a text that grows by that of the lines from the one offset to the other
pub record Adds (text : Front → List ℕ) (bytes : List ℕ) (at end : ℕ) (old new : List ℕ) : Type 0 where
  pub lines : List Line
  pub listed : AreLines bytes at lines end
  pub added : new ≡ old ++ lines_text text lines

-- a line's bytes are those at its offset
abbrev pub IsInPlace : List ℕ → Line → Type 0
IsInPlace bytes line = line.bytes ≡ take (length line.bytes) (drop line.offset bytes)

-- a line's bytes and instruction, whichever row it is held by
pub record Shown : Type 0 where
  pub offset : ℕ
  pub bytes : List ℕ
  pub insn : Option Decoded

abbrev pub shown_line : Line → Shown
shown_line line = record { offset = line.offset; bytes = line.bytes; insn = option_map shown_front line.front }

-- the lines of a listing show all bytes of the byte string, in order, each once, and at its offset
pub record AllBytesAreListed : Type 0 where
  pub bytes : (bytes : List ℕ) (lines : List Line) → IsListing bytes lines → flat_map (λ line. line.bytes) lines ≡ bytes
  pub places : (bytes : List ℕ) (lines : List Line) → IsListing bytes lines → All (IsInPlace bytes) lines

-- lines that begin the listing of a byte string and all lines of it are the same as far as the former go
abbrev pub OneListing : Type 0
OneListing = (bytes : List ℕ) (lines others : List Line) (end : ℕ) → AreLines bytes 0 lines end → IsListing bytes others
    → map shown_line lines ≡ take (length lines) (map shown_line others)
