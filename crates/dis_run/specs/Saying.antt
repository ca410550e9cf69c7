-- What is said of a text and of a listing.
use Rattle.std.specs.Prelude.{◌≡◌, ℕ, ◌≤◌, List, [], length, take}
use Rattle.std.specs.Option.{option_map}
use Rattle.std.specs.Prelude.{Option}
use Rattle.asm_base.specs.Console.{Said, after_say}
use Rattle.asm_base.specs.declared.outside.Channel.{Channel}
use Rattle.asm_base.specs.declared.outside.Channel.TheVariants as channel
use Rattle.x86_decode.specs.declared.fronts.Front.{Front}
use Rattle.listings.specs.Lines.{Line, AreLines}
use Rattle.listings.specs.LineTexts.{lines_text}

-- the text was said on this channel
abbrev pub Says : Channel → List ℕ → Option Said → Option Said → Type 0
Says to text before after = after ≡ option_map (after_say to text) before

-- a front of the text was said
abbrev pub SaysFront : Channel → List ℕ → Option Said → Option Said → Type 0
SaysFront to text before after = (n : ℕ) × (n ≤ length text) × Says to (take n text) before after

-- the lines of the bytes from the one offset to the other were said on standard output
pub record SaysLines (text : Front → List ℕ) (bytes : List ℕ) (at end : ℕ) (before after : Option Said) : Type 0 where
  pub lines : List Line
  pub listed : AreLines bytes at lines end
  pub said : Says channel.Out (lines_text text lines) before after

-- a front of what the first lines from the offset on say was said
pub record SaysLinesInPart (text : Front → List ℕ) (bytes : List ℕ) (at : ℕ) (before after : Option Said) : Type 0 where
  pub lines : List Line
  pub end : ℕ
  pub listed : AreLines bytes at lines end
  pub said : SaysFront channel.Out (lines_text text lines) before after
