-- Lines of repeats of the program as the definitions have them, and one step of reading values.
use Rattle.std.specs.Prelude.{◌≡◌, ℕ, ◌<◌, ◌≤◌, List, ◌++◌, length, drop, map}
use Rattle.std.specs.Global.{Vec}
use Rattle.asm_base.specs.Tokens.{SpelledToken}
use Rattle.macro_texts.specs.declared.repeats.EachLine.{EachLine}
use Rattle.macro_texts.specs.Repeats.{EachLineAs, values_of}

-- texts as lists of bytes
abbrev pub texts : List (Vec ℕ) → List (List ℕ)
texts values = map (λ value. value.items) values

-- a line with its texts as lists of bytes
abbrev pub each_seen : EachLine → EachLineAs
each_seen line = record { name = line.name.items; values = texts line.values.items }

-- one value more is read, of so many tokens with the comma behind it
pub record IsValueRead (old new : List (List ℕ)) (tokens : List SpelledToken) (n : ℕ) : Type 0 where
  pub some : 0 < n
  pub within : n ≤ length tokens
  pub gives : new ++ values_of (drop n tokens) ≡ old ++ values_of tokens
