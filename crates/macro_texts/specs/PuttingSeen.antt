-- What the program puts in, as the definitions have it.
use Rattle.std.specs.Prelude.{◌≡◌, ℕ, ◌<◌, ◌≤◌, List, [], ◌∷◌, ◌++◌, length, drop}
use Rattle.std.specs.Fmt.{decimal}
use Rattle.macro_texts.specs.declared.putting.Put.{Put}
use Rattle.macro_texts.specs.declared.putting.Put.TheVariants.{Backslash, Nothing, Number, Text}
use Rattle.macro_texts.specs.declared.putting.Piece.{Piece}
use Rattle.macro_texts.specs.TokenTexts.{value_seen}
use Rattle.macro_texts.specs.Arguments.{ArgumentAs}
use Rattle.macro_texts.specs.Putting.{PutAs, put}

-- the text that is put in
abbrev pub put_text : Put → List ℕ
put_text Backslash = 92 ∷ []
put_text Nothing = []
put_text (Number number) = decimal number
put_text (Text value) = value_seen value

-- the same, with how many bytes it takes
abbrev pub piece_seen : Piece → PutAs
piece_seen piece = record { text = put_text piece.put; taken = piece.taken }

-- so many bytes of a body more are read: what was made and what the rest makes is what all makes
pub record IsPutOn (arguments : List ArgumentAs) (number : ℕ) (old new body : List ℕ) (n : ℕ) : Type 0 where
  pub some : 0 < n
  pub within : n ≤ length body
  pub makes : new ++ put arguments number (drop n body) ≡ old ++ put arguments number body
