-- The text of a body, where it has none.
use Rattle.std.proofs.Common.{◌≡◌, ℕ, List, [], ◌∷◌, ◌++◌, refl}
use Rattle.asm_lines.specs.NextStatements.{TokenStatement}
use Rattle.macro_texts.specs.TokenTexts.{text_of}
use Rattle.macro_words.specs.Statements.{body_text}

ends_in_feed : (front rest : List ℕ) → (front ++ 10 ∷ []) ++ rest ≡ [] → ⊥
ends_in_feed [] rest is = cc
ends_in_feed (byte ∷ front) rest is = cc

-- a body without a text has no statement
pub empty_body : (inside : List TokenStatement) → body_text inside ≡ [] → inside ≡ []
empty_body [] is = refl
empty_body (s ∷ rest) is = absurd (ends_in_feed (text_of s.tokens) (body_text rest) is)
