-- What is left of a text where nothing else is to come.
use Rattle.std.proofs.Common.{◌≡◌, ℕ, true, List, [], ◌∷◌, ◌++◌, map, refl, sym, ap, ◌∙◌}
use Rattle.std.proofs.lemmas.List.{append-nil}
use Rattle.asm_base.specs.declared.tokens.Token.{Token}
use Rattle.asm_base.specs.Dividing.{pieces_from}
use Rattle.asm_lines.specs.Intervals.{trimmed}
use Rattle.asm_lines.specs.NextStatements.{TokenStatement, in_tokens, next_in_tokens, statements_left, found_left, IsNext, IsEnd}
use Rattle.macro_blocks.specs.declared.places.Place.{Place}
use Rattle.macro_blocks.specs.declared.places.Place.TheVariants.{File, At}
use Rattle.macro_blocks.specs.declared.copies.EachCopy.{EachCopy}
use Rattle.macro_blocks.specs.Places.{file_of, standing, pos_in, read_at, left_in, none_found, is_whole}
use Rattle.macro_blocks.specs.Copies.{later_of}

-- a statement of a file stands where it is
own_places : (file : ℕ) (statements : List TokenStatement) → map (standing (File file)) statements ≡ statements
own_places file [] = refl
own_places file (s ∷ rest) = ap (λ others. s ∷ others) (own_places file rest)

pub file_left : (file : ℕ) (text : List ℕ) (at : ℕ) → left_in (File file) text at ≡ map in_tokens (statements_left file text at)
unfolding left_in
file_left file text at = own_places file (map in_tokens (statements_left file text at))

-- nothing is to come
pub none_later : (place : Place) (text : List ℕ) (each : EachCopy) (front : List TokenStatement) → each.line.values.items ≡ [] → each.next ≡ 0 → front ++ later_of place text 0 each ≡ front
none_later place text each front none next = rw (next, none) (append-nil front)

-- the statement that stands next is the first of those that are left
head_here : (place : Place) (line : ℕ) (read : List Token) → standing place (next_in_tokens (file_of place) line read) ≡ read_at (pos_in place line) read
head_here (File file) line read = refl
head_here (At pos) line read = refl

pub next_left : (place : Place) (text : List ℕ) (at : ℕ) (read : List Token) (line next there : ℕ) → IsNext text at read line next there → left_in place text at ≡ read_at (pos_in place line) read ∷ left_in place text next
unfolding left_in
next_left place text at read line next there is =
    ap (map (standing place)) (is.statements (file_of place)) ∙ ap (λ s. s ∷ map (standing place) (map in_tokens (statements_left (file_of place) text next))) (head_here place line read)

-- nothing is left at the end
pub end_left : (place : Place) (text : List ℕ) (at : ℕ) → IsEnd text at → left_in place text at ≡ []
unfolding left_in
end_left place text at is = ap (λ these. map (standing place) (map in_tokens these)) (is.statements (file_of place))

-- no fault stands behind the next statement
pub whole_next : (text : List ℕ) (at : ℕ) (read : List Token) (line next there : ℕ) → IsNext text at read line next there → is_whole text at ≡ true → is_whole text next ≡ true
whole_next text at read line next there is whole = ap none_found (sym is.faults) ∙ whole

-- a text without a byte
pub empty_whole : is_whole [] 0 ≡ true
unfolding found_left pieces_from trimmed
empty_whole = refl

pub empty_left : (place : Place) → left_in place [] 0 ≡ []
unfolding left_in statements_left pieces_from trimmed
empty_left place = refl
