-- A name that begins as no word does is no word.
use Rattle.std.proofs.Common.{◌≡◌, inl, inr, ◌&&◌, not, Bool, true, false, ◌⊎◌, cond, ℕ, List, [], ◌∷◌, find, Option, None, Some, refl, sym, ap, ◌∙◌}
use Rattle.std.specs.List.{list_all}
use Rattle.std.specs.Option.{option_map}
use Rattle.std.proofs.lemmas.Bool.{false≢true}
use Rattle.std.proofs.lemmas.Slice.Eq.{bytes_eq-Decides}
use Rattle.asm_base.specs.Tokens.{SpelledToken}
use Rattle.asm_operands.specs.Operands.{is_name, is_assignment}
use Rattle.macro_words.specs.declared.words.WordRow.{WordRow}
use Rattle.macro_words.specs.Words.{the_words, word_name, is_word, word_of, may_be_word}
use Rattle.macro_words.specs.Statements.{named_by, word_named, may_begin_with_word}

-- a test is one of the two
either : (test : Bool) → (test ≡ true) ⊎ (test ≡ false)
either true = inl refl
either false = inr refl

-- the name of a row begins as words do
abbrev begins_well : WordRow → Bool
begins_well row = may_be_word (word_name row)

both : (a b : Bool) → (a && b) ≡ true → (a ≡ true) × (b ≡ true)
both true b is = (refl, is)
both false b is = absurd (false≢true is)

not_first : (passes : Bool) (row : WordRow) (found : Option WordRow) → passes ≡ false → found ≡ None → cond passes (Some row) found ≡ None
not_first passes row found is none = rw is none

none_in : (rows : List WordRow) (name : List ℕ) → list_all begins_well rows ≡ true → may_be_word name ≡ false → find (is_word name) rows ≡ None
none_in [] name well is = refl
none_in (row ∷ rows) name well is =
    elim (either (is_word name row)) [
      | inl same ↦ absurd (false≢true (sym is ∙ ap may_be_word (sym ((bytes_eq-Decides (word_name row) name).0 same)) ∙ (both _ _ well).0))
      | inr other ↦ not_first (is_word name row) row (find (is_word name) rows) other (none_in rows name (both _ _ well).1 is)
    ]

all_well : list_all begins_well the_words ≡ true
unfolding the_words
all_well = refl

pub no_word : (name : List ℕ) → may_be_word name ≡ false → word_of name ≡ None
unfolding word_of
no_word name is = ap (option_map (λ row. row.word)) (none_in the_words name all_well is)

named_or_not : (named : Bool) (name : List ℕ) → may_be_word name ≡ false → word_named (cond named (Some name) None) ≡ None
named_or_not true name is = no_word name is
named_or_not false name is = refl

-- nor is it the word of a statement that begins with it
pub no_word_named : (tokens : List SpelledToken) → may_begin_with_word tokens ≡ false → word_named (named_by tokens) ≡ None
no_word_named [] is = refl
no_word_named (token ∷ rest) is = named_or_not (is_name token && not (is_assignment rest)) token.bytes is
