-- The words of macros, repeats, conditionals and files, by their names.
use Rattle.std.specs.Prelude.{ℕ, ◌+◌, ◌-◌, ◌*◌, ◌%◌, ◌==◌, ◌&&◌, not, nat_lt, Bool, true, false, List, [], ◌∷◌, codes, length, take, drop, slice_index, find, if◌then◌else◌, Option, option_map}
use Rattle.std.specs.List.{list_all, list_any}
use Rattle.std.specs.Str.{bytes_eq}
use Rattle.macro_words.specs.declared.words.Word.{Word}
use Rattle.macro_words.specs.declared.words.WordRow.{WordRow}
use Rattle.macro_words.specs.declared.words.TheConstants.{WORDS, WORD_SLOTS}

-- the rows of the table
unfoldable pub the_words : List WordRow
the_words = WORDS

-- the row's name, without the spaces after it
abbrev pub word_name : WordRow → List ℕ
word_name row = take row.length row.name

-- the row is that of this name
abbrev pub is_word : List ℕ → WordRow → Bool
is_word name row = bytes_eq (word_name row) name

-- the word of this name
unfoldable pub word_of : List ℕ → Option Word
word_of name = option_map (λ row. row.word) (find (is_word name) the_words)

-- the name has no space, and nothing but spaces stands after it
abbrev pub has_whole_name : WordRow → Bool
has_whole_name row = list_all (λ b. not (b == 32)) (word_name row) && list_all (λ b. b == 32) (drop row.length row.name)

-- no two rows have one name
abbrev pub all_named_apart : List WordRow → Bool
all_named_apart [] = true
all_named_apart (row ∷ rows) = list_all (λ other. not (is_word (word_name row) other)) rows && all_named_apart rows

-- a word's name may go on so behind its point
abbrev pub may_go_on : ℕ → ℕ → Bool
may_go_on second third = list_any (λ byte. byte == second) (codes "iermp") && list_any (λ byte. byte == third) (codes "frnlxeau")

-- a word's name may begin so
abbrev pub may_be_word : List ℕ → Bool
may_be_word [] = false
may_be_word (first ∷ []) = false
may_be_word (first ∷ second ∷ []) = false
may_be_word (first ∷ second ∷ third ∷ rest) = first == 46 && may_go_on second third

-- the slots: each has the number of a row, or 255
unfoldable pub the_word_slots : List ℕ
the_word_slots = WORD_SLOTS

-- the slot of a name of this length with these last two bytes
abbrev pub slot_of : ℕ → ℕ → ℕ → ℕ
slot_of size before last = (8 * (size % 64) + before + 10 * last) % 64

-- the slot of a name
unfoldable pub slot : List ℕ → ℕ
slot name =
    if nat_lt (length name) 2 then 0 else slot_of (length name) (slice_index name (length name - 2)) (slice_index name (length name - 1))

-- what stands in the slot of a name: the number of a row, or 255
abbrev pub row_in : List ℕ → List ℕ → ℕ
row_in slots name = slice_index slots (slot name)

-- the rows, from this number on, stand in the slots of their names
abbrev pub all_in_slots : List ℕ → ℕ → List WordRow → Bool
all_in_slots slots number [] = true
all_in_slots slots number (row ∷ rows) = (row_in slots (word_name row) == number) && all_in_slots slots (number + 1) rows
