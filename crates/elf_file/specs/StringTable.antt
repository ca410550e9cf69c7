-- String tables (gABI, chapter 4, "String Table").
use Rattle.std.specs.Prelude.{ℕ, ◌+◌, ◌==◌, Bool, not, List, [], ◌∷◌, ◌++◌, length, take, drop}
use Rattle.std.specs.List.{prefix_len}

-- a name with the zero byte that ends it; the empty name takes no bytes
abbrev pub ended_name : List ℕ → List ℕ
ended_name [] = []
ended_name (c ∷ cs) = (c ∷ cs) ++ 0 ∷ []

-- the names, one after the other
abbrev pub strings : List (List ℕ) → List ℕ
strings [] = []
strings (name ∷ names) = ended_name name ++ strings names

-- the table of the names, which begins with a zero byte
unfoldable pub string_table_of : List (List ℕ) → List ℕ
string_table_of names = 0 ∷ strings names

-- where a name stands, in a table that is this long before it; the empty name is at 0
abbrev pub name_offset_after : ℕ → List ℕ → ℕ
name_offset_after before [] = 0
name_offset_after before (c ∷ cs) = before

-- where each of the names stands, in a table that is this long before them
abbrev pub name_offsets_after : ℕ → List (List ℕ) → List ℕ
name_offsets_after before [] = []
name_offsets_after before (name ∷ names) =
    name_offset_after before name ∷ name_offsets_after (before + length (ended_name name)) names

-- where each of the names stands in their table
unfoldable pub name_offsets : List (List ℕ) → List ℕ
name_offsets names = name_offsets_after 1 names

-- the byte does not end a name
abbrev pub is_no_end : ℕ → Bool
is_no_end byte = not (byte == 0)

-- what stands before the first zero byte from this offset on
abbrev pub string_at : ℕ → List ℕ → List ℕ
string_at offset bytes = take (prefix_len is_no_end (drop offset bytes)) (drop offset bytes)
