-- The items of each section in which a function began.
use Rattle.std.specs.Prelude.{◌≡◌, ◌∷◌, ◌++◌, ℕ, List, [], replicate, slice_index_or, slice_set}

-- the items of a section, none where it has no list
abbrev pub items_in : {A : Type 0} → List (List A) → (section : ℕ) → List A
items_in lists section = slice_index_or lists section []

-- an item is put last in the list of its section, if there is one
abbrev pub put_into : {A : Type 0} → (section : ℕ) → A → List (List A) → List (List A)
put_into section item lists = slice_set lists section (items_in lists section ++ item ∷ [])

-- there are more lists, each without items
pub record IsGrown {A : Type 0} (before after : List (List A)) : Type 0 where
  pub count : ℕ
  pub more : after ≡ before ++ replicate count []
