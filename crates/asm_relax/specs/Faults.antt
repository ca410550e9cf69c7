-- The first fault of a list.
use Rattle.std.specs.Prelude.{List, [], ◌∷◌, Option, None, Some}

-- the first fault, or else the later one
abbrev pub or_later : {E : Type 0} → Option E → Option E → Option E
or_later (Some fault) later = Some fault
or_later None later = later

-- the fault of the first element that has one
unfoldable pub first_of : {X E : Type 0} → (X → Option E) → List X → Option E
first_of fault [] = None
first_of fault (x ∷ xs) = or_later (fault x) (first_of fault xs)
