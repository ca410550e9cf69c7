-- What stands under numbers: a list, in which there is none under some.
use Rattle.std.specs.Prelude.{ℕ, ◌+◌, ◌-◌, List, ◌++◌, Option, None, Some, length, replicate, slice_get, slice_set}
use Rattle.std.specs.Option.{option_and_then}

-- what stands under a number, if anything
abbrev pub under : {A : Type 0} → ℕ → List (Option A) → Option A
under number items = option_and_then (λ item. item) (slice_get items number)

-- with room for the numbers below this one
abbrev pub with_room : {A : Type 0} → ℕ → List (Option A) → List (Option A)
with_room count items = items ++ replicate (count - length items) None

-- this stands under the number from here on
abbrev pub put_under : {A : Type 0} → ℕ → A → List (Option A) → List (Option A)
put_under number item items = slice_set (with_room (number + 1) items) number (Some item)
