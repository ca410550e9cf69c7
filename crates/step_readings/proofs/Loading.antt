-- Bytes that differ from those of an encoding in its fields alone are those with some values in the fields.
use Rattle.std.proofs.Common.{◌≡◌, ℕ, zero, suc, ◌+◌, ◌-◌, ◌<◌, ◌≤◌, nat_lt, Bool, true, false, List, [], ◌∷◌, ◌++◌, take, drop, length, get_or, Option, Some, None, refl, sym, ap, subst, inl, inr, arith, lit<, ◌∙◌}
use Rattle.std.proofs.lemmas.Bool.Decides.{nat_tests}
use Rattle.std.proofs.lemmas.Grind.{same_number_lists}
use Rattle.std.proofs.lemmas.List.{length-append, length-take-le, length-drop, get_or_append_left, get_or-append_right, get_or-take, get_or-drop}
use Rattle.x86_parts.specs.declared.encoded.Field.{Field}
use Rattle.x86_encode.specs.FieldPlaces.{IsWidth, AreApart, Apart, EncodingsApart}
use Rattle.x86_parts.specs.Filling.{Coding, low_bytes, filled, valued}
use Rattle.x86_steps.specs.Leading.{distance_of}
use Rattle.step_readings.specs.Obeying.{IsObeyed}
use Rattle.step_readings.specs.Filled.{EncodingsObey}
use Rattle.step_readings.specs.Held.{AreBytes}
use Rattle.step_readings.specs.Loaded.{IsBeside, HoldsValue, LoadedAreFilled, HasValue, LoadedHaveValues, LoadedEncodingsObey}
use Rattle.step_readings.proofs.Holding.{any_held}

-- a field stands in so many bytes
pub record IsIn (field : Field) (count : ℕ) : Type 0 where
  pub ends : field.at + field.size ≤ count
  pub width : IsWidth field.size

-- if there is one
abbrev IsInside : Option Field → ℕ → Type 0
IsInside None count = Unit {0}
IsInside (Some field) count = IsIn field count

low_length : (size v : ℕ) → IsWidth size → length (low_bytes size v) ≡ size
low_length size v (inl e) = subst (λ n. length (low_bytes n v) ≡ n) (sym e) refl
low_length size v (inr (inl e)) = subst (λ n. length (low_bytes n v) ≡ n) (sym e) refl
low_length size v (inr (inr (inl e))) = subst (λ n. length (low_bytes n v) ≡ n) (sym e) refl
low_length size v (inr (inr (inr e))) = subst (λ n. length (low_bytes n v) ≡ n) (sym e) refl

filled_length : (field : Option Field) (v : ℕ) (bytes : List ℕ) → IsInside field (length bytes) → length (filled field v bytes) ≡ length bytes
filled_length None v bytes inside = refl
filled_length (Some field) v bytes inside =
    let ends = inside.ends in
    let low = low_length field.size v inside.width in
    let front = length-take-le field.at bytes (omega arith) in
    let back = length-drop (field.at + field.size) bytes in
    let inner = length-append (low_bytes field.size v) (drop (field.at + field.size) bytes) in
    let whole = length-append (take field.at bytes) (low_bytes field.size v ++ drop (field.at + field.size) bytes) in
    omega arith

-- where a value stands in a field, and other bytes are the same, all are
field_same : (field : Option Field) (v k : ℕ) (bytes loaded : List ℕ) → IsInside field (length bytes) → HoldsValue field v loaded
    → (IsBeside field k → get_or bytes k 0 ≡ get_or loaded k 0) → get_or (filled field v bytes) k 0 ≡ get_or loaded k 0
field_same None v k bytes loaded inside stands beside = beside tt
field_same (Some field) v k bytes loaded inside stands beside = by_test (nat_lt k field.at) (nat_lt k (field.at + field.size)) refl refl
  where
    low : List ℕ
    low = low_bytes field.size v

    back : List ℕ
    back = drop (field.at + field.size) bytes

    front_long : length (take field.at bytes) ≡ field.at
    front_long = let ends = inside.ends in length-take-le field.at bytes (omega arith)

    low_long : length low ≡ field.size
    low_long = low_length field.size v inside.width

    is_below : (a b : ℕ) → nat_lt a b ≡ true → a < b
    is_below a b h = grind (arith, nat_tests)

    is_above : (a b : ℕ) → nat_lt a b ≡ false → b ≤ a
    is_above a b h = grind (arith, nat_tests)

    in_front : k < field.at → get_or (take field.at bytes ++ (low ++ back)) k 0 ≡ get_or loaded k 0
    in_front h =
        get_or_append_left (take field.at bytes) (low ++ back) 0 k (let l = front_long in omega arith)
        ∙ get_or-take field.at bytes k 0 h ∙ beside (inl h)

    inner : field.at ≤ k → k < field.at + field.size → get_or (take field.at bytes ++ (low ++ back)) k 0 ≡ get_or loaded k 0
    inner h g =
        let l = low_long in
        get_or-append_right (take field.at bytes) (low ++ back) field.at k 0 front_long h
        ∙ get_or_append_left low back 0 (k - field.at) (omega arith)
        ∙ ap (λ x. get_or x (k - field.at) 0) stands
        ∙ get_or-take field.size (drop field.at loaded) (k - field.at) 0 (omega arith)
        ∙ get_or-drop field.at loaded (k - field.at) 0
        ∙ ap (λ n. get_or loaded n 0) (omega arith)

    beyond : field.at + field.size ≤ k → get_or (take field.at bytes ++ (low ++ back)) k 0 ≡ get_or loaded k 0
    beyond h =
        get_or-append_right (take field.at bytes) (low ++ back) field.at k 0 front_long (omega arith)
        ∙ get_or-append_right low back field.size (k - field.at) 0 low_long (omega arith)
        ∙ get_or-drop (field.at + field.size) bytes (k - field.at - field.size) 0
        ∙ ap (λ n. get_or bytes n 0) (omega arith) ∙ beside (inr h)

    by_test : (a b : Bool) → nat_lt k field.at ≡ a → nat_lt k (field.at + field.size) ≡ b
        → get_or (take field.at bytes ++ (low ++ back)) k 0 ≡ get_or loaded k 0
    by_test true b e f = in_front (is_below k field.at e)
    by_test false true e f = inner (is_above k field.at e) (is_below k (field.at + field.size) f)
    by_test false false e f = beyond (is_above k (field.at + field.size) f)

-- the fields of an encoding stand in its bytes
displacement_in : (made : Coding) (apart : AreApart made) (field : Option Field) → made.displacement ≡ field → IsInside field (length made.bytes)
displacement_in made apart None e = tt
displacement_in made apart (Some field) e =
    let m = apart.displacement field e in
    let size = m.size in
    let at = m.at in
    record { ends = omega arith; width = inr (inr (inl m.size)) }

immediate_in : (made : Coding) (apart : AreApart made) (field : Option Field) → made.immediate ≡ field → IsInside field (length made.bytes)
immediate_in made apart None e = tt
immediate_in made apart (Some field) e =
    let m = apart.immediate field e in
    let size = m.size in
    let at = m.at in
    record { ends = omega arith; width = subst IsWidth (sym m.size) m.width }

pub loaded_filled : LoadedAreFilled
loaded_filled made loaded v w apart is stands_v stands_w =
    let first = filled made.displacement v made.bytes in
    let inside_v = displacement_in made apart made.displacement refl in
    let first_long = filled_length made.displacement v made.bytes inside_v in
    let inside_w = subst (IsInside made.immediate) (sym first_long) (immediate_in made apart made.immediate refl) in
    let long = filled_length made.immediate w first inside_w ∙ first_long ∙ sym is.long in
    same_number_lists (filled made.immediate w first) loaded long
    (λ k h. field_same made.immediate w k first loaded inside_w stands_w
    (λ beside_w. field_same made.displacement v k made.bytes loaded inside_v stands_v (λ beside_v. is.same k beside_v beside_w)))

take_bytes : (n : ℕ) (xs : List ℕ) → AreBytes xs → AreBytes (take n xs)
take_bytes zero xs h i = lit< tt
take_bytes (suc n) [] h i = lit< tt
take_bytes (suc n) (x ∷ xs) h zero = h zero
take_bytes (suc n) (x ∷ xs) h (suc i) = take_bytes n xs (λ j. h (suc j)) i

drop_bytes : (n : ℕ) (xs : List ℕ) → AreBytes xs → AreBytes (drop n xs)
drop_bytes zero xs h i = h i
drop_bytes (suc n) [] h i = lit< tt
drop_bytes (suc n) (x ∷ xs) h i = drop_bytes n xs (λ j. h (suc j)) i

has_value : (field : Option Field) (loaded : List ℕ) → IsInside field (length loaded) → AreBytes loaded → HasValue field loaded
has_value None loaded inside bytes = record { value = 0; within = lit< tt; holds = refl; stands = tt }
has_value (Some field) loaded inside bytes =
    let ends = inside.ends in
    let rest = length-drop field.at loaded in
    let held = any_held field.kind field.size (take field.size (drop field.at loaded)) inside.width
    (length-take-le field.size (drop field.at loaded) (omega arith)) (take_bytes field.size (drop field.at loaded) (drop_bytes field.at loaded bytes)) in
    record { value = held.value; within = held.within; holds = held.holds; stands = held.bytes_are }

pub have_values : LoadedHaveValues
have_values made loaded apart is = record {
  displacement = has_value made.displacement loaded (subst (IsInside made.displacement) (sym is.long) (displacement_in made apart made.displacement refl)) is.bytes;
  immediate = has_value made.immediate loaded (subst (IsInside made.immediate) (sym is.long) (immediate_in made apart made.immediate refl)) is.bytes;
}

pub loaded_obey : EncodingsApart → EncodingsObey → LoadedEncodingsObey
loaded_obey apart obey shape values made loaded code rest v w place plain coded is range held_v held_w stands_v stands_w stands =
    let same = loaded_filled made loaded v w (subst Apart coded (apart shape values)) is stands_v stands_w in
    subst (λ bytes. IsObeyed (shape values) bytes (distance_of (valued (length made.bytes) v w (shape values).first)) code place) same
    (obey shape values made code rest v w place plain range coded held_v held_w (stands ∙ ap (λ bytes. bytes ++ rest) (sym same)))
