-- The difference of two symbols: nothing, the distance of two labels of one stretch, or both symbols.
use Rattle.std.proofs.Common.{◌≡◌, ℕ, ◌+◌, ◌-◌, ◌*◌, ◌^◌, ◌==◌, Bool, true, false, cond, [], ◌∷◌, Some, None, refl, sym, ap, ◌∙◌, arith}
use Rattle.std.proofs.lemmas.Bool.Decides.{nat_tests}
use Rattle.asm_expr.specs.Forms.{Form, wrapped, term_of, constant_form, symbol_form, with_term, with_terms, joined}
use Rattle.asm_expr.specs.Knowledge.{Told, absent, constant, label, form}
use Rattle.asm_expr.specs.Settled.{put_all, settled, nothing_cancels, distance_by}
use Rattle.asm_expr.proofs.SettledLemmas.{none_cancel}

-- a number in place of the form of a symbol's constant
pub with_number : (symbol number : ℕ) → wrapped number ≡ number
    → (let made : Form = record { terms = term_of symbol 1 ∷ []; constant = number } in made ≡ joined false (symbol_form symbol) (constant_form number))
unfolding with_terms
with_number symbol number small =
    let zero : 0 + number ≡ number = omega arith in
    rw (zero, small) refl

-- two symbols, the second taken off
abbrev pub both_of : ℕ → ℕ → Form
both_of one other = record { terms = term_of one 1 ∷ term_of other (2 ^ 64 - 1) ∷ []; constant = 0 }

apart_by : (one other : ℕ) → (one == other) ≡ false → joined true (symbol_form one) (symbol_form other) ≡ both_of one other
unfolding with_terms with_term
apart_by one other differ = rw differ refl

-- a symbol less itself is nothing
pub same_symbol : (told : ℕ → Told) (one other : ℕ) → one ≡ other → constant_form 0 ≡ settled told (joined true (symbol_form one) (symbol_form other))
unfolding settled put_all with_terms with_term
same_symbol told one other is =
    let same : (other == other) ≡ true = grind (arith, nat_tests) in
    rw (is, same) refl

-- two labels of one stretch
labels_apart : (stretch at origin : ℕ) (one other : ℕ) (told : ℕ → Told) → told one ≡ label stretch at → told other ≡ label stretch origin
    → settled told (both_of one other) ≡ constant_form (wrapped (at + wrapped ((2 ^ 64 - 1) * origin)))
unfolding settled put_all
labels_apart stretch at origin one other told is also =
    let same : (stretch == stretch) ≡ true = grind (arith, nat_tests) in
    let sum : wrapped (wrapped (0 + wrapped (1 * at)) + wrapped ((2 ^ 64 - 1) * origin)) ≡ wrapped (at + wrapped ((2 ^ 64 - 1) * origin)) = omega arith in
    rw (is, also, same) (ap constant_form sum)

-- where there is no distance both stay
differ_by : (stretch others at origin : ℕ) (b : Bool) → (others == stretch) ≡ b
    → cond b (Some (wrapped (at + wrapped ((2 ^ 64 - 1) * origin)))) None ≡ None → b ≡ false
differ_by stretch others at origin true is none = cc
differ_by stretch others at origin false is none = refl

stay_by : (one other : ℕ) (told : ℕ → Told) (a b : Told) → told one ≡ a → told other ≡ b → distance_by a b ≡ None
    → nothing_cancels told (term_of one 1 ∷ term_of other (2 ^ 64 - 1) ∷ []) ≡ true
stay_by one other told absent absent is also none = rw (is, also) refl
stay_by one other told absent (constant number) is also none = rw (is, also) refl
stay_by one other told absent (form made) is also none = rw (is, also) refl
stay_by one other told (constant number) absent is also none = rw (is, also) refl
stay_by one other told (constant number) (constant more) is also none = rw (is, also) refl
stay_by one other told (constant number) (form made) is also none = rw (is, also) refl
stay_by one other told (form made) absent is also none = rw (is, also) refl
stay_by one other told (form made) (constant number) is also none = rw (is, also) refl
stay_by one other told (form made) (form more) is also none = rw (is, also) refl
stay_by one other told absent (label stretch at) is also none =
    let same : (stretch == stretch) ≡ true = grind (arith, nat_tests) in
    rw (is, also, same) refl
stay_by one other told (constant number) (label stretch at) is also none =
    let same : (stretch == stretch) ≡ true = grind (arith, nat_tests) in
    rw (is, also, same) refl
stay_by one other told (form made) (label stretch at) is also none =
    let same : (stretch == stretch) ≡ true = grind (arith, nat_tests) in
    rw (is, also, same) refl
stay_by one other told (label stretch at) absent is also none =
    let same : (stretch == stretch) ≡ true = grind (arith, nat_tests) in
    rw (is, also, same) refl
stay_by one other told (label stretch at) (constant number) is also none =
    let same : (stretch == stretch) ≡ true = grind (arith, nat_tests) in
    rw (is, also, same) refl
stay_by one other told (label stretch at) (form made) is also none =
    let same : (stretch == stretch) ≡ true = grind (arith, nat_tests) in
    rw (is, also, same) refl
stay_by one other told (label stretch at) (label others origin) is also none =
    let differ = differ_by stretch others at origin (others == stretch) refl none in
    let back : (stretch == others) ≡ false = grind (arith, nat_tests) in
    let same : (stretch == stretch) ≡ true = grind (arith, nat_tests) in
    let equal : (others == others) ≡ true = grind (arith, nat_tests) in
    rw (is, also, same, equal, differ, back) refl

pub both_stay : (told : ℕ → Told) (one other : ℕ) → (one == other) ≡ false → distance_by (told one) (told other) ≡ None
    → both_of one other ≡ settled told (joined true (symbol_form one) (symbol_form other))
both_stay told one other differ none =
    none_cancel told (both_of one other) (stay_by one other told (told one) (told other) refl refl none) ∙ ap (settled told) (sym (apart_by one other differ))

-- where there is one it stands for both
distance_of : (told : ℕ → Told) (one other number : ℕ) (a b : Told) → told one ≡ a → told other ≡ b → distance_by a b ≡ Some number
    → settled told (both_of one other) ≡ constant_form number
distance_of told one other number (label stretch at) (label others origin) is also some = by (others == stretch) refl some
  where
    by : (b : Bool) → (others == stretch) ≡ b → cond b (Some (wrapped (at + wrapped ((2 ^ 64 - 1) * origin)))) None ≡ Some number
        → settled told (both_of one other) ≡ constant_form number
    by true test found =
        let same : others ≡ stretch = grind (arith, nat_tests) in
        let value : wrapped (at + wrapped ((2 ^ 64 - 1) * origin)) ≡ number = cc in
        labels_apart stretch at origin one other told is (rw same at also) ∙ ap constant_form value
    by false test found = cc
distance_of told one other number (label stretch at) absent is also some = cc
distance_of told one other number (label stretch at) (constant n) is also some = cc
distance_of told one other number (label stretch at) (form made) is also some = cc
distance_of told one other number absent b is also some = cc
distance_of told one other number (constant n) b is also some = cc
distance_of told one other number (form made) b is also some = cc

pub distance_stands : (told : ℕ → Told) (one other number : ℕ) → (one == other) ≡ false → Some number ≡ distance_by (told one) (told other)
    → constant_form number ≡ settled told (joined true (symbol_form one) (symbol_form other))
distance_stands told one other number differ some =
    sym (ap (settled told) (apart_by one other differ) ∙ distance_of told one other number (told one) (told other) refl refl (sym some))

-- symbols that are not equal differ by the test
pub differ : (one other : ℕ) → (one ≡ other → ⊥) → (one == other) ≡ false
differ one other apart = by (one == other) refl
  where
    by : (b : Bool) → (one == other) ≡ b → (one == other) ≡ false
    by true test = absurd (apart (grind (arith, nat_tests)))
    by false test = test
