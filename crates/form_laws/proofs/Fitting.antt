-- Numbers below 2^64: what operators make of such numbers, and the numbers of forms.
use Rattle.std.proofs.Common.{◌≡◌, ◌<◌, ◌+◌, ◌*◌, ◌-◌, ◌/◌, ◌%◌, ℕ, Bool, true, false, cond, List, [], ◌∷◌, map, Option, None, Some, Result, Ok, Err, refl, subst, arith}
use Rattle.std.specs.Prelude.{◌^◌, ◌==◌, ◌&&◌, ◌||◌, not, nat_lt, if◌then◌else◌}
use Rattle.std.proofs.lemmas.Bool.{leb-true}
use Rattle.std.proofs.lemmas.Bool.Decides.{nat_tests}
use Rattle.std.proofs.lemmas.Nat.{and_le_l, or_lt, xor_lt, div_below, mod_below, pow_pos}
use Rattle.asm_base.specs.Refusals.{◌>>=◌}
use Rattle.asm_expr.specs.declared.faults.ExprCause.{ExprCause}
use Rattle.asm_expr.specs.declared.faults.ExprCause.TheVariants.{DivisionByZero, NotASumOfSymbols}
use Rattle.asm_expr.specs.declared.forms.Term.{Term}
use Rattle.asm_expr.specs.declared.trees.UnaryOp.{UnaryOp}
use Rattle.asm_expr.specs.declared.trees.UnaryOp.TheVariants.{Minus, Complement}
use Rattle.asm_expr.specs.declared.trees.BinaryOp.{BinaryOp}
use Rattle.asm_expr.specs.declared.trees.BinaryOp.TheVariants.{Mul, Div, Rem, Shl, Shr, Or, And, Xor, OrNot, Add, Sub, Eq, Ne, Lt, Gt, Le, Ge, BothTrue, OneTrue}
use Rattle.asm_expr.specs.Trees.{Tree, number, name, here, unary, binary}
use Rattle.asm_expr.specs.Forms.{Form, wrapped, constant_form, signed, joined, sum_of, difference_of}
use Rattle.asm_expr.specs.Knowledge.{Told, absent, constant, label, form, Knowledge}
use Rattle.asm_expr.specs.Settled.{spot_of, cancelled_number, put_one, put_all, settled}
use Rattle.asm_expr.specs.Arithmetic.{is_negative, magnitude, one_of, quotient, remainder, is_signed_below, comparison, truth, is_true, complement, unless_zero, combined}
use Rattle.asm_expr.specs.Linear.{form_by, form_of, constant_or, constant_of, unary_form, constant_binary, binary_form, linear}
use Rattle.asm_operands.specs.Expressions.{form_in}
use Rattle.asm_values.specs.State.{Placed, here as place_of, known_here}
use Rattle.asm_symbols.specs.Looking.{told}
use Rattle.form_laws.specs.Numbers.{FormsFit}
use Rattle.form_laws.proofs.Linear.{statement_ok}
use Rattle.form_laws.proofs.Steps.{err-ok, same_Ok, both_ok}
use Rattle.form_laws.proofs.There.{told_form, told_number}

-- the number has 64 bits
abbrev pub Fits : ℕ → Type 0
Fits n = n < 2 ^ 64

-- so do all numbers of the tree
abbrev pub NumbersFit : Tree → Type 0
NumbersFit (number n) = Fits n
NumbersFit (name written) = Unit {0}
NumbersFit here = Unit {0}
NumbersFit (unary op operand) = NumbersFit operand
NumbersFit (binary op left right) = NumbersFit left × NumbersFit right

-- OPERATORS

wrapped_fits : (n : ℕ) → Fits (wrapped n)
wrapped_fits n = omega arith

signed_fits : (minus : Bool) (n : ℕ) → Fits n → Fits (signed minus n)
signed_fits true n fits = wrapped_fits (2 ^ 64 - wrapped n)
signed_fits false n fits = fits

magnitude_by : (b : Bool) (n : ℕ) → is_negative n ≡ b → Fits n → Fits (if b then 2 ^ 64 - n else n)
magnitude_by true n is fits = let high = leb-true (2 ^ 63) n is in omega (arith, high)
magnitude_by false n is fits = fits

magnitude_fits : (n : ℕ) → Fits n → Fits (magnitude n)
magnitude_fits n fits = magnitude_by (is_negative n) n refl fits

positive_by : (b : Bool) (n : ℕ) → 0 < n → Fits n → 0 < (if b then 2 ^ 64 - n else n)
positive_by true n some fits = omega (arith, some, fits)
positive_by false n some fits = some

positive : (n : ℕ) → (n == 0) ≡ false → 0 < n
positive n is = grind (arith, nat_tests)

quotient_fits : (a b : ℕ) → 0 < b → Fits a → Fits b → Fits (quotient a b)
quotient_fits a b some first second =
    let above = magnitude_fits a first in
    let below = positive_by (is_negative b) b some second in
    signed_fits (one_of (is_negative a) (is_negative b)) (magnitude a / magnitude b)
    (div_below (magnitude a) (magnitude b) (2 ^ 64) below (omega (arith, above, below)))

remainder_fits : (a b : ℕ) → 0 < b → Fits a → Fits b → Fits (remainder a b)
remainder_fits a b some first second =
    let below = positive_by (is_negative b) b some second in
    let less = mod_below (magnitude a) (magnitude b) below in
    let high = magnitude_fits b second in
    signed_fits (is_negative a) (magnitude a % magnitude b) (omega (arith, less, high))

either_fits : (b : Bool) (one other : ℕ) → Fits one → Fits other → Fits (if b then one else other)
either_fits true one other first second = first
either_fits false one other first second = second

comparison_fits : (holds : Bool) → Fits (comparison holds)
comparison_fits holds = either_fits holds (2 ^ 64 - 1) 0 (omega arith) (omega arith)

truth_fits : (holds : Bool) → Fits (truth holds)
truth_fits holds = either_fits holds 1 0 (omega arith) (omega arith)

complement_fits : (n : ℕ) → Fits (complement n)
complement_fits n = omega arith

ok_fits : (value n : ℕ) → Fits value → (let made : Result ℕ ExprCause = Ok value in made ≡ Ok n) → Fits n
ok_fits value n fits is = subst Fits (same_Ok value n is) fits

unless_fits : (b value n : ℕ) → ((b == 0) ≡ false → Fits value) → unless_zero b value ≡ Ok n → Fits n
unless_fits b value n fits is = by (b == 0) fits is
  where
    by : (zero : Bool) → (zero ≡ false → Fits value) → (if zero then Err DivisionByZero else Ok value) ≡ Ok n → Fits n
    by true low has = err-ok _ n has
    by false low has = ok_fits value n (low refl) has

shifted_fits : (a b : ℕ) → Fits a → Fits (a / 2 ^ b)
shifted_fits a b fits = let some = pow_pos b in div_below a (2 ^ b) (2 ^ 64) some (omega (arith, fits, some))

combined_fits : (op : BinaryOp) (a b n : ℕ) → Fits a → Fits b → combined op a b ≡ Ok n → Fits n
unfolding combined
combined_fits Mul a b n first second is = ok_fits _ n (wrapped_fits (a * b)) is
combined_fits Div a b n first second is = unless_fits b (quotient a b) n (λ some. quotient_fits a b (positive b some) first second) is
combined_fits Rem a b n first second is = unless_fits b (remainder a b) n (λ some. remainder_fits a b (positive b some) first second) is
combined_fits Shl a b n first second is = ok_fits _ n (either_fits (nat_lt b 64) (wrapped (a * 2 ^ b)) 0 (wrapped_fits (a * 2 ^ b)) (omega arith)) is
combined_fits Shr a b n first second is = ok_fits _ n (either_fits (nat_lt b 64) (a / 2 ^ b) 0 (shifted_fits a b first) (omega arith)) is
combined_fits Or a b n first second is = ok_fits _ n (or_lt 64 a b first second) is
combined_fits And a b n first second is = let low = and_le_l a b in ok_fits _ n (omega (arith, low, first)) is
combined_fits Xor a b n first second is = ok_fits _ n (xor_lt 64 a b first second) is
combined_fits OrNot a b n first second is = ok_fits _ n (or_lt 64 a (complement b) first (complement_fits b)) is
combined_fits Add a b n first second is = ok_fits _ n (wrapped_fits (a + b)) is
combined_fits Sub a b n first second is = ok_fits _ n (wrapped_fits (a + signed true b)) is
combined_fits Eq a b n first second is = ok_fits _ n (comparison_fits (a == b)) is
combined_fits Ne a b n first second is = ok_fits _ n (comparison_fits (not (a == b))) is
combined_fits Lt a b n first second is = ok_fits _ n (comparison_fits (is_signed_below a b)) is
combined_fits Gt a b n first second is = ok_fits _ n (comparison_fits (is_signed_below b a)) is
combined_fits Le a b n first second is = ok_fits _ n (comparison_fits (not (is_signed_below b a))) is
combined_fits Ge a b n first second is = ok_fits _ n (comparison_fits (not (is_signed_below a b))) is
combined_fits BothTrue a b n first second is = ok_fits _ n (truth_fits (is_true a && is_true b)) is
combined_fits OneTrue a b n first second is = ok_fits _ n (truth_fits (is_true a || is_true b)) is

-- FORMS

put_fits : (told' : ℕ → Told) (whole : List Term) (made : Form) (terms : List Term) → Fits made.constant → Fits (put_all (map (spot_of told') whole) told' made terms).constant
unfolding put_all
put_fits told' whole made [] fits = fits
put_fits told' whole made (term ∷ terms) fits =
    put_fits told' whole (put_one made term (cancelled_number (map (spot_of told') whole) (spot_of told' term))) terms
    (by (cancelled_number (map (spot_of told') whole) (spot_of told' term)))
  where
    by : (found : Option ℕ) → Fits (put_one made term found).constant
    by None = fits
    by (Some n) = wrapped_fits (made.constant + wrapped (term.coefficient * n))

settled_fits : (told' : ℕ → Told) (made : Form) → Fits made.constant → Fits (settled told' made).constant
unfolding settled
settled_fits told' made fits = put_fits told' made.terms (constant_form made.constant) made.terms fits

joined_fits : (minus : Bool) (one other : Form) → Fits (joined minus one other).constant
joined_fits minus one other = wrapped_fits (one.constant + signed minus other.constant)

-- what is known of symbols has 64 bits
pub record KnowsFit (known : Knowledge) : Type 0 where
  pub numbers : (own n : ℕ) → known.told own ≡ constant n → Fits n
  pub forms : (own : ℕ) (made : Form) → known.told own ≡ form made → Fits made.constant

symbol_fits : (told' : ℕ → Told) (own : ℕ) (known : Told) → ((n : ℕ) → known ≡ constant n → Fits n) → ((made : Form) → known ≡ form made → Fits made.constant)
    → Fits (form_by told' own known).constant
symbol_fits told' own absent number' made' = omega arith
symbol_fits told' own (constant n) number' made' = number' n refl
symbol_fits told' own (label stretch at) number' made' = omega arith
symbol_fits told' own (form made) number' made' = settled_fits told' made (made' made refl)

form_fits : (one made : Form) → Fits one.constant → (let given : Result Form ExprCause = Ok one in given ≡ Ok made) → Fits made.constant
form_fits one made fits is = let same : one ≡ made = same_Ok one made is in subst (λ (f : Form). Fits f.constant) same fits

constant_is : (fault : ExprCause) (terms : List Term) (n a : ℕ) → constant_or fault terms n ≡ Ok a → n ≡ a
constant_is fault [] n a is = same_Ok n a is
constant_is fault (term ∷ terms) n a is = err-ok fault a is

constant_fits : (one : Form) (a : ℕ) → Fits one.constant → constant_of one ≡ Ok a → Fits a
constant_fits one a fits is = subst Fits (constant_is NotASumOfSymbols one.terms one.constant a is) fits

unary_fits : (told' : ℕ → Told) (op : UnaryOp) (one made : Form) → Fits one.constant → unary_form told' op one ≡ Ok made → Fits made.constant
unfolding unary_form
unary_fits told' Minus one made fits is =
    form_fits (settled told' (difference_of (constant_form 0) one)) made (settled_fits told' (difference_of (constant_form 0) one) (joined_fits true (constant_form 0) one)) is
unary_fits told' Complement one made fits is =
    both_ok (constant_of one) (λ n. Ok (constant_form (complement n))) made is (λ n n_is made_is. form_fits (constant_form (complement n)) made (complement_fits n) made_is)

constants_fit : (op : BinaryOp) (one other made : Form) → Fits one.constant → Fits other.constant → constant_binary op one other ≡ Ok made → Fits made.constant
constants_fit op one other made first second is =
    both_ok (constant_of one) (λ a. constant_of other >>= (λ b. combined op a b >>= (λ n. Ok (constant_form n)))) made is (λ a a_is later.
    both_ok (constant_of other) (λ b. combined op a b >>= (λ n. Ok (constant_form n))) made later (λ b b_is last_one.
    both_ok (combined op a b) (λ n. Ok (constant_form n)) made last_one (λ n n_is made_is.
    form_fits (constant_form n) made (combined_fits op a b n (constant_fits one a first a_is) (constant_fits other b second b_is) n_is) made_is)))

binary_fits : (told' : ℕ → Told) (op : BinaryOp) (one other made : Form) → Fits one.constant → Fits other.constant → binary_form told' op one other ≡ Ok made → Fits made.constant
unfolding binary_form
binary_fits told' Add one other made first second is =
    form_fits (settled told' (sum_of one other)) made (settled_fits told' (sum_of one other) (joined_fits false one other)) is
binary_fits told' Sub one other made first second is =
    form_fits (settled told' (difference_of one other)) made (settled_fits told' (difference_of one other) (joined_fits true one other)) is
binary_fits told' op one other made first second is = constants_fit op one other made first second is

linear_fits : (known : Knowledge) (tree : Tree) (made : Form) → KnowsFit known → NumbersFit tree → linear known tree ≡ Ok made → Fits made.constant
unfolding linear
linear_fits known (number value) made knows each is = form_fits (constant_form value) made each is
linear_fits known (name written) made knows each is =
    form_fits (form_of known.told (known.meant written)) made
    (symbol_fits known.told (known.meant written) (known.told (known.meant written)) (knows.numbers (known.meant written)) (knows.forms (known.meant written))) is
linear_fits known here made knows each is =
    form_fits (form_of known.told known.place) made (symbol_fits known.told known.place (known.told known.place) (knows.numbers known.place) (knows.forms known.place)) is
linear_fits known (unary op operand) made knows each is =
    both_ok (linear known operand) (unary_form known.told op) made is (λ one one_is made_is. unary_fits known.told op one made (linear_fits known operand one knows each one_is) made_is)
linear_fits known (binary op left right) made knows each is =
    both_ok (linear known left) (λ one. linear known right >>= (λ other. binary_form known.told op one other)) made is (λ one one_is later.
    both_ok (linear known right) (λ other. binary_form known.told op one other) made later (λ other other_is made_is.
    binary_fits known.told op one other made (linear_fits known left one knows each.0 one_is) (linear_fits known right other knows each.1 other_is) made_is))

-- WHERE STATEMENTS STAND

knows_fit : (placed : Placed) → FormsFit placed.table.symbols → KnowsFit (known_here placed)
knows_fit placed fit = record {
  numbers = λ own n. number_by (own == (known_here placed).place) own n;
  forms = λ own made. form_by' (own == (known_here placed).place) own made;
}
  where
    number_by : (b : Bool) (own n : ℕ) → cond b (label (place_of placed).stretch (place_of placed).at) (told placed.table.symbols own) ≡ constant n → Fits n
    number_by true own n is = absurd cc
    number_by false own n is = let found = told_number placed.table.symbols own n is in subst Fits found.2 (fit own found.0 found.1)

    form_by' : (b : Bool) (own : ℕ) (made : Form) → cond b (label (place_of placed).stretch (place_of placed).at) (told placed.table.symbols own) ≡ form made → Fits made.constant
    form_by' true own made is = absurd cc
    form_by' false own made is = fit own made (told_form placed.table.symbols own made is)

-- the number of an expression's form has 64 bits
pub form_fits_here : (placed : Placed) (tree : Tree) (made : Form) → FormsFit placed.table.symbols → NumbersFit tree → form_in (known_here placed) tree ≡ Ok made → Fits made.constant
unfolding form_in
form_fits_here placed tree made fit each is =
    linear_fits (known_here placed) tree made (knows_fit placed fit) each (statement_ok (linear (known_here placed) tree) made is)
