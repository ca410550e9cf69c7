-- In the form of an expression each symbol stands once, and counts.
use Rattle.std.proofs.Common.{◌≡◌, ℕ, ◌+◌, ◌-◌, ◌^◌, ◌==◌, Bool, true, false, not, cond, ◌&&◌, ◌||◌, List, [], ◌∷◌, ◌++◌, map, Option, Some, None, Result, Ok, refl, sym, ap, subst, arith, append_assoc, append-nil}
use Rattle.std.proofs.lemmas.Bool.Decides.{nat_tests, Decides-eqb}
use Rattle.std.specs.List.{list_all}
use Rattle.asm_base.specs.Refusals.{◌>>=◌}
use Rattle.asm_expr.specs.declared.faults.ExprCause.{ExprCause}
use Rattle.asm_expr.specs.declared.forms.Term.{Term}
use Rattle.asm_expr.specs.declared.settling.Spot.{Spot}
use Rattle.asm_expr.specs.declared.trees.UnaryOp.{UnaryOp}
use Rattle.asm_expr.specs.declared.trees.UnaryOp.TheVariants.{Minus, Complement}
use Rattle.asm_expr.specs.declared.trees.BinaryOp.{BinaryOp}
use Rattle.asm_expr.specs.declared.trees.BinaryOp.TheVariants.{Add, Sub}
use Rattle.asm_expr.specs.Trees.{Tree, number, name, here, unary, binary}
use Rattle.asm_expr.specs.Forms.{Form, wrapped, term_of, is_kept, constant_form, before_terms, with_term, with_terms, signed_term, joined, sum_of, difference_of}
use Rattle.asm_expr.specs.Knowledge.{Told, absent, constant, label, form, Knowledge}
use Rattle.asm_expr.specs.Settled.{spot_of, cancelled_number, put_one, put_all, settled}
use Rattle.asm_expr.specs.Arithmetic.{complement, combined}
use Rattle.asm_expr.specs.Linear.{form_by, form_of, constant_of, unary_form, constant_binary, binary_form, linear}
use Rattle.asm_expr.specs.Coefficients.{times, is_among, are_apart, is_counted, IsReduced, KnowsReduced, IsEmptyExactly}
use Rattle.asm_expr.proofs.RefusedSteps.{steps}

both : (a b : Bool) → (a && b) ≡ true → (a ≡ true) × (b ≡ true)
both true true is = (refl, refl)
both true false is = cc
both false b is = cc

neither : (a b : Bool) → (a || b) ≡ false → (a ≡ false) × (b ≡ false)
neither true b is = cc
neither false b is = (refl, is)

negated : (b : Bool) → not b ≡ true → b ≡ false
negated true is = cc
negated false is = refl

-- each symbol stands once among the terms, and counts
abbrev Reduced : List Term → Type 0
Reduced terms = (are_apart terms ≡ true) × (list_all is_counted terms ≡ true)

-- symbols that differ also differ the other way round
differ_back : (one other : ℕ) → (one == other) ≡ false → (other == one) ≡ false
differ_back one other is = grind (arith, nat_tests)

same_self : (symbol : ℕ) → (symbol == symbol) ≡ true
same_self symbol = grind (arith, nat_tests)

-- one term more brings no other symbol
among_before : (b : Bool) (own : ℕ) (term : Term) (rest : List Term) → (term.symbol == own) ≡ false → is_among own rest ≡ false → is_among own (cond b (term ∷ rest) rest) ≡ false
among_before true own term rest other none = rw other none
among_before false own term rest other none = none

among_step : (b : Bool) (own : ℕ) (term more : Term) (rest : List Term) → (term.symbol == own) ≡ false → is_among own rest ≡ false → is_among own (with_term rest more) ≡ false
    → is_among own (cond b (before_terms (term_of term.symbol (wrapped (term.coefficient + more.coefficient))) rest) (term ∷ with_term rest more)) ≡ false
among_step true own term more rest other none later =
    among_before (is_kept (term_of term.symbol (wrapped (term.coefficient + more.coefficient)))) own (term_of term.symbol (wrapped (term.coefficient + more.coefficient))) rest other none
among_step false own term more rest other none later = rw other later

among_with : (own : ℕ) (terms : List Term) (more : Term) → is_among own terms ≡ false → (more.symbol == own) ≡ false → is_among own (with_term terms more) ≡ false
unfolding with_term
among_with own [] more none other = among_before (is_kept more) own more [] other refl
among_with own (term ∷ rest) more none other =
    let p = neither (term.symbol == own) (is_among own rest) none in
    among_step (term.symbol == more.symbol) own term more rest p.0 p.1 (among_with own rest more p.1 other)

-- terms with one more stay reduced
reduced_front : (term : Term) (rest : List Term) → is_counted term ≡ true → is_among term.symbol rest ≡ false → Reduced rest → Reduced (term ∷ rest)
reduced_front term rest counts none all = (rw none all.0, rw counts all.1)

reduced_before : (b : Bool) (term : Term) (rest : List Term) → (b ≡ true → is_counted term ≡ true) → is_among term.symbol rest ≡ false → Reduced rest → Reduced (cond b (term ∷ rest) rest)
reduced_before true term rest counts none all = reduced_front term rest (counts refl) none all
reduced_before false term rest counts none all = all

kept_counts : (name : ℕ) (n : ℕ) → is_kept (term_of name (wrapped n)) ≡ true → is_counted (term_of name (wrapped n)) ≡ true
kept_counts own n is =
    let same : wrapped (wrapped n) ≡ wrapped n = omega arith in
    rw same is

reduced_step : (b : Bool) (term more : Term) (rest : List Term) → (term.symbol == more.symbol) ≡ b → is_counted term ≡ true → is_among term.symbol rest ≡ false → Reduced rest
    → Reduced (with_term rest more)
    → Reduced (cond b (before_terms (term_of term.symbol (wrapped (term.coefficient + more.coefficient))) rest) (term ∷ with_term rest more))
reduced_step true term more rest is counts none all later =
    reduced_before (is_kept (term_of term.symbol (wrapped (term.coefficient + more.coefficient)))) (term_of term.symbol (wrapped (term.coefficient + more.coefficient))) rest
    (kept_counts term.symbol (term.coefficient + more.coefficient)) none all
reduced_step false term more rest is counts none all later =
    reduced_front term (with_term rest more) counts (among_with term.symbol rest more none (differ_back term.symbol more.symbol is)) later

reduced_with : (terms : List Term) (more : Term) → Reduced terms → is_counted more ≡ true → Reduced (with_term terms more)
unfolding with_term
reduced_with [] more all counts = reduced_before (is_kept more) more [] (λ is. counts) refl (refl, refl)
reduced_with (term ∷ rest) more all counts =
    let p = both (not (is_among term.symbol rest)) (are_apart rest) all.0 in
    let q = both (is_counted term) (list_all is_counted rest) all.1 in
    reduced_step (term.symbol == more.symbol) term more rest refl q.0 (negated (is_among term.symbol rest) p.0) (p.1, q.1) (reduced_with rest more (p.1, q.1) counts)

reduced_all : (terms others : List Term) → Reduced terms → list_all is_counted others ≡ true → Reduced (with_terms terms others)
unfolding with_terms
reduced_all terms [] all counts = all
reduced_all terms (more ∷ others) all counts =
    let p = both (is_counted more) (list_all is_counted others) counts in
    reduced_all (with_term terms more) others (reduced_with terms more all p.0) p.1

-- minus what counts counts
turned_counts : (n : ℕ) → not (wrapped n == 0) ≡ true → not (wrapped (wrapped (2 ^ 64 - wrapped n)) == 0) ≡ true
turned_counts n is = by (wrapped (wrapped (2 ^ 64 - wrapped n)) == 0) refl
  where
    by : (b : Bool) → (wrapped (wrapped (2 ^ 64 - wrapped n)) == 0) ≡ b → not (wrapped (wrapped (2 ^ 64 - wrapped n)) == 0) ≡ true
    by true test =
        let zero : wrapped (wrapped (2 ^ 64 - wrapped n)) ≡ 0 = (Decides-eqb (wrapped (wrapped (2 ^ 64 - wrapped n))) 0).0 test in
        let none : wrapped n ≡ 0 = omega arith in
        let also : (wrapped n == 0) ≡ true = (Decides-eqb (wrapped n) 0).1 none in
        absurd cc
    by false test = rw test

signed_counts : (minus : Bool) (terms : List Term) → list_all is_counted terms ≡ true → list_all is_counted (map (signed_term minus) terms) ≡ true
signed_counts minus [] all = refl
signed_counts minus (term ∷ terms) all =
    let p = both (is_counted term) (list_all is_counted terms) all in
    let later = signed_counts minus terms p.1 in
    let one = each minus p.0 in
    rw one later
  where
    each : (minus : Bool) → is_counted term ≡ true → is_counted (signed_term minus term) ≡ true
    each false counts = counts
    each true counts = turned_counts term.coefficient counts

-- terms stay reduced where one is left out
among_left : (own : ℕ) (before : List Term) (term : Term) (terms : List Term) → is_among own (before ++ (term ∷ terms)) ≡ false → is_among own (before ++ terms) ≡ false
among_left own [] term terms none = (neither (term.symbol == own) (is_among own terms) none).1
among_left own (first ∷ before) term terms none =
    let p = neither (first.symbol == own) (is_among own (before ++ (term ∷ terms))) none in
    rw p.0 (among_left own before term terms p.1)

reduced_left : (before : List Term) (term : Term) (terms : List Term) → Reduced (before ++ (term ∷ terms)) → Reduced (before ++ terms)
reduced_left [] term terms all =
    ((both (not (is_among term.symbol terms)) (are_apart terms) all.0).1, (both (is_counted term) (list_all is_counted terms) all.1).1)
reduced_left (first ∷ before) term terms all =
    let p = both (not (is_among first.symbol (before ++ (term ∷ terms)))) (are_apart (before ++ (term ∷ terms))) all.0 in
    let q = both (is_counted first) (list_all is_counted (before ++ (term ∷ terms))) all.1 in
    reduced_front first (before ++ terms) q.0
    (among_left first.symbol before term terms (negated (is_among first.symbol (before ++ (term ∷ terms))) p.0)) (reduced_left before term terms (p.1, q.1))

-- settling leaves terms out
put_reduced : (spots : List (Option Spot)) (told : ℕ → Told) (made : Form) (terms : List Term) → Reduced (made.terms ++ terms) → Reduced (put_all spots told made terms).terms
unfolding put_all
put_reduced spots told made [] all = rw append-nil at all
put_reduced spots told made (term ∷ terms) all =
    put_reduced spots told (put_one made term (cancelled_number spots (spot_of told term))) terms (by (cancelled_number spots (spot_of told term)))
  where
    by : (number : Option ℕ) → Reduced ((put_one made term number).terms ++ terms)
    by None = subst Reduced (sym (append_assoc made.terms (term ∷ []) terms)) all
    by (Some n) = reduced_left made.terms term terms all

settled_reduced : (told : ℕ → Told) (made : Form) → Reduced made.terms → Reduced (settled told made).terms
unfolding settled
settled_reduced told made all = put_reduced (map (spot_of told) made.terms) told (constant_form made.constant) made.terms all

joined_reduced : (minus : Bool) (one other : Form) → Reduced one.terms → Reduced other.terms → Reduced (joined minus one other).terms
joined_reduced minus one other all more = reduced_all one.terms (map (signed_term minus) other.terms) all (signed_counts minus other.terms more.1)

-- the forms of names and of operators
symbol_reduced : (told : ℕ → Told) (own : ℕ) (known : Told) → ((made : Form) → known ≡ form made → IsReduced made) → Reduced (form_by told own known).terms
symbol_reduced told own absent is = (refl, refl)
symbol_reduced told own (constant n) is = (refl, refl)
symbol_reduced told own (label stretch at) is = (refl, refl)
symbol_reduced told own (form made) is = let r = is made refl in settled_reduced told made (r.apart, r.counted)

constant_reduced : (n : ℕ) (made : Form) → (let given : Result Form ExprCause = Ok (constant_form n) in given ≡ Ok made) → Reduced made.terms
constant_reduced n made is = let same : constant_form n ≡ made = cc in subst (λ (f : Form). Reduced f.terms) same (refl, refl)

settled_is : (told : ℕ → Told) (made given : Form) → Reduced made.terms → (let settles : Result Form ExprCause = Ok (settled told made) in settles ≡ Ok given) → Reduced given.terms
settled_is told made given all is = let same : settled told made ≡ given = cc in subst (λ (f : Form). Reduced f.terms) same (settled_reduced told made all)

unary_reduced : (told : ℕ → Told) (op : UnaryOp) (one made : Form) → Reduced one.terms → unary_form told op one ≡ Ok made → Reduced made.terms
unfolding unary_form
unary_reduced told Minus one made all is = settled_is told (difference_of (constant_form 0) one) made (joined_reduced true (constant_form 0) one (refl, refl) all) is
unary_reduced told Complement one made all is =
    let s = steps (constant_of one) (λ n. Ok (constant_form (complement n))) made is in
    constant_reduced (complement s.middle) made s.ends

constants_reduced : (op : BinaryOp) (one other made : Form) → constant_binary op one other ≡ Ok made → Reduced made.terms
constants_reduced op one other made is =
    let s = steps (constant_of one) (λ a. constant_of other >>= (λ b. combined op a b >>= (λ n. Ok (constant_form n)))) made is in
    let t = steps (constant_of other) (λ b. combined op s.middle b >>= (λ n. Ok (constant_form n))) made s.ends in
    let u = steps (combined op s.middle t.middle) (λ n. Ok (constant_form n)) made t.ends in
    constant_reduced u.middle made u.ends

binary_reduced : (told : ℕ → Told) (op : BinaryOp) (one other made : Form) → Reduced one.terms → Reduced other.terms → binary_form told op one other ≡ Ok made → Reduced made.terms
unfolding binary_form
binary_reduced told Add one other made all more is = settled_is told (sum_of one other) made (joined_reduced false one other all more) is
binary_reduced told Sub one other made all more is = settled_is told (difference_of one other) made (joined_reduced true one other all more) is
binary_reduced told op one other made all more is = constants_reduced op one other made is

terms_of_ok : (one made : Form) → Reduced one.terms → (let given : Result Form ExprCause = Ok one in given ≡ Ok made) → Reduced made.terms
terms_of_ok one made all is = let same : one ≡ made = cc in subst (λ (f : Form). Reduced f.terms) same all

tree_reduced : (known : Knowledge) (tree : Tree) (made : Form) → KnowsReduced known → linear known tree ≡ Ok made → Reduced made.terms
unfolding linear
tree_reduced known (number value) made knows is = constant_reduced value made is
tree_reduced known (name written) made knows is =
    terms_of_ok (form_of known.told (known.meant written)) made
    (symbol_reduced known.told (known.meant written) (known.told (known.meant written)) (knows (known.meant written))) is
tree_reduced known here made knows is =
    terms_of_ok (form_of known.told known.place) made (symbol_reduced known.told known.place (known.told known.place) (knows known.place)) is
tree_reduced known (unary op operand) made knows is =
    let s = steps (linear known operand) (unary_form known.told op) made is in
    unary_reduced known.told op s.middle made (tree_reduced known operand s.middle knows s.begins) s.ends
tree_reduced known (binary op left right) made knows is =
    let s = steps (linear known left) (λ one. linear known right >>= (λ other. binary_form known.told op one other)) made is in
    let t = steps (linear known right) (λ other. binary_form known.told op s.middle other) made s.ends in
    binary_reduced known.told op s.middle t.middle made (tree_reduced known left s.middle knows s.begins) (tree_reduced known right t.middle knows t.begins) t.ends

pub linear_reduced : (known : Knowledge) (tree : Tree) (made : Form) → KnowsReduced known → linear known tree ≡ Ok made → IsReduced made
linear_reduced known tree made knows is = let r = tree_reduced known tree made knows is in record { apart = r.0; counted = r.1 }

-- a name that is not there counts 0 times
none_counted : (own : ℕ) (terms : List Term) → is_among own terms ≡ false → times own terms ≡ 0
none_counted own [] none = refl
none_counted own (term ∷ terms) none =
    let p = neither (term.symbol == own) (is_among own terms) none in
    let later = none_counted own terms p.1 in
    rw (p.0, later) refl

-- the first name counts
front_counted : (term : Term) (terms : List Term) → Reduced (term ∷ terms) → wrapped (times term.symbol (term ∷ terms)) ≡ 0 → ⊥
front_counted term terms all zero =
    let p = both (not (is_among term.symbol terms)) (are_apart terms) all.0 in
    let q = both (is_counted term) (list_all is_counted terms) all.1 in
    let later = none_counted term.symbol terms (negated (is_among term.symbol terms) p.0) in
    let self = same_self term.symbol in
    let alone : wrapped (term.coefficient + times term.symbol terms) ≡ 0 = rw self at zero in
    let none : wrapped term.coefficient ≡ 0 = omega arith in
    let also : (wrapped term.coefficient == 0) ≡ true = (Decides-eqb (wrapped term.coefficient) 0).1 none in
    let against = negated (wrapped term.coefficient == 0) q.0 in
    cc

uncounted_empty : (terms : List Term) → Reduced terms → ((own : ℕ) → wrapped (times own terms) ≡ 0) → terms ≡ []
uncounted_empty [] all none = refl
uncounted_empty (term ∷ terms) all none = absurd (front_counted term terms all (none term.symbol))

pub linear_empty : (known : Knowledge) (tree : Tree) (made : Form) → KnowsReduced known → linear known tree ≡ Ok made → IsEmptyExactly made
linear_empty known tree made knows is = record {
  uncounted = λ none own. ap (λ (terms : List Term). wrapped (times own terms)) none;
  empty = λ none. uncounted_empty made.terms (tree_reduced known tree made knows is) none;
}
