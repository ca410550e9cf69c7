-- The form of an expression names the symbols of its names, the place where it stands, and what the forms of symbols name.
use Rattle.std.proofs.Common.{◌≡◌, ℕ, ◌+◌, Bool, true, false, cond, List, [], ◌∷◌, ◌++◌, map, Option, None, Some, Result, Ok, refl, ap, subst}
use Rattle.std.specs.Prelude.{◌==◌}
use Rattle.asm_base.specs.Refusals.{◌>>=◌}
use Rattle.asm_expr.specs.declared.faults.ExprCause.{ExprCause}
use Rattle.asm_expr.specs.declared.forms.Term.{Term}
use Rattle.asm_expr.specs.declared.trees.UnaryOp.{UnaryOp}
use Rattle.asm_expr.specs.declared.trees.UnaryOp.TheVariants.{Minus, Complement}
use Rattle.asm_expr.specs.declared.trees.BinaryOp.{BinaryOp}
use Rattle.asm_expr.specs.declared.trees.BinaryOp.TheVariants.{Add, Sub}
use Rattle.asm_expr.specs.Trees.{Tree, number, name, here, unary, binary}
use Rattle.asm_expr.specs.Forms.{Form, wrapped, term_of, is_kept, constant_form, before_terms, with_term, with_terms, signed_term, joined, sum_of, difference_of, scaled_term, plus_times}
use Rattle.asm_expr.specs.Knowledge.{Told, absent, constant, label, form, Knowledge}
use Rattle.asm_expr.specs.Settled.{spot_of, cancelled_number, put_one, put_all, settled}
use Rattle.asm_expr.specs.Arithmetic.{complement, combined}
use Rattle.asm_expr.specs.Linear.{form_by, form_of, constant_of, unary_form, constant_binary, binary_form, linear}
use Rattle.asm_operands.specs.ExprFaults.{in_statement}
use Rattle.asm_operands.specs.Expressions.{form_in}
use Rattle.flow_graph.specs.AddedLabels.{NamesOnly}
use Rattle.form_laws.proofs.Steps.{err-ok, same_Ok, both_ok}
use Rattle.form_laws.proofs.Naming.{EachName}

module _ (Holds : ℕ → Type 0) where
  before_only : (b : Bool) (term : Term) (rest : List Term) → Holds term.symbol → NamesOnly Holds rest → NamesOnly Holds (cond b (term ∷ rest) rest)
  before_only true term rest one all = (one, all)
  before_only false term rest one all = all

  with_only : (terms : List Term) (more : Term) → NamesOnly Holds terms → Holds more.symbol → NamesOnly Holds (with_term terms more)
  unfolding with_term
  with_only [] more all one = before_only (is_kept more) more [] one tt
  with_only (term ∷ rest) more all one = by (term.symbol == more.symbol) (with_only rest more all.1 one)
    where
      by : (b : Bool) → NamesOnly Holds (with_term rest more)
          → NamesOnly Holds (cond b (before_terms (term_of term.symbol (wrapped (term.coefficient + more.coefficient))) rest) (term ∷ with_term rest more))
      by true later =
          before_only (is_kept (term_of term.symbol (wrapped (term.coefficient + more.coefficient)))) (term_of term.symbol (wrapped (term.coefficient + more.coefficient))) rest all.0 all.1
      by false later = (all.0, later)

  all_only : (terms others : List Term) → NamesOnly Holds terms → NamesOnly Holds others → NamesOnly Holds (with_terms terms others)
  unfolding with_terms
  all_only terms [] all more = all
  all_only terms (other ∷ others) all more = all_only (with_term terms other) others (with_only terms other all more.0) more.1

  signed_only : (minus : Bool) (terms : List Term) → NamesOnly Holds terms → NamesOnly Holds (map (signed_term minus) terms)
  signed_only minus [] all = tt
  signed_only minus (term ∷ terms) all = (all.0, signed_only minus terms all.1)

  scaled_only : (factor : ℕ) (terms : List Term) → NamesOnly Holds terms → NamesOnly Holds (map (scaled_term factor) terms)
  scaled_only factor [] all = tt
  scaled_only factor (term ∷ terms) all = (all.0, scaled_only factor terms all.1)

  joined_only : (minus : Bool) (one other : Form) → NamesOnly Holds one.terms → NamesOnly Holds other.terms → NamesOnly Holds (joined minus one other).terms
  joined_only minus one other all more = all_only one.terms (map (signed_term minus) other.terms) all (signed_only minus other.terms more)

  -- a form plus so many times another
  pub plus_only : (made : Form) (factor : ℕ) (other : Form) → NamesOnly Holds made.terms → NamesOnly Holds other.terms → NamesOnly Holds (plus_times made factor other).terms
  unfolding plus_times
  plus_only made factor other all more = all_only made.terms (map (scaled_term factor) other.terms) all (scaled_only factor other.terms more)

  -- settling leaves terms out
  behind_only : (terms : List Term) (term : Term) → NamesOnly Holds terms → Holds term.symbol → NamesOnly Holds (terms ++ term ∷ [])
  behind_only [] term all one = (one, tt)
  behind_only (first ∷ terms) term all one = (all.0, behind_only terms term all.1 one)

  put_only : (told' : ℕ → Told) (whole : List Term) (made : Form) (terms : List Term) → NamesOnly Holds made.terms → NamesOnly Holds terms
      → NamesOnly Holds (put_all (map (spot_of told') whole) told' made terms).terms
  unfolding put_all
  put_only told' whole made [] all more = all
  put_only told' whole made (term ∷ terms) all more =
      put_only told' whole (put_one made term (cancelled_number (map (spot_of told') whole) (spot_of told' term))) terms
      (by (cancelled_number (map (spot_of told') whole) (spot_of told' term))) more.1
    where
      by : (found : Option ℕ) → NamesOnly Holds (put_one made term found).terms
      by None = behind_only made.terms term all more.0
      by (Some n) = all

  settled_only : (told' : ℕ → Told) (made : Form) → NamesOnly Holds made.terms → NamesOnly Holds (settled told' made).terms
  unfolding settled
  settled_only told' made all = put_only told' made.terms (constant_form made.constant) made.terms tt all

  -- EXPRESSIONS

  -- so is what is known of symbols, and the place
  pub record KnowsOnly (known : Knowledge) : Type 0 where
    pub forms : (own : ℕ) (made : Form) → known.told own ≡ form made → NamesOnly Holds made.terms
    pub place : Holds known.place

  symbol_only : (told' : ℕ → Told) (own : ℕ) (known : Told) → Holds own → ((made : Form) → known ≡ form made → NamesOnly Holds made.terms)
      → NamesOnly Holds (form_by told' own known).terms
  symbol_only told' own absent low is = (low, tt)
  symbol_only told' own (constant n) low is = tt
  symbol_only told' own (label stretch at) low is = (low, tt)
  symbol_only told' own (form made) low is = settled_only told' made (is made refl)

  ok_only : (one made : Form) → NamesOnly Holds one.terms → (let given : Result Form ExprCause = Ok one in given ≡ Ok made) → NamesOnly Holds made.terms
  ok_only one made all is = let same : one ≡ made = cc in subst (λ (f : Form). NamesOnly Holds f.terms) same all

  unary_only : (told' : ℕ → Told) (op : UnaryOp) (one made : Form) → NamesOnly Holds one.terms → unary_form told' op one ≡ Ok made → NamesOnly Holds made.terms
  unfolding unary_form
  unary_only told' Minus one made all is =
      ok_only (settled told' (difference_of (constant_form 0) one)) made
      (settled_only told' (difference_of (constant_form 0) one) (joined_only true (constant_form 0) one tt all)) is
  unary_only told' Complement one made all is =
      both_ok (constant_of one) (λ n. Ok (constant_form (complement n))) made is (λ n n_is made_is. ok_only (constant_form (complement n)) made tt made_is)

  constants_only : (op : BinaryOp) (one other made : Form) → constant_binary op one other ≡ Ok made → NamesOnly Holds made.terms
  constants_only op one other made is =
      both_ok (constant_of one) (λ a. constant_of other >>= (λ b. combined op a b >>= (λ n. Ok (constant_form n)))) made is (λ a a_is later.
      both_ok (constant_of other) (λ b. combined op a b >>= (λ n. Ok (constant_form n))) made later (λ b b_is last_one.
      both_ok (combined op a b) (λ n. Ok (constant_form n)) made last_one (λ n n_is made_is. ok_only (constant_form n) made tt made_is)))

  binary_only : (told' : ℕ → Told) (op : BinaryOp) (one other made : Form) → NamesOnly Holds one.terms → NamesOnly Holds other.terms
      → binary_form told' op one other ≡ Ok made → NamesOnly Holds made.terms
  unfolding binary_form
  binary_only told' Add one other made all more is =
      ok_only (settled told' (sum_of one other)) made (settled_only told' (sum_of one other) (joined_only false one other all more)) is
  binary_only told' Sub one other made all more is =
      ok_only (settled told' (difference_of one other)) made (settled_only told' (difference_of one other) (joined_only true one other all more)) is
  binary_only told' op one other made all more is = constants_only op one other made is

  linear_only : (known : Knowledge) (tree : Tree) (made : Form) → KnowsOnly known → EachName (λ written. Holds (known.meant written)) tree → linear known tree ≡ Ok made
      → NamesOnly Holds made.terms
  unfolding linear
  linear_only known (number value) made knows each is = ok_only (constant_form value) made tt is
  linear_only known (name written) made knows each is =
      ok_only (form_of known.told (known.meant written)) made
      (symbol_only known.told (known.meant written) (known.told (known.meant written)) each (knows.forms (known.meant written))) is
  linear_only known here made knows each is =
      ok_only (form_of known.told known.place) made (symbol_only known.told known.place (known.told known.place) knows.place (knows.forms known.place)) is
  linear_only known (unary op operand) made knows each is =
      both_ok (linear known operand) (unary_form known.told op) made is (λ one one_is made_is. unary_only known.told op one made (linear_only known operand one knows each one_is) made_is)
  linear_only known (binary op left right) made knows each is =
      both_ok (linear known left) (λ one. linear known right >>= (λ other. binary_form known.told op one other)) made is (λ one one_is later.
      both_ok (linear known right) (λ other. binary_form known.told op one other) made later (λ other other_is made_is.
      binary_only known.told op one other made (linear_only known left one knows each.0 one_is) (linear_only known right other knows each.1 other_is) made_is))

-- what holds of each symbol that is named
pub only_weaker : (Holds Also : ℕ → Type 0) → ((symbol : ℕ) → Holds symbol → Also symbol) → (terms : List Term) → NamesOnly Holds terms → NamesOnly Also terms
only_weaker Holds Also more [] all = tt
only_weaker Holds Also more (term ∷ terms) all = (more term.symbol all.0, only_weaker Holds Also more terms all.1)

-- what an expression answers, a statement does
pub statement_ok : {A : Type 0} (answer : Result A ExprCause) (made : A) → in_statement answer ≡ Ok made → answer ≡ Ok made
statement_ok (Ok one) made is = ap Ok (same_Ok one made is)
statement_ok answer made is = err-ok _ made is

-- the form of an expression as a statement has it
pub form_only : (Holds : ℕ → Type 0) (known : Knowledge) (tree : Tree) (made : Form) → KnowsOnly Holds known → EachName (λ written. Holds (known.meant written)) tree
    → form_in known tree ≡ Ok made → NamesOnly Holds made.terms
unfolding form_in
form_only Holds known tree made knows each is = linear_only Holds known tree made knows each (statement_ok (linear known tree) made is)
