-- The form of an expression names no symbol but those that are known where it stands.
use Rattle.std.proofs.Common.{◌≡◌, ℕ, suc, ◌+◌, ◌≤◌, Bool, true, false, cond, List, [], ◌∷◌, ◌++◌, length, map, Option, None, Some, Result, Ok, refl, ap, subst, arith}
use Rattle.std.specs.Prelude.{◌==◌, slice_get, option_map, unwrap_or}
use Rattle.std.specs.Option.{option_map_or}
use Rattle.asm_base.specs.Refusals.{◌>>=◌}
use Rattle.asm_expr.specs.declared.faults.ExprCause.{ExprCause}
use Rattle.asm_expr.specs.declared.forms.Term.{Term}
use Rattle.asm_expr.specs.declared.naming.Name.{Name}
use Rattle.asm_expr.specs.declared.trees.Written.{Written}
use Rattle.asm_expr.specs.declared.trees.UnaryOp.{UnaryOp}
use Rattle.asm_expr.specs.declared.trees.UnaryOp.TheVariants.{Minus, Complement}
use Rattle.asm_expr.specs.declared.trees.BinaryOp.{BinaryOp}
use Rattle.asm_expr.specs.declared.trees.BinaryOp.TheVariants.{Add, Sub}
use Rattle.asm_expr.specs.Trees.{Tree, number, name, here, unary, binary}
use Rattle.asm_expr.specs.Names.{same_name}
use Rattle.asm_expr.specs.Forms.{Form, wrapped, term_of, is_kept, constant_form, before_terms, with_term, with_terms, signed_term, joined, sum_of, difference_of}
use Rattle.asm_expr.specs.Knowledge.{Told, absent, constant, label, form, Knowledge}
use Rattle.asm_expr.specs.Settled.{spot_of, cancelled_number, put_one, put_all, settled}
use Rattle.asm_expr.specs.Arithmetic.{complement, combined}
use Rattle.asm_expr.specs.Linear.{form_by, form_of, constant_of, unary_form, constant_binary, binary_form, linear}
use Rattle.asm_frags.specs.Writing.{LooseSection}
use Rattle.asm_operands.specs.Expressions.{form_in}
use Rattle.asm_operands.specs.ExprFaults.{in_statement}
use Rattle.asm_symbols.specs.declared.entries.Meaning.{Meaning}
use Rattle.asm_symbols.specs.declared.entries.Meaning.TheVariants as meaning
use Rattle.asm_symbols.specs.declared.entries.Spot.{Spot}
use Rattle.asm_symbols.specs.declared.entries.Symbol.{Symbol}
use Rattle.asm_symbols.specs.SymbolMap.{SymbolMap, names, index_of}
use Rattle.asm_symbols.specs.Counting.{meant_name}
use Rattle.asm_symbols.specs.Interning.{number_of}
use Rattle.asm_symbols.specs.Attributes.{is_weak}
use Rattle.asm_symbols.specs.Looking.{form_told, meaning_told, symbol_told, told}
use Rattle.asm_uses.specs.Places.{here_name, known_at}
use Rattle.asm_place.specs.SymbolPlaces.{AreUpTo, MeaningStands, SymbolStands, SymbolsStand}
use Rattle.asm_place.proofs.GrowthLemmas.{All-there}
use Rattle.asm_place.proofs.StatementSplits.{err-ok, same_Ok, both_ok}

-- TERMS

-- a number above may stand in its place
pub up_to_more : (last more : ℕ) (terms : List Term) → last ≤ more → AreUpTo last terms → AreUpTo more terms
up_to_more last more [] le all = tt
up_to_more last more (term ∷ terms) le all = let one = all.0 in (omega arith, up_to_more last more terms le all.1)

module _ (last : ℕ) where
  before_up : (b : Bool) (term : Term) (rest : List Term) → term.symbol ≤ last → AreUpTo last rest → AreUpTo last (cond b (term ∷ rest) rest)
  before_up true term rest one all = (one, all)
  before_up false term rest one all = all

  with_up : (terms : List Term) (more : Term) → AreUpTo last terms → more.symbol ≤ last → AreUpTo last (with_term terms more)
  unfolding with_term
  with_up [] more all one = before_up (is_kept more) more [] one tt
  with_up (term ∷ rest) more all one = by (term.symbol == more.symbol) (with_up rest more all.1 one)
    where
      by : (b : Bool) → AreUpTo last (with_term rest more)
          → AreUpTo last (cond b (before_terms (term_of term.symbol (wrapped (term.coefficient + more.coefficient))) rest) (term ∷ with_term rest more))
      by true later =
          before_up (is_kept (term_of term.symbol (wrapped (term.coefficient + more.coefficient)))) (term_of term.symbol (wrapped (term.coefficient + more.coefficient))) rest all.0 all.1
      by false later = (all.0, later)

  all_up : (terms others : List Term) → AreUpTo last terms → AreUpTo last others → AreUpTo last (with_terms terms others)
  unfolding with_terms
  all_up terms [] all more = all
  all_up terms (other ∷ others) all more = all_up (with_term terms other) others (with_up terms other all more.0) more.1

  signed_up : (minus : Bool) (terms : List Term) → AreUpTo last terms → AreUpTo last (map (signed_term minus) terms)
  signed_up minus [] all = tt
  signed_up minus (term ∷ terms) all = (all.0, signed_up minus terms all.1)

  joined_up : (minus : Bool) (one other : Form) → AreUpTo last one.terms → AreUpTo last other.terms → AreUpTo last (joined minus one other).terms
  joined_up minus one other all more = all_up one.terms (map (signed_term minus) other.terms) all (signed_up minus other.terms more)

  -- settling leaves terms out
  behind_up : (terms : List Term) (term : Term) → AreUpTo last terms → term.symbol ≤ last → AreUpTo last (terms ++ term ∷ [])
  behind_up [] term all one = (one, tt)
  behind_up (first ∷ terms) term all one = (all.0, behind_up terms term all.1 one)

  put_up : (told' : ℕ → Told) (whole : List Term) (made : Form) (terms : List Term) → AreUpTo last made.terms → AreUpTo last terms
      → AreUpTo last (put_all (map (spot_of told') whole) told' made terms).terms
  unfolding put_all
  put_up told' whole made [] all more = all
  put_up told' whole made (term ∷ terms) all more =
      put_up told' whole (put_one made term (cancelled_number (map (spot_of told') whole) (spot_of told' term))) terms
      (by (cancelled_number (map (spot_of told') whole) (spot_of told' term))) more.1
    where
      by : (found : Option ℕ) → AreUpTo last (put_one made term found).terms
      by None = behind_up made.terms term all more.0
      by (Some n) = all

  settled_up : (told' : ℕ → Told) (made : Form) → AreUpTo last made.terms → AreUpTo last (settled told' made).terms
  unfolding settled
  settled_up told' made all = put_up told' made.terms (constant_form made.constant) made.terms tt all

  -- EXPRESSIONS

  -- what is known at a place names no symbol above the last one
  pub record KnowsUpTo (known : Knowledge) : Type 0 where
    pub forms : (own : ℕ) (made : Form) → known.told own ≡ form made → AreUpTo last made.terms
    pub meant : (written : Written) → known.meant written ≤ last
    pub place : known.place ≤ last

  symbol_up : (told' : ℕ → Told) (own : ℕ) (known : Told) → own ≤ last → ((made : Form) → known ≡ form made → AreUpTo last made.terms)
      → AreUpTo last (form_by told' own known).terms
  symbol_up told' own absent low is = (low, tt)
  symbol_up told' own (constant n) low is = tt
  symbol_up told' own (label stretch at) low is = (low, tt)
  symbol_up told' own (form made) low is = settled_up told' made (is made refl)

  ok_up : (one made : Form) → AreUpTo last one.terms → (let given : Result Form ExprCause = Ok one in given ≡ Ok made) → AreUpTo last made.terms
  ok_up one made all is = let same : one ≡ made = cc in subst (λ (f : Form). AreUpTo last f.terms) same all

  unary_up : (told' : ℕ → Told) (op : UnaryOp) (one made : Form) → AreUpTo last one.terms → unary_form told' op one ≡ Ok made → AreUpTo last made.terms
  unfolding unary_form
  unary_up told' Minus one made all is =
      ok_up (settled told' (difference_of (constant_form 0) one)) made
      (settled_up told' (difference_of (constant_form 0) one) (joined_up true (constant_form 0) one tt all)) is
  unary_up told' Complement one made all is =
      both_ok (constant_of one) (λ n. Ok (constant_form (complement n))) made is (λ n n_is made_is. ok_up (constant_form (complement n)) made tt made_is)

  constants_up : (op : BinaryOp) (one other made : Form) → constant_binary op one other ≡ Ok made → AreUpTo last made.terms
  constants_up op one other made is =
      both_ok (constant_of one) (λ a. constant_of other >>= (λ b. combined op a b >>= (λ n. Ok (constant_form n)))) made is (λ a a_is later.
      both_ok (constant_of other) (λ b. combined op a b >>= (λ n. Ok (constant_form n))) made later (λ b b_is last_one.
      both_ok (combined op a b) (λ n. Ok (constant_form n)) made last_one (λ n n_is made_is. ok_up (constant_form n) made tt made_is)))

  binary_up : (told' : ℕ → Told) (op : BinaryOp) (one other made : Form) → AreUpTo last one.terms → AreUpTo last other.terms
      → binary_form told' op one other ≡ Ok made → AreUpTo last made.terms
  unfolding binary_form
  binary_up told' Add one other made all more is =
      ok_up (settled told' (sum_of one other)) made (settled_up told' (sum_of one other) (joined_up false one other all more)) is
  binary_up told' Sub one other made all more is =
      ok_up (settled told' (difference_of one other)) made (settled_up told' (difference_of one other) (joined_up true one other all more)) is
  binary_up told' op one other made all more is = constants_up op one other made is

  pub linear_up : (known : Knowledge) (tree : Tree) (made : Form) → KnowsUpTo known → linear known tree ≡ Ok made → AreUpTo last made.terms
  unfolding linear
  linear_up known (number value) made knows is = ok_up (constant_form value) made tt is
  linear_up known (name written) made knows is =
      ok_up (form_of known.told (known.meant written)) made
      (symbol_up known.told (known.meant written) (known.told (known.meant written)) (knows.meant written) (knows.forms (known.meant written))) is
  linear_up known here made knows is =
      ok_up (form_of known.told known.place) made (symbol_up known.told known.place (known.told known.place) knows.place (knows.forms known.place)) is
  linear_up known (unary op operand) made knows is =
      both_ok (linear known operand) (unary_form known.told op) made is (λ one one_is made_is. unary_up known.told op one made (linear_up known operand one knows one_is) made_is)
  linear_up known (binary op left right) made knows is =
      both_ok (linear known left) (λ one. linear known right >>= (λ other. binary_form known.told op one other)) made is (λ one one_is later.
      both_ok (linear known right) (λ other. binary_form known.told op one other) made later (λ other other_is made_is.
      binary_up known.told op one other made (linear_up known left one knows one_is) (linear_up known right other knows other_is) made_is))

-- WHAT IS KNOWN

-- a name has the index of a symbol, or of the next one
index_within : (name' : Name) (all : List Name) → unwrap_or (index_of name' all) (length all) ≤ length all
index_within name' [] = omega arith
index_within name' (first ∷ rest) = by (same_name name' first) (index_of name' rest) (index_within name' rest)
  where
    by : (b : Bool) (found : Option ℕ) → unwrap_or found (length rest) ≤ length rest
        → unwrap_or (cond b (Some 0) (option_map (λ index. index + 1) found)) (suc (length rest)) ≤ suc (length rest)
    by true found low = omega arith
    by false None low = omega arith
    by false (Some index) low = omega (arith, low)

names_long : (symbols : List Symbol) → length (names symbols) ≡ length symbols
names_long [] = refl
names_long (symbol ∷ symbols) = ap suc (names_long symbols)

number_within : (map' : SymbolMap) (name' : Name) → number_of map' name' ≤ length map'.symbols
unfolding number_of
number_within map' name' =
    subst (λ (count : ℕ). unwrap_or (index_of name' (names map'.symbols)) count ≤ count) (names_long map'.symbols) (index_within name' (names map'.symbols))

told_up_by : (sections : List LooseSection) (last : ℕ) (meant : Meaning) (weak : Bool) (made : Form) → MeaningStands sections last meant
    → meaning_told meant weak ≡ form made → AreUpTo last made.terms
told_up_by sections last meaning.Undefined weak made stands is = absurd cc
told_up_by sections last (meaning.Label spot) weak made stands is = absurd cc
told_up_by sections last (meaning.Common size align) weak made stands is = absurd cc
told_up_by sections last (meaning.Space spot) weak made stands is = absurd cc
told_up_by sections last (meaning.Assigned other) weak made stands is = by other.terms weak refl is stands
  where
    by : (terms : List Term) (weak : Bool) → other.terms ≡ terms → form_told other.terms weak other ≡ form made → AreUpTo last other.terms
        → AreUpTo last made.terms
    by [] weak none is all = absurd (let told_is : form_told other.terms weak other ≡ constant other.constant = ap (λ ts. form_told ts weak other) none in cc)
    by (term ∷ terms) true some is all = absurd (let told_is : form_told other.terms true other ≡ absent = ap (λ ts. form_told ts true other) some in cc)
    by (term ∷ terms) false some is all =
        let told_is : form_told other.terms false other ≡ form other = ap (λ ts. form_told ts false other) some in
        let same : other ≡ made = cc in
        subst (λ (f : Form). AreUpTo last f.terms) same all

told_up : (sections : List LooseSection) (map' : SymbolMap) (index : ℕ) (made : Form) → SymbolsStand sections map'.symbols → told map' index ≡ form made
    → AreUpTo (length map'.symbols) made.terms
unfolding told
told_up sections map' index made stand is = by (slice_get map'.symbols index) refl is
  where
    by : (found : Option Symbol) → slice_get map'.symbols index ≡ found → option_map_or symbol_told found absent ≡ form made
        → AreUpTo (length map'.symbols) made.terms
    by None there is = absurd cc
    by (Some symbol) there is =
        told_up_by sections (length map'.symbols) symbol.meaning (is_weak symbol.binding) made
        (All-there (SymbolStands sections (length map'.symbols)) map'.symbols index symbol there stand.each).0 is

-- at a place no symbol is known behind the next one
pub knows_up : (sections : List LooseSection) (map' : SymbolMap) (spot : Spot) → SymbolsStand sections map'.symbols → KnowsUpTo (length map'.symbols) (known_at map' spot)
knows_up sections map' spot stand = record {
  forms = λ own made. by (own == number_of map' (here_name spot)) own made;
  meant = λ written. number_within map' (meant_name map'.counts written);
  place = number_within map' (here_name spot);
}
  where
    by : (b : Bool) (own : ℕ) (made : Form) → cond b (label spot.stretch spot.at) (told map' own) ≡ form made → AreUpTo (length map'.symbols) made.terms
    by true own made is = absurd cc
    by false own made is = told_up sections map' own made stand is

statement_ok : (answer : Result Form ExprCause) (made : Form) → in_statement answer ≡ Ok made → answer ≡ Ok made
statement_ok (Ok one) made is = ap Ok (same_Ok one made is)
statement_ok answer made is = err-ok _ made is

-- the form of an expression at a place names symbols that are there, or the next one
pub form_up : (sections : List LooseSection) (map' : SymbolMap) (spot : Spot) (tree : Tree) (made : Form) → SymbolsStand sections map'.symbols
    → form_in (known_at map' spot) tree ≡ Ok made → AreUpTo (length map'.symbols) made.terms
unfolding form_in
form_up sections map' spot tree made stand is =
    linear_up (length map'.symbols) (known_at map' spot) tree made (knows_up sections map' spot stand) (statement_ok (linear (known_at map' spot) tree) made is)
