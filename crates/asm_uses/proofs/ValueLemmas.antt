-- What expressions are worth where their names are known.
use Rattle.std.proofs.Common.{◌≡◌, ℕ, ◌+◌, ◌-◌, ◌*◌, ◌%◌, ◌^◌, ◌<◌, ◌==◌, ◌&&◌, Bool, true, false, cond, length, List, [], ◌∷◌, ◌++◌, Option, None, Some, unwrap_or, Result, Ok, Err, refl, sym, ap, subst, ◌∙◌, arith}
use Rattle.std.proofs.lemmas.Bool.Decides.{nat_tests}
use Rattle.std.proofs.lemmas.List.Elements.{All-append, All-cons, All-nil}
use Rattle.std.specs.List.{All}
use Rattle.std.specs.Prelude.{codes}
use Rattle.std.specs.Str.{bytes_eq}
use Rattle.asm_base.specs.declared.tokens.TokenKind.{TokenKind}
use Rattle.asm_base.specs.declared.tokens.TokenKind.TheVariants.{Name, Digits, Character, String, Operator, Other}
use Rattle.asm_base.specs.Tokens.{SpelledToken}
use Rattle.asm_base.specs.Refusals.{◌>>=◌}
use Rattle.asm_expr.specs.declared.faults.ExprCause.{ExprCause}
use Rattle.asm_expr.specs.declared.naming.Name.{Name as TheName}
use Rattle.asm_expr.specs.declared.naming.Name.TheVariants as naming
use Rattle.asm_expr.specs.declared.trees.UnaryOp.{UnaryOp}
use Rattle.asm_expr.specs.declared.trees.UnaryOp.TheVariants.{Minus, Complement}
use Rattle.asm_expr.specs.declared.trees.BinaryOp.{BinaryOp}
use Rattle.asm_expr.specs.declared.trees.BinaryOp.TheVariants.{Add, Sub}
use Rattle.asm_expr.specs.declared.trees.Written.TheVariants.{Plain}
use Rattle.asm_expr.specs.Arithmetic.{turned, combined}
use Rattle.asm_expr.specs.Forms.{Form, wrapped, term_of, symbol_form, constant_form, joined, signed, with_term, with_terms}
use Rattle.asm_expr.specs.Knowledge.{Told, constant, label, Knowledge}
use Rattle.asm_expr.specs.Linear.{form_by, form_of, unary_form, binary_form, linear}
use Rattle.asm_expr.specs.NamesOf.{names_of}
use Rattle.asm_expr.specs.Settled.{put_all, settled}
use Rattle.asm_expr.specs.Trees.{Tree, name, here, unary, binary, height}
use Rattle.expr_texts.specs.Leaves.{leaf_by, leaf_of}
use Rattle.expr_texts.specs.Operators.{operator_of}
use Rattle.asm_operands.specs.Operands.{is_name_kind, is_dot}
use Rattle.asm_operands.specs.Commas.{is_comma}
use Rattle.asm_operands.specs.Sums.{sign_operator}
use Rattle.asm_operands.specs.Worths.{IsConstantTree, FindsValue, IsLeafWorth, FindsLeafWorth, FindsTurned, FindsJoined}
use Rattle.asm_symbols.specs.Interning.{number_of}
use Rattle.asm_symbols.specs.SymbolMap.{SymbolMap, names, index_of}
use Rattle.asm_uses.specs.declared.places.View.{View}
use Rattle.asm_uses.specs.declared.values.Value.{Value}
use Rattle.asm_uses.specs.declared.values.Value.TheVariants.{Number, Label}
use Rattle.asm_uses.specs.KnownIn.{known_in}
use Rattle.asm_uses.specs.Values.{IsValueForm, IsLabelForm, HasSymbol, IsValueTree, IsWorthIn, FindsSum}
use Rattle.asm_uses.proofs.SumLemmas.{one_stays}

-- operators between numbers
wrapped_once : (n : ℕ) → wrapped (0 + wrapped n) ≡ wrapped n
wrapped_once n = omega arith

unary_is : (told : ℕ → Told) (op : UnaryOp) (n : ℕ) → unary_form told op (constant_form n) ≡ Ok (constant_form (turned op n))
unfolding unary_form settled put_all with_terms
unary_is told Minus n = ap (λ n. Ok (constant_form n)) (wrapped_once (2 ^ 64 - wrapped n))
unary_is told Complement n = refl

binary_is : (told : ℕ → Told) (op : BinaryOp) (a b n : ℕ) → combined op a b ≡ Ok n → binary_form told op (constant_form a) (constant_form b) ≡ Ok (constant_form n)
unfolding binary_form settled put_all with_terms combined
binary_is told Add a b n is = ap (λ (r : Result ℕ ExprCause). r >>= (λ n. Ok (constant_form n))) is
binary_is told Sub a b n is = ap (λ (r : Result ℕ ExprCause). r >>= (λ n. Ok (constant_form n))) is
binary_is told op a b n is = ap (λ (r : Result ℕ ExprCause). r >>= (λ n. Ok (constant_form n))) is

-- a label and a number more, or less
abbrev labelled : ℕ → ℕ → Form
labelled symbol offset = record { terms = term_of symbol 1 ∷ []; constant = offset }

moved_form : (told : ℕ → Told) (minus : Bool) (symbol offset number : ℕ)
    → settled told (joined minus (labelled symbol offset) (constant_form number)) ≡ labelled symbol (wrapped (offset + signed minus number))
unfolding with_terms
moved_form told minus symbol offset number = sym (one_stays told (term_of symbol 1) _ refl)

number_first : (told : ℕ → Told) (symbol offset number : ℕ)
    → settled told (joined false (constant_form number) (labelled symbol offset)) ≡ labelled symbol (wrapped (number + offset))
unfolding with_terms with_term
number_first told symbol offset number = sym (one_stays told (term_of symbol 1) _ refl)

-- labels of one stretch
once_less : (o p a b n : ℕ) → a ≡ b → n < 2 ^ 64 → (n + (b + p)) % 2 ^ 64 ≡ (a + o) % 2 ^ 64 → wrapped (o + signed true p) ≡ n
once_less o p a b n same low is = omega arith

twice_less : (o p a b n : ℕ) → n < 2 ^ 64 → (n + (b + p)) % 2 ^ 64 ≡ (a + o) % 2 ^ 64
    → wrapped (wrapped (wrapped (o + signed true p) + wrapped (1 * a)) + wrapped ((2 ^ 64 - 1) * b)) ≡ n
twice_less o p a b n low is = omega arith

same_stretch : (stretch : ℕ) → (stretch == stretch) ≡ true
same_stretch stretch = by (stretch == stretch) refl
  where
    by : (b : Bool) → (stretch == stretch) ≡ b → b ≡ true
    by true is = refl
    by false is = absurd (grind (arith, nat_tests))

apart_form : (told : ℕ → Told) (one other stretch a b o p n : ℕ) (same : Bool) → (one == other) ≡ same → told one ≡ label stretch a → told other ≡ label stretch b
    → n < 2 ^ 64 → (n + (b + p)) % 2 ^ 64 ≡ (a + o) % 2 ^ 64
    → settled told (joined true (labelled one o) (labelled other p)) ≡ constant_form n
unfolding settled put_all with_term with_terms
apart_form told one other stretch a b o p n true same first second low is =
    let is_one : one ≡ other = grind (arith, nat_tests) in
    let places : label stretch a ≡ label stretch b = sym first ∙ ap told is_one ∙ second in
    let place : a ≡ b = cc in
    rw same (ap constant_form (once_less o p a b n place low is))
apart_form told one other stretch a b o p n false same first second low is =
    rw (same, first, second, same_stretch stretch) (ap constant_form (twice_less o p a b n low is))

-- sums of values
pub less_number : (stretch at n more : ℕ) → (more + n) % 2 ^ 64 ≡ at % 2 ^ 64 → FindsSum true (Label stretch at) (Number n) (Some (Label stretch more))
less_number stretch at n more is told first second one other =
    let place = one.place in
    record {
      symbol = one.symbol;
      origin = one.origin;
      offset = wrapped (one.offset + signed true n);
      is = rw (one.is, other) (moved_form told true one.symbol one.offset n);
      known = one.known;
      place = omega arith;
    }

pub more_number : (stretch at n more : ℕ) → more % 2 ^ 64 ≡ (at + n) % 2 ^ 64 → FindsSum false (Label stretch at) (Number n) (Some (Label stretch more))
more_number stretch at n more is told first second one other =
    let place = one.place in
    record {
      symbol = one.symbol;
      origin = one.origin;
      offset = wrapped (one.offset + n);
      is = rw (one.is, other) (moved_form told false one.symbol one.offset n);
      known = one.known;
      place = omega arith;
    }

pub number_more : (stretch at n more : ℕ) → more % 2 ^ 64 ≡ (at + n) % 2 ^ 64 → FindsSum false (Number n) (Label stretch at) (Some (Label stretch more))
number_more stretch at n more is told first second one other =
    let place = other.place in
    record {
      symbol = other.symbol;
      origin = other.origin;
      offset = wrapped (n + other.offset);
      is = rw (one, other.is) (number_first told other.symbol other.offset n);
      known = other.known;
      place = omega arith;
    }

pub less_label : (stretch others at origin n : ℕ) → others ≡ stretch → n < 2 ^ 64 → (n + origin) % 2 ^ 64 ≡ at % 2 ^ 64
    → FindsSum true (Label stretch at) (Label others origin) (Some (Number n))
less_label stretch others at origin n same low is told first second one other =
    let place = one.place in
    let place_other = other.place in
    rw (one.is, other.is)
    (apart_form told one.symbol other.symbol stretch one.origin other.origin one.offset other.offset n (one.symbol == other.symbol) refl
    one.known (other.known ∙ ap (λ s. label s other.origin) same) low (omega arith))

-- trees of operators
pub turned_tree : (map : SymbolMap) (known : Knowledge) (op : UnaryOp) (tree : Tree) (n : ℕ) → IsValueTree map known tree (Number n) → IsValueTree map known (unary op tree) (Number (turned op n))
unfolding linear
turned_tree map known op tree n below = record {
  form = constant_form (turned op n);
  counts = ap (λ (r : Result Form ExprCause). r >>= unary_form known.told op) (below.counts ∙ ap Ok below.is) ∙ unary_is known.told op n;
  is = refl;
  names = below.names;
}

-- the form that an operator makes has this value
record Makes (told : ℕ → Told) (op : BinaryOp) (first second : Form) (value : Value) : Type 0 where
  pub form : Form
  pub counts : binary_form told op first second ≡ Ok form
  pub is : IsValueForm told value form

joined_tree : (map : SymbolMap) (known : Knowledge) (op : BinaryOp) (left right : Tree) (a b value : Value)
    → ((first second : Form) → IsValueForm known.told a first → IsValueForm known.told b second → Makes known.told op first second value)
    → IsValueTree map known left a → IsValueTree map known right b → IsValueTree map known (binary op left right) value
unfolding linear
joined_tree map known op left right a b value makes one other =
    let made = makes one.form other.form one.is other.is in
    record {
      form = made.form;
      counts =
          ap (λ (r : Result Form ExprCause). r >>= (λ one. linear known right >>= (λ other. binary_form known.told op one other))) one.counts
          ∙ ap (λ (r : Result Form ExprCause). r >>= (λ second. binary_form known.told op one.form second)) other.counts
          ∙ made.counts;
      is = made.is;
      names = All-append (HasSymbol map) (names_of left) (names_of right) one.names other.names;
    }

signed_makes : (told : ℕ → Told) (minus : Bool) (a b value : Value) (first second : Form) → FindsSum minus a b (Some value) → IsValueForm told a first → IsValueForm told b second
    → Makes told (sign_operator minus) first second value
unfolding binary_form
signed_makes told true a b value first second sum one other = record { form = settled told (joined true first second); counts = refl; is = sum told first second one other }
signed_makes told false a b value first second sum one other = record { form = settled told (joined false first second); counts = refl; is = sum told first second one other }

pub labels_joined : (view : View) (token : SpelledToken) (minus : Bool) (a b : Value) (answer : Option Value) → operator_of token ≡ Some (sign_operator minus)
    → FindsSum minus a b answer → FindsJoined (IsWorthIn view) token a b answer
labels_joined view token minus a b (Some value) sign sum = λ op left right is one other.
    let found : Some (sign_operator minus) ≡ Some op = sym sign ∙ is in
    let same : sign_operator minus ≡ op = cc in
    joined_tree view.symbols.now (known_in view) op left right a b value
    (λ first second here there. subst (λ op. Makes (known_in view).told op first second value) same (signed_makes (known_in view).told minus a b value first second sum here there)) one other
labels_joined view token minus a b None sign sum = tt

pub numbers_joined : (view : View) (token : SpelledToken) (a b n : ℕ) → FindsValue token a b (Some n) → FindsJoined (IsWorthIn view) token (Number a) (Number b) (Some (Number n))
numbers_joined view token a b n gives op left right is one other =
    joined_tree view.symbols.now (known_in view) op left right (Number a) (Number b) (Number n)
    (λ first second here there. record {
      form = constant_form n;
      counts = rw (here, there) (binary_is (known_in view).told op a b n (gives op is));
      is = refl;
    }) one other

-- leaves
pub number_leaf : (view : View) (token : SpelledToken) (n : ℕ) → IsLeafWorth IsConstantTree token n → IsLeafWorth (IsWorthIn view) token (Number n)
number_leaf view token n is = record {
  tree = is.tree;
  is = is.is;
  lone = is.lone;
  worth = record {
    form = constant_form n;
    counts = is.worth.form (known_in view);
    is = refl;
    names = subst (All (HasSymbol view.symbols.now)) (sym is.worth.names) (All-nil (HasSymbol view.symbols.now));
  };
  apart = is.apart;
}

named_by : (kind : TokenKind) (bytes : List ℕ) → kind ≡ Name → (is_name_kind kind && bytes_eq bytes (codes ".")) ≡ false → leaf_by kind bytes ≡ Ok (name (Plain bytes))
named_by Name bytes is other = ap (λ (b : Bool). Ok (cond b here (name (Plain bytes)))) other
named_by Digits bytes is other = cc
named_by Character bytes is other = cc
named_by String bytes is other = cc
named_by Operator bytes is other = cc
named_by Other bytes is other = cc

found_number : (map : SymbolMap) (named : TheName) (index : ℕ) → index_of named (names map.symbols) ≡ Some index → number_of map named ≡ index
unfolding number_of
found_number map named index is = ap (λ found. unwrap_or found (length map.symbols)) is

named_leaf : (view : View) (token : SpelledToken) (index : ℕ) (value : Value) → token.kind ≡ Name → is_dot token ≡ false → is_comma token ≡ false
    → index_of (naming.Plain token.bytes) (names view.symbols.now.symbols) ≡ Some index → IsValueForm (known_in view).told value (form_of (known_in view).told index)
    → IsLeafWorth (IsWorthIn view) token value
unfolding leaf_of height linear
named_leaf view token index value kind dot comma found is = record {
  tree = name (Plain token.bytes);
  is = named_by token.kind token.bytes kind dot;
  lone = refl;
  worth = record {
    form = form_of (known_in view).told index;
    counts = ap (λ symbol. Ok (form_of (known_in view).told symbol)) (found_number view.symbols.now (naming.Plain token.bytes) index found);
    is = is;
    names = All-cons (HasSymbol view.symbols.now) (Plain token.bytes) [] (index, found) (All-nil (HasSymbol view.symbols.now));
  };
  apart = comma;
}

pub label_leaf : (view : View) (token : SpelledToken) (index stretch at : ℕ) → token.kind ≡ Name → is_dot token ≡ false → is_comma token ≡ false
    → Some index ≡ index_of (naming.Plain token.bytes) (names view.symbols.now.symbols) → label stretch at ≡ (known_in view).told index
    → IsLeafWorth (IsWorthIn view) token (Label stretch at)
label_leaf view token index stretch at kind dot comma found known =
    named_leaf view token index (Label stretch at) kind dot comma (sym found) (record {
      symbol = index;
      origin = at;
      offset = 0;
      is = ap (form_by (known_in view).told index) (sym known);
      known = sym known;
      place = omega arith;
    })

pub constant_leaf : (view : View) (token : SpelledToken) (index n : ℕ) → token.kind ≡ Name → is_dot token ≡ false → is_comma token ≡ false
    → Some index ≡ index_of (naming.Plain token.bytes) (names view.symbols.now.symbols) → constant n ≡ (known_in view).told index
    → IsLeafWorth (IsWorthIn view) token (Number n)
constant_leaf view token index n kind dot comma found known =
    named_leaf view token index (Number n) kind dot comma (sym found) (ap (form_by (known_in view).told index) (sym known))
