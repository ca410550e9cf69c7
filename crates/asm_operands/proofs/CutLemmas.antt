-- What is counted in tokens, also where these are cut behind it.
use Rattle.std.proofs.Common.{◌≡◌, ℕ, zero, suc, ◌+◌, ◌<◌, ◌≤◌, Bool, true, false, nat_lt, List, [], ◌∷◌, Option, Some, None, Ok, length, take, map, get_or, refl, sym, ap, subst, ◌∙◌, arith}
use Rattle.std.proofs.lemmas.Bool.Decides.{nat_tests}
use Rattle.std.specs.List.{list_any}
use Rattle.std.proofs.lemmas.List.{length-take-le, get_or-take, length-map, take-map}
use Rattle.asm_base.specs.declared.tokens.Token.{Token}
use Rattle.asm_base.specs.Tokens.{SpelledToken, spelled}
use Rattle.asm_expr.specs.declared.trees.UnaryOp.{UnaryOp}
use Rattle.asm_expr.specs.declared.trees.BinaryOp.{BinaryOp}
use Rattle.asm_expr.specs.Trees.{Tree}
use Rattle.asm_expr.specs.Arithmetic.{turned}
use Rattle.expr_texts.specs.Operators.{opens, closes, prefix_of, operator_of, level_of}
use Rattle.expr_texts.specs.Leaves.{leaf_of}
use Rattle.expr_texts.specs.Reading.{operator_at}
use Rattle.expr_texts.specs.Found.{spelled_from, operator_in}
use Rattle.asm_operands.specs.declared.constants.Counted.{Counted}
use Rattle.asm_operands.specs.Levels.{token_level}
use Rattle.asm_operands.specs.Commas.{is_comma}
use Rattle.asm_operands.specs.Constants.{IsConstant, IsLoneConstant, IsFront}
use Rattle.asm_operands.specs.Numbers.{FindsLeaf}
use Rattle.asm_operands.specs.Worths.{IsConstantTree, IsLeafWorth, FindsTurned, FindsJoined, IsWorth, IsFrontWorth}
use Rattle.asm_operands.specs.Counting.{first_level, ReadsOperand, ReadsExpression, IsRead, IsCut, AreApart, IsCounted, FindsCounted, IsExpression}
use Rattle.asm_operands.proofs.CommaLemmas.{opens_apart, closes_apart, prefix_apart, prefix_unopened, operator_apart}
use Rattle.asm_operands.proofs.TreeCounts.{number_found, turned_found}
use Rattle.asm_operands.proofs.TokenLists.{one_left, level_none, level_one}
use Rattle.asm_operands.proofs.CountingLemmas.{begun_by, ended_by, gone_on, leaf_read, opened_read, prefix_read, whole_read, IsBegun, HasOperator, from_some, levels_low}

-- one token, and what follows it, are no commas
one_apart : (tokens : List Token) (at next : ℕ) → ((d : Token) → is_comma (spelled (get_or tokens at d)) ≡ false) → AreApart tokens (at + 1) next → AreApart tokens at next
one_apart tokens at next one rest i d from to = by (nat_lt at i) refl
  where
    by : (b : Bool) → nat_lt at i ≡ b → is_comma (spelled (get_or tokens i d)) ≡ false
    by true test = rest i d (grind (arith, nat_tests)) to
    by false test =
        let back : i ≤ at = grind (arith, nat_tests) in
        let same : at ≡ i = omega arith in
        subst (λ n. is_comma (spelled (get_or tokens n d)) ≡ false) same (one d)

no_more_apart : (tokens : List Token) (at : ℕ) → AreApart tokens at at
no_more_apart tokens at i d from to = absurd (omega arith)

both_apart : (tokens : List Token) (at middle next : ℕ) → AreApart tokens at middle → AreApart tokens middle next → AreApart tokens at next
both_apart tokens at middle next first second i d from to = by (nat_lt i middle) refl
  where
    by : (b : Bool) → nat_lt i middle ≡ b → is_comma (spelled (get_or tokens i d)) ≡ false
    by true test = first i d from (grind (arith, nat_tests))
    by false test = second i d (grind (arith, nat_tests)) to

-- an element that is there is the same for every other one in its place
same_for : (tokens : List Token) (at : ℕ) (d e : Token) → at < length tokens → get_or tokens at d ≡ get_or tokens at e
same_for [] at d e inside = absurd (omega arith)
same_for (token ∷ rest) zero d e inside = refl
same_for (token ∷ rest) (suc at) d e inside = same_for rest at d e (omega arith)

any_unless : (tokens : List Token) (at : ℕ) (d : Token) → at < length tokens → is_comma (spelled (get_or tokens at d)) ≡ false
    → (e : Token) → is_comma (spelled (get_or tokens at e)) ≡ false
any_unless tokens at d inside is e = ap (λ token. is_comma (spelled token)) (same_for tokens at e d inside) ∙ is

-- where tokens are cut, the level behind what was read is the same
level_cut_by : (tokens : List Token) (next cut : ℕ) (d : Token) → IsCut tokens next cut → first_level (spelled_from (take cut tokens) next) ≡ first_level (spelled_from tokens next)
level_cut_by tokens next cut d is = by (nat_lt next cut) refl
  where
    long : length (take cut tokens) ≡ cut
    long = length-take-le cut tokens is.within

    by : (b : Bool) → nat_lt next cut ≡ b → first_level (spelled_from (take cut tokens) next) ≡ first_level (spelled_from tokens next)
    by true test =
        let front : next < cut = grind (arith, nat_tests) in
        let within = is.within in
        level_one (take cut tokens) next d (omega (arith, long))
        ∙ ap (λ token. token_level (spelled token)) (get_or-take cut tokens next d front)
        ∙ sym (level_one tokens next d (omega arith))
    by false test =
        let back : cut ≤ next = grind (arith, nat_tests) in
        let behind = is.behind in
        let same : cut ≡ next = omega arith in
        level_none (take cut tokens) next (omega (arith, long)) ∙ sym (subst (λ n. first_level (spelled_from tokens n) ≡ 0) same is.plain)

level_cut : (tokens : List Token) (next cut : ℕ) → IsCut tokens next cut → first_level (spelled_from (take cut tokens) next) ≡ first_level (spelled_from tokens next)
level_cut [] next zero is = refl
level_cut [] next (suc cut) is = refl
level_cut (first ∷ others) next cut is = level_cut_by (first ∷ others) next cut first is

-- a cut behind what is read later is one behind what is read first
cut_before : (tokens : List Token) (first next cut : ℕ) → first ≤ next → IsCut tokens next cut → IsCut tokens first cut
cut_before tokens first next cut before is = record { behind = (let behind = is.behind in omega arith); within = is.within; plain = is.plain }

-- what an expression counts as far as it is read, also where tokens are cut behind it
pub record IsLeft {V : Type 0} (Worth : Tree → V → Type 0) (tokens : List Token) (at level depth : ℕ) (left : Counted V) : Type 0 where
  pub later : at < left.next
  pub within : left.next ≤ length tokens
  pub binds : left.level ≡ first_level (spelled_from tokens left.next)
  pub apart : AreApart tokens at left.next
  pub each : (cut : ℕ) → IsCut tokens left.next cut → IsBegun Worth (take cut tokens) at level depth left

-- where an operator follows, a token is there
level_inside : (tokens : List Token) (at : ℕ) → 1 ≤ first_level (spelled_from tokens at) → at < length tokens
level_inside tokens at some = by (nat_lt at (length tokens)) refl
  where
    by : (b : Bool) → nat_lt at (length tokens) ≡ b → at < length tokens
    by true test = grind (arith, nat_tests)
    by false test =
        let back : length tokens ≤ at = grind (arith, nat_tests) in
        absurd (omega (arith, level_none tokens at back))

operator_there : (tokens : List Token) (at level : ℕ) (d : Token) (op : BinaryOp) → at < length tokens → Some op ≡ operator_at level (spelled (get_or tokens at d)) → Some op ≡ operator_in level (spelled_from tokens at)
unfolding operator_in
operator_there tokens at level d op inside is = is ∙ sym (ap (operator_in level) (one_left tokens at d inside))

-- no comma is in the list
apart_list : (tokens : List Token) (n : ℕ) → n ≤ length tokens → ((i : ℕ) (d : Token) → i < n → is_comma (spelled (get_or tokens i d)) ≡ false)
    → list_any is_comma (take n (map spelled tokens)) ≡ false
apart_list tokens zero few apart = refl
apart_list [] (suc n) few apart = absurd (omega arith)
apart_list (token ∷ rest) (suc n) few apart =
    rw (apart 0 token (omega arith)) (apart_list rest n (omega arith) (λ i d inside. apart (suc i) d (omega arith)))

-- the first tokens
take_front : (tokens : List Token) (most next : ℕ) → next ≤ length (take most tokens) → take next (take most tokens) ≡ take next tokens
take_front tokens most zero few = refl
take_front tokens zero (suc next) few = absurd (omega arith)
take_front [] (suc most) (suc next) few = refl
take_front (token ∷ rest) (suc most) (suc next) few = ap (λ ts. token ∷ ts) (take_front rest most next (omega arith))

short_front : (tokens : List Token) (most : ℕ) → length (take most tokens) ≤ length tokens
short_front tokens zero = omega arith
short_front [] (suc most) = omega arith
short_front (token ∷ rest) (suc most) = omega (arith, short_front rest most)

pub few_front : (tokens : List Token) (most : ℕ) → length (take most tokens) ≤ most
few_front tokens zero = omega arith
few_front [] (suc most) = omega arith
few_front (token ∷ rest) (suc most) = omega (arith, few_front rest most)

module _ {V : Type 0} (Worth : Tree → V → Type 0) where
  -- a leaf
  pub leaf_counted : (tokens : List Token) (at depth level : ℕ) (value : V) (d : Token) → at < length tokens → IsLeafWorth Worth (spelled (get_or tokens at d)) value
      → level ≡ first_level (spelled_from tokens (at + 1)) → IsCounted Worth (ReadsOperand depth) tokens at (record { value = value; next = at + 1; level = level })
  leaf_counted tokens at depth level value d inside is now = record {
    later = omega arith;
    within = omega arith;
    level = now;
    apart = one_apart tokens at (at + 1) (any_unless tokens at d inside is.apart) (no_more_apart tokens (at + 1));
    each = λ cut is_cut.
        let long = length-take-le cut tokens is_cut.within in
        let behind = is_cut.behind in
        leaf_read Worth (take cut tokens) at depth level is.tree value d (omega (arith, long))
        (ap (λ token. leaf_of (spelled token)) (get_or-take cut tokens at d (omega arith)) ∙ is.is) is.lone is.worth
        (now ∙ sym (level_cut tokens (at + 1) cut is_cut));
  }

  -- an operand that no operator follows that binds tightly enough is an expression
  pub operand_alone : (tokens : List Token) (at level depth : ℕ) (found : Counted V) → found.level < level → IsCounted Worth (ReadsOperand depth) tokens at found
      → IsCounted Worth (ReadsExpression level depth) tokens at found
  operand_alone tokens at level depth found low is = record {
    later = is.later;
    within = is.within;
    level = is.level;
    apart = is.apart;
    each = λ cut is_cut.
        ended_by Worth (take cut tokens) at level depth found (is.level ∙ sym (level_cut tokens found.next cut is_cut)) low
        (begun_by Worth (take cut tokens) at level depth found (is.each cut is_cut));
  }

  -- no operator binds so tightly as one in front of an operand
  pub operand_tight : (tokens : List Token) (at depth : ℕ) (found : Counted V) → IsCounted Worth (ReadsOperand depth) tokens at found → IsCounted Worth (ReadsExpression 7 depth) tokens at found
  operand_tight tokens at depth found is =
      operand_alone tokens at 7 depth found (let now = is.level in omega (arith, levels_low (spelled_from tokens found.next))) is

  pub tight_finds : (tokens : List Token) (at depth : ℕ) (answer : Option (Counted V)) → FindsCounted Worth (ReadsOperand depth) tokens at answer
      → FindsCounted Worth (ReadsExpression 7 depth) tokens at answer
  tight_finds tokens at depth (Some found) is = operand_tight tokens at depth found is
  tight_finds tokens at depth None is = tt

  -- parentheses
  pub opened_counted : (tokens : List Token) (at end depth : ℕ) (value : V) (level : ℕ) (d e : Token) → at < length tokens → true ≡ opens (spelled (get_or tokens at d)) → depth < 64
      → IsCounted Worth (ReadsExpression 1 (depth + 1)) tokens (at + 1) (record { value = value; next = end; level = first_level (spelled_from tokens end) })
      → end < length tokens → true ≡ closes (spelled (get_or tokens end e)) → level ≡ first_level (spelled_from tokens (end + 1))
      → IsCounted Worth (ReadsOperand depth) tokens at (record { value = value; next = end + 1; level = level })
  opened_counted tokens at end depth value level d e inside is low counted within ends now =
      let later = counted.later in
      record {
        later = omega arith;
        within = omega arith;
        level = now;
        apart = one_apart tokens at (end + 1) (any_unless tokens at d inside (opens_apart (spelled (get_or tokens at d)) is))
            (both_apart tokens (at + 1) end (end + 1) counted.apart
            (one_apart tokens end (end + 1) (any_unless tokens end e within (closes_apart (spelled (get_or tokens end e)) ends)) (no_more_apart tokens (end + 1))));
        each = λ cut is_cut.
            let long = length-take-le cut tokens is_cut.within in
            let behind = is_cut.behind in
            opened_read Worth (take cut tokens) at depth level (record { value = value; next = end; level = first_level (spelled_from tokens end) }) d e (omega (arith, long))
            (is ∙ ap (λ token. opens (spelled token)) (sym (get_or-take cut tokens at d (omega arith)))) low
            (counted.each cut (cut_before tokens end (end + 1) cut (omega arith) is_cut)) (omega (arith, long))
            (ends ∙ ap (λ token. closes (spelled token)) (sym (get_or-take cut tokens end e (omega arith))))
            (now ∙ sym (level_cut tokens (end + 1) cut is_cut));
      }

  -- a prefix operator
  pub prefix_counted : (tokens : List Token) (at depth : ℕ) (op : UnaryOp) (inner : Counted V) (value : V) (d : Token) → length tokens ≤ 200 → at < length tokens
      → Some op ≡ prefix_of (spelled (get_or tokens at d)) → depth < 64 → IsCounted Worth (ReadsExpression 7 (depth + 1)) tokens (at + 1) inner
      → FindsTurned Worth op inner.value (Some value)
      → IsCounted Worth (ReadsOperand depth) tokens at (record { value = value; next = inner.next; level = inner.level })
  prefix_counted tokens at depth op inner value d few inside some low counted gives =
      let later = counted.later in
      record {
        later = omega arith;
        within = counted.within;
        level = counted.level;
        apart = one_apart tokens at inner.next (any_unless tokens at d inside (prefix_apart (spelled (get_or tokens at d)) op some)) counted.apart;
        each = λ cut is_cut.
            let long = length-take-le cut tokens is_cut.within in
            let behind = is_cut.behind in
            let within = is_cut.within in
            prefix_read Worth (take cut tokens) at depth op inner value d (omega (arith, long)) (omega (arith, long))
            (prefix_unopened (spelled (get_or tokens at d)) op some ∙ ap (λ token. opens (spelled token)) (sym (get_or-take cut tokens at d (omega arith))))
            (some ∙ ap (λ token. prefix_of (spelled token)) (sym (get_or-take cut tokens at d (omega arith)))) low
            (counted.each cut is_cut) gives;
      }

  pub left_begins : (tokens : List Token) (at level depth : ℕ) (left : Counted V) → IsCounted Worth (ReadsOperand depth) tokens at left → IsLeft Worth tokens at level depth left
  left_begins tokens at level depth left is = record {
    later = is.later;
    within = is.within;
    binds = is.level;
    apart = is.apart;
    each = λ cut is_cut. begun_by Worth (take cut tokens) at level depth left (is.each cut is_cut);
  }

  pub left_ends : (tokens : List Token) (at level depth : ℕ) (left : Counted V) → left.level < level → IsLeft Worth tokens at level depth left
      → IsCounted Worth (ReadsExpression level depth) tokens at left
  left_ends tokens at level depth left low is = record {
    later = is.later;
    within = is.within;
    level = is.binds;
    apart = is.apart;
    each = λ cut is_cut.
        ended_by Worth (take cut tokens) at level depth left (is.binds ∙ sym (level_cut tokens left.next cut is_cut)) low (is.each cut is_cut);
  }

  pub expression_ends : (tokens : List Token) (at level depth : ℕ) (left : Counted V) → left.level < level → IsLeft Worth tokens at level depth left
      → IsExpression Worth level depth tokens at left.next left.value
  expression_ends tokens at level depth left low is = record {
    counted =
        subst (λ n. IsCounted Worth (ReadsExpression level depth) tokens at (record { value = left.value; next = left.next; level = n })) is.binds
        (left_ends tokens at level depth left low is);
    ends = let now = is.binds in omega arith;
  }

  pub still_byte : (tokens : List Token) (at level depth : ℕ) (left : Counted V) → IsLeft Worth tokens at level depth left → left.level ≤ 6
  still_byte tokens at level depth left is = let now = is.binds in omega (arith, levels_low (spelled_from tokens left.next))

  pub left_inside : (tokens : List Token) (at level depth : ℕ) (left : Counted V) → 1 ≤ level → level ≤ left.level → IsLeft Worth tokens at level depth left → left.next < length tokens
  left_inside tokens at level depth left some high is = level_inside tokens left.next (let now = is.binds in omega arith)

  pub left_goes_on : (tokens : List Token) (at level depth : ℕ) (value : V) (d : Token) (left right : Counted V) → length tokens ≤ 200 → 1 ≤ level → level ≤ left.level
      → FindsJoined Worth (spelled (get_or tokens left.next d)) left.value right.value (Some value)
      → IsCounted Worth (ReadsExpression (left.level + 1) depth) tokens (left.next + 1) right
      → IsLeft Worth tokens at level depth left → IsLeft Worth tokens at level depth (record { value = value; next = right.next; level = right.level })
  left_goes_on tokens at level depth value d left right few some high gives is before =
      let inside = left_inside tokens at level depth left some high before in
      let token : SpelledToken = spelled (get_or tokens left.next d) in
      let now : left.level ≡ token_level token = before.binds ∙ level_one tokens left.next d inside in
      let has : HasOperator level token (token_level token) = from_some level token (operator_of token) refl some (omega (arith, now)) in
      let later = is.later in
      let begun = before.later in
      record {
        later = omega arith;
        within = is.within;
        binds = is.level;
        apart = both_apart tokens at left.next right.next before.apart
            (one_apart tokens left.next right.next (any_unless tokens left.next d inside (operator_apart token has.op has.is)) is.apart);
        each = λ cut is_cut.
            let long = length-take-le cut tokens is_cut.within in
            let behind = is_cut.behind in
            let within = is_cut.within in
            let binds : left.level + 1 ≡ level_of has.op + 1 = ap (λ n. n + 1) (now ∙ sym has.binds) in
            gone_on Worth (take cut tokens) at level depth has.op left right (record { value = value; next = right.next; level = right.level }) (omega (arith, long))
            (operator_there (take cut tokens) left.next level d has.op (omega (arith, long))
            (has.from ∙ ap (λ token. operator_at level (spelled token)) (sym (get_or-take cut tokens left.next d (omega arith)))))
            (subst (λ n. IsRead Worth (ReadsExpression n depth) (take cut tokens) (left.next + 1) right) binds (is.each cut is_cut))
            (λ one other first second. gives has.op one other has.is first second) refl
            (before.each cut (cut_before tokens left.next right.next cut (omega arith) is_cut));
      }

  -- what is at the front of the first tokens is at the front of all
  pub front_found : (tokens : List Token) (most next : ℕ) (value : V) → IsExpression Worth 1 0 (take most tokens) 0 next value
      → IsFrontWorth Worth (map spelled tokens) (record { value = value; length = next })
  front_found tokens most next value is =
      let front : List Token = take most tokens in
      let counted = is.counted in
      let ends = is.ends in
      let within : next ≤ length front = counted.within in
      let short : length front ≤ length tokens = short_front tokens most in
      let cut : IsCut front next next = record { behind = omega arith; within = counted.within; plain = omega arith } in
      let long = length-take-le next front counted.within in
      let one = whole_read Worth (take next front) (record { value = value; next = next; level = first_level (spelled_from front next) }) (counted.each next cut) (omega (arith, long)) in
      let same : map spelled (take next front) ≡ take next (map spelled tokens) = ap (map spelled) (take_front tokens most next within) ∙ sym (take-map spelled next tokens) in
      record {
        within = omega (arith, length-map tokens spelled);
        one = subst (λ ts. IsWorth Worth ts value) same one;
        apart = apart_list tokens next (omega arith) (λ i d inside.
            ap (λ token. is_comma (spelled token)) (sym (get_or-take most tokens i d (omega (arith, few_front tokens most, within)))) ∙ counted.apart i d (omega arith) inside);
      }

-- what is worth a number is that number
pub constant_worth : (tokens : List SpelledToken) (value : ℕ) → IsWorth IsConstantTree tokens value → IsConstant tokens value
constant_worth tokens value is = record { tree = is.tree; reads = is.reads; counts = is.worth.form; names = is.worth.names }

pub constant_front : (tokens : List SpelledToken) (value n : ℕ) → IsFrontWorth IsConstantTree tokens (record { value = value; length = n }) → IsFront tokens (record { value = value; length = n })
constant_front tokens value n is = record { within = is.within; one = constant_worth (take n tokens) value is.one; apart = is.apart }

-- a prefix operator and a number
pub two_constant : (sign token : Token) (op : UnaryOp) (n : ℕ) → Some op ≡ prefix_of (spelled sign) → FindsLeaf (spelled token) (Some n)
    → IsLoneConstant (spelled sign ∷ spelled token ∷ []) (turned op n)
two_constant sign token op n some is =
    let tokens : List Token = sign ∷ token ∷ [] in
    let inner : Counted ℕ = record { value = n; next = 2; level = first_level (spelled_from tokens 2) } in
    let whole : Counted ℕ = record { value = turned op n; next = 2; level = first_level (spelled_from tokens 2) } in
    let none : first_level (spelled_from tokens 2) ≡ 0 = level_none tokens 2 (omega arith) in
    let leaf = operand_tight IsConstantTree tokens 1 1 inner (leaf_counted IsConstantTree tokens 1 1 (first_level (spelled_from tokens 2)) n sign (omega arith) (number_found (spelled token) (Some n) is) refl) in
    let both = prefix_counted IsConstantTree tokens 0 0 op inner (turned op n) sign (omega arith) (omega arith) some (omega arith) leaf (turned_found op n (turned op n) refl) in
    let found : IsExpression IsConstantTree 1 0 (take 2 tokens) 0 2 (turned op n) =
    record { counted = operand_alone IsConstantTree tokens 0 1 0 whole (omega arith) both; ends = omega arith } in
    let front = constant_front (map spelled tokens) (turned op n) 2 (front_found IsConstantTree tokens 2 2 (turned op n) found) in
    record { one = front.one; apart = front.apart }
