-- The reading of an expression at a place, by the text that stands there.
use Rattle.std.proofs.Common.{◌≡◌, ℕ, zero, suc, ◌+◌, ◌-◌, ◌≤◌, false, List, [], ◌∷◌, ◌++◌, None, Ok, Err, length, map, drop, take, refl, sym, ap, subst, ◌∙◌, arith, length-append, length-drop}
use Rattle.std.proofs.lemmas.List.{drop-map, take-append-drop, map-append, length-map, take_all, append-nil, length-take-le, nil_from_length}
use Rattle.std.proofs.Math.ListN.{drop_of_length-le}
use Rattle.asm_base.specs.declared.tokens.Token.{Token}
use Rattle.asm_base.specs.Tokens.{SpelledToken, spelled}
use Rattle.asm_base.specs.Refusals.{◌>>=◌}
use Rattle.asm_expr.specs.declared.faults.ExprCause.{ExprCause}
use Rattle.asm_expr.specs.declared.faults.ExprCause.TheVariants as cause
use Rattle.asm_expr.specs.Trees.{Tree}
use Rattle.expr_texts.specs.Reading.{Read, Reading, ReadTree, read, reading, reading_of, read_at}
use Rattle.expr_texts.specs.Grammar.{IsTextOf, IsFoundIn, IsReadAs, operator_follows}
use Rattle.expr_texts.specs.Found.{spelled_from}
use Rattle.att_operands.specs.declared.faults.OperandCause.TheVariants.{BadExpression}
use Rattle.att_operands.specs.Marks.{mark_by}
use Rattle.att_operands.proofs.SpelledIsRead.{text_some}
use Rattle.att_operands.proofs.SuffixPlaces.{none_there, few_suffix}
use Rattle.att_operands.specs.Values.{suffix_at, as_value, value_with, value_at}

-- what is read from a place on is read at the place
pub placed_reads : (tokens : List SpelledToken) (at next : ℕ) (tree : Tree) (rest : List SpelledToken) → reading 1 0 (drop at tokens) ≡ Ok (read tree rest)
    → next ≡ length tokens - length rest → reading_of tokens at ≡ Ok (record { tree = tree; next = next })
unfolding reading_of
placed_reads tokens at next tree rest is behind =
    ap (λ (r : Read). r >>= (λ found. Ok (record { tree = found.tree; next = length tokens - length found.rest }))) is
    ∙ ap (λ (n : ℕ). Ok (record { tree = tree; next = n })) (sym behind)

-- and so is its fault
pub placed_fails : (tokens : List SpelledToken) (at : ℕ) (cause : ExprCause) → reading 1 0 (drop at tokens) ≡ Err cause → reading_of tokens at ≡ Err cause
unfolding reading_of
placed_fails tokens at cause is = ap (λ (r : Read). r >>= (λ found. Ok (record { tree = found.tree; next = length tokens - length found.rest }))) is

nothing_reads : reading 1 0 [] ≡ Err cause.BadExpression
unfolding reading read_at
nothing_reads = refl

unsuffixed : (tokens : List SpelledToken) (at : ℕ) → length tokens ≤ at → suffix_at tokens at ≡ None
unfolding mark_by
unsuffixed tokens at within = few_suffix tokens at (let none = none_there tokens (at + 1) (omega arith) in rw none refl) (omega arith)

-- where nothing stands, an expression is missing
pub nothing_due : (tokens : List Token) (at : ℕ) → length tokens ≤ at → value_at (map spelled tokens) at ≡ Err BadExpression
unfolding value_at
nothing_due tokens at within =
    let all = map spelled tokens in
    let behind : length all ≤ at = omega (arith, length-map tokens spelled) in
    ap (value_with all at) (unsuffixed all at behind)
    ∙ ap (as_value None 0) (placed_fails all at cause.BadExpression (ap (reading 1 0) (drop_of_length-le all behind) ∙ nothing_reads))

-- what is left of what is left
none_left : {A : Type 0} (n : ℕ) → (let none : List A = [] in drop n none ≡ none)
none_left zero = refl
none_left (suc n) = refl

drops : {A : Type 0} (at more : ℕ) (xs : List A) → drop more (drop at xs) ≡ drop (at + more) xs
drops {A} at more [] = ap (drop more) (none_left {A = A} at) ∙ none_left {A = A} more ∙ sym (none_left {A = A} (at + more))
drops zero more (x ∷ xs) = let same : 0 + more ≡ more = omega arith in rw same refl
drops (suc at) more (x ∷ xs) = let same : suc at + more ≡ suc (at + more) = omega arith in rw same (drops at more xs)

-- the tokens from a place on, up to another one and from there on
pub front_at : (tokens : List Token) (at next : ℕ) → at ≤ next → drop at (map spelled tokens) ≡ map spelled (take (next - at) (drop at tokens)) ++ spelled_from tokens next
front_at tokens at next order =
    let sum : at + (next - at) ≡ next = omega arith in
    drop-map spelled at tokens
    ∙ ap (λ (ts : List Token). map spelled ts) (sym (take-append-drop (next - at) (drop at tokens)))
    ∙ map-append spelled (take (next - at) (drop at tokens)) (drop (next - at) (drop at tokens))
    ∙ ap (λ (ts : List Token). map spelled (take (next - at) (drop at tokens)) ++ map spelled ts) (drops at (next - at) tokens ∙ ap (λ (n : ℕ). drop n tokens) sum)

-- all tokens from a place on
pub left_at : (tokens : List Token) (at : ℕ) → take (length tokens - at) (drop at tokens) ≡ drop at tokens
left_at tokens at = take_all (length tokens - at) (drop at tokens) (omega (arith, length-drop at tokens))

nothing_left_out : (tokens : List SpelledToken) → drop 0 tokens ≡ tokens
nothing_left_out [] = refl
nothing_left_out (token ∷ tokens) = refl

-- a text of a tree is read as the tree
abbrev pub TextsAreRead : Type 0
TextsAreRead = (tree : Tree) (before text behind : List SpelledToken) → IsTextOf tree text → operator_follows behind ≡ false → IsReadAs tree before text behind

-- what is read begins with a text of its tree
abbrev pub ReadsAreTexts : Type 0
ReadsAreTexts = (tokens : List SpelledToken) (at : ℕ) (found : ReadTree) → reading_of tokens at ≡ Ok found → IsFoundIn tokens at found

-- a text is read where it stands
pub text_at : TextsAreRead → (tokens : List SpelledToken) (at next : ℕ) (tree : Tree) (text behind : List SpelledToken) → drop at tokens ≡ text ++ behind → IsTextOf tree text
    → operator_follows behind ≡ false → next ≡ at + length text → reading_of tokens at ≡ Ok (record { tree = tree; next = next })
text_at text_is_read tokens at next tree text behind stands is none next_is =
    let some = text_some 64 tree 1 text is.writes in
    let front : length (take at tokens) ≡ at = length-take-le at tokens (omega (arith, length-drop at tokens, ap length stands, length-append text behind)) in
    let whole : tokens ≡ take at tokens ++ (text ++ behind) = sym (take-append-drop at tokens) ∙ ap (λ (ts : List SpelledToken). take at tokens ++ ts) stands in
    let end : length (take at tokens) + length text ≡ next = omega arith in
    ap (λ (ts : List SpelledToken). reading_of ts at) whole
    ∙ ap (reading_of (take at tokens ++ (text ++ behind))) (sym front)
    ∙ text_is_read tree (take at tokens) text behind is none
    ∙ ap (λ (n : ℕ). Ok (record { tree = tree; next = n })) end

module _ (read_is_text : ReadsAreTexts) where
  -- a reading takes tokens
  pub fewer_left : (tokens : List SpelledToken) (found : Reading) → reading 1 0 tokens ≡ Ok found → length found.rest ≤ length tokens
  fewer_left tokens found is =
      let placed = read_is_text tokens 0 _ (placed_reads tokens 0 (length tokens - length found.rest) found.tree found.rest (ap (reading 1 0) (nothing_left_out tokens) ∙ is) refl) in
      let some = text_some 64 found.tree 1 placed.text placed.is_text.writes in
      let next = placed.next in
      omega arith

  -- tokens that are read to their end are a text
  pub whole_is_text : (tree : Tree) (text : List SpelledToken) → reading 1 0 text ≡ Ok (read tree []) → IsTextOf tree text
  whole_is_text tree text is =
      let placed = read_is_text text 0 _ (placed_reads text 0 (length text) tree [] (ap (reading 1 0) (nothing_left_out text) ∙ is) (omega arith)) in
      let next = placed.next in
      let stands : text ≡ placed.text ++ placed.behind = sym (nothing_left_out text) ∙ placed.stands in
      let none : placed.behind ≡ [] = nil_from_length placed.behind (omega (arith, ap length stands, length-append placed.text placed.behind)) in
      subst (IsTextOf tree) (sym (stands ∙ ap (λ (ts : List SpelledToken). placed.text ++ ts) none ∙ append-nil placed.text)) placed.is_text

-- tokens that are read to their end are read among others, where no operator stands behind
pub slice_reads : TextsAreRead → ReadsAreTexts → (tokens : List Token) (at next : ℕ) (tree : Tree) → at ≤ next → next ≤ length tokens
    → reading 1 0 (map spelled (take (next - at) (drop at tokens))) ≡ Ok (read tree []) → operator_follows (spelled_from tokens next) ≡ false
    → reading_of (map spelled tokens) at ≡ Ok (record { tree = tree; next = next })
slice_reads text_is_read read_is_text tokens at next tree order within is none =
    let part = take (next - at) (drop at tokens) in
    let left = length-drop at tokens in
    let long = length-take-le (next - at) (drop at tokens) (omega arith) in
    text_at text_is_read (map spelled tokens) at next tree (map spelled part) (spelled_from tokens next) (front_at tokens at next order) (whole_is_text read_is_text tree (map spelled part) is) none
    (omega (arith, length-map part spelled))
