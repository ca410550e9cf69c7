-- The text of an expression is read as the expression, whole.
use Rattle.std.proofs.Common.{◌≡◌, ℕ, suc, ◌+◌, ◌≤◌, Bool, true, false, cond, nat_le, List, [], ◌∷◌, ◌++◌, Ok, codes, length, refl, sym, ap, subst, ◌∙◌, arith, append_assoc}
use Rattle.std.proofs.lemmas.Bool.Decides.{nat_tests}
use Rattle.std.proofs.lemmas.List.{append-nil, length-append}
use Rattle.asm_base.specs.declared.tokens.TokenKind.TheVariants.{Operator}
use Rattle.asm_base.specs.Tokens.{SpelledToken, tokens_from, tokens_of}
use Rattle.asm_expr.specs.declared.trees.UnaryOp.{UnaryOp}
use Rattle.asm_expr.specs.declared.trees.UnaryOp.TheVariants.{Minus, Complement}
use Rattle.asm_expr.specs.declared.trees.BinaryOp.{BinaryOp}
use Rattle.asm_expr.specs.declared.trees.BinaryOp.TheVariants.{Mul, Div, Rem, Shl, Shr, Or, And, Xor, OrNot, Add, Sub, Eq, Ne, Lt, Gt, Le, Ge, BothTrue, OneTrue}
use Rattle.asm_expr.specs.Trees.{Tree, number, name, here, unary, binary}
use Rattle.expr_texts.specs.Operators.{opens, closes, prefix_by, level_of}
use Rattle.expr_texts.specs.Reading.{reading_of}
use Rattle.expr_texts.specs.Grammar.{Writes, leaf, prefixed, between, enclosed, IsTextOf}
use Rattle.expr_texts.specs.Shown.{ShownPiece, piece_of, prefix_text, operator_text, enclosed_text, shown, IsShowable, IsReadBack}
use Rattle.expr_texts.proofs.LeafLemmas.{leaf_of_is_leaf}
use Rattle.expr_texts.proofs.Lexing.{made, Apart, at_end, before_blank, before_closing, opening_lexes, closing_lexes, minus_lexes, complement_lexes, operator_lexes}
use Rattle.expr_texts.proofs.Marks.{level_some, level_few}
use Rattle.expr_texts.proofs.ReadIsWritten.{writes_looser}
use Rattle.expr_texts.proofs.ShownLeaves.{Lexed, OnlyValue, leaf_lexed, leaf_tight}
use Rattle.expr_texts.proofs.GrammarLaws.{text_is_read}

-- what may stand open in a text may stand open in it with room for one more
more_room : (most level : ℕ) (tree : Tree) (text : List SpelledToken) → Writes most tree level text → Writes (suc most) tree level text
more_room _ _ _ _ (leaf most level tree token is) = leaf (suc most) level tree token is
more_room _ _ _ _ (prefixed most level op operand token text is inside) = prefixed (suc most) level op operand token text is (more_room most 7 operand text inside)
more_room _ _ _ _ (between most level op left right token before behind text tight is one other spells) =
    between (suc most) level op left right token before behind text tight is (more_room most (level_of op) left before one) (more_room most (level_of op + 1) right behind other) spells
more_room _ _ _ _ (enclosed most level tree opening closing inside text is ends within spells) =
    enclosed (suc most) level tree opening closing inside text is ends (more_room most 1 tree inside within) spells

-- the text of a tree, by itself and where operators have to bind at least so tightly
pub record Shows (most : ℕ) (tree : Tree) (level : ℕ) : Type 0 where
  pub bare : (rest : List ℕ) (offset : ℕ) → Apart rest → Lexed most tree (piece_of tree).level (piece_of tree).text rest offset
  pub fit : (rest : List ℕ) (offset : ℕ) → Apart rest → Lexed most tree level (enclosed_text level (piece_of tree)) rest offset

-- a text that is tight enough stands without parentheses
stands : (level : ℕ) (piece : ShownPiece) → level ≤ piece.level → enclosed_text level piece ≡ piece.text
stands level piece tight = by (nat_le level piece.level) refl
  where
    by : (b : Bool) → nat_le level piece.level ≡ b → cond b piece.text (40 ∷ (piece.text ++ (41 ∷ []))) ≡ piece.text
    by true is = refl
    by false is = absurd (grind (arith, nat_tests))

looser : (most low high : ℕ) (tree : Tree) (text rest : List ℕ) (offset : ℕ) → low ≤ high → Lexed most tree high text rest offset → Lexed most tree low text rest offset
looser most low high tree text rest offset loose lexed = record {
  tokens = lexed.tokens;
  lexes = lexed.lexes;
  writes = writes_looser most low high tree lexed.tokens loose lexed.writes;
}

bare_fits : (most level : ℕ) (tree : Tree) (rest : List ℕ) (offset : ℕ) → level ≤ (piece_of tree).level → Lexed most tree (piece_of tree).level (piece_of tree).text rest offset
    → Lexed most tree level (enclosed_text level (piece_of tree)) rest offset
bare_fits most level tree rest offset tight lexed =
    subst (λ (text : List ℕ). Lexed most tree level text rest offset) (sym (stands level (piece_of tree) tight))
    (looser most level (piece_of tree).level tree (piece_of tree).text rest offset tight lexed)

-- parentheses round a text
opens_is : (start : ℕ) → opens (made Operator (40 ∷ []) start) ≡ true
opens_is start = refl

closes_is : (start : ℕ) → closes (made Operator (41 ∷ []) start) ≡ true
closes_is start = refl

in_parentheses : (most level : ℕ) (tree : Tree) (text rest : List ℕ) (offset : ℕ) → Lexed most tree 1 text (41 ∷ rest) (suc offset) → Lexed (suc most) tree level (40 ∷ (text ++ (41 ∷ []))) rest offset
in_parentheses most level tree text rest offset lexed =
    let opening = made Operator (40 ∷ []) offset in
    let closing = made Operator (41 ∷ []) (suc offset + length text) in
    let size = length-append text (41 ∷ []) in
    let behind : suc (suc offset + length text) ≡ offset + suc (length (text ++ (41 ∷ []))) = omega arith in
    record {
      tokens = opening ∷ (lexed.tokens ++ (closing ∷ []));
      lexes =
          ap (λ (bs : List ℕ). tokens_from 0 offset (40 ∷ bs)) (append_assoc text (41 ∷ []) rest)
          ∙ opening_lexes (text ++ (41 ∷ rest)) offset
          ∙ ap (λ (ts : List SpelledToken). opening ∷ ts)
          (lexed.lexes
          ∙ ap (λ (ts : List SpelledToken). lexed.tokens ++ ts) (closing_lexes rest (suc offset + length text) ∙ ap (λ (n : ℕ). closing ∷ tokens_from 0 n rest) behind)
          ∙ sym (append_assoc lexed.tokens (closing ∷ []) (tokens_from 0 (offset + suc (length (text ++ (41 ∷ [])))) rest)));
      writes = enclosed most level tree opening closing lexed.tokens (opening ∷ (lexed.tokens ++ (closing ∷ []))) (opens_is offset) (closes_is (suc offset + length text)) lexed.writes refl;
    }

enclosed_fits : (b : Bool) (most level : ℕ) (tree : Tree) (rest : List ℕ) (offset : ℕ) → nat_le level (piece_of tree).level ≡ b → 1 ≤ (piece_of tree).level
    → Lexed most tree (piece_of tree).level (piece_of tree).text rest offset → Lexed most tree (piece_of tree).level (piece_of tree).text (41 ∷ rest) (suc offset)
    → Lexed (suc most) tree level (cond b (piece_of tree).text (40 ∷ ((piece_of tree).text ++ (41 ∷ [])))) rest offset
enclosed_fits true most level tree rest offset is some alone inside =
    let tight : level ≤ (piece_of tree).level = grind (arith, nat_tests) in
    let lexed = looser most level (piece_of tree).level tree (piece_of tree).text rest offset tight alone in
    record { tokens = lexed.tokens; lexes = lexed.lexes; writes = more_room most level tree lexed.tokens lexed.writes }
enclosed_fits false most level tree rest offset is some alone inside =
    in_parentheses most level tree (piece_of tree).text rest offset (looser most 1 (piece_of tree).level tree (piece_of tree).text (41 ∷ rest) (suc offset) some inside)

-- every text holds together somehow
tight_some : (tree : Tree) → 1 ≤ (piece_of tree).level
unfolding piece_of
tight_some (number n) = omega arith
tight_some (name written) = omega arith
tight_some here = omega arith
tight_some (unary op operand) = omega arith
tight_some (binary op left right) = level_some op

-- a prefix operator before a text
prefix_lexed : (most : ℕ) (op : UnaryOp) (operand : Tree) (text rest : List ℕ) (offset : ℕ) → Lexed most operand 7 text rest (suc offset)
    → Lexed (suc most) (unary op operand) 7 (prefix_text op ++ text) rest offset
unfolding prefix_by
prefix_lexed most Minus operand text rest offset lexed =
    let token = made Operator (45 ∷ []) offset in
    let behind : suc offset + length text ≡ offset + suc (length text) = omega arith in
    record {
      tokens = token ∷ lexed.tokens;
      lexes = minus_lexes (text ++ rest) offset ∙ ap (λ (ts : List SpelledToken). token ∷ ts) (lexed.lexes ∙ ap (λ (n : ℕ). lexed.tokens ++ tokens_from 0 n rest) behind);
      writes = prefixed most 7 Minus operand token lexed.tokens refl lexed.writes;
    }
prefix_lexed most Complement operand text rest offset lexed =
    let token = made Operator (126 ∷ []) offset in
    let behind : suc offset + length text ≡ offset + suc (length text) = omega arith in
    record {
      tokens = token ∷ lexed.tokens;
      lexes = complement_lexes (text ++ rest) offset ∙ ap (λ (ts : List SpelledToken). token ∷ ts) (lexed.lexes ∙ ap (λ (n : ℕ). lexed.tokens ++ tokens_from 0 n rest) behind);
      writes = prefixed most 7 Complement operand token lexed.tokens refl lexed.writes;
    }

-- an operator stands apart from what is before it
operator_apart : (op : BinaryOp) (rest : List ℕ) → Apart (operator_text op ++ rest)
unfolding operator_text
operator_apart Mul rest = before_blank (codes "* " ++ rest)
operator_apart Div rest = before_blank (codes "/ " ++ rest)
operator_apart Rem rest = before_blank (codes "% " ++ rest)
operator_apart Shl rest = before_blank (codes "<< " ++ rest)
operator_apart Shr rest = before_blank (codes ">> " ++ rest)
operator_apart Or rest = before_blank (codes "| " ++ rest)
operator_apart And rest = before_blank (codes "& " ++ rest)
operator_apart Xor rest = before_blank (codes "^ " ++ rest)
operator_apart OrNot rest = before_blank (codes "! " ++ rest)
operator_apart Add rest = before_blank (codes "+ " ++ rest)
operator_apart Sub rest = before_blank (codes "- " ++ rest)
operator_apart Eq rest = before_blank (codes "== " ++ rest)
operator_apart Ne rest = before_blank (codes "!= " ++ rest)
operator_apart Lt rest = before_blank (codes "< " ++ rest)
operator_apart Gt rest = before_blank (codes "> " ++ rest)
operator_apart Le rest = before_blank (codes "<= " ++ rest)
operator_apart Ge rest = before_blank (codes ">= " ++ rest)
operator_apart BothTrue rest = before_blank (codes "&& " ++ rest)
operator_apart OneTrue rest = before_blank (codes "|| " ++ rest)

between_lexed : (most : ℕ) (op : BinaryOp) (left right : Tree) (one other rest : List ℕ) (offset : ℕ) → Lexed most left (level_of op) one (operator_text op ++ (other ++ rest)) offset
    → Lexed most right (level_of op + 1) other rest (offset + length one + length (operator_text op))
    → Lexed most (binary op left right) (level_of op) (one ++ (operator_text op ++ other)) rest offset
between_lexed most op left right one other rest offset before behind =
    let operator = operator_lexes op (other ++ rest) (offset + length one) in
    let inner = length-append (operator_text op) other in
    let outer = length-append one (operator_text op ++ other) in
    let end : offset + length one + length (operator_text op) + length other ≡ offset + length (one ++ (operator_text op ++ other)) = omega arith in
    record {
      tokens = before.tokens ++ (operator.token ∷ behind.tokens);
      lexes =
          ap (λ (bs : List ℕ). tokens_from 0 offset bs)
          (append_assoc one (operator_text op ++ other) rest ∙ ap (λ (bs : List ℕ). one ++ bs) (append_assoc (operator_text op) other rest))
          ∙ before.lexes
          ∙ ap (λ (ts : List SpelledToken). before.tokens ++ ts)
          (operator.lexes ∙ ap (λ (ts : List SpelledToken). operator.token ∷ ts) (behind.lexes ∙ ap (λ (n : ℕ). behind.tokens ++ tokens_from 0 n rest) end))
          ∙ sym (append_assoc before.tokens (operator.token ∷ behind.tokens) (tokens_from 0 (offset + length (one ++ (operator_text op ++ other))) rest));
      writes =
          between most (level_of op) op left right operator.token before.tokens behind.tokens (before.tokens ++ (operator.token ∷ behind.tokens)) (omega arith) operator.is before.writes behind.writes refl;
    }

unary_bare : (most : ℕ) (op : UnaryOp) (operand : Tree) (rest : List ℕ) (offset : ℕ) → Lexed most operand 7 (enclosed_text 7 (piece_of operand)) rest (suc offset)
    → Lexed (suc most) (unary op operand) (piece_of (unary op operand)).level (piece_of (unary op operand)).text rest offset
unfolding piece_of
unary_bare most op operand rest offset lexed = prefix_lexed most op operand (enclosed_text 7 (piece_of operand)) rest offset lexed

binary_bare : (most : ℕ) (op : BinaryOp) (left right : Tree) (rest : List ℕ) (offset : ℕ)
    → Lexed most left (level_of op) (enclosed_text (level_of op) (piece_of left)) (operator_text op ++ (enclosed_text (level_of op + 1) (piece_of right) ++ rest)) offset
    → Lexed most right (level_of op + 1) (enclosed_text (level_of op + 1) (piece_of right)) rest (offset + length (enclosed_text (level_of op) (piece_of left)) + length (operator_text op))
    → Lexed most (binary op left right) (piece_of (binary op left right)).level (piece_of (binary op left right)).text rest offset
unfolding piece_of
binary_bare most op left right rest offset before behind =
    between_lexed most op left right (enclosed_text (level_of op) (piece_of left)) (enclosed_text (level_of op + 1) (piece_of right)) rest offset before behind

unary_tight : (op : UnaryOp) (operand : Tree) → (piece_of (unary op operand)).level ≡ 7
unfolding piece_of
unary_tight op operand = refl

binary_tight : (op : BinaryOp) (left right : Tree) → (piece_of (binary op left right)).level ≡ level_of op
unfolding piece_of
binary_tight op left right = refl

shows : OnlyValue → (most : ℕ) (tree : Tree) (level : ℕ) (text : List SpelledToken) → Writes most tree level text → level ≤ 7 → IsShowable tree → Shows most tree level
shows only _ _ _ _ (leaf most level tree token is) low fits =
    let alone = leaf_of_is_leaf token tree is in
    let tight = leaf_tight tree alone in
    record {
      bare = λ rest offset apart. leaf_lexed only most (piece_of tree).level tree rest offset alone fits apart;
      fit = λ rest offset apart. bare_fits most level tree rest offset (omega arith) (leaf_lexed only most (piece_of tree).level tree rest offset alone fits apart);
    }
shows only _ _ _ _ (prefixed most level op operand token text is inside) low fits =
    let below = shows only most operand 7 text inside (omega arith) fits in
    let tight = unary_tight op operand in
    record {
      bare = λ rest offset apart. unary_bare most op operand rest offset (below.fit rest (suc offset) apart);
      fit = λ rest offset apart. bare_fits (suc most) level (unary op operand) rest offset (omega arith) (unary_bare most op operand rest offset (below.fit rest (suc offset) apart));
    }
shows only _ _ _ _ (between most level op left right token before behind text loose is one other spells) low fits =
    let few = level_few op in
    let first = shows only most left (level_of op) before one (omega arith) fits.0 in
    let second = shows only most right (level_of op + 1) behind other (omega arith) fits.1 in
    let tight = binary_tight op left right in
    let whole = λ (rest : List ℕ) (offset : ℕ) (apart : Apart rest).
    binary_bare most op left right rest offset
    (first.fit (operator_text op ++ (enclosed_text (level_of op + 1) (piece_of right) ++ rest)) offset (operator_apart op (enclosed_text (level_of op + 1) (piece_of right) ++ rest)))
    (second.fit rest (offset + length (enclosed_text (level_of op) (piece_of left)) + length (operator_text op)) apart) in
    record {
      bare = whole;
      fit = λ rest offset apart. bare_fits most level (binary op left right) rest offset (omega arith) (whole rest offset apart);
    }
shows only _ _ _ _ (enclosed most level tree opening closing inside text is ends within spells) low fits =
    let alone = shows only most tree 1 inside within (omega arith) fits in
    record {
      bare = λ rest offset apart.
          let lexed = alone.bare rest offset apart in
          record { tokens = lexed.tokens; lexes = lexed.lexes; writes = more_room most (piece_of tree).level tree lexed.tokens lexed.writes };
      fit = λ rest offset apart.
          enclosed_fits (nat_le level (piece_of tree).level) most level tree rest offset refl (tight_some tree) (alone.bare rest offset apart) (alone.bare (41 ∷ rest) (suc offset) (before_closing rest));
    }

-- the whole text
no_tokens : (offset : ℕ) → tokens_from 0 offset [] ≡ []
unfolding tokens_from
no_tokens offset = refl

pub shown_is_text : OnlyValue → (tree : Tree) (text : List SpelledToken) → IsTextOf tree text → IsShowable tree → IsTextOf tree (tokens_of (shown tree))
shown_is_text only tree text is fits =
    let alone = (shows only 64 tree 1 text is.writes (omega arith) fits).bare [] 0 at_end in
    let loose = writes_looser 64 1 (piece_of tree).level tree alone.tokens (tight_some tree) alone.writes in
    let whole : tokens_of (shown tree) ≡ alone.tokens =
    ap (λ (bs : List ℕ). tokens_from 0 0 bs) (sym (append-nil (shown tree)))
    ∙ alone.lexes
    ∙ ap (λ (ts : List SpelledToken). alone.tokens ++ ts) (no_tokens (0 + length (shown tree)))
    ∙ append-nil alone.tokens in
    record { writes = subst (Writes 64 tree 1) (sym whole) loose; low = is.low }

pub shown_is_read : OnlyValue → (tree : Tree) (text : List SpelledToken) → IsTextOf tree text → IsShowable tree → IsReadBack tree
shown_is_read only tree text is fits =
    let tokens = tokens_of (shown tree) in
    let none : 0 + length tokens ≡ length tokens = omega arith in
    ap (λ (ts : List SpelledToken). reading_of ts 0) (sym (append-nil tokens))
    ∙ text_is_read tree [] tokens [] (shown_is_text only tree text is fits) refl
    ∙ ap (λ (n : ℕ). Ok (record { tree = tree; next = n })) none
