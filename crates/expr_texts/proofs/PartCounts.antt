-- A text has a token for each part of its tree.
use Rattle.std.proofs.Common.{◌≡◌, ℕ, ◌+◌, ◌<◌, ◌≤◌, List, [], ◌∷◌, length, refl, arith, length-append}
use Rattle.asm_base.specs.Tokens.{SpelledToken}
use Rattle.asm_expr.specs.Trees.{Tree, number, name, here, unary, binary, height}
use Rattle.expr_texts.specs.Parts.{parts}
use Rattle.expr_texts.specs.Grammar.{Writes, leaf, prefixed, between, enclosed, IsTextOf, IsFoundIn}
use Rattle.expr_texts.specs.Reading.{ReadTree}
use Rattle.expr_texts.proofs.LeafLemmas.{leaf_height}

some_height : (tree : Tree) → 0 < height tree
unfolding height
some_height (number value) = omega arith
some_height (name written) = omega arith
some_height here = omega arith
some_height (unary op operand) = omega arith
some_height (binary op left right) = omega arith

-- a tree of one node has one part
one_part : (tree : Tree) → height tree ≡ 1 → parts tree ≡ 1
unfolding height parts
one_part (number value) is = refl
one_part (name written) is = refl
one_part here is = refl
one_part (unary op operand) is = let some = some_height operand in absurd (omega arith)
one_part (binary op left right) is = let some = some_height left in absurd (grind arith)

writes_parts : (most : ℕ) (tree : Tree) (level : ℕ) (text : List SpelledToken) → Writes most tree level text → parts tree ≤ length text
unfolding parts
writes_parts _ _ _ _ (leaf most level tree token is) = let one = one_part tree (leaf_height token tree is) in omega arith
writes_parts _ _ _ _ (prefixed most level op operand token text is below) = let few = writes_parts most operand 7 text below in omega arith
writes_parts _ _ _ _ (between most level op left right token before behind text binds is one other whole) =
    let few = writes_parts most left _ before one in
    let more = writes_parts most right _ behind other in
    let all = length-append before (token ∷ behind) in
    rw whole (omega arith)
writes_parts _ _ _ _ (enclosed most level tree opening closing inside text is ends below whole) =
    let few = writes_parts most tree 1 inside below in
    let all = length-append inside (closing ∷ []) in
    rw whole (omega arith)

pub text_parts : (tree : Tree) (text : List SpelledToken) → IsTextOf tree text → parts tree ≤ length text
text_parts tree text is = writes_parts 64 tree 1 text is.writes

pub found_parts : (tokens : List SpelledToken) (at : ℕ) (found : ReadTree) → IsFoundIn tokens at found → at + parts found.tree ≤ found.next
found_parts tokens at found is =
    let few = text_parts found.tree is.text is.is_text in
    let behind = is.next in
    omega arith
