-- The reading of an expression and the grammar say the same.
use Rattle.std.proofs.Common.{◌≡◌, ℕ, ◌+◌, ◌-◌, false, List, [], ◌∷◌, ◌++◌, Result, Ok, length, drop, refl, sym, ap, subst, ◌∙◌, arith, length-append, length-drop}
use Rattle.asm_base.specs.Tokens.{SpelledToken}
use Rattle.asm_expr.specs.declared.faults.ExprCause.{ExprCause}
use Rattle.asm_expr.specs.Trees.{Tree}
use Rattle.asm_base.specs.Refusals.{◌>>=◌}
use Rattle.expr_texts.specs.Reading.{Reading, Read, read, reading, reading_of, ReadTree}
use Rattle.expr_texts.specs.Grammar.{IsTextOf, IsFoundIn, IsReadAs, operator_follows}
use Rattle.expr_texts.proofs.Steps.{steps}
use Rattle.expr_texts.proofs.ParsingLemmas.{stops}
use Rattle.expr_texts.proofs.Marks.{in_one, one_in, in_higher}
use Rattle.expr_texts.proofs.Fuel.{reading_takes}
use Rattle.expr_texts.proofs.WrittenIsRead.{written_reads}
use Rattle.expr_texts.proofs.ReadIsWritten.{at_spells}

-- the tokens behind a text among others
behind_text : (before text : List SpelledToken) → drop (length before) (before ++ text) ≡ text
behind_text [] text = refl
behind_text (token ∷ before) text = behind_text before text

pub text_is_read : (tree : Tree) (before text behind : List SpelledToken) → IsTextOf tree text → operator_follows behind ≡ false → IsReadAs tree before text behind
unfolding reading_of
text_is_read tree before text behind is none =
    let quiet = in_one behind none in
    let begins : reading 1 0 (text ++ behind) ≡ Ok (read tree behind) =
    written_reads 64 tree 1 text is.writes 1 0 behind (omega arith) (omega arith) is.low (in_higher 1 2 behind (omega arith) quiet) ∙ stops 1 0 tree behind (sym quiet) in
    let all = length-append before (text ++ behind) in
    let most = length-append text behind in
    let next : length (before ++ (text ++ behind)) - length behind ≡ length before + length text = omega arith in
    ap (λ (ts : List SpelledToken). reading 1 0 ts >>= (λ found. Ok (record { tree = found.tree; next = length (before ++ (text ++ behind)) - length found.rest }))) (behind_text before (text ++ behind))
    ∙ ap (λ (r : Read). r >>= (λ found. Ok (record { tree = found.tree; next = length (before ++ (text ++ behind)) - length found.rest }))) begins
    ∙ ap (λ (n : ℕ). Ok (record { tree = tree; next = n })) next

placed_by : Reading → ℕ → ReadTree
placed_by r n = record { tree = r.tree; next = n }

same_placed : (one other : ReadTree) → (let made : Result ReadTree ExprCause = Ok one in made ≡ Ok other) → one ≡ other
same_placed one other is = cc

-- a reading that is placed begins with a text
pub read_is_text : (tokens : List SpelledToken) (at : ℕ) (found : ReadTree) → reading_of tokens at ≡ Ok found → IsFoundIn tokens at found
unfolding reading_of placed_by
read_is_text tokens at found is =
    let s = steps (reading 1 0 (drop at tokens)) (λ found. Ok (record { tree = found.tree; next = length tokens - length found.rest })) found is in
    let e = at_spells (length (drop at tokens)) 1 0 (drop at tokens) s.middle (omega arith) (omega arith) (omega arith) s.begins in
    let takes = reading_takes 1 0 (drop at tokens) s.middle s.begins in
    let same = same_placed (placed_by s.middle (length tokens - length s.middle.rest)) found s.ends in
    let left = length-drop at tokens in
    let parts = length-append e.spells.text s.middle.rest in
    let all : length (drop at tokens) ≡ length (e.spells.text ++ s.middle.rest) = ap length e.spells.stands in
    subst (IsFoundIn tokens at) same
    (record {
      text = e.spells.text;
      behind = s.middle.rest;
      stands = e.spells.stands;
      next = omega arith;
      is_text = record { writes = e.spells.writes; low = e.spells.low };
      ends = one_in s.middle.rest e.ends;
    })

pub text_has_one_tree : (one other : Tree) (text : List SpelledToken) → IsTextOf one text → IsTextOf other text → one ≡ other
text_has_one_tree one other text is also =
    let a = text_is_read one [] text [] is refl in
    let b = text_is_read other [] text [] also refl in
    ap (λ (p : ReadTree). p.tree) (same_placed (record { tree = one; next = 0 + length text }) (record { tree = other; next = 0 + length text }) (sym a ∙ b))
