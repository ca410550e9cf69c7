-- Numbers that one token is, or two.
use Rattle.std.proofs.Common.{◌≡◌, ℕ, ◌+◌, ◌<◌, ◌≤◌, false, List, [], ◌∷◌, length, get_or, map, Option, Some, None, refl, arith}
use Rattle.asm_base.specs.declared.tokens.Token.{Token}
use Rattle.asm_base.specs.Tokens.{SpelledToken, spelled}
use Rattle.asm_operands.specs.Commas.{is_comma}
use Rattle.asm_operands.specs.Constants.{FindsConstant, FindsLoneConstant, FindsSingle}
use Rattle.asm_operands.specs.Numbers.{FindsLeaf}
use Rattle.asm_operands.proofs.CommaLemmas.{single_found}

pub lone_is : (tokens : List SpelledToken) (answer : Option ℕ) → FindsLoneConstant tokens answer → FindsConstant tokens answer
lone_is tokens (Some n) is = is.one
lone_is tokens None is = tt

lone_single : (token : SpelledToken) (answer : Option ℕ) → FindsSingle token answer → FindsLoneConstant (token ∷ []) answer
lone_single token (Some n) is = let apart = is.apart in record { one = is.one; apart = rw apart refl }
lone_single token None is = tt

pub one_alone : (tokens : List Token) (d : Token) (answer : Option ℕ) → 1 ≤ length tokens → length tokens < 2 → FindsLeaf (spelled (get_or tokens 0 d)) answer
    → FindsLoneConstant (map spelled tokens) answer
one_alone [] d answer some few is = absurd (omega arith)
one_alone (token ∷ []) d answer some few is = lone_single (spelled token) answer (single_found (spelled token) answer is)
one_alone (token ∷ other ∷ rest) d answer some few is = absurd (omega arith)

pub two_alone : (tokens : List Token) (d e : Token) (answer : Option ℕ) → 2 ≤ length tokens → length tokens < 3
    → FindsLoneConstant (spelled (get_or tokens 0 d) ∷ spelled (get_or tokens 1 e) ∷ []) answer → FindsLoneConstant (map spelled tokens) answer
two_alone [] d e answer some few is = absurd (omega arith)
two_alone (sign ∷ []) d e answer some few is = absurd (omega arith)
two_alone (sign ∷ token ∷ []) d e answer some few is = is
two_alone (sign ∷ token ∷ third ∷ rest) d e answer some few is = absurd (omega arith)
