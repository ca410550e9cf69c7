-- The table of levels is the definition of the levels, byte by byte.
use Rattle.std.proofs.Common.{◌≡◌, ℕ, zero, suc, ◌+◌, ◌<◌, get_or, refl, ap, ◌∙◌, arith}
use Rattle.expr_texts.specs.Operators.{operator_byte, level_of}
use Rattle.asm_operands.specs.Levels.{level_by, levels_from, the_levels}

pub table_is : the_levels ≡ levels_from 256 0
unfolding the_levels levels_from level_by operator_byte level_of
table_is = refl

levels_from-at : (n byte i unless : ℕ) → i < n → get_or (levels_from n byte) i unless ≡ level_by (operator_byte (byte + i))
unfolding levels_from
levels_from-at zero byte i unless within = absurd (omega arith)
levels_from-at (suc n) byte zero unless within = let e : byte ≡ byte + 0 = omega arith in ap (λ b. level_by (operator_byte b)) e
levels_from-at (suc n) byte (suc i) unless within =
    let e : suc byte + i ≡ byte + suc i = omega arith in
    levels_from-at n (suc byte) i unless (omega arith) ∙ ap (λ b. level_by (operator_byte b)) e

pub level_found : (byte unless : ℕ) → byte < 256 → get_or the_levels byte unless ≡ level_by (operator_byte byte)
level_found byte unless within =
    let e : 0 + byte ≡ byte = omega arith in
    ap (λ l. get_or l byte unless) table_is ∙ levels_from-at 256 0 byte unless within ∙ ap (λ b. level_by (operator_byte b)) e
