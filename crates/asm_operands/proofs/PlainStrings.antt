-- Strings: without a backslash their bytes stand for themselves.
use Rattle.std.proofs.Common.{◌≡◌, ℕ, Bool, true, false, cond, List, [], ◌∷◌, sym, ap, ◌∙◌, refl}
use Rattle.std.specs.Prelude.{◌==◌, ◌||◌}
use Rattle.std.specs.List.{list_any}
use Rattle.std.proofs.lemmas.Bool.{false≢true}
use Rattle.asm_base.specs.Strings.{escaped_byte, escape_length, string_value_from}

left_false : (a b : Bool) → (a || b) ≡ false → a ≡ false
left_false true b is = absurd (false≢true (sym is))
left_false false b is = refl

right_false : (a b : Bool) → (a || b) ≡ false → b ≡ false
right_false true b is = absurd (false≢true (sym is))
right_false false b is = is

pub plain_value : (inner : List ℕ) → list_any (λ byte. byte == 92) inner ≡ false → string_value_from 0 inner ≡ inner
unfolding string_value_from
plain_value [] none = refl
plain_value (byte ∷ rest) none =
    ap (λ test. cond test (escaped_byte rest ∷ string_value_from (escape_length rest) rest) (byte ∷ string_value_from 0 rest)) (left_false (byte == 92) _ none)
    ∙ ap (λ more. byte ∷ more) (plain_value rest (right_false (byte == 92) _ none))
