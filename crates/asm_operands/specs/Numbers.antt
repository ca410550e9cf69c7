-- Digits whose number fits, and tokens that are numbers alone.
use Rattle.std.specs.Prelude.{◌≡◌, ◌<◌, ℕ, List, Option, None, Some, Ok}
use Rattle.asm_base.specs.Digits.{digit_of}
use Rattle.asm_base.specs.Tokens.{SpelledToken}
use Rattle.asm_expr.specs.Trees.{number}
use Rattle.expr_texts.specs.Numbers.{numeral}
use Rattle.expr_texts.specs.Leaves.{digits_leaf, leaf_of}

-- a digit that is found is the value of the byte, and the radix has it; where none is found nothing is said
abbrev pub FindsDigit : ℕ → ℕ → Option ℕ → Type 0
FindsDigit radix byte (Some digit) = (digit ≡ digit_of byte) × (digit < radix)
FindsDigit radix byte None = Unit {0}

-- a number that is found is that of the digits in this radix; where none is found nothing is said
abbrev pub FindsNumeral : ℕ → List ℕ → Option ℕ → Type 0
FindsNumeral radix digits (Some value) = numeral radix digits ≡ Ok value
FindsNumeral radix digits None = Unit {0}

-- a number that is found is what a token of these digits spells, which is no label; where none is found nothing is said
abbrev pub FindsNumber : List ℕ → Option ℕ → Type 0
FindsNumber digits (Some value) = digits_leaf digits ≡ Ok (number value)
FindsNumber digits None = Unit {0}

-- a number that is found is what the token spells; where none is found nothing is said
abbrev pub FindsLeaf : SpelledToken → Option ℕ → Type 0
FindsLeaf token (Some value) = leaf_of token ≡ Ok (number value)
FindsLeaf token None = Unit {0}
