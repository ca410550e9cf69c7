-- Each condition stands at its number.
use Rattle.std.proofs.Common.{◌≡◌, refl}
use Rattle.std.specs.Prelude.{Some}
use Rattle.item_bytes.specs.declared.jumps.Condition.{Condition}
use Rattle.item_bytes.specs.declared.jumps.Condition.TheVariants.{Overflow, NoOverflow, Below, AboveOrEqual, Equal, NotEqual, BelowOrEqual, Above, Sign, NoSign, Parity, NoParity, Less, GreaterOrEqual, LessOrEqual, Greater}
use Rattle.item_bytes.specs.Jumps.{the_conditions, number_of, condition_of}

pub numbered : (condition : Condition) → condition_of (number_of condition) ≡ Some condition
unfolding the_conditions
numbered Overflow = refl
numbered NoOverflow = refl
numbered Below = refl
numbered AboveOrEqual = refl
numbered Equal = refl
numbered NotEqual = refl
numbered BelowOrEqual = refl
numbered Above = refl
numbered Sign = refl
numbered NoSign = refl
numbered Parity = refl
numbered NoParity = refl
numbered Less = refl
numbered GreaterOrEqual = refl
numbered LessOrEqual = refl
numbered Greater = refl
