-- Sums of up to three summands: their forms, and those that are the same wherever a statement stands.
use Rattle.std.proofs.Common.{◌≡◌, ℕ, true, false, Ok, refl, sym, ap, subst, ◌∙◌}
use Rattle.asm_expr.specs.Forms.{Form, constant_form, signed, joined, with_terms}
use Rattle.asm_expr.specs.Knowledge.{Knowledge}
use Rattle.asm_expr.specs.Settled.{settled}
use Rattle.asm_operands.specs.declared.sums.LongSum.{LongSum}
use Rattle.asm_operands.specs.Sums.{long_tree}
use Rattle.asm_symbols.specs.declared.entries.Spot.{Spot}
use Rattle.asm_symbols.specs.Interning.{number_of}
use Rattle.asm_symbols.specs.Looking.{told}
use Rattle.asm_symbols.specs.SymbolMap.{SymbolMap}
use Rattle.asm_uses.specs.declared.long_sums.LongSymbolSum.{LongSymbolSum}
use Rattle.asm_uses.specs.declared.long_sums.LongPlain.{LongPlain}
use Rattle.asm_uses.specs.declared.long_sums.Moved.{Moved}
use Rattle.asm_uses.specs.declared.long_sums.Moved.TheVariants.{Not, By}
use Rattle.asm_uses.specs.declared.sums.Operand.{Operand}
use Rattle.asm_uses.specs.declared.sums.Operand.TheVariants.{Number, Symbol, Here}
use Rattle.asm_uses.specs.declared.sums.Added.{Added}
use Rattle.asm_uses.specs.declared.sums.Added.TheVariants.{Nothing, Plus, Minus}
use Rattle.asm_operands.specs.Expressions.{form_in}
use Rattle.asm_uses.specs.LongSums.{IsLongNamed, IsMoved, IsLongPlain, long_form, moved_form, long_plain_form}
use Rattle.asm_uses.specs.Places.{known_at, uses_place, here_name}
use Rattle.asm_uses.specs.PlainSums.{plain_form, NamesElsewhere}
use Rattle.asm_uses.specs.SumForms.{added_form}
use Rattle.asm_values.proofs.PlainLemmas.{plain_sum, plain_free}
use Rattle.asm_values.proofs.SumLemmas as sums

-- the form of a sum whose names are symbols of the map is that of its tree
pub long_named_form : (map : SymbolMap) (spot : Spot) (sum : LongSum) (named : LongSymbolSum) → IsLongNamed map sum named
    → form_in (known_at map spot) (long_tree sum) ≡ Ok (long_form (known_at map spot) named)
long_named_form map spot sum named is = sums.long_linear map (number_of map (here_name spot)) spot sum named is

-- a number that is added cancels nothing
module _ (known : Knowledge) (made : Form) (still : (number : ℕ) → (let moved = joined false made (constant_form number) in moved ≡ settled known.told moved)) where
  number_more : (operand : Operand) (number : ℕ) → IsMoved (Plus operand) (By number) → added_form known made (Plus operand) ≡ joined false made (constant_form number)
  number_more (Number value) number is = rw is (sym (still value))
  number_more (Symbol index) number is = absurd is
  number_more Here number is = absurd is

  number_less : (operand : Operand) (number : ℕ) → IsMoved (Minus operand) (By number) → added_form known made (Minus operand) ≡ joined false made (constant_form number)
  number_less (Number value) number is = rw is (sym (still (signed true value)))
  number_less (Symbol index) number is = absurd is
  number_less Here number is = absurd is

  form_moved : (added : Added) (moved : Moved) → IsMoved added moved → added_form known made added ≡ moved_form made moved
  form_moved Nothing Not is = refl
  form_moved Nothing (By number) is = absurd is
  form_moved (Plus operand) Not is = absurd is
  form_moved (Plus operand) (By number) is = number_more operand number is
  form_moved (Minus operand) Not is = absurd is
  form_moved (Minus operand) (By number) is = number_less operand number is

moved_free : (place : ℕ) (made : Form) (moved : Moved) → uses_place place made ≡ false → uses_place place (moved_form made moved) ≡ false
unfolding with_terms
moved_free place made Not is = is
moved_free place made (By number) is = is

module _ (map : SymbolMap) (known : Knowledge) (named : LongSymbolSum) (is : NamesElsewhere map known named.front) (found : LongPlain) (plain : IsLongPlain map named found) where
  -- the form is the one that was found, and does not keep the place
  pub long_plain_sum : long_form known named ≡ long_plain_form (told map) found
  unfolding long_form
  long_plain_sum =
      ap (λ made. added_form known made named.third) (plain_sum map known named.front is found.plain plain.plain)
      ∙ form_moved known (plain_form (told map) found.plain) (plain.plain.still known is.first is.second) named.third found.moved plain.moved

  pub long_plain_free : uses_place known.place (long_plain_form (told map) found) ≡ false
  long_plain_free = moved_free known.place (plain_form (told map) found.plain) found.moved (plain_free map known named.front is found.plain plain.plain)

-- the same of a form that was made so
pub made_free : (map other : SymbolMap) (known : Knowledge) (named : LongSymbolSum) (found : LongPlain) (form : Form) → other ≡ map → NamesElsewhere map known named.front
    → IsLongPlain other named found → form ≡ long_plain_form (told other) found → uses_place known.place form ≡ false
made_free map other known named found form same is plain made =
    rw (made, same) (long_plain_free map known named is found (subst (λ (map : SymbolMap). IsLongPlain map named found) same plain))
