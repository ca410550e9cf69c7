-- What is known of numbers, places and registers.
use Rattle.std.proofs.Common.{◌≡◌, ℕ, ◌-◌, ◌^◌, ◌<◌, ◌≤◌, true, false, List, Some, refl, arith}
use Rattle.std.proofs.lemmas.Bool.Decides.{nat_tests}
use Rattle.x86_insn.specs.declared.registers.Class.{Class}
use Rattle.att_operands.specs.declared.registers.NamedRegister.TheVariants as named
use Rattle.att_operands.specs.Registers.{register_of}
use Rattle.att_operands.specs.Spells.{WritesValue}
use Rattle.att_texts.specs.Pieces.{tokens_in}
use Rattle.att_texts.specs.Numbers.{is_positive, number_pieces, number_tree, place_pieces, place_tree}
use Rattle.att_texts.specs.AttOperands.{register_text}
use Rattle.att_texts.specs.TextLaws.{PiecesSpell}
use Rattle.att_texts.specs.Printable.{IsWidth, eight, sixteen, thirty_two, sixty_four, IsNumbered}
use Rattle.intel_texts.specs.Instructions.{bare}

pub record SharedLaws : Type 0 where
  pub number : (bits value offset : ℕ) → IsWidth bits → value < 2 ^ 64 → WritesValue (bare (number_tree bits value)) (tokens_in offset (number_pieces bits value))
  pub place : (value offset : ℕ) → value < 2 ^ 64 → WritesValue (bare (place_tree value)) (tokens_in offset (place_pieces value))
  pub named : (of_class : Class) (number : ℕ) → IsNumbered of_class number → register_of (register_text of_class number) ≡ Some (named.Plain (record { class = of_class; number = number }))

pub shared : PiecesSpell → SharedLaws
shared laws = record { number = laws.numbers; place = laws.places; named = laws.registers }

-- the number of a negative one
pub low_rest : (bits value : ℕ) → IsWidth bits → is_positive bits value ≡ false → 2 ^ bits - value < 2 ^ 64
low_rest _ value eight is = omega arith
low_rest _ value sixteen is = omega arith
low_rest _ value thirty_two is = omega arith
low_rest _ value sixty_four is = let above : 2 ^ 63 ≤ value = grind (arith, nat_tests) in omega arith
