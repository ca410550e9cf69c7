-- Items that do nothing to the stack, and from which control goes nowhere but to items.
use Rattle.std.specs.Prelude.{◌≡◌, false}
use Rattle.insn_effects.specs.Followed.{followed_by, is_data, unsupported_by}
use Rattle.stack_facts.specs.Places.{nothing_followed}
use Rattle.scfi_pass.specs.Faults.{Situation, is_return}

-- nothing is followed of an instruction that is not the last item, and control goes from it to items of the function alone
pub record IsPlain (s : Situation) : Type 0 where
  pub quiet : followed_by s.item.effect ≡ nothing_followed
  pub stays : is_return s.item.effect.role ≡ false
  pub code : is_data s.item.effect.role ≡ false
  pub supported : unsupported_by s.item.effect.role ≡ false
  pub inside : s.node.exits ≡ false
  pub traced : s.node.untraced ≡ false
  pub outside : s.node.calls_inside ≡ false
  pub further : s.last ≡ false
