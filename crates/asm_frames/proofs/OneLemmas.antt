-- A directive of one register alone.
use Rattle.std.proofs.Common.{◌≡◌, List, [], ◌∷◌, Result, Ok, Err, refl, sym, ap, ◌∙◌}
use Rattle.asm_base.specs.Refusals.{◌>>=◌}
use Rattle.asm_base.specs.Tokens.{SpelledToken}
use Rattle.asm_operands.specs.declared.place_faults.PlaceCause.{PlaceCause}
use Rattle.asm_operands.specs.Operands.{operands_of, each}
use Rattle.asm_operands.specs.Results.{all_steps}
use Rattle.asm_values.specs.State.{Placed, known_here}
use Rattle.cfi_directives.specs.declared.registers.DwarfRegister.{DwarfRegister}
use Rattle.asm_frames.specs.declared.words.RuleWord.{RuleWord}
use Rattle.asm_frames.specs.Operands.{register_in}
use Rattle.asm_frames.specs.Placing.{take_rule, place_one, place_each, place_some, place_rules}

-- a step with nothing behind it
alone : {A E : Type 0} (r : Result A E) → (r >>= λ made. Ok made) ≡ r
alone (Ok made) = refl
alone (Err fault) = refl

one_each : (word : RuleWord) (operand : List SpelledToken) (placed : Placed) → place_one word operand placed ≡ place_each word (operand ∷ []) placed
unfolding place_one place_each each all_steps
one_each word operand placed = by (register_in (known_here placed) operand)
  where
    by : (r : Result DwarfRegister PlaceCause)
        → (r >>= λ register. take_rule word register placed)
        ≡ ((r >>= λ first. Ok (first ∷ [])) >>= λ registers. all_steps (take_rule word) registers placed)
    by (Ok register) = sym (alone (take_rule word register placed))
    by (Err fault) = refl

-- what one operand says is what all operands say, where no operand is behind it
pub one_placed : (word : RuleWord) (tokens operand : List SpelledToken) (placed : Placed) (all behind : List (List SpelledToken)) → all ≡ operands_of tokens → all ≡ operand ∷ behind
    → behind ≡ [] → place_one word operand placed ≡ place_rules word tokens placed
unfolding place_rules
one_placed word tokens operand placed all behind own is none =
    one_each word operand placed
    ∙ ap (λ operands. place_some word operands placed) (sym (ap (λ rest. operand ∷ rest) none) ∙ (sym is ∙ own))
