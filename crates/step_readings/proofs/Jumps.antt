-- Whatever is read where a direct jump stands obeys it.
use Rattle.std.proofs.Common.{◌≡◌, ℕ, suc, ◌+◌, ◌<◌, ◌==◌, ◌&&◌, Bool, true, false, cond, List, [], ◌∷◌, length, get_or, Option, Some, None, refl, sym, ap, arith, ◌∙◌}
use Rattle.item_bytes.specs.declared.jumps.Condition.{Condition}
use Rattle.item_bytes.specs.Jumps.{number_of, jump_bytes, jump_distance}
use Rattle.jump_laws.specs.JumpReadings.{jump_name, jump_over, JumpCodesRead}
use Rattle.x86_table.specs.declared.mnemonics.integers.TheConstants.{MOV, MOVABS}
use Rattle.x86_parts.specs.Codes.{meant}
use Rattle.x86_steps.specs.Fillings.{FillsView}
use Rattle.step_readings.specs.Jumps.{jump_of, JumpsObey, LoadedJumpsAreJumps}
use Rattle.step_readings.specs.Held.{AreBytes}
use Rattle.step_readings.proofs.Holding.{number_4}
use Rattle.step_readings.proofs.Given.{Given}
use Rattle.step_readings.proofs.Obeying.{read_bytes}

-- a jump is no `mov` of a register
meant_name : (name : ℕ) (is_mov : Bool) → cond (is_mov && false) MOVABS name ≡ name
meant_name name true = refl
meant_name name false = refl

jump_fills : (condition : Option Condition) (bytes distance : ℕ) → FillsView (meant (jump_of condition)) (jump_over (jump_name condition) bytes distance)
jump_fills condition bytes distance = record {
  name = sym (meant_name (jump_name condition) (jump_name condition == MOV));
  size = refl;
  words = refl;
  first = (_, refl, tt);
  second = refl;
  third = refl;
}

pub jumps : Given → JumpCodesRead → JumpsObey
jumps laws read condition near distance place code rest stands =
    let bytes = jump_bytes condition near distance in
    read_bytes laws (jump_of condition) (jump_over (jump_name condition) (length bytes) (jump_distance near bytes)) bytes code rest place
    (jump_fills condition (length bytes) (jump_distance near bytes)) (read condition near distance) stands

-- the last four bytes are those of some distance
loaded_plain : (distance : ℕ) (loaded : List ℕ) → length loaded ≡ length (jump_bytes None true distance) → AreBytes loaded
    → ((k : ℕ) → k + 4 < length loaded → get_or (jump_bytes None true distance) k 0 ≡ get_or loaded k 0) → (other : ℕ) × (jump_bytes None true other ≡ loaded)
unfolding jump_bytes
loaded_plain distance [] long bytes same = absurd (omega arith)
loaded_plain distance (a ∷ rest) long bytes same =
    let four : length rest ≡ 4 = omega arith in
    let number = number_4 rest four (λ i. bytes (suc i)) in
    let opcode : 0xe9 ≡ a = same 0 (omega arith) in
    (number.value, ap (λ x. 0xe9 ∷ x) number.low ∙ ap (λ x. x ∷ rest) opcode)

loaded_conditional : (condition : Condition) (distance : ℕ) (loaded : List ℕ) → length loaded ≡ length (jump_bytes (Some condition) true distance)
    → AreBytes loaded → ((k : ℕ) → k + 4 < length loaded → get_or (jump_bytes (Some condition) true distance) k 0 ≡ get_or loaded k 0)
    → (other : ℕ) × (jump_bytes (Some condition) true other ≡ loaded)
unfolding jump_bytes
loaded_conditional condition distance [] long bytes same = absurd (omega arith)
loaded_conditional condition distance (a ∷ []) long bytes same = absurd (omega arith)
loaded_conditional condition distance (a ∷ b ∷ rest) long bytes same =
    let four : length rest ≡ 4 = omega arith in
    let number = number_4 rest four (λ i. bytes (suc (suc i))) in
    let escape : 0x0f ≡ a = same 0 (omega arith) in
    let opcode : 0x80 + number_of condition ≡ b = same 1 (omega arith) in (
      number.value,
      ap (λ x. 0x0f ∷ (0x80 + number_of condition) ∷ x) number.low ∙ ap (λ x. 0x0f ∷ x ∷ rest) opcode ∙ ap (λ x. x ∷ b ∷ rest) escape,
    )

pub loaded_jumps : LoadedJumpsAreJumps
loaded_jumps None = loaded_plain
loaded_jumps (Some condition) = loaded_conditional condition
