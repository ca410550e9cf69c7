-- What is read in padding does nothing that is followed.
use Rattle.std.proofs.Common.{◌≡◌, ℕ, zero, suc, ◌+◌, ◌<◌, true, List, [], ◌∷◌, replicate, sum, refl, arith}
use Rattle.std.specs.List.{fold}
use Rattle.x86_steps.specs.Readings.{Reading}
use Rattle.x86_steps.specs.Acts.{is_tracked}
use Rattle.step_readings.specs.NoOperations.{DoesNothing, ReadsNothing, PaddingIsLong, PaddingDoesNothing, FilledDoesNothing}
use Rattle.scfi_laws.specs.Performing.{processor_number}
use Rattle.scfi_laws.specs.Laid.{IsIdle, ReadsPadding}
use Rattle.item_readings.specs.Padding.{NoOperationsDoNothing}

-- the seven registers are tracked
tracked : (q : ℕ) → q < 7 → is_tracked (processor_number q) ≡ true
tracked zero h = refl
tracked (suc zero) h = refl
tracked (suc (suc zero)) h = refl
tracked (suc (suc (suc zero))) h = refl
tracked (suc (suc (suc (suc zero)))) h = refl
tracked (suc (suc (suc (suc (suc zero))))) h = refl
tracked (suc (suc (suc (suc (suc (suc zero)))))) h = refl
tracked (suc (suc (suc (suc (suc (suc (suc q))))))) h = absurd (omega arith)

idle : (place bytes : ℕ) (r : Reading) → DoesNothing bytes r → IsIdle place bytes r
idle place bytes r does = record {
  long = does.long;
  goes = λ s t here range d. does.goes (place + r.bytes) s t d;
  same = λ s t here range d. record {
    registers = λ q low. does.registers (place + r.bytes) s t d (processor_number q) (tracked q low);
    memory = does.memory (place + r.bytes) s t d;
  };
}

all_idle : (code lengths : List ℕ) (place : ℕ) → ReadsNothing code lengths place → ReadsPadding code lengths place
all_idle code [] place h = tt
all_idle code (n ∷ rest) place h = ((h.0, λ r is. idle place n r (h.1 r is)), all_idle code rest (place + n) h.2)

-- a sum that begins with a number
sum_after : (n : ℕ) (xs : List ℕ) → fold ◌+◌ n xs ≡ n + sum xs
sum_after n [] = omega arith
sum_after n (x ∷ xs) =
    let far = sum_after (n + x) xs in
    let near = sum_after (0 + x) xs in
    omega arith

ones : (size : ℕ) → sum (replicate size 1) ≡ size
ones zero = refl
ones (suc size) =
    let more = ones size in
    let first : sum (replicate (suc size) 1) ≡ 1 + sum (replicate size 1) = sum_after 1 (replicate size 1) in
    omega arith

pub nothing : PaddingDoesNothing → FilledDoesNothing → PaddingIsLong → NoOperationsDoNothing
nothing padding filled long = record {
  padding = λ size place code rest stands. all_idle code _ place (padding size place code rest stands);
  filled = λ size place code rest stands. all_idle code _ place (filled size place code rest stands);
  long = long;
  filled_long = ones;
}
