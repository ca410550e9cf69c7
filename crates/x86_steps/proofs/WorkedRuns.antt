-- The first three of the four instructions lead from state to state.
use Rattle.std.proofs.Common.{◌≡◌, ◌≢◌, ◌<◌, ◌^◌, ◌==◌, ℕ, Bool, true, false, cond, [], refl, sym, arith, lit<}
use Rattle.std.proofs.lemmas.Bool.Decides.{nat_tests}
use Rattle.insn_effects.specs.Decoding.{action_of}
use Rattle.x86_steps.specs.Memory.{byte_at, word_at}
use Rattle.x86_steps.specs.States.{IsRanged}
use Rattle.x86_steps.specs.Steps.{Does}
use Rattle.x86_steps.specs.WorkedSteps.{push_frame, set_frame, pop_frame, stands_at, WorkedSteps}
use Rattle.x86_steps.proofs.WorkedReads.{push_reads, mov_reads, pop_reads, ret_reads}

ranged : (p r b : ℕ) → r < 2 ^ 64 → b < 2 ^ 64 → IsRanged (stands_at p r b)
ranged p r b h g q = by_test (q == 4) (q == 5)
  where
    by_test : (c d : Bool) → cond c r (cond d b 0) < 2 ^ 64
    by_test true d = h
    by_test false true = g
    by_test false false = lit< tt

zeros : (a : ℕ) → word_at [] a ≡ 0
unfolding word_at byte_at
zeros a = refl

pushed : (q : ℕ) → (stands_at 1 4088 0).registers q ≡ cond (q == 4) 4088 ((stands_at 0 4096 0).registers q)
pushed q = by_test (q == 4) (q == 5)
  where
    same : ℕ → ℕ → Type 0
    same a b = a ≡ b

    by_test : (c d : Bool) → same (cond c 4088 (cond d 0 0)) (cond c 4088 (cond c 4096 (cond d 0 0)))
    by_test true d = refl
    by_test false d = refl

moved : (q : ℕ) → q ≢ 5 → (stands_at 4 4088 4088).registers q ≡ (stands_at 1 4088 0).registers q
moved q h = grind (arith, nat_tests)

popped : (q : ℕ) → q ≢ 5 → (stands_at 5 4096 0).registers q ≡ cond (q == 4) 4096 ((stands_at 4 4088 4088).registers q)
popped q h = grind (arith, nat_tests)

push_does : Does (action_of push_frame) 1 (stands_at 0 4096 0) (stands_at 1 4088 0)
unfolding action_of
push_does = record { goes = refl; changes = (0, refl, record { gets = zeros 4088; others = λ b h. refl; registers = pushed }) }

mov_does : Does (action_of set_frame) 4 (stands_at 1 4088 0) (stands_at 4 4088 4088)
unfolding action_of
mov_does = record { goes = refl; changes = (4088, refl, record { gets = refl; others = moved; memory = λ b. refl }) }

pop_does : Does (action_of pop_frame) 5 (stands_at 4 4088 4088) (stands_at 5 4096 0)
unfolding action_of
pop_does = record { goes = refl; changes = record { gets = sym (zeros 4088); others = popped; memory = λ b. refl } }

-- the four instructions run
pub steps : WorkedSteps
steps = record {
  push_reads = push_reads;
  mov_reads = mov_reads;
  pop_reads = pop_reads;
  ret_reads = ret_reads;
  push_does = push_does;
  mov_does = mov_does;
  pop_does = pop_does;
  first = ranged 0 4096 0 (lit< tt) (lit< tt);
  second = ranged 1 4088 0 (lit< tt) (lit< tt);
  third = ranged 4 4088 4088 (lit< tt) (lit< tt);
  fourth = ranged 5 4096 0 (lit< tt) (lit< tt);
}
