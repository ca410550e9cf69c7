-- Worked actions and written lists, by the rows of the table.
use Rattle.std.proofs.Common.{◌≡◌, ◌+◌, ◌==◌, ◌||◌, ℕ, Bool, true, false, refl, ap, ◌∙◌, arith}
use Rattle.std.proofs.lemmas.Bool.Decides.{nat_tests}
use Rattle.x86_table.specs.Rows.{the_rows}
use Rattle.insn_effects.specs.Decoding.{action_of}
use Rattle.insn_effects.specs.Listed.{admits_head, writes_by_head}
use Rattle.x86_steps.specs.WorkedActions.{WorkedActions, WorkedLists}

pub actions : WorkedActions
unfolding the_rows admits_head writes_by_head action_of
actions = record {
  pushes = refl;
  pushes_flags = refl;
  pops = refl;
  pops_flags = refl;
  leaves = refl;
  moves = refl;
  stores = refl;
  narrow = refl;
  address = refl;
  raises = refl;
  lowers = refl;
  lowers_so_far = refl;
  jumps = refl;
  branches = refl;
  calls = refl;
  returns = refl;
  halts = refl;
  lost = refl;
  pushes_word = refl;
  pops_word = refl;
}

-- a test or false is the test
alone : (b : Bool) → (b || false) ≡ b
alone true = refl
alone false = refl

-- ah is a part of rax, and ch of rcx
high : (q : ℕ) → (4 == 4 + q) ≡ (q == 0)
high q = grind (arith, nat_tests)

next_high : (q : ℕ) → (5 == 4 + q) ≡ (q == 1)
next_high q = grind (arith, nat_tests)

pub lists : WorkedLists
unfolding the_rows admits_head writes_by_head
lists = record {
  loops = λ q. alone (q == 1);
  cpuid_rbx = refl;
  cpuid_rbp = refl;
  exchanges_rbx = refl;
  exchanges_r12 = refl;
  word_pushed = λ q. alone (q == 4);
  word_stored = refl;
  word_popped = λ q. ap (λ b. (5 == q) || b) (alone (q == 4));
  vector_moved = λ q. refl;
  vector_cleared = λ q. refl;
  high_moved = λ q. alone (4 == 4 + q) ∙ high q;
  high_set = λ q. alone (5 == 4 + q) ∙ next_high q;
  repeated = λ q. refl;
  repeated_stored = refl;
  system_called = λ q. alone ((q == 0) || ((q == 1) || (q == 11)));
  system_stored = refl;
  compared = λ q. alone ((q == 0) || (q == 2));
  compared_stored = refl;
}
