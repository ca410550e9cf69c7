-- What the worked instructions do to registers and memory.
use Rattle.std.proofs.Common.{◌≡◌, ◌≢◌, ◌==◌, ◌-◌, ◌^◌, ℕ, cond, [], refl, inl, inr, arith}
use Rattle.std.proofs.lemmas.Bool.Decides.{nat_tests}
use Rattle.x86_table.specs.Rows.{the_rows}
use Rattle.insn_effects.specs.Decoding.{action_of}
use Rattle.insn_effects.specs.Listed.{admits_head, writes_by_head}
use Rattle.x86_steps.specs.Memory.{byte_at, word_at}
use Rattle.x86_steps.specs.WorkedOperands.{eight_cells}
use Rattle.x86_steps.specs.WorkedSteps.{stands_at}
use Rattle.x86_steps.specs.WorkedChanges.{eight_bytes, WorkedChanges}
use Rattle.x86_steps.proofs.WorkedKept.{Eight, beside, beside_one, beside_second, no_frame, top_set, frame_set, only_top, only_frame}

low : Eight 4088 4088 4089
low = record { a = refl; b = refl; c = refl; d = refl; e = refl; f = refl; g = refl; h = refl }

around : Eight (2 ^ 64 - 1) (2 ^ 64 - 1) 0
around = record { a = refl; b = refl; c = refl; d = refl; e = refl; f = refl; g = refl; h = refl }

high : Eight 4104 4104 4105
high = record { a = refl; b = refl; c = refl; d = refl; e = refl; f = refl; g = refl; h = refl }

middle : Eight 4112 4112 4113
middle = record { a = refl; b = refl; c = refl; d = refl; e = refl; f = refl; g = refl; h = refl }

-- rsp gets what stood on the stack
top_popped : (q : ℕ) → q ≢ 4 → (stands_at 1 eight_bytes 3).registers q ≡ cond (q == 4) 4096 ((stands_at 0 4088 3).registers q)
top_popped q h = grind (arith, nat_tests)

-- rsp is above rbp's place, and rbp gets what stood there
left : (q : ℕ) → q ≢ 5
    → (stands_at 1 4096 eight_bytes).registers q ≡ cond (q == 4) 4096 (cond (q == 4) 4088 ((stands_at 0 64 4088).registers q))
left q h = grind (arith, nat_tests)

pub changes : WorkedChanges
unfolding the_rows admits_head writes_by_head action_of byte_at word_at
changes = record {
  pushes = record { goes = refl; changes = (eight_bytes, refl, record { gets = refl; others = beside 4088 4088 4089 [] low; registers = top_set 0 1 4096 4088 eight_bytes }) };
  pushes_around = record {
    goes = refl;
    changes = (
      eight_bytes,
      refl,
      record { gets = refl; others = beside (2 ^ 64 - 1) (2 ^ 64 - 1) 0 [] around; registers = top_set 0 1 7 (2 ^ 64 - 1) eight_bytes },
    );
  };
  pushes_top = record { goes = refl; changes = (4096, refl, record { gets = refl; others = beside_second 4088 4089 refl; registers = top_set 0 1 4096 4088 3 }) };
  pushes_memory = record {
    goes = refl;
    changes = (
      eight_bytes,
      (4104, refl, refl),
      record { gets = refl; others = beside 4088 4088 4089 (eight_cells 4104 4105) low; registers = top_set 0 4 4096 4088 3 },
    );
  };
  pushes_flags = record {
    goes = refl;
    changes = (eight_bytes, record { gets = refl; others = beside 4088 4088 4089 [] low; registers = top_set 0 1 4096 4088 3 });
  };
  pops_flags = record { goes = refl; changes = record { registers = top_set 0 1 4088 4096 3; memory = λ b. refl } };
  pops = record { goes = refl; changes = record { gets = refl; others = frame_set 0 1 4088 4096 3 eight_bytes; memory = λ b. refl } };
  pops_top = record { goes = refl; changes = record { gets = refl; others = top_popped; memory = λ b. refl } };
  pops_memory = record {
    goes = refl;
    changes = (4104, refl, record { gets = refl; others = beside 4104 4104 4105 (eight_cells 4088 4089) high; registers = top_set 0 4 4088 4096 3 });
  };
  leaves = record { goes = refl; changes = record { gets = refl; others = left; memory = λ b. refl } };
  stores = record {
    goes = refl;
    changes = (eight_bytes, refl, (4112, refl, record { gets = refl; others = beside 4112 4112 4113 [] middle; registers = λ q. refl }));
  };
  loads = record {
    goes = refl;
    changes = (eight_bytes, (4112, refl, refl), record { gets = refl; others = only_frame 0 5 4096 3 eight_bytes; memory = λ b. refl });
  };
  loads_by_place = record {
    goes = refl;
    changes = (eight_bytes, (4112, tt, refl), record { gets = refl; others = only_frame 0 7 4096 3 eight_bytes; memory = λ b. refl });
  };
  loads_by_segment = record {
    goes = refl;
    changes = (eight_bytes, (64, tt, refl), record { gets = refl; others = only_frame 0 6 4096 3 eight_bytes; memory = λ b. refl });
  };
  address = record { goes = refl; changes = (4104, refl, record { gets = refl; others = only_frame 0 5 4096 3 4104; memory = λ b. refl }) };
  address_indexed = record { goes = refl; changes = (4116, refl, record { gets = refl; others = only_frame 0 5 4096 3 4116; memory = λ b. refl }) };
  raises = record { goes = refl; changes = (4120, refl, record { gets = refl; others = only_top 0 4 4096 4120 3; memory = λ b. refl }) };
  lowers = record { goes = refl; changes = (4072, refl, record { gets = refl; others = only_top 0 4 4096 4072 3; memory = λ b. refl }) };
  narrow = record { goes = refl; changes = (λ q h. refl, (4112, refl, beside_one 4112 4112 9 refl)) };
  moves_half = record { goes = refl; changes = (λ q h. no_frame 0 2 4096 3 4096 q h, λ b. refl) };
  calls = record { goes = refl; changes = tt };
  jumps = record { goes = inl refl; changes = (λ q h. refl, λ b. refl) };
  jumps_back = record { goes = inl refl; changes = (λ q h. refl, λ b. refl) };
  goes_on = record { goes = inr (refl, refl); changes = (λ q h. refl, λ b. refl) };
}
