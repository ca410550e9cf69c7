-- What the code has of an item.
use Rattle.std.specs.Prelude.{◌≡◌, ℕ}
use Rattle.stack_depths.specs.States.{distances_in}
use Rattle.stack_facts.specs.States.{facts_in}
use Rattle.asm_base.specs.declared.faults.ScfiFault.{ScfiFault}
use Rattle.scfi_pass.specs.declared.looking.Looked.{Looked}
use Rattle.scfi_pass.specs.Faults.{Situation, IsTold, rank_of}

-- the situation
abbrev pub seen : Looked → Situation
seen l = record { item = l.item; node = l.node; last = l.last; known = distances_in l.depths.now l.place; stands = facts_in l.facts.now l.place }

-- no fault of this rank is told
abbrev pub IsClear : Situation → ℕ → Type 0
IsClear s rank = (fault : ScfiFault) → rank_of fault ≡ rank → IsTold s fault → ⊥

-- a fault of this rank is told
abbrev pub IsToldAt : Situation → ℕ → ScfiFault → Type 0
IsToldAt s rank fault = IsTold s fault × (rank_of fault ≡ rank)
