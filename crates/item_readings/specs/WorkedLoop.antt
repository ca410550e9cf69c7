-- A function that never ends, `1: nop; jmp 1b`, in the bytes 90 EB FD, and in 90 EB FE, whose jump
-- leads to itself.
use Rattle.std.specs.Prelude.{◌≡◌, ◌==◌, ℕ, Bool, if◌then◌else◌, [], ◌∷◌}
use Rattle.stack_depths.specs.Distances.{Distances}
use Rattle.stack_facts.specs.Facts.{Fact}
use Rattle.scfi_pass.specs.Tables.{Analyzed}
use Rattle.scfi_laws.specs.Laid.{Kind, plain, IsLaid}
use Rattle.scfi_laws.specs.LaidLaws.{loop_items, loop_nodes}

-- with whatever is known of its items
abbrev pub loop_function : (ℕ → Distances) → (ℕ → Bool) → (ℕ → Fact → Bool) → Analyzed
loop_function distances reached facts = record {
  items = loop_items;
  nodes = loop_nodes;
  distances = distances;
  reached = reached;
  facts = facts;
}

-- the no-operation has one byte, and the jump two
abbrev pub loop_kind : ℕ → Kind
loop_kind i = if i == 0 then plain 1 else plain 2

-- where each begins, and the end after both
abbrev pub loop_start : ℕ → ℕ
loop_start i = if i == 0 then 0 else (if i == 1 then 1 else 3)

-- its items lie in the bytes whose jump leads to the first one
abbrev pub LoopIsLaid : Type 0
LoopIsLaid = (distances : ℕ → Distances) (reached : ℕ → Bool) (facts : ℕ → Fact → Bool)
    → IsLaid (loop_function distances reached facts) loop_kind loop_start
    (0x90 ∷ 0xeb ∷ 0xfd ∷ [])

-- and not in the others, whatever they are taken for
abbrev pub WrongLoopIsRefused : Type 0
WrongLoopIsRefused = (a : Analyzed) (kinds : ℕ → Kind) (starts : ℕ → ℕ) → a.items ≡ loop_items
    → a.nodes ≡ loop_nodes → starts 0 ≡ 0
    → IsLaid a kinds starts (0x90 ∷ 0xeb ∷ 0xfe ∷ []) → ⊥
