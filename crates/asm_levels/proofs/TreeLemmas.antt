-- Nodes above a block, and their halves.
use Rattle.std.proofs.Common.{◌≡◌, ◌⊎◌, ℕ, ◌+◌, ◌-◌, ◌/◌, ◌%◌, ◌<◌, ◌≤◌, zero, suc, List, inl, inr, refl, ap, ◌∙◌, arith}
use Rattle.std.proofs.lemmas.Bool.{cases_eq}
use Rattle.asm_levels.specs.Watching.{halved, IsAbove, IsEntry, HasOwnEntry}

halved_half : (times number : ℕ) → halved times (number / 2) ≡ halved times number / 2
halved_half zero number = refl
halved_half (suc times) number = halved_half times (number / 2)

pub above_self : (leaf : ℕ) → IsAbove leaf leaf
above_self leaf = (0, refl)

-- the half of a number is above it
pub above_half : (node leaf : ℕ) → IsAbove node leaf → IsAbove (node / 2) leaf
above_half node leaf above = (suc above.0, halved_half above.0 leaf ∙ ap (λ n. n / 2) above.1)

-- the block has an entry of the row at its node or above it, or one of these nodes is above it
abbrev pub IsReached : List ℕ → List ℕ → ℕ → ℕ → ℕ → ℕ → Type 0
IsReached rows nodes row leaf first end = HasOwnEntry rows nodes row leaf ⊎ ((node : ℕ) × IsAbove node leaf × (first ≤ node) × (node < end))

pub reached_first : (rows nodes : List ℕ) (row leaf first end : ℕ) → first ≤ leaf → leaf < end → IsReached rows nodes row leaf first end
reached_first rows nodes row leaf first end low less = inr (leaf, above_self leaf, low, less)

pub reached_half : (rows nodes later later_nodes : List ℕ) (row leaf first end : ℕ) → 0 < first → ((index node : ℕ) → IsEntry rows nodes index node → IsEntry later later_nodes index node)
    → ((node : ℕ) → first ≤ node → node < end → IsEntry later later_nodes row node ⊎ (((first + 1) / 2 ≤ node / 2) × (node / 2 < end / 2)))
    → IsReached rows nodes row leaf first end → IsReached later later_nodes row leaf ((first + 1) / 2) (end / 2)
reached_half rows nodes later later_nodes row leaf first end some kept ends reached = elim reached [
  | inl entry ↦ inl (entry.0, entry.1, entry.2, kept row entry.0 entry.3)
  | inr node ↦ elim (ends node.0 node.2 node.3) [
    | inl entry ↦ inl (node.0, (let low = node.2 in omega arith), node.1, entry)
    | inr inner ↦ inr (node.0 / 2, above_half node.0 leaf node.1, inner.0, inner.1)
  ]
]

pub reached_all : (rows nodes : List ℕ) (row leaf first end : ℕ) → end ≤ first → IsReached rows nodes row leaf first end → HasOwnEntry rows nodes row leaf
reached_all rows nodes row leaf first end past reached = elim reached [
  | inl entry ↦ entry
  | inr node ↦ absurd (let low = node.2 in let less = node.3 in omega arith)
]

-- a node between two numbers has an entry that one of the odd ends asks for, or its half is between their halves
pub ends_or_half : (first end node : ℕ) → first ≤ node → node < end
    → ((first % 2 ≡ 1) × (node ≡ first)) ⊎ (((end % 2 ≡ 1) × (node ≡ end - 1)) ⊎ (((first + 1) / 2 ≤ node / 2) × (node / 2 < end / 2)))
ends_or_half first end node low less = elim (cases_eq node first) [
  | inl same ↦ elim (cases_eq (first % 2) 1) [
    | inl odd ↦ inl (odd, same)
    | inr even ↦ at_end (omega arith)
  ]
  | inr other ↦ at_end (omega arith)
]
  where
    at_end : (first + 1) / 2 ≤ node / 2 → ((first % 2 ≡ 1) × (node ≡ first)) ⊎ (((end % 2 ≡ 1) × (node ≡ end - 1)) ⊎ (((first + 1) / 2 ≤ node / 2) × (node / 2 < end / 2)))
    at_end half = elim (cases_eq node (end - 1)) [
      | inl same ↦ elim (cases_eq (end % 2) 1) [
        | inl odd ↦ inr (inl (odd, same))
        | inr even ↦ inr (inr (half, omega arith))
      ]
      | inr other ↦ inr (inr (half, omega arith))
    ]
