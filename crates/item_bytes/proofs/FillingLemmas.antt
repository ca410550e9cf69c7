-- How many bytes fill a padding.
use Rattle.std.proofs.Common.{◌≡◌, ℕ, ◌*◌, ◌/◌, ◌%◌, ◌≤◌, ◌∙◌, List, length, replicate, rules, arith, length-append}
use Rattle.std.specs.List.{concat}
use Rattle.std.proofs.lemmas.List.Concat.{concat_is, length-flat_map}
use Rattle.std.proofs.lemmas.List.Folds.{sum_by-replicate}
use Rattle.item_bytes.specs.NoOperations.{no_operation, no_operations}

-- a no-operation of so many bytes
pub one : (size : ℕ) → size ≤ 9 → length (no_operation size) ≡ size
unfolding no_operation
one = search rules

-- so many times the same bytes
repeated : (count : ℕ) (bytes : List ℕ) → length (concat (replicate count bytes)) ≡ count * length bytes
repeated count bytes = rw concat_is (length-flat_map (λ x. x) (replicate count bytes) ∙ sum_by-replicate length count bytes)

pub all_filled : (size : ℕ) → length (no_operations size) ≡ size
unfolding no_operation no_operations
all_filled size =
    let longest = repeated (size / 9) (no_operation 9) in
    let last = one (size % 9) (omega arith) in
    length-append (concat (replicate (size / 9) (no_operation 9))) (no_operation (size % 9)) ∙ omega arith
