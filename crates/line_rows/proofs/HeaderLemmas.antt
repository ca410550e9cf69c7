-- Entries of a header, one after another.
use Rattle.std.proofs.Common.{◌≡◌, ℕ, suc, ◌+◌, ◌-◌, ◌<◌, List, Some, sym, ◌∙◌, ap, arith}
use Rattle.std.specs.Option.{option_and_then}
use Rattle.line_rows.specs.Header.{behind_path, behind_file, behind_paths, behind_files}

left : (count i : ℕ) → i < count → count - i ≡ suc (count - (i + 1))
left count i below = omega arith

pub paths_on : (count i : ℕ) (bytes rest : List ℕ) → i < count → behind_path bytes ≡ Some rest
    → behind_paths (count - (i + 1)) rest ≡ behind_paths (count - i) bytes
paths_on count i bytes rest below is =
    sym (ap (λ n. behind_paths n bytes) (left count i below) ∙ ap (option_and_then (behind_paths (count - (i + 1)))) is)

pub files_on : (count i : ℕ) (bytes rest : List ℕ) → i < count → behind_file bytes ≡ Some rest
    → behind_files (count - (i + 1)) rest ≡ behind_files (count - i) bytes
files_on count i bytes rest below is =
    sym (ap (λ n. behind_files n bytes) (left count i below) ∙ ap (option_and_then (behind_files (count - (i + 1)))) is)
