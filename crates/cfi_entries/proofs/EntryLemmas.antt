-- A whole written entry reads back.
use Rattle.std.proofs.Common.{◌≡◌, ℕ, ◌+◌, ◌*◌, ◌^◌, ◌/◌, ◌%◌, ◌<◌, ◌≤◌, ◌==◌, ◌&&◌, false, true, length, List, ◌∷◌, ◌++◌, None, Some, nat_lt, if◌then◌else◌, refl, ◌∙◌, ap, arith}
use Rattle.std.specs.Prelude.{nat_le, drop}
use Rattle.std.specs.Option.{option_and_then}
use Rattle.std.proofs.lemmas.List.{drop_at, length-append}
use Rattle.leb128.specs.Numbers.{NumbersReadBack}
use Rattle.cfi_rows.specs.declared.commons.CommonForm.{CommonForm}
use Rattle.cfi_rows.specs.Instructions.{four_bytes_of}
use Rattle.cfi_rows.specs.Rows.{common_row}
use Rattle.cfi_rows.specs.Pointers.{size_if}
use Rattle.cfi_rows.specs.Commons.{common_entry}
use Rattle.cfi_entries.specs.Entries.{covered, after_back, after_length, entry_of, row_in_entry, row_by, row_of}
use Rattle.cfi_entries.specs.Lines.{Line, AreLines, bytes_of, word_then, entry_bytes, row_due}
use Rattle.cfi_entries.proofs.CommonLemmas.{code_row, common_reads}
use Rattle.cfi_entries.proofs.WrittenLemmas.{written_row}

word_read : (number : ℕ) (rest : List ℕ) → four_bytes_of (word_then number rest) ≡ Some (number, rest)
word_read number rest =
    ap (λ n. Some (n, rest))
    (let same : number % 256 + number / 256 % 256 * 256 + number / 65536 % 256 * 65536 + number / 16777216 * 16777216 ≡ number = omega arith in same)

is_length : (a b : ℕ) → a ≡ b → b < 0xfffffff0 → ((a == b) && nat_lt a 0xfffffff0) ≡ true
is_length a b same fits = grind arith

is_some : (back : ℕ) → 0 < back → (back == 0) ≡ false
is_some back some = grind arith

is_there : (size due all : ℕ) → size ≡ due → size ≤ all → ((size == due) && nat_le size all) ≡ true
is_there size due all same fits = grind arith

-- the pointer to the LSDA is passed over
data_passed : (form : CommonForm) (range : ℕ) (lsda code : List ℕ) → length lsda ≡ size_if form.lsda
    → covered form (range, length lsda ∷ (lsda ++ code)) ≡ Some (range, code)
data_passed form range lsda code same =
    ap (λ b. if b then Some (range, drop (length lsda) (lsda ++ code)) else None)
    (is_there (length lsda) (size_if form.lsda) (length (lsda ++ code)) same (omega (arith, length-append lsda code)))
    ∙ ap (λ code. Some (range, code)) (drop_at lsda code (length lsda) refl)

entry_read : (form : CommonForm) (back first range : ℕ) (lsda code : List ℕ) → length lsda ≡ size_if form.lsda → 0 < back → length (lsda ++ code) + 13 < 0xfffffff0
    → entry_of form (entry_bytes back first range lsda code) ≡ Some (range, code)
entry_read form back first range lsda code same some fits =
    ap (option_and_then (after_length form)) (word_read (length (lsda ++ code) + 13) (word_then back (word_then first (word_then range covering))))
    ∙ ap (λ b. if b then option_and_then (after_back form) (four_bytes_of (word_then back (word_then first (word_then range covering)))) else None)
    (is_length (length (lsda ++ code) + 13) (length (word_then back (word_then first (word_then range covering)))) (omega arith) (omega arith))
    ∙ ap (option_and_then (after_back form)) (word_read back (word_then first (word_then range covering)))
    ∙ ap (λ b. if b then None else option_and_then (λ (first : ℕ × List ℕ). option_and_then (covered form) (four_bytes_of first.1)) (four_bytes_of (word_then first (word_then range covering))))
    (is_some back some)
    ∙ ap (option_and_then (λ (first : ℕ × List ℕ). option_and_then (covered form) (four_bytes_of first.1))) (word_read first (word_then range covering))
    ∙ ap (option_and_then (covered form)) (word_read range covering)
    ∙ data_passed form range lsda code same
  where
    covering : List ℕ
    covering = length lsda ∷ (lsda ++ code)

pub entry_row : (numbers : NumbersReadBack) (form : CommonForm) (pointer lsda : List ℕ) (at padding back first range : ℕ) (lines : List Line)
    → length pointer ≡ size_if form.personality → length lsda ≡ size_if form.lsda → AreLines 0 lines → back < 2 ^ 32 → 0 < back → first < 2 ^ 32 → range < 2 ^ 32
    → length (lsda ++ bytes_of padding 0 lines) + 13 < 0xfffffff0
    → row_of (common_entry form pointer) (entry_bytes back first range lsda (bytes_of padding 0 lines)) at ≡ row_due at range lines
entry_row numbers form pointer lsda at padding back first range lines reads same good back_fits some first_fits range_fits fits =
    ap (option_and_then (row_by entry at)) (common_reads form pointer reads)
    ∙ (ap (option_and_then (λ initial. option_and_then (row_in_entry initial at) (entry_of form entry))) (code_row form)
    ∙ (ap (option_and_then (row_in_entry common_row at)) (entry_read form back first range lsda (bytes_of padding 0 lines) same some fits)
    ∙ ap (λ due. if nat_lt at range then due else None) (written_row numbers common_row at padding lines good)))
  where
    entry : List ℕ
    entry = entry_bytes back first range lsda (bytes_of padding 0 lines)
